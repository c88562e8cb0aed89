use Rattle.std.proofs.Common.{None, refl, arith}
use Rattle.std.specs.Option.{option_or}
use Rattle.std.proofs.lemmas.Result.{err_from_is_err_and}
use Rattle.h1_modules.specs.Outcome.{refused_by}
use Rattle.h1_modules.specs.Filters.{keeping_last}
use Rattle.h1_modules.proofs.FilterLemmas.{has_run_next, has_run_errs, stopped_next, last_gives, last_errs}
use Rattle.h1_modules.proofs.filters.filter_response_done.Goals as goal

pub loop-filter-preserved : goal.loop-filter-preserved
loop-filter-preserved g c =
    let l = c.loop-filter in
    let done = g.M.HttpModule.response_done in
    let n = c.response_done_filter.new.self in
    let given = c.in_ok-given.given in
    rw c.or-last.ensures
    (has_run_next (keeping_last done) l.filter-index c.args.modules.now l.modules None l.last
    (option_or given l.last) c.filter-item.result n l.invariant (omega arith) (omega arith)
    (last_gives done _ n l.last given c.in_ok-given.ensures.ok))

pub returns-in_err-given-clause-err : goal.returns-in_err-given-clause-err
returns-in_err-given-clause-err g c =
    let l = c.loop-filter in
    let done = g.M.HttpModule.response_done in
    let p = err_from_is_err_and c.from_residual.result c.from_residual.ensures.1 in
    rw (p.1, p.2)
    (has_run_errs (keeping_last done) refused_by l.filter-index c.args.modules.now l.modules None
    l.last c.filter-item.result _ l.invariant (omega arith) (omega arith)
    (last_errs refused_by _ l.last _ c.in_err-given.ensures.err))

pub returns-in_err-given-clause-part : goal.returns-in_err-given-clause-part
returns-in_err-given-clause-part g c =
    let l = c.loop-filter in
    let done = g.M.HttpModule.response_done in
    let err = c.in_err-given in
    let p = err_from_is_err_and c.from_residual.result c.from_residual.ensures.1 in
    rw (p.1, p.2) (
      l.filter-index,
      l.last,
      stopped_next (keeping_last done) refused_by l.filter-index
          c.args.modules.now l.modules None l.last l.last c.filter-item.result c.response_done_filter.new.self _
          l.invariant (omega arith) (omega arith) err.ensures.same refl
          (last_errs refused_by _ l.last _ err.ensures.err),
    )
