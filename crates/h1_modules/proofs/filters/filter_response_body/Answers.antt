use Rattle.std.proofs.Common.{arith}
use Rattle.std.proofs.lemmas.Result.{err_from_is_err_and}
use Rattle.h1_modules.specs.Outcome.{refused_by}
use Rattle.h1_modules.proofs.FilterLemmas.{has_run_next, has_run_errs, stopped_next}
use Rattle.h1_modules.proofs.filters.filter_response_body.Goals as goal

pub loop-filter-preserved : goal.loop-filter-preserved
loop-filter-preserved g c =
    let l = c.loop-filter in
    let call = c.response_body_filter in
    has_run_next (g.M.HttpModule.response_body c.args.end) l.filter-index c.args.modules.now l.modules
    c.args.body.now l.body call.new.body c.filter-item.result call.new.self l.invariant
    (omega arith) (omega arith) c.in_ok-response_body_filter.ensures.ok

pub returns-in_err-response_body_filter-clause-err : goal.returns-in_err-response_body_filter-clause-err
returns-in_err-response_body_filter-clause-err g c =
    let l = c.loop-filter in
    let p = err_from_is_err_and c.from_residual.result c.from_residual.ensures.1 in
    rw (p.1, p.2)
    (has_run_errs (g.M.HttpModule.response_body c.args.end) refused_by l.filter-index c.args.modules.now l.modules
    c.args.body.now l.body c.filter-item.result _ l.invariant (omega arith) (omega arith)
    c.in_err-response_body_filter.ensures.err)

pub returns-in_err-response_body_filter-clause-part : goal.returns-in_err-response_body_filter-clause-part
returns-in_err-response_body_filter-clause-part g c =
    let l = c.loop-filter in
    let call = c.response_body_filter in
    let err = c.in_err-response_body_filter in
    let p = err_from_is_err_and c.from_residual.result c.from_residual.ensures.1 in
    rw (p.1, p.2) (
      l.filter-index,
      stopped_next (g.M.HttpModule.response_body c.args.end) refused_by l.filter-index
          c.args.modules.now l.modules c.args.body.now l.body call.new.body c.filter-item.result call.new.self _
          l.invariant (omega arith) (omega arith) err.ensures.same.0 err.ensures.same.1 err.ensures.err,
    )
