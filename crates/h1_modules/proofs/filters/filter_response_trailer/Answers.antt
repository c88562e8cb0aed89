use Rattle.std.proofs.Common.{None, ap, arith}
use Rattle.std.specs.Option.{option_or}
use Rattle.std.proofs.lemmas.Result.{err_from_is_err_and}
use Rattle.h1_modules.specs.Outcome.{trailer_error}
use Rattle.h1_modules.specs.Filters.{keeping_buffer}
use Rattle.h1_modules.proofs.FilterLemmas.{has_run_next, has_run_errs, stopped_next, buffer_gives, buffer_errs}
use Rattle.h1_modules.proofs.filters.filter_response_trailer.Goals as goal

pub loop-filter-preserved : goal.loop-filter-preserved
loop-filter-preserved g c =
    let l = c.loop-filter in
    let trailers = g.M.HttpModule.response_trailer in
    let call = c.response_trailer_filter in
    let n = call.new.self in
    let given = c.in_ok-buffer.buffer in
    rw c.or-last.ensures
    (has_run_next (keeping_buffer trailers) l.filter-index c.args.modules.now l.modules
    (c.args.trailers.now, None) (l.trailers, l.last) (call.new.trailers, option_or given l.last)
    c.filter-item.result n l.invariant (omega arith) (omega arith)
    (buffer_gives trailers _ n l.trailers call.new.trailers l.last given c.in_ok-buffer.ensures.ok))

pub returns-in_err-buffer-clause-err : goal.returns-in_err-buffer-clause-err
returns-in_err-buffer-clause-err g c =
    let l = c.loop-filter in
    let trailers = g.M.HttpModule.response_trailer in
    let p = err_from_is_err_and c.from_residual.result c.from_residual.ensures.1 in
    rw (p.1, p.2)
    (has_run_errs (keeping_buffer trailers) trailer_error l.filter-index c.args.modules.now
    l.modules (c.args.trailers.now, None) (l.trailers, l.last) c.filter-item.result _ l.invariant
    (omega arith) (omega arith) (buffer_errs trailer_error _ l.last _ c.in_err-buffer.ensures.err))

pub returns-in_err-buffer-clause-part : goal.returns-in_err-buffer-clause-part
returns-in_err-buffer-clause-part g c =
    let l = c.loop-filter in
    let trailers = g.M.HttpModule.response_trailer in
    let call = c.response_trailer_filter in
    let err = c.in_err-buffer in
    let p = err_from_is_err_and c.from_residual.result c.from_residual.ensures.1 in
    rw (p.1, p.2) (
      l.filter-index,
      l.last,
      stopped_next (keeping_buffer trailers) trailer_error
          l.filter-index c.args.modules.now l.modules (c.args.trailers.now, None) (l.trailers, l.last)
          (call.new.trailers, l.last) c.filter-item.result call.new.self _ l.invariant (omega arith) (omega arith)
          err.ensures.same.0 (ap (λ lines. (lines, l.last)) err.ensures.same.1)
          (buffer_errs trailer_error _ l.last _ err.ensures.err),
    )
