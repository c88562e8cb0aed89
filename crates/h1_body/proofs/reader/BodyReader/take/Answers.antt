-- What couldn't be cut was next.
use Rattle.std.proofs.Common.{refl, arith}
use Rattle.std.proofs.lemmas.Result.{err_from_is_err_and}
use Rattle.h1_body.proofs.TakeLemmas.{range_some}
use Rattle.h1_body.proofs.reader.BodyReader.take.Goals as goal

pub returns-in_err-payload-clause-err : goal.returns-in_err-payload-clause-err
returns-in_err-payload-clause-err c =
    let from = c.from_residual in
    let p = err_from_is_err_and from.result from.ensures.1 in
    let fed = c.feed-fed in
    let feeds = rw c.as_slice.ensures at fed.ensures.feeds in
    let lacks = c.in_err-payload.ensures.err in
    rw (p.1, p.2) (
      lacks.0.0,
      (
        _,
        record { behind = fed.new.self; fed = fed.result; feeds = feeds; is = refl },
        range_some _ _ _ lacks.0.1 (omega (arith, feeds.within, feeds.used_up)),
      ),
      refl,
      lacks.1,
    )
