-- What couldn't be kept was next.
use Rattle.std.specs.Prelude.{refl}
use Rattle.std.proofs.lemmas.Result.{err_from_is_err_and}
use Rattle.h1_body.proofs.reader.BodyReader.take_into.Goals as goal

pub returns-in_err-payload-clause-fault : goal.returns-in_err-payload-clause-fault
returns-in_err-payload-clause-fault c =
    let from = c.from_residual in
    let p = err_from_is_err_and from.result from.ensures.1 in
    rw (p.1, p.2) (record {
      run = _;
      next = record {
        behind = c.feed-fed.new.self;
        fed = c.feed-fed.result;
        feeds = rw c.as_slice.ensures at c.feed-fed.ensures.feeds;
        is = refl;
      };
      fault = c.in_err-payload.ensures.err.0;
    })
