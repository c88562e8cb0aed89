-- What reading the rest of the body came to is what the call answers.
use Rattle.std.proofs.Common.{refl, ap}
use Rattle.h1_transfer.specs.Words.{BodyState}
use Rattle.h1_transfer.proofs.OptionLemmas.{if_none}
use Rattle.h1_transfer.proofs.transfer.Transfer.poll_drain.Goals as goal

pub returns-clause-drains : goal.returns-clause-drains
returns-clause-drains g c =
    let read = c.drain_body-stop in
    let notes = c.rest.ensures.notes in
    let reads = rw c.allowance_of-allowed.ensures at read.ensures.reads in
    let told = c.rest.ensures.answer (g.L.Link.state c.self.inside.link) (g.L.Link.state read.new.link)
    read.new.received.items read.new.budget read.ensures.cause in
    rw (← c.self.view_is) (if_none c.self.inside.body.refused _ (record {
      payload = reads.0;
      left = read.new.budget;
      parsed = rw c.allowance_of-allowed.ensures at read.ensures.parsed;
      reads = rw (ap (λ (body : BodyState). body.reader) notes, ap (λ (body : BodyState). body.kept) notes) reads.1;
      budget = c.budget_left-self-inside.ensures;
      rest = rw (← ap (λ (body : BodyState). body.waits) notes) refl;
      few = read.ensures.few;
      answer = told.0;
      timed = rw c.allowance_of-allowed.ensures at told.1;
    }))

pub returns-clause-calls : goal.returns-clause-calls
returns-clause-calls g c = rw (← c.self.view_is) (c.rest.ensures.calls _ _ c.drain_body-stop.ensures.calls)
