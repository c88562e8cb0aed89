-- What reading a part of the body came to is what the call answers.
use Rattle.std.proofs.Common.{refl, ap}
use Rattle.h1_transfer.specs.declared.since.Since.{Since}
use Rattle.h1_transfer.proofs.Words.{payload_of}
use Rattle.h1_transfer.proofs.OptionLemmas.{if_none}
use Rattle.h1_transfer.proofs.transfer.Transfer.poll_read_body_bytes.Goals as goal

pub returns-clause-reads : goal.returns-clause-reads
returns-clause-reads g c =
    let read = c.read_body-read in
    let told = c.part.ensures.answer (g.L.Link.state c.self.inside.link) (g.L.Link.state read.new.link)
    read.new.received.items read.new.budget read.ensures.cause in
    rw (← c.self.view_is) (if_none c.self.inside.body.refused _ (record {
      payload = payload_of read.result;
      left = read.new.budget;
      parsed = rw c.allowance_of-allowed.ensures at read.ensures.parsed;
      reads = rw (c.part.ensures.notes.0, c.part.ensures.notes.1, ← c.allowance_of-allowed.ensures)
          read.ensures.reads;
      budget = c.budget_left-self-inside.ensures;
      rest = refl;
      few = read.ensures.few;
      answer = told.0;
      timed = rw c.allowance_of-allowed.ensures at told.1;
      undrained = ap (λ (since : Since). since.drain) c.part.ensures.notes.2;
    }))

pub returns-clause-calls : goal.returns-clause-calls
returns-clause-calls g c = rw (← c.self.view_is) (c.part.ensures.calls _ _ c.read_body-read.ensures.calls)
