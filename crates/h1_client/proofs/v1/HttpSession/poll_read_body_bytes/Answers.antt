-- A part of the body is used.
use Rattle.std.proofs.Common.{refl}
use Rattle.h1_client.specs.Responses.{final_of}
use Rattle.h1_client.proofs.CallLemmas.{called_begun, notes_spent, plan_begun, sound_begun, sound_payload}
use Rattle.h1_client.proofs.ReadLemmas.{reads_part}
use Rattle.h1_client.proofs.v1.HttpSession.poll_read_body_bytes.Goals as goal

pub invariant_of-self : goal.invariant_of-self
invariant_of-self g c =
    let begun = rw (← c.self.view_is) at c.requires.begun in
    let said = rw (← c.self.view_is) at c.requires.read in
    sound_payload g.L.Link.state c.set_budget.new.self c.poll_read_body_bytes-told.new.self
    c.self.inside.answered.search c.self.inside.asked.request (final_of c.self.inside.answered.last)
    c.self.inside.keepalive _ _ _ _
    (sound_begun g.L.Link.state c.self.inside.transfer c.set_budget.new.self _ _ _ _ _ c.self.invariant
    c.set_budget.ensures)
    begun said c.poll_read_body_bytes-told.ensures.again c.poll_read_body_bytes-told.ensures.reads

pub returns : goal.returns
returns g c =
    let part = c.poll_read_body_bytes-told in
    record {
      reads = rw (← c.self.view_is) (reads_part g.L.Link.state c.args.now _ c.set_budget.new.self
          part.new.self part.result _ _ _ _ _ c.set_budget.ensures
          c.read_deadline-deadline.ensures part.ensures.again part.ensures.reads
          refl c.at_link_end-answer.ensures.answer
          c.payload_behind-self-inside.ensures);
      spent = notes_spent _ _ _ _ c.is_spent-self-inside.ensures c.budget.ensures;
      calls = rw (← c.self.view_is) (called_begun g.L.Link.state c.self.inside.transfer
          c.set_budget.new.self part.new.self _ _ _ _ c.set_budget.ensures part.ensures.calls
          c.at_link_end-answer.ensures.told);
      plan = rw (← c.self.view_is) (plan_begun g.L.Link.same_plan c.self.inside.transfer
          c.set_budget.new.self part.new.self _ c.set_budget.ensures part.ensures.plan);
    }
