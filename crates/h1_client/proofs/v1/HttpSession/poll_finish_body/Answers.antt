-- The end stands behind what was asked so far.
use Rattle.h1_client.specs.Responses.{final_of}
use Rattle.h1_client.proofs.CallLemmas.{sound_begun, sound_finish}
use Rattle.h1_client.proofs.EndLemmas.{ends_write, sound_over}
use Rattle.h1_client.proofs.v1.HttpSession.poll_finish_body.Goals as goal

pub invariant_of-self : goal.invariant_of-self
invariant_of-self g c =
    let begun = rw (← c.self.view_is) at c.requires.begun in
    sound_over g.L.Link.state c.poll_finish_body-answer.new.self c.end_response.new.transfer
    c.self.inside.answered.search c.self.inside.asked.request (final_of c.self.inside.answered.last)
    c.self.inside.keepalive c.poll_finish_body-answer.result
    (sound_finish g.L.Link.state c.set_budget.new.self c.poll_finish_body-answer.new.self
    c.self.inside.answered.search c.self.inside.asked.request (final_of c.self.inside.answered.last)
    c.self.inside.keepalive _ _ _
    (sound_begun g.L.Link.state c.self.inside.transfer c.set_budget.new.self _ _ _ _ _ c.self.invariant
    c.set_budget.ensures)
    begun c.poll_finish_body-answer.ensures.again c.poll_finish_body-answer.ensures.writes)
    c.end_response.ensures

pub returns : goal.returns
returns g c =
    let end = c.poll_finish_body-answer in
    rw (← c.self.view_is) (ends_write g.L.Link.state g.L.Link.same_plan _ c.set_budget.new.self end.new.self
    c.end_response.new.transfer end.result _ c.is_spent-self-inside.result c.set_budget.ensures
    end.ensures.again end.ensures.writes end.ensures.calls end.ensures.plan c.end_response.ensures
    c.budget.ensures c.is_spent-self-inside.ensures)
