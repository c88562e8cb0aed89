-- A head is taken up, and what is owed goes out.
use borrow.Author.Rules.{rules, lives}
use Rattle.h1_client.specs.Responses.{final_of}
use Rattle.h1_client.proofs.AskLemmas.{asked_called, asked_sound}
use Rattle.h1_client.proofs.v1.HttpSession.poll_write_request_header.Goals as goal

pub invariant_of-self-2 : goal.invariant_of-self-2
invariant_of-self-2 g c =
    let at = rw (← c.self.view_is) at c.requires in
    let s = c.self.inside in
    asked_sound g.L.Link.state s.transfer c.set_budget.new.self c.take_up.new.transfer
    c.poll_deliver-told.new.self s.answered.search s.asked c.take_up.new.self c.judge-answer.new.self
    (final_of s.answered.last) s.keepalive _ _ _ _ _ _ _ _ _ c.self.invariant c.set_budget.ensures at
    c.take_up.ensures.takes c.poll_deliver-told.ensures.delivers c.judge-answer.ensures

pub returns : goal.returns
returns g c = record {
  again = search (rules, lives) depth 24;
  asks = search (rules, lives) depth 24;
  spent = search (rules, lives) depth 24;
  calls = rw (← c.self.view_is) (asked_called g.L.Link.state c.self.inside.transfer c.set_budget.new.self
      c.take_up.new.transfer c.poll_deliver-told.new.self c.self.inside.asked c.take_up.new.self
      c.judge-answer.new.self _ _ _ _ _ _ _ _ c.set_budget.ensures c.take_up.ensures.takes
      c.poll_deliver-told.ensures.calls c.judge-answer.ensures);
  plan = search (rules, lives) depth 24;
}
