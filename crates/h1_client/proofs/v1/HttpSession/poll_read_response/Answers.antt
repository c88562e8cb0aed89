-- A head is used, or none is.
use borrow.Author.Rules.{rules, lives}
use Rattle.h1_transfer.proofs.OptionLemmas.{if_none}
use Rattle.h1_client.proofs.CallLemmas.{notes_spent, sound_begun}
use Rattle.h1_client.proofs.ReadLemmas.{looked_takes, read_called, reads_place, reads_response, sound_response}
use Rattle.h1_client.proofs.v1.HttpSession.poll_read_response.Goals as goal

pub judge-answer-requires-clause-place : goal.judge-answer-requires-clause-place
judge-answer-requires-clause-place g c =
    reads_place g.L.Link.state _ c.read_head-read.new.self _ c.read_head-read.new.found
    c.read_head-read.result c.read_head-read.ensures.reads

pub invariant_of-self-2 : goal.invariant_of-self-2
invariant_of-self-2 g c =
    let s = c.self.inside in
    let begun = rw (← c.self.view_is) at c.requires.begun in
    let wants = rw (← c.self.view_is) at c.requires.wants in
    sound_response g.L.Link.state c.set_budget.new.self c.read_head-read.new.self c.judge-answer.new.transfer
    (record s.answered { search = c.read_head-read.new.search }) c.judge-answer.new.self s.answered.search
    c.read_head-read.new.search s.asked.request s.keepalive _ s.settings.tolerant
    c.read_head-read.new.found c.read_head-read.result c.judge-answer.result
    (sound_begun g.L.Link.state s.transfer c.set_budget.new.self _ _ _ _ _ c.self.invariant
    c.set_budget.ensures)
    begun wants c.read_head-read.ensures.reads c.read_head-read.ensures.looked
    c.judge-answer.ensures.takes

pub returns : goal.returns
returns g c =
    let s = c.self.inside in
    record {
      again = search (rules, lives) depth 24;
      reads = rw (← c.self.view_is) (if_none s.answered.refused _
          (reads_response g.L.Link.state c.args.now _ c.set_budget.new.self c.read_head-read.new.self
          c.judge-answer.new.transfer c.judge-answer.new.self c.read_head-read.new.found
          c.read_head-read.result c.judge-answer.result _ _ c.set_budget.ensures
          c.read_deadline-deadline.ensures c.read_head-read.ensures.reads
          (looked_takes s.settings.tolerant c.read_head-read.new.self c.judge-answer.new.transfer s.answered
          c.judge-answer.new.self c.read_head-read.new.search s.asked.request c.read_head-read.new.found
          c.read_head-read.result c.judge-answer.result
          c.judge-answer.ensures.takes)));
      spent = notes_spent _ _ _ _ c.is_spent-self-inside.ensures c.budget.ensures;
      calls = rw (← c.self.view_is) (read_called g.L.Link.state c.self.inside.transfer c.set_budget.new.self
          c.read_head-read.new.self c.judge-answer.new.transfer c.read_head-read.result c.judge-answer.result _
          c.set_budget.ensures c.read_head-read.ensures.calls c.judge-answer.ensures.link
          c.judge-answer.ensures.told);
      plan = search (rules, lives) depth 24;
    }
