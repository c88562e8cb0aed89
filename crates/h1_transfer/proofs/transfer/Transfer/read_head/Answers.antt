-- What reading a head came to is what the call answers.
use Rattle.std.proofs.Common.{refl, nat_lt}
use Rattle.h1_transfer.specs.Budget.{allowance}
use Rattle.h1_transfer.specs.Deadline.{Wait, is_over}
use Rattle.h1_transfer.proofs.HeadLemmas.{cause_judged, called_judged, timed_judged}
use Rattle.h1_transfer.proofs.transfer.Transfer.read_head.Goals as goal

pub returns-clause-reads : goal.returns-clause-reads
returns-clause-reads g c =
    let read = c.read_head-read in
    let judged = c.judge_head.ensures in
    let wait : Wait = record {
      deadline = c.args.deadline;
      moved = nat_lt read.new.budget c.allowance_of-allowed.result;
      since = c.self.inside.body.since.read;
    } in
    let given : Wait = record wait { moved = nat_lt read.new.budget (allowance c.self.inside.budget) } in
    rw (← c.self.view_is) (record {
      left = read.new.budget;
      receives = rw c.allowance_of-allowed.ensures at read.ensures.receives;
      budget = c.budget_left-self-inside.ensures;
      rest = refl;
      cause = rw judged.judged (cause_judged g.H.Head.is_at g.H.Head.refuses g.H.Head.lacks
          (g.L.Link.state c.self.inside.link) (g.L.Link.state read.new.link) read.new.received.items
          read.new.budget read.new.found (is_over wait) read.result read.ensures.cause);
      timed = rw (judged.judged, judged.noted, c.allowance_of-allowed.ensures)
          (timed_judged given read.result read.ensures.unjudged);
    })

pub returns-clause-calls : goal.returns-clause-calls
returns-clause-calls g c =
    rw (← c.self.view_is) (rw c.judge_head.ensures.judged (called_judged _ c.read_head-read.result
    c.read_head-read.ensures.calls))
