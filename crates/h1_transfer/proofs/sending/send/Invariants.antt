-- What is owed is sent from its front.
use Rattle.std.proofs.Common.{◌≡◌, true}
use Rattle.h1_transfer.proofs.Words.{Sent, sent_after, Called, no_fault}
use Rattle.h1_transfer.proofs.sending.send.Given as goal

abbrev pub invariant-sends : goal.invariant-sends
invariant-sends g l = record {
  moved : Sent (g.L.Link.state l.fn.link) (g.L.Link.state l.link) l.fn.owed l.owed l.fn.budget l.budget;
  counted : l.sent ≡ sent_after l.fn.sent l.fn.owed l.owed;
  calls : Called (g.L.Link.state l.fn.link) (g.L.Link.state l.link) true no_fault;
  plan : g.L.Link.same_plan l.fn.link l.link;
}

abbrev pub decreases-sends : goal.decreases-sends
decreases-sends g l = l.budget
