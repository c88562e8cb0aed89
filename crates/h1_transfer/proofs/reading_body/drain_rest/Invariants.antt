-- What was read so far is payload, and no read waited or met the end.
use Rattle.std.proofs.Common.{◌≡◌, ◌<◌, ◌*◌, ◌+◌, ℕ, List, length, true}
use Rattle.h1_transfer.specs.Words.{reads}
use Rattle.h1_transfer.proofs.Words.{ReadsBody, IsUnfinished, Called, no_fault}
use Rattle.h1_transfer.proofs.reading_body.drain_rest.Given as goal

abbrev pub invariant-drains : goal.invariant-drains
invariant-drains g l = record {
  moved : (payload : List ℕ) × ReadsBody (g.L.Link.state l.fn.link) (g.L.Link.state l.link)
      l.fn.received.items l.received.items l.fn.reader l.reader l.fn.kept l.kept l.fn.budget l.budget
      payload;
  waits : (g.L.Link.state l.link).read_waits ≡ (g.L.Link.state l.fn.link).read_waits;
  alive : (g.L.Link.state l.link).ended ≡ (g.L.Link.state l.fn.link).ended;
  parsed : l.budget < l.fn.budget → IsUnfinished (reads l.fn.reader l.fn.received.items);
  calls : Called (g.L.Link.state l.fn.link) (g.L.Link.state l.link) true no_fault;
  plan : g.L.Link.same_plan l.fn.link l.link;
}

abbrev pub decreases-drains : goal.decreases-drains
decreases-drains g l = l.budget * 9223372036854775808 + length l.received.items
