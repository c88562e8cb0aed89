-- What was used so far gave no payload, and no read waited or met the end.
use Rattle.std.proofs.Common.{◌≡◌, ◌<◌, [], true}
use Rattle.h1_transfer.specs.Words.{unfinished, reads}
use Rattle.h1_transfer.proofs.Words.{ReadsBody, Called, no_fault}
use Rattle.h1_transfer.proofs.reading_body.read_body.Given as goal

abbrev pub invariant-reads : goal.invariant-reads
invariant-reads g l = record {
  moved : ReadsBody (g.L.Link.state l.fn.link) (g.L.Link.state l.link) l.fn.received.items
      l.received.items l.fn.reader l.reader l.fn.kept l.kept l.fn.budget l.budget [];
  waits : (g.L.Link.state l.link).read_waits ≡ (g.L.Link.state l.fn.link).read_waits;
  alive : (g.L.Link.state l.link).ended ≡ (g.L.Link.state l.fn.link).ended;
  parsed : l.budget < l.fn.budget → reads l.fn.reader l.fn.received.items ≡ unfinished [];
  calls : Called (g.L.Link.state l.fn.link) (g.L.Link.state l.link) true no_fault;
  plan : g.L.Link.same_plan l.fn.link l.link;
}

abbrev pub decreases-reads : goal.decreases-reads
decreases-reads g l = l.budget
