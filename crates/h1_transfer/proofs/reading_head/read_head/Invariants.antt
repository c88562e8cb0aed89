-- What is received grows by what the link gives, and no reads wait.
use Rattle.std.proofs.Common.{◌≡◌, ◌<◌, true}
use Rattle.h1_cut.specs.Search.{HasLooked}
use Rattle.h1_head.specs.declared.limits.TheConstants.{MAX_HEADER_SIZE}
use Rattle.h1_transfer.proofs.Words.{Called, no_fault, Received}
use Rattle.h1_transfer.proofs.reading_head.read_head.Given as goal

abbrev pub invariant-reads : goal.invariant-reads
invariant-reads g l = record {
  moved : Received (g.L.Link.state l.fn.link) (g.L.Link.state l.link)
      l.fn.received.items l.received.items l.fn.budget l.budget;
  waits : (g.L.Link.state l.link).read_waits ≡ (g.L.Link.state l.fn.link).read_waits;
  parsed : l.budget < l.fn.budget → g.H.Head.lacks l.fn.received.items;
  calls : Called (g.L.Link.state l.fn.link) (g.L.Link.state l.link) true no_fault;
  looked : HasLooked MAX_HEADER_SIZE l.search l.received.items;
  plan : g.L.Link.same_plan l.fn.link l.link;
}

abbrev pub decreases-reads : goal.decreases-reads
decreases-reads g l = l.budget
