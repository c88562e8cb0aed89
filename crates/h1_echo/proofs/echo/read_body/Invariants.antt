-- No read was pending or refused so far.
use Rattle.std.proofs.Common.{◌-◌, ◌^◌, length}
use Rattle.h1_application.specs.Application.{payload_of}
use Rattle.h1_echo.proofs.Words.{Reading}
use Rattle.h1_echo.proofs.echo.read_body.Given as goal

abbrev pub invariant-reads : goal.invariant-reads
invariant-reads g l = record {
  reading : Reading g.L.Link.state l.fn.now l.fn.http l.http;
  plan : g.L.Link.same_plan l.fn.http.link l.http.link;
}

abbrev pub decreases-reads : goal.decreases-reads
decreases-reads g l = 2 ^ 64 - length (payload_of l.http)
