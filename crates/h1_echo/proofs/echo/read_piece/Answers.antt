-- One call that reads.
use Rattle.h1_application.proofs.ReadLemmas.{reads_itself, reads_call}
use Rattle.h1_application.proofs.TimeLemmas.{call_in_time, in_time_itself}
use Rattle.h1_echo.proofs.EchoLemmas.{stop_cause, stop_limit}
use Rattle.h1_echo.proofs.echo.read_piece.Goals as goal

pub returns-then-is_none-clause-reads : goal.returns-then-is_none-clause-reads
returns-then-is_none-clause-reads g c = reads_itself g.L.Link.state _

pub returns-in-Ready-Err-clause-reads : goal.returns-in-Ready-Err-clause-reads
returns-in-Ready-Err-clause-reads g c =
    reads_call g.L.Link.state c.args.now _ _ _ c.requires.budget
    c.poll_read_body_bytes.ensures.again c.poll_read_body_bytes.ensures.reads c.poll_read_body_bytes.ensures.calls

pub returns-then-is_none-clause-timed : goal.returns-then-is_none-clause-timed
returns-then-is_none-clause-timed g c = in_time_itself g.L.Link.state c.args.now _

pub returns-in-Ready-Err-clause-timed : goal.returns-in-Ready-Err-clause-timed
returns-in-Ready-Err-clause-timed g c =
    call_in_time g.L.Link.state c.args.now _ _ _
    c.poll_read_body_bytes.ensures.again c.poll_read_body_bytes.ensures.reads c.poll_read_body_bytes.ensures.limit

pub returns-in-Ready-Err-clause-limit : goal.returns-in-Ready-Err-clause-limit
returns-in-Ready-Err-clause-limit g c =
    let again = rw c.in-Ready-Err.field-0-is at c.in-Ready-Err.ensures.again in
    let limit = rw c.in-Ready-Err.field-0-is at c.in-Ready-Err.ensures.limit in
    stop_limit _ _ _ _ _ _ again limit c.stop_of.ensures

pub returns-in-Ready-Err-clause-cause : goal.returns-in-Ready-Err-clause-cause
returns-in-Ready-Err-clause-cause g c =
    let again = rw c.in-Ready-Err.field-0-is at c.in-Ready-Err.ensures.again in
    let reads = rw c.in-Ready-Err.field-0-is at c.in-Ready-Err.ensures.reads in
    stop_cause _ g.L.Link.state c.args.now _ _ _ _ again reads c.stop_of.ensures
