-- The end of a body is taken up and delivered, or it is short.
use Rattle.h1_transfer.proofs.OptionLemmas.{if_none, is_nothing}
use Rattle.h1_transfer.proofs.WriteLemmas.{end_written, short_end}
use Rattle.h1_transfer.proofs.transfer.Transfer.poll_finish_body.Goals as goal

pub returns-in-Err-clause-writes : goal.returns-in-Err-clause-writes
returns-in-Err-clause-writes g c =
    rw (← c.self.view_is) (if_none c.self.inside.outgoing.refused _
    (short_end g.L.Link.state _ c.take_end.new.outgoing c.in-Err.error c.in-Err.ensures))

pub returns-clause-writes : goal.returns-clause-writes
returns-clause-writes g c =
    let unrefused = is_nothing c.self.inside.outgoing.refused c.in_default.not-Some in
    rw (← c.self.view_is) (rw c.with_count.ensures (if_none c.self.inside.outgoing.refused _
    (end_written g.L.Link.state _ _ c.take_end.new.outgoing c.written-written.result c.poll_deliver.result
    c.in-Ok.end c.in_default-end.not-Nothing c.in-Ok.ensures c.written-written.ensures c.self.invariant unrefused
    c.poll_deliver.ensures.delivers)))
