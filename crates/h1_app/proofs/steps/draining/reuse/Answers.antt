-- The session was lent the payload, and gave it back.
use Rattle.std.proofs.Common.{Some, refl, sym, ◌∙◌}
use Rattle.h1_transcript.specs.Entry.{payload_in}
use Rattle.h1_app.proofs.DrainLemmas.{reused_gathering, reuses_as, reuses_read}
use Rattle.h1_app.proofs.LeavesLemmas.{called_reuse}
use Rattle.h1_app.proofs.steps.draining.reuse.Goals as goal

pub take_payload_back-requires-clause-holding : goal.take_payload_back-requires-clause-holding
take_payload_back-requires-clause-holding g c =
    rw c.lend_payload.ensures.entry (reused_gathering g.L.Link.state c.args.now c.args.session.now
    c.lend_payload.new.session c.poll_reuse-answer.new.self c.args.entry.now c.poll_reuse-answer.result _
    c.lend_payload.ensures.session c.poll_reuse-answer.ensures.reuse)

pub returns-clause-reuses : goal.returns-clause-reuses
returns-clause-reuses g c =
    rw (c.take_payload_back.ensures.entry, c.lend_payload.ensures.entry) (reuses_as g.L.Link.state c.args.now
    c.args.session.now c.lend_payload.new.session c.poll_reuse-answer.new.self c.take_payload_back.new.session
    c.args.entry.now _ c.poll_reuse-answer.result c.requires.replied c.lend_payload.ensures.session
    c.poll_reuse-answer.ensures.reuse c.take_payload_back.ensures.session
    (rw (c.take_payload_back.ensures.entry, c.lend_payload.ensures.entry)
    at c.take_payload_back.ensures.within) refl)

pub returns-clause-calls : goal.returns-clause-calls
returns-clause-calls g c =
    rw c.take_payload_back.ensures.session (called_reuse g.L.Link.state c.args.now c.args.session.now
    c.lend_payload.new.session c.poll_reuse-answer.new.self (Some (payload_in c.args.entry.now))
    c.poll_reuse-answer.result c.lend_payload.ensures.session c.requires.replied
    c.poll_reuse-answer.ensures.reuse c.poll_reuse-answer.ensures.calls)

pub returns-then-is_body_read-clause-reuses : goal.returns-then-is_body_read-clause-reuses
returns-then-is_body_read-clause-reuses g c =
    reuses_read g.L.Link.state c.args.now c.args.session.now c.poll_reuse.new.self c.args.entry.now
    c.poll_reuse.result c.requires.replied c.requires.kept
    (rw c.body_len-len.ensures.value at c.body_len-len.ensures.within)
    (sym c.is_body_read.ensures ∙ c.if-is_body_read.true) c.poll_reuse.ensures.reuse
