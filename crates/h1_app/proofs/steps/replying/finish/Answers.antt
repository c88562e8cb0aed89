-- The end of the body is written.
use Rattle.std.proofs.Common.{refl}
use Rattle.h1_app.proofs.LeavesLemmas.{finish_fails}
use Rattle.h1_app.proofs.EndSteps.{finish_stepped}
use Rattle.h1_app.proofs.StepLemmas.{allowed_ready}
use Rattle.h1_app.proofs.steps.replying.finish.Goals as goal

pub returns-in-Pending-clause-stepped : goal.returns-in-Pending-clause-stepped
returns-in-Pending-clause-stepped g c = λ filters shutdown allowed.
    finish_stepped g.L.Link.state _ _ _ c.args.now shutdown _ _ _ _ _
    (allowed_ready _ _ _ _ c.requires.ready allowed)
    (rw c.requires.at at c.requires.ready.sound) c.requires.at
    c.poll_finish_body-answer.ensures.writes c.written_bytes.ensures
    (rw (c.last_entry-entry.ensures.value, c.note_written.ensures, c.in-Pending.is) (refl, refl, refl))

pub returns-in-Some-clause-stepped : goal.returns-in-Some-clause-stepped
returns-in-Some-clause-stepped g c = λ filters shutdown allowed.
    let told = rw c.in-Ready-Ok.is at c.in-Ready-Ok.field-0-is in
    finish_stepped g.L.Link.state _ _ _ c.args.now shutdown _ _ _ _ _
    (allowed_ready _ _ _ _ c.requires.ready allowed)
    (rw c.requires.at at c.requires.ready.sound) c.requires.at
    c.poll_finish_body-answer.ensures.writes c.written_bytes.ensures
    (rw (c.last_entry-entry.ensures.value, c.note_flushed.ensures, c.note_written.ensures, c.in-Ready-Ok.is, told) (refl, rw (← (rw (c.note_flushed.ensures, c.note_written.ensures) at c.in-Some.ensures)) (refl, refl)))

pub returns-in-None-clause-stepped : goal.returns-in-None-clause-stepped
returns-in-None-clause-stepped g c = λ filters shutdown allowed.
    let told = rw c.in-Ready-Ok.is at c.in-Ready-Ok.field-0-is in
    finish_stepped g.L.Link.state _ _ _ c.args.now shutdown _ _ _ _ _
    (allowed_ready _ _ _ _ c.requires.ready allowed)
    (rw c.requires.at at c.requires.ready.sound) c.requires.at
    c.poll_finish_body-answer.ensures.writes c.written_bytes.ensures
    (rw (c.last_entry-entry.ensures.value, c.note_flushed.ensures, c.note_written.ensures, c.in-Ready-Ok.is, told) (refl, rw (← (rw (c.note_flushed.ensures, c.note_written.ensures) at c.in-None.ensures)) (refl, refl)))

pub returns-in-Ready-Err-clause-stepped : goal.returns-in-Ready-Err-clause-stepped
returns-in-Ready-Err-clause-stepped g c = λ filters shutdown allowed.
    let told = rw c.in-Ready-Err.is at c.in-Ready-Err.field-0-is in
    finish_stepped g.L.Link.state _ _ _ c.args.now shutdown _ _ _ _ _
    (allowed_ready _ _ _ _ c.requires.ready allowed)
    (rw c.requires.at at c.requires.ready.sound) c.requires.at
    c.poll_finish_body-answer.ensures.writes c.written_bytes.ensures
    (rw (c.last_entry-entry.ensures.value, c.note_written.ensures, c.in-Ready-Err.is, told) (refl, refl, rw (c.failure.ensures, c.body_error-in-Ready-Err.ensures, c.note_written.ensures) refl))

pub returns-in-Ready-Err-clause-leaves : goal.returns-in-Ready-Err-clause-leaves
returns-in-Ready-Err-clause-leaves g c =
    let told = rw c.in-Ready-Err.is at c.in-Ready-Err.field-0-is in
    let calls = rw (c.in-Ready-Err.is, told) at c.poll_finish_body-answer.ensures.calls in
    rw c.failure.ensures (finish_fails _ _ _ _ _ c.in-Ready-Err.error calls)
