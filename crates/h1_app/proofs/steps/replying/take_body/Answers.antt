-- The body is taken up.
use Rattle.std.proofs.Common.{refl, sym, ap, Some, arith, ◌∙◌}
use Rattle.h1_app.specs.declared.exchange.Stage.TheVariants as at
use Rattle.h1_app.proofs.BodySteps.{empty_body_stepped, taken_body_stepped}
use Rattle.h1_app.proofs.CallSteps.{call_continues, call_leaves}
use Rattle.h1_app.proofs.FilteredBody.{body_made, body_refused, noted_with}
use Rattle.h1_app.proofs.RefusedSteps.{refused_stepped}
use Rattle.h1_app.proofs.StepLemmas.{allowed_ready}
use Rattle.h1_app.proofs.steps.replying.take_body.Goals as goal

pub returns-in-Err-clause-stepped : goal.returns-in-Err-clause-stepped
returns-in-Err-clause-stepped g c = λ shutdown.
    let ready = c.requires.ready in
    let h = rw c.requires.at at ready.ready.sound in
    let entry = c.last_entry-entry.ensures.value in
    record {
      stepped = refused_stepped g.L.Link.state _ _ _ c.args.now shutdown _ _ _
          (allowed_ready _ _ _ _ ready.ready ready.allowed) h.0 h.1
          (ap Some c.in-Err.ensures.err.0 ∙ sym entry ∙ h.1) refl refl h.3 h.5.is h.7 h.10
          c.in-Err.error refl
          (body_refused ready h c.in-Err.error (rw entry c.in-Err.ensures.err.1));
      stand = tt;
    }

pub returns-then-is_none-clause-stepped : goal.returns-then-is_none-clause-stepped
returns-then-is_none-clause-stepped g c = λ shutdown.
    let ready = c.requires.ready in
    let h = rw c.requires.at at ready.ready.sound in
    let f = c.note_body.new.entry in
    let made = body_made ready h c.in-Ok.piece c.note_body.new.modules.modules f
    (rw c.last_entry-entry.ensures.value c.in-Ok.ensures.ok) in
    noted_with h.0 f made.bytes f.written
    (empty_body_stepped g.L.Link.state _ _ _ c.args.now shutdown _ _ _
    (allowed_ready _ _ _ _ ready.ready ready.allowed) c.in-Ok.piece _ f h c.requires.at made refl
    c.is_none.ensures c.if-is_none.true refl refl refl) made.notes.entry refl

pub returns-clause-stepped : goal.returns-clause-stepped
returns-clause-stepped g c = λ shutdown.
    let ready = c.requires.ready in
    let h = rw c.requires.at at ready.ready.sound in
    let f = c.note_body.new.entry in
    let made = body_made ready h c.in-Ok.piece c.note_body.new.modules.modules f
    (rw c.last_entry-entry.ensures.value c.in-Ok.ensures.ok) in
    noted_with h.0 f made.bytes c.written_bytes.result
    (taken_body_stepped g.L.Link.state _ _ _ c.args.now shutdown _ _ _
    (allowed_ready _ _ _ _ ready.ready ready.allowed) c.in-Ok.piece _ _ _ _ f h c.requires.at made
    (rw c.note_written.ensures refl) c.is_none.ensures c.if-is_none.false
    c.poll_write_body-answer.ensures.writes
    c.written_bytes.ensures c.stand.ensures) made.notes.entry (rw c.note_written.ensures refl)

pub returns-clause-continues : goal.returns-clause-continues
returns-clause-continues g c =
    let call = c.poll_write_body-answer.ensures in
    call_continues g.L.Link.state _ _ _ _ _ _ _ (λ done. done) at.TakeBody at.Body at.Finish
    c.requires.at refl refl call.plan tt tt tt call.calls (λ few. few) (λ few. omega (arith, few))
    c.stand.ensures

pub returns-clause-leaves : goal.returns-clause-leaves
returns-clause-leaves g c =
    call_leaves _ _ _ _ _ _ _ _ _ _ c.poll_write_body-answer.ensures.calls
    c.stand.ensures
