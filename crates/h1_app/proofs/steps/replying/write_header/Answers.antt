-- The header goes on.
use Rattle.std.proofs.Common.{refl, false, arith}
use Rattle.h1_app.specs.declared.exchange.Stage.TheVariants as at
use Rattle.h1_app.proofs.CallSteps.{call_continues, call_leaves}
use Rattle.h1_app.proofs.FilterLemmas.{filters_written}
use Rattle.h1_app.proofs.ReplySteps.{header_stepped}
use Rattle.h1_app.proofs.StepLemmas.{allowed_ready}
use Rattle.h1_app.proofs.steps.replying.write_header.Goals as goal

pub returns-clause-stepped : goal.returns-clause-stepped
returns-clause-stepped g c = λ filters shutdown allowed.
    header_stepped g.L.Link.state _ _ _ c.args.now shutdown _ _ _
    (allowed_ready _ _ c.args.now _ c.requires.ready allowed) _ _ _
    (rw c.requires.at at c.requires.ready.sound) c.requires.at
    (rw (c.last_entry-entry.ensures.value, c.note_written.ensures) refl)
    c.poll_write_response_header-answer.ensures.writes c.written_bytes.ensures c.stand.ensures

pub returns-clause-continues : goal.returns-clause-continues
returns-clause-continues g c =
    let call = c.poll_write_response_header-answer.ensures in
    call_continues g.L.Link.state _ _ _ _ _ _ _ (λ done. false) at.Header at.Header at.TakeBody
    c.requires.at refl refl call.plan tt tt tt call.calls (λ few. few) (λ few. omega (arith, few))
    c.stand.ensures

pub returns-clause-leaves : goal.returns-clause-leaves
returns-clause-leaves g c =
    call_leaves _ _ _ _ _ _ _ _ _ _ c.poll_write_response_header-answer.ensures.calls
    c.stand.ensures

pub returns-clause-filters : goal.returns-clause-filters
returns-clause-filters g c =
    rw c.note_written.ensures (filters_written _ _ c.last_entry-entry.ensures.value _)
