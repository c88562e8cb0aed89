use Rattle.std.proofs.Common.{ap, ◌∙◌}
use Rattle.h1_transfer.specs.declared.outgoing.Outgoing.{Outgoing}
use Rattle.h1_fetch.specs.ScriptState.{state_of}
use Rattle.h1_fetch.specs.Steps.{is_piece}
use Rattle.h1_fetch.specs.Told.{sent_told}
use Rattle.h1_fetch.proofs.StepLemmas.{steps_piece}
use Rattle.h1_fetch.proofs.stepping.step_piece.Goals as goal

pub returns : goal.returns
returns c =
    steps_piece c.args.moment (state_of c.args.scripted.now) c.write_piece-outcome.new.session
    c.next_piece-piece.new.pieces.items c.is_piece-busy.result c.next_piece-piece.result
    c.write_piece-outcome.new.piece c.write_piece-outcome.result c.sent_told.result
    (c.is_piece-busy.ensures ∙ ap (λ (out : Outgoing). is_piece out.step) c.outgoing.ensures)
    c.next_piece-piece.ensures.next c.next_piece-piece.ensures.left c.write_piece-outcome.ensures.call
    (c.sent_told.ensures ∙ ap (λ b. sent_told b c.write_piece-outcome.result) c.budget_spent.ensures)
