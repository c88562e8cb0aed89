use Rattle.h1_app.proofs.HeaderTaken.{header_noted}
use Rattle.h1_app.proofs.steps.replying.note_header.Goals as goal

pub returns-then-headed : goal.returns-then-headed
returns-then-headed c =
    header_noted _ _ _ _ _ _ _ _ c.if-headed.true c.requires c.note_header.ensures
