use Rattle.h1_app.proofs.HeaderTaken.{own_header_noted}
use Rattle.h1_app.proofs.steps.replying.note_own_header.Goals as goal

pub returns-then-headed : goal.returns-then-headed
returns-then-headed c =
    own_header_noted _ _ _ _ _ _ _ _ c.if-headed.true c.requires.date
    c.note_own_header.ensures
