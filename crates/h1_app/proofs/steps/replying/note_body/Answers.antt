use Rattle.std.proofs.Common.{refl, true}
use Rattle.h1_app.proofs.FilteredBody.{plain_body}
use Rattle.h1_app.proofs.steps.replying.note_body.Goals as goal

-- no modules leave the body as it is
pub returns-clause-ok : goal.returns-clause-ok
returns-clause-ok g c =
    plain_body (g.M.HttpModule.response_body true) c.args.modules.now.modules
    c.args.entry.now.reply c.in_ok-body.body c.piece_of.result c.args.entry.now _
    c.if-not-is_empty.ensures c.in_ok-body.ensures.ok
    (rw c.in_ok-sent.ensures.ok.0 at c.piece_of.ensures)
    (rw (c.in_ok-sent.ensures.ok.1, c.in_ok-body.ensures.kept) refl)
