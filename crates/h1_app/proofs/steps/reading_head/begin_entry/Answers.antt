use Rattle.h1_app.proofs.BeginLemmas.{entry_begun}
use Rattle.h1_app.proofs.steps.reading_head.begin_entry.Goals as goal

pub returns-clause-ok : goal.returns-clause-ok
returns-clause-ok c =
    entry_begun c.args.request.now c.args.settings.now c.args.transcript.now c.begin.new.self
    c.begin.result c.begin.ensures.ok
