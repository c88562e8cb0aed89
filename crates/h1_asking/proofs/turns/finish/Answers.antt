use Rattle.h1_asking.proofs.WriteLemmas.{end_unread}
use Rattle.h1_asking.proofs.turns.finish.Goals as goal

pub returns-clause-unread : goal.returns-clause-unread
returns-clause-unread g c before unread =
    end_unread g.L.Link.state g.L.Link.same_plan before c.args.session.now
    c.poll_finish_body.new.self c.poll_finish_body.result c.poll_finish_body.ensures unread
