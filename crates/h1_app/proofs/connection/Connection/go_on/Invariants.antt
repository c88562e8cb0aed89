-- The connection goes on from step to step.
use Rattle.h1_app.proofs.Words.{ahead}
use Rattle.h1_app.proofs.GoneLemmas.{IsOnWay}
use Rattle.h1_app.proofs.connection.Connection.go_on.Given as goal

abbrev pub invariant-loop-what : goal.invariant-loop-what
invariant-loop-what g l =
    IsOnWay g.L.Link.state g.SV.ServeHttp.begins g.L.Link.same_plan l.fn.now l.fn.shutdown
    l.fn.self l.self

abbrev pub decreases-loop-what : goal.decreases-loop-what
decreases-loop-what g l = ahead l.self.session.budget l.self.stage
