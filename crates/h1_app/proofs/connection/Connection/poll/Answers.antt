-- A poll is its steps, with the budget set before them.
use Rattle.std.proofs.Common.{Some, refl}
use Rattle.h1_app.proofs.Words.{view_of, terms_of, served_by}
use Rattle.h1_app.specs.Words.{arc_value}
use Rattle.h1_app.proofs.AgreesLemmas.{agrees_sound}
use Rattle.h1_app.proofs.BodyTimeLemmas.{body_itself}
use Rattle.h1_app.proofs.GoneLemmas.{cause_same}
use Rattle.h1_app.proofs.WorkLemmas.{timely_same}
use Rattle.h1_app.proofs.LeavesLemmas.{given_none}
use Rattle.h1_app.proofs.LinkedLemmas.{accounted_budget}
use Rattle.h1_app.proofs.SoundLemmas.{given_while, sound_linked_with}
use Rattle.h1_transcript.proofs.GrowthLemmas.{extends_itself}
use Rattle.h1_transcript.proofs.AloneLemmas.{join_none}
use Rattle.h1_app.proofs.connection.Connection.poll.Goals as goal

pub returns-in-Some-clause-agrees : goal.returns-in-Some-clause-agrees
returns-in-Some-clause-agrees g c = λ before s.
    rw (← c.self.view_is) (agrees_sound _ _ _ g.L.Link.state _ _ _ _ _ before c.self.invariant.sound
    (rw (← c.self.view_is) at s))

pub returns-in-Some-clause-extends : goal.returns-in-Some-clause-extends
returns-in-Some-clause-extends g c =
    rw (← c.self.view_is) (extends_itself c.args.now c.args.shutdown _ _ _)

pub returns-in-Some-clause-alone : goal.returns-in-Some-clause-alone
returns-in-Some-clause-alone g c = λ before s. rw (← c.self.view_is)
    (join_none before (g.L.Link.state c.self.inside.exchange.session.link) _)

pub invariant_of-self : goal.invariant_of-self
invariant_of-self g c =
    rw c.set_poll_budget.ensures (sound_linked_with _ _ _ _ _ _ _ _ _ c.self.invariant)

pub returns-clause-accounted : goal.returns-clause-accounted
returns-clause-accounted g c = λ before s.
    c.go_on.ensures.turned.gone.accounted before (accounted_budget g.L.Link.state _ _ _ _ before _
    c.set_poll_budget.ensures (rw (← c.self.view_is) at s))

pub returns-clause-agrees : goal.returns-clause-agrees
returns-clause-agrees g c = λ before s.
    agrees_sound _ _ _ g.L.Link.state _ _ _ _ _ before c.go_on.ensures.sound
    (returns-clause-accounted g c before s)

pub returns-clause-alone : goal.returns-clause-alone
returns-clause-alone g c = λ before s.
    rw (← c.self.view_is) (rw c.set_poll_budget.ensures at c.go_on.ensures.turned.gone.alone before
    (accounted_budget g.L.Link.state c.self.inside.exchange.session _ _ _ before _ refl
    (rw (← c.self.view_is) at s)))

pub returns-clause-cause : goal.returns-clause-cause
returns-clause-cause g c = rw (← c.self.view_is) (given_none c.self.inside.end _ (λ before s.
    let server = arc_value c.self.inside.server in
    cause_same _ g.L.Link.state g.SV.ServeHttp.begins g.SV.ServeHttp.pends before
    (view_of (served_by server.app server.modules) (terms_of server.server_options (g.SV.ServeHttp.takes_whole server.app)) c.self.inside.exchange c.self.inside.end)
    c.go_on.new.self (Some 64) c.go_on.result
    (rw c.set_poll_budget.ensures at c.go_on.ensures.cause before
    (accounted_budget g.L.Link.state c.self.inside.exchange.session _ _ _ before _ refl s))))

pub returns-clause-extends : goal.returns-clause-extends
returns-clause-extends g c =
    rw (← c.self.view_is) (rw c.set_poll_budget.ensures at c.go_on.ensures.turned.gone.extends)

pub returns-clause-leaves : goal.returns-clause-leaves
returns-clause-leaves g c = rw (← c.self.view_is) (given_none c.self.inside.end _
    (rw c.set_poll_budget.ensures at c.go_on.ensures.turned.leaves.leaves))

pub returns-clause-timely : goal.returns-clause-timely
returns-clause-timely g c = rw (← c.self.view_is) (given_none c.self.inside.end _
    (let server = arc_value c.self.inside.server in
    timely_same g.L.Link.state c.args.now
    (view_of (served_by server.app server.modules) (terms_of server.server_options (g.SV.ServeHttp.takes_whole server.app)) c.self.inside.exchange c.self.inside.end)
    c.go_on.new.self (Some 64) c.go_on.result
    (rw c.set_poll_budget.ensures at c.go_on.ensures.timely)))

pub returns-in-Some-clause-body : goal.returns-in-Some-clause-body
returns-in-Some-clause-body g c = rw (← c.self.view_is) (body_itself c.args.now _ _)

pub returns-clause-body : goal.returns-clause-body
returns-clause-body g c =
    rw (← c.self.view_is) (rw c.set_poll_budget.ensures at c.go_on.ensures.turned.gone.body)

pub returns-clause-given : goal.returns-clause-given
returns-clause-given g c = given_while _ _ _ _ _ _ _ _ c.go_on.ensures.sound
