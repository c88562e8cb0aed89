use Rattle.std.proofs.Common.{ap}
use Rattle.h1_app.proofs.LinkedLemmas.{accounted_linked}
use Rattle.h1_app.proofs.SoundLemmas.{sound_linked_with}
use Rattle.h1_app.proofs.connection.Connection.with_link.Goals as goal

pub with_link-requires-clause-keeps : goal.with_link-requires-clause-keeps
with_link-requires-clause-keeps g c = λ answer link h. rw (← c.self.view_is) at c.requires.keeps answer link h

pub returns-clause-accounted : goal.returns-clause-accounted
returns-clause-accounted g c = λ before s.
    let rest = c.with_link.ensures.rest in
    accounted_linked g.L.Link.state c.self.inside.exchange.session c.with_link.new.self
    c.self.inside.exchange.transcript.last before c.self.inside.exchange.transcript.done
    c.with_link.ensures.keeps (ap (λ v. v.received) rest) (ap (λ v. v.request) rest)
    (ap (λ v. v.body) rest) (ap (λ v. v.reply) rest)
    (rw (← c.self.view_is) at s)

pub invariant_of-self : goal.invariant_of-self
invariant_of-self g c = rw c.with_link.ensures.rest (sound_linked_with _ _ _ _ _ _ _ _ _ c.self.invariant)
