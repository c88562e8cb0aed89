-- A step of the exchange that is last, or the one to the next exchange.
use Rattle.std.proofs.Common.{◌≡◌, None, false, refl}
use Rattle.h1_app.specs.Words.{arc_value}
use Rattle.h1_app.specs.Filtering.{chain_of}
use Rattle.h1_app.proofs.Words.{filters_of, terms_of, served_by}
use Rattle.h1_app.proofs.AskLemmas.{gathers_last}
use Rattle.h1_app.proofs.NextLemmas.{sound_next_with, turned_next, caused_next, over_next, timely_next}
use Rattle.h1_app.proofs.TurnLemmas.{sound_stepped_with, turned_stepped, caused_stepped}
use Rattle.h1_app.proofs.connection.Connection.turn.Goals.{in-Next, in_default}
use Rattle.h1_app.proofs.connection.Connection.turn.Goals as goal

pub step-outcome-requires-clause-holds : goal.step-outcome-requires-clause-holds
step-outcome-requires-clause-holds g c =
    let server = arc_value c.self.inside.server in
    let whole = g.SV.ServeHttp.takes_whole server.app in
    let transcript = c.self.inside.exchange.transcript in
    rw c.deref.ensures (gathers_last (terms_of server.server_options whole) 0 false whole transcript.done
    transcript.last c.self.invariant.sound.begun refl)

pub invariant_of-self : goal.invariant_of-self
invariant_of-self g c =
    let alive : c.self.inside.end ≡ None = rw (← c.self.view_is) at c.requires.alive in
    let sound = rw alive at c.self.invariant in
    let old = c.self.inside.exchange in
    elim c.match-self.branch [
      | in-Next w ↦ rw (c.keep_end.ensures, w.outcome-is, w.self-inside-is)
          (sound_next_with _ _ _ _ old w.next_exchange.new.exchange _ sound w.in-Next.is
          w.next_exchange.ensures)
      | in_default w ↦ rw (c.keep_end.ensures, w.outcome-is, w.self-inside-is)
          (sound_stepped_with _ _ _ _ g.L.Link.state g.SV.ServeHttp.pends c.args.now c.args.shutdown old
          w.step-outcome.new.exchange _ _ w.step-outcome.result sound
          (rw w.deref.ensures at w.step-outcome.ensures.stepped)
          w.step-outcome.ensures.continues.done w.step-outcome.ensures.continues.holding)
    ]

pub returns-clause-sound : goal.returns-clause-sound
returns-clause-sound g c = (invariant_of-self g c).sound

pub returns-clause-turned : goal.returns-clause-turned
returns-clause-turned g c =
    let alive : c.self.inside.end ≡ None = rw (← c.self.view_is) at c.requires.alive in
    let sound = rw alive at c.self.invariant in
    let server = arc_value c.self.inside.server in
    let served = served_by server.app server.modules in
    let old = c.self.inside.exchange in
    elim c.match-self.branch [
      | in-Next w ↦ rw (
        ← c.self.view_is,
        c.keep_end.ensures,
        w.outcome-is,
        w.self-inside-is,
      ) (turned_next g.L.Link.state g.L.Link.same_plan c.args.now
          c.args.shutdown served (terms_of server.server_options (g.SV.ServeHttp.takes_whole server.app)) old
          w.next_exchange.new.exchange c.self.inside.end
          (g.met.L.Link.plan_itself _) (over_next _ _ _ _ _ _ _ sound.sound w.in-Next.is) w.in-Next.is
          w.next_exchange.ensures)
      | in_default w ↦ rw (
        ← c.self.view_is,
        c.keep_end.ensures,
        w.outcome-is,
        w.self-inside-is,
      ) (turned_stepped g.L.Link.state g.SV.ServeHttp.begins
          g.SV.ServeHttp.pends g.L.Link.same_plan c.args.now c.args.shutdown served (terms_of server.server_options (g.SV.ServeHttp.takes_whole server.app))
          old w.step-outcome.new.exchange c.self.inside.end w.step-outcome.result sound.sound.stage
          (rw w.deref.ensures at w.step-outcome.ensures.stepped.stepped) w.step-outcome.ensures.continues
          w.step-outcome.ensures.leaves)
    ]

pub returns-clause-outcome : goal.returns-clause-outcome
returns-clause-outcome g c =
    let alive : c.self.inside.end ≡ None = rw (← c.self.view_is) at c.requires.alive in
    let sound = rw alive at c.self.invariant in
    let server = arc_value c.self.inside.server in
    let served = served_by server.app server.modules in
    let filters = filters_of (chain_of g.B.HttpModuleBuilder g.B.Module.HttpModule server.modules) in
    let old = c.self.inside.exchange in
    elim c.match-self.branch [
      | in-Next w ↦ rw (← c.self.view_is, w.outcome-is, w.self-inside-is)
          (caused_next filters g.L.Link.state g.SV.ServeHttp.begins g.SV.ServeHttp.pends served
          (terms_of server.server_options (g.SV.ServeHttp.takes_whole server.app)) old w.next_exchange.new.exchange
          c.self.inside.end c.keep_end.new.end
          (over_next _ _ _ _ _ _ _ sound.sound w.in-Next.is) w.in-Next.is w.next_exchange.ensures)
      | in_default w ↦ rw (← c.self.view_is, w.outcome-is, w.self-inside-is)
          (caused_stepped filters g.L.Link.state g.SV.ServeHttp.begins g.SV.ServeHttp.pends
          (g.SV.ServeHttp.runs server.app) _ served
          (terms_of server.server_options (g.SV.ServeHttp.takes_whole server.app)) old w.step-outcome.new.exchange c.self.inside.end
          c.keep_end.new.end w.step-outcome.result w.step-outcome.ensures.continues
          (rw w.deref.ensures at w.step-outcome.ensures.stepped.stepped.outcome))
    ]

pub returns-clause-timely : goal.returns-clause-timely
returns-clause-timely g c =
    let old = c.self.inside.exchange in
    elim c.match-self.branch [
      | in-Next w ↦ rw (← c.self.view_is, w.outcome-is, w.self-inside-is)
          (timely_next g.L.Link.state c.args.now old w.next_exchange.new.exchange w.next_exchange.ensures)
      | in_default w ↦ rw (← c.self.view_is, w.outcome-is, w.self-inside-is)
          (w.step-outcome.ensures.stepped.stepped.timely)
    ]
