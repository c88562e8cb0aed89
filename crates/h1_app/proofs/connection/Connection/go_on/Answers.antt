-- The way goes on with each step that is done, and ends where one waits or ends the connection.
use Rattle.std.proofs.Common.{refl}
use Rattle.h1_app.proofs.GoneLemmas.{ends_back, poll_waits, turned_on, way_itself, way_on}
use Rattle.h1_app.proofs.WorkLemmas.{poll_ends_in_time, poll_waits_in_time}
use Rattle.h1_app.proofs.connection.Connection.go_on.Goals as goal

pub loop-what-init : goal.loop-what-init
loop-what-init g c =
    way_itself g.L.Link.state g.SV.ServeHttp.begins g.L.Link.same_plan c.args.now c.args.shutdown
    c.args.self.now (g.met.L.Link.plan_itself _) c.requires.alive (rw c.requires.budget refl)

pub loop-what-preserved : goal.loop-what-preserved
loop-what-preserved g c =
    way_on c.args.self.now c.loop-what.self c.turn.new.self (g.met.L.Link.plan_on _ _ _)
    c.loop-what.invariant c.in-Done.ensures.turned c.in-Done.ensures.end c.in-Done.ensures.timely
    c.in-Done.ensures.outcome.1 c.in-Done.ensures.outcome.2

pub returns-in-Waits-clause-turned : goal.returns-in-Waits-clause-turned
returns-in-Waits-clause-turned g c =
    turned_on c.args.self.now c.loop-what.self c.turn.new.self (g.met.L.Link.plan_on _ _ _)
    c.loop-what.invariant.alive c.loop-what.invariant.turned c.in-Waits.ensures.turned

pub returns-in-Ends-clause-turned : goal.returns-in-Ends-clause-turned
returns-in-Ends-clause-turned g c =
    turned_on c.args.self.now c.loop-what.self c.turn.new.self (g.met.L.Link.plan_on _ _ _)
    c.loop-what.invariant.alive c.loop-what.invariant.turned c.in-Ends.ensures.turned

pub returns-in-Waits-clause-cause : goal.returns-in-Waits-clause-cause
returns-in-Waits-clause-cause g c = λ before s. (
  c.in-Waits.ensures.end,
  rw c.waits_for.ensures (poll_waits g.SV.ServeHttp.pends before c.args.self.now c.loop-what.self
      c.turn.new.self c.loop-what.invariant c.turn.ensures.turned.gone c.requires.budget s
      c.in-Waits.ensures.outcome.0 c.in-Waits.what c.in-Waits.ensures.outcome.1),
)

pub returns-in-Ends-clause-cause : goal.returns-in-Ends-clause-cause
returns-in-Ends-clause-cause g c = λ before s.
    let since = c.turn.ensures.turned.gone.accounted before
    (c.loop-what.invariant.turned.gone.accounted before s) in (
      c.in-Ends.ensures.end,
      ends_back _ before _ _ _ c.loop-what.invariant.turned.gone.moves.moved.later _ _ c.in-Ends.end
          (c.in-Ends.ensures.outcome.1 before since),
    )

pub returns-in-Waits-clause-timely : goal.returns-in-Waits-clause-timely
returns-in-Waits-clause-timely g c =
    rw c.waits_for.ensures (poll_waits_in_time g.L.Link.state c.args.now c.args.self.now c.loop-what.self
    c.turn.new.self c.loop-what.invariant.begun c.loop-what.invariant.turned.gone.moves
    c.turn.ensures.turned.gone.moves c.in-Waits.ensures.outcome.0 c.in-Waits.what c.in-Waits.ensures.timely)

pub returns-in-Ends-clause-timely : goal.returns-in-Ends-clause-timely
returns-in-Ends-clause-timely g c =
    poll_ends_in_time g.L.Link.state c.args.now c.args.self.now c.loop-what.self c.turn.new.self
    c.loop-what.invariant.begun c.loop-what.invariant.turned.gone.moves c.turn.ensures.turned.gone.moves
    c.in-Ends.ensures.outcome.0 c.in-Ends.end c.in-Ends.ensures.timely
