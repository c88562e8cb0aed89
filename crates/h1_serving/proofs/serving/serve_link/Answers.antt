use Rattle.std.proofs.Common.{arith}
use Rattle.h1_app.specs.Filtering.{rules_of}
use Rattle.h1_serving.specs.declared.serving.TheConstants.{MOST_POLLS}
use Rattle.h1_serving.proofs.WaitLemmas.{poll_leaves}
use Rattle.h1_serving.proofs.ServeLemmas.{poll_of, serving_none, serving_on, call_of, waiting_of, never_waits}
use Rattle.h1_serving.proofs.serving.serve_link.Goals as goal

pub loop-init : goal.loop-init
loop-init g c = (
  serving_none g.L.Link.state g.L.Link.same_plan g.SV.ServeHttp.pends
      (g.T.Clock.moment c.args.clock.now) c.args.connection.now
      (g.met.L.Link.plan_itself c.args.connection.now.session.link) c.requires,
  omega arith,
)

pub loop-preserved : goal.loop-preserved
loop-preserved g c =
    let p = c.poll-answer.ensures in
    let at = c.now-now.ensures in
    let on =
    serving_on
    (rules_of g.SV.ServeHttp.gives g.B.HttpModuleBuilder g.B.Module.HttpModule) g.L.Link.state
    g.L.Link.same_plan g.SV.ServeHttp.begins g.SV.ServeHttp.pends c.loop.counter
    (g.T.Clock.moment c.args.clock.now) (g.T.Clock.moment c.loop.clock)
    (g.T.Clock.moment c.now-now.new.self) c.args.connection.now
    c.loop.connection c.poll-answer.new.self c.poll-answer.result
    g.met.L.Link.plan_on (omega (arith, at.moment, at.later)) c.loop.invariant.0
    (poll_of at.moment p.served p.later
    (poll_leaves p.leaves p.ended p.moves p.reads_not_ready p.others)
    p.plan p.accounted p.agrees p.extends p.cause p.timely)
    (waiting_of c.poll-answer.result c.in_default.not-Ready) in
    (on, omega (arith, at.asked, c.loop.invariant.1))

pub returns-in-Ready : goal.returns-in-Ready
returns-in-Ready g c =
    let p = c.poll-answer.ensures in
    let at = c.now-now.ensures in
    let call =
    call_of (rules_of g.SV.ServeHttp.gives g.B.HttpModuleBuilder g.B.Module.HttpModule)
    g.L.Link.state g.L.Link.same_plan g.SV.ServeHttp.begins g.SV.ServeHttp.pends
    c.loop.counter MOST_POLLS (g.T.Clock.asked c.args.clock.now)
    (g.T.Clock.asked c.now-now.new.self) (g.T.Clock.moment c.args.clock.now)
    (g.T.Clock.moment c.loop.clock)
    (g.T.Clock.moment c.now-now.new.self) c.args.connection.now
    c.loop.connection c.poll-answer.new.self c.poll-answer.result
    g.met.L.Link.plan_on (omega (arith, at.moment, at.later))
    (omega (arith, at.asked, c.loop.invariant.1))
    (λ waits. absurd
    (never_waits c.poll-answer.result c.in-Ready.field-0 c.in-Ready.is waits))
    (omega (arith, c.loop-test.true)) c.loop.invariant.0
    (poll_of at.moment p.served p.later
    (poll_leaves p.leaves p.ended p.moves p.reads_not_ready p.others)
    p.plan p.accounted p.agrees p.extends p.cause p.timely) in
    record {
      kept = call.kept;
      leaves = call.leaves;
      accounted = call.accounted;
      agrees = call.agrees;
      served = call.served;
      answer = call.answers;
      timely = call.timely;
    }

pub returns : goal.returns
returns g c =
    let p = c.poll.ensures in
    let at = c.now-now-2.ensures in
    let call =
    call_of (rules_of g.SV.ServeHttp.gives g.B.HttpModuleBuilder g.B.Module.HttpModule)
    g.L.Link.state g.L.Link.same_plan g.SV.ServeHttp.begins g.SV.ServeHttp.pends
    c.loop.counter MOST_POLLS (g.T.Clock.asked c.args.clock.now)
    (g.T.Clock.asked c.now-now-2.new.self) (g.T.Clock.moment c.args.clock.now)
    (g.T.Clock.moment c.loop.clock)
    (g.T.Clock.moment c.now-now-2.new.self) c.args.connection.now
    c.loop.connection c.poll.new.self c.poll.result
    g.met.L.Link.plan_on (omega (arith, at.moment, at.later))
    (omega (arith, at.asked, c.loop.invariant.1))
    (λ waits. omega (arith, c.loop-test.false, c.loop.auto.counter-end))
    (omega (arith, c.loop-test.false, c.loop.auto.counter-end)) c.loop.invariant.0
    (poll_of at.moment p.served p.later
    (poll_leaves p.leaves p.ended p.moves p.reads_not_ready p.others)
    p.plan p.accounted p.agrees p.extends p.cause p.timely) in
    record {
      kept = call.kept;
      leaves = call.leaves;
      accounted = call.accounted;
      agrees = call.agrees;
      served = call.served;
      answer = call.answers;
      timely = call.timely;
    }
