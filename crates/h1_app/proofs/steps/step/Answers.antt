use Rattle.h1_app.proofs.ModulesLemmas.{stepped_with}
use Rattle.h1_app.proofs.steps.step.Goals as goal

pub returns-in-TakeHeader-clause-stepped : goal.returns-in-TakeHeader-clause-stepped
returns-in-TakeHeader-clause-stepped g c = c.take_header.ensures.stepped c.args.shutdown

pub returns-in-TakeBody-clause-stepped : goal.returns-in-TakeBody-clause-stepped
returns-in-TakeBody-clause-stepped g c = c.take_body.ensures.stepped c.args.shutdown

pub returns-in-Answer-clause-stepped : goal.returns-in-Answer-clause-stepped
returns-in-Answer-clause-stepped g c =
    stepped_with g.L.Link.state g.SV.ServeHttp.pends _ _ _ c.args.now c.args.shutdown _ _ _ _ c.requires.ready
    c.answer.ensures.stepped c.answer.ensures.filters

pub returns-in-Header-clause-stepped : goal.returns-in-Header-clause-stepped
returns-in-Header-clause-stepped g c =
    stepped_with g.L.Link.state g.SV.ServeHttp.pends _ _ _ c.args.now c.args.shutdown _ _ _ _ c.requires.ready
    c.write_header.ensures.stepped c.write_header.ensures.filters

pub returns-in-Body-clause-stepped : goal.returns-in-Body-clause-stepped
returns-in-Body-clause-stepped g c =
    stepped_with g.L.Link.state g.SV.ServeHttp.pends _ _ _ c.args.now c.args.shutdown _ _ _ _ c.requires.ready
    c.write_body.ensures.stepped c.write_body.ensures.filters

pub returns-in-Finish-clause-stepped : goal.returns-in-Finish-clause-stepped
returns-in-Finish-clause-stepped g c =
    stepped_with g.L.Link.state g.SV.ServeHttp.pends _ _ _ c.args.now c.args.shutdown _ _ _ _ c.requires.ready
    c.finish.ensures.stepped c.finish.ensures.filters

pub returns-in-Drain-clause-stepped : goal.returns-in-Drain-clause-stepped
returns-in-Drain-clause-stepped g c =
    stepped_with g.L.Link.state g.SV.ServeHttp.pends _ _ _ c.args.now c.args.shutdown _ _ _ _ c.requires.ready
    c.drain.ensures.stepped c.drain.ensures.filters
