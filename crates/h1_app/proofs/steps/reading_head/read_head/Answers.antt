-- A head is read, where keep-alive was set before it.
use Rattle.std.proofs.Common.{refl}
use Rattle.h1_app.proofs.HeadLemmas.{at_head, none_few, none_stepped, head_waits, closed_none, closed_ends, failed_ends}
use Rattle.h1_app.proofs.BeginLemmas.{begun_stepped, set_alike}
use Rattle.h1_app.specs.Words.{head_time, keepalive_set}
use Rattle.h1_error.specs.declared.progress.Waiting.TheVariants as waiting
use Rattle.h1_app.proofs.SetLemmas.{set_stepped}
use Rattle.h1_app.proofs.StartLemmas.{begun_continues, begun_leaves}
use Rattle.h1_app.proofs.TimelyLemmas.{fails_in_time, minute, none_in_time, waits_in_time}
use Rattle.h1_app.proofs.steps.reading_head.read_head.Goals as goal

pub returns-in-Pending-clause-stepped : goal.returns-in-Pending-clause-stepped
returns-in-Pending-clause-stepped g c =
    let state = g.L.Link.state in
    let runs = g.SV.ServeHttp.runs c.args.server.now.app in
    let reads =
    rw (c.set_server_keepalive.ensures, c.keepalive.ensures) at c.in-Pending.ensures.reads in
    let session = c.args.exchange.now.session in
    let stage = c.args.exchange.now.stage in
    let time = head_time c.args.shutdown in
    let set = keepalive_set session.settings time in
    let alike = set_alike session.settings time in
    let h = at_head state runs c.args.now session _ set _ _ _ alike c.requires.ready.sound
    c.requires.at reads in
    set_stepped state g.SV.ServeHttp.pends _ runs _ c.args.now c.args.shutdown _ _ _ set _
    c.requires.at alike
    (none_stepped state g.SV.ServeHttp.pends _ runs _ c.args.now c.args.shutdown _ _ _ _ _ h
    h.reads.answer.0 refl (none_few state _ _ _ _ h)
    (waits_in_time state c.args.now _ _ _ stage stage
    (minute c.args.now session.settings c.args.shutdown h.awaiting.times)
    c.requires.ready.budget c.requires.at c.requires.at waiting.Read h)
    (head_waits state g.SV.ServeHttp.pends runs _ _ _ _ c.requires.ready.budget c.requires.at h))

pub returns-in-Ready-Ok-None-clause-stepped : goal.returns-in-Ready-Ok-None-clause-stepped
returns-in-Ready-Ok-None-clause-stepped g c =
    let state = g.L.Link.state in
    let runs = g.SV.ServeHttp.runs c.args.server.now.app in
    let reads = rw (
      c.in-Ready-Ok-None.is,
      c.in-Ready-Ok-None.field-0-is,
      c.in-Ready-Ok-None.field-0-0-is,
      c.set_server_keepalive.ensures,
      c.keepalive.ensures,
    ) at c.poll_read_request.ensures.reads in
    let session = c.args.exchange.now.session in
    let stage = c.args.exchange.now.stage in
    let time = head_time c.args.shutdown in
    let set = keepalive_set session.settings time in
    let alike = set_alike session.settings time in
    let h = at_head state runs c.args.now session _ set _ _ _ alike c.requires.ready.sound
    c.requires.at reads in
    set_stepped state g.SV.ServeHttp.pends _ runs _ c.args.now c.args.shutdown _ _ _ set _
    c.requires.at alike
    (none_stepped state g.SV.ServeHttp.pends _ runs _ c.args.now c.args.shutdown _ _ _ _ _ h
    (closed_none state _ _ _ _ h) refl
    (none_few state _ _ _ _ h)
    (none_in_time state c.args.now _ _ _ stage stage
    (minute c.args.now session.settings c.args.shutdown h.awaiting.times)
    c.requires.ready.budget c.requires.at c.requires.at _ h)
    (closed_ends state _ _ _ _ h))

pub returns-in-Ready-Err-clause-stepped : goal.returns-in-Ready-Err-clause-stepped
returns-in-Ready-Err-clause-stepped g c =
    let state = g.L.Link.state in
    let runs = g.SV.ServeHttp.runs c.args.server.now.app in
    let reads = rw (
      c.in-Ready-Err.is,
      c.in-Ready-Err.field-0-is,
      c.set_server_keepalive.ensures,
      c.keepalive.ensures,
    ) at c.poll_read_request.ensures.reads in
    let session = c.args.exchange.now.session in
    let stage = c.args.exchange.now.stage in
    let time = head_time c.args.shutdown in
    let set = keepalive_set session.settings time in
    let alike = set_alike session.settings time in
    let h = at_head state runs c.args.now session _ set _ _ _ alike c.requires.ready.sound
    c.requires.at reads in
    set_stepped state g.SV.ServeHttp.pends _ runs _ c.args.now c.args.shutdown _ _ _ set _
    c.requires.at alike
    (none_stepped state g.SV.ServeHttp.pends _ runs _ c.args.now c.args.shutdown _ _ _ _ _ h
    h.reads.answer.0 refl (none_few state _ _ _ _ h)
    (fails_in_time state c.args.now _ _ _ stage stage
    (minute c.args.now session.settings c.args.shutdown h.awaiting.times)
    c.requires.ready.budget c.requires.at c.requires.at _ h)
    (failed_ends state _ _ _ _ h))

pub returns-in-Ready-Ok-Head-clause-stepped : goal.returns-in-Ready-Ok-Head-clause-stepped
returns-in-Ready-Ok-Head-clause-stepped g c =
    let state = g.L.Link.state in
    let runs = g.SV.ServeHttp.runs c.args.server.now.app in
    let reads = rw (
      c.in-Ready-Ok-Head.is,
      c.in-Ready-Ok-Head.field-0-is,
      c.in-Ready-Ok-Head.field-0-0-is,
      c.set_server_keepalive.ensures,
      c.keepalive.ensures,
    ) at c.poll_read_request.ensures.reads in
    let session = c.args.exchange.now.session in
    let stage = c.args.exchange.now.stage in
    let time = head_time c.args.shutdown in
    let set = keepalive_set session.settings time in
    let alike = set_alike session.settings time in
    let h = at_head state runs c.args.now session _ set _ _ _ alike c.requires.ready.sound
    c.requires.at reads in
    set_stepped state g.SV.ServeHttp.pends _ runs _ c.args.now c.args.shutdown _ _ _ set _
    c.requires.at alike
    (begun_stepped state g.SV.ServeHttp.begins g.SV.ServeHttp.pends _ runs _ c.args.now
    c.args.shutdown _ _ _ _ c.requires.at h c.begin.ensures.kept _ _ _ _ c.begin.ensures.begun)

pub returns-in-Ready-Ok-Head-clause-continues : goal.returns-in-Ready-Ok-Head-clause-continues
returns-in-Ready-Ok-Head-clause-continues g c =
    let calls = rw (
      c.in-Ready-Ok-Head.is,
      c.in-Ready-Ok-Head.field-0-is,
      c.in-Ready-Ok-Head.field-0-0-is,
      c.set_server_keepalive.ensures,
    ) at c.poll_read_request.ensures.calls in
    let plan = rw c.set_server_keepalive.ensures at c.poll_read_request.ensures.plan in
    begun_continues g.L.Link.state g.SV.ServeHttp.begins _ _ c.args.exchange.now.session _ _ _ _ _ _
    c.begin.ensures.begun calls g.L.Link.same_plan g.SV.ServeHttp.pends _ _ _ c.requires.at
    c.begin.ensures.done c.begin.ensures.holding plan

pub returns-in-Ready-Ok-Head-clause-leaves : goal.returns-in-Ready-Ok-Head-clause-leaves
returns-in-Ready-Ok-Head-clause-leaves g c =
    let calls = rw (
      c.in-Ready-Ok-Head.is,
      c.in-Ready-Ok-Head.field-0-is,
      c.in-Ready-Ok-Head.field-0-0-is,
      c.set_server_keepalive.ensures,
    ) at c.poll_read_request.ensures.calls in
    begun_leaves g.L.Link.state g.SV.ServeHttp.begins _ _ c.args.exchange.now.session _ _ _ _ _ _
    c.begin.ensures.begun calls
