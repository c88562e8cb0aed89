-- The application is started for what the filters made of the head, or not.
use Rattle.std.proofs.Common.{◌∙◌}
use Rattle.std.proofs.lemmas.Result.{err_from_is_err_and}
use Rattle.h1_app.proofs.Words.{chain}
use Rattle.h1_app.proofs.StartLemmas.{begun_for, refused_as, started_as}
use Rattle.h1_app.proofs.steps.reading_head.start.Goals as goal

pub filter_head-requires : goal.filter_head-requires
filter_head-requires g c =
    begun_for c.in-Some.request.now c.settings-settings.result.now c.args.session.now.request
    c.begin_entry.new.transcript.last c.in-Some.ensures c.in_ok-begin_entry.ensures.ok

pub returns-in_err-filter_head-clause-started : goal.returns-in_err-filter_head-clause-started
returns-in_err-filter_head-clause-started g c =
    let modules = g.B.Module.HttpModule in
    let from = c.from_residual-in_err-filter_head in
    let p = err_from_is_err_and from.result from.ensures.1 in
    rw (p.1, p.2) (refused_as g.SV.ServeHttp.begins (g.SV.ServeHttp.runs c.args.server.now.app)
    (chain g.B.HttpModuleBuilder.begins modules.request_header modules.response_header
    modules.response_body c.args.server.now.modules) c.args.session.now c.filter_head.new.session
    c.filter_head.new.modules.modules c.begin_entry.new.transcript c.in-Some.request.now
    c.in-Some.ensures (rw c.settings-settings.ensures at c.in_ok-begin_entry.ensures.ok)
    c.filter_head.new.transcript _ c.in_err-filter_head.ensures.err)

pub returns-clause-started : goal.returns-clause-started
returns-clause-started g c =
    let modules = g.B.Module.HttpModule in
    started_as g.SV.ServeHttp.begins (g.SV.ServeHttp.runs c.args.server.now.app)
    (chain g.B.HttpModuleBuilder.begins modules.request_header modules.response_header
    modules.response_body c.args.server.now.modules) c.args.session.now c.filter_head.new.session
    c.filter_head.new.modules.modules c.begin_entry.new.transcript c.in-Some.request.now
    c.in-Some.ensures (rw c.settings-settings.ensures at c.in_ok-begin_entry.ensures.ok)
    c.filter_head.new.transcript c.start_job.new.transcript c.start_job.result
    c.in_ok-filter_head.ensures.ok c.start_job.ensures.ok c.start_job.ensures.err

pub returns-in_err-filter_head-clause-holding : goal.returns-in_err-filter_head-clause-holding
returns-in_err-filter_head-clause-holding g c =
    c.filter_head.ensures.holding ∙ c.begin_entry.ensures.holding

pub returns-in_err-filter_head-clause-kept : goal.returns-in_err-filter_head-clause-kept
returns-in_err-filter_head-clause-kept g c =
    c.filter_head.ensures.kept c.args.transcript.now.holding c.args.transcript.now.last
    c.begin_entry.ensures.kept

pub returns-clause-holding : goal.returns-clause-holding
returns-clause-holding g c =
    c.start_job.ensures.holding ∙ c.filter_head.ensures.holding ∙ c.begin_entry.ensures.holding

pub returns-clause-kept : goal.returns-clause-kept
returns-clause-kept g c =
    c.start_job.ensures.kept c.args.transcript.now.holding c.args.transcript.now.last
    (c.filter_head.ensures.kept c.args.transcript.now.holding c.args.transcript.now.last
    c.begin_entry.ensures.kept)
