-- What the filters make of a head is noted.
use Rattle.std.proofs.Common.{refl}
use Rattle.h1_app.proofs.Words.{chain}
use Rattle.h1_app.proofs.StartLemmas.{filtered_head, plain_head, refused_head}
use Rattle.h1_app.proofs.steps.reading_head.filter_head.Goals as goal

pub returns-then-is_empty-2-clause-ok : goal.returns-then-is_empty-2-clause-ok
returns-then-is_empty-2-clause-ok g c =
    let modules = g.B.Module.HttpModule in
    plain_head (chain g.B.HttpModuleBuilder.begins modules.request_header modules.response_header
    modules.response_body c.args.builders.now) c.args.session.now c.args.modules.now.modules
    c.args.transcript.now c.requires (rw (c.if-is_empty.ensures, c.if-is_empty-2.ensures) refl)

pub returns-clause-ok : goal.returns-clause-ok
returns-clause-ok g c =
    let modules = g.B.Module.HttpModule in
    filtered_head (chain g.B.HttpModuleBuilder.begins modules.request_header modules.response_header
    modules.response_body c.args.builders.now) c.args.session.now c.filter_noted.new.modules.modules
    c.args.transcript.now c.requires c.last_entry-entry.result.now c.req_header_mut-head.result.now
    c.filter_noted.new.head c.filter_noted.new.entry c.last_entry-entry.ensures.value
    c.req_header_mut-head.ensures.value c.filter_noted.result c.filter_noted.ensures.ok

pub returns-clause-err : goal.returns-clause-err
returns-clause-err g c =
    let modules = g.B.Module.HttpModule in
    refused_head (chain g.B.HttpModuleBuilder.begins modules.request_header modules.response_header
    modules.response_body c.args.builders.now) c.args.session.now c.filter_noted.new.modules.modules
    c.args.transcript.now c.requires c.last_entry-entry.result.now c.req_header_mut-head.result.now
    c.filter_noted.new.head c.filter_noted.new.entry c.last_entry-entry.ensures.value
    c.req_header_mut-head.ensures.value c.filter_noted.result c.filter_noted.ensures.err
