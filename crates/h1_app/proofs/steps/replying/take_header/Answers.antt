-- The header is taken up.
use Rattle.std.proofs.Common.{◌≡◌, ◌∙◌, Some, refl, sym, false, arith}
use Rattle.std.proofs.lemmas.Option.{same_Some}
use Rattle.h1_server.specs.Replies.{kept_by}
use Rattle.h1_app.specs.declared.exchange.Stage.TheVariants as at
use Rattle.h1_app.proofs.CallSteps.{call_continues, call_leaves}
use Rattle.h1_app.proofs.Words.{NotesHeader}
use Rattle.h1_app.proofs.ReplySteps.{filtered_header_stepped, made_final, own_made, own_noted, refused_header_stepped}
use Rattle.h1_app.proofs.steps.replying.take_header.Goals as goal

pub returns-in-Err-clause-stepped : goal.returns-in-Err-clause-stepped
returns-in-Err-clause-stepped g c = λ shutdown.
    refused_header_stepped _ _ _ c.args.now _ _ _ c.requires.ready
    (rw c.requires.at at c.requires.ready.ready.sound) g.L.Link.state _ shutdown _ _ c.in-Err.error
    (rw c.last_entry-entry.ensures.value c.in-Err.ensures.err)
    (sym c.last_entry-entry.ensures.value) refl refl refl

-- the reply's own header goes out where there are no modules
pub poll_write_response_header_ref-answer-requires-clause-is_final :
    goal.poll_write_response_header_ref-answer-requires-clause-is_final
poll_write_response_header_ref-answer-requires-clause-is_final g c =
    made_final _ _ _ c.args.now _ c.args.modules.now.modules _ c.requires.ready
    (rw c.requires.at at c.requires.ready.ready.sound) c.own_header.result.now
    (g.met.B.LawfulFor.lawful c.args.server.now.app c.args.server.now.modules)
    (rw c.last_entry-entry.ensures.value (own_made g.B.Module.HttpModule.response_header _ _ _
    c.if-is_empty.ensures c.own_header.ensures))

pub returns-then-eq-clause-stepped : goal.returns-then-eq-clause-stepped
returns-then-eq-clause-stepped g c = λ shutdown.
    let same = c.date-date.ensures.same in
    let h = rw c.requires.at at c.requires.ready.ready.sound in
    let call = c.poll_write_response_header_ref-answer in
    let entry = c.last_entry-entry.result.now in
    let is : entry ≡ h.0 = same_Some entry h.0 (sym c.last_entry-entry.ensures.value ∙ h.1) in
    rw same (filtered_header_stepped _ _ _ c.args.now _ _ _ c.requires.ready h g.L.Link.state _
    shutdown _ _ c.own_header.result.now _ _ _ _ c.note_own_header.new.entry c.requires.at
    (g.met.B.LawfulFor.lawful c.args.server.now.app c.args.server.now.modules)
    (rw c.last_entry-entry.ensures.value (own_made g.B.Module.HttpModule.response_header _ _ _
    c.if-is_empty.ensures c.own_header.ensures))
    (rw c.last_entry-entry.ensures.value (own_noted (λ header.
    NotesHeader (kept_by (Some header) call.new.self.reply.headed) header c.args.now
    c.reply_keeps-keep.result c.written_bytes-written.result entry c.note_own_header.new.entry)
    entry.reply c.own_header.result.now (rw (is, h.4.is) refl) c.own_header.ensures
    (rw c.is_headed-headed.ensures at c.note_own_header.ensures)))
    refl call.ensures.writes (rw same at c.reply_keeps-keep.ensures)
    (rw same at c.written_bytes-written.ensures) c.stand.ensures)

pub returns-then-eq-clause-leaves : goal.returns-then-eq-clause-leaves
returns-then-eq-clause-leaves g c =
    rw c.date-date.ensures.same (call_leaves _ _ _ _ _ _ _ _ _ _
    c.poll_write_response_header_ref-answer.ensures.calls c.stand.ensures)

-- else what the modules made of it
pub poll_write_response_header_ref-answer-requires-2-clause-is_final :
    goal.poll_write_response_header_ref-answer-requires-2-clause-is_final
poll_write_response_header_ref-answer-requires-2-clause-is_final g c =
    made_final _ _ _ c.args.now _ c.sent_header.new.modules.modules _ c.requires.ready
    (rw c.requires.at at c.requires.ready.ready.sound) c.in-Ok.header
    (g.met.B.LawfulFor.lawful c.args.server.now.app c.args.server.now.modules)
    (rw c.last_entry-entry.ensures.value c.in-Ok.ensures.ok)

pub returns-clause-stepped : goal.returns-clause-stepped
returns-clause-stepped g c = λ shutdown.
    let same = c.date-date-2.ensures.same in
    rw same (filtered_header_stepped _ _ _ c.args.now _ _ _ c.requires.ready
    (rw c.requires.at at c.requires.ready.ready.sound) g.L.Link.state _ shutdown _ _
    c.in-Ok.header _ _ _ _ c.note_header.new.entry c.requires.at
    (g.met.B.LawfulFor.lawful c.args.server.now.app c.args.server.now.modules)
    (rw c.last_entry-entry.ensures.value c.in-Ok.ensures.ok)
    (rw c.last_entry-entry.ensures.value
    (rw c.is_headed-headed-2.ensures at c.note_header.ensures)) refl
    c.poll_write_response_header_ref-answer-2.ensures.writes
    (rw same at c.reply_keeps-keep-2.ensures) (rw same at c.written_bytes-written-2.ensures)
    c.stand-2.ensures)

pub returns-clause-continues : goal.returns-clause-continues
returns-clause-continues g c =
    let call = c.poll_write_response_header_ref-answer-2.ensures in
    rw c.date-date-2.ensures.same (call_continues g.L.Link.state _ _ _ _ _ _ _ (λ done. false)
    at.TakeHeader at.Header at.TakeBody c.requires.at refl refl call.plan tt tt tt call.calls
    (λ few. few) (λ few. omega (arith, few)) c.stand-2.ensures)

pub returns-clause-leaves : goal.returns-clause-leaves
returns-clause-leaves g c =
    rw c.date-date-2.ensures.same (call_leaves _ _ _ _ _ _ _ _ _ _
    c.poll_write_response_header_ref-answer-2.ensures.calls c.stand-2.ensures)
