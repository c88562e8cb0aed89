use Rattle.std.proofs.Common.{ap, ◌∙◌, true, false}
use Rattle.h1_application.specs.Application.{payload_of}
use Rattle.h1_application.specs.AtOnce.{at_once}
use Rattle.h1_application.proofs.AtOnceLemmas.{answered}
use Rattle.h1_application.proofs.SettingLemmas.{refusal_in_time, refusal_reads, set_twice}
use Rattle.h1_application.proofs.respond.RespondsServeHttp.poll_response.Goals as goal

pub returns-clause-reads : goal.returns-clause-reads
returns-clause-reads g c =
    let timed = c.set_write_timeout.ensures in
    let closing = c.set_close_on_response_before_downstream_finish in
    refusal_reads g.L.Link.state c.args.http.now closing.new.self c.set_pipelining_enabled.new.self
    _ _
    (set_twice c.args.http.now c.set_write_timeout.new.self closing.new.self _ _ timed
    closing.ensures) c.set_pipelining_enabled.ensures
    (ap (λ s. s.settings.reuses) closing.ensures ∙ ap (λ s. s.settings.reuses) timed)

pub returns-clause-timed : goal.returns-clause-timed
returns-clause-timed g c =
    let timed = c.set_write_timeout.ensures in
    let closing = c.set_close_on_response_before_downstream_finish in
    refusal_in_time g.L.Link.state c.args.now c.args.http.now closing.new.self
    c.set_pipelining_enabled.new.self _ _
    (set_twice c.args.http.now c.set_write_timeout.new.self closing.new.self _ _ timed
    closing.ensures) c.set_pipelining_enabled.ensures

pub returns-clause-gives : goal.returns-clause-gives
returns-clause-gives g c head began asked runs =
    let timed = c.set_write_timeout.ensures in
    let closing = c.set_close_on_response_before_downstream_finish.ensures in
    let follows = c.set_pipelining_enabled.ensures in
    let same = ap (λ s. s.request) follows ∙ ap (λ s. s.request) closing
    ∙ ap (λ s. s.request) timed in
    answered (g.A.Respond.says c.args.self.now.0) head c.args.http.now
    c.set_pipelining_enabled.new.self began c.respond.result c.req_header.result.now c.requires.request same asked
    c.req_header.ensures c.respond.ensures.ok c.respond.ensures.lawful c.respond.ensures.err
    (ap payload_of follows ∙ ap payload_of closing ∙ ap payload_of timed ∙ runs.1)
    (ap (λ s. s.settings) follows
    ∙ ap (λ s. record s.settings { pipelining = true }) closing
    ∙ ap (λ s. record s.settings { closing = false; pipelining = true }) timed
    ∙ ap at_once runs.0)
