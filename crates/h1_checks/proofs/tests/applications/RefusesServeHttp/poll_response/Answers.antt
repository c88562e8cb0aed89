use Rattle.std.proofs.Common.{ap}
use Rattle.h1_application.specs.Application.{given_by}
use Rattle.h1_application.proofs.ReadLemmas.{reads_itself}
use Rattle.h1_application.proofs.SettingLemmas.{refusal_in_time, refusal_reads}
use Rattle.h1_application.proofs.TimeLemmas.{in_time_itself}
use Rattle.h1_echo.proofs.RefusalLemmas.{refusal_gives}
use Rattle.h1_checks.proofs.tests.applications.RefusesServeHttp.poll_response.Goals as goal

pub returns-then-job-self-clause-reads : goal.returns-then-job-self-clause-reads
returns-then-job-self-clause-reads g c = reads_itself g.L.Link.state c.args.http.now

pub returns-clause-reads : goal.returns-clause-reads
returns-clause-reads g c =
    refusal_reads g.L.Link.state c.args.http.now
    c.set_close_on_response_before_downstream_finish.new.self c.set_pipelining_enabled.new.self _ _
    c.set_close_on_response_before_downstream_finish.ensures c.set_pipelining_enabled.ensures
    (ap (λ s. s.settings.reuses) c.set_close_on_response_before_downstream_finish.ensures)

pub returns-then-job-self-clause-timed : goal.returns-then-job-self-clause-timed
returns-then-job-self-clause-timed g c = in_time_itself g.L.Link.state c.args.now c.args.http.now

pub returns-clause-timed : goal.returns-clause-timed
returns-clause-timed g c =
    refusal_in_time g.L.Link.state c.args.now c.args.http.now
    c.set_close_on_response_before_downstream_finish.new.self c.set_pipelining_enabled.new.self _ _
    c.set_close_on_response_before_downstream_finish.ensures c.set_pipelining_enabled.ensures

pub returns-clause-gives : goal.returns-clause-gives
returns-clause-gives g c = λ head began asked runs.
    refusal_gives (given_by head began c.set_pipelining_enabled.new.self)
    c.refusal.result c.refusal.ensures.ok c.refusal.ensures.err
