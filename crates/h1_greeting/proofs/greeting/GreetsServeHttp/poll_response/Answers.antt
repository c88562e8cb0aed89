use Rattle.h1_greeting.proofs.GreetingLemmas.{greets}
use Rattle.h1_application.proofs.SettingLemmas.{refusal_in_time, refusal_reads}
use Rattle.h1_greeting.proofs.greeting.GreetsServeHttp.poll_response.Goals as goal
use Rattle.std.proofs.Common.{refl}

pub returns-clause-reads : goal.returns-clause-reads
returns-clause-reads g c =
    refusal_reads g.L.Link.state c.args.http.now c.args.http.now
    c.set_pipelining_enabled.new.self _ _ refl c.set_pipelining_enabled.ensures refl

pub returns-clause-timed : goal.returns-clause-timed
returns-clause-timed g c =
    refusal_in_time g.L.Link.state c.args.now c.args.http.now c.args.http.now
    c.set_pipelining_enabled.new.self _ _ refl c.set_pipelining_enabled.ensures

pub returns-clause-gives : goal.returns-clause-gives
returns-clause-gives g c = λ head began asked runs.
    greets c.args.http.now c.set_pipelining_enabled.new.self head began c.greeting.result
    c.set_pipelining_enabled.ensures runs c.greeting.ensures.ok c.greeting.ensures.err
