-- What is read, and what is replied.
use Rattle.h1_echo.proofs.EchoLemmas.{gives_whole, gives_refused, reads_with_settings}
use Rattle.h1_echo.proofs.echo.EchoAppServeHttp.poll_response.Goals as goal

pub returns-in-Refused-clause-gives : goal.returns-in-Refused-clause-gives
returns-in-Refused-clause-gives g c head began asked runs =
    gives_refused g.L.Link.state _ c.set_up.new.http _ c.requires.request
    c.set_up.ensures.rest c.set_up.ensures.settings c.read_body.ensures.reads
    c.read_body.ensures.settings head began asked runs _
    c.in-Refused.ensures.cause c.in-Refused.ensures.limit c.refusal.ensures.ok c.refusal.ensures.err

pub returns-in-Whole-clause-gives : goal.returns-in-Whole-clause-gives
returns-in-Whole-clause-gives g c head began asked runs =
    gives_whole g.L.Link.state _ c.set_up.new.http _ c.requires.request
    c.set_up.ensures.rest c.set_up.ensures.settings c.read_body.ensures.reads
    c.read_body.ensures.settings head began asked runs
    _ _ c.reply_in_room.ensures.same c.in-Whole.ensures.cause c.in-Whole.ensures.limit c.reply_in_room.ensures.ok
    c.reply_in_room.ensures.small c.reply_in_room.ensures.err

pub returns-in-Refused-clause-reads : goal.returns-in-Refused-clause-reads
returns-in-Refused-clause-reads g c =
    reads_with_settings g.L.Link.state _ c.set_up.new.http _ c.set_up.ensures.rest c.requires.request
    c.set_up.ensures.settings c.read_body.ensures.reads
