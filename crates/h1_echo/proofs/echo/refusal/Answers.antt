-- The number 0 has one digit.
use Rattle.h1_echo.proofs.EchoLemmas.{refusal_is}
use Rattle.h1_echo.proofs.echo.refusal.Goals as goal

pub returns-clause-ok : goal.returns-clause-ok
returns-clause-ok c =
    refusal_is c.in_ok-header.header c.append_content_length.new.self c.new.result
    c.in_ok-header.ensures.ok c.in_ok-append_content_length.ensures.ok c.new.ensures
