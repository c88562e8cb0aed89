use Rattle.std.proofs.Common.{codes}
use Rattle.h1_echo.proofs.EchoLemmas.{only_memory, coding_is_a_line}
use Rattle.h1_echo.proofs.echo.state_length.Goals as goal

pub returns-then-eq-2-clause-err : goal.returns-then-eq-2-clause-err
returns-then-eq-2-clause-err c =
    only_memory _ (codes "transfer-encoding") (codes "chunked") coding_is_a_line
    c.append_header.ensures.refused
