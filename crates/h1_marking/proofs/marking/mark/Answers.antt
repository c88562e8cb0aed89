-- The line is refused only where memory ran out.
use Rattle.std.proofs.Common.{codes, ◌∙◌, arith}
use Rattle.h1_echo.proofs.EchoLemmas.{only_memory}
use Rattle.h1_marking.proofs.MarkingLemmas.{mark_is_a_line}
use Rattle.h1_marking.proofs.marking.mark.Goals as goal

pub returns-clause-err : goal.returns-clause-err
returns-clause-err c =
    let value = c.as_bytes.result.now in
    let fits =
    mark_is_a_line value c.args.number
    (c.as_bytes.ensures.value ∙ c.in_ok-digits.ensures.ok) (omega arith) in
    only_memory _ (codes "x-mark") value fits c.append_header.ensures.refused
