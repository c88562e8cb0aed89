use Rattle.std.proofs.Common.{subst, sym}
use Rattle.h1_head.specs.ResponseHead.{IsFoundIn}
use Rattle.h1_head.proofs.ResponseGrammarLemmas.{found_told}
use Rattle.h1_head.proofs.response_head.search_on.Goals as goal

pub returns-in_ok-judge_head-in-At-clause-ok : goal.returns-in_ok-judge_head-in-At-clause-ok
returns-in_ok-judge_head-in-At-clause-ok c =
    subst (IsFoundIn c.args.bytes.now c.judge_head.new.found) (sym c.told.ensures)
    (found_told _ _ c.in_ok-judge_head-in-At.field-0 c.in-At.len c.in-At.ensures.end
    c.in_ok-judge_head-in-At.ensures.ok)
