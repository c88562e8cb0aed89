use Rattle.std.proofs.Common.{subst, sym}
use Rattle.h1_head.specs.ResponseHead.{IsFoundIn}
use Rattle.h1_head.proofs.RequestHeadLemmas.{not_yet_empty}
use Rattle.h1_head.proofs.ResponseGrammarLemmas.{found_told}
use Rattle.h1_head.proofs.response_head.search_response_head.Goals as goal

pub returns-in-Some-clause-ok : goal.returns-in-Some-clause-ok
returns-in-Some-clause-ok c =
    let judged = rw c.in-Some.is at c.in_ok-fault.ensures.ok in
    subst (IsFoundIn c.args.bytes.now c.judge_front.new.found) (sym c.told.ensures)
    (found_told _ _ c.in-Some.fault c.in-Some.len judged.0 judged.1)

pub returns-then-is_empty-clause-ok : goal.returns-then-is_empty-clause-ok
returns-then-is_empty-clause-ok c = not_yet_empty c.args.bytes.now c.if-is_empty.ensures
