use Rattle.std.proofs.Common.{ℕ, List, refl, subst}
use Rattle.h1_head.specs.declared.response_head.ResponseHead.{ResponseHead}
use Rattle.h1_head.specs.ResponseVerdict.{IsJudged}
use Rattle.h1_head.proofs.ResponseGrammarLemmas.{settled_is}
use Rattle.h1_head.proofs.response_head.judge_head.Goals as goal

pub returns-clause-ok : goal.returns-clause-ok
returns-clause-ok c =
    let raw = c.in_ok-found.ensures.ok in
    let head : ResponseHead =
    record { header = c.settle.new.header; raw = c.in_ok-found.field-0 } in
    let judged = settled_is _ _ head _ _ c.in_ok-parsed.ensures.ok c.settle.ensures refl in
    subst (λ (b : List ℕ). IsJudged b head c.settle.result) raw judged
