use Rattle.std.proofs.Common.{ℕ, List, refl, subst, sym}
use Rattle.h1_head.specs.declared.response_head.ResponseHead.{ResponseHead}
use Rattle.h1_head.specs.ResponseVerdict.{IsHeadAt, IsJudged}
use Rattle.h1_head.proofs.ResponseGrammarLemmas.{front_normal, settled_is}
use Rattle.h1_head.proofs.response_head.judge_front.Goals as goal

pub returns-clause-ok : goal.returns-clause-ok
returns-clause-ok c =
    let at = c.in-Some.ensures in
    let raw = c.in_ok-found.ensures.ok in
    let front =
    subst (λ (b : List ℕ). IsHeadAt b c.find_front.new.spans c.in-Some.front) (sym raw) at.front in
    let parsed = front_normal _ _ _ _ _ front c.in_ok-parsed.ensures.ok in
    let head : ResponseHead =
    record { header = c.settle.new.header; raw = c.in_ok-found.field-0 } in
    let judged = settled_is _ _ head _ _ parsed c.settle.ensures refl in
    (at.cuts, subst (λ (b : List ℕ). IsJudged b head c.settle.result) raw judged)
