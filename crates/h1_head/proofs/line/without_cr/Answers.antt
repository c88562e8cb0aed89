use Rattle.std.proofs.Common.{◌≡◌, ◌==◌, ◌∷◌, ◌++◌, [], false, rules, sym, ap, ◌∙◌}
use Rattle.h1_head.specs.Normal.{without_cr}
use Rattle.h1_head.proofs.PartLemmas.{last_cr, last_other}
use Rattle.h1_head.proofs.line.without_cr.Goals as goal

pub returns-in-Some : goal.returns-in-Some
returns-in-Some c =
    let split : c.args.line.now ≡ c.in-Some.front.now ++ c.in-Some.last.now ∷ [] = search rules in
    sym (ap without_cr split ∙ last_cr _ _ c.if-last-eq13.true)

pub returns-in_default : goal.returns-in_default
returns-in_default c =
    let split : c.args.line.now ≡ c.in-Some.front.now ++ c.in-Some.last.now ∷ [] = search rules in
    let other : (c.in-Some.last.now == 13) ≡ false = search rules in
    split ∙ sym (ap without_cr split ∙ last_other _ _ other)
