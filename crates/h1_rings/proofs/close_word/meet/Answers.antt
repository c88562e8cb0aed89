use Rattle.std.proofs.Common.{rules, ap, ◌∙◌}
use Rattle.h1_rings.proofs.WordSteps.{hands_on, merges, compares}
use Rattle.h1_rings.specs.declared.close_word.WordView.{WordView}
use Rattle.h1_rings.proofs.close_word.meet.Goals as goal

pub split_pass-other-requires : goal.split_pass-other-requires
split_pass-other-requires g c = (search rules, (search rules, (search rules, hands_on _ _ c.requires.owns.1)))

pub join_pass-requires : goal.join_pass-requires
join_pass-requires g c = (search rules, (search rules, (search rules, merges _ _ _ _ c.requires.owns.0)))

pub load_as-requires : goal.load_as-requires
load_as-requires g c = (search rules, (search rules, (search rules, compares _ _ (ap (λ (v : WordView). v.owns) c.join_pass.ensures.1 ∙ c.requires.owns.0))))
