use Rattle.std.proofs.Common.{◌≡◌, false, All, take}
use Rattle.h1_fields.specs.ListParts.{is_comma}
use Rattle.h1_fields.proofs.lists.first_piece.Given as goal

abbrev pub invariant-loop-at : goal.invariant-loop-at
invariant-loop-at l = All (λ b. is_comma b ≡ false) (take l.at l.value)
