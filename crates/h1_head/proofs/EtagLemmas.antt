-- One entry of a list of tags after another.
use Rattle.std.proofs.Common.{◌≡◌, refl, ℕ, suc, ◌==◌, true, false, List, length}
use Rattle.h1_head.specs.Etag.{behind, has_target, is_target, next_entry, without_weak}

-- no entry follows one that isn't the target
pub entry_ended : (n : ℕ) (target rest : List ℕ) → is_target target rest ≡ false
    → (length (next_entry (behind target rest)) == 0) ≡ true
    → has_target (suc n) target rest ≡ false
entry_ended n target rest other none = rw (other, none) refl

-- the entries behind it decide
pub entry_passed : (n : ℕ) (target rest : List ℕ) → is_target target rest ≡ false
    → (length (next_entry (behind target rest)) == 0) ≡ false
    → has_target (suc n) target rest
    ≡ has_target n target (without_weak (next_entry (behind target rest)))
entry_passed n target rest other some = rw (other, some) refl
