-- Names that are the same in any case.
use Rattle.std.proofs.Common.{◌≡◌, ℕ, true, false, List, map, bytes_eq, Decides, refl, sym, ap, ◌∙◌}
use Rattle.std.specs.Char.{to_ascii_lowercase}
use Rattle.std.proofs.lemmas.Bool.{false_from_ne_true, false≢true}
use Rattle.std.proofs.lemmas.Slice.Eq.{bytes_eq-Decides}
use Rattle.h1_fields.specs.Names.{same_name}

-- two names are the same where their letters in lower case are
pub same_name_decides : (a b : List ℕ)
    → Decides (same_name a b) (map to_ascii_lowercase a ≡ map to_ascii_lowercase b)
unfolding same_name
same_name_decides a b = bytes_eq-Decides (map to_ascii_lowercase a) (map to_ascii_lowercase b)

-- equal bytes need no case
pub same_name_equal : (a b : List ℕ) → bytes_eq a b ≡ true → same_name a b ≡ true
same_name_equal a b equal =
    (same_name_decides a b).1 (ap (map to_ascii_lowercase) ((bytes_eq-Decides a b).0 equal))

pub same_name_found : (a b : List ℕ) → bytes_eq b a ≡ true → same_name a b ≡ true
same_name_found a b equal =
    (same_name_decides a b).1 (sym (ap (map to_ascii_lowercase) ((bytes_eq-Decides b a).0 equal)))

pub same_name_itself : (name : List ℕ) → same_name name name ≡ true
same_name_itself name = (same_name_decides name name).1 refl

-- two names that are the same as a third are the same
pub same_name_joins : (name other third : List ℕ) → same_name name third ≡ true
    → same_name other third ≡ true
    → same_name name other ≡ true
same_name_joins name other third one two =
    (same_name_decides name other).1
    ((same_name_decides name third).0 one ∙ sym ((same_name_decides other third).0 two))

-- what has one name hasn't another
pub other_name : (name other third : List ℕ) → same_name name other ≡ false
    → same_name name third ≡ true
    → same_name other third ≡ false
other_name name other third differ one =
    false_from_ne_true _ (λ two. false≢true (sym differ ∙ same_name_joins name other third one two))

pub other_name_back : (name other : List ℕ) → same_name name other ≡ false
    → same_name other name ≡ false
other_name_back name other differ = other_name name other name differ (same_name_itself name)
