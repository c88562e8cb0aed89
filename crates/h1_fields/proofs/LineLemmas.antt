-- The values of a name after an insertion and after a removal.
use Rattle.std.proofs.Common.{◌≡◌, ℕ, Bool, true, false, cond, List, [], ◌∷◌, is_some, refl, sym, ap, ◌∙◌}
use Rattle.h1_fields.specs.Names.{same_name}
use Rattle.h1_fields.specs.Lines.{Line, is_named, has_line, values_of, first_of, first_value, with_line, without}
use Rattle.h1_fields.proofs.NameLemmas.{same_name_itself, other_name, other_name_back}

pub values-without : (name : List ℕ) (lines : List Line) → values_of name (without name lines) ≡ []
values-without name [] = refl
values-without name (line ∷ lines) = by_test (values-without name lines) (is_named name line) refl
  where
    by_test : values_of name (without name lines) ≡ [] → (t : Bool) → is_named name line ≡ t
        → values_of name (without name (line ∷ lines)) ≡ []
    by_test gone true named = simp named gone
    by_test gone false named = simp named gone

pub values-without_other : (name other : List ℕ) (lines : List Line) → same_name name other ≡ false
    → values_of other (without name lines) ≡ values_of other lines
values-without_other name other [] differ = refl
values-without_other name other (line ∷ lines) differ =
    by_test (values-without_other name other lines differ) (is_named name line) refl
  where
    by_test : values_of other (without name lines) ≡ values_of other lines → (t : Bool)
        → is_named name line ≡ t
        → values_of other (without name (line ∷ lines)) ≡ values_of other (line ∷ lines)
    by_test kept true named =
        let not_other : is_named other line ≡ false = other_name name other line.0 differ named in
        simp (named, not_other) kept
    by_test kept false named =
        rw named (ap (λ rest. cond (is_named other line) (line.1 ∷ rest) rest) kept)

pub values-with_line : (name value : List ℕ) (lines : List Line)
    → values_of name (with_line name value lines) ≡ value ∷ []
values-with_line name value [] = rw (same_name_itself name) refl
values-with_line name value (line ∷ lines) =
    by_test (values-with_line name value lines) (is_named name line) refl
  where
    by_test : values_of name (with_line name value lines) ≡ value ∷ [] → (t : Bool)
        → is_named name line ≡ t
        → values_of name (with_line name value (line ∷ lines)) ≡ value ∷ []
    by_test later true named =
        rw (named, same_name_itself name) (ap (λ rest. value ∷ rest) (values-without name lines))
    by_test later false named = simp named later

pub values-with_line_other : (name value other : List ℕ) (lines : List Line)
    → same_name name other ≡ false
    → values_of other (with_line name value lines) ≡ values_of other lines
values-with_line_other name value other [] differ = rw (other_name_back name other differ) refl
values-with_line_other name value other (line ∷ lines) differ =
    by_test (values-with_line_other name value other lines differ) (is_named name line) refl
  where
    by_test : values_of other (with_line name value lines) ≡ values_of other lines → (t : Bool)
        → is_named name line ≡ t
        → values_of other (with_line name value (line ∷ lines)) ≡ values_of other (line ∷ lines)
    by_test kept true named =
        let not_other : is_named other line ≡ false = other_name name other line.0 differ named in
        simp (named, not_other, other_name_back name other differ)
        (values-without_other name other lines differ)
    by_test kept false named =
        rw named (ap (λ rest. cond (is_named other line) (line.1 ∷ rest) rest) kept)

-- a line is there where it has a first value
pub has_line_is : (name : List ℕ) (lines : List Line)
    → has_line name lines ≡ is_some (first_value name lines)
has_line_is name [] = refl
has_line_is name (line ∷ lines) = by_test (has_line_is name lines) (is_named name line) refl
  where
    by_test : has_line name lines ≡ is_some (first_value name lines) → (t : Bool)
        → is_named name line ≡ t
        → has_line name (line ∷ lines) ≡ is_some (first_value name (line ∷ lines))
    by_test same true named = rw named refl
    by_test same false named = rw named same

-- lines with the same values of a name both have it or both lack it
pub has_line_same : (name : List ℕ) (lines others : List Line)
    → values_of name lines ≡ values_of name others
    → has_line name lines ≡ has_line name others
has_line_same name lines others same =
    has_line_is name lines ∙ ap (λ values. is_some (first_of values)) same
    ∙ sym (has_line_is name others)
