-- The first piece of a value.
use Rattle.std.proofs.Common.{◌≡◌, ℕ, ◌+◌, ◌-◌, ◌<◌, ◌≤◌, false, All, List, [], ◌∷◌, ◌++◌, length, get_or, take, drop, refl, sym, ap, ◌∙◌, arith, subst, length-drop}
use Rattle.std.specs.List.{slice_split}
use Rattle.std.proofs.lemmas.List.{drop_more, take-append-drop, take_all}
use Rattle.std.proofs.lemmas.List.Splits.{slice_split_at, slice_split_none}
use Rattle.h1_fields.specs.ListParts.{is_comma}

-- a slice from the place to the end
rest_of : (value : List ℕ) (place : ℕ)
    → take (length value - place) (drop place value) ≡ drop place value
rest_of value place = take_all _ (drop place value) (omega (arith, length-drop place value))

-- no byte before the place is a comma, and the byte there is one
pub piece_before : (value : List ℕ) (place : ℕ) → place < length value
    → All (λ b. is_comma b ≡ false) (take place value) → get_or value place 0 ≡ 44
    → slice_split is_comma value
    ≡ take place value ∷ slice_split is_comma
    (take (length value - (place + 1)) (drop (place + 1) value))
piece_before value place within clean comma =
    let parts : take place value ++ 44 ∷ drop (place + 1) value ≡ value =
    ap (λ b. take place value ++ b ∷ drop (place + 1) value) (sym comma)
    ∙ ap (λ rest. take place value ++ rest) (sym (drop_more value place 0 within))
    ∙ take-append-drop place value in
    ap (slice_split is_comma) (sym parts)
    ∙ slice_split_at is_comma (take place value) 44 (drop (place + 1) value) clean refl
    ∙ ap (λ rest. take place value ∷ slice_split is_comma rest) (sym (rest_of value (place + 1)))

-- no byte is a comma
pub piece_whole : (value : List ℕ) (place : ℕ) → length value ≤ place
    → All (λ b. is_comma b ≡ false) (take place value) → slice_split is_comma value ≡ value ∷ []
piece_whole value place past clean =
    slice_split_none is_comma value
    (subst (All (λ b. is_comma b ≡ false)) (take_all place value past) clean)
