-- The first part of some bytes, and a line's end.
use Rattle.std.proofs.Common.{◌≡◌, ℕ, ◌+◌, ◌-◌, ◌<◌, ◌≤◌, ◌==◌, Bool, true, false, eq-eqb, All, List, [], ◌∷◌, ◌++◌, length, get_or, take, drop, refl, sym, ap, ◌∙◌, arith, subst, length-drop}
use Rattle.std.proofs.lemmas.List.{drop_more, take-append-drop, take_all}
use Rattle.std.proofs.lemmas.List.Splits.{slice_split_at, slice_split_none}
use Rattle.h1_head.specs.Normal.{parts_at, without_cr}

-- a slice from the place to the end
rest_of : (bytes : List ℕ) (place : ℕ)
    → take (length bytes - place) (drop place bytes) ≡ drop place bytes
rest_of bytes place = take_all _ (drop place bytes) (omega (arith, length-drop place bytes))

-- no byte before the place is this one, and the byte there is
pub part_before : (byte : ℕ) (bytes : List ℕ) (place : ℕ) → place < length bytes
    → All (λ b. (b == byte) ≡ false) (take place bytes) → get_or bytes place 0 ≡ byte
    → parts_at byte bytes
    ≡ take place bytes ∷ parts_at byte
    (take (length bytes - (place + 1)) (drop (place + 1) bytes))
part_before byte bytes place within clean there =
    let split : take place bytes ++ byte ∷ drop (place + 1) bytes ≡ bytes =
    ap (λ b. take place bytes ++ b ∷ drop (place + 1) bytes) (sym there)
    ∙ ap (λ rest. take place bytes ++ rest) (sym (drop_more bytes place 0 within))
    ∙ take-append-drop place bytes in
    ap (parts_at byte) (sym split)
    ∙ slice_split_at (λ b. b == byte) (take place bytes) byte (drop (place + 1) bytes) clean
    (eq-eqb byte byte refl)
    ∙ ap (λ rest. take place bytes ∷ parts_at byte rest) (sym (rest_of bytes (place + 1)))

-- no byte is this one
pub part_whole : (byte : ℕ) (bytes : List ℕ) (place : ℕ) → length bytes ≤ place
    → All (λ b. (b == byte) ≡ false) (take place bytes) → parts_at byte bytes ≡ bytes ∷ []
part_whole byte bytes place past clean =
    slice_split_none (λ b. b == byte) bytes
    (subst (All (λ b. (b == byte) ≡ false)) (take_all place bytes past) clean)

-- what is left without a CR is a front
pub without_cr_front : (line : List ℕ) → take (length (without_cr line)) line ≡ without_cr line
without_cr_front [] = refl
without_cr_front (b ∷ []) = by_test (b == 13) refl
  where
    by_test : (t : Bool) → (b == 13) ≡ t
        → take (length (without_cr (b ∷ []))) (b ∷ []) ≡ without_cr (b ∷ [])
    by_test true cr = rw cr refl
    by_test false other = rw other refl
without_cr_front (b ∷ c ∷ line) = ap (λ rest. b ∷ rest) (without_cr_front (c ∷ line))

-- the last byte is CR
pub last_cr : (front : List ℕ) (b : ℕ) → b ≡ 13 → without_cr (front ++ b ∷ []) ≡ front
last_cr [] b cr = rw cr refl
last_cr (x ∷ []) b cr = rw cr refl
last_cr (x ∷ y ∷ front) b cr = ap (λ rest. x ∷ rest) (last_cr (y ∷ front) b cr)

-- the last byte is another
pub last_other : (front : List ℕ) (b : ℕ) → (b == 13) ≡ false
    → without_cr (front ++ b ∷ []) ≡ front ++ b ∷ []
last_other [] b other = rw other refl
last_other (x ∷ []) b other = rw other refl
last_other (x ∷ y ∷ front) b other = ap (λ rest. x ∷ rest) (last_other (y ∷ front) b other)
