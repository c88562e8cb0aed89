-- Lemmas on payload that is cut out of received bytes.
use Rattle.std.proofs.Common.{◌≡◌, ℕ, ◌-◌, ◌<◌, ◌≤◌, List, [], ◌∷◌, length, take, drop, slice_range, Some, refl, sym, ap, ◌∙◌, min, length-take, length-drop, arith}
use Rattle.std.proofs.lemmas.Slice.{between_is}
use Rattle.h1_body.specs.Takes.{some_bytes}

some_bytes_some : (xs : List ℕ) → 0 < length xs → Some xs ≡ some_bytes xs
some_bytes_some [] some = absurd (omega (arith, some))
some_bytes_some (x ∷ xs) some = refl

-- a range that is not empty has bytes
pub range_some : (xs : List ℕ) (start end : ℕ) → start < end → end ≤ length xs
    → 0 < length (slice_range xs start end)
range_some xs start end some within =
    let long : length (slice_range xs start end) ≡ min (end - start) (length xs - start) =
    length-take (end - start) (drop start xs) ∙ ap (λ n. min (end - start) n) (length-drop start xs) in
    omega (arith, long, some, within)

range_is : (xs : List ℕ) (start end : ℕ) → start < end → end ≤ length xs
    → Some (slice_range xs start end) ≡ some_bytes (slice_range xs start end)
range_is xs start end some within =
    some_bytes_some (slice_range xs start end) (range_some xs start end some within)

-- what is left of the bytes through the end of a range where those before it are passed over
pub cut_is : (xs : List ℕ) (start end : ℕ) (front piece : List ℕ) → start < end → end ≤ length xs
    → front ≡ take end xs → piece ≡ drop start front
    → Some piece ≡ some_bytes (slice_range xs start end)
cut_is xs start end front piece some within front_is piece_is =
    ap Some (piece_is ∙ ap (drop start) front_is ∙ sym (between_is xs start end))
    ∙ range_is xs start end some within
