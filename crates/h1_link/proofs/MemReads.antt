-- Lemmas on what a read of a link in memory gives.
use Rattle.std.proofs.Common.{◌≡◌, ℕ, ◌+◌, ◌-◌, ◌≤◌, List, ◌++◌, take, drop, length, sym, ap, ◌∙◌, length-drop, arith}
use Rattle.std.proofs.lemmas.List.{take_at, length-take}
use Rattle.std.proofs.Math.Seq.{take-add}

-- what a read copied stands after what was given before
pub take_read : (next n : ℕ) (put got rest : List ℕ) → next + n ≤ length put
    → got ≡ take (next + n - next) (drop next put)
    → take next put ++ take n (got ++ rest) ≡ take (next + n) put
take_read next n put got rest within copied =
    let sum : next + n - next ≡ n = omega arith in
    let same : got ≡ take n (drop next put) = copied ∙ ap (λ k. take k (drop next put)) sum in
    let counted : length got ≡ n = rw (same, length-take, length-drop) (omega arith) in
    let front : take n (got ++ rest) ≡ got = take_at got rest n counted in
    rw (front, same) (sym (take-add next n put))
