-- Heads within a limit: at most one, which stays.
use Rattle.std.proofs.Common.{◌≡◌, ℕ, ◌+◌, ◌<◌, ◌≤◌, Option, Some, None, List, ◌++◌, length, take, drop, refl, sym, ◌∙◌, ap, arith, length-append, append_assoc}
use Rattle.std.proofs.lemmas.List.{take-append-drop, take-append-le}
use Rattle.std.proofs.lemmas.Grind.{common_steps}
use Rattle.h1_cut.specs.Cut.{cut}
use Rattle.h1_cut.specs.Limit.{CutsAt, HasNoCut}
use Rattle.h1_cut.proofs.CutLemmas.{cut-append, cut_front, take_within}

some_same : (m n : ℕ) → Some m ≡ Some n → m ≡ n
some_same m n h = cc

-- the bytes have one first head
pub CutsAt-unique : (limit : ℕ) (bytes : List ℕ) (m n : ℕ) → CutsAt limit bytes m
    → CutsAt limit bytes n → m ≡ n
CutsAt-unique limit bytes m n a b = some_same m n (sym a.cut_is ∙ b.cut_is)

take_front_le : (bytes more : List ℕ) (n : ℕ) → n ≤ length bytes
    → take n (bytes ++ more) ≡ take n bytes
take_front_le bytes more n within = take-append-le n bytes more within

-- its bytes stay the same whatever comes
pub CutsAt-front : (limit : ℕ) (bytes more : List ℕ) (n : ℕ) → CutsAt limit bytes n
    → take n (bytes ++ more) ≡ take n bytes
CutsAt-front limit bytes more n a = take_front_le bytes more n a.within

pub CutsAt-append : (limit : ℕ) (bytes more : List ℕ) (n : ℕ) → CutsAt limit bytes n
    → CutsAt limit (bytes ++ more) n
CutsAt-append limit bytes more n a = record {
  cut_is = cut-append bytes more n a.cut_is;
  own = ap cut (CutsAt-front limit bytes more n a) ∙ a.own;
  some = a.some;
  limited = a.limited;
  within =
      let l : length (bytes ++ more) ≡ length bytes + length more = length-append bytes more in
      let w : n ≤ length bytes = a.within in
      omega arith;
}

-- where there are as many bytes as the limit, what comes later makes no head within it
pub HasNoCut-append : (limit : ℕ) (bytes more : List ℕ) → limit ≤ length bytes
    → HasNoCut limit bytes → HasNoCut limit (bytes ++ more)
unfolding HasNoCut
HasNoCut-append limit bytes more full none = ap cut (take_front_le bytes more limit full) ∙ none

pub split_take : (bytes : List ℕ) (n limit : ℕ) → n ≤ limit
    → take limit bytes ≡ take n bytes ++ drop n (take limit bytes)
split_take bytes n limit h =
    sym (take-append-drop n (take limit bytes))
    ∙ ap (λ (x : List ℕ). x ++ drop n (take limit bytes)) (take_within limit n bytes h)

-- a head within the limit is found in the bytes through the limit
pub CutsAt-found : (limit : ℕ) (bytes : List ℕ) (n : ℕ) → CutsAt limit bytes n
    → cut (take limit bytes) ≡ Some n
CutsAt-found limit bytes n a =
    ap cut (split_take bytes n limit a.limited)
    ∙ cut-append (take n bytes) (drop n (take limit bytes)) n a.own

pub cut_or_not : (limit : ℕ) (bytes : List ℕ) (n : ℕ) → CutsAt limit bytes n → HasNoCut limit bytes
    → ⊥
unfolding HasNoCut
cut_or_not limit bytes n a none =
    let e : None ≡ Some n = sym none ∙ CutsAt-found limit bytes n a in
    cc

none_of : (front rest : List ℕ) (n : ℕ) (found : Option ℕ) → found ≡ cut front
    → cut (front ++ rest) ≡ Some n → length front < n → found ≡ None
none_of front rest n None e is less = refl
none_of front rest n (Some m) e is less =
    let f = cut_front front m (sym e) in
    let same : m ≡ n = some_same m n (sym (cut-append front rest m (sym e)) ∙ is) in
    absurd (omega (arith, f.1))

length_short : (bytes : List ℕ) (k limit : ℕ) → length (take limit (take k bytes)) ≤ k
length_short bytes k limit = grind (arith, common_steps)

whole_again : (bytes : List ℕ) (k limit : ℕ)
    → take limit (take k bytes) ++ (drop limit (take k bytes) ++ drop k bytes) ≡ bytes
whole_again bytes k limit = rw (← append_assoc) (grind (arith, common_steps))

-- no front of a head is a head
pub fronts_uncut : (limit : ℕ) (bytes : List ℕ) (n k : ℕ) → CutsAt limit bytes n → k < n
    → HasNoCut limit (take k bytes)
unfolding HasNoCut
fronts_uncut limit bytes n k a short =
    none_of (take limit (take k bytes)) (drop limit (take k bytes) ++ drop k bytes) n
    (cut (take limit (take k bytes))) refl
    (ap cut (whole_again bytes k limit) ∙ a.cut_is) (omega (arith, length_short bytes k limit))
