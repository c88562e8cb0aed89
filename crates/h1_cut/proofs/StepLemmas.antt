-- What the calls of a search cost together.
use Rattle.std.proofs.Common.{◌≡◌, ℕ, ◌+◌, ◌≤◌, Option, None, Some, List, [], ◌∷◌, ◌++◌, length, MatchOption, refl, arith, length-append}
use Rattle.h1_cut.specs.declared.search.HeadSearch.{HeadSearch}
use Rattle.h1_cut.specs.Cut.{cut}
use Rattle.h1_cut.specs.Search.{Advanced, Calls, at_of}
use Rattle.h1_cut.proofs.CutLemmas.{cut-append}

grows : (first second : Option ℕ) (bytes more at on before after : ℕ)
    → ((n : ℕ) → first ≡ Some n → second ≡ Some n)
    → MatchOption first (at ≡ bytes) (λ n. at ≡ n)
    → MatchOption second (on ≡ bytes + more) (λ n. on ≡ n) → on ≤ bytes + more
    → after + at ≤ before + on → after ≤ before + more
grows None second bytes more at on before after stays was is within steps = omega arith
grows (Some n) None bytes more at on before after stays was is within steps =
    let e : None ≡ Some n = stays n refl in cc
grows (Some n) (Some m) bytes more at on before after stays was is within steps =
    let e : Some m ≡ Some n = stays n refl in
    let same : m ≡ n = cc in
    omega arith

-- a call looks at bytes that weren't there at the call before
pub one_call : (s t u : HeadSearch) (bytes more : List ℕ) (a b c : ℕ) → Advanced s t bytes a b
    → Advanced t u (bytes ++ more) b c → c ≤ b + length more
one_call s t u bytes more a b c first second =
    let l : length (bytes ++ more) ≡ length bytes + length more = length-append bytes more in
    grows (cut bytes) (cut (bytes ++ more)) (length bytes) (length more) (at_of t) (at_of u) b c
    (cut-append bytes more) first.at (rw (← l) second.at) (rw (← l) second.looked.within)
    second.steps

-- all calls together look at no more bytes than the last has
pub all_calls : (calls : List (List ℕ)) (last : List ℕ) (s t : HeadSearch) (a b : ℕ)
    → Calls s a (calls ++ last ∷ []) t b → b + at_of s ≤ a + length last
all_calls [] last s t a b (next, count, call, ends) =
    let same : next ≡ t = ends.0 in
    let is : count ≡ b = ends.1 in
    let w : at_of next ≤ length last = call.looked.within in
    let c : count + at_of s ≤ a + at_of next = call.steps in
    omega arith
all_calls (bytes ∷ calls) last s t a b (next, count, call, later) =
    let c : count + at_of s ≤ a + at_of next = call.steps in
    let r : b + at_of next ≤ count + length last = all_calls calls last next t count b later in
    omega arith
