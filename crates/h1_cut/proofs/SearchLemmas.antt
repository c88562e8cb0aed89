-- A search that goes on over the bytes of a stream.
use Rattle.std.proofs.Common.{◌≡◌, ℕ, ◌+◌, ◌≤◌, Option, None, Some, List, [], ◌++◌, length, take, drop, min, MatchOption, sym, ◌∙◌, ap, arith, append_assoc, append-nil, length-append, take_all}
use Rattle.std.proofs.lemmas.List.{length-take, take-append-le, take_min}
use Rattle.h1_cut.specs.declared.search.HeadSearch.{HeadSearch}
use Rattle.h1_cut.specs.Cut.{cut}
use Rattle.h1_cut.specs.Limit.{CutsAt, HasNoCut}
use Rattle.h1_cut.specs.Search.{Advanced, HasLooked, HasLookedAt, at_of, found_by}
use Rattle.h1_cut.proofs.CutLemmas.{cut-append, cut_taken}
use Rattle.h1_cut.proofs.LimitLemmas.{CutsAt-found, split_take}

-- what comes later doesn't change what was looked at
pub HasLookedAt-append : (s : HeadSearch) (bytes more : List ℕ) → HasLookedAt s bytes
    → HasLookedAt s (bytes ++ more)
HasLookedAt-append s bytes more h = record {
  within = let w : at_of s ≤ length bytes = h.within in omega (arith, length-append bytes more);
  same = λ rest. h.same rest
      ∙ ap (λ (front : List ℕ). cut (front ++ rest))
      (sym (take-append-le (at_of s) bytes more h.within));
}

pub HasLooked-append : (limit : ℕ) (s : HeadSearch) (bytes more : List ℕ) → HasLooked limit s bytes
    → HasLooked limit s (bytes ++ more)
HasLooked-append limit s bytes more h =
    let on = HasLookedAt-append s bytes more (record { within = h.within; same = h.same }) in
    record { within = on.within; limited = h.limited; same = on.same }

-- what the search looked at and what it looks at are the front
meets : (limit at : ℕ) (bytes front : List ℕ) → at ≤ limit → front ≡ take limit bytes
    → take at bytes ++ drop at front ≡ front
meets limit at bytes front limited is =
    ap (λ (x : List ℕ). take at bytes ++ drop at x) is ∙ sym (split_take bytes at limit limited)
    ∙ sym is

-- a search that looked at the front finds what is in it and behind it
pub finds_behind : (limit : ℕ) (old new : HeadSearch) (bytes front : List ℕ)
    → HasLooked limit old bytes → front ≡ take limit bytes
    → ((more : List ℕ) → found_by new more ≡ found_by old (drop (at_of old) front ++ more))
    → (rest : List ℕ) → found_by new rest ≡ cut (front ++ rest)
finds_behind limit old new bytes front h is kept rest =
    kept rest ∙ h.same (drop (at_of old) front ++ rest)
    ∙ ap cut (sym (append_assoc (take (at_of old) bytes) (drop (at_of old) front) rest))
    ∙ ap (λ (x : List ℕ). cut (x ++ rest)) (meets limit (at_of old) bytes front h.limited is)

-- what is found in the front is what is found within the limit
pub finds_within : (limit : ℕ) (new : HeadSearch) (bytes front : List ℕ) (found : Option ℕ)
    → front ≡ take limit bytes → ((rest : List ℕ) → found_by new rest ≡ cut (front ++ rest))
    → found ≡ found_by new [] → MatchOption found (HasNoCut limit bytes) (CutsAt limit bytes)
finds_within limit new bytes front found is behind finds =
    cut_taken limit bytes found (finds ∙ behind [] ∙ ap cut (append-nil front ∙ is))

pub front_is : (limit m : ℕ) (bytes front : List ℕ) → front ≡ take m bytes
    → m ≡ min limit (length bytes) → front ≡ take limit bytes
front_is limit m bytes front is least =
    is ∙ ap (λ (n : ℕ). take n bytes) least ∙ take_min limit bytes

front_length : (limit : ℕ) (bytes front : List ℕ) → front ≡ take limit bytes
    → length front ≡ min limit (length bytes)
front_length limit bytes front is = ap length is ∙ length-take limit bytes

same_behind : (limit : ℕ) (found : Option ℕ) (new : HeadSearch) (bytes front rest : List ℕ)
    → front ≡ take limit bytes → MatchOption found (HasNoCut limit bytes) (CutsAt limit bytes)
    → MatchOption found (at_of new ≡ length front) (λ n. at_of new ≡ n)
    → cut (front ++ rest) ≡ cut (take (at_of new) bytes ++ rest)
same_behind limit None new bytes front rest is finds at =
    ap (λ (x : List ℕ). cut (x ++ rest))
    (is ∙ sym (ap (λ (n : ℕ). take n bytes) (at ∙ front_length limit bytes front is)
    ∙ take_min limit bytes))
same_behind limit (Some n) new bytes front rest is finds at =
    cut-append front rest n (ap cut is ∙ CutsAt-found limit bytes n finds)
    ∙ sym (ap (λ (m : ℕ). cut (take m bytes ++ rest)) at ∙ cut-append (take n bytes) rest n finds.own)

-- the search has looked at the front, or at the head alone
pub looked_on : (limit : ℕ) (found : Option ℕ) (new : HeadSearch) (bytes front : List ℕ)
    → front ≡ take limit bytes → ((rest : List ℕ) → found_by new rest ≡ cut (front ++ rest))
    → MatchOption found (HasNoCut limit bytes) (CutsAt limit bytes)
    → MatchOption found (at_of new ≡ length front) (λ n. at_of new ≡ n)
    → at_of new ≤ length front → HasLooked limit new bytes
looked_on limit found new bytes front is behind finds at within = record {
  within = omega (arith, within, front_length limit bytes front is);
  limited = omega (arith, within, front_length limit bytes front is);
  same = λ rest. behind rest ∙ same_behind limit found new bytes front rest is finds at;
}

-- a limit at the end of the bytes is none
pub no_limit : (s : HeadSearch) (bytes : List ℕ) (limit : ℕ) → limit ≡ length bytes
    → HasLookedAt s bytes → HasLooked limit s bytes
no_limit s bytes limit is h = record {
  within = h.within;
  limited = let w : at_of s ≤ length bytes = h.within in omega arith;
  same = h.same;
}

pub cut_without_limit : (found : Option ℕ) (bytes : List ℕ) (limit : ℕ) → limit ≡ length bytes
    → MatchOption found (HasNoCut limit bytes) (CutsAt limit bytes) → found ≡ cut bytes
unfolding HasNoCut
cut_without_limit None bytes limit is finds =
    sym finds ∙ ap cut (ap (λ (n : ℕ). take n bytes) is ∙ take_all (length bytes) bytes (omega arith))
cut_without_limit (Some n) bytes limit is finds = sym finds.cut_is

stands : (found : Option ℕ) (bytes : List ℕ) (limit at : ℕ) → limit ≡ length bytes
    → MatchOption found (at ≡ min limit (length bytes)) (λ n. at ≡ n)
    → MatchOption found (at ≡ length bytes) (λ n. at ≡ n)
stands None bytes limit at is h = omega arith
stands (Some n) bytes limit at is h = h

-- what a call leaves
pub advanced : (found : Option ℕ) (old new : HeadSearch) (bytes : List ℕ) (limit a b : ℕ)
    → limit ≡ length bytes → found ≡ cut bytes → HasLooked limit new bytes
    → MatchOption found (at_of new ≡ min limit (length bytes)) (λ n. at_of new ≡ n)
    → b + at_of old ≤ a + at_of new → Advanced old new bytes a b
advanced found old new bytes limit a b is finds h at steps = record {
  looked = record { within = h.within; same = h.same };
  at = rw (← finds) (stands found bytes limit (at_of new) is at);
  steps = steps;
}
