-- Lists that are cut at the first element that passes a test.
use Rattle.std.proofs.Common.{◌≡◌, ℕ, ◌+◌, ◌<◌, Bool, true, false, cond, not, ◌||◌, List, [], ◌∷◌, ◌++◌, length, take, Some, None, refl, arith, ltb, suc, get_or}
use Rattle.std.specs.List.{list_any, position, position_or_len}
use Rattle.std.proofs.lemmas.Bool.{true≢false, lt-ltb, not-false}
use Rattle.std.proofs.lemmas.Bool.Decides.{nat_tests}
use Rattle.std.proofs.lemmas.List.Sums.{prefix_len_stops}

pub none_of : (x y : Bool) → (x || y) ≡ false → (x ≡ false) × (y ≡ false)
none_of true y h = absurd (true≢false h)
none_of false y h = (refl, h)

-- none before the first that passes
none_more : (t : Bool) (p : ℕ → Bool) (k x : ℕ) (xs : List ℕ) → p x ≡ t →
    list_any p (take k xs) ≡ false → list_any p (take (cond (not t) (1 + k) 0) (x ∷ xs)) ≡ false
none_more true p k x xs e h = refl
none_more false p k x xs e h = let s : 1 + k ≡ suc k = omega arith in rw (s, e) h

pub none_before : (p : ℕ → Bool) (xs : List ℕ) → list_any p (take (position_or_len p xs) xs) ≡ false
none_before p [] = refl
none_before p (x ∷ xs) = none_more (p x) p (position_or_len p xs) x xs refl (none_before p xs)

-- the place of the first that passes, after those that don't
pub place_of_first : (p : ℕ → Bool) (front : List ℕ) (y : ℕ) (rest : List ℕ) →
    list_any p front ≡ false → p y ≡ true → position_or_len p (front ++ y ∷ rest) ≡ length front
place_of_first p [] y rest h e = rw e refl
place_of_first p (x ∷ front) y rest h e =
    let parts = none_of (p x) (list_any p front) h in
    let more : position_or_len p (front ++ y ∷ rest) ≡ length front =
    place_of_first p front y rest parts.1 e in
    rw (parts.0, more) (omega arith)

pub place_of_none : (p : ℕ → Bool) (xs : List ℕ) → list_any p xs ≡ false →
    position_or_len p xs ≡ length xs
place_of_none p [] h = refl
place_of_none p (x ∷ xs) h =
    let parts = none_of (p x) (list_any p xs) h in
    let more : position_or_len p xs ≡ length xs = place_of_none p xs parts.1 in
    rw (parts.0, more) (omega arith)

-- what a place says
chosen : (b : Bool) (k n i : ℕ) → ltb k n ≡ b → cond b (Some k) None ≡ Some i → (k ≡ i) × (k < n)
chosen true k n i test h = (cc, grind (arith, nat_tests))
chosen false k n i test h = cc

pub place_found : (p : ℕ → Bool) (xs : List ℕ) (i : ℕ) → position p xs ≡ Some i →
    (position_or_len p xs ≡ i) × (i < length xs)
place_found p xs i h =
    let found = chosen _ (position_or_len p xs) (length xs) i refl h in
    (found.0, omega (arith, found.0, found.1))

pub place_exists : (p : ℕ → Bool) (xs : List ℕ) (i : ℕ) → position_or_len p xs ≡ i →
    i < length xs → position p xs ≡ Some i
place_exists p xs i e h = rw (e, lt-ltb i (length xs) h) refl

pub passes_there : (p : ℕ → Bool) (xs : List ℕ) (i : ℕ) → position p xs ≡ Some i →
    p (get_or xs i 0) ≡ true
passes_there p xs i h =
    let found = place_found p xs i h in
    not-false _ (rw found.0 at
    (prefix_len_stops (λ x. not (p x)) xs 0 (omega (arith, found.0, found.1))))
