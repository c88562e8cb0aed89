-- The exchanges in one list, of which all ended, or all but the last.
use Rattle.std.proofs.Common.{◌≡◌, ℕ, ◌+◌, ◌≤◌, zero, suc, List, [], ◌∷◌, ◌++◌, length, take, map, Some, None, IsSome, slice_get, slice_set, slice_index_or, option_to_list, Option, min, ◌^◌, ◌-◌, append-nil, append_assoc, length-append, refl, sym, ap, ◌∙◌, arith}
use Rattle.std.proofs.lemmas.Bool.{false≢true}
use Rattle.std.proofs.lemmas.List.Concat.{flat_map-cons}
use Rattle.h1_transcript.specs.Entries.{bodies, ended_entries}
use Rattle.h1_transcript.specs.Words.{Entry, History}
use Rattle.h1_transcript.specs.declared.history.History.TheVariants as histories

-- one more of them ended
pub one_more_ended : {X : Type 0} (xs : List X) (n : ℕ)
    → take (n + 1) xs ≡ take n xs ++ option_to_list (slice_get xs n)
one_more_ended {X} xs n = let next : n + 1 ≡ suc n = omega arith in ap (λ m. take m xs) next ∙ by xs n
  where
    by : (xs : List X) (n : ℕ) → take (suc n) xs ≡ take n xs ++ option_to_list (slice_get xs n)
    by [] zero = refl
    by [] (suc n) = refl
    by (x ∷ xs) zero = refl
    by (x ∷ xs) (suc n) = ap (λ ys. x ∷ ys) (by xs n)

-- where none goes on, the next one does
pub next_goes_on : {X : Type 0} (xs : List X) (n : ℕ) (x : X) → slice_get xs n ≡ None
    → n ≤ length xs
    → (take n (xs ++ x ∷ []) ≡ take n xs) × (slice_get (xs ++ x ∷ []) n ≡ Some x)
next_goes_on [] zero x none le = (refl, refl)
next_goes_on [] (suc n) x none le = absurd (omega (arith, le))
next_goes_on (y ∷ xs) zero x none le = absurd (cc)
next_goes_on (y ∷ xs) (suc n) x none le =
    let rest = next_goes_on xs n x none (omega (arith, le)) in (ap (λ ys. y ∷ ys) rest.0, rest.1)

-- a change of the one that goes on keeps those that ended
pub last_changes : {X : Type 0} (xs : List X) (n : ℕ) (x : X) → IsSome (slice_get xs n)
    → (take n (slice_set xs n x) ≡ take n xs) × (slice_get (slice_set xs n x) n ≡ Some x)
last_changes [] n x some = absurd (false≢true some)
last_changes (y ∷ xs) zero x some = (refl, refl)
last_changes (y ∷ xs) (suc n) x some =
    let rest = last_changes xs n x some in (ap (λ ys. y ∷ ys) rest.0, rest.1)

-- what is read at its place is the one that goes on
pub last_is : {X : Type 0} (xs : List X) (n : ℕ) (x : X) → IsSome (slice_get xs n)
    → x ≡ slice_index_or xs n x → slice_get xs n ≡ Some x
last_is [] n x some is = absurd (false≢true some)
last_is (y ∷ xs) zero x some is = ap Some (sym is)
last_is (y ∷ xs) (suc n) x some is = last_is xs n x some is

-- those that ended and the one that goes on are all
pub all_are : {X : Type 0} (xs : List X) (n : ℕ) → length xs ≤ n + 1
    → take n xs ++ option_to_list (slice_get xs n) ≡ xs
all_are [] zero le = refl
all_are [] (suc n) le = refl
all_are (x ∷ []) zero le = refl
all_are (x ∷ y ∷ xs) zero le = absurd (omega (arith, le))
all_are (x ∷ xs) (suc n) le = ap (λ ys. x ∷ ys) (all_are xs n (omega (arith, le)))

-- a change of the one that goes on keeps those that ended
pub ended_same : (history : History) (past : List Entry) (n : ℕ) (xs : List Entry) (x : Entry)
    → IsSome (slice_get xs n)
    → ended_entries history past n (slice_set xs n x) ≡ ended_entries history past n xs
ended_same histories.Kept past n xs x some = (last_changes xs n x some).0
ended_same histories.Forgotten past n xs x some = refl

-- and where none goes on, so does the next one
pub ended_next : (history : History) (past : List Entry) (n : ℕ) (xs : List Entry) (x : Entry)
    → slice_get xs n ≡ None → n ≤ length xs
    → ended_entries history past n (xs ++ x ∷ []) ≡ ended_entries history past n xs
ended_next histories.Kept past n xs x none le = (next_goes_on xs n x none le).0
ended_next histories.Forgotten past n xs x none le = refl

-- where none goes on, all ended
pub none_past : {X : Type 0} (xs : List X) (n : ℕ) → slice_get xs n ≡ None → length xs ≤ n
none_past [] n none = omega arith
none_past (x ∷ xs) zero none = absurd (cc)
none_past (x ∷ xs) (suc n) none = let rest = none_past xs n none in omega (arith, rest)

-- one more that ended has so many bytes more of payload
pub more_payload : (done : List Entry) (last : Option Entry) (e : Entry) (count : ℕ) → last ≡ Some e
    → count ≡ min (length (bodies done)) (2 ^ 64 - 1)
    → min (count + length e.body) (2 ^ 64 - 1)
    ≡ min (length (bodies (done ++ option_to_list last))) (2 ^ 64 - 1)
more_payload done last e count is counted =
    let more : bodies (done ++ e ∷ []) ≡ bodies done ++ e.body = bodies_more done e in
    rw (is, more) (omega (arith, counted, length-append (bodies done) e.body))
  where
    bodies_more : (done : List Entry) (e : Entry) → bodies (done ++ e ∷ []) ≡ bodies done ++ e.body
    bodies_more [] e = flat_map-cons (λ (x : Entry). x.body) e [] ∙ append-nil e.body
    bodies_more (d ∷ done) e =
        flat_map-cons (λ (x : Entry). x.body) d (done ++ e ∷ [])
        ∙ ap (λ xs. d.body ++ xs) (bodies_more done e)
        ∙ sym (append_assoc d.body (bodies done) e.body)
        ∙ ap (λ xs. xs ++ e.body) (sym (flat_map-cons (λ (x : Entry). x.body) d done))

-- what was noted comes behind what was noted before
pub noted_behind : {X : Type 0} (past : List (X × Unit {0})) (x : X)
    → map (λ p. p.0) (past ++ (x, tt) ∷ []) ≡ map (λ p. p.0) past ++ x ∷ []
noted_behind [] x = refl
noted_behind (p ∷ past) x = ap (λ ys. p.0 ∷ ys) (noted_behind past x)

-- a change of one keeps how many they are
pub same_length : {X : Type 0} (xs : List X) (n : ℕ) (x : X) → length (slice_set xs n x) ≡ length xs
same_length [] n x = refl
same_length (y ∷ xs) zero x = refl
same_length (y ∷ xs) (suc n) x = let rest = same_length xs n x in omega (arith, rest)

-- the one that goes on is in the list
pub some_within : {X : Type 0} (xs : List X) (n : ℕ) → IsSome (slice_get xs n) → n + 1 ≤ length xs
some_within [] n some = absurd (false≢true some)
some_within (x ∷ xs) zero some = omega arith
some_within (x ∷ xs) (suc n) some = let rest = some_within xs n some in omega (arith, rest)
