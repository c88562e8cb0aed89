-- How the filters of several modules go on, end, and are refused.
use Rattle.std.proofs.Common.{◌≡◌, ℕ, ◌+◌, ◌<◌, List, [], ◌∷◌, ◌++◌, length, get_or, set, take, drop, refl, sym, ap, ◌∙◌, inr, arith, Result, Ok, Err}
use Rattle.std.proofs.lemmas.List.{take_more, take_more_set, drop_more, drop-set-lt, set-get_or, take-append-drop}
use Rattle.h1_error.specs.declared.error.Error.{Error}
use Rattle.h1_error.specs.Memory.{no_memory}
use Rattle.std.specs.Option.{option_or}
use Rattle.h1_modules.specs.Outcome.{Outcome, Piece, ErrsBy}
use Rattle.std.proofs.lemmas.Option.{slice_get-get_or}
use Rattle.h1_modules.specs.Filters.{on_ok, run, HasRun, StoppedAt, with_buffer, keeping_buffer, with_last, keeping_last}

-- the modules of both parts, and the value of the second
abbrev join : {M A R : Type 0} → Result (List M × A) R → (A → Result (List M × A) R)
    → Result (List M × A) R
join front back =
    on_ok front (λ done. on_ok (back done.1) (λ rest. Ok (done.0 ++ rest.0, rest.1)))

abbrev onto : {M A R : Type 0} → M → Result (List M × A) R → Result (List M × A) R
onto m others = on_ok others (λ rest. Ok (m ∷ rest.0, rest.1))

onto_rest : {M A R : Type 0} (m : M) (done : List M) (rest : Result (List M × A) R)
    → onto m (on_ok rest (λ back. Ok (done ++ back.0, back.1)))
    ≡ on_ok rest (λ back. Ok ((m ∷ done) ++ back.0, back.1))
onto_rest m done (Err refusal) = refl
onto_rest m done (Ok back) = refl

onto-join : {M A R : Type 0} (m : M) (front : Result (List M × A) R)
    (back : A → Result (List M × A) R) → onto m (join front back) ≡ join (onto m front) back
onto-join m (Err refusal) back = refl
onto-join m (Ok done) back = onto_rest m done.0 (back done.1)

-- a first module before both parts
first_of : {M A R : Type 0} (one : Outcome M A R) (whole front back : A → Result (List M × A) R)
    → ((value : A) → whole value ≡ join (front value) back)
    → on_ok one (λ one. onto one.0 (whole one.1)) ≡ join (on_ok one (λ one. onto one.0 (front one.1))) back
first_of (Err refusal) whole front back same = refl
first_of (Ok one) whole front back same = rw (same one.1) (onto-join one.0 (front one.1) back)

none_before : {M A R : Type 0} (whole : Result (List M × A) R)
    → whole ≡ on_ok whole (λ rest. Ok ([] ++ rest.0, rest.1))
none_before (Err refusal) = refl
none_before (Ok rest) = refl

-- the filters of a list are those of its front, and then those of the rest
pub run-append : {M A R : Type 0} (filter : M → A → Outcome M A R) (front rest : List M)
    (value : A) → run filter (front ++ rest) value ≡ join (run filter front value) (run filter rest)
run-append filter [] rest value = none_before (run filter rest value)
run-append filter (first ∷ front) rest value =
    first_of (filter first value) (run filter (front ++ rest)) (run filter front) (run filter rest)
    (λ value. run-append filter front rest value)

run_one_more : {M A R : Type 0} (filter : M → A → Outcome M A R) (front done : List M) (m n : M)
    (before value now : A) → run filter front before ≡ Ok (done, value) → filter m value ≡ Ok (n, now)
    → run filter (front ++ m ∷ []) before ≡ Ok (done ++ n ∷ [], now)
run_one_more filter front done m n before value now ran gave =
    rw (run-append filter front (m ∷ []) before, ran, gave) refl

by_memory : {V R : Type 0} (error_of : R → Error) (o : Result V R) (error : Error)
    → error ≡ no_memory → ErrsBy error_of o error
by_memory error_of (Ok after) error is = is
by_memory error_of (Err refusal) error is = inr is

-- what errs at first errs in all
errs_on : {V W R : Type 0} (error_of : R → Error) (o : Result V R) (next : V → Result W R)
    (error : Error) → ErrsBy error_of o error → ErrsBy error_of (on_ok o next) error
errs_on error_of (Ok value) next error is = by_memory error_of (next value) error is
errs_on error_of (Err refusal) next error is = is

run_errs : {M A R : Type 0} (filter : M → A → Outcome M A R) (error_of : R → Error)
    (front done rest : List M) (m : M) (before value : A) (error : Error)
    → run filter front before ≡ Ok (done, value) → ErrsBy error_of (filter m value) error
    → ErrsBy error_of (run filter (front ++ m ∷ rest) before) error
run_errs filter error_of front done rest m before value error ran errs =
    rw (run-append filter front (m ∷ rest) before, ran)
    (errs_on error_of (run filter (m ∷ rest) value) _ error
    (errs_on error_of (filter m value) _ error errs))

-- ---- a loop over the modules

-- the module at the next place is still the old one
next_same : {M : Type 0} (old now : List M) (i : ℕ) (d : M) → length now ≡ length old
    → i < length now → drop i now ≡ drop i old
    → (get_or now i d ≡ get_or old i d) × (drop (i + 1) now ≡ drop (i + 1) old)
next_same old now i d same within rest =
    let a = drop_more now i d within in
    let b = drop_more old i d (omega arith) in
    let heads : get_or now i d ∷ drop (i + 1) now ≡ get_or old i d ∷ drop (i + 1) old = cc in
    ((cc), (cc))

-- one module more
pub has_run_next : {M A R : Type 0} (filter : M → A → Outcome M A R) (i : ℕ) (old now : List M)
    (before value after : A) (d n : M) → HasRun filter i old now before value
    → length now ≡ length old → i < length now → filter (get_or now i d) value ≡ Ok (n, after)
    → HasRun filter (i + 1) old (set now i n) before after
has_run_next filter i old now before value after d n has same within gave =
    let next = next_same old now i d same within has.rest in
    let m = get_or now i d in
    let e : take (i + 1) old ≡ take i old ++ m ∷ [] = take_more old i d (omega arith) ∙ ap (λ x. take i old ++ x ∷ []) (sym next.0) in
    record {
      ran = rw (e, take_more_set now i n within)
          (run_one_more filter (take i old) (take i now) m n before value after has.ran gave);
      rest = drop-set-lt (i + 1) now i n (omega arith) ∙ next.1;
    }

-- the error of the next module is that of all
pub has_run_errs : {M A R : Type 0} (filter : M → A → Outcome M A R) (error_of : R → Error) (i : ℕ)
    (old now : List M) (before value : A) (d : M) (error : Error)
    → HasRun filter i old now before value → length now ≡ length old → i < length now
    → ErrsBy error_of (filter (get_or now i d) value) error
    → ErrsBy error_of (run filter old before) error
has_run_errs filter error_of i old now before value d error has same within errs =
    let next = next_same old now i d same within has.rest in
    let m = get_or now i d in
    let e : take i old ++ m ∷ drop (i + 1) old ≡ old = ap (λ x. take i old ++ x ∷ drop (i + 1) old) next.0 ∙ ap (λ xs. take i old ++ xs) (sym (drop_more old i d (omega arith))) ∙ take-append-drop i old in
    rw e at (run_errs filter error_of (take i old) (take i now) (drop (i + 1) old) m before value error has.ran errs)

-- the next module errs and stays as it was, and no other runs
pub stopped_next : {M A R : Type 0} (filter : M → A → Outcome M A R) (error_of : R → Error) (i : ℕ)
    (old now : List M) (before value after : A) (d n : M) (error : Error)
    → HasRun filter i old now before value → length now ≡ length old → i < length now
    → n ≡ get_or now i d → after ≡ value → ErrsBy error_of (filter (get_or now i d) value) error
    → StoppedAt filter error_of i old (set now i n) before after error
stopped_next filter error_of i old now before value after d n error has same within stays kept errs =
    let same_one = (next_same old now i d same within has.rest).0 in
    rw (stays, kept, set-get_or now i d) (record {
      has_run = has;
      refuser = get_or now i d;
      next = rw same_one (slice_get-get_or old i d (omega arith));
      errs = errs;
    })

-- ---- buffers

pub buffer_gives : {M T R : Type 0} (filter : M → T → Outcome M (T × Piece) R) (m n : M)
    (before after : T) (last given : Piece) → filter m before ≡ Ok (n, (after, given))
    → keeping_buffer filter m (before, last) ≡ Ok (n, (after, option_or given last))
buffer_gives filter m n before after last given gave = rw gave refl

pub buffer_errs : {M T R : Type 0} (error_of : R → Error) (o : Outcome M (T × Piece) R)
    (last : Piece) (error : Error) → ErrsBy error_of o error
    → ErrsBy error_of (with_buffer last o) error
buffer_errs error_of (Ok after) last error is = is
buffer_errs error_of (Err refusal) last error is = is

pub last_gives : {M R : Type 0} (filter : M → Outcome M Piece R) (m n : M) (last given : Piece)
    → filter m ≡ Ok (n, given) → keeping_last filter m last ≡ Ok (n, option_or given last)
last_gives filter m n last given gave = rw gave refl

pub last_errs : {M R : Type 0} (error_of : R → Error) (o : Outcome M Piece R) (last : Piece)
    (error : Error) → ErrsBy error_of o error → ErrsBy error_of (with_last last o) error
last_errs error_of (Ok after) last error is = is
last_errs error_of (Err refusal) last error is = is
