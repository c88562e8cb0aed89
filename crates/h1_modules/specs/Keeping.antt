-- What each filter of a list keeps, they keep together.
use Rattle.std.specs.Prelude.{List, [], ◌∷◌, Result, Ok, Err, IfOk}
use Rattle.h1_modules.specs.Outcome.{Outcome}
use Rattle.h1_modules.specs.Filters.{on_ok, run}

-- the value that is left is such a one, where nothing refused
abbrev pub Leaves : {M A R : Type 0} → (A → Type 0) → Outcome M A R → Type 0
Leaves holds outcome = IfOk outcome (λ after. holds after.1)

abbrev onto : {M A R : Type 0} → M → Result (List M × A) R → Result (List M × A) R
onto m others = on_ok others (λ rest. Ok (m ∷ rest.0, rest.1))

onto_leaves : {M A R : Type 0} (holds : A → Type 0) (m : M) (others : Result (List M × A) R)
    → Leaves holds others → Leaves holds (onto m others)
onto_leaves holds m (Ok rest) kept = kept
onto_leaves holds m (Err refusal) kept = tt

first_leaves : {M A R : Type 0} (holds : A → Type 0) (one : Outcome M A R)
    (others : A → Result (List M × A) R) → Leaves holds one
    → ((value : A) → holds value → Leaves holds (others value))
    → Leaves holds (on_ok one (λ one. onto one.0 (others one.1)))
first_leaves holds (Ok one) others kept keep =
    onto_leaves holds one.0 (others one.1) (keep one.1 kept)
first_leaves holds (Err refusal) others kept keep = tt

-- a list of modules whose filter keeps it keeps it
pub run_keeps : {M A R : Type 0} (holds : A → Type 0) (filter : M → A → Outcome M A R)
    → ((m : M) (value : A) → holds value → Leaves holds (filter m value))
    → (modules : List M) (value : A) → holds value → Leaves holds (run filter modules value)
run_keeps holds filter keep [] value kept = kept
run_keeps holds filter keep (first ∷ others) value kept =
    first_leaves holds (filter first value) (run filter others) (keep first value kept)
    (λ next so. run_keeps holds filter keep others next so)
