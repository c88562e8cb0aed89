-- How the filters of several modules make one.
use Rattle.std.specs.Prelude.{◌≡◌, ℕ, List, [], ◌∷◌, take, drop, slice_get, Some, Result, Ok, Err}
use Rattle.std.specs.Option.{option_or}
use Rattle.h1_error.specs.declared.error.Error.{Error}
use Rattle.h1_modules.specs.Outcome.{Outcome, Piece, ErrsBy}

-- what is next comes only where nothing refused
abbrev pub on_ok : {V W R : Type 0} → Result V R → (V → Result W R) → Result W R
on_ok (Ok value) next = next value
on_ok (Err refusal) next = Err refusal

-- The filter of the first module, and then those of the others on what it left. A refusal is the
-- outcome of all, and no later filter runs.
abbrev pub run : {M A R : Type 0} → (M → A → Outcome M A R) → List M → A → Result (List M × A) R
run filter [] value = Ok ([], value)
run filter (first ∷ others) value =
    on_ok (filter first value)
    (λ one. on_ok (run filter others one.1) (λ rest. Ok (one.0 ∷ rest.0, rest.1)))

-- the filters of so many first modules have run, and those of the others haven't
pub record HasRun {M A R : Type 0} (filter : M → A → Outcome M A R) (count : ℕ)
    (old new : List M) (before now : A) : Type 0 where
  pub ran : run filter (take count old) before ≡ Ok (take count new, now)
  pub rest : drop count new ≡ drop count old

-- the filters of so many first modules have run, the next module answers the error, and it and those
-- behind it are as they were
pub record StoppedAt {M A R : Type 0} (filter : M → A → Outcome M A R) (error_of : R → Error)
    (count : ℕ) (old new : List M) (before now : A) (error : Error) : Type 0 where
  pub has_run : HasRun filter count old new before now
  pub refuser : M
  pub next : slice_get old count ≡ Some refuser
  pub errs : ErrsBy error_of (filter refuser now) error

-- of several buffers the last wins
abbrev pub with_buffer : {M T R : Type 0} → Piece → Outcome M (T × Piece) R
    → Outcome M (T × Piece) R
with_buffer before (Ok after) = Ok (after.0, (after.1.0, option_or after.1.1 before))
with_buffer before (Err refusal) = Err refusal

-- a filter of trailers, which also keeps the buffer of those before it
abbrev pub keeping_buffer : {M T R : Type 0} → (M → T → Outcome M (T × Piece) R)
    → M → (T × Piece) → Outcome M (T × Piece) R
keeping_buffer filter m value = with_buffer value.1 (filter m value.0)

-- the same of a filter that is given nothing but the module
abbrev pub with_last : {M R : Type 0} → Piece → Outcome M Piece R → Outcome M Piece R
with_last before (Ok after) = Ok (after.0, option_or after.1 before)
with_last before (Err refusal) = Err refusal

abbrev pub keeping_last : {M R : Type 0} → (M → Outcome M Piece R) → M → Piece → Outcome M Piece R
keeping_last filter m before = with_last before (filter m)
