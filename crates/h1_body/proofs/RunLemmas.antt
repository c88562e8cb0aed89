-- What a reader of chunks makes of bytes: how runs over parts of the bytes join.
use Rattle.std.proofs.Common.{◌≡◌, ℕ, ◌+◌, ◌-◌, ◌<◌, ◌≤◌, List, [], ◌∷◌, ◌++◌, length, refl, sym, ap, subst, append_assoc, append-nil, zero-add, arith, length-append, inl, inr}
use Rattle.std.proofs.lemmas.Bool.Decides.{nat_tests}
use Rattle.std.proofs.lemmas.Bool.{cases_lt}
use Rattle.h1_body.specs.Body.{Body, whole, unfinished, broken, ahead, stop_of}
use Rattle.h1_body.specs.Chunks.{chunked, step, state_of, use_of, skips, with_byte, in_data}
use Rattle.h1_body.specs.declared.chunking.Chunking.{Chunking}
use Rattle.h1_body.specs.declared.chunking.Chunking.TheVariants.{Data, DataCr}

-- bytes before bytes that are in front
pub ahead-ahead : (front later : List ℕ) (m n : ℕ) (b : Body)
    → ahead front m (ahead later n b) ≡ ahead (front ++ later) (m + n) b
ahead-ahead front later m n (whole payload k) = grind (arith, append_assoc {A = ℕ})
ahead-ahead front later m n (unfinished payload) =
    ap unfinished (sym (append_assoc front later payload))
ahead-ahead front later m n (broken payload) = ap broken (sym (append_assoc front later payload))

pub ahead_none : (b : Body) → ahead [] 0 b ≡ b
ahead_none (whole payload n) = ap (whole payload) (zero-add n)
ahead_none (unfinished payload) = refl
ahead_none (broken payload) = refl

-- the bytes bring a reader from one place to another, and give this payload
pub record Runs (from : Chunking) (bytes payload : List ℕ) (to : Chunking) : Type 0 where
  pub reads : (more : List ℕ)
      → chunked from (bytes ++ more) ≡ ahead payload (length bytes) (chunked to more)

pub run_none : (s : Chunking) → Runs s [] [] s
run_none s = record { reads = λ more. sym (ahead_none (chunked s more)) }

-- one run after another
pub run_then : {from mid to : Chunking} {bytes later front back : List ℕ}
    → Runs from bytes front mid → Runs mid later back to
    → Runs from (bytes ++ later) (front ++ back) to
run_then {from} {mid} {to} {bytes} {later} {front} {back} one two = record {
  reads = λ more.
      rw (
        append_assoc bytes later more,
        one.reads (later ++ more),
        two.reads more,
        ahead-ahead front back (length bytes) (length later) (chunked to more),
        length-append bytes later,
      ) refl;
}

-- a byte that is passed over
pub run_skip : (s : Chunking) (b : ℕ) → use_of s ≡ skips → Runs s (b ∷ []) [] (step s b)
run_skip s b e = record
    { reads = λ more. ap (λ u. with_byte u (stop_of (state_of s)) b (chunked (step s b) more)) e }

-- a byte of data
pub run_data : (more b : ℕ) → Runs (Data more) (b ∷ []) (b ∷ []) (in_data more)
run_data more b = record { reads = λ rest. refl }

in_data_last : (more : ℕ) → more ≡ 0 → in_data more ≡ DataCr
in_data_last more e = grind (arith, nat_tests)

in_data_more : (more : ℕ) → 0 < more → in_data more ≡ Data (more - 1)
in_data_more more h = grind (arith, nat_tests)

-- data of a chunk that goes on after them
pub run_inside : (more : ℕ) (bytes : List ℕ) → length bytes ≤ more
    → Runs (Data more) bytes bytes (Data (more - length bytes))
run_inside more [] h =
    subst (λ (k : ℕ). Runs (Data more) [] [] (Data k)) (omega arith) (run_none (Data more))
run_inside more (b ∷ bytes) h =
    let e : in_data more ≡ Data (more - 1) = in_data_more more (omega arith) in
    let one : Runs (Data more) (b ∷ []) (b ∷ []) (Data (more - 1)) =
    subst (λ (s : Chunking). Runs (Data more) (b ∷ []) (b ∷ []) s) e (run_data more b) in
    let same : more - 1 - length bytes ≡ more - length (b ∷ bytes) = omega arith in
    subst (λ (k : ℕ). Runs (Data more) (b ∷ bytes) (b ∷ bytes) (Data k)) same
    (run_then one (run_inside (more - 1) bytes (omega arith)))

-- all data of a chunk that are left
run_whole_last : (more b : ℕ) (bytes : List ℕ) → more ≡ 0 → length bytes ≡ 0
    → Runs (Data more) (b ∷ bytes) (b ∷ bytes) DataCr
run_whole_last more b [] e h =
    subst (λ (s : Chunking). Runs (Data more) (b ∷ []) (b ∷ []) s) (in_data_last more e)
    (run_data more b)
run_whole_last more b (x ∷ bytes) e h = absurd (omega arith)

pub run_whole : (more : ℕ) (bytes : List ℕ) → length bytes ≡ more + 1
    → Runs (Data more) bytes bytes DataCr
run_whole more [] h = absurd (omega arith)
run_whole more (b ∷ bytes) h =
    elim (cases_lt 0 more) [
      | inl positive ↦
          let e : in_data more ≡ Data (more - 1) = in_data_more more positive in
          let one : Runs (Data more) (b ∷ []) (b ∷ []) (Data (more - 1)) =
          subst (λ (s : Chunking). Runs (Data more) (b ∷ []) (b ∷ []) s) e (run_data more b) in
          run_then one (run_whole (more - 1) bytes (omega arith))
      | inr none ↦ run_whole_last more b bytes (omega arith) (omega arith)
    ]

-- what the bytes make of the body when none follow
pub stopped : {from to : Chunking} {bytes payload : List ℕ} → Runs from bytes payload to
    → chunked from bytes ≡ ahead payload (length bytes) (stop_of (state_of to))
stopped {from} {to} {bytes} {payload} run =
    subst (λ (bs : List ℕ). chunked from bs ≡ ahead payload (length bytes) (stop_of (state_of to)))
    (append-nil bytes) (run.reads [])
