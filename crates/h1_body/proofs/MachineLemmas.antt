-- The reader of chunks against the grammar: what it reads is a body, what it leaves can become one,
-- and the rest stays as it is.
use Rattle.std.proofs.Common.{◌≡◌, ◌≢◌, ℕ, ◌+◌, suc, List, [], ◌∷◌, ◌++◌, take, refl, sym, ap, subst, arith}
use Rattle.h1_body.specs.Body.{Body, whole, unfinished, broken, ahead, stop_of, IsFinal}
use Rattle.h1_body.specs.Chunks.{chunked, step, state_of, use_of, Use, skips, yields, ends, with_byte}
use Rattle.h1_body.specs.declared.fed.FeedState.{FeedState}
use Rattle.h1_body.specs.declared.fed.FeedState.TheVariants as state
use Rattle.h1_body.specs.declared.chunking.Chunking.{Chunking}
use Rattle.h1_body.specs.declared.chunking.Chunking.TheVariants.{Start, Size, Extension, SizeLf, Data, DataCr, DataLf, Trailers, Name, Value, ValueLf, EndLf, Done, Broken}
use Rattle.h1_body.proofs.RunLemmas.{Runs, run_none, run_then, run_skip}
use Rattle.h1_body.proofs.TrailerRuns.{done_takes_none, broken_takes_none}
use Rattle.h1_body.proofs.SoundLemmas.{front_skipped, front_yielded}
use Rattle.h1_body.proofs.Completing.{Completes}

-- what is after the front of a whole body, an unfinished and a broken one
pub behind_whole : (front : List ℕ) (used : ℕ) (b : Body) (payload : List ℕ) (n : ℕ)
    → ahead front used b ≡ whole payload n
    → (later : List ℕ) × (k : ℕ) × (b ≡ whole later k) × (payload ≡ front ++ later) × (n ≡ used + k)
behind_whole front used (whole later k) payload n e = (later, k, refl, cc, cc)
behind_whole front used (unfinished later) payload n e = absurd cc
behind_whole front used (broken later) payload n e = absurd cc

pub behind_unfinished : (front : List ℕ) (used : ℕ) (b : Body) (payload : List ℕ)
    → ahead front used b ≡ unfinished payload
    → (later : List ℕ) × (b ≡ unfinished later) × (payload ≡ front ++ later)
behind_unfinished front used (whole later k) payload e = absurd cc
behind_unfinished front used (unfinished later) payload e = (later, refl, cc)
behind_unfinished front used (broken later) payload e = absurd cc

pub behind_broken : (front : List ℕ) (used : ℕ) (b : Body) (payload : List ℕ)
    → ahead front used b ≡ broken payload
    → (later : List ℕ) × (b ≡ broken later) × (payload ≡ front ++ later)
behind_broken front used (whole later k) payload e = absurd cc
behind_broken front used (unfinished later) payload e = absurd cc
behind_broken front used (broken later) payload e = (later, refl, cc)

pub behind_final : (front : List ℕ) (used : ℕ) (b : Body) → IsFinal (ahead front used b) → IsFinal b
behind_final front used (whole later k) h = tt
behind_final front used (unfinished later) h = h
behind_final front used (broken later) h = tt

-- where the state of a place is done, it is after the body
completes_none : (s : Chunking) (payload : List ℕ) (n : ℕ) → stop_of (state_of s) ≡ whole payload n
    → Completes s [] payload
completes_none Start payload n e = absurd cc
completes_none (Size left size) payload n e = absurd cc
completes_none (Extension left size) payload n e = absurd cc
completes_none (SizeLf size) payload n e = absurd cc
completes_none (Data more) payload n e = absurd cc
completes_none DataCr payload n e = absurd cc
completes_none DataLf payload n e = absurd cc
completes_none (Trailers left) payload n e = absurd cc
completes_none (Name left) payload n e = absurd cc
completes_none (Value left) payload n e = absurd cc
completes_none (ValueLf left) payload n e = absurd cc
completes_none EndLf payload n e = absurd cc
completes_none Done payload n e = (refl, cc)
completes_none Broken payload n e = absurd cc

stopped_none : (s : FeedState) (payload : List ℕ) (n : ℕ) → stop_of s ≡ whole payload n → n ≡ 0
stopped_none state.More payload n e = absurd cc
stopped_none state.Done payload n e = cc
stopped_none state.Broken payload n e = absurd cc

counted_on : (s : Chunking) (b : ℕ) (bytes payload : List ℕ) (n k : ℕ) → n ≡ suc k
    → Completes s (b ∷ take k bytes) payload → Completes s (take n (b ∷ bytes)) payload
counted_on s b bytes payload n k e h =
    subst (λ (m : ℕ). Completes s (take m (b ∷ bytes)) payload) (sym e) h

-- a byte before bytes that are read as this says
sound_byte : (u : Use) (s : Chunking) (b : ℕ) (bytes payload : List ℕ) (n : ℕ)
    → ((later : List ℕ) (k : ℕ) → chunked (step s b) bytes ≡ whole later k → Completes (step s b)
    (take k bytes) later)
    → use_of s ≡ u → with_byte u (stop_of (state_of s)) b
    (chunked (step s b) bytes) ≡ whole payload n → Completes s (take n (b ∷ bytes)) payload
sound_byte skips s b bytes payload n known over e =
    let rest = behind_whole [] 1 (chunked (step s b) bytes) payload n e in
    let more : n ≡ suc rest.1 = omega (arith, rest.4) in
    let read = front_skipped s b (take rest.1 bytes) rest.0 over (known rest.0 rest.1 rest.2) in
    counted_on s b bytes payload n rest.1 more
    (subst (λ (p : List ℕ). Completes s (b ∷ take rest.1 bytes) p) (sym rest.3) read)
sound_byte yields s b bytes payload n known over e =
    let rest = behind_whole (b ∷ []) 1 (chunked (step s b) bytes) payload n e in
    let more : n ≡ suc rest.1 = omega (arith, rest.4) in
    let read = front_yielded s b (take rest.1 bytes) rest.0 over (known rest.0 rest.1 rest.2) in
    counted_on s b bytes payload n rest.1 more
    (subst (λ (p : List ℕ). Completes s (b ∷ take rest.1 bytes) p) (sym rest.3) read)
sound_byte ends s b bytes payload n known over e =
    let none : n ≡ 0 = stopped_none (state_of s) payload n e in
    rw none (completes_none s payload n e)

-- what is read as whole is a body by the grammar
pub sound : (s : Chunking) (bytes payload : List ℕ) (n : ℕ) → chunked s bytes ≡ whole payload n
    → Completes s (take n bytes) payload
sound s [] payload n e =
    let none : n ≡ 0 = stopped_none (state_of s) payload n e in
    rw none (completes_none s payload n e)
sound s (b ∷ bytes) payload n e =
    sound_byte (use_of s) s b bytes payload n (sound (step s b) bytes) refl e

stopped_final : (s : Chunking) (more : List ℕ) → IsFinal (stop_of (state_of s))
    → chunked s more ≡ stop_of (state_of s)
stopped_final Done more h = done_takes_none more
stopped_final Broken more h = broken_takes_none more
stopped_final Start more h = absurd h
stopped_final (Size left size) more h = absurd h
stopped_final (Extension left size) more h = absurd h
stopped_final (SizeLf size) more h = absurd h
stopped_final (Data n) more h = absurd h
stopped_final DataCr more h = absurd h
stopped_final DataLf more h = absurd h
stopped_final (Trailers left) more h = absurd h
stopped_final (Name left) more h = absurd h
stopped_final (Value left) more h = absurd h
stopped_final (ValueLf left) more h = absurd h
stopped_final EndLf more h = absurd h

stable_byte : (u : Use) (stop : Body) (b : ℕ) (rest grown : Body) → (IsFinal rest → grown ≡ rest)
    → IsFinal (with_byte u stop b rest) → with_byte u stop b grown ≡ with_byte u stop b rest
stable_byte skips stop b rest grown known h = ap (ahead [] 1) (known (behind_final [] 1 rest h))
stable_byte yields stop b rest grown known h =
    ap (ahead (b ∷ []) 1) (known (behind_final (b ∷ []) 1 rest h))
stable_byte ends stop b rest grown known h = refl

-- bytes after an end change nothing
pub stable : (s : Chunking) (bytes more : List ℕ) → IsFinal (chunked s bytes)
    → chunked s (bytes ++ more) ≡ chunked s bytes
stable s [] more h = stopped_final s more h
stable s (b ∷ bytes) more h =
    stable_byte (use_of s) (stop_of (state_of s)) b (chunked (step s b) bytes)
    (chunked (step s b) (bytes ++ more)) (stable (step s b) bytes more) h

-- the place to which bytes of an unfinished body lead
pub record Leads (s : Chunking) (bytes payload : List ℕ) : Type 0 where
  pub to : Chunking
  pub runs : Runs s bytes payload to
  pub goes : state_of to ≡ state.More

stopped_more : (s : FeedState) (payload : List ℕ) → stop_of s ≡ unfinished payload
    → (s ≡ state.More) × (payload ≡ [])
stopped_more state.More payload e = (refl, cc)
stopped_more state.Done payload e = absurd cc
stopped_more state.Broken payload e = absurd cc

pub at_end : (s : Chunking) → use_of s ≡ ends → state_of s ≢ state.More
at_end Done e = λ h. cc
at_end Broken e = λ h. cc
at_end Start e = absurd cc
at_end (Size left size) e = absurd cc
at_end (Extension left size) e = absurd cc
at_end (SizeLf size) e = absurd cc
at_end (Data more) e = absurd cc
at_end DataCr e = absurd cc
at_end DataLf e = absurd cc
at_end (Trailers left) e = absurd cc
at_end (Name left) e = absurd cc
at_end (Value left) e = absurd cc
at_end (ValueLf left) e = absurd cc
at_end EndLf e = absurd cc

pub run_yield : (s : Chunking) (b : ℕ) → use_of s ≡ yields → Runs s (b ∷ []) (b ∷ []) (step s b)
run_yield s b e = record
    { reads = λ more. ap (λ u. with_byte u (stop_of (state_of s)) b (chunked (step s b) more)) e }

leads_byte : (u : Use) (s : Chunking) (b : ℕ) (bytes payload : List ℕ)
    → ((later : List ℕ) → chunked (step s b) bytes ≡ unfinished later → Leads
    (step s b) bytes later)
    → use_of s ≡ u → with_byte u (stop_of (state_of s)) b
    (chunked (step s b) bytes) ≡ unfinished payload → Leads s (b ∷ bytes) payload
leads_byte skips s b bytes payload known over e =
    let rest = behind_unfinished [] 1 (chunked (step s b) bytes) payload e in
    let next = known rest.0 rest.1 in
    record {
      to = next.to;
      runs =
          subst (λ (p : List ℕ). Runs s (b ∷ bytes) p next.to) (sym rest.2)
          (run_then (run_skip s b over) next.runs);
      goes = next.goes;
    }
leads_byte yields s b bytes payload known over e =
    let rest = behind_unfinished (b ∷ []) 1 (chunked (step s b) bytes) payload e in
    let next = known rest.0 rest.1 in
    record {
      to = next.to;
      runs =
          subst (λ (p : List ℕ). Runs s (b ∷ bytes) p next.to) (sym rest.2)
          (run_then (run_yield s b over) next.runs);
      goes = next.goes;
    }
leads_byte ends s b bytes payload known over e =
    absurd (at_end s over (stopped_more (state_of s) payload e).0)

pub leads : (s : Chunking) (bytes payload : List ℕ) → chunked s bytes ≡ unfinished payload
    → Leads s bytes payload
leads s [] payload e =
    let none = stopped_more (state_of s) payload e in
    record { to = s; runs = rw none.1 (run_none s); goes = none.0 }
leads s (b ∷ bytes) payload e =
    leads_byte (use_of s) s b bytes payload (leads (step s b) bytes) refl e
