-- What one call of a reader of chunks does: the clauses of `Feeds` at each return.
use Rattle.std.proofs.Common.{◌≡◌, ℕ, ◌+◌, ◌-◌, ◌<◌, ◌≤◌, List, [], ◌∷◌, ◌++◌, length, take, drop, get_or, ◌≢◌, slice_range, refl, sym, ap, subst, ◌∙◌, append-nil, arith, length-append, inl, inr, ◌⊎◌}
use Rattle.std.proofs.lemmas.Bool.Decides.{nat_tests}
use Rattle.std.proofs.lemmas.Bool.{cases_lt, cases_eq}
use Rattle.std.proofs.lemmas.List.{take_more, take_at, length-take-le, take-take}
use Rattle.std.proofs.Math.Seq.{take-add}
use Rattle.httparse.proofs.RunLemmas.{length-slice_range}
use Rattle.h1_body.specs.Body.{Body, unfinished, ahead, stop_of, payload_of}
use Rattle.h1_body.specs.Chunks.{chunked, step, state_of, use_of, skips}
use Rattle.h1_body.specs.Feeds.{fed_of, Feeds, IsEnd}
use Rattle.h1_body.specs.declared.fed.FeedState.{FeedState}
use Rattle.h1_body.specs.declared.fed.FeedState.TheVariants as state
use Rattle.h1_body.specs.declared.chunking.Chunking.{Chunking}
use Rattle.h1_body.specs.declared.chunking.Chunking.TheVariants.{Start, Size, Extension, SizeLf, Data, DataCr, DataLf, Trailers, Name, Value, ValueLf, EndLf, Done, Broken}
use Rattle.h1_body.proofs.RunLemmas.{Runs, run_none, run_then, run_skip, run_inside, run_whole, stopped}

-- the bytes before brought the reader from one place to another, all passed over
pub record Skips (from : Chunking) (bytes : List ℕ) (to : Chunking) : Type 0 where
  pub runs : Runs from bytes [] to
  pub begun : (stop_of (state_of from) ≡ unfinished []) ⊎ (length bytes ≡ 0)
  pub first : 0 < length bytes → chunked from (take (length bytes - 1) bytes) ≡ unfinished []

pub skips_none : (s : Chunking) → Skips s [] s
skips_none s = record { runs = run_none s; begun = inr refl; first = λ h. absurd (omega arith) }

goes_on : (s : Chunking) → use_of s ≡ skips → stop_of (state_of s) ≡ unfinished []
goes_on Start e = refl
goes_on (Size left size) e = refl
goes_on (Extension left size) e = refl
goes_on (SizeLf size) e = refl
goes_on (Data more) e = refl
goes_on DataCr e = refl
goes_on DataLf e = refl
goes_on (Trailers left) e = refl
goes_on (Name left) e = refl
goes_on (Value left) e = refl
goes_on (ValueLf left) e = refl
goes_on EndLf e = refl
goes_on Done e = absurd cc
goes_on Broken e = absurd cc

begun_from : (from to : Chunking) (bytes : List ℕ) → Runs from bytes [] to → length bytes ≡ 0
    → stop_of (state_of to) ≡ unfinished [] → stop_of (state_of from) ≡ unfinished []
begun_from from to [] run none e = stopped run ∙ ap (ahead [] 0) e
begun_from from to (b ∷ bytes) run none e = absurd (omega arith)

begun_more : (from to : Chunking) (bytes : List ℕ) → Skips from bytes to
    → stop_of (state_of to) ≡ unfinished [] → stop_of (state_of from) ≡ unfinished []
begun_more from to bytes steps e =
    elim steps.begun [ inl h ↦ h | inr none ↦ begun_from from to bytes steps.runs none e ]

but_last : (bytes : List ℕ) (b : ℕ) → take (length (bytes ++ b ∷ []) - 1) (bytes ++ b ∷ []) ≡ bytes
but_last bytes b = take_at bytes (b ∷ []) (length (bytes ++ b ∷ []) - 1)
    (omega (arith, length-append bytes (b ∷ [])))

pub skips_more : (from to : Chunking) (bytes : List ℕ) (b : ℕ) → Skips from bytes to
    → use_of to ≡ skips → Skips from (bytes ++ b ∷ []) (step to b)
skips_more from to bytes b steps e = record {
  runs = run_then steps.runs (run_skip to b e);
  begun = inl (begun_more from to bytes steps (goes_on to e));
  first = λ _. rw (but_last bytes b)
      (stopped steps.runs ∙ ap (ahead [] (length bytes)) (goes_on to e));
}

-- each place but three passes over the next byte
pub passes : (s : Chunking) → ((more : ℕ) → s ≢ Data more) → s ≢ Done → s ≢ Broken
    → use_of s ≡ skips
passes Start d e b = refl
passes (Size left size) d e b = refl
passes (Extension left size) d e b = refl
passes (SizeLf size) d e b = refl
passes (Data more) d e b = absurd (d more refl)
passes DataCr d e b = refl
passes DataLf d e b = refl
passes (Trailers left) d e b = refl
passes (Name left) d e b = refl
passes (Value left) d e b = refl
passes (ValueLf left) d e b = refl
passes EndLf d e b = refl
passes Done d e b = absurd (e refl)
passes Broken d e b = absurd (b refl)

-- the loop's step
pub skips_on : (from to : Chunking) (piece : List ℕ) (at : ℕ) → at < length piece
    → Skips from (take at piece) to → use_of to ≡ skips
    → Skips from (take (at + 1) piece) (step to (get_or piece at 0))
skips_on from to piece at inside steps over =
    let P : List ℕ → Type 0 = λ bytes. Skips from bytes (step to (get_or piece at 0)) in
    subst P (sym (take_more piece at 0 inside))
    (skips_more from to (take at piece) (get_or piece at 0) steps over)

empty_range : (piece : List ℕ) (i j : ℕ) → j ≤ i → slice_range piece i j ≡ []
empty_range piece i j h = let e : j - i ≡ 0 = omega arith in ap (λ k. take k (drop i piece)) e

not_at_end : (s : FeedState) (b : Body) → IsEnd s → b ≡ ahead [] 0 (stop_of s) → b ≢ unfinished []
not_at_end state.More b e h = absurd e
not_at_end state.Done b e h = λ u. cc
not_at_end state.Broken b e h = λ u. cc

ended_at_start : (from to : Chunking) (bytes : List ℕ) → Runs from bytes [] to → length bytes ≡ 0
    → IsEnd (state_of to) → stop_of (state_of from) ≢ unfinished []
ended_at_start from to [] run none ended =
    not_at_end (state_of to) (stop_of (state_of from)) ended (stopped run)
ended_at_start from to (b ∷ bytes) run none ended = absurd (omega arith)

moved : (from to : Chunking) (bytes : List ℕ) (n m : ℕ) → Runs from bytes [] to → length bytes ≡ n
    → (n ≡ m) ⊎ IsEnd (state_of to) → stop_of (state_of from) ≡ unfinished [] → 0 < m → 0 < n
moved from to bytes n m run len why goes some =
    elim (cases_lt 0 n) [
      | inl positive ↦ positive
      | inr none ↦ elim why [
        | inl all ↦ omega arith
        | inr ended ↦
            absurd (ended_at_start from to bytes run (omega arith) ended goes)
      ]
    ]

-- what was passed over gave no payload
no_front : (s : FeedState) (used : ℕ) → payload_of (ahead [] used (stop_of s)) ≡ []
no_front state.More used = refl
no_front state.Done used = refl
no_front state.Broken used = refl

skips_front : (from to : Chunking) (bytes : List ℕ) → Skips from bytes to
    → payload_of (chunked from bytes) ≡ []
skips_front from to bytes steps =
    ap payload_of (stopped steps.runs) ∙ no_front (state_of to) (length bytes)

pub ended : (place : Chunking) → (place ≡ Done) ⊎ (place ≡ Broken) → IsEnd (state_of place)
ended place is = elim is [ inl done ↦ rw done tt | inr broken ↦ rw broken tt ]

-- a return with no payload, at the end of the piece or of the body
pub feeds_still : (from to : Chunking) (piece : List ℕ) (at : ℕ) → at ≤ length piece
    → Skips from (take at piece) to → (at ≡ length piece) ⊎ IsEnd (state_of to)
    → Feeds (chunked from) (chunked to) piece (fed_of at at (state_of to))
feeds_still from to piece at within steps why =
    let len : length (take at piece) ≡ at = length-take-le at piece within in
    record {
      ordered = omega arith;
      used_up = refl;
      within = within;
      front = skips_front from to (take at piece) steps;
      reads = λ more. rw (empty_range piece at at (omega arith))
          (subst (λ n. chunked from (take at piece ++ more) ≡ ahead [] n (chunked to more)) len
          (steps.runs.reads more));
      state = refl;
      moves = moved from to (take at piece) at (length piece) steps.runs len why;
      stays = elim steps.begun [ inl h ↦ inl h | inr none ↦ inr (omega arith) ];
      rests = elim why [ inl all ↦ inl all | inr ended ↦ inr (inl ended) ];
      first = λ some.
          let front : take (length (take at piece) - 1) (take at piece) ≡ take (at - 1) piece =
          ap (λ n. take (n - 1) (take at piece)) len
          ∙ take-take (at - 1) at piece (omega arith) in
          rw (empty_range piece at (at - 1) (omega arith))
          (subst (λ bytes. chunked from bytes ≡ unfinished []) front (steps.first (omega arith)));
    }

split_range : (piece : List ℕ) (at n : ℕ) → at ≤ n
    → take n piece ≡ take at piece ++ slice_range piece at n
split_range piece at n h =
    let e : at + (n - at) ≡ n = omega arith in
    ap (λ k. take k piece) (sym e) ∙ take-add at (n - at) piece

-- a return after a run of data
pub feeds_run : (from to : Chunking) (piece : List ℕ) (at n more : ℕ) → at < n → n ≤ length piece
    → n - at ≤ more + 1 → Skips from (take at piece) (Data more)
    → Runs (Data more) (slice_range piece at n) (slice_range piece at n) to
    → state_of to ≡ state.More
    → (n ≡ length piece) ⊎ ((b : ℕ) → payload_of (chunked to (b ∷ [])) ≡ [])
    → Feeds (chunked from) (chunked to) piece (fed_of at n state.More)
feeds_run from to piece at n more some within room steps run goes why =
    let all : Runs from (take n piece) (slice_range piece at n) to =
    subst (λ bytes. Runs from bytes (slice_range piece at n) to)
    (sym (split_range piece at n (omega arith))) (run_then steps.runs run) in
    let len : length (take n piece) ≡ n = length-take-le n piece within in
    let short : length (slice_range piece at (n - 1)) ≤ more =
    omega (arith, length-slice_range piece at (n - 1) (omega arith) (omega arith)) in
    let front = run_then steps.runs (run_inside more (slice_range piece at (n - 1)) short) in
    record {
      ordered = omega arith;
      used_up = refl;
      within = within;
      front = skips_front from (Data more) (take at piece) steps;
      reads = λ rest. subst (λ k. chunked from (take n piece ++ rest) ≡ ahead
          (slice_range piece at n) k (chunked to rest)) len (all.reads rest);
      state = ap stop_of (sym goes);
      moves = λ _ _. omega arith;
      stays = inl (begun_more from (Data more) (take at piece) steps refl);
      rests = elim why [ inl all_used ↦ inl all_used | inr no_more ↦ inr (inr (some, no_more)) ];
      first = λ _. rw (split_range piece at (n - 1) (omega arith))
          (stopped front ∙ ap unfinished (append-nil (slice_range piece at (n - 1))));
    }

no_data_behind : (b : ℕ) → payload_of (chunked DataCr (b ∷ [])) ≡ []
no_data_behind b = elim
    (cases_eq b 13) [ inl e ↦ grind (arith, nat_tests) | inr e ↦ grind (arith, nat_tests) ]

-- the data of the chunk end in the piece
pub feeds_chunk : (from : Chunking) (piece : List ℕ) (at more : ℕ) → more < length piece - at
    → Skips from (take at piece) (Data more)
    → Feeds (chunked from) (chunked DataCr) piece (fed_of at (at + more + 1) state.More)
feeds_chunk from piece at more room steps =
    let len : length (slice_range piece at (at + more + 1)) ≡ more + 1 =
    omega (arith, length-slice_range piece at (at + more + 1) (omega arith) (omega arith)) in
    feeds_run from DataCr piece at (at + more + 1) more (omega arith) (omega arith)
    (omega arith) steps (run_whole more _ len) refl (inr no_data_behind)

-- the data go on after the piece
pub feeds_rest : (from : Chunking) (piece : List ℕ) (at more : ℕ) → at < length piece
    → length piece - at ≤ more → Skips from (take at piece) (Data more)
    → Feeds (chunked from) (chunked (Data (more - (length piece - at)))) piece (fed_of at (length piece) state.More)
feeds_rest from piece at more some room steps =
    let len : length (slice_range piece at (length piece)) ≡ length piece - at =
    length-slice_range piece at (length piece) (omega arith) (omega arith) in
    let run : Runs (Data more) (slice_range piece at (length piece))
    (slice_range piece at (length piece)) (Data (more - (length piece - at))) =
    subst (λ k. Runs (Data more) (slice_range piece at (length piece))
    (slice_range piece at (length piece)) (Data (more - k))) len
    (run_inside more (slice_range piece at (length piece)) (omega arith)) in
    feeds_run from (Data (more - (length piece - at))) piece at (length piece) more some
    (omega arith) (omega arith) steps run refl (inl refl)
