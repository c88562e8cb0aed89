-- The laws of bodies.
use Rattle.std.proofs.Common.{◌≡◌, ◌≢◌, ℕ, ◌+◌, ◌-◌, ◌<◌, suc, List, [], ◌∷◌, ◌++◌, length, take, drop, refl, sym, ap, subst, ◌∙◌, append-nil, add-one, arith, length-append, inl, inr}
use Rattle.std.proofs.lemmas.Bool.{cases_lt}
use Rattle.std.proofs.lemmas.List.{nil_from_length, take-append-drop, take-append-le}
use Rattle.std.proofs.lemmas.Bool.Decides.{eqb_tells}
use Rattle.h1_body.specs.Body.{Body, whole, unfinished, broken, ahead, stop_of, payload_of, IsFinal}
use Rattle.h1_body.specs.Chunks.{chunked, step, state_of, use_of, Use, skips, yields, ends, with_byte}
use Rattle.h1_body.specs.ChunkedBody.{ChunkedBody, IsChunkedBody, print_body, content}
use Rattle.h1_body.specs.Laws.{GrowsTo}
use Rattle.h1_body.specs.Reader.{body, counted}
use Rattle.h1_body.specs.declared.framing.Framing.{Framing}
use Rattle.h1_body.specs.declared.framing.Framing.TheVariants as framing
use Rattle.h1_body.specs.declared.fed.FeedState.{FeedState}
use Rattle.h1_body.specs.declared.fed.FeedState.TheVariants as state
use Rattle.h1_body.specs.declared.chunking.Chunking.{Chunking}
use Rattle.h1_body.specs.declared.chunking.Chunking.TheVariants.{Start, Size, Extension, SizeLf, Data, DataCr, DataLf, Trailers, Name, Value, ValueLf, EndLf, Done, Broken}
use Rattle.h1_body.proofs.RunLemmas.{run_then, run_skip, stopped}
use Rattle.h1_body.proofs.TrailerRuns.{body_is_read, whole_alone}
use Rattle.h1_body.proofs.CountedLemmas.{counted_has, counted_lacks, counted-append}
use Rattle.h1_body.proofs.Completing.{Complete}
use Rattle.h1_body.proofs.MachineLemmas.{sound, stable, leads, behind_broken, at_end, run_yield}
use Rattle.h1_body.proofs.EndingLemmas.{ending}

-- only bodies of the grammar are read as whole
pub only_bodies : (bytes payload : List ℕ) (n : ℕ) → chunked Start bytes ≡ whole payload n
    → (b : ChunkedBody) × IsChunkedBody b × (take n bytes ≡ print_body b)
    × (n ≡ length (print_body b)) × (payload ≡ content b)
only_bodies bytes payload n e =
    let read : Complete (take n bytes) payload = sound Start bytes payload n e in
    let b = read.body in
    let again : chunked Start (print_body b ++ drop n bytes) ≡ whole (content b) (length (print_body b)) =
    body_is_read b (drop n bytes) read.valid in
    let same : print_body b ++ drop n bytes ≡ bytes =
    ap (λ front. front ++ drop n bytes) (sym read.bytes_are) ∙ take-append-drop n bytes in
    let now_read : chunked Start bytes ≡ whole (content b) (length (print_body b)) =
    subst (λ (xs : List ℕ). chunked Start xs ≡ whole (content b) (length (print_body b))) same again in
    let counted_is : n ≡ length (print_body b) = cc in
    (b, read.valid, read.bytes_are, counted_is, read.payload_is)

-- bytes that no body has used up can be completed
pub live : (bytes payload : List ℕ) → chunked Start bytes ≡ unfinished payload
    → (more : List ℕ) × (later : List ℕ)
    × (chunked Start (bytes ++ more) ≡ whole (payload ++ later) (length (bytes ++ more)))
live bytes payload e =
    let way = leads Start bytes payload e in
    let end = ending way.to way.goes in
    let all = run_then way.runs end.runs in (
      end.bytes,
      end.payload,
      stopped all
          ∙ whole_alone (payload ++ end.payload) (length (bytes ++ end.bytes)),
    )

-- bytes that broke the body begin none
pub dead : (bytes more payload : List ℕ) (b : ChunkedBody) → chunked Start bytes ≡ broken payload
    → IsChunkedBody b → bytes ++ more ≢ print_body b
dead bytes more payload b e is same =
    let final : IsFinal (chunked Start bytes) = rw e tt in
    let still : chunked Start (bytes ++ more) ≡ broken payload = stable Start bytes more final
    ∙ e in
    let read : chunked Start (print_body b ++ []) ≡ whole (content b) (length (print_body b)) =
    body_is_read b [] is in
    let read_bytes : chunked Start (print_body b) ≡ whole (content b) (length (print_body b)) =
    subst (λ (xs : List ℕ). chunked Start xs ≡ whole (content b) (length (print_body b)))
    (append-nil (print_body b)) read in
    let moved : chunked Start (bytes ++ more) ≡ whole (content b) (length (print_body b)) =
    rw same read_bytes in
    cc

-- no body is a proper prefix of another
pub no_prefix : (a b : ChunkedBody) (more : List ℕ) → IsChunkedBody a → IsChunkedBody b
    → print_body b ≡ print_body a ++ more → (more ≡ []) × (content a ≡ content b)
no_prefix a b more is_a is_b e =
    let shorter : chunked Start (print_body a ++ more) ≡ whole (content a) (length (print_body a)) =
    body_is_read a more is_a in
    let read : chunked Start (print_body b ++ []) ≡ whole (content b) (length (print_body b)) =
    body_is_read b [] is_b in
    let longer : chunked Start (print_body b) ≡ whole (content b) (length (print_body b)) =
    subst (λ (xs : List ℕ). chunked Start xs ≡ whole (content b) (length (print_body b)))
    (append-nil (print_body b)) read in
    let moved : chunked Start (print_body b) ≡ whole (content a) (length (print_body a)) =
    rw e shorter in
    let same_length : length (print_body a) ≡ length (print_body b) = cc in
    let parts = length-append (print_body a) more in
    let all : length (print_body b) ≡ length (print_body a ++ more) = ap length e in
    (nil_from_length more (omega arith), cc)

-- the byte that breaks a body: the bytes before it can become one, and they gave the payload
pub record Edge (s : Chunking) (bytes payload : List ℕ) : Type 0 where
  pub at : ℕ
  pub inside : at < length bytes
  pub before : chunked s (take at bytes) ≡ unfinished payload
  pub through : chunked s (take (suc at) bytes) ≡ broken payload

-- a byte of the body before the byte that breaks it
edge_later : (s : Chunking) (b : ℕ) (bytes front later payload : List ℕ)
    → ((xs : List ℕ) → chunked s (b ∷ xs) ≡ ahead front 1 (chunked (step s b) xs))
    → payload ≡ front ++ later → Edge (step s b) bytes later → Edge s (b ∷ bytes) payload
edge_later s b bytes front later payload on e edge = record {
  at = suc edge.at;
  inside = omega (arith, edge.inside);
  before = on (take edge.at bytes) ∙ ap (ahead front 1) edge.before ∙ ap unfinished (sym e);
  through = on (take (suc edge.at) bytes) ∙ ap (ahead front 1) edge.through ∙ ap broken (sym e);
}

-- the byte that breaks it, passed over
edge_here : (s : Chunking) (b : ℕ) (bytes payload : List ℕ)
    → ((xs : List ℕ) → chunked s (b ∷ xs) ≡ ahead [] 1 (chunked (step s b) xs))
    → state_of s ≡ state.More → state_of (step s b) ≡ state.Broken → payload ≡ []
    → Edge s (b ∷ bytes) payload
edge_here s b bytes payload on goes breaks e = record {
  at = 0;
  inside = omega arith;
  before = ap stop_of goes ∙ ap unfinished (sym e);
  through = on [] ∙ ap (λ x. ahead [] 1 (stop_of x)) breaks ∙ ap broken (sym e);
}

broken_by : (s : Chunking) (bytes later : List ℕ) → state_of s ≡ state.Broken
    → chunked s bytes ≡ broken later → later ≡ []
broken_by s bytes later breaks e =
    let final : IsFinal (chunked s []) = rw breaks tt in
    let still : chunked s bytes ≡ stop_of (state_of s) = stable s [] bytes final in
    let now_broken : stop_of (state_of s) ≡ broken [] = ap stop_of breaks in
    cc

not_done : (s : Chunking) (bytes later : List ℕ) → state_of s ≡ state.Done
    → chunked s bytes ≢ broken later
not_done s bytes later done e =
    let final : IsFinal (chunked s []) = rw done tt in
    let still : chunked s bytes ≡ stop_of (state_of s) = stable s [] bytes final in
    let now_done : stop_of (state_of s) ≡ whole [] 0 = ap stop_of done in
    cc

edge_skip : (x : FeedState) (s : Chunking) (b : ℕ) (bytes later payload : List ℕ)
    → state_of (step s b) ≡ x
    → (state_of (step s b) ≡ state.More → chunked (step s b) bytes ≡ broken later → Edge
    (step s b) bytes later)
    → use_of s ≡ skips → state_of s ≡ state.More → chunked (step s b) bytes ≡ broken later
    → payload ≡ later → Edge s (b ∷ bytes) payload
edge_skip state.More s b bytes later payload next known over goes e same =
    edge_later s b bytes [] later payload (run_skip s b over).reads same (known next e)
edge_skip state.Done s b bytes later payload next known over goes e same =
    absurd (not_done (step s b) bytes later next e)
edge_skip state.Broken s b bytes later payload next known over goes e same =
    edge_here s b bytes payload (run_skip s b over).reads goes next
    (same ∙ broken_by (step s b) bytes later next e)

data_goes : (more b : ℕ) → state_of (step (Data more) b) ≡ state.More
data_goes more b = elim
    (eqb_tells more 0) [ inl last ↦ rw last.0 refl | inr others ↦ rw others.0 refl ]

yields_go : (s : Chunking) (b : ℕ) → use_of s ≡ yields → state_of (step s b) ≡ state.More
yields_go (Data more) b e = data_goes more b
yields_go Start b e = absurd cc
yields_go (Size left size) b e = absurd cc
yields_go (Extension left size) b e = absurd cc
yields_go (SizeLf size) b e = absurd cc
yields_go DataCr b e = absurd cc
yields_go DataLf b e = absurd cc
yields_go (Trailers left) b e = absurd cc
yields_go (Name left) b e = absurd cc
yields_go (Value left) b e = absurd cc
yields_go (ValueLf left) b e = absurd cc
yields_go EndLf b e = absurd cc
yields_go Done b e = absurd cc
yields_go Broken b e = absurd cc

edge_byte : (u : Use) (s : Chunking) (b : ℕ) (bytes payload : List ℕ)
    → ((later : List ℕ) → state_of (step s b) ≡ state.More → chunked (step s b) bytes ≡ broken later
    → Edge (step s b) bytes later)
    → use_of s ≡ u → state_of s ≡ state.More
    → with_byte u (stop_of (state_of s)) b (chunked (step s b) bytes) ≡ broken payload
    → Edge s (b ∷ bytes) payload
edge_byte skips s b bytes payload known over goes e =
    let rest = behind_broken [] 1 (chunked (step s b) bytes) payload e in
    edge_skip (state_of (step s b)) s b bytes rest.0 payload refl
    (known rest.0) over goes rest.1 rest.2
edge_byte yields s b bytes payload known over goes e =
    let rest = behind_broken (b ∷ []) 1 (chunked (step s b) bytes) payload e in
    edge_later s b bytes (b ∷ []) rest.0 payload (run_yield s b over).reads rest.2
    (known rest.0 (yields_go s b over) rest.1)
edge_byte ends s b bytes payload known over goes e = absurd (at_end s over goes)

pub edge : (s : Chunking) (bytes payload : List ℕ) → state_of s ≡ state.More
    → chunked s bytes ≡ broken payload → Edge s bytes payload
edge s [] payload goes e =
    let unbroken : chunked s [] ≡ unfinished [] = ap stop_of goes in
    absurd cc
edge s (b ∷ bytes) payload goes e =
    edge_byte (use_of s) s b bytes payload (edge (step s b) bytes) refl goes e

pub first_break : (bytes payload : List ℕ) → chunked Start bytes ≡ broken payload
    → (n : ℕ) × (n < length bytes) × (chunked Start (take n bytes) ≡ unfinished payload)
    × (chunked Start (take (n + 1) bytes) ≡ broken payload)
first_break bytes payload e =
    let found = edge Start bytes payload refl e in
    (found.at, found.inside, found.before, rw (add-one found.at) found.through)

-- more bytes after
payload-ahead : (front : List ℕ) (used : ℕ) (b : Body)
    → payload_of (ahead front used b) ≡ front ++ payload_of b
payload-ahead front used (whole payload n) = refl
payload-ahead front used (unfinished payload) = refl
payload-ahead front used (broken payload) = refl

grows_from : (s : Chunking) (bytes more : List ℕ) (x : Body) → chunked s bytes ≡ x
    → GrowsTo x (chunked s (bytes ++ more))
grows_from s bytes more (whole payload n) e = stable s bytes more (rw e tt) ∙ e
grows_from s bytes more (unfinished payload) e =
    let way = leads s bytes payload e in (
      payload_of (chunked way.to more),
      ap payload_of (way.runs.reads more)
          ∙ payload-ahead payload (length bytes) (chunked way.to more),
    )
grows_from s bytes more (broken payload) e = stable s bytes more (rw e tt) ∙ e

counted_grows : (n : ℕ) (bytes more : List ℕ)
    → GrowsTo (counted n bytes) (counted n (bytes ++ more))
counted_grows n bytes more =
    elim (cases_lt (length bytes) n) [
      | inl short ↦ rw (counted_lacks n bytes short) (
        payload_of (counted (n - length bytes) more),
        ap payload_of (counted-append n bytes more (omega arith))
            ∙ payload-ahead bytes (length bytes) (counted (n - length bytes) more),
      )
      | inr all ↦ rw (
        counted_has n bytes all,
        counted_has n (bytes ++ more) (omega (arith, length-append bytes more)),
        take-append-le n bytes more all,
      ) refl
    ]

pub bodies_grow : (f : Framing) (bytes more : List ℕ)
    → GrowsTo (body f bytes) (body f (bytes ++ more))
bodies_grow (framing.Counted n) bytes more = counted_grows n bytes more
bodies_grow framing.Chunked bytes more = grows_from Start bytes more (chunked Start bytes) refl
bodies_grow framing.UntilClose bytes more = (more, refl)
