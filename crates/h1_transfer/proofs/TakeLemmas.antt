-- Lemmas on payload that is taken out of received bytes.
use Rattle.std.proofs.Common.{◌≡◌, ℕ, ◌<◌, List, [], ◌∷◌, length, take, drop, slice_range, Option, Some, None, option_map, Ok, Err, ◌≢◌, refl, sym, ap, ◌∙◌, subst, take-append-drop, arith, inl, inr, length-take, length-drop}
use Rattle.std.proofs.lemmas.List.{length-take-le, drop_all}
use Rattle.h1_error.specs.Memory.{no_memory}
use Rattle.h1_error.specs.declared.error.ErrorType.TheVariants as kind
use Rattle.h1_body.proofs.PayloadLemmas.{goes_past}
use Rattle.h1_transfer.specs.Decoding.{GoesPast, StaysWithin}
use Rattle.h1_transfer.proofs.BodyLemmas.{uses_nothing}
use Rattle.h1_transfer.specs.Words.{Error, stop_of, reads, Feeds, BodyReader, IsPast, TakeStep, Payload, grown}
use Rattle.h1_body.specs.Feeds.{IsEnd}
use Rattle.h1_body.specs.Takes.{Takes, payload_bytes, some_bytes}
use Rattle.h1_body.specs.declared.fed.Fed.{Fed}
use Rattle.h1_body.specs.declared.fed.Taken.{Taken}
use Rattle.h1_body.specs.declared.fed.FeedState.TheVariants as s
use Rattle.h1_transfer.proofs.Words.{Uses}
use Rattle.h1_transfer.specs.Taking.{FaultOf, IsJudged, TakesBody, TakesPayload}
use Rattle.h1_transfer.specs.declared.taking.TakeStep.TheVariants as t

-- where no payload came and the body goes on, all bytes are used
all_used : (old : List ℕ) (reader behind : BodyReader) (fed : Fed)
    → Feeds (reads reader) (reads behind) old fed → slice_range old fed.payload.start fed.payload.end ≡ []
    → fed.state ≡ s.More → drop fed.used old ≡ []
all_used old reader behind fed feeds none more =
    elim feeds.rests [
      | inl all ↦ drop_all fed.used old (omega arith)
      | inr else ↦ elim else [
        | inl end ↦ absurd (subst IsEnd more end)
        | inr run ↦
            let len = simp (length-take, length-drop) at (ap (λ bytes. length bytes) none) in
            absurd (omega (arith, len, run.0, feeds.used_up, feeds.within))
      ]
    ]

bytes_are : (xs : List ℕ) → payload_bytes (some_bytes xs) ≡ xs
bytes_are [] = refl
bytes_are (x ∷ xs) = refl

-- payload is there only where there are bytes
some_are : (xs bytes : List ℕ) → some_bytes xs ≡ Some bytes → 0 < length bytes
some_are [] bytes is = absurd (never is) where
  never : None ≡ Some bytes → ⊥
  never same = cc
some_are (x ∷ xs) bytes is =
    let same : bytes ≡ x ∷ xs = cc in
    rw same (omega arith)

-- the payload that was taken is what the reader made of the bytes
payload_is : {old new : List ℕ} {reader behind : BodyReader} {taken : Taken} (takes : Takes reader behind old new taken)
    → slice_range old takes.fed.payload.start takes.fed.payload.end ≡ payload_bytes taken.payload
payload_is takes = sym (ap payload_bytes takes.payload ∙ bytes_are _)

-- what was taken is used
uses_taken : {old new : List ℕ} {reader behind : BodyReader} {taken : Taken} (kept keeps : Option Payload)
    → Takes reader behind old new taken
    → keeps ≡ option_map (grown (payload_bytes taken.payload)) kept
    → Uses old new reader behind kept keeps (payload_bytes taken.payload)
uses_taken {old} {behind = behind} kept keeps takes keeps_so = record {
  used = take takes.fed.used old;
  bytes = rw takes.bytes (sym (take-append-drop takes.fed.used old));
  decoded = record {
    reads = λ more. rw (length-take-le takes.fed.used old takes.feeds.within, ← payload_is takes)
        (takes.feeds.reads more);
  };
  keeps_payload = keeps_so;
}

-- what was taken is used, and the step tells what it was
pub takes_taken : (old new : List ℕ) (reader behind : BodyReader) (taken : Taken)
    (kept keeps : Option Payload) (step : TakeStep)
    → Takes reader behind old new taken
    → keeps ≡ option_map (grown (payload_bytes taken.payload)) kept
    → IsJudged taken.state taken.payload step
    → TakesBody old new reader behind kept keeps (Ok step)
takes_taken old new reader behind taken kept keeps (t.Piece bytes) takes keeps_so judged =
    (rw judged at (uses_taken kept keeps takes keeps_so), some_are _ bytes (sym takes.payload ∙ judged), tt)
takes_taken old new reader behind taken kept keeps t.Done takes keeps_so judged = (
  rw judged.0 at (uses_taken kept keeps takes keeps_so),
  sym takes.feeds.state ∙ ap stop_of (sym takes.state ∙ judged.1),
  tt,
)
takes_taken old new reader behind taken kept keeps t.Broken takes keeps_so judged = (
  rw judged.0 at (uses_taken kept keeps takes keeps_so),
  sym takes.feeds.state ∙ ap stop_of (sym takes.state ∙ judged.1),
  tt,
)
takes_taken old new reader behind taken kept keeps t.Lacks takes keeps_so judged =
    let more = sym takes.state ∙ judged.1 in
    let none = payload_is takes ∙ ap payload_bytes judged.0 in (
      rw judged.0 at (uses_taken kept keeps takes keeps_so),
      (
        takes.bytes ∙ all_used old reader behind takes.fed takes.feeds none more,
        sym takes.feeds.state ∙ ap stop_of more,
      ),
      tt,
    )
takes_taken old new reader behind taken kept keeps t.TooLarge takes keeps_so judged = absurd judged

not_large : (error : Error) → error ≡ no_memory → error.kind ≡ kind.ContentTooLarge → ⊥
not_large error starved large = never (sym (ap (λ (e : Error). e.kind) starved) ∙ large) where
  never : kind.NoMemory ≡ kind.ContentTooLarge → ⊥
  never same = cc

-- a body of which no more was taken, though there was memory, goes on past its limit
past_for : (kept : Option Payload) (reader : BodyReader) (old : List ℕ) (error : Error)
    → FaultOf kept reader old error → error.kind ≡ kind.ContentTooLarge → GoesPast kept reader old
past_for None reader old error starved large = absurd (not_large error starved.0 large)
past_for (Some kept) reader old error fault large = elim fault.fault [
  | inl starved ↦ absurd (not_large error starved.0 large)
  | inr past ↦ (fault.run, fault.next, past.1)
]

-- for one with another answer there was no memory, though it stays within its limit
starved_for : (kept : Option Payload) (reader : BodyReader) (old : List ℕ) (error : Error)
    → FaultOf kept reader old error → error.kind ≢ kind.ContentTooLarge
    → (error ≡ no_memory) × StaysWithin kept reader old
starved_for None reader old error starved other = starved
starved_for (Some kept) reader old error fault other = elim fault.fault [
  | inl starved ↦ (starved.0, (fault.run, fault.next, starved.1, starved.2))
  | inr past ↦ absurd (other (ap (λ (e : Error). e.kind) past.0))
]

pub takes_past : (old new : List ℕ) (reader behind : BodyReader) (kept keeps : Option Payload)
    (error : Error) → TakesPayload old new reader behind kept keeps (Err error)
    → error.kind ≡ kind.ContentTooLarge
    → TakesBody old new reader behind kept keeps (Ok t.TooLarge)
takes_past old new reader behind kept keeps error h large =
    rw (h.1, h.2, h.3) (uses_nothing old reader kept, past_for kept reader old error h.0 large, refl)

pub takes_none : (old new : List ℕ) (reader behind : BodyReader) (kept keeps : Option Payload)
    (error : Error) → TakesPayload old new reader behind kept keeps (Err error)
    → error.kind ≢ kind.ContentTooLarge
    → TakesBody old new reader behind kept keeps (Err error)
takes_none old new reader behind kept keeps error h other =
    let starved = starved_for kept reader old error h.0 other in
    (starved.0, starved.1, h.1, h.2, h.3)

-- a run that goes past the limit begins a body that does
pub past_body : (payload : Payload) (reader : BodyReader) (received : List ℕ)
    → GoesPast (Some payload) reader received
    → IsPast payload.gathering.limit payload.bytes (reads reader received)
past_body payload reader received past = goes_past payload.gathering.limit payload.bytes past.1 past.2
