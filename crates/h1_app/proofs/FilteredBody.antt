-- What the filters make of a reply's body, or why they refuse it.
use Rattle.std.proofs.Common.{◌≡◌, ◌==◌, ◌<◌, ℕ, ◌⊎◌, inl, inr, Bool, false, List, [], ◌∷◌, length, sym, arith, Option, None, Some, IfNone, IfSome, Ok, Err, ap, refl, true, unwrap_or, ◌∙◌}
use Rattle.std.proofs.lemmas.Bool.{false≢true, ne_eqb}
use Rattle.h1_modules.specs.Filters.{run}
use Rattle.h1_modules.specs.Outcome.{ErrsBy, Outcome as Made, Piece, refused_by}
use Rattle.h1_transcript.specs.Refusals.{IsReplyRefusedBy}
use Rattle.h1_app.specs.Words.{End, Entry, Error, Exchange, Filters, Given, LinkState, Outcome, Reply, ResponseView, no_memory}
use Rattle.h1_application.specs.Application.{Runs}
use Rattle.h1_app.proofs.RefusedSteps.{erred_by}
use Rattle.h1_app.proofs.ReplyLemmas.{at_some}
use Rattle.h1_app.proofs.Words.{Chain, FilterReady, IsPieceOf, ModulesStand, NotesBody, SoundStage, Stepped, SteppedWith, behind_header, bytes_of, filters_of, going, outcome_end, rules_with}
use Rattle.h1_app.specs.declared.exchange.Stage.TheVariants as at

-- the body is noted as the filters make it, and what goes of it is handed out
pub record MadeBody (filters : Filters) (e : Entry) (reply : Reply) (piece : Option (List ℕ))
    (f : Entry) : Type 0 where
  pub bytes : List ℕ
  pub made : filters.body e.head reply ≡ Ok bytes
  pub notes : NotesBody reply bytes piece e f

goes_whole : (reply : Reply) → going reply reply.body ≡ reply.body
goes_whole reply = whole reply.body where
  whole : (bytes : List ℕ) → going (record reply { body = bytes }) bytes ≡ bytes
  whole [] = refl
  whole (b ∷ bytes) = refl

-- whether there are bytes, as it is looked
pub no_bytes : (bytes : List ℕ) → true ≡ (length bytes == 0) → bytes ≡ []
no_bytes [] none = refl
no_bytes (b ∷ bytes) none =
    absurd (false≢true (sym (none ∙ ne_eqb (length (b ∷ bytes)) 0 (λ e. absurd (omega (arith, e))))))

pub some_bytes : (bytes : List ℕ) → false ≡ (length bytes == 0) → 0 < length bytes
some_bytes [] some = absurd (false≢true some)
some_bytes (b ∷ bytes) some = omega arith

-- without modules the reply's body goes as it is
pub plain_body : {M : Type 0} (filter : M → Piece → Made M Piece ℕ) (modules : List M)
    (reply : Option Reply) (body : List ℕ) (piece : Option (List ℕ)) (e f : Entry)
    → modules ≡ [] → IfSome reply (λ reply. body ≡ reply.body) → IsPieceOf body piece
    → f ≡ record e { sent_body = Some body }
    → IfSome reply (λ reply. (sent : Piece)
    × (run filter modules (Some reply.body) ≡ Ok (modules, sent))
    × NotesBody reply (unwrap_or sent []) piece e f)
plain_body filter modules None body piece e f none is goes notes = tt
plain_body filter modules (Some reply) body piece e f none is goes notes = (
  Some body,
  rw (none, is) refl,
  record { entry = notes; goes = rw (is, goes_whole reply) (rw is at goes) },
)

-- what a step leaves that notes it: no filter of the exchange runs any more
pub noted_with : {L C J M : Type 0} {state : L → LinkState} {pends : J → ℕ}
    {gives : Given → Reply → Type 0}
    {runs : Runs J} {chain : Chain M} {now : ℕ}
    {shutdown : Bool} {modules : List M} {x y : Exchange L J C} {result : Outcome} (e f : Entry)
    (bytes : List ℕ) (written : ℕ)
    → Stepped state pends (rules_with gives chain) runs now shutdown x y result
    → f ≡ record e { sent_body = Some bytes }
    → y.transcript.last ≡ Some (record f { written = written })
    → SteppedWith state pends gives runs chain now shutdown modules x y result
noted_with {M} {chain} {modules} {y} {result} e f bytes written stepped notes is = record {
  stepped = stepped;
  stand = by_end (outcome_end result);
}
  where
    stand : ModulesStand chain y.transcript.last modules
    stand = rw (is, notes) tt

    by_end : (end : Option End) → IfNone end (ModulesStand chain y.transcript.last modules)
    by_end None = stand
    by_end (Some reason) = tt

-- what the modules behind the header make of the body is what the filters of the exchange do
filtered_body : {M : Type 0} (chain : Chain M) (e : Entry) (reply : Reply) (header : ResponseView)
    (modules : List M) → behind_header chain e.head reply ≡ Ok (modules, header)
    → (filters_of chain).body e.head reply
    ≡ bytes_of (chain.body true modules (Some reply.body))
filtered_body chain e reply header modules stands = rw stands refl

module _ {L C J M : Type 0} {gives : Given → Reply → Type 0}
    {runs : Runs J} {chain : Chain M} {now : ℕ}
    {modules : List M} {x : Exchange L J C} (ready : FilterReady gives runs chain now modules x)
    (h : SoundStage runs x.session x.transcript.last at.TakeBody) where
  stands : behind_header chain h.0.head h.3 ≡ Ok (modules, h.4.header)
  stands = rw (h.7, h.6.sent_head, h.5.is) at (rw h.1 at ready.stand)

  filtered : (filters_of chain).body h.0.head h.3
      ≡ bytes_of (chain.body true modules (Some h.3.body))
  filtered = filtered_body chain h.0 h.3 h.4.header modules stands

  -- the body that the modules make is that of the exchange's filters
  pub body_made : (piece : Option (List ℕ)) (made : List M) (f : Entry)
      → IfSome x.transcript.last (λ e. IfSome e.reply (λ reply. (sent : Piece)
      × (chain.body true modules (Some reply.body) ≡ Ok (made, sent))
      × NotesBody reply (unwrap_or sent []) piece e f))
      → MadeBody (filters_of chain) h.0 h.3 piece f
  body_made piece made f noted =
      let n : (sent : Piece) × (chain.body true modules (Some h.3.body) ≡ Ok (made, sent))
      × NotesBody h.3 (unwrap_or sent []) piece h.0 f =
      at_some (λ reply. (sent : Piece)
      × (chain.body true modules (Some reply.body) ≡ Ok (made, sent))
      × NotesBody reply (unwrap_or sent []) piece h.0 f) h.0.reply h.3 h.5.is (rw h.1 at noted) in
      record { bytes = unwrap_or n.0 []; made = filtered ∙ ap bytes_of n.1; notes = n.2 }

  -- and where these refuse it, so do those
  pub body_refused : (error : Error)
      → IfSome x.transcript.last (λ e. IfSome e.reply
      (λ reply. ErrsBy refused_by (chain.body true modules (Some reply.body)) error))
      → ((n : ℕ) × IsReplyRefusedBy (filters_of chain) h.0 h.3 n × (error ≡ refused_by n))
      ⊎ (error ≡ no_memory)
  body_refused error errs =
      by_error (erred_by (chain.body true modules (Some h.3.body)) error
      (at_some (λ reply. ErrsBy refused_by (chain.body true modules (Some reply.body)) error)
      h.0.reply h.3 h.5.is (rw h.1 at errs)))
    where
      by_error : ((n : ℕ) × (chain.body true modules (Some h.3.body) ≡ Err n)
          × (error ≡ refused_by n)) ⊎ (error ≡ no_memory)
          → ((n : ℕ) × IsReplyRefusedBy (filters_of chain) h.0 h.3 n × (error ≡ refused_by n))
          ⊎ (error ≡ no_memory)
      by_error (inl refused) = inl (
        refused.0,
        inr (rw h.6.sent_head refl, filtered ∙ ap bytes_of refused.1),
        refused.2,
      )
      by_error (inr memory) = inr memory
