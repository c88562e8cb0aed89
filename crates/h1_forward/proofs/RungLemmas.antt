-- A request that one server read is the one that the next server reads of what a client took.
use Rattle.std.proofs.Common.{◌≡◌, ℕ, ◌≤◌, Some, List, [], ◌∷◌, ◌++◌, length, refl, sym, ap, ◌∙◌, subst, append-nil}
use Rattle.std.specs.Io.KnownBytes.{append_known}
use Rattle.h1_body.specs.Framing.{framing}
use Rattle.h1_body.specs.Writer.{begun}
use Rattle.h1_body.specs.declared.chunking.TheConstants.{CHUNK_LIMIT}
use Rattle.h1_client.specs.ClientView.{ClientView}
use Rattle.h1_head.specs.declared.limits.TheConstants.{MAX_HEADER_SIZE}
use Rattle.h1_head.specs.Views.{RequestView}
use Rattle.h1_head.specs.Wire.{request_bytes}
use Rattle.h1_link.specs.LinkState.{LinkState}
use Rattle.h1_transcript.specs.Stream.{Message, Parses, empty}
use Rattle.h1_forward.specs.declared.forward.Stage.TheVariants.{Done}
use Rattle.h1_forward.specs.Forwarded.{IsReadFrom, message}
use Rattle.h1_forward.specs.Forwarding.{ForwardView, new_forward}
use Rattle.h1_forward.specs.Runs.{IsForwarded, Runs}
use Rattle.h1_forward.specs.WrittenBody.{body_from, payload_of}
use Rattle.h1_forward.proofs.ForwardLemmas.{forwarded_alone, forwarded_reads, nothing_ends}
use Rattle.h1_forward.proofs.RunLemmas.{run_takes}

some_same : (one other : List ℕ) → Some one ≡ Some other → one ≡ other
some_same one other same = cc

-- the whole payload as one piece
one_piece : (payload : List ℕ) → payload_of (payload ∷ []) ≡ payload
one_piece payload = append-nil payload

of_pieces : (source : List ℕ) (request : RequestView) (payload : List ℕ)
    → IsReadFrom source request payload → IsReadFrom source request (payload_of (payload ∷ []))
of_pieces source request payload is =
    subst (λ (p : List ℕ). IsReadFrom source request p) (sym (one_piece payload)) is

pub is_forwarded : {L : Type 0} (state : L → LinkState) (same_plan : L → L → Type 0)
    (source : List ℕ) (moments : List ℕ) (request : RequestView) (payload front : List ℕ) (new : ForwardView)
    (before behind : ClientView L) (bytes : List ℕ) → IsReadFrom source request payload
    → length payload ≤ CHUNK_LIMIT → request_bytes request ≡ Some front
    → length front ≤ MAX_HEADER_SIZE → before.transfer.outgoing.owed ≡ []
    → (state before.transfer.link).written ≡ Some bytes
    → Runs state same_plan moments (new_forward request payload) before new behind → new.stage ≡ Done
    → IsForwarded bytes (state behind.transfer.link).written request payload
is_forwarded state same_plan source moments request payload front new before behind bytes is few head short free told run done =
    let took =
    run_takes state same_plan moments request payload new before behind front free head run done in
    let own = took.are in
    let fits : length own.front ≤ MAX_HEADER_SIZE =
    subst (λ (xs : List ℕ). length xs ≤ MAX_HEADER_SIZE)
    (some_same front own.front (sym head ∙ own.head)) short in
    let count = length (body_from (begun (framing request)) (payload ∷ [])) in
    let read = of_pieces source request payload is in
    let same : took.bytes ++ [] ≡ took.bytes = append-nil took.bytes in
    let alike : message request (payload_of (payload ∷ [])) count ≡ message request payload count =
    ap (λ p. message request p count) (one_piece payload) in
    record {
      bytes = took.bytes;
      took = took.took ∙ ap (λ known. append_known known took.bytes) told;
      count = count;
      read = subst (λ (xs : List ℕ). Parses xs (message request payload count ∷ []) empty) same
          (subst (λ (m : Message). Parses (took.bytes ++ []) (m ∷ []) empty) alike
          (forwarded_reads source took.bytes [] request (payload ∷ []) [] empty read (few, tt)
          own fits refl));
      alone = λ all tail parses.
          let only = forwarded_alone source took.bytes [] request (payload ∷ []) all tail read
          (few, tt) own fits
          (subst (λ (xs : List ℕ). Parses xs all tail) (sym same) parses) in
          let none = nothing_ends only.0 tail only.2 in (
            only.1 ∙ ap (λ rest. message request (payload_of (payload ∷ [])) count ∷ rest) none.0
                ∙ ap (λ m. m ∷ []) alike,
            none.1,
          );
    }
