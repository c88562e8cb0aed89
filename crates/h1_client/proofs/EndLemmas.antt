-- What a call that writes the end of a request's body comes to.
use Rattle.std.proofs.Common.{◌≡◌, ℕ, Bool, true, false, ◌&&◌, not, Option, Some, IfSome, IfNone, Result, Ok, Err, refl, sym, ap, ◌∙◌, subst}
use Rattle.h1_transfer.specs.Calls.{Called, write_fault_of}
use Rattle.h1_transfer.specs.EndWrites.{EndCall, stage_of}
use Rattle.h1_client.specs.Words.{Poll, Pending, Ready, Error, HeadSearch, LinkState, RequestView, ResponseView, TransferView, itself, until_close}
use Rattle.h1_client.specs.Calls.{EndWrite}
use Rattle.h1_client.specs.ClientView.{ClientView, is_spent}
use Rattle.h1_client.specs.Reusing.{is_over}
use Rattle.h1_client.specs.Upgrading.{EndsWithRequest, ends_both}
use Rattle.h1_client.specs.declared.keeping.Keepalive.{Keepalive}
use Rattle.h1_client.proofs.CallLemmas.{SoundOf}
use Rattle.h1_client.proofs.ExchangeLemmas.{head_of_and}
use Rattle.h1_client.proofs.SoundLemmas.{sound_passes}

-- the body of the response ends with the request's, or all stays
ends_with : {L : Type 0} (state : L → LinkState) (sent new : TransferView L) (looking : HeadSearch)
    (request : Option RequestView) (final : Option ResponseView) (k : Keepalive) (both : Bool)
    → SoundOf state sent looking request final k
    → (until_close sent.outgoing.writer.framing && sent.outgoing.writer.ended
    && not (is_over sent.body)) ≡ both
    → EndsWithRequest both sent new → SoundOf state new looking request final k
ends_with {L} state sent new looking request final k true sound is ends =
    let writer = sent.outgoing.writer in
    let ended = head_of_and (until_close writer.framing && writer.ended) (not (is_over sent.body)) is in
    let on = (head_of_and (until_close writer.framing) writer.ended ended.0).0 in
    let link : new.link ≡ sent.link = ap (λ (t : TransferView L). t.link) ends.rest in
    let received : new.received ≡ sent.received = ap (λ (t : TransferView L). t.received) ends.rest in
    let out : new.outgoing ≡ sent.outgoing = ap (λ (t : TransferView L). t.outgoing) ends.rest in
    rw (link, received, out) (sound_passes (state sent.link) sent.received looking request final
    sent.body.reader new.body.reader sent.outgoing sent.outgoing k sound (sound.changed on) on)
ends_with state sent new looking request final k false sound is ends = rw ends sound

-- what a call that ends the request's body leaves of the response's
pub sound_over : {L : Type 0} (state : L → LinkState) (sent new : TransferView L)
    (looking : HeadSearch) (request : Option RequestView) (final : Option ResponseView)
    (k : Keepalive) (outcome : Poll (Result (Option ℕ) Error))
    → SoundOf state sent looking request final k
    → EndsWithRequest (ends_both sent outcome) sent new
    → SoundOf state new looking request final k
sound_over state sent new looking request final k (Ready (Ok count)) sound ends =
    ends_with state sent new looking request final k (ends_both sent (Ready (Ok count))) sound refl ends
sound_over state sent new looking request final k (Ready (Err error)) sound ends = rw ends sound
sound_over state sent new looking request final k Pending sound ends = rw ends sound

ends_link : {L : Type 0} (sent new : TransferView L) (both : Bool) → EndsWithRequest both sent new
    → sent.link ≡ new.link
ends_link {L} sent new true ends = ap (λ (t : TransferView L). t.link) (sym ends.rest)
ends_link {L} sent new false ends = ap (λ (t : TransferView L). t.link) (sym ends)

-- a call that writes the end of the body, as its session sees it
pub ends_write : {L : Type 0} (state : L → LinkState) (same_plan : L → L → Type 0)
    (s : ClientView L) (start sent new : TransferView L) (outcome : Poll (Result (Option ℕ) Error))
    (left : Option ℕ) (spent : Bool)
    → start ≡ record s.transfer { budget = Some 64 }
    → IfSome start.outgoing.refused (λ error. (outcome ≡ Ready (Err error)) × (sent ≡ start))
    → IfNone start.outgoing.refused (EndCall state itself start sent outcome (stage_of start.outgoing))
    → Called (state start.link) (state sent.link) false (write_fault_of outcome)
    → same_plan start.link sent.link → EndsWithRequest (ends_both sent outcome) sent new
    → left ≡ new.budget → spent ≡ is_spent outcome left
    → EndWrite state same_plan s (record s { transfer = new; spent = spent }) outcome
ends_write {L} state same_plan s start sent new outcome left spent begins again writes calls plan ends budget is =
    let link : sent.link ≡ new.link = ends_link sent new (ends_both sent outcome) ends in
    let before : start.link ≡ s.transfer.link = ap (λ (t : TransferView L). t.link) begins in
    record {
      sent = sent;
      again = subst (λ (t : TransferView L). IfSome t.outgoing.refused
          (λ error. (outcome ≡ Ready (Err error)) × (sent ≡ t))) begins again;
      writes = subst (λ (t : TransferView L). IfNone t.outgoing.refused
          (EndCall state itself t sent outcome (stage_of t.outgoing))) begins writes;
      ends = ends;
      rest = ap (λ (b : Bool). record s { transfer = new; spent = b })
          (is ∙ ap (λ (l : Option ℕ). is_spent outcome l) budget);
      calls = subst (λ (l : L). Called (state l) (state new.link) false (write_fault_of outcome)) before
          (subst (λ (l : L). Called (state start.link) (state l) false (write_fault_of outcome)) link calls);
      plan = subst (λ (l : L). same_plan l new.link) before
          (subst (λ (l : L). same_plan start.link l) link plan);
    }
