-- What the calls that write a request leave of what a session reads.
use Rattle.std.proofs.Common.{◌≡◌, inl, inr, ℕ, Bool, true, false, List, Option, Some, None, IfSome, IfNone, Result, Ok, Err, ap, ◌∙◌}
use Rattle.h1_link.proofs.Laters.{append_known-nil}
use Rattle.h1_transfer.specs.EndWrites.{EndCall, EndStage, starts, falls_short, goes_on, stage_of}
use Rattle.h1_transfer.specs.PieceWrites.{WritesPiece}
use Rattle.h1_client.specs.Words.{Poll, Pending, Ready, Error, RequestView, LinkState, TransferView, Deadline, itself, request_bytes}
use Rattle.h1_client.specs.Asking.{AsksBy, AsksWith, SendsHead, StaysAsIs, taken_up}
use Rattle.h1_client.specs.Calls.{EndWrite}
use Rattle.h1_client.specs.ClientView.{ClientView, call_begun, request_of}
use Rattle.h1_client.specs.Upgrading.{EndsWithRequest, ends_both}
use Rattle.h1_client.specs.declared.answered.Answered.{Answered}
use Rattle.h1_client.specs.declared.asked.Asked.{Asked}
use Rattle.h1_asking.specs.Reading.{Unread}
use Rattle.h1_asking.specs.Turns.{IsAnsweredEmpty, IsHandedOver}

-- a call gave no byte, and left what is received
record GaveNone {L : Type 0} (state : L → LinkState) (old new : TransferView L) : Type 0 where
  given : (state new.link).given ≡ (state old.link).given
  received : new.received ≡ old.received

gave_same : {L : Type 0} (state : L → LinkState) (old new : TransferView L) → new ≡ old
    → GaveNone state old new
gave_same {L} state old new same = record {
  given = ap (λ (t : TransferView L). (state t.link).given) same;
  received = ap (λ (t : TransferView L). t.received) same;
}

keeps_unread : {L : Type 0} (state : L → LinkState) (before : Option (List ℕ)) (old new : ClientView L)
    → GaveNone state old.transfer new.transfer → new.answered ≡ old.answered
    → Unread state before old → Unread state before new
keeps_unread state before old new gave same unread = record {
  given = gave.given ∙ unread.given;
  received = gave.received ∙ unread.received;
  last = ap (λ (a : Answered). a.last) same ∙ unread.last;
}

sends_unread : {L : Type 0} (state : L → LinkState) (before : Option (List ℕ)) (now : ℕ)
    (old new : ClientView L) (outcome : Poll (Result ℕ Error))
    → SendsHead state now old new outcome → Unread state before old → Unread state before new
sends_unread {L} state before now old new outcome sends unread =
    keeps_unread state before old new (record {
      given = sends.delivers.sent.moved.given ∙ append_known-nil (state old.transfer.link).given;
      received = ap (λ (t : TransferView L). t.received) sends.delivers.rest;
    }) (ap (λ (s : ClientView L). s.answered) sends.rest) unread

stays_unread : {L : Type 0} (state : L → LinkState) (before : Option (List ℕ))
    (old new : ClientView L) (head kept : Option RequestView)
    → StaysAsIs old new head kept → Unread state before old → Unread state before new
stays_unread {L} state before old new head kept stays unread =
    keeps_unread state before old new (record {
      given = ap (λ (s : ClientView L). (state s.transfer.link).given) stays.0;
      received = ap (λ (s : ClientView L). s.transfer.received) stays.0;
    }) (ap (λ (s : ClientView L). s.answered) stays.0) unread

with_unread : {L : Type 0} (state : L → LinkState) (before : Option (List ℕ)) (now : ℕ)
    (old new : ClientView L) (head : RequestView) (kept : Option RequestView)
    (bytes : Option (List ℕ)) (outcome : Poll (Result ℕ Error))
    → AsksWith state now old new head kept bytes outcome → Unread state before old
    → Unread state before new
with_unread state before now old new head kept None outcome asks unread =
    stays_unread state before old new (Some head) kept asks.1 unread
with_unread state before now old new head kept (Some bytes) outcome asks unread =
    sends_unread state before now (taken_up (call_begun old) head bytes) new outcome asks.1 (record {
      given = unread.given;
      received = unread.received;
      last = unread.last;
    })

asks_unread : {L : Type 0} (state : L → LinkState) (before : Option (List ℕ)) (now : ℕ)
    (old new : ClientView L) (head kept : Option RequestView) (outcome : Poll (Result ℕ Error))
    → AsksBy state now old new head kept outcome → Unread state before old → Unread state before new
asks_unread state before now old new None kept outcome asks unread =
    sends_unread state before now (call_begun old) new outcome asks.1 (record {
      given = unread.given;
      received = unread.received;
      last = unread.last;
    })
asks_unread state before now old new (Some head) kept outcome asks unread = elim asks [
  | inl starves ↦ stays_unread state before old new (Some head) kept starves.1 unread
  | inr writes ↦ with_unread state before now old new head kept (request_bytes head) outcome writes unread
]

-- a call that writes the head of a request
pub asked_unread : {L : Type 0} (state : L → LinkState) (before : Option (List ℕ)) (now : ℕ)
    (old new : ClientView L) (head kept : Option RequestView) (outcome : Poll (Result ℕ Error))
    (refused : Option Error)
    → IfSome refused (λ error. (outcome ≡ Ready (Err error)) × StaysAsIs old new head kept)
    → IfNone refused (AsksBy state now old new head kept outcome)
    → Unread state before old → Unread state before new
asked_unread state before now old new head kept outcome (Some error) again asks unread =
    stays_unread state before old new head kept again.1 unread
asked_unread state before now old new head kept outcome None again asks unread =
    asks_unread state before now old new head kept outcome asks unread

sends_request : {L : Type 0} (state : L → LinkState) (now : ℕ)
    (old new : ClientView L) (outcome : Poll (Result ℕ Error))
    → SendsHead state now old new outcome → request_of new ≡ request_of old
sends_request state now old new outcome sends = ap (λ (a : Asked). a.request) sends.judges.asked

stays_handed : {L : Type 0} (request : RequestView) (old new : ClientView L)
    (head kept : Option RequestView) → StaysAsIs old new head kept
    → IsHandedOver request head (request_of old) → IsHandedOver request kept (request_of new)
stays_handed {L} request old new head kept stays handed =
    let same : request_of new ≡ request_of old = ap (λ (s : ClientView L). request_of s) stays.0 in
    rw (stays.1, same) handed

handed_none : (request : RequestView) (kept taken : Option RequestView) → kept ≡ None
    → taken ≡ Some request → IsHandedOver request kept taken
handed_none request kept taken none is = rw none is

with_handed : {L : Type 0} (state : L → LinkState) (request : RequestView) (now : ℕ)
    (old new : ClientView L) (head : RequestView) (kept : Option RequestView)
    (bytes : Option (List ℕ)) (outcome : Poll (Result ℕ Error))
    → AsksWith state now old new head kept bytes outcome
    → IsHandedOver request (Some head) (request_of old) → IsHandedOver request kept (request_of new)
with_handed state request now old new head kept None outcome asks handed =
    stays_handed request old new (Some head) kept asks.1 handed
with_handed state request now old new head kept (Some bytes) outcome asks handed =
    handed_none request kept (request_of new) asks.0
    (sends_request state now (taken_up (call_begun old) head bytes) new outcome asks.1
    ∙ ap Some handed.0)

asks_handed : {L : Type 0} (state : L → LinkState) (request : RequestView) (now : ℕ)
    (old new : ClientView L) (head kept : Option RequestView) (outcome : Poll (Result ℕ Error))
    → AsksBy state now old new head kept outcome
    → IsHandedOver request head (request_of old) → IsHandedOver request kept (request_of new)
asks_handed state request now old new None kept outcome asks handed =
    handed_none request kept (request_of new) asks.0
    (sends_request state now (call_begun old) new outcome asks.1 ∙ handed)
asks_handed state request now old new (Some head) kept outcome asks handed = elim asks [
  | inl starves ↦ stays_handed request old new (Some head) kept starves.1 handed
  | inr writes ↦ with_handed state request now old new head kept (request_bytes head) outcome writes handed
]

-- a call that writes the head of a request takes up the one that is handed in
pub asked_handed : {L : Type 0} (state : L → LinkState) (request : RequestView) (now : ℕ)
    (old new : ClientView L) (head kept : Option RequestView) (outcome : Poll (Result ℕ Error))
    (refused : Option Error)
    → IfSome refused (λ error. (outcome ≡ Ready (Err error)) × StaysAsIs old new head kept)
    → IfNone refused (AsksBy state now old new head kept outcome)
    → IsHandedOver request head (request_of old) → IsHandedOver request kept (request_of new)
asked_handed state request now old new head kept outcome (Some error) again asks handed =
    stays_handed request old new head kept again.1 handed
asked_handed state request now old new head kept outcome None again asks handed =
    asks_handed state request now old new head kept outcome asks handed

empty_kept : (outcome : Poll (Result ℕ Error)) (kept : Option RequestView) → kept ≡ None
    → IsAnsweredEmpty outcome kept
empty_kept (Ready (Ok count)) kept none = none
empty_kept (Ready (Err error)) kept none = tt
empty_kept Pending kept none = tt

with_empty : {L : Type 0} (state : L → LinkState) (now : ℕ) (old new : ClientView L)
    (head : RequestView) (kept : Option RequestView) (bytes : Option (List ℕ))
    (outcome : Poll (Result ℕ Error))
    → AsksWith state now old new head kept bytes outcome → IsAnsweredEmpty outcome kept
with_empty state now old new head kept None outcome asks = rw asks.0 tt
with_empty state now old new head kept (Some bytes) outcome asks = empty_kept outcome kept asks.0

asks_empty : {L : Type 0} (state : L → LinkState) (now : ℕ) (old new : ClientView L)
    (head kept : Option RequestView) (outcome : Poll (Result ℕ Error))
    → AsksBy state now old new head kept outcome → IsAnsweredEmpty outcome kept
asks_empty state now old new None kept outcome asks = empty_kept outcome kept asks.0
asks_empty state now old new (Some head) kept outcome asks = elim asks [
  | inl starves ↦ rw starves.0 tt
  | inr writes ↦ with_empty state now old new head kept (request_bytes head) outcome writes
]

-- a call that is done took the head up
pub asked_empty : {L : Type 0} (state : L → LinkState) (now : ℕ)
    (old new : ClientView L) (head kept : Option RequestView) (outcome : Poll (Result ℕ Error))
    (refused : Option Error)
    → IfSome refused (λ error. (outcome ≡ Ready (Err error)) × StaysAsIs old new head kept)
    → IfNone refused (AsksBy state now old new head kept outcome)
    → IsAnsweredEmpty outcome kept
asked_empty state now old new head kept outcome (Some error) again asks = rw again.0 tt
asked_empty state now old new head kept outcome None again asks =
    asks_empty state now old new head kept outcome asks

piece_gave : {L : Type 0} (state : L → LinkState) (deadline : Deadline) (start new : TransferView L)
    (piece kept : Option (List ℕ)) (outcome : Poll (Result (Option ℕ) Error)) (refused : Option Error)
    → IfSome refused (λ error. (outcome ≡ Ready (Err error)) × (new ≡ start) × (kept ≡ piece))
    → IfNone refused (WritesPiece state itself deadline start new piece kept outcome)
    → GaveNone state start new
piece_gave state deadline start new piece kept outcome (Some error) again writes =
    gave_same state start new again.1
piece_gave {L} state deadline start new piece kept outcome None again writes = record {
  given = writes.writes.sent.moved.given ∙ append_known-nil (state start.link).given;
  received = ap (λ (t : TransferView L). t.received) writes.writes.rest;
}

-- a call that writes a piece of the body
pub piece_unread : {L : Type 0} (state : L → LinkState) (before : Option (List ℕ))
    (deadline : Deadline) (old new : ClientView L) (piece kept : Option (List ℕ))
    (outcome : Poll (Result (Option ℕ) Error)) (refused : Option Error)
    → IfSome refused (λ error. (outcome ≡ Ready (Err error))
    × (new.transfer ≡ (call_begun old).transfer) × (kept ≡ piece))
    → IfNone refused (WritesPiece state itself deadline (call_begun old).transfer new.transfer piece kept
    outcome)
    → new.answered ≡ old.answered → Unread state before old → Unread state before new
piece_unread state before deadline old new piece kept outcome refused again writes same unread =
    let gave = piece_gave state deadline (call_begun old).transfer new.transfer piece kept outcome
    refused again writes in
    keeps_unread state before old new (record { given = gave.given; received = gave.received }) same
    unread

end_gave : {L : Type 0} (state : L → LinkState) (start new : TransferView L)
    (outcome : Poll (Result (Option ℕ) Error)) (stage : Option EndStage)
    → EndCall state itself start new outcome stage → GaveNone state start new
end_gave state start new outcome None call = gave_same state start new call.same
end_gave {L} state start new outcome (Some falls_short) call = record {
  given = ap (λ (t : TransferView L). (state t.link).given) call.ends;
  received = ap (λ (t : TransferView L). t.received) call.ends;
}
end_gave {L} state start new outcome (Some starts) call = record {
  given = call.writes.sent.moved.given ∙ append_known-nil (state start.link).given;
  received = ap (λ (t : TransferView L). t.received) call.writes.rest;
}
end_gave {L} state start new outcome (Some goes_on) call = record {
  given = call.writes.sent.moved.given ∙ append_known-nil (state start.link).given;
  received = ap (λ (t : TransferView L). t.received) call.writes.rest;
}

ended_gave : {L : Type 0} (state : L → LinkState) (start new : TransferView L)
    (outcome : Poll (Result (Option ℕ) Error)) (stage : Option EndStage) (refused : Option Error)
    → IfSome refused (λ error. (outcome ≡ Ready (Err error)) × (new ≡ start))
    → IfNone refused (EndCall state itself start new outcome stage) → GaveNone state start new
ended_gave state start new outcome stage (Some error) again call = gave_same state start new again.1
ended_gave state start new outcome stage None again call =
    end_gave state start new outcome stage call

-- what becomes of the response's body
ends_gave : {L : Type 0} (state : L → LinkState) (sent new : TransferView L) (both : Bool)
    → EndsWithRequest both sent new → GaveNone state sent new
ends_gave {L} state sent new true ends = record {
  given = ap (λ (t : TransferView L). (state t.link).given) ends.rest;
  received = ap (λ (t : TransferView L). t.received) ends.rest;
}
ends_gave state sent new false ends = gave_same state sent new ends

-- a call that writes the end of the body
pub end_unread : {L : Type 0} (state : L → LinkState) (same_plan : L → L → Type 0)
    (before : Option (List ℕ)) (old new : ClientView L) (outcome : Poll (Result (Option ℕ) Error))
    → EndWrite state same_plan old new outcome → Unread state before old → Unread state before new
end_unread {L} state same_plan before old new outcome call unread =
    let sent = ended_gave state (call_begun old).transfer call.sent outcome
    (stage_of old.transfer.outgoing) old.transfer.outgoing.refused call.again call.writes in
    let left = ends_gave state call.sent new.transfer (ends_both call.sent outcome) call.ends in
    keeps_unread state before old new
    (record { given = left.given ∙ sent.given; received = left.received ∙ sent.received })
    (ap (λ (s : ClientView L). s.answered) call.rest) unread

sends_settings : {L : Type 0} (state : L → LinkState) (now : ℕ) (old new : ClientView L)
    (outcome : Poll (Result ℕ Error)) → SendsHead state now old new outcome
    → new.settings ≡ old.settings
sends_settings {L} state now old new outcome sends =
    ap (λ (s : ClientView L). s.settings) sends.rest

stays_settings : {L : Type 0} (old new : ClientView L) (head kept : Option RequestView)
    → StaysAsIs old new head kept → new.settings ≡ old.settings
stays_settings {L} old new head kept stays = ap (λ (s : ClientView L). s.settings) stays.0

with_settings : {L : Type 0} (state : L → LinkState) (now : ℕ) (old new : ClientView L)
    (head : RequestView) (kept : Option RequestView) (bytes : Option (List ℕ))
    (outcome : Poll (Result ℕ Error)) → AsksWith state now old new head kept bytes outcome
    → new.settings ≡ old.settings
with_settings state now old new head kept None outcome asks =
    stays_settings old new (Some head) kept asks.1
with_settings state now old new head kept (Some bytes) outcome asks =
    sends_settings state now (taken_up (call_begun old) head bytes) new outcome asks.1

asks_settings : {L : Type 0} (state : L → LinkState) (now : ℕ) (old new : ClientView L)
    (head kept : Option RequestView) (outcome : Poll (Result ℕ Error))
    → AsksBy state now old new head kept outcome → new.settings ≡ old.settings
asks_settings state now old new None kept outcome asks =
    sends_settings state now (call_begun old) new outcome asks.1
asks_settings state now old new (Some head) kept outcome asks = elim asks [
  | inl starves ↦ stays_settings old new (Some head) kept starves.1
  | inr writes ↦ with_settings state now old new head kept (request_bytes head) outcome writes
]

-- a call that writes the head of a request changes no setting
pub asked_settings : {L : Type 0} (state : L → LinkState) (now : ℕ) (old new : ClientView L)
    (head kept : Option RequestView) (outcome : Poll (Result ℕ Error)) (refused : Option Error)
    → IfSome refused (λ error. (outcome ≡ Ready (Err error)) × StaysAsIs old new head kept)
    → IfNone refused (AsksBy state now old new head kept outcome) → new.settings ≡ old.settings
asked_settings state now old new head kept outcome (Some error) again asks =
    stays_settings old new head kept again.1
asked_settings state now old new head kept outcome None again asks =
    asks_settings state now old new head kept outcome asks
