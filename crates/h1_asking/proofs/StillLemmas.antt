-- The calls that read a response write nothing.
use Rattle.std.proofs.Common.{◌≡◌, ℕ, Bool, true, false, List, Option, Some, None, IfSome, IfNone, Result, Err, ap, ◌∙◌}
use Rattle.h1_link.proofs.Laters.{append_known-nil}
use Rattle.h1_transfer.specs.Payload.{ReadsPayload}
use Rattle.h1_transfer.specs.declared.reading_head.HeadRead.TheVariants as read
use Rattle.h1_client.specs.ClientView.{ClientView, call_begun, request_of}
use Rattle.h1_client.specs.Reading.{JudgesHead, ReadsResponse, TakesHead}
use Rattle.h1_client.specs.ReadingBody.{ReadsPart}
use Rattle.h1_client.specs.Responses.{has_bad_length}
use Rattle.h1_client.specs.Settings.{read_deadline}
use Rattle.h1_client.specs.Words.{Poll, Ready, Error, Deadline, HeadRead, LinkState, RequestView, ResponseHead, TransferView, itself}
use Rattle.h1_client.specs.declared.answered.Answered.{Answered}

judged_link : {L : Type 0} (between new : TransferView L) (was now : Answered)
    (request : RequestView) (head : ResponseHead) (used : ℕ) (bad : Bool)
    (outcome : Poll (Result ℕ Error))
    → JudgesHead between new was now request head used bad outcome → new.link ≡ between.link
judged_link {L} between new was now request head used true outcome judges =
    ap (λ (t : TransferView L). t.link) judges.1.transfer
judged_link {L} between new was now request head used false outcome judges =
    ap (λ (t : TransferView L). t.link) judges.1.transfer

-- what becomes of a head moves no byte
takes_link : {L : Type 0} (tolerant : Bool) (between new : TransferView L) (was now : Answered)
    (asked : Option RequestView) (found : Option ResponseHead) (told : HeadRead)
    (outcome : Poll (Result ℕ Error))
    → TakesHead tolerant between new was now asked found told outcome → new.link ≡ between.link
takes_link tolerant between new was now (Some request) (Some head) (read.Whole used) outcome takes =
    judged_link between new was now request head used (has_bad_length tolerant head.header.fields)
    outcome takes
takes_link tolerant between new was now (Some request) None (read.Whole used) outcome takes =
    absurd takes
takes_link tolerant between new was now None (Some head) (read.Whole used) outcome takes =
    absurd takes
takes_link tolerant between new was now None None (read.Whole used) outcome takes = absurd takes
takes_link {L} tolerant between new was now (Some request) (Some head) (read.Stopped stop) outcome
    takes = ap (λ (t : TransferView L). t.link) takes.1.transfer
takes_link {L} tolerant between new was now (Some request) None (read.Stopped stop) outcome takes =
    ap (λ (t : TransferView L). t.link) takes.1.transfer
takes_link {L} tolerant between new was now None (Some head) (read.Stopped stop) outcome takes =
    ap (λ (t : TransferView L). t.link) takes.1.transfer
takes_link {L} tolerant between new was now None None (read.Stopped stop) outcome takes =
    ap (λ (t : TransferView L). t.link) takes.1.transfer

-- a call that reads a head
pub head_wrote : {L : Type 0} (state : L → LinkState) (moment : ℕ) (old new : ClientView L)
    (outcome : Poll (Result ℕ Error)) (refused : Option Error)
    → IfSome refused (λ error. (outcome ≡ Ready (Err error))
    × (new ≡ record (call_begun old) { spent = new.spent }))
    → IfNone refused (ReadsResponse state moment old new outcome)
    → (state new.transfer.link).written ≡ (state old.transfer.link).written
head_wrote {L} state moment old new outcome (Some error) again call =
    ap (λ (s : ClientView L). (state s.transfer.link).written) again.1
head_wrote {L} state moment old new outcome None again call =
    ap (λ (l : L). (state l).written) (takes_link old.settings.tolerant call.between new.transfer
    old.answered new.answered (request_of old) call.found call.read outcome call.takes)
    ∙ call.reads.receives.received.moved.written
    ∙ append_known-nil (state old.transfer.link).written

reads_wrote : {L : Type 0} (state : L → LinkState) (deadline : Deadline) (start new : TransferView L)
    (told : Poll (Result (Option (List ℕ)) Error)) (refused : Option Error)
    → IfSome refused (λ error. (told ≡ Ready (Err error)) × (new ≡ start))
    → IfNone refused (ReadsPayload state itself deadline start new told)
    → (state new.link).written ≡ (state start.link).written
reads_wrote {L} state deadline start new told (Some error) again call =
    ap (λ (t : TransferView L). (state t.link).written) again.1
reads_wrote state deadline start new told None again call =
    call.reads.received.moved.written ∙ append_known-nil (state start.link).written

-- one that reads a part of the body
pub part_wrote : {L : Type 0} (state : L → LinkState) (moment : ℕ) (old new : ClientView L)
    (outcome : Poll (Result (Option (List ℕ)) Error)) → ReadsPart state moment old new outcome
    → (state new.transfer.link).written ≡ (state old.transfer.link).written
part_wrote state moment old new outcome call =
    reads_wrote state (read_deadline old.settings moment) (call_begun old).transfer new.transfer
    call.told old.transfer.body.refused call.again call.reads
