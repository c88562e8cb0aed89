-- What reading the head of a response, or a part of its body, comes to.
use Rattle.std.proofs.Common.{◌≡◌, ℕ, List, drop, Bool, true, false, Option, Some, None, IsSome, IfSome, IfNone, Result, Err, refl, sym, ap, ◌∙◌, subst}
use Rattle.std.proofs.lemmas.Bool.{false≢true}
use Rattle.h1_transfer.specs.Budget.{allowance}
use Rattle.h1_transfer.proofs.CalledLemmas.{called_undone}
use Rattle.h1_transfer.specs.Calls.{Called, read_fault_of}
use Rattle.h1_transfer.specs.Heads.{HeadCause, ReadsHead, fault_of_head, is_whole_head}
use Rattle.h1_transfer.specs.Payload.{ReadsPayload}
use Rattle.h1_transfer.specs.declared.reading_head.HeadRead.TheVariants as read
use Rattle.h1_transfer.specs.declared.reading_head.HeadStop.TheVariants as s
use Rattle.h1_client.specs.Words.{Poll, Ready, Error, Deadline, itself, HeadSearch, HasLooked, MAX_HEADER_SIZE, HeadRead, HeadStop, NotYetAt, RefusedAt, RequestView, ResponseHead, LinkState, TransferView, is_interim}
use Rattle.h1_client.specs.ClientView.{ClientView, call_begun, request_of, response_of}
use Rattle.h1_client.specs.Reading.{IsInPlace, IsPlaceOf, JudgesHead, IsThere, LeavesHead, ReadsResponse, StopsFor, TakesHead, UsesHead}
use Rattle.h1_client.specs.ReadingBody.{ReadsPart, at_link_end, ends_with_link, payload_behind}
use Rattle.h1_client.specs.Responses.{final_of, has_bad_length}
use Rattle.h1_client.specs.Settings.{read_deadline}
use Rattle.h1_client.specs.declared.answered.Answered.{Answered}
use Rattle.h1_client.specs.declared.keeping.Keepalive.{Keepalive}
use Rattle.h1_client.proofs.SoundLemmas.{sound_receives, sound_interim, sound_heads}
use Rattle.h1_client.proofs.CallLemmas.{SoundOf}

-- a head was looked for
sound_looks : {L : Type 0} (state : L → LinkState) (old between : TransferView L)
    (looking behind : HeadSearch) (request : Option RequestView) (k : Keepalive)
    (deadline : Deadline) (found : Option ResponseHead) (told : HeadRead)
    → SoundOf state old looking request None k
    → ReadsHead state IsPlaceOf RefusedAt NotYetAt deadline old between found told
    → HasLooked MAX_HEADER_SIZE behind between.received
    → SoundOf state between behind request None k
sound_looks {L} state old between looking behind request k deadline found told sound reads looked =
    let out : between.outgoing ≡ old.outgoing = ap (λ (t : TransferView L). t.outgoing) reads.rest in
    let reader : between.body.reader ≡ old.body.reader = ap (λ (t : TransferView L). t.body.reader) reads.rest in
    rw (out, reader) (sound_receives (state old.link) (state between.link) old.received between.received
    looking behind request old.body.reader old.outgoing k (allowance old.budget) reads.left sound
    reads.receives.received looked)

no_final : (head : ResponseHead) → is_interim head.header.status ≡ true → final_of (Some head) ≡ None
no_final head is = rw is refl

some_final : (head : ResponseHead) → is_interim head.header.status ≡ false
    → final_of (Some head) ≡ Some head.header
some_final head is = rw is refl

-- a head is used, which is interim, or not
uses_head : {L : Type 0} (state : L → LinkState) (between new : TransferView L) (was now : Answered)
    (looking : HeadSearch) (request : RequestView) (head : ResponseHead) (used : ℕ) (k : Keepalive)
    (interim : Bool)
    → SoundOf state between looking (Some request) None k
    → IsPlaceOf between.received used (Some head) → is_interim head.header.status ≡ interim
    → UsesHead between new was now request head used
    → SoundOf state new now.search (Some request) (final_of now.last) k
uses_head {L} state between new was now looking request head used k true sound at is uses =
    let link : new.link ≡ between.link = ap (λ (t : TransferView L). t.link) uses.transfer in
    let received : new.received ≡ drop used between.received =
    ap (λ (t : TransferView L). t.received) uses.transfer in
    let out : new.outgoing ≡ between.outgoing = ap (λ (t : TransferView L). t.outgoing) uses.transfer in
    let last : final_of now.last ≡ None =
    ap (λ (a : Answered). final_of a.last) uses.answered ∙ no_final head is in
    rw (link, received, out, last) (sound_interim (state between.link) between.received looking now.search
    request between.body.reader new.body.reader between.outgoing k head.header used sound
    at.0.accepted is (rw received at uses.looks))
uses_head {L} state between new was now looking request head used k false sound at is uses =
    let link : new.link ≡ between.link = ap (λ (t : TransferView L). t.link) uses.transfer in
    let received : new.received ≡ drop used between.received =
    ap (λ (t : TransferView L). t.received) uses.transfer in
    let out : new.outgoing ≡ between.outgoing = ap (λ (t : TransferView L). t.outgoing) uses.transfer in
    let last : final_of now.last ≡ Some head.header =
    ap (λ (a : Answered). final_of a.last) uses.answered ∙ some_final head is in
    rw (link, received, out, last) (sound_heads (state between.link) between.received looking now.search
    request between.body.reader new.body.reader between.outgoing k head.header used sound
    at.0.accepted is uses.begins)

-- no head is used
leaves_head : {L : Type 0} (state : L → LinkState) (between new : TransferView L) (was now : Answered)
    (looking : HeadSearch) (request : Option RequestView) (k : Keepalive)
    → SoundOf state between looking request None k → final_of was.last ≡ None
    → LeavesHead between new was now → SoundOf state new now.search request (final_of now.last) k
leaves_head {L} state between new was now looking request k sound none leaves =
    let last : final_of now.last ≡ None = ap (λ (a : Answered). final_of a.last) leaves.answered ∙ none in
    let looked : HasLooked MAX_HEADER_SIZE now.search between.received =
    rw (ap (λ (t : TransferView L). t.received) leaves.transfer) at leaves.looks in
    rw (leaves.transfer, last) (record {
      http = sound.http;
      changed = sound.changed;
      searched = looked;
      stays = sound.stays;
    })

judged_head : {L : Type 0} (state : L → LinkState) (between new : TransferView L) (was now : Answered)
    (looking : HeadSearch) (request : RequestView) (head : ResponseHead) (used : ℕ) (k : Keepalive)
    (bad : Bool) (outcome : Poll (Result ℕ Error))
    → SoundOf state between looking (Some request) None k → final_of was.last ≡ None
    → IsPlaceOf between.received used (Some head)
    → JudgesHead between new was now request head used bad outcome
    → SoundOf state new now.search (Some request) (final_of now.last) k
judged_head state between new was now looking request head used k true outcome sound none at judges =
    leaves_head state between new was now looking (Some request) k sound none judges.1
judged_head state between new was now looking request head used k false outcome sound none at judges =
    uses_head state between new was now looking request head used k (is_interim head.header.status)
    sound at refl judges.1

-- a call that reads a head
pub sound_response : {L : Type 0} (state : L → LinkState) (old between new : TransferView L)
    (was now : Answered) (looking behind : HeadSearch) (request : Option RequestView) (k : Keepalive)
    (deadline : Deadline) (tolerant : Bool) (found : Option ResponseHead) (told : HeadRead)
    (outcome : Poll (Result ℕ Error))
    → SoundOf state old looking request (final_of was.last) k → IsSome request
    → final_of was.last ≡ None
    → ReadsHead state IsPlaceOf RefusedAt NotYetAt deadline old between found told
    → HasLooked MAX_HEADER_SIZE behind between.received
    → TakesHead tolerant between new was now request found told outcome
    → SoundOf state new now.search request (final_of now.last) k
sound_response state old between new was now looking behind None k deadline tolerant found told outcome sound begun none reads looked takes =
    absurd (false≢true begun)
sound_response state old between new was now looking behind (Some request) k deadline tolerant (Some head) (read.Whole used) outcome sound begun none reads looked takes =
    judged_head state between new was now behind request head used k
    (has_bad_length tolerant head.header.fields) outcome
    (sound_looks state old between looking behind (Some request) k deadline (Some head) (read.Whole used)
    (subst (λ f. SoundOf state old looking (Some request) f k) none sound) reads looked)
    none reads.cause.0 takes
sound_response state old between new was now looking behind (Some request) k deadline tolerant None (read.Whole used) outcome sound begun none reads looked takes =
    absurd takes
sound_response state old between new was now looking behind (Some request) k deadline tolerant (Some head) (read.Stopped stop) outcome sound begun none reads looked takes =
    leaves_head state between new was now behind (Some request) k
    (sound_looks state old between looking behind (Some request) k deadline (Some head) (read.Stopped stop)
    (subst (λ f. SoundOf state old looking (Some request) f k) none sound) reads looked) none takes.1
sound_response state old between new was now looking behind (Some request) k deadline tolerant None (read.Stopped stop) outcome sound begun none reads looked takes =
    leaves_head state between new was now behind (Some request) k
    (sound_looks state old between looking behind (Some request) k deadline None (read.Stopped stop)
    (subst (λ f. SoundOf state old looking (Some request) f k) none sound) reads looked) none takes.1

-- a whole head is used or refused
pub takes_whole : {L : Type 0} (tolerant : Bool) (between new : TransferView L) (was now : Answered)
    (asked : Option RequestView) (request : RequestView) (found : Option ResponseHead)
    (head : ResponseHead) (told : HeadRead) (used : ℕ) (outcome : Poll (Result ℕ Error))
    → asked ≡ Some request → found ≡ Some head → told ≡ read.Whole used
    → JudgesHead between new was now request head used (has_bad_length tolerant head.header.fields) outcome
    → TakesHead tolerant between new was now asked found told outcome
takes_whole tolerant between new was now asked request found head told used outcome asks finds is judges =
    rw (asks, finds, is) judges

stopped_takes : {L : Type 0} (tolerant : Bool) (between : TransferView L) (was now : Answered)
    (asked : Option RequestView) (found : Option ResponseHead) (stop : HeadStop)
    (outcome : Poll (Result ℕ Error))
    → StopsFor was.refused now.refused stop outcome → LeavesHead between between was now
    → TakesHead tolerant between between was now asked found (read.Stopped stop) outcome
stopped_takes tolerant between was now None None stop outcome stops leaves = (stops, leaves)
stopped_takes tolerant between was now None (Some head) stop outcome stops leaves = (stops, leaves)
stopped_takes tolerant between was now (Some request) None stop outcome stops leaves = (stops, leaves)
stopped_takes tolerant between was now (Some request) (Some head) stop outcome stops leaves = (stops, leaves)

-- no head came
pub takes_stopped : {L : Type 0} (tolerant : Bool) (between : TransferView L) (was now : Answered)
    (asked : Option RequestView) (found : Option ResponseHead) (told : HeadRead) (stop : HeadStop)
    (outcome : Poll (Result ℕ Error))
    → told ≡ read.Stopped stop → StopsFor was.refused now.refused stop outcome
    → HasLooked MAX_HEADER_SIZE was.search between.received
    → now ≡ record was { refused = now.refused }
    → TakesHead tolerant between between was now asked found told outcome
takes_stopped tolerant between was now asked found told stop outcome is stops looked same =
    let kept : now.search ≡ was.search = ap (λ (a : Answered). a.search) same in
    rw is (stopped_takes tolerant between was now asked found stop outcome stops (record {
      transfer = refl;
      looks = rw kept looked;
      answered = same
          ∙ ap (λ (s : HeadSearch). record was { search = s; refused = now.refused }) (sym kept);
    }))

in_place : (before now : LinkState) (received : List ℕ) (left : ℕ) (found : Option ResponseHead)
    (told : HeadRead) → HeadCause IsPlaceOf RefusedAt NotYetAt before now received left found told
    → IsInPlace received found told
in_place before now received left found (read.Whole used) cause = cause.0
in_place before now received left found (read.Stopped stop) cause = tt

-- a head that is whole is in its place
pub reads_place : {L : Type 0} (state : L → LinkState) (old between : TransferView L)
    (deadline : Deadline) (found : Option ResponseHead) (told : HeadRead)
    → ReadsHead state IsPlaceOf RefusedAt NotYetAt deadline old between found told
    → IsInPlace between.received found told
reads_place state old between deadline found told reads =
    in_place (state old.link) (state between.link) between.received reads.left found told reads.cause

looked_judges : {L : Type 0} (between new : TransferView L) (was now : Answered) (behind : HeadSearch)
    (request : RequestView) (head : ResponseHead) (used : ℕ) (bad : Bool)
    (outcome : Poll (Result ℕ Error))
    → JudgesHead between new (record was { search = behind }) now request head used bad outcome
    → JudgesHead between new was now request head used bad outcome
looked_judges between new was now behind request head used true outcome judges = (
  judges.0,
  record {
    transfer = judges.1.transfer;
    looks = judges.1.looks;
    answered = judges.1.answered;
  },
)
looked_judges between new was now behind request head used false outcome judges = (
  judges.0,
  record {
    begins = judges.1.begins;
    transfer = judges.1.transfer;
    looks = judges.1.looks;
    answered = judges.1.answered;
  },
)

-- how far the search looked decides nothing here
pub looked_takes : {L : Type 0} (tolerant : Bool) (between new : TransferView L) (was now : Answered)
    (behind : HeadSearch) (asked : Option RequestView) (found : Option ResponseHead) (told : HeadRead)
    (outcome : Poll (Result ℕ Error))
    → TakesHead tolerant between new (record was { search = behind }) now asked found told outcome
    → TakesHead tolerant between new was now asked found told outcome
looked_takes tolerant between new was now behind (Some request) (Some head) (read.Whole used) outcome takes =
    looked_judges between new was now behind request head used
    (has_bad_length tolerant head.header.fields) outcome takes
looked_takes tolerant between new was now behind (Some request) None (read.Whole used) outcome takes =
    absurd takes
looked_takes tolerant between new was now behind None found (read.Whole used) outcome takes =
    absurd takes
looked_takes tolerant between new was now behind (Some request) (Some head) (read.Stopped stop) outcome takes = (
  takes.0,
  record {
    transfer = takes.1.transfer;
    looks = takes.1.looks;
    answered = takes.1.answered;
  },
)
looked_takes tolerant between new was now behind (Some request) None (read.Stopped stop) outcome takes = (
  takes.0,
  record {
    transfer = takes.1.transfer;
    looks = takes.1.looks;
    answered = takes.1.answered;
  },
)
looked_takes tolerant between new was now behind None found (read.Stopped stop) outcome takes = (
  takes.0,
  record {
    transfer = takes.1.transfer;
    looks = takes.1.looks;
    answered = takes.1.answered;
  },
)

-- what a call that reads a head did to its link beside moving bytes
pub read_called : {L : Type 0} (state : L → LinkState) (old start between new : TransferView L)
    (told : HeadRead) (outcome : Poll (Result ℕ Error)) (budget : Option ℕ)
    → start ≡ record old { budget = budget }
    → Called (state start.link) (state between.link) (is_whole_head told) (fault_of_head told)
    → new.link ≡ between.link → read_fault_of outcome ≡ fault_of_head told
    → Called (state old.link) (state new.link) false (read_fault_of outcome)
read_called {L} state old start between new told outcome budget begins calls link fault =
    let first : start.link ≡ old.link = ap (λ (t : TransferView L). t.link) begins in
    rw (link, fault) (subst (λ l. Called (state l) (state between.link) false (fault_of_head told)) first
    (called_undone (state start.link) (state between.link) (is_whole_head told) (fault_of_head told) calls))

-- a call that reads a head
pub reads_response : {L : Type 0} (state : L → LinkState) (moment : ℕ) (old : ClientView L)
    (start between new : TransferView L) (now : Answered) (found : Option ResponseHead)
    (told : HeadRead) (outcome : Poll (Result ℕ Error)) (spent : Bool) (deadline : Deadline)
    → start ≡ record old.transfer { budget = Some 64 } → deadline ≡ read_deadline old.settings moment
    → ReadsHead state IsPlaceOf RefusedAt NotYetAt deadline start between found told
    → TakesHead old.settings.tolerant between new old.answered now (request_of old) found told outcome
    → ReadsResponse state moment old (record old { transfer = new; answered = now; spent = spent }) outcome
reads_response {L} state moment old start between new now found told outcome spent deadline begins limit reads takes = record {
  found = found;
  read = told;
  between = between;
  reads = subst
      (λ d. ReadsHead state IsPlaceOf RefusedAt NotYetAt d (call_begun old).transfer between found told) limit
      (subst (λ (t : TransferView L). ReadsHead state IsPlaceOf RefusedAt NotYetAt deadline t between found told)
      begins reads);
  takes = takes;
  rest = refl;
}

-- a call that reads a part of the body
pub reads_part : {L : Type 0} (state : L → LinkState) (moment : ℕ) (old : ClientView L)
    (start new : TransferView L) (told outcome : Poll (Result (Option (List ℕ)) Error))
    (ends : Bool) (count : ℕ) (spent : Bool) (deadline : Deadline)
    → start ≡ record old.transfer { budget = Some 64 } → deadline ≡ read_deadline old.settings moment
    → IfSome start.body.refused (λ error. (told ≡ Ready (Err error)) × (new ≡ start))
    → IfNone start.body.refused (ReadsPayload state itself deadline start new told)
    → ends ≡ ends_with_link (request_of old) (response_of old) → outcome ≡ at_link_end ends told
    → count ≡ payload_behind old.payload_read outcome
    → ReadsPart state moment old
    (record old { transfer = new; payload_read = count; spent = spent }) outcome
reads_part {L} state moment old start new told outcome ends count spent deadline begins limit again reads ends_is answer counts = record {
  told = told;
  again = subst (λ (t : TransferView L). IfSome t.body.refused
      (λ error. (told ≡ Ready (Err error)) × (new ≡ t))) begins again;
  reads = subst
      (λ d. IfNone old.transfer.body.refused (ReadsPayload state itself d (call_begun old).transfer new told)) limit
      (subst (λ (t : TransferView L). IfNone t.body.refused (ReadsPayload state itself deadline t new told))
      begins reads);
  answer = answer ∙ ap (λ e. at_link_end e told) ends_is;
  rest = ap (λ n. record old { transfer = new; payload_read = n; spent = spent }) counts;
}

stop_there : (was now : Option Error) (stop : HeadStop) (outcome : Poll (Result ℕ Error))
    (last : Option ResponseHead) → StopsFor was now stop outcome → IsThere outcome last
stop_there was now (s.Refused fault) outcome last stops = rw stops.1 tt
stop_there was now s.Closed outcome last stops = rw stops.1 tt
stop_there was now s.Cut outcome last stops = rw stops.1 tt
stop_there was now s.NotReady outcome last stops = rw stops.1 tt
stop_there was now s.Late outcome last stops = rw stops.1 tt
stop_there was now s.Spent outcome last stops = rw stops.1 tt
stop_there was now s.Failed outcome last stops = rw stops.1 tt
stop_there was now s.NoMemory outcome last stops = rw stops.1 tt

judged_there : {L : Type 0} (between new : TransferView L) (was now : Answered)
    (request : RequestView) (head : ResponseHead) (used : ℕ) (bad : Bool)
    (outcome : Poll (Result ℕ Error))
    → JudgesHead between new was now request head used bad outcome → IsThere outcome now.last
judged_there between new was now request head used true outcome judges = rw judges.0.1 tt
judged_there between new was now request head used false outcome judges =
    let last : now.last ≡ Some head = ap (λ (a : Answered). a.last) judges.1.answered in
    rw (judges.0, last) refl

taken_there : {L : Type 0} (tolerant : Bool) (between new : TransferView L) (was now : Answered)
    (asked : Option RequestView) (found : Option ResponseHead) (told : HeadRead)
    (outcome : Poll (Result ℕ Error))
    → TakesHead tolerant between new was now asked found told outcome → IsThere outcome now.last
taken_there tolerant between new was now (Some request) (Some head) (read.Whole used) outcome takes =
    judged_there between new was now request head used (has_bad_length tolerant head.header.fields)
    outcome takes
taken_there tolerant between new was now (Some request) None (read.Whole used) outcome takes =
    absurd takes
taken_there tolerant between new was now None found (read.Whole used) outcome takes = absurd takes
taken_there tolerant between new was now (Some request) (Some head) (read.Stopped stop) outcome takes =
    stop_there was.refused now.refused stop outcome now.last takes.0
taken_there tolerant between new was now (Some request) None (read.Stopped stop) outcome takes =
    stop_there was.refused now.refused stop outcome now.last takes.0
taken_there tolerant between new was now None found (read.Stopped stop) outcome takes =
    stop_there was.refused now.refused stop outcome now.last takes.0

-- a head that a call read is there
pub read_there : {L : Type 0} (state : L → LinkState) (moment : ℕ) (old new : ClientView L)
    (refused : Option Error) (outcome : Poll (Result ℕ Error)) (Kept : Type 0)
    → IfSome refused (λ error. (outcome ≡ Ready (Err error)) × Kept)
    → IfNone refused (ReadsResponse state moment old new outcome)
    → IsThere outcome new.answered.last
read_there state moment old new (Some error) outcome Kept again reads = rw again.0 tt
read_there state moment old new None outcome Kept again reads =
    taken_there old.settings.tolerant reads.between new.transfer old.answered new.answered
    (request_of old) reads.found reads.read outcome reads.takes
