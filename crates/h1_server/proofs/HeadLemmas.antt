-- Lemmas on reading the head of a request.
use Rattle.std.proofs.Common.{◌≡◌, ℕ, ◌<◌, nat_lt, Bool, true, false, cond, List, [], ◌∷◌, length, arith, drop, Option, Some, None, IfSome, Result, Ok, refl, ap, ◌∙◌, inl, inr}
use Rattle.h1_server.specs.Words.{Poll, Ready, Error, LinkState, HasLooked, MAX_HEADER_SIZE, RefusedAt, NotYetAt, body, reads, Settings, TransferView, BodyState, HeadStop, ReadRequest, Request}
use Rattle.h1_transfer.specs.Heads.{HeadIsTimed, ReadsHead, StopCause}
use Rattle.h1_transfer.specs.Budget.{allowance}
use Rattle.h1_transfer.specs.Deadline.{Wait, noted_since}
use Rattle.h1_link.specs.Counts.{Rose}
use Rattle.h1_server.specs.Persistence.{is_nothing}
use Rattle.h1_server.specs.Times.{head_deadline}
use Rattle.std.proofs.lemmas.Bool.{false≢true, true≢false}
use Rattle.h1_server.proofs.Words.{keepalive_set, SessionView, session}
use Rattle.h1_server.specs.Keepalive.{wished}
use Rattle.h1_transfer.specs.declared.reading_head.HeadRead.TheVariants as h
use Rattle.h1_transfer.specs.declared.reading_head.HeadStop.TheVariants as s
use Rattle.h1_server.specs.declared.request_place.RequestPlace.{RequestPlace}
use Rattle.h1_server.specs.declared.request_state.RequestState.{RequestState}
use Rattle.h1_server.specs.Requests.{IsPlaceOf, ReadsRequest, HeadAnswer, HeadTimed, BeginsNone, StopsFor}
use Rattle.h1_server.specs.SessionView.{IsSearched, request_in}
use Rattle.h1_server.specs.declared.request.ReadRequest.TheVariants as read

nothing : (bytes : List ℕ) → true ≡ is_nothing bytes → bytes ≡ []
nothing [] is = refl
nothing (b ∷ bytes) is = absurd (true≢false is)

something : (bytes : List ℕ) → false ≡ is_nothing bytes → 0 < length bytes
something [] is = absurd (false≢true is)
something (b ∷ bytes) is = omega arith

-- what a call answers that read no head, and keeps as the refusal of later ones
stop_answer : {L C : Type 0} (state : L → LinkState) (old new : SessionView L C) (stop : HeadStop)
    (left : ℕ) (result : Poll (Result ReadRequest Error)) (bare : Bool)
    → bare ≡ is_nothing new.received → old.refused ≡ None → BeginsNone old new new.received
    → StopsFor bare old.refused new.refused stop result
    → StopCause RefusedAt NotYetAt (state old.link) (state new.link) new.received left stop
    → HeadAnswer state old new new.received left result
stop_answer state old new (s.Refused fault) left result bare bare_is none begins is cause = rw is.1
    (begins, is.0, cause, refl)
stop_answer state old new s.Closed left result bare bare_is none begins is cause = rw is.1
    (begins, is.0 ∙ none, cause.0, cause.1)
stop_answer state old new s.Cut left result bare bare_is none begins is cause = rw is.1
    (begins, is.0, cause, refl)
stop_answer state old new s.NotReady left result bare bare_is none begins is cause = rw is.1
    (begins, is.0 ∙ none, cause.1, inl cause.0)
stop_answer state old new s.Spent left result bare bare_is none begins is cause = rw is.1
    (begins, is.0 ∙ none, cause.1, inr cause.0)
stop_answer state old new s.Failed left result bare bare_is none begins is cause = rw is.1
    (begins, is.0, cause, refl)
stop_answer state old new s.Late left result true bare none begins is cause = rw is.1
    (begins, is.0 ∙ none, cause.0, nothing new.received bare)
stop_answer state old new s.Late left result false bare none begins is cause = rw is.1
    (begins, is.0, (cause.0, cause.1, something new.received bare), refl)
stop_answer state old new s.NoMemory left result bare bare_is none begins is cause = rw is.1
    (begins, is.0 ∙ none, tt, refl)

-- what is noted of the wait of a call that read no head
stop_timed : (wait : Wait) (since : Option ℕ) (before now : LinkState) (received : List ℕ) (left : ℕ) (bare : Bool)
    (old new : Option Error) (stop : HeadStop) (result : Poll (Result ReadRequest Error))
    → HeadIsTimed wait since (h.Stopped stop) → StopCause RefusedAt NotYetAt before now received left stop
    → StopsFor bare old new stop result
    → HeadTimed (noted_since (Rose before.read_waits now.read_waits) wait since) left result
stop_timed wait since before now received left bare old new (s.Refused fault) result timed cause is = rw is.1 timed
stop_timed wait since before now received left bare old new s.Closed result timed cause is = rw is.1 timed
stop_timed wait since before now received left bare old new s.Cut result timed cause is = rw is.1 timed
stop_timed wait since before now received left bare old new s.NotReady result timed cause is =
    rw is.1 (inl (record { link = cause.0; noted = timed.0; judged = timed.1 }))
stop_timed wait since before now received left true old new s.Late result timed cause is =
    rw is.1 (record { link = cause.0; noted = timed.0; judged = timed.1 })
stop_timed wait since before now received left false old new s.Late result timed cause is =
    rw is.1 (record { link = cause.0; noted = timed.0; judged = timed.1 })
stop_timed wait since before now received left bare old new s.Spent result timed cause is =
    rw is.1 (inr (cause.0, timed))
stop_timed wait since before now received left bare old new s.Failed result timed cause is = rw is.1 timed
stop_timed wait since before now received left bare old new s.NoMemory result timed cause is = rw is.1 timed

-- a call that read no head
pub head_stopped : {L C : Type 0} (state : L → LinkState) (old : SessionView L C)
    (new : TransferView L) (found : RequestPlace) (request : Option Request)
    (refused : Option Error) (stop : HeadStop) (result : Poll (Result ReadRequest Error)) (now : ℕ) (bare : Bool)
    → request ≡ None
    → bare ≡ is_nothing new.received → old.refused ≡ None → StopsFor bare old.refused refused stop result
    → ReadsHead state IsPlaceOf RefusedAt NotYetAt (head_deadline old.settings now) (session.transfer old) new
    found (h.Stopped stop)
    → ReadsRequest state now old (record (session.put old new) { request = request; refused = refused }) result
head_stopped {L} {C} state old new found request refused stop result now bare unread bare_is none is reads =
    let behind : SessionView L C = record (session.put old new) { request = request; refused = refused } in
    record {
      bytes = new.received;
      left = reads.left;
      parsed = reads.receives.parsed;
      received = reads.receives.received;
      budget = reads.budget;
      rest = ap (λ (t : TransferView L). let s : SessionView L C =
          record (session.put old new) { request = request; refused = refused; reply = t.outgoing } in s) reads.rest;
      few = reads.receives.few;
      answer = stop_answer state old behind stop reads.left result bare bare_is none
          (record {
            request = unread;
            received = refl;
            body = ap (λ (t : TransferView L). t.body) reads.rest;
            settings = refl;
          }) is reads.cause;
      timed = stop_timed (record {
        deadline = head_deadline old.settings now;
        moved = nat_lt reads.left (allowance old.budget);
        since = old.body.since.read;
      }) new.body.since.read (state old.link) (state new.link) new.received reads.left bare old.refused refused
          stop result reads.timed reads.cause is;
    }

-- a place that isn't read stays so, whatever is put in it
pub still_unread : (is_read : Bool) (one other : Request) → cond is_read (Some one) None ≡ None
    → cond is_read (Some other) None ≡ None
still_unread true one other none = absurd (cc)
still_unread false one other none = refl

-- what is so of the request in a place is so of the request that was read into it
pub if_read : (is_read : Bool) (request : Request) (P : Request → Type 0) → P request
    → IfSome (cond is_read (Some request) None) P
if_read true request P p = p
if_read false request P p = tt

-- until a head is read, its search has looked at a front of what is received
pub unread_searched : (asked : RequestState) (received : List ℕ) → asked.is_read ≡ false
    → HasLooked MAX_HEADER_SIZE asked.search received
    → IsSearched (request_in asked) asked.search received
unread_searched asked received unread looked = rw unread looked

-- a call that read a head: it is passed over, and its body begins
pub head_read : {L C : Type 0} (state : L → LinkState) (old : SessionView L C)
    (mid after new : TransferView L) (found : RequestPlace) (used n : ℕ)
    (settings : Settings) (now : ℕ)
    → old.refused ≡ None
    → ReadsHead state IsPlaceOf RefusedAt NotYetAt (head_deadline old.settings now) (session.transfer old) mid
    found (h.Whole used)
    → after ≡ record mid { received = drop used mid.received }
    → ((rest : List ℕ) → reads new.body.reader rest ≡ body found.request.framing rest)
    → new ≡ record after { body = record after.body { reader = new.body.reader; refused = None } }
    → n ≡ length found.request.raw → settings ≡ keepalive_set old.settings (wished found.request.wish)
    → ReadsRequest state now old
    (record (session.put old new) { request = Some found.request; settings = settings })
    (Ready (Ok (read.Head n)))
head_read {L} {C} state old mid after new found used n settings now none told skips begins rest n_is settings_is =
    let is = rest
    ∙ ap (λ (t : TransferView L). record t { body = record t.body { reader = new.body.reader; refused = None } })
    (skips ∙ ap (λ (t : TransferView L). record t { received = drop used mid.received }) told.rest) in
    let link = ap (λ (t : TransferView L). t.link) is in
    let ended : mid.body.since.read ≡ None = told.timed in
    let begun : new.body ≡ record old.body {
      reader = new.body.reader;
      refused = None;
      since = record old.body.since { read = None };
    } = ap (λ (t : TransferView L). t.body) is
    ∙ ap (λ (read : Option ℕ). record old.body {
      reader = new.body.reader;
      refused = None;
      since = record old.body.since { read = read };
    }) ended in
    record {
      bytes = mid.received;
      left = told.left;
      parsed = told.receives.parsed;
      received = rw link told.receives.received;
      budget = ap (λ (t : TransferView L). t.budget) is ∙ told.budget;
      rest = ap (λ (t : TransferView L). let s : SessionView L C =
          record (session.put old new) {
            request = Some found.request;
            settings = settings;
            reply = t.outgoing;
          } in s) is;
      few = rw link told.receives.few;
      answer = (
        found.request,
        refl,
        record {
          used = used;
          is = told.cause.0;
          received = ap (λ (t : TransferView L). t.received) is;
          raw = n_is;
          reader = begins;
          body = begun;
          settings = settings_is;
          refused = none;
        },
        rw link told.cause.1,
      );
      timed = ap (λ (body : BodyState). body.since.read) begun;
    }
