-- Steps in which the application goes on.
use Rattle.h1_app.specs.Waits.{OthersFew}
use Rattle.h1_app.specs.Step.{JobFrom}
use Rattle.std.proofs.Common.{◌≡◌, ℕ, ◌+◌, ◌-◌, ◌<◌, ◌≤◌, ◌⊎◌, inl, inr, List, [], ◌∷◌, ◌++◌, Bool, true, false, Option, Some, None, IfSome, option_map, refl, sym, ◌∙◌, ap, subst, length, length-append, arith}
use Rattle.std.proofs.lemmas.Option.{IfSome_then, same_Some}
use Rattle.h1_app.specs.Words.{Given, Rules, Error, ErrorType, no_memory, LinkState, Rose, RequestView, SessionView, Settings, Request, Reply, Entry, Exchange, Stage, ReadsOnly, given_to, how_of, payload_of, LacksSo, IsAllowed, Grows, Stays, Payload, grown, payload_in}
use Rattle.h1_error.specs.declared.error.ErrorType.TheVariants as kind
use Rattle.h1_app.specs.declared.exchange.Stage.TheVariants as stage
use Rattle.h1_app.specs.Heard.{Heard}
use Rattle.h1_app.specs.Heard as asked
use Rattle.h1_error.specs.declared.progress.Waiting.TheVariants as waiting
use Rattle.h1_application.specs.Application.{FailsRead, IsAskedFor, ReadsInTime, RefusedBy, RefusesWith, WaitsBy, Runs}
use Rattle.h1_application.proofs.TimeLemmas.{limit_is, limit_stays}
use Rattle.h1_app.specs.Asking.{PendsAsked, RunsOn, entry_after, outcome_after, stage_after}
use Rattle.h1_app.proofs.ReplyLemmas.{at_some}
use Rattle.h1_app.proofs.Words.{AsksAs, GivesAsked, FiltersStay, StepReady, ahead, noted, Accounted, StopsBody, StopsWith, StoodSo, SoundStage, IsAnswering, IsKept, IsUnwritten, SameFiltered, lent, Stepped, MovesWithin, OutcomeCause, FewReadsNotReady}
use Rattle.h1_app.specs.Answering.{IsAskedIn, bare}
use Rattle.h1_transcript.specs.BodyLimits.{IsLimitOf}
use Rattle.h1_transcript.specs.Growth.{RefusedIn, RoseFor, StaysWith}
use Rattle.h1_transcript.proofs.GrowthLemmas.{stays_itself}
use Rattle.h1_app.proofs.EndReplies.{stands_unfinished}
use Rattle.h1_app.specs.Timely.{StepsInTime}
use Rattle.h1_app.proofs.TimelyLemmas.{fails_anyhow, untimed_waits}
use Rattle.h1_app.specs.BodyTimes.{BodyInTime}
use Rattle.h1_app.proofs.BodyTimeLemmas.{body_asked, noted_at_in}
use Rattle.h1_app.proofs.StepLemmas.{grown_stepped}
use Rattle.h1_app.proofs.StoodLemmas.{stood_so}
use Rattle.h1_app.proofs.AccountedLemmas.{accounted_read, entry_on, stops_on}
use Rattle.h1_transfer.specs.Decoding.{noted_of}
use Rattle.h1_transfer.proofs.TakeLemmas.{past_body}

-- the application's stage, taken apart
pub at_answer : {L C J : Type 0} (runs : Runs J)
    (session : SessionView L C) (last : Option Entry) (at : Stage J) (e : Entry) (job : J)
    → SoundStage runs session last at → at ≡ stage.Answer job → last ≡ Some e
    → (answering : IsAnswering e session)
    × runs job answering.request.header e.began session.settings e.body session.read_limit
at_answer runs session last at e job sound is some =
    let s = rw is at sound in
    subst (λ (x : Entry). (answering : IsAnswering x session)
    × runs job answering.request.header x.began session.settings x.body session.read_limit)
    (same_Some s.0 e (sym s.1 ∙ some)) (s.2, s.3)

-- the session's request has its head
asked_for : {L C : Type 0} (session : SessionView L C) (request : Request)
    → session.request ≡ Some request → IsAskedFor request.header session
asked_for session request is = rw is refl

-- what was handed out joins the payload
payload_is : {L C : Type 0} (state : L → LinkState) (old behind : SessionView L C) (payload : Payload)
    (r : ReadsOnly state (lent old payload) behind) → payload_of behind ≡ payload.bytes ++ r.payload
payload_is state old behind payload r = ap noted_of r.kept

-- a refusal in the call says why the body can't be read on
refusal_stops : {L C : Type 0} (state : L → LinkState) (old behind : SessionView L C)
    (payload : Payload) → behind.body.kept ≡ Some payload
    → (k : ErrorType) → FailsRead state old behind k → StopsBody state behind payload k
refusal_stops state old behind payload is kind.InvalidBody h = h
refusal_stops state old behind payload is kind.ConnectionClosed h = h
refusal_stops state old behind payload is kind.ReadError h = h.1
refusal_stops state old behind payload is kind.ReadTimedout h = h.1
refusal_stops state old behind payload is kind.ContentTooLarge h =
    past_body payload behind.body.reader behind.received (rw is at h)
refusal_stops state old behind payload is kind.NoMemory h = tt
refusal_stops state old behind payload is _ h = absurd h

-- why the body can't be read on, where it can't: for an earlier error, or a new one
stopped_by : {L C : Type 0} (state : L → LinkState) (old behind : SessionView L C)
    (payload : Payload) (piece : List ℕ) → behind.body.kept ≡ Some (grown piece payload)
    → (was : Option Error) → RefusedBy state old behind was
    → IfSome was (StopsWith state old payload)
    → IfSome behind.body.refused (StopsWith state behind (grown piece payload))
stopped_by state old behind payload piece is None h s = IfSome_then behind.body.refused h
    (λ error refused. (refusal_stops state old behind (grown piece payload) is error.kind refused.0, refused.1))
stopped_by state old behind payload piece is (Some error) h s =
    rw h.0 (stops_on state old behind payload piece error.kind h.1 h.2 (λ was. h.3 ∙ was) s.0, s.1)

-- what holds anyhow
where_replied : (P : Type 0) (reply : Option Reply) → P → IfSome reply (λ _. P)
where_replied P None h = tt
where_replied P (Some reply) h = h

-- the session after the application was asked, without the payload that it was lent
abbrev given_back : {L C : Type 0} → SessionView L C → SessionView L C
given_back behind = record behind { body = record behind.body { kept = None; waits = false } }

-- what was given and taken goes on as the application reads; its reply may join the exchange
asked_accounted : {L C : Type 0} (state : L → LinkState) (old behind : SessionView L C) (e : Entry)
    (reply : Option Reply) (before : LinkState) (done : List Entry)
    → IsAnswering e old → ReadsOnly state (lent old (payload_in e)) behind
    → Accounted state before old done (Some e) → Accounted state before (given_back behind) done
    (Some (record (noted e behind) { reply = reply }))
asked_accounted {L} {C} state old behind e reply before done a r s =
    let f : Entry = record (noted e behind) { reply = reply } in
    let new : SessionView L C = given_back behind in
    accounted_read state old new (Some e) (Some f) r.piece before done r.moved.later r.moved.given
    r.moved.written r.reply
    (λ rest p. entry_on old new e f r.piece r.used r.payload rest refl refl
    (payload_is state old behind (payload_in e) r) r.bytes r.decoded
    (λ front read stood. where_replied (StoodSo f.how f new.body) reply
    (stood_so f (front ++ r.used) new.body read refl refl refl)) p)
    (λ rest h. rw (r.reply, a.sent_head, a.sent_body) (rw (a.sent_head, a.sent_body) at h))
    (subst (λ bytes. IfSome behind.body.refused (StopsWith state new (record (payload_in e) { bytes = bytes })))
    (sym (payload_is state old behind (payload_in e) r))
    (stopped_by state (lent old (payload_in e)) behind (payload_in e) r.payload r.kept old.body.refused r.refused
    (subst (λ o. IfSome o (StopsWith state old (payload_in e))) a.asked.body_error s.stopped)))
    (rw a.sent_head tt) s

-- an exchange whose application was asked is what the session read for it, and a reply that may have
-- joined it
asked_is : {L C : Type 0} {state : L → LinkState} {old new : SessionView L C} {e e2 : Entry} (e3 : Entry)
    {answer : Heard} → e3 ≡ record e2 { reply = e3.reply }
    → (h : AsksAs state old new e e2 answer) → e3 ≡ record (noted e h.behind) { reply = e3.reply }
asked_is e3 like h = like ∙ ap (λ (x : Entry). record x { reply = e3.reply }) h.entry

-- it is still that of the session's request
asked_still : {L C : Type 0} (state : L → LinkState) (old new : SessionView L C) (e e2 e3 : Entry)
    (answer : Heard) (request : Request) → e3 ≡ record e2 { reply = e3.reply }
    → IsAskedIn e (bare old) request → AsksAs state old new e e2 answer
    → IsAskedIn e3 (bare new) request
asked_still {L} {C} state old new e e2 e3 answer request like a h =
    let r = h.reads in
    subst (λ (x : Entry). IsAskedIn x (bare new) request) (sym (asked_is e3 like h))
    (subst (λ (x : SessionView L C). IsAskedIn (record (noted e h.behind) { reply = e3.reply }) (bare x) request)
    (sym h.session) (record {
      is = r.request ∙ a.is;
      filtered = a.filtered;
      head_only = a.head_only;
      both = a.both;
      wish = a.wish;
      reuses = r.reuses ∙ a.reuses;
      body_error = refl;
      read_limit = refl;
      handed = refl;
      kept = refl;
      waits = refl;
      undrained = r.undrained a.undrained;
      written = rw r.reply a.written;
      limit = a.limit;
    }))

-- nothing of a reply was taken up in the call
unwritten_still : {L C : Type 0} (state : L → LinkState) (old new : SessionView L C) (e e2 : Entry)
    (answer : Heard) → AsksAs state old new e e2 answer → IsUnwritten old.reply → IsUnwritten new.reply
unwritten_still {L} {C} state old new e e2 answer h unwritten =
    subst IsUnwritten (sym (ap (λ (x : SessionView L C). x.reply) h.session ∙ h.reads.reply)) unwritten

-- a job that goes on runs for the exchange, which still awaits its reply
still_answers : {L C J : Type 0} (state : L → LinkState)
    (runs : Runs J) (old new : SessionView L C)
    (e e2 : Entry) (job : J) (answer : Heard) (a : IsAnswering e old)
    → AsksAs state old new e e2 answer
    → runs job a.request.header e.began new.settings e2.body new.read_limit
    → SoundStage runs new (Some e2) (stage.Answer job)
still_answers state runs old new e e2 job answer a h on = (
  e2,
  refl,
  record {
    request = a.request;
    asked = asked_still state old new e e2 e2 answer a.request refl a.asked h;
    unwritten = unwritten_still state old new e e2 answer h a.unwritten;
    reply = ap (λ (x : Entry). x.reply) h.entry ∙ a.reply;
    sent_head = ap (λ (x : Entry). x.sent_head) h.entry ∙ a.sent_head;
    sent_body = ap (λ (x : Entry). x.sent_body) h.entry ∙ a.sent_body;
  },
  subst (λ began. runs job a.request.header began new.settings e2.body new.read_limit)
      (sym (ap (λ (x : Entry). x.began) h.entry)) on,
)

-- nothing of a reply is there until the answer
still_unreplied : {L C : Type 0} (state : L → LinkState) (old new : SessionView L C)
    (e e2 : Entry) (answer : Heard) → IsAnswering e old → AsksAs state old new e e2 answer
    → e2.reply ≡ None
still_unreplied state old new e e2 answer a h = ap (λ (x : Entry). x.reply) h.entry ∙ a.reply

-- the reply joins the exchange, and its header is taken up next
now_replied : {L C J : Type 0} (state : L → LinkState)
    (runs : Runs J) (old new : SessionView L C)
    (e e2 : Entry) (reply : Reply) (answer : Heard) → IsAnswering e old
    → AsksAs state old new e e2 answer
    → SoundStage runs new (Some (record e2 { reply = Some reply })) stage.TakeHeader
now_replied {L} {C} state runs old new e e2 reply answer a h = (
  record e2 { reply = Some reply },
  refl,
  a.request,
  reply,
  record {
    asked = asked_still state old new e e2 (record e2 { reply = Some reply }) answer a.request refl a.asked h;
    is = refl;
    how = ap (λ (x : Entry). x.how) h.entry ∙ sym (ap (λ (x : SessionView L C). how_of x.body) h.session);
    left = ap (λ (x : Entry). x.left) h.entry ∙ sym (ap (λ (x : SessionView L C). x.settings) h.session);
  },
  unwritten_still state old new e e2 answer h a.unwritten,
  ap (λ (x : Entry). x.sent_head) h.entry ∙ a.sent_head,
  ap (λ (x : Entry). x.sent_body) h.entry ∙ a.sent_body,
)

-- the exchange is allowed as before, where the reply that joined it is one that the application gives
allowed_asked : {L C : Type 0} (state : L → LinkState) (rules : Rules) (old new : SessionView L C)
    (e e2 e3 : Entry) (answer : Heard) → e3 ≡ record e2 { reply = e3.reply }
    → (a : IsAnswering e old) → AsksAs state old new e e2 answer → IsLimitOf e3.body_error e3.read_limit
    → IsAllowed rules e
    → IfSome e3.reply (λ reply.
    rules.gives (record (given_to e2 a.request.header) { began = e.began }) reply)
    → IsAllowed rules e3
allowed_asked {L} {C} state rules old new e e2 e3 answer like a h limit allowed gives =
    subst (IsAllowed rules) (sym (asked_is e3 like h)) (record {
      filtered = allowed.filtered;
      reply = replied e3.reply gives;
      sent_head = rw a.sent_head tt;
      sent_body = rw a.sent_body tt;
      handed = omega arith;
      bound = subst (λ (x : Entry). length x.body ≤ e.holding.limit) h.entry h.within;
      reuses = h.reads.reuses ∙ a.asked.reuses;
      owed = allowed.owed;
      limit = subst (λ (x : Entry). IsLimitOf x.body_error x.read_limit) (asked_is e3 like h) limit;
    })
  where
    replied : (reply : Option Reply)
        → IfSome reply (λ reply. rules.gives (record (given_to e2 a.request.header) { began = e.began }) reply)
        → IfSome reply (λ reply. (filtered : RequestView) × (e.filtered ≡ Some filtered)
        × rules.gives (given_to (noted e h.behind) filtered) reply)
    replied None gave = tt
    replied (Some reply) gave = (
      a.request.header,
      a.asked.filtered,
      subst (λ (x : Entry). rules.gives (record (given_to x a.request.header) { began = e.began }) reply)
          h.entry gave,
    )

-- the exchange says how much of its reply the session wrote
kept_asked : {L C : Type 0} (state : L → LinkState) (old new : SessionView L C) (e e2 e3 : Entry)
    (answer : Heard) → e3 ≡ record e2 { reply = e3.reply } → IsAnswering e old
    → AsksAs state old new e e2 answer → IsKept new e3
kept_asked state old new e e2 e3 answer like a h =
    (asked_still state old new e e2 e3 answer a.request like a.asked h).written

-- no filter of the exchange ran
same_filtered : {L C : Type 0} (state : L → LinkState) (old new : SessionView L C)
    (e e2 e3 : Entry) (answer : Heard) → e3 ≡ record e2 { reply = e3.reply } → IsAnswering e old
    → AsksAs state old new e e2 answer → SameFiltered e e3
same_filtered state old new e e2 e3 answer like a h =
    let is = asked_is e3 like h in record {
      head = ap (λ (x : Entry). x.head) is;
      filtered = ap (λ (x : Entry). x.filtered) is;
      sent_head = ap (λ (x : Entry). x.sent_head) is;
      sent_body = ap (λ (x : Entry). x.sent_body) is;
      reply = inr a.sent_head;
    }

-- why an application that reads waits
reads_why : {L C : Type 0} (state : L → LinkState) (old new : SessionView L C) (e e2 : Entry)
    (answer : Heard)
    → IsAnswering e old → AsksAs state old new e e2 answer → answer ≡ asked.Reads
    → (Rose (state old.link).read_waits (state new.link).read_waits ⊎ (new.budget ≡ Some 0))
    × ((before : LinkState) (done : List Entry) → Accounted state before new done (Some e2)
    → LacksSo before (state new.link) done (Some e2))
reads_why {L} {C} state old new e e2 answer a h is =
    let waits : WaitsBy state (lent old (payload_in e)) h.behind true =
    subst (λ b. WaitsBy state (lent old (payload_in e)) h.behind b) (h.reading is) (h.reads.waits a.asked.waits) in
    let left : SessionView L C = given_back h.behind in
    let none : e2.reply ≡ None = ap (λ (x : Entry). x.reply) h.entry ∙ a.reply in
    subst (λ (x : SessionView L C). (Rose (state old.link).read_waits (state x.link).read_waits ⊎ (x.budget ≡ Some 0))
    × ((before : LinkState) (done : List Entry) → Accounted state before x done (Some e2)
    → LacksSo before (state x.link) done (Some e2)))
    (sym h.session) (
      waits.1,
      λ before done s. (inl none, stands_unfinished state before done left e2 s waits.0),
    )

-- the step goes on with what was given and taken
asked_on : {L C : Type 0} (state : L → LinkState) (old new : SessionView L C) (e e2 e3 : Entry)
    (answer : Heard) → e3 ≡ record e2 { reply = e3.reply } → IsAnswering e old
    → AsksAs state old new e e2 answer → (before : LinkState) (done : List Entry)
    → Accounted state before old done (Some e) → Accounted state before new done (Some e3)
asked_on {L} {C} state old new e e2 e3 answer like a h before done s =
    let is = asked_is e3 like h in
    subst (λ (x : SessionView L C). Accounted state before x done (Some e3)) (sym h.session)
    (subst (λ (x : Entry). Accounted state before (given_back h.behind) done (Some x)) (sym is)
    (asked_accounted state old h.behind e e3.reply before done a h.reads s))

-- a refusal in the call for a read that failed or waited too long is one that the link had in it
refused_in : {L C : Type 0} (state : L → LinkState) (old behind : SessionView L C)
    (was : Option Error) → RefusedBy state old behind was
    → RefusedIn (state old.link) (state behind.link) was behind.body.refused
refused_in state old behind (Some error) h = tt
refused_in state old behind None h = each behind.body.refused h
  where
    of : (k : ErrorType) → FailsRead state old behind k → RoseFor (state old.link) (state behind.link) k
    of kind.ReadError h = h.0
    of kind.ReadTimedout h = h.0
    of _ h = tt

    each : (now : Option Error) → IfSome now (RefusesWith state old behind)
        → RefusedIn (state old.link) (state behind.link) None now
    each None h = tt
    each (Some error) h = of error.kind h.0

refusal_stays : {L C : Type 0} (state : L → LinkState) (old behind : SessionView L C)
    (was : Option Error) → RefusedBy state old behind was
    → Stays was behind.body.refused
refusal_stays state old behind None h = tt
refusal_stays state old behind (Some error) h = h.0

-- the exchange grows by what the application read; a reply may join it
asked_grows : {L C : Type 0} (state : L → LinkState) (now : ℕ) (old new : SessionView L C)
    (e e2 e3 : Entry) (answer : Heard)
    → e3 ≡ record e2 { reply = e3.reply } → IsAnswering e old → AsksAs state old new e e2 answer
    → StaysWith e.body_error e.read_limit e3.read_limit
    → Grows now (state old.link) (state new.link) e e3
asked_grows {L} {C} state now old new e e2 e3 answer like a h limit =
    let r = h.reads in
    let entry = asked_is e3 like h in
    let read : payload_of h.behind ≡ e.body ++ r.payload = payload_is state old h.behind (payload_in e) r in
    let stays = refusal_stays state (lent old (payload_in e)) h.behind old.body.refused r.refused in
    let within = refused_in state (lent old (payload_in e)) h.behind old.body.refused r.refused in
    let link : (state new.link) ≡ (state h.behind.link) = ap (λ (x : SessionView L C). state x.link) h.session in
    subst (λ (x : Entry). Grows now (state old.link) (state new.link) e x) (sym entry) (record {
      holding = refl;
      head = refl;
      both = refl;
      filtered = stays_itself e.filtered;
      body = (r.payload, read);
      handed = omega (arith, a.asked.handed, ap length read, length-append e.body r.payload);
      body_error = subst (λ o. Stays o h.behind.body.refused) (sym a.asked.body_error) stays;
      refused = subst (λ o. RefusedIn (state old.link) (state new.link) o h.behind.body.refused)
          (sym a.asked.body_error)
          (subst (λ x. RefusedIn (state old.link) x old.body.refused h.behind.body.refused) (sym link) within);
      read_limit = subst (λ (x : Entry). StaysWith e.body_error e.read_limit x.read_limit) entry limit;
      reply = rw a.reply tt;
      replied = rw a.reply tt;
      sent_head = rw a.sent_head tt;
      dated = rw a.sent_head tt;
      sent_body = rw a.sent_body tt;
      written = omega arith;
      began = refl;
    })

-- the limit that a read reached is kept with the error, and stays
asked_limits : {L C : Type 0} (state : L → LinkState) (now : ℕ) (old new : SessionView L C)
    (e e2 e3 : Entry) (answer : Heard) → e3 ≡ record e2 { reply = e3.reply } → IsAnswering e old
    → AsksAs state old new e e2 answer → ReadsInTime state now old new
    → IsLimitOf e.body_error e.read_limit
    → StaysWith e.body_error e.read_limit e3.read_limit × IsLimitOf e3.body_error e3.read_limit
asked_limits {L} {C} state now old new e e2 e3 answer like a h timed limit =
    let is = asked_is e3 like h in
    let refused : e3.body_error ≡ new.body.refused =
    ap (λ (x : Entry). x.body_error) is ∙ sym (ap (λ (x : SessionView L C). x.body.refused) h.session) in
    let noted : e3.read_limit ≡ new.read_limit =
    ap (λ (x : Entry). x.read_limit) is ∙ sym (ap (λ (x : SessionView L C). x.read_limit) h.session) in
    let stays : Stays old.body.refused new.body.refused =
    subst (λ (x : SessionView L C). Stays old.body.refused x.body.refused) (sym h.session)
    (refusal_stays state (lent old (payload_in e)) h.behind old.body.refused h.reads.refused) in
    let before : IsLimitOf old.body.refused old.read_limit = rw (a.asked.body_error, a.asked.read_limit) at limit in
    rw (refused, noted, a.asked.body_error, a.asked.read_limit) (
      limit_stays now new.body.since.read old.read_limit new.read_limit old.body.refused new.body.refused
          timed.limit,
      limit_is now new.body.since.read old.read_limit new.read_limit old.body.refused new.body.refused
          before stays timed.limit,
    )

-- since when a read of its body waits, and whether it was refused for its time
asked_body : {L C : Type 0} (state : L → LinkState) (now : ℕ) (old new : SessionView L C)
    (e e2 e3 : Entry) (answer : Heard) → e3 ≡ record e2 { reply = e3.reply } → IsAnswering e old
    → AsksAs state old new e e2 answer → ReadsInTime state now old new
    → Grows now (state old.link) (state new.link) e e3
    → BodyInTime now old.body.since.read new.body.since.read (Some e) (Some e3)
asked_body {L} {C} state now old new e e2 e3 answer like a h timed grows =
    let is = asked_is e3 like h in
    let refused : e3.body_error ≡ new.body.refused =
    ap (λ (x : Entry). x.body_error) is ∙ sym (ap (λ (x : SessionView L C). x.body.refused) h.session) in
    let noted : e3.read_limit ≡ new.read_limit =
    ap (λ (x : Entry). x.read_limit) is ∙ sym (ap (λ (x : SessionView L C). x.read_limit) h.session) in
    body_asked now old.body.since.read new.body.since.read (state old.link) (state new.link) e e3 grows
    (noted_at_in now (state old.link).moves (state new.link).moves old.body.since.read
    new.body.since.read timed.since)
    (rw (refused, noted, a.asked.body_error, a.asked.read_limit) timed.limit)

asked_few : {L C : Type 0} (state : L → LinkState) (old new : SessionView L C) (e e2 : Entry)
    (answer : Heard) → AsksAs state old new e e2 answer
    → (state new.link).read_waits ≤ (state old.link).read_waits + 1
asked_few {L} {C} state old new e e2 answer h =
    subst (λ (x : SessionView L C). (state x.link).read_waits ≤ (state old.link).read_waits + 1)
    (sym h.session) h.reads.few

-- what was moved as the application read
asked_moves : {L C : Type 0} (state : L → LinkState) (old new : SessionView L C) (e e2 : Entry)
    (answer : Heard) → AsksAs state old new e e2 answer → MovesWithin state old new
asked_moves {L} {C} state old new e e2 answer h =
    subst (λ (x : SessionView L C). MovesWithin state old x) (sym h.session) (record {
      read = h.reads.piece;
      wrote = [];
      spent = h.reads.spent;
      moved = h.reads.moved;
      budget = h.reads.budget;
      within = h.reads.within;
      context = h.reads.context;
    })

after_like : (e : Entry) (answer : Heard)
    → entry_after e answer ≡ record e { reply = (entry_after e answer).reply }
after_like e (asked.Replied reply) = refl
after_like e _ = refl

gives_after : (gives : Given → Reply → Type 0) (given : Given) (e : Entry) (answer : Heard)
    → e.reply ≡ None → GivesAsked gives given answer
    → IfSome (entry_after e answer).reply (λ reply. gives given reply)
gives_after gives given e (asked.Replied reply) none h = h
gives_after gives given e _ none h = rw none tt

-- a read was not ready at most once, and the reply makes up for it
few_after : (old now : LinkState) (e e2 : Entry) (answer : Heard) → e.reply ≡ None → e2.reply ≡ None
    → now.read_waits ≤ old.read_waits + 1
    → FewReadsNotReady old now (e ∷ []) (entry_after e2 answer ∷ []) (outcome_after answer)
few_after old now e e2 asked.Reads none still few = rw (none, still) (omega (arith, few))
few_after old now e e2 asked.Pends none still few = rw (none, still) (omega (arith, few))
few_after old now e e2 (asked.Replied reply) none still few = rw none (omega (arith, few))
few_after old now e e2 (asked.Failed error) none still few = rw (none, still) (omega (arith, few))

-- an application fails only where memory ran out
abbrev IsMemoryOnly : Heard → Type 0
IsMemoryOnly (asked.Failed error) = error ≡ no_memory
IsMemoryOnly _ = Unit {0}

only_memory : (gives : Given → Reply → Type 0) (given : Given) (answer : Heard)
    → GivesAsked gives given answer → IsMemoryOnly answer
only_memory gives given (asked.Failed error) gave = gave
only_memory gives given _ gave = tt

-- the connection has no limit for what the application does
asked_in_time : {L C J : Type 0} (state : L → LinkState) (now : ℕ) (old new : SessionView L C)
    (job job2 : J) (first last : Option Entry) (answer : Heard) → MovesWithin state old new
    → IsMemoryOnly answer
    → StepsInTime state now (stage.Answer job) (stage_after job2 answer) old new first last (outcome_after answer)
asked_in_time state now old new job job2 first last asked.Reads moves failed =
    untimed_waits state now (stage.Answer job) (stage.Answer job2) old new first last moves (omega arith) waiting.Read refl
asked_in_time state now old new job job2 first last asked.Pends moves failed =
    untimed_waits state now (stage.Answer job) (stage.Answer job2) old new first last moves (omega arith) waiting.App refl
asked_in_time state now old new job job2 first last (asked.Replied reply) moves failed = tt
asked_in_time state now old new job job2 first last (asked.Failed error) moves failed =
    rw failed (fails_anyhow state now (stage.Answer job) (stage.Answer job2) old new first last moves (omega arith)
    no_memory refl)

nearer_asked : {J : Type 0} (job : J) (old new : Option ℕ) (spent : ℕ)
    → new ≡ option_map (λ left. left - spent) old
    → ahead {J = J} new stage.TakeHeader < ahead old (stage.Answer job)
nearer_asked job None new spent is = rw is (omega arith)
nearer_asked job (Some left) new spent is = rw is (omega arith)

-- why the step goes on, waits or ends
asked_why : {L C J : Type 0} (state : L → LinkState) (pends : J → ℕ)
    (runs : Runs J) (gives : Given → Reply → Type 0)
    (given : Given) (old new : SessionView L C) (e e2 : Entry) (job job2 : J) (answer : Heard)
    (a : IsAnswering e old) → AsksAs state old new e e2 answer
    → RunsOn (runs job2 a.request.header e.began new.settings e2.body new.read_limit) answer
    → GivesAsked gives given answer → PendsAsked (pends job) (pends job2) answer
    → OutcomeCause state pends runs old new (Some (entry_after e2 answer)) (stage.Answer job)
    (stage_after job2 answer) (outcome_after answer)
asked_why state pends runs gives given old new e e2 job job2 asked.Reads a h on gave counted = (
  still_answers state runs old new e e2 job2 asked.Reads a h on,
  reads_why state old new e e2 asked.Reads a h refl,
)
asked_why {L} {C} state pends runs gives given old new e e2 job job2 asked.Pends a h on gave counted = (
  still_answers state runs old new e e2 job2 asked.Pends a h on,
  (
    ap (λ (x : SessionView L C). (state x.link).read_waits) h.session
        ∙ subst (λ b. WaitsBy state (lent old (payload_in e)) h.behind b) (h.pending refl) (h.reads.waits a.asked.waits),
    counted,
  ),
)
asked_why state pends runs gives given old new e e2 job job2 (asked.Replied reply) a h on gave counted = (
  now_replied state runs old new e e2 reply (asked.Replied reply) a h,
  omega arith,
  nearer_asked job old.budget new.budget (asked_moves state old new e e2 (asked.Replied reply) h).spent
      (asked_moves state old new e e2 (asked.Replied reply) h).budget,
)
asked_why state pends runs gives given old new e e2 job job2 (asked.Failed error) a h on gave counted =
    λ before done s. rw gave (refl, tt)

-- the application goes on: what it read joins the exchange, and its reply may
pub asked_stepped : {L C J : Type 0} (state : L → LinkState) (pends : J → ℕ) (rules : Rules)
    (runs : Runs J)
    (now : ℕ) (shutdown : Bool) (x y : Exchange L J C) (e e2 : Entry) (job job2 : J) (answer : Heard)
    → StepReady runs now x → IfSome x.transcript.last (IsAllowed rules)
    → x.stage ≡ stage.Answer job → x.transcript.last ≡ Some e
    → y.transcript.last ≡ Some (entry_after e2 answer) → y.stage ≡ stage_after job2 answer
    → AsksAs state x.session y.session e e2 answer → ReadsInTime state now x.session y.session
    → ((head : RequestView) (began : Settings) → IsAskedFor head x.session
    → runs job head began x.session.settings e.body x.session.read_limit
    → RunsOn (runs job2 head began y.session.settings e2.body y.session.read_limit) answer)
    → ((head : RequestView) (began : Settings) → IsAskedFor head x.session
    → runs job head began x.session.settings e.body x.session.read_limit
    → GivesAsked rules.gives (record (given_to e2 head) { began = began }) answer)
    → PendsAsked (pends job) (pends job2) answer
    → Stepped state pends rules runs now shutdown x y (outcome_after answer)
asked_stepped {L} {C} state pends rules runs now shutdown x y e e2 job job2 answer ready allowed at
    was is to asks timed runs_on gives counted =
    let old : SessionView L C = x.session in
    let new : SessionView L C = y.session in
    let e3 : Entry = entry_after e2 answer in
    let s = at_answer runs old x.transcript.last x.stage e job ready.sound at was in
    let a : IsAnswering e old = s.0 in
    let given : Given = record (given_to e2 a.request.header) { began = e.began } in
    let for : IsAskedFor a.request.header old = asked_for old a.request a.asked.is in
    let gave = gives a.request.header e.began for s.1 in
    let none : e2.reply ≡ None = still_unreplied state old new e e2 answer a asks in
    let like : e3 ≡ record e2 { reply = e3.reply } = after_like e2 answer in
    let moves : MovesWithin state old new = asked_moves state old new e e2 answer asks in
    let before : IsAllowed rules e = at_some (IsAllowed rules) x.transcript.last e was allowed in
    let limits = asked_limits state now old new e e2 e3 answer like a asks timed before.limit in
    grown_stepped state pends rules runs now shutdown x y e e3 (outcome_after answer) was is moves
    (asked_on state old new e e2 e3 answer like a asks)
    (allowed_asked state rules old new e e2 e3 answer like a asks limits.1 before
    (gives_after rules.gives given e2 answer none gave))
    (kept_asked state old new e e2 e3 answer like a asks)
    (asked_grows state now old new e e2 e3 answer like a asks limits.0)
    (few_after (state old.link) (state new.link) e e2 answer a.reply none
    (asked_few state old new e e2 answer asks))
    (asked_body state now old new e e2 e3 answer like a asks timed
    (asked_grows state now old new e e2 e3 answer like a asks limits.0))
    (rw (at, to) (asked_in_time state now old new job job2 x.transcript.last (Some e3) answer moves
    (only_memory rules.gives given answer gave)))
    (rw (at, to) (asked_why state pends runs rules.gives given old new e e2 job job2 answer a asks
    (runs_on a.request.header e.began for s.1) gave counted))

-- a call of the link moved nothing at most once
pub asked_others : {L C : Type 0} (state : L → LinkState) (old new : SessionView L C) (e e2 : Entry)
    (answer : Heard) → AsksAs state old new e e2 answer
    → (state new.link).others ≤ (state old.link).others + 1
asked_others {L} {C} state old new e e2 answer asks =
    rw (ap (λ (x : SessionView L C). x.link) asks.session) asks.reads.calls.others

-- a call that moved nothing is allowed for each answer
pub answer_others : {J : Type 0} (old now : LinkState) (job job2 : J) (answer : Heard)
    → now.others ≤ old.others + 1
    → OthersFew old now (stage.Answer job) (stage_after job2 answer) (outcome_after answer)
answer_others old now job job2 asked.Reads few = few
answer_others old now job job2 asked.Pends few = few
answer_others old now job job2 (asked.Replied reply) few = omega (arith, few)
answer_others old now job job2 (asked.Failed error) few = few

-- a job that goes on was there
pub answer_job : {J : Type 0} (begins : J → Type 0) (pends : J → ℕ) (job job2 : J) (answer : Heard)
    → pends job ≤ pends job2 → JobFrom begins pends (stage.Answer job) (stage_after job2 answer)
answer_job begins pends job job2 asked.Reads later = inl (job, refl, later)
answer_job begins pends job job2 asked.Pends later = inl (job, refl, later)
answer_job begins pends job job2 (asked.Replied reply) later = tt
answer_job begins pends job job2 (asked.Failed error) later = inl (job, refl, later)

-- no filter of the exchange ran
pub asked_filters : {L C J : Type 0} (state : L → LinkState)
    (runs : Runs J) (now : ℕ) (x : Exchange L J C)
    (new : SessionView L C) (e e2 : Entry) (job : J) (answer : Heard) → StepReady runs now x
    → x.stage ≡ stage.Answer job → x.transcript.last ≡ Some e → AsksAs state x.session new e e2 answer
    → FiltersStay x.transcript.last (Some (entry_after e2 answer))
asked_filters state runs now x new e e2 job answer ready at was asks =
    let s = at_answer runs x.session x.transcript.last x.stage e job ready.sound at was in
    rw was (same_filtered state x.session new e e2 (entry_after e2 answer) answer (after_like e2 answer) s.0 asks)
