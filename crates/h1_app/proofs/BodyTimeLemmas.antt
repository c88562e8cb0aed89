-- What steps leave of the waits for a request's body, one after the other.
use Rattle.std.proofs.Common.{◌≡◌, ◌⊎◌, inl, inr, ℕ, nat_lt, Bool, true, false, Option, Some, None, Result, Ok, Err, refl, sym, ◌∙◌, subst}
use Rattle.h1_app.specs.Words.{Poll, Ready, Pending, Error, Entry, Grows, LinkState, ReusesBy, SessionView, keeps_alive, allowance, Rose, payload_in}
use Rattle.h1_error.specs.declared.error.ErrorType.TheVariants as kind
use Rattle.h1_application.specs.Application.{LimitedBy}
use Rattle.h1_server.specs.Payload.{DrainsBody}
use Rattle.h1_server.specs.Times.{drain_limits}
use Rattle.h1_server.specs.declared.request.ReadRequest.{ReadRequest}
use Rattle.h1_server.specs.declared.request.ReadRequest.TheVariants as read
use Rattle.h1_server.specs.Requests.{HeadTimed, is_head_late}
use Rattle.h1_transcript.specs.BodyLimits.{IsNotedAt, IsOverAt}
use Rattle.h1_transcript.specs.Growth.{Stays}
use Rattle.h1_transfer.specs.Deadline.{FailsInTime, IsTimed, Wait, is_timeout, left_of, noted_since, start_of}
use Rattle.h1_transfer.specs.ReadWaits.{DrainWaited, noted_rest, rest_wait}
use Rattle.h1_transfer.specs.declared.since.DrainLimits.{DrainLimits}
use Rattle.h1_transfer.specs.declared.since.Since.{Since}
use Rattle.h1_app.specs.BodyTimes.{BodyInTime, IsLateSince, IsNotedIn, NotesTimeout, limit_of_last}
use Rattle.h1_app.proofs.Words.{ReusesAs, lent}

noted_in_itself : (now : ℕ) (since : Option ℕ) → IsNotedIn now since since
noted_in_itself now None = tt
noted_in_itself now (Some start) = inr refl

noted_in_on : (now : ℕ) (a b c : Option ℕ) → IsNotedIn now a b → IsNotedIn now b c → IsNotedIn now a c
noted_in_on now a b None x y = tt
noted_in_on now a b (Some start) x (inl at) = inl at
noted_in_on now a b (Some start) x (inr before) = rw before at x

-- the same where bytes are told
pub noted_at_in : (now before behind : ℕ) (old new : Option ℕ) → IsNotedAt now before behind old new
    → IsNotedIn now old new
noted_at_in now before behind old None h = tt
noted_at_in now before behind old (Some start) (inl at) = inl at
noted_at_in now before behind old (Some start) (inr same) = inr same.1

late_on : (now : ℕ) (a b : Option ℕ) (limit : Option ℕ) → IsNotedIn now a b
    → IsLateSince now b limit → IsLateSince now a limit
late_on now a b limit x h = (h.0, noted_in_on now a b (Some h.0) x h.1, h.2)

-- nothing was read
pub body_itself : (now : ℕ) (since : Option ℕ) (last : Option Entry)
    → BodyInTime now since since last last
body_itself now since last = record {
  since = noted_in_itself now since;
  late = λ told. inl told;
  kept = λ told. (told, refl);
}

-- one step after the other
pub body_on : (now : ℕ) (a b c : Option ℕ) (first second third : Option Entry)
    → BodyInTime now a b first second → BodyInTime now b c second third
    → BodyInTime now a c first third
body_on now a b c first second third x y = record {
  since = noted_in_on now a b c x.since y.since;
  late = λ told. elim (y.late told) [
    | inl before ↦ elim (x.late before) [
      | inl first_told ↦ inl first_told
      | inr late ↦ inr (subst (IsLateSince now a) (sym (y.kept before).1) late)
    ]
    | inr late ↦ inr (late_on now a b (limit_of_last third) x.since late)
  ];
  kept = λ told.
      let once = x.kept told in
      let again = y.kept once.0 in
      (again.0, again.1 ∙ once.1);
}

-- no exchange is last, or it begins
pub body_begun : (now : ℕ) (old new : Option ℕ) (e : Entry) → IsNotedIn now old new
    → e.body_error ≡ None → BodyInTime now old new None (Some e)
body_begun now old new e since none = record {
  since = since;
  late = λ told. let clash = sym none ∙ told.1 in cc;
  kept = λ told. absurd told;
}

pub body_none : (now : ℕ) (old new : Option ℕ) → IsNotedIn now old new
    → BodyInTime now old new None None
body_none now old new since = record {
  since = since;
  late = λ told. absurd told;
  kept = λ told. absurd told;
}

-- one that is over is no longer the last
pub body_joined : (now : ℕ) (old new : Option ℕ) (e : Entry) → new ≡ None → e.body_error ≡ None
    → BodyInTime now old new (Some e) None
body_joined now old new e is none = record {
  since = rw is tt;
  late = λ told. absurd told;
  kept = λ told. let clash = sym none ∙ told.1 in cc;
}

-- the exchange that is last grows
timeout_kept : (now : ℕ) (before behind : LinkState) (e f : Entry) → Grows now before behind e f
    → NotesTimeout (Some e)
    → NotesTimeout (Some f) × (f.read_limit ≡ e.read_limit)
timeout_kept now before behind e f grows told =
    ((told.0, rw told.1 at grows.body_error, told.2), rw told.1 at grows.read_limit)

-- the same error is there
pub body_grown : (now : ℕ) (old new : Option ℕ) (before behind : LinkState) (e f : Entry)
    → Grows now before behind e f → IsNotedIn now old new → f.body_error ≡ e.body_error
    → BodyInTime now old new (Some e) (Some f)
body_grown now old new before behind e f grows since same = record {
  since = since;
  late = λ told. inl (told.0, sym same ∙ told.1, told.2);
  kept = timeout_kept now before behind e f grows;
}

pub body_written : (now : ℕ) (old new : Option ℕ) (before behind : LinkState) (e f : Entry)
    → Grows now before behind e f → new ≡ old → f.body_error ≡ e.body_error
    → BodyInTime now old new (Some e) (Some f)
body_written now old new before behind e f grows is same =
    body_grown now old new before behind e f grows (rw is (noted_in_itself now old)) same

-- the application was asked: a body that it had refused is, or it has reached its limit
over_since : (now : ℕ) (old new limit : Option ℕ) → IsNotedIn now old new → IsOverAt now new limit
    → IsLateSince now old limit
over_since now old (Some start) limit since over = (start, since, over)
over_since now old None limit since over = absurd over

late_asked : (now : ℕ) (old new before behind : Option ℕ) (was is : Option Error) → Stays was is
    → IsNotedIn now old new → LimitedBy now new before behind was is
    → (error : Error) → is ≡ Some error → error.kind ≡ kind.ReadTimedout
    → (was ≡ Some error) ⊎ IsLateSince now old behind
late_asked now old new before behind (Some refused) is stays since h error told late =
    inl (sym stays ∙ told)
late_asked now old new before behind None is stays since h error told late =
    inr (over_since now old new behind since (rw late at (rw told at h)))

pub body_asked : (now : ℕ) (old new : Option ℕ) (before behind : LinkState) (e f : Entry)
    → Grows now before behind e f → IsNotedIn now old new
    → LimitedBy now new e.read_limit f.read_limit e.body_error f.body_error
    → BodyInTime now old new (Some e) (Some f)
body_asked now old new before behind e f grows since limit = record {
  since = since;
  late = λ told. elim (late_asked now old new e.read_limit f.read_limit e.body_error f.body_error
      grows.body_error since limit told.0 told.1 told.2) [
        | inl same ↦ inl (told.0, same, told.2)
        | inr late ↦ inr late
      ];
  kept = timeout_kept now before behind e f grows;
}

-- since when a head is waited for
module _ (now : ℕ) (limit : Option ℕ) (rose : Type 0) where
  abbrev head_waits : Bool → Option ℕ → Wait
  head_waits moved since =
      record { deadline = record { moment = now; limit = limit }; moved = moved; since = since }

  head_starts : (moved : Bool) (since : Option ℕ)
      → IsNotedIn now since (Some (start_of (head_waits moved since)))
  head_starts true since = inl refl
  head_starts false None = inl refl
  head_starts false (Some start) = inr refl

  head_left : (moved : Bool) (since : Option ℕ) → IsNotedIn now since (left_of (head_waits moved since))
  head_left true since = tt
  head_left false None = tt
  head_left false (Some start) = inr refl

  head_fails : (moved : Bool) (old new : Option ℕ) (late : Bool)
      → FailsInTime (noted_since rose (head_waits moved old) new) late → IsNotedIn now old new
  head_fails moved old new true waited = rw waited.noted (head_starts moved old)
  head_fails moved old new false stopped = rw stopped (head_left moved old)

  pub head_noted : (moved : Bool) (old new : Option ℕ) (left : ℕ) (answer : Poll (Result ReadRequest Error))
      → HeadTimed (noted_since rose (head_waits moved old) new) left answer → IsNotedIn now old new
  head_noted moved old new left (Ready (Ok (read.Head n))) ended = rw ended tt
  head_noted moved old new left (Ready (Ok (read.None why))) told =
      head_fails moved old new (is_head_late (Ok (read.None why))) told
  head_noted moved old new left (Ready (Err error)) told =
      head_fails moved old new (is_head_late (Err error)) told
  head_noted moved old new left Pending (inl waited) = rw waited.noted (head_starts moved old)
  head_noted moved old new left Pending (inr stopped) = rw stopped.1 (head_left moved old)

-- since when the rest of a body is waited for
module _ (now : ℕ) (limit total : Option ℕ) (moved : Bool) (rose : Type 0) (old new : Since) where
  abbrev limits : DrainLimits
  limits = record { moment = now; read = limit; total = total }

  rest_starts : IsNotedIn now old.read (Some (start_of (rest_wait limits moved old)))
  rest_starts = by moved old.drain old.read where
    by : (moved : Bool) (drain read : Option ℕ)
        → IsNotedIn now read (Some (start_of (rest_wait limits moved (record { read = read; drain = drain }))))
    by true drain read = inl refl
    by false None read = inl refl
    by false (Some first) None = inl refl
    by false (Some first) (Some start) = inr refl

  rest_left : IsNotedIn now old.read (left_of (rest_wait limits moved old))
  rest_left = by moved old.drain old.read where
    by : (moved : Bool) (drain read : Option ℕ)
        → IsNotedIn now read (left_of (rest_wait limits moved (record { read = read; drain = drain })))
    by true drain read = tt
    by false None read = tt
    by false (Some first) None = tt
    by false (Some first) (Some start) = inr refl

  rest_waited : (late : Bool) → DrainWaited rose limits moved old new late
      → IsNotedIn now old.read new.read
  rest_waited late w = rw w.read rest_starts

  rest_stopped : new ≡ record { read = left_of (rest_wait limits moved old); drain = old.drain }
      → IsNotedIn now old.read new.read
  rest_stopped is = rw is rest_left

  rest_fails : (late : Bool) → FailsInTime (noted_rest rose limits moved old new) late
      → IsNotedIn now old.read new.read
  rest_fails true waited = rest_waited true waited
  rest_fails false stopped = rest_stopped stopped

  rest_noted_in : {T : Type 0} (left : ℕ) (outcome : Poll (Result T Error))
      → IsTimed (noted_rest rose limits moved old new) left outcome → IsNotedIn now old.read new.read
  rest_noted_in left (Ready (Ok done)) ended = rw ended tt
  rest_noted_in left (Ready (Err error)) told = rest_fails (is_timeout error.kind) told
  rest_noted_in left Pending (inl waited) = rest_waited false waited
  rest_noted_in left Pending (inr stopped) = rest_stopped stopped.1

-- the call for the link's reuse, whatever it answered
pub drain_noted : {L C : Type 0} (state : L → LinkState) (now : ℕ) (old new : SessionView L C)
    (e f : Entry) (answer : Poll (Result Bool Error)) → ReusesAs state now old new e f answer
    → IsNotedIn now old.body.since.read new.body.since.read
drain_noted {L} {C} state now old new e f answer h =
    subst (λ (s : SessionView L C). IsNotedIn now old.body.since.read s.body.since.read) (sym h.session)
    (by_alive (keeps_alive old) h.reuses)
  where
    by_alive : (alive : Bool) → ReusesBy state now (lent old (payload_in e)) h.behind answer alive
        → IsNotedIn now old.body.since.read h.behind.body.since.read
    by_alive false r = rw r.2 (noted_in_itself now old.body.since.read)
    by_alive true r =
        let d : DrainsBody state now (lent old (payload_in e)) r.0 r.1 = r.2 in
        let limits = drain_limits old.settings.times now in
        rw r.3 (rest_noted_in now limits.read limits.total (nat_lt d.left (allowance old.budget))
        (Rose (state old.link).read_waits (state r.0.link).read_waits) old.body.since r.0.body.since d.left
        r.1 d.timed)
