-- What an application notes of the time that its reads wait.
use Rattle.h1_body.specs.Payload.{Payload}
use Rattle.std.proofs.Common.{◌≡◌, ℕ, ◌+◌, ◌≤◌, nat_le, nat_lt, inl, inr, List, Bool, true, false, Option, Some, None, IfSome, IfNone, IsSome, refl, sym, ◌∙◌, subst, arith}
use Rattle.std.proofs.lemmas.Bool.{false≢true}
use Rattle.std.proofs.lemmas.Bool.Decides.{nat_tests}
use Rattle.std.specs.Prelude.{Result, Ok, Err}
use Rattle.h1_application.specs.Words.{Poll, Ready, Pending, Error, ErrorType, LinkState, Rose, SessionView}
use Rattle.h1_error.specs.declared.error.ErrorType.TheVariants as kind
use Rattle.h1_server.specs.Limit.{shown}
use Rattle.h1_server.specs.Payload.{PayloadAnswer, ReadsPayload, limit_behind}
use Rattle.h1_transcript.specs.BodyLimits.{IsLimitFor, IsLimitOf, IsNotedAt, IsOverAt}
use Rattle.h1_transfer.specs.Budget.{allowance}
use Rattle.h1_transfer.specs.Deadline.{FailsInTime, Waited, IsTimed, is_late, is_over, is_timeout, left_of, start_of}
use Rattle.h1_transfer.specs.Payload.{refused_behind}
use Rattle.h1_transfer.specs.ReadWaits.{noted_part, part_wait}
use Rattle.h1_transfer.specs.declared.since.Since.{Since}
use Rattle.h1_transcript.specs.Growth.{Stays, StaysWith}
use Rattle.h1_application.specs.Application.{LimitedBy, LimitedFor, ReadsInTime}

-- what is noted after calls that go on from what others noted
pub noted_on : (now first second third : ℕ) (a b c : Option ℕ) → IsNotedAt now first second a b
    → IsNotedAt now second third b c → IsNotedAt now first third a c
noted_on now first second third a b None x y = tt
noted_on now first second third a b (Some start) x (inl at) = inl at
noted_on now first second third a b (Some start) x (inr before) = elim (rw before.1 at x) [
  | inl at ↦ inl at
  | inr same ↦ inr (before.0 ∙ same.0, same.1)
]

pub noted_itself : (now moves : ℕ) (since : Option ℕ) → IsNotedAt now moves moves since since
noted_itself now moves None = tt
noted_itself now moves (Some start) = inr (refl, refl)

limited_itself : (now : ℕ) (since limit : Option ℕ) (refused : Option Error)
    → LimitedBy now since limit limit refused refused
limited_itself now since limit None = refl
limited_itself now since limit (Some error) = refl

-- where nothing is read, nothing is noted
pub in_time_itself : {L C : Type 0} (state : L → LinkState) (now : ℕ) (s : SessionView L C)
    → ReadsInTime state now s s
in_time_itself state now s = record {
  since = noted_itself now (state s.link).moves s.body.since.read;
  limit = limited_itself now s.body.since.read s.read_limit s.body.refused;
}

-- a limit that is noted behind other calls
limited_on : (now : ℕ) (since before between behind : Option ℕ) (refused : Option Error)
    (now_refused : Option Error)
    → between ≡ before → LimitedBy now since between behind refused now_refused
    → LimitedBy now since before behind refused now_refused
limited_on now since before between behind refused now_refused same h =
    subst (λ limit. LimitedBy now since limit behind refused now_refused) same h

kept_limit : (now : ℕ) (since before behind : Option ℕ) (refused : Option Error)
    → LimitedBy now since before behind refused refused → behind ≡ before
kept_limit now since before behind None h = h
kept_limit now since before behind (Some error) h = h

-- reading on, where no read was refused before
pub in_time_on : {L C : Type 0} (state : L → LinkState) (now : ℕ) (a b c : SessionView L C)
    → b.body.refused ≡ a.body.refused → ReadsInTime state now a b → ReadsInTime state now b c
    → ReadsInTime state now a c
in_time_on state now a b c same first second = record {
  since = noted_on now (state a.link).moves (state b.link).moves (state c.link).moves
      a.body.since.read b.body.since.read c.body.since.read first.since second.since;
  limit = limited_on now c.body.since.read a.read_limit b.read_limit c.read_limit a.body.refused
      c.body.refused
      (kept_limit now b.body.since.read a.read_limit b.read_limit a.body.refused
      (subst (LimitedBy now b.body.since.read a.read_limit b.read_limit a.body.refused) same first.limit))
      (subst (λ refused. LimitedBy now c.body.since.read b.read_limit c.read_limit refused c.body.refused)
      same second.limit);
}

-- what is set is no matter to it
pub in_time_set : {L C : Type 0} (state : L → LinkState) (now : ℕ) (old begun new : SessionView L C)
    → begun ≡ record old { settings = begun.settings } → ReadsInTime state now begun new
    → ReadsInTime state now old new
in_time_set state now old begun new set h =
    let same = subst (λ s. ReadsInTime state now s new) set h in
    record { since = same.since; limit = same.limit }

-- a limit that is noted stays
pub limit_stays : (now : ℕ) (since before behind : Option ℕ) (old new : Option Error)
    → LimitedBy now since before behind old new → StaysWith old before behind
limit_stays now since before behind None new h = tt
limit_stays now since before behind (Some error) new h = h

-- it is noted exactly where it was reached
pub limit_is : (now : ℕ) (since before behind : Option ℕ) (old new : Option Error)
    → IsLimitOf old before → Stays old new → LimitedBy now since before behind old new
    → IsLimitOf new behind
limit_is now since before behind None None limit stays h = h ∙ limit
limit_is now since before behind None (Some error) limit stays h = by error.kind h where
  is_some : (since limit : Option ℕ) → IsOverAt now since limit → IsSome limit
  is_some (Some start) (Some limit) over = refl
  is_some (Some start) None over = absurd over
  is_some None limit over = absurd over

  by : (k : ErrorType) → LimitedFor now since before behind k → IsLimitFor k behind
  by kind.ReadTimedout over = is_some since behind over
  by _ same = same ∙ limit
limit_is now since before behind (Some error) new limit stays h =
    rw stays (subst (IsLimitFor error.kind) (sym h) limit)

-- a call that moved no byte leaves the count of those that did
module _ (now : ℕ) (limit : Option ℕ) (before behind : ℕ) (moved : Bool)
    (still : moved ≡ false → behind ≡ before) where
  start_noted : (since : Since)
      → IsNotedAt now before behind since.read
      (Some (start_of (part_wait (record { moment = now; limit = limit }) moved since)))
  start_noted since = by moved refl since.drain since.read where
    by : (test : Bool) → moved ≡ test → (drain read : Option ℕ)
        → IsNotedAt now before behind read
        (Some (start_of (part_wait (record { moment = now; limit = limit }) test
        (record { read = read; drain = drain }))))
    by true is drain read = inl refl
    by false is None None = inl refl
    by false is None (Some start) = inr (still is, refl)
    by false is (Some first) read = inl refl

  left_noted : (since : Since)
      → IsNotedAt now before behind since.read
      (left_of (part_wait (record { moment = now; limit = limit }) moved since))
  left_noted since = by moved refl since.drain since.read where
    by : (test : Bool) → moved ≡ test → (drain read : Option ℕ)
        → IsNotedAt now before behind read
        (left_of (part_wait (record { moment = now; limit = limit }) test
        (record { read = read; drain = drain })))
    by true is drain read = tt
    by false is None None = tt
    by false is None (Some start) = inr (still is, refl)
    by false is (Some first) read = tt

  over_at : (since : Since)
      → is_over (part_wait (record { moment = now; limit = limit }) moved since) ≡ true
      → IsOverAt now (Some (start_of (part_wait (record { moment = now; limit = limit }) moved since))) limit
  over_at since over = by limit _ over where
    by : (limit : Option ℕ) (start : ℕ)
        → is_late (record { moment = now; limit = limit }) start ≡ true
        → IsOverAt now (Some start) limit
    by None start is = absurd (false≢true is)
    by (Some limit) start is =
        let reached : nat_le (start + limit) now ≡ true = is in grind (arith, nat_tests, reached)

  -- since when the reading waits behind one read
  pub payload_since : {T : Type 0} (rose : Type 0) (old new : Since) (left : ℕ)
      (outcome : Poll (Result T Error))
      → IsTimed (noted_part rose (record { moment = now; limit = limit }) moved old new) left outcome
      → IsNotedAt now before behind old.read new.read
  payload_since rose old new left (Ready (Ok value)) h = rw h tt
  payload_since rose old new left (Ready (Err error)) h = by (is_timeout error.kind) h where
    by : (late : Bool) → FailsInTime (noted_part rose (record { moment = now; limit = limit }) moved old new) late
        → IsNotedAt now before behind old.read new.read
    by true waited = rw waited.noted (start_noted old)
    by false stopped = rw stopped (left_noted old)
  payload_since rose old new left Pending (inl waited) = rw waited.noted (start_noted old)
  payload_since rose old new left Pending (inr stopped) = rw stopped.1 (left_noted old)

  -- a read that timed out has reached its limit
  pub payload_over : (rose : Type 0) (old new : Since) (left : ℕ) (error : Error)
      → error.kind ≡ kind.ReadTimedout
      → IsTimed {T = Option (List ℕ)} (noted_part rose (record { moment = now; limit = limit }) moved old new) left
      (Ready (Err error))
      → IsOverAt now new.read limit
  payload_over rose old new left error is h =
      let waited : Waited rose (part_wait (record { moment = now; limit = limit }) moved old) new.read true =
      rw is at h in
      rw waited.noted (over_at old waited.judged)

-- what is noted of a limit behind an error
limit_failed : (now : ℕ) (since limit before behind : Option ℕ)
    (kept : Option Payload) (error : Error) (k : ErrorType) → error.kind ≡ k
    → behind ≡ limit_behind {T = Option (List ℕ)} limit before (Ready (Err error))
    → (error.kind ≡ kind.ReadTimedout → IsOverAt now since limit)
    → LimitedBy now since before behind None (refused_behind kept error)
limit_failed now since limit before behind None error kind.NoMemory is noted over = rw is (rw is at noted)
limit_failed now since limit before behind (Some payload) error kind.NoMemory is noted over =
    rw is (rw is at noted)
limit_failed now since limit before behind kept error kind.ReadTimedout is noted over =
    rw is (subst (IsOverAt now since) (sym (rw is at noted)) (over is))
limit_failed now since limit before behind kept error _ is noted over = rw is (rw is at noted)

payload_limit : {L C : Type 0} (state : L → LinkState) (old new : SessionView L C) (now : ℕ)
    (limit : Option ℕ) (payload : List ℕ) (left : ℕ) (outcome : Poll (Result (Option (List ℕ)) Error))
    → PayloadAnswer state old new payload left outcome
    → new.read_limit ≡ limit_behind limit old.read_limit outcome
    → ((error : Error) → outcome ≡ Ready (Err error) → error.kind ≡ kind.ReadTimedout
    → IsOverAt now new.body.since.read limit)
    → LimitedBy now new.body.since.read old.read_limit new.read_limit None new.body.refused
payload_limit state old new now limit payload left (Ready (Ok (Some piece))) h noted over = rw h.2 noted
payload_limit state old new now limit payload left (Ready (Ok None)) h noted over = rw h.2 noted
payload_limit state old new now limit payload left (Ready (Err error)) h noted over =
    rw h.1 (limit_failed now new.body.since.read limit old.read_limit new.read_limit
    new.body.kept error error.kind refl noted (over error refl))
payload_limit state old new now limit payload left Pending h noted over = rw h.2 noted

-- what one call that reads notes
payload_in_time : {L C : Type 0} (state : L → LinkState) (now : ℕ) (old new : SessionView L C)
    (outcome : Poll (Result (Option (List ℕ)) Error))
    → old.body.refused ≡ None → ReadsPayload state now old new outcome
    → new.read_limit ≡ limit_behind (shown old.settings.times.read) old.read_limit outcome
    → ReadsInTime state now old new
payload_in_time {L} {C} state now old new outcome none call noted =
    let limit = shown old.settings.times.read in
    let moved = nat_lt call.left (allowance old.budget) in
    let rose = Rose (state old.link).read_waits (state new.link).read_waits in
    record {
      since = payload_since now limit (state old.link).moves (state new.link).moves moved still rose
          old.body.since new.body.since call.left outcome call.timed;
      limit = rw none (payload_limit state old new now limit call.payload call.left outcome call.answer
          noted (λ error is timed_out. payload_over now limit (state old.link).moves
          (state new.link).moves moved still rose old.body.since new.body.since call.left error timed_out
          (rw is at call.timed)));
    }
  where
    still : nat_lt call.left (allowance old.budget) ≡ false → (state new.link).moves ≡ (state old.link).moves
    still is =
        let none : allowance old.budget ≤ call.left = grind (arith, nat_tests, is) in
        let counts = call.reads.received.moved.later.counts in
        omega (arith, call.reads.received.moved.most, counts.moves, none)

-- and one that answers a refusal again
pub call_in_time : {L C : Type 0} (state : L → LinkState) (now : ℕ) (old new : SessionView L C)
    (outcome : Poll (Result (Option (List ℕ)) Error))
    → IfSome old.body.refused (λ error. (outcome ≡ Ready (Err error)) × (new ≡ old))
    → IfNone old.body.refused (ReadsPayload state now old new outcome)
    → IfNone old.body.refused
    (new.read_limit ≡ limit_behind (shown old.settings.times.read) old.read_limit outcome)
    → ReadsInTime state now old new
call_in_time {L} {C} state now old new outcome again reads noted =
    by_refused old.body.refused refl again reads noted
  where
    by_refused : (o : Option Error) → old.body.refused ≡ o
        → IfSome o (λ error. (outcome ≡ Ready (Err error)) × (new ≡ old))
        → IfNone o (ReadsPayload state now old new outcome)
        → IfNone o
        (new.read_limit ≡ limit_behind (shown old.settings.times.read) old.read_limit outcome)
        → ReadsInTime state now old new
    by_refused None is again reads noted = payload_in_time state now old new outcome is reads noted
    by_refused (Some error) is again reads noted =
        subst (ReadsInTime state now old) (sym again.1) (in_time_itself state now old)
