-- Lemmas on how long a connection waits for its link.
use Rattle.std.proofs.Common.{◌≡◌, ℕ, ◌-◌, ◌<◌, ◌≤◌, nat_lt, ◌⊎◌, inl, inr, List, Bool, true, false, Option, Some, None, IsSome, Result, Ok, Err, refl, sym, subst, arith}
use Rattle.std.proofs.lemmas.Bool.{false≢true}
use Rattle.std.proofs.lemmas.Bool.Decides.{nat_tests}
use Rattle.h1_app.specs.Words.{Poll, Ready, Pending, Error, ErrorType, End, LinkState, Rose, Moved, SessionView, Settings, Entry, Stage, Waiting, keepalive_set, allowance}
use Rattle.h1_error.specs.declared.error.ErrorType.TheVariants as kind
use Rattle.h1_error.specs.declared.progress.End.TheVariants as end
use Rattle.h1_server.specs.Requests.{HeadTimed, HeadAnswer}
use Rattle.h1_server.specs.Times.{head_deadline, new_times}
use Rattle.h1_server.specs.declared.request.ReadRequest.{ReadRequest}
use Rattle.h1_server.specs.declared.request.ReadRequest.TheVariants as read
use Rattle.h1_server.specs.declared.request.NoRequest.{NoRequest}
use Rattle.h1_server.specs.declared.request.NoRequest.TheVariants.{Closed, IdleTimeout}
use Rattle.h1_transfer.specs.Deadline as deadlines
use Rattle.h1_transfer.specs.Deadline.{Noted, Wait, is_timeout, noted_since}
use Rattle.h1_transfer.specs.declared.deadline.Deadline.{Deadline}
use Rattle.h1_application.proofs.ReadLemmas.{budget_none}
use Rattle.h1_transcript.specs.Begun.{head_time}
use Rattle.h1_app.proofs.HeadLemmas.{AtHead}
use Rattle.h1_app.specs.Pace.{rank}
use Rattle.h1_app.specs.Timely.{EndsAsTimed, FailsInTime, HasMoved, StepsInTime, head_milliseconds, noted_of, wait_at}
use Rattle.h1_app.specs.Work.{Work, untimed, work_at}
use Rattle.h1_app.proofs.Words.{MovesWithin}
use Rattle.h1_app.specs.declared.exchange.Stage.TheVariants as stage
use Rattle.h1_app.specs.declared.exchange.Outcome.TheVariants as outcome

-- whether bytes moved in a call that had this budget, of which so much is left
pub call_moved : (before now : LinkState) (gave wrote : List ℕ) (budget left : ℕ)
    → Moved before now gave wrote (budget - left) → HasMoved (nat_lt left budget) before now
call_moved before now gave wrote budget left moved = by (nat_lt left budget) refl where
  by : (test : Bool) → nat_lt left budget ≡ test → HasMoved test before now
  by true is =
      let some : left < budget = grind (arith, nat_tests, is) in
      let rose = moved.rose in omega (arith, rose, some)
  by false is =
      let none : budget ≤ left = grind (arith, nat_tests, is) in
      let most = moved.most in
      let falls = moved.later.counts in omega (arith, most, falls.moves, none)

-- the same by what was spent
pub step_moved : {L C : Type 0} (state : L → LinkState) (old new : SessionView L C)
    (m : MovesWithin state old new) → HasMoved (nat_lt 0 m.spent) (state old.link) (state new.link)
step_moved state old new m = by (nat_lt 0 m.spent) refl where
  by : (test : Bool) → nat_lt 0 m.spent ≡ test → HasMoved test (state old.link) (state new.link)
  by true is =
      let some : 0 < m.spent = grind (arith, nat_tests, is) in
      let rose = m.moved.rose in omega (arith, rose, some)
  by false is =
      let none : m.spent ≤ 0 = grind (arith, nat_tests, is) in
      let most = m.moved.most in
      let falls = m.moved.later.counts in omega (arith, most, falls.moves, none)

-- an error of another kind tells of no time, and what holds anyhow is told by each
pub never_timed : (late : Type 0) (k : ErrorType) → is_timeout k ≡ false → FailsInTime late k
never_timed late kind.ReadTimedout is = absurd (false≢true (sym is))
never_timed late kind.WriteTimedout is = absurd (false≢true (sym is))
never_timed late _ is = tt

pub where_late : (late : Type 0) (k : ErrorType) → late → FailsInTime late k
where_late late kind.ReadTimedout h = h
where_late late kind.WriteTimedout h = h
where_late late _ h = tt

-- what a call noted that failed, and one that is pending
pub told_late : (noted : Noted) (late : Type 0) → (noted.waited true → late) → (k : ErrorType)
    → deadlines.FailsInTime noted (is_timeout k) → FailsInTime late k
told_late noted late judged kind.ReadTimedout h = judged h
told_late noted late judged kind.WriteTimedout h = judged h
told_late noted late judged _ h = tt

pub told_waits : (noted : Noted) (left : ℕ) (spent : Type 0) → (left ≡ 0 → spent)
    → noted.waited false ⊎ ((left ≡ 0) × noted.stopped)
    → noted.waited false ⊎ (spent × noted.stopped)
told_waits noted left spent none (inl waited) = inl waited
told_waits noted left spent none (inr stopped) = inr (none stopped.0, stopped.1)

module _ {L C J : Type 0} (state : L → LinkState) (now : ℕ) (from to : Stage J)
    (old new : SessionView L C) (first last : Option Entry) (m : MovesWithin state old new)
    (on : rank to ≤ rank from) where
  -- a step that waits with work that has no limit
  pub untimed_waits : (what : Waiting) → work_at to last new ≡ untimed
      → StepsInTime state now from to old new first last (outcome.Waits what)
  untimed_waits what is = (
    on,
    record {
      moved = nat_lt 0 m.spent;
      counted = step_moved state old new m;
      waits = subst (λ (w : Work). (noted_of now (nat_lt 0 m.spent) (state old.link) (state new.link)
          (work_at from first old) w).waited false
          ⊎ ((new.budget ≡ Some 0) × (noted_of now (nat_lt 0 m.spent) (state old.link) (state new.link)
          (work_at from first old) w).stopped)) (sym is) (inl tt);
    },
  )

  -- a step that ends the connection for what is no time
  pub ends_anyhow : (reason : End) → ((moved : Bool) → EndsAsTimed now moved (work_at from first old)
      (work_at to last new) (state new.link) last reason)
      → StepsInTime state now from to old new first last (outcome.Ends reason)
  ends_anyhow reason ends = (
    on,
    record {
      moved = nat_lt 0 m.spent;
      counted = step_moved state old new m;
      ends = ends (nat_lt 0 m.spent);
    },
  )

  pub fails_anyhow : (error : Error) → is_timeout error.kind ≡ false
      → StepsInTime state now from to old new first last (outcome.Ends (end.Failed error))
  fails_anyhow error is = ends_anyhow (end.Failed error) (λ moved. never_timed _ error.kind is)

-- with keep-alive set for a minute, or off with the read timeout of a minute, a head has a minute
pub minute : (now : ℕ) (settings : Settings) (shutdown : Bool)
    → (keepalive_set settings (head_time shutdown)).times ≡ new_times
    → head_deadline (keepalive_set settings (head_time shutdown)) now ≡ record { moment = now; limit = Some head_milliseconds }
minute now settings true times = rw times refl
minute now settings false times = refl

-- no head is read since the link ended
closed_ended : {L C : Type 0} (state : L → LinkState) (old new : SessionView L C) (bytes : List ℕ)
    (left : ℕ) (why : NoRequest) → HeadAnswer state old new bytes left (Ready (Ok (read.None why)))
    → why ≡ Closed → (state new.link).ended ≡ true
closed_ended state old new bytes left Closed a is = a.2
closed_ended state old new bytes left IdleTimeout a is = absurd cc

-- what a step that reads a head leaves of its wait
module _ {L C J : Type 0} (state : L → LinkState) (now : ℕ) (old new : SessionView L C) (last : Option Entry)
    (from to : Stage J) (deadline : head_deadline old.settings now ≡ record { moment = now; limit = Some head_milliseconds })
    (some : IsSome old.budget) (at : from ≡ stage.Head) (still : to ≡ stage.Head) where
  abbrev minute_wait : ℕ → Wait
  minute_wait left = wait_at now (Some head_milliseconds) (nat_lt left (allowance old.budget)) old.body.since.read

  abbrev noted : ℕ → Noted
  noted left = noted_since (Rose (state old.link).read_waits (state new.link).read_waits) (minute_wait left)
      new.body.since.read

  abbrev Told : ℕ → Poll (Result ReadRequest Error) → Type 0
  Told left answer = HeadTimed (noted left) left answer

  told : (answer : Poll (Result ReadRequest Error)) (h : AtHead state now old new last answer)
      → Told h.reads.left answer
  told answer h = subst (λ (d : Deadline). HeadTimed
      (noted_since (Rose (state old.link).read_waits (state new.link).read_waits) (record {
        deadline = d;
        moved = nat_lt h.reads.left (allowance old.budget);
        since = old.body.since.read;
      }) new.body.since.read) h.reads.left answer) deadline h.reads.timed

  counted : (answer : Poll (Result ReadRequest Error)) (h : AtHead state now old new last answer)
      → HasMoved (nat_lt h.reads.left (allowance old.budget)) (state old.link) (state new.link)
  counted answer h = call_moved (state old.link) (state new.link) h.reads.received.piece _ (allowance old.budget)
      h.reads.left h.reads.received.moved

  pub waits_in_time : (what : Waiting) → AtHead state now old new last Pending
      → StepsInTime state now from to old new None None (outcome.Waits what)
  waits_in_time what h = rw (at, still) (
    omega arith,
    record {
      moved = nat_lt h.reads.left (allowance old.budget);
      counted = counted Pending h;
      waits = told_waits (noted h.reads.left) h.reads.left (new.budget ≡ Some 0)
          (budget_none old.budget new.budget h.reads.left some h.reads.budget) (told Pending h);
    },
  )

  pub none_in_time : (why : NoRequest) → AtHead state now old new last (Ready (Ok (read.None why)))
      → StepsInTime state now from to old new None None (outcome.Ends end.Finished)
  none_in_time why h = rw (at, still) (
    omega arith,
    record {
      moved = nat_lt h.reads.left (allowance old.budget);
      counted = counted (Ready (Ok (read.None why))) h;
      ends = by why (told (Ready (Ok (read.None why))) h)
          (closed_ended state old new h.reads.bytes h.reads.left why h.reads.answer);
    },
  ) where
    by : (why : NoRequest) → Told h.reads.left (Ready (Ok (read.None why)))
        → (why ≡ Closed → (state new.link).ended ≡ true)
        → ((state new.link).ended ≡ true) ⊎ (deadlines.is_over (minute_wait h.reads.left) ≡ true)
    by Closed timed closed = inl (closed refl)
    by IdleTimeout timed closed = inr timed.judged

  pub fails_in_time : (error : Error) → AtHead state now old new last (Ready (Err error))
      → StepsInTime state now from to old new None None (outcome.Ends (end.Failed error))
  fails_in_time error h = rw (at, still) (
    omega arith,
    record {
      moved = nat_lt h.reads.left (allowance old.budget);
      counted = counted (Ready (Err error)) h;
      ends = told_late (noted h.reads.left) (deadlines.is_over (minute_wait h.reads.left) ≡ true)
          (λ waited. waited.judged) error.kind (told (Ready (Err error)) h);
    },
  )
