-- Steps that read a head.
use Rattle.std.proofs.Common.{◌≡◌, ◌⊎◌, ℕ, ◌+◌, ◌≤◌, nat_lt, inl, inr, List, [], Bool, true, Option, Some, None, IfNone, IsSome, Result, Ok, Err, refl, sym, ◌∙◌, ap, subst, arith}
use Rattle.h1_server.specs.Times.{head_limit}
use Rattle.h1_app.specs.BodyTimes.{IsNotedIn}
use Rattle.h1_app.proofs.BodyTimeLemmas.{body_none, head_noted}
use Rattle.h1_app.specs.Words.{End, Given, Poll, Ready, Pending, Error, LinkState, Rose, SessionView, BodyState, allowance, Settings, Reply, Entry, Exchange, Outcome, Stage, AfterRead, EndCause, IfTold, IsSetAlike}
use Rattle.h1_application.specs.Application.{Runs}
use Rattle.h1_error.specs.declared.progress.Waiting.TheVariants as waiting
use Rattle.h1_error.specs.declared.progress.End.TheVariants as end
use Rattle.h1_server.specs.Requests.{ReadsRequest, HeadAnswer, BeginsNone}
use Rattle.h1_server.specs.declared.request.ReadRequest.{ReadRequest}
use Rattle.h1_server.specs.declared.request.ReadRequest.TheVariants as read
use Rattle.h1_server.specs.declared.request.NoRequest.{NoRequest}
use Rattle.h1_server.specs.declared.request.NoRequest.TheVariants.{Closed, IdleTimeout}
use Rattle.h1_app.specs.declared.exchange.Stage.TheVariants as stage
use Rattle.h1_app.specs.declared.exchange.Outcome.TheVariants as outcome
use Rattle.h1_app.specs.Timely.{StepsInTime}
use Rattle.h1_app.proofs.Words.{Accounted, Chain, SoundStage, IsAwaiting, Stepped, SteppedWith, OutcomeCause, FewReadsNotReady, outcome_end, rules_with}
use Rattle.h1_transcript.proofs.BehindLemmas.{read_map}
use Rattle.h1_application.proofs.ReadLemmas.{budget_none}
use Rattle.h1_app.proofs.AccountedLemmas.{told_ahead, told_lacks, accounted_received, moves_received, head_failed, all_done}

-- the step's call, at a stage that awaits a head
pub record AtHead {L C : Type 0} (state : L → LinkState) (now : ℕ) (old new : SessionView L C)
    (last : Option Entry) (answer : Poll (Result ReadRequest Error)) : Type 0 where
  pub alone : last ≡ None
  pub awaiting : IsAwaiting old
  pub reads : ReadsRequest state now old new answer

-- since when it waits
pub read_noted : {L C : Type 0} (state : L → LinkState) (now : ℕ) (old new : SessionView L C)
    (last : Option Entry) (answer : Poll (Result ReadRequest Error))
    → AtHead state now old new last answer → IsNotedIn now old.body.since.read new.body.since.read
read_noted state now old new last answer h =
    head_noted now (head_limit old.settings) (Rose (state old.link).read_waits (state new.link).read_waits)
    (nat_lt h.reads.left (allowance old.budget)) old.body.since.read new.body.since.read h.reads.left
    answer h.reads.timed

-- what is set is no matter to a session that awaits a head
awaits_set : {L C : Type 0} (old : SessionView L C) (settings : Settings) → IsSetAlike old.settings settings
    → IsAwaiting old → IsAwaiting (record old { settings = settings })
awaits_set old settings alike a = record {
  request = a.request;
  refused = a.refused;
  unwritten = a.unwritten;
  kept = a.kept;
  body_refused = a.body_refused;
  waits = a.waits;
  undrained = a.undrained;
  times = alike.times ∙ a.times;
  read_limit = a.read_limit;
}

-- where these settings were set before the call
pub at_head : {L C J : Type 0} (state : L → LinkState)
    (runs : Runs J) (now : ℕ) (old new : SessionView L C)
    (settings : Settings) (last : Option Entry) (from : Stage J) (answer : Poll (Result ReadRequest Error))
    → IsSetAlike old.settings settings → SoundStage runs old last from → from ≡ stage.Head
    → IfNone old.refused (ReadsRequest state now (record old { settings = settings }) new answer)
    → AtHead state now (record old { settings = settings }) new last answer
at_head {L} {C} state runs now old new settings last from answer alike sound at read =
    let set : SessionView L C = record old { settings = settings } in
    let s = rw at at sound in
    record {
      alone = s.0;
      awaiting = awaits_set old settings alike s.1;
      reads = subst (λ x. IfNone x (ReadsRequest state now set new answer)) s.1.refused read;
    }

-- the session still awaits a head
still_awaits : {L C : Type 0} {now : ℕ} (state : L → LinkState) (old new : SessionView L C)
    (last : Option Entry) (answer : Poll (Result ReadRequest Error))
    → (h : AtHead state now old new last answer) → BeginsNone old new h.reads.bytes
    → new.refused ≡ None → IsAwaiting new
still_awaits state old new last answer h none kept =
    let a = h.awaiting in
    record {
      request = none.request;
      refused = kept;
      unwritten = rw (ap (λ s. s.reply) h.reads.rest) a.unwritten;
      kept = ap (λ (b : BodyState). b.kept) none.body ∙ a.kept;
      body_refused = ap (λ (b : BodyState). b.refused) none.body ∙ a.body_refused;
      waits = ap (λ (b : BodyState). b.waits) none.body ∙ a.waits;
      undrained = ap (λ (b : BodyState). b.since.drain) none.body ∙ a.undrained;
      times = ap (λ (s : Settings). s.times) none.settings ∙ a.times;
      read_limit = ap (λ s. s.read_limit) h.reads.rest ∙ a.read_limit;
    }

-- the bytes that were given after the exchanges that ended, where no head was read
none_told : {L C : Type 0} (state : L → LinkState) (old new : SessionView L C) (bytes : List ℕ)
    (before : LinkState) (done : List Entry) → BeginsNone old new bytes
    → Accounted state before new done None
    → IfTold before.given (state new.link).given (AfterRead done (λ rest. rest ≡ bytes))
none_told state old new bytes before done none s =
    subst (λ xs. IfTold before.given (state new.link).given (AfterRead done (λ rest. rest ≡ xs)))
    none.received (told_ahead new done before.given (state new.link).given none.request s.read)

-- what a pending read of a head waits for
pub head_waits : {L C J : Type 0} {now : ℕ} (state : L → LinkState) (pends : J → ℕ)
    (runs : Runs J) (old new : SessionView L C)
    (last : Option Entry) (from : Stage J) → IsSome old.budget → from ≡ stage.Head
    → (h : AtHead state now old new last Pending)
    → OutcomeCause state pends runs old new None from from (outcome.Waits waiting.Read)
head_waits state pends runs old new last from some at h =
    let a = h.reads.answer in (
      subst (λ x. SoundStage runs new None x) (sym at)
          (refl, still_awaits state old new last Pending h a.0 a.1),
      (
        elim a.3 [
          | inl rose ↦ inl rose
          | inr z ↦ inr (budget_none old.budget new.budget h.reads.left some h.reads.budget z)
        ],
        λ before done s. told_lacks before (state new.link) done h.reads.bytes
            (all_done state before new done s)
            (none_told state old new h.reads.bytes before done a.0 s) a.2,
      ),
    )

none_parts : {L C : Type 0} (state : L → LinkState) (old new : SessionView L C) (bytes : List ℕ)
    (left : ℕ) (why : NoRequest)
    → HeadAnswer state old new bytes left (Ready (Ok (read.None why)))
    → BeginsNone old new bytes × (new.refused ≡ None)
    × (((state new.link).ended ≡ true) ⊎ Rose (state old.link).read_waits (state new.link).read_waits)
    × (bytes ≡ [])
none_parts state old new bytes left Closed a = (a.0, a.1, inl a.2, a.3)
none_parts state old new bytes left IdleTimeout a = (a.0, a.1, inr a.2, a.3)

-- no request comes: the link ended, or waited too long, and no byte was received
pub closed_none : {L C : Type 0} {now : ℕ} (state : L → LinkState) (old new : SessionView L C)
    (last : Option Entry) (why : NoRequest)
    → (h : AtHead state now old new last (Ready (Ok (read.None why))))
    → BeginsNone old new h.reads.bytes
closed_none state old new last why h =
    (none_parts state old new h.reads.bytes h.reads.left why h.reads.answer).0

pub closed_ends : {L C : Type 0} {now : ℕ} (state : L → LinkState) (old new : SessionView L C)
    (last : Option Entry) (why : NoRequest)
    → AtHead state now old new last (Ready (Ok (read.None why)))
    → (before : LinkState) (done : List Entry) → Accounted state before new done None
    → EndCause before (state old.link) (state new.link) done None end.Finished
closed_ends state old new last why h before done s =
    let a = none_parts state old new h.reads.bytes h.reads.left why h.reads.answer in (
      all_done state before new done s,
      a.2,
      read_map done before.given (state new.link).given (λ rest. rest ≡ h.reads.bytes)
          (λ rest. rest ≡ []) (λ rest e. e ∙ a.3)
          (none_told state old new h.reads.bytes before done a.0 s),
    )

-- a head read that failed
pub failed_ends : {L C : Type 0} {now : ℕ} (state : L → LinkState) (old new : SessionView L C)
    (last : Option Entry) (error : Error) → AtHead state now old new last (Ready (Err error))
    → (before : LinkState) (done : List Entry) → Accounted state before new done None
    → EndCause before (state old.link) (state new.link) done None (end.Failed error)
failed_ends state old new last error h before done s =
    let a = h.reads.answer in (
      a.3,
      head_failed before (state old.link) (state new.link) done h.reads.bytes error error.kind
          (all_done state before new done s)
          (none_told state old new h.reads.bytes before done a.0 s) a.2,
    )

-- a read was not ready at most once
pub none_few : {L C : Type 0} {now : ℕ} (state : L → LinkState) (old new : SessionView L C)
    (last : Option Entry) (answer : Poll (Result ReadRequest Error))
    → AtHead state now old new last answer
    → (state new.link).read_waits + 0 ≤ (state old.link).read_waits + 0 + 1
none_few state old new last answer h = let few = h.reads.few in omega (arith, few)

-- a step that begins no exchange, whole
pub none_stepped : {L C J M : Type 0} (state : L → LinkState) (pends : J → ℕ)
    (gives : Given → Reply → Type 0)
    (runs : Runs J) (chain : Chain M)
    (now : ℕ) (shutdown : Bool) (modules : List M) (x y : Exchange L J C)
    (answer : Poll (Result ReadRequest Error)) (result : Outcome)
    → (h : AtHead state now x.session y.session x.transcript.last answer)
    → BeginsNone x.session y.session h.reads.bytes → y.transcript.last ≡ x.transcript.last
    → FewReadsNotReady (state x.session.link) (state y.session.link) [] [] result
    → StepsInTime state now x.stage y.stage x.session y.session None None result
    → OutcomeCause state pends runs x.session y.session None x.stage y.stage result
    → SteppedWith state pends gives runs chain now shutdown modules x y result
none_stepped state pends gives runs chain now shutdown modules x y answer result h none same few
    timely outcome =
    let r = h.reads in
    let stepped : Stepped state pends (rules_with gives chain) runs now shutdown x y result =
    record {
      moves = moves_received state x.session y.session r.bytes r.left r.received r.budget
          (ap (λ s. s.context) r.rest);
      accounted = λ before done. rw (same, h.alone) (λ s.
          accounted_received state x.session y.session r.bytes (allowance x.session.budget) r.left
          before done r.received (ap (λ s. s.reply) r.rest) h.awaiting.request s none.received
          none.request);
      allowed = rw (same, h.alone) tt;
      kept = rw (same, h.alone) tt;
      extends = rw (same, h.alone) tt;
      begins_with = rw (same, h.alone, none.settings)
          (record { closing = refl; pipelining = refl; reuses = refl; times = refl });
      begins_in = rw (same, h.alone) tt;
      reads_not_ready = rw (same, h.alone) few;
      body = rw (same, h.alone) (body_none now x.session.body.since.read y.session.body.since.read
          (read_noted state now x.session y.session x.transcript.last answer h));
      timely = rw (same, h.alone) timely;
      outcome = rw (same, h.alone) (inl outcome);
    } in
    record {
      stepped = stepped;
      stand = rw (same, h.alone) (unless_ended (outcome_end result));
    } where
      unless_ended : (reason : Option End) → IfNone reason (Unit {0})
      unless_ended None = tt
      unless_ended (Some reason) = tt
