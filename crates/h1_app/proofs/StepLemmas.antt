-- What a step of the exchange that is last leaves, whole.
use Rattle.std.proofs.Common.{◌⊎◌, Bool, IfSome, IsSome, List, Ok, inl, ◌<◌, None, Option, Some, [], ap, arith, refl, true, ℕ, ◌∷◌, ◌≡◌}
use Rattle.h1_app.specs.Words.{Rules, Entry, Exchange, Grows, IsAllowed, IsDated, IsLawful, LinkState, Outcome, Reply, ResponseView, SessionView, YEAR_10000, replies}
use Rattle.h1_application.specs.Application.{Runs}
use Rattle.h1_transcript.proofs.GrowthLemmas.{grows_same}
use Rattle.h1_app.specs.BodyTimes.{BodyInTime}
use Rattle.h1_app.specs.Timely.{StepsInTime}
use Rattle.h1_app.proofs.BodyTimeLemmas.{body_itself}
use Rattle.h1_app.proofs.ReplyLemmas.{at_some, moves_none}
use Rattle.h1_app.proofs.Words.{Accounted, FewReadsNotReady, IsKept, MovesWithin, OutcomeCause, SoundStage, StepReady, StepRefuses, Stepped}
use Rattle.h1_app.specs.declared.exchange.Outcome.TheVariants as outcome

-- what holds before a step, of an exchange that is allowed so far
pub record AllowedReady {L C J : Type 0} (rules : Rules)
    (runs : Runs J) (now : ℕ)
    (x : Exchange L J C) : Type 0 where
  pub sound : SoundStage runs x.session x.transcript.last x.stage
  pub allowed : IfSome x.transcript.last (IsAllowed rules)
  pub kept : IfSome x.transcript.last (IsKept x.session)
  pub budget : IsSome x.session.budget
  pub moment : now < YEAR_10000

pub allowed_ready : {L C J : Type 0} (rules : Rules)
    (runs : Runs J) (now : ℕ)
    (x : Exchange L J C) → StepReady runs now x → IfSome x.transcript.last (IsAllowed rules)
    → AllowedReady rules runs now x
allowed_ready rules runs now x ready allowed = record {
  sound = ready.sound;
  allowed = allowed;
  kept = ready.kept;
  budget = ready.budget;
  moment = ready.moment;
}

-- the exchange that is last goes on, or a filter refused
pub filtered_stepped : {L C J : Type 0} (state : L → LinkState) (pends : J → ℕ)
    (rules : Rules)
    (runs : Runs J)
    (now : ℕ) (shutdown : Bool) (x y : Exchange L J C) (e f : Entry) (result : Outcome)
    → x.transcript.last ≡ Some e → y.transcript.last ≡ Some f
    → MovesWithin state x.session y.session
    → ((before : LinkState) (done : List Entry) → Accounted state before x.session done
    (Some e) → Accounted state before y.session done (Some f))
    → IsAllowed rules f → IsKept y.session f → Grows now (state x.session.link)
    (state y.session.link) e f
    → FewReadsNotReady (state x.session.link) (state y.session.link) (e ∷ []) (f ∷ []) result
    → BodyInTime now x.session.body.since.read y.session.body.since.read (Some e) (Some f)
    → StepsInTime state now x.stage y.stage x.session y.session x.transcript.last (Some f) result
    → OutcomeCause state pends runs x.session y.session (Some f) x.stage y.stage result
    ⊎ StepRefuses rules.filters y.session (Some f) result
    → Stepped state pends rules runs now shutdown x y result
filtered_stepped state pends rules runs now shutdown x y e f result was is went since allowed kept
    grows few body timely outcome = record {
      moves = went;
      accounted = λ before done s. rw is (since before done (rw was at s));
      allowed = rw is allowed;
      kept = rw is kept;
      extends = rw (was, is) grows;
      begins_with = rw was tt;
      begins_in = rw was tt;
      reads_not_ready = rw (was, is) few;
      body = rw (was, is) body;
      timely = rw is timely;
      outcome = rw is outcome;
    }

-- the same where none did
pub grown_stepped : {L C J : Type 0} (state : L → LinkState) (pends : J → ℕ)
    (rules : Rules)
    (runs : Runs J)
    (now : ℕ) (shutdown : Bool) (x y : Exchange L J C) (e f : Entry) (result : Outcome)
    → x.transcript.last ≡ Some e → y.transcript.last ≡ Some f
    → MovesWithin state x.session y.session
    → ((before : LinkState) (done : List Entry) → Accounted state before x.session done
    (Some e) → Accounted state before y.session done (Some f))
    → IsAllowed rules f → IsKept y.session f → Grows now (state x.session.link)
    (state y.session.link) e f
    → FewReadsNotReady (state x.session.link) (state y.session.link) (e ∷ []) (f ∷ []) result
    → BodyInTime now x.session.body.since.read y.session.body.since.read (Some e) (Some f)
    → StepsInTime state now x.stage y.stage x.session y.session x.transcript.last (Some f) result
    → OutcomeCause state pends runs x.session y.session (Some f) x.stage y.stage result
    → Stepped state pends rules runs now shutdown x y result
grown_stepped state pends rules runs now shutdown x y e f result was is went since allowed kept
    grows few body timely outcome =
    filtered_stepped state pends rules runs now shutdown x y e f result was is went since allowed
    kept grows few body timely (inl outcome)

-- no read was pending, and the reply stays
pub unread_few : (old now : LinkState) (e f : Entry) (result : Outcome) → f.reply ≡ e.reply
    → now.read_waits ≡ old.read_waits → FewReadsNotReady old now (e ∷ []) (f ∷ []) result
unread_few old now e f outcome.Done same unread =
    omega (arith, unread, ap (λ reply. replies (record e { reply = reply } ∷ [])) same)
unread_few old now e f _ same unread =
    omega (arith, unread, ap (λ reply. replies (record e { reply = reply } ∷ [])) same)

-- a reply of which more is written is allowed as before
pub allowed_written : (rules : Rules) (e : Entry) (body : Option (List ℕ))
    (owed : Bool) (written : ℕ) → IsAllowed rules e
    → IfSome body (λ sent. (reply : Reply) × (e.reply ≡ Some reply)
    × (rules.filters.body e.head reply ≡ Ok sent))
    → (owed ≡ true → e.owed ≡ true)
    → IsAllowed rules (record e { sent_body = body; owed = owed; written = written })
allowed_written rules e body owed written a sent still = record {
  filtered = a.filtered;
  reply = a.reply;
  sent_head = dated e.sent_head a.sent_head;
  sent_body = sent;
  handed = a.handed;
  bound = a.bound;
  reuses = a.reuses;
  owed = λ is. a.owed (still is);
  limit = a.limit;
} where
  dated : (head : Option ResponseView) → IfSome head
      (λ header. (reply : Reply) × (e.reply ≡ Some reply)
      × (rules.filters.header e.head reply ≡ Ok header)
      × IsLawful header × IsDated e)
      → IfSome head
      (λ header. (reply : Reply) × (e.reply ≡ Some reply)
      × (rules.filters.header e.head reply ≡ Ok header) × IsLawful header
      × IsDated (record e { sent_body = body; owed = owed; written = written }))
  dated None h = tt
  dated (Some header)
      h = (h.0, h.1, h.2, h.3, record { date = h.4.date; limit = h.4.limit; keep = h.4.keep })

-- a step that changes nothing but its stage, or in which a filter refused
pub kept_stepped : {L C J : Type 0} (state : L → LinkState) (pends : J → ℕ)
    (rules : Rules)
    (runs : Runs J)
    (now : ℕ) (shutdown : Bool) (x y : Exchange L J C) (e : Entry) (result : Outcome)
    → AllowedReady rules runs now x → x.transcript.last ≡ Some e → y.transcript.last ≡ Some e
    → y.session ≡ x.session
    → (MovesWithin state x.session y.session
    → StepsInTime state now x.stage y.stage x.session y.session x.transcript.last (Some e) result)
    → OutcomeCause state pends runs x.session y.session (Some e) x.stage y.stage result
    ⊎ StepRefuses rules.filters y.session (Some e) result
    → Stepped state pends rules runs now shutdown x y result
kept_stepped {L} {C} {J} state pends rules runs now shutdown x y e result ready was is same timely
    outcome =
    let moves = moves_none state x.session y.session (ap (λ (s : SessionView L C). s.link) same)
    (ap (λ (s : SessionView L C). s.budget) same) (ap (λ (s : SessionView L C). s.context) same) in
    filtered_stepped state pends rules runs now shutdown x y e e result was is moves
    (λ before done s. rw same s) (at_some (IsAllowed rules) x.transcript.last e was ready.allowed)
    (rw same (at_some (IsKept x.session) x.transcript.last e was ready.kept))
    (grows_same now (state x.session.link) (state y.session.link) e)
    (unread_few (state x.session.link) (state y.session.link) e e result refl
    (ap (λ (s : SessionView L C). (state s.link).read_waits) same))
    (rw same (body_itself now x.session.body.since.read (Some e))) (timely moves) outcome

-- the same where none did
pub unchanged_stepped : {L C J : Type 0} (state : L → LinkState) (pends : J → ℕ)
    (rules : Rules)
    (runs : Runs J)
    (now : ℕ) (shutdown : Bool) (x y : Exchange L J C) (e : Entry) (result : Outcome)
    → AllowedReady rules runs now x → x.transcript.last ≡ Some e → y.transcript.last ≡ Some e
    → y.session ≡ x.session
    → (MovesWithin state x.session y.session
    → StepsInTime state now x.stage y.stage x.session y.session x.transcript.last (Some e) result)
    → OutcomeCause state pends runs x.session y.session (Some e) x.stage y.stage result
    → Stepped state pends rules runs now shutdown x y result
unchanged_stepped state pends rules runs now shutdown x y e result ready was is same timely
    outcome =
    kept_stepped state pends rules runs now shutdown x y e result ready was is same timely
    (inl outcome)
