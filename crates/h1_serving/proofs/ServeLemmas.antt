-- A connection that is served, from poll to poll.
use Rattle.std.proofs.Common.{◌≡◌, ◌⊎◌, ℕ, ◌+◌, ◌/◌, ◌≤◌, inl, inr, true, List, [], ◌∷◌, ◌++◌, false, option_to_list, Option, Some, None, IfSome, IfNone, refl, sym, ◌∙◌, ap, subst, arith}
use Rattle.std.specs.List.{AllByRecursion}
use Rattle.h1_error.specs.declared.error.Error.{Error}
use Rattle.h1_error.specs.declared.error.ErrorType.{ErrorType}
use Rattle.h1_error.specs.declared.error.ErrorType.TheVariants as kind
use Rattle.h1_error.specs.declared.progress.End.{End}
use Rattle.h1_error.specs.declared.progress.End.TheVariants as end
use Rattle.h1_error.specs.declared.progress.Progress.{Progress}
use Rattle.h1_error.specs.declared.progress.Progress.TheVariants as progress
use Rattle.h1_link.specs.Counts.{Rose}
use Rattle.h1_link.specs.Later.{Later}
use Rattle.h1_link.specs.LinkState.{LinkState}
use Rattle.h1_link.proofs.Laters.{later_itself, rose_read_faults, rose_read_waits}
use Rattle.h1_head.specs.Views.{ResponseView}
use Rattle.h1_transcript.specs.Refusals.{EndsBy}
use Rattle.h1_transcript.specs.Rules.{Filters, Rules}
use Rattle.h1_transcript.specs.Entry.{Entry}
use Rattle.h1_transcript.specs.Agrees.{Agrees}
use Rattle.h1_transcript.specs.Ends.{EndCause, FailureCause, StopsLast}
use Rattle.h1_transcript.specs.Growth.{Stays, DatedAt, RoseFor, RefusedIn, Grows, IsBegun, Extends}
use Rattle.h1_app.specs.Accounted.{Accounted}
use Rattle.h1_app.specs.Causes.{Cause}
use Rattle.h1_app.specs.Timely.{IsTimely}
use Rattle.h1_app.specs.View.{View, entries, work_of}
use Rattle.h1_serving.specs.Served.{IsUnpolled, KeptInCall, LeavesInCall, MadePolls, LeavesByPolls, BeganInCall, WaitedBy, WaitsFrom, AnswersBy, AnswersInTime}
use Rattle.h1_serving.proofs.SinceLemmas.{waits_on}
use Rattle.h1_serving.proofs.WaitLemmas.{PollLeaves, at_none, leaves_none, leaves_on, waited_on, waited_none, waits_in_call}

-- what the exchanges are, they are over a longer stretch
refused_wide : (a b c d : LinkState) (o : Option Error) → Later a b → Later c d
    → RefusedIn b c None o → RefusedIn a d None o
refused_wide a b c d None low high h = tt
refused_wide a b c d (Some error) low high h = by error.kind h where
  by : (k : ErrorType) → RoseFor b c k → RoseFor a d k
  by kind.ReadError h = rose_read_faults 1 a b c d low h high
  by kind.ReadTimedout h = rose_read_waits 1 a b c d low h high
  by _ h = tt

refused_grown : (a b c : LinkState) (old new : Option Error) → Later a b → Later b c
    → RefusedIn a b None old
    → Stays old new → RefusedIn b c old new → RefusedIn a c None new
refused_grown a b c None new first second was stays h =
    refused_wide a b c c new first (later_itself c) h
refused_grown a b c (Some error) new first second was stays h =
    subst (RefusedIn a c None) (sym stays)
    (refused_wide a a b c (Some error) (later_itself a) second was)

abbrev DatedIn : ℕ → ℕ → Entry → Option ResponseView → Type 0
DatedIn first last e head =
    IfSome head (λ header. (now : ℕ) × (first ≤ now) × (now ≤ last) × (e.date ≡ now / 1000))

dated_now : (first now : ℕ) (e : Entry) (head : Option ResponseView) → first ≤ now
    → IfSome head (λ header. e.date ≡ now / 1000) → DatedIn first now e head
dated_now first now e None low h = tt
dated_now first now e (Some header) low h = (now, low, omega arith, h)

dated_kept : (first mid now : ℕ) (old new : Entry) (head : Option ResponseView)
    (header : ResponseView) → mid ≤ now
    → new.date ≡ old.date → DatedIn first mid old (Some header) → DatedIn first now new head
dated_kept first mid now old new None header less same h = tt
dated_kept first mid now old new (Some sent) header less same h =
    (h.0, h.1, omega (arith, h.2, less), same ∙ h.3)

dated_grown : (first mid now : ℕ) (old new : Entry) (head : Option ResponseView)
    → old.sent_head ≡ head → first ≤ mid → mid ≤ now
    → DatedIn first mid old head → DatedAt now head old new → DatedIn first now new new.sent_head
dated_grown first mid now old new None is low high was h =
    dated_now first now new new.sent_head (omega (arith, low, high)) h
dated_grown first mid now old new (Some header) is low high was h =
    dated_kept first mid now old new new.sent_head header high h.0 was

served_wide : (first mid now : ℕ) (a b c : LinkState) (e : Entry) → mid ≤ now → Later b c
    → BeganInCall first mid a b e → BeganInCall first now a c e
served_wide first mid now a b c e high later s = record {
  began = s.began;
  dated = wide e.sent_head s.dated;
  refused = refused_wide a a b c e.body_error (later_itself a) later s.refused;
}
  where
    wide : (head : Option ResponseView) → DatedIn first mid e head → DatedIn first now e head
    wide None h = tt
    wide (Some header) h = (h.0, h.1, omega (arith, h.2, high), h.3)

served_grown : (first mid now : ℕ) (a b c : LinkState) (old new : Entry) → first ≤ mid → mid ≤ now
    → Later a b → Later b c
    → BeganInCall first mid a b old → Grows now b c old new → BeganInCall first now a c new
served_grown first mid now a b c old new low high one two s g = record {
  began = ap (λ x. x.keep_off) g.began ∙ s.began;
  dated = dated_grown first mid now old new old.sent_head refl low high s.dated g.dated;
  refused =
      refused_grown a b c old.body_error new.body_error one two s.refused g.body_error g.refused;
}

served_begun : (first now : ℕ) (a b c : LinkState) (es : List Entry) → first ≤ now → Later a b
    → AllByRecursion (IsBegun now false b c) es → AllByRecursion (BeganInCall first now a c) es
served_begun first now a b c [] low one h = tt
served_begun first now a b c (e ∷ more) low one h = (
  record {
    began = h.0.keep_off;
    dated = dated_now first now e e.sent_head low h.0.dated;
    refused = refused_wide a b c c e.body_error one (later_itself c) h.0.refused;
  },
  served_begun first now a b c more low one h.1,
)

served_on : (first mid now : ℕ) (a b c : LinkState) (old new : List Entry) → first ≤ mid → mid ≤ now
    → Later a b → Later b c
    → AllByRecursion (BeganInCall first mid a b) old → Extends now false b c old new
    → AllByRecursion (BeganInCall first now a c) new
served_on first mid now a b c [] new low high one two s h =
    served_begun first now a b c new (omega (arith, low, high)) one h
served_on first mid now a b c (e ∷ []) [] low high one two s h = absurd h
served_on first mid now a b c (e ∷ []) (n ∷ more) low high one two s h = (
  served_grown first mid now a b c e n low high one two s.0 h.0,
  served_begun first now a b c
      more (omega (arith, low, high)) one h.1,
)
served_on first mid now a b c (e ∷ f ∷ later) [] low high one two s h = absurd h
served_on first mid now a b c (e ∷ f ∷ later) (n ∷ more) low high one two s h = (
  subst (BeganInCall first now a c) (sym h.0) (served_wide first mid now a b c e high two s.0),
  served_on first mid now a b c (f ∷ later) more low high one two s.1 h.1,
)

-- an end that has its cause in the last poll has it in the whole call
stops_in_call : (before now : LinkState) (done : List Entry) (e : Entry) (error : Error)
    (P Q : Type 0) → (P → Q)
    → StopsLast before now done e error P → StopsLast before now done e error Q
stops_in_call before now done e error P Q goes (inl ends) = inl ends
stops_in_call before now done e error P Q goes (inr met) = inr (met.0, met.1, goes met.2)

fails_in_call : (before a b c : LinkState) (done : List Entry) (last : Option Entry) (error : Error)
    (why : ErrorType) → Later a b
    → FailureCause before b c done last error why → FailureCause before a c done last error why
fails_in_call before a b c done last error (kind.InvalidHTTPHeader fault) later h = h
fails_in_call before a b c done last error kind.ConnectionClosed later h = h
fails_in_call before a b c done last error kind.InvalidBody later h = h
fails_in_call before a b c done last error kind.ContentTooLarge later h = h
fails_in_call before a b c done last error kind.ReadError later (inl h) =
    inl (h.0, (let rose = h.1 in omega (arith, rose, later.counts.read_faults)), h.2)
fails_in_call before a b c done None error kind.ReadError later (inr h) = absurd h
fails_in_call before a b c done (Some e) error kind.ReadError later (inr h) =
    inr (
      stops_in_call before c done e error (Rose b.read_faults c.read_faults)
          (Rose a.read_faults c.read_faults)
          (λ rose. omega (arith, rose, later.counts.read_faults)) h.0,
      h.1,
    )
fails_in_call before a b c done last error kind.ReadTimedout later (inl h) =
    inl ((let rose = h.0 in omega (arith, rose, later.counts.read_waits)), h.1, h.2)
fails_in_call before a b c done None error kind.ReadTimedout later (inr h) = absurd h
fails_in_call before a b c done (Some e) error kind.ReadTimedout later (inr h) =
    inr (
      stops_in_call before c done e error (Rose b.read_waits c.read_waits)
          (Rose a.read_waits c.read_waits)
          (λ rose. omega (arith, rose, later.counts.read_waits)) h.0,
      h.1,
    )
fails_in_call before a b c done last error kind.WriteTimedout later h =
    ((let rose = h.0 in omega (arith, rose, later.counts.write_waits)), h.1)
fails_in_call before a b c done last error kind.WriteError later h =
    omega (arith, h, later.counts.write_faults)
fails_in_call before a b c done last error kind.PrematureBodyEnd later h = h
fails_in_call before a b c done last error kind.NoMemory later h = tt
fails_in_call before a b c done last error _ later h = h

ends_in_call : (before a b c : LinkState) (done : List Entry) (last : Option Entry) (reason : End)
    → Later a b
    → EndCause before b c done last reason → EndCause before a c done last reason
ends_in_call before a b c done last end.Finished later h = (h.0, by h.1, h.2) where
  by : (c.ended ≡ true) ⊎ Rose b.read_waits c.read_waits → (c.ended ≡ true) ⊎ Rose a.read_waits c.read_waits
  by (inl ended) = inl ended
  by (inr rose) = inr (omega (arith, rose, later.counts.read_waits))
ends_in_call before a b c done last end.NotKept later h = h
ends_in_call before a b c done last end.Overread later h = h
ends_in_call before a b c done last (end.Failed error) later h =
    (h.0, fails_in_call before a b c done last error error.kind later h.1)

-- an end of the last poll, for a cause of its own or for a refusal, is one of the whole call
stops_by : (filters : Filters) (before a b c : LinkState) (done : List Entry) (last : Option Entry)
    (reason : End) → Later a b → EndsBy filters before b c done last reason
    → EndsBy filters before a c done last reason
stops_by filters before a b c done last reason later (inl h) =
    inl (ends_in_call before a b c done last reason later h)
stops_by filters before a b c done last reason later (inr refused) = inr refused

-- one poll
pub record IsPoll {L C A J : Type 0} (rules : A → Rules) (state : L → LinkState)
    (same_plan : L → L → Type 0) (begins : J → Type 0) (pends : J → ℕ) (now : ℕ)
    (from to : View L C A J) (answer : Progress) : Type 0 where
  pub app : (to.served ≡ from.served) × (to.terms ≡ from.terms)
  pub later : Later (state from.session.link) (state to.session.link)
  pub leaves : PollLeaves state from to answer
  pub plan : same_plan from.session.link to.session.link
  pub accounted : (before : LinkState) → Accounted state before from.session from.done from.last
      → Accounted state before to.session to.done to.last
  pub agrees : (before : LinkState) → Accounted state before from.session from.done from.last
      → Agrees (rules to.served) to.terms before (state to.session.link) (entries to)
  pub extends : Extends now false (state from.session.link) (state to.session.link) (entries from)
      (entries to)
  pub cause : IfNone from.end ((before : LinkState)
      → Accounted state before from.session from.done from.last
      → Cause (rules to.served).filters state begins pends before from to answer)
  pub timely : IfNone from.end (IsTimely state now from to answer)

-- one poll at the moment that the clock told
pub poll_of : {L C A J : Type 0} {rules : A → Rules} {state : L → LinkState}
    {same_plan : L → L → Type 0} {begins : J → Type 0} {pends : J → ℕ} {told now : ℕ}
    {from to : View L C A J} {answer : Progress}
    → told ≡ now → (to.served ≡ from.served) × (to.terms ≡ from.terms)
    → Later (state from.session.link) (state to.session.link)
    → PollLeaves state from to answer → same_plan from.session.link to.session.link
    → ((before : LinkState) → Accounted state before from.session from.done from.last
    → Accounted state before to.session to.done to.last)
    → ((before : LinkState) → Accounted state before from.session from.done from.last
    → Agrees (rules to.served) to.terms before (state to.session.link) (entries to))
    → Extends told false (state from.session.link) (state to.session.link) (entries from)
    (entries to)
    → IfNone from.end ((before : LinkState)
    → Accounted state before from.session from.done from.last
    → Cause (rules to.served).filters state begins pends before from to answer)
    → IfNone from.end (IsTimely state told from to answer)
    → IsPoll rules state same_plan begins pends now from to answer
poll_of {state = state} {from = from} {to = to} {answer = answer} at
    app later leaves plan accounted agrees extends cause timely = record {
      app = app;
      later = later;
      leaves = leaves;
      plan = plan;
      accounted = accounted;
      agrees = agrees;
      extends = subst (λ now. Extends now false (state from.session.link) (state to.session.link)
          (entries from) (entries to)) at extends;
      cause = cause;
      timely = subst (λ now. IfNone from.end (IsTimely state now from to answer)) at timely;
    }

-- so many polls were made, and all waited
pub record IsServing {L C A J : Type 0} (state : L → LinkState) (same_plan : L → L → Type 0)
    (pends : J → ℕ) (polls first now : ℕ)
    (from to : View L C A J) : Type 0 where
  pub kept : KeptInCall same_plan first now from to
  pub leaves : LeavesInCall polls (state from.session.link) (state to.session.link) (entries to)
      to.end
  pub accounted : (before : LinkState) → Accounted state before from.session from.done from.last
      → Accounted state before to.session to.done to.last
  pub served : AllByRecursion
      (BeganInCall first now (state from.session.link) (state to.session.link))
      (entries to)
  pub alive : (before : LinkState) → Accounted state before from.session from.done from.last
      → to.end ≡ None
  pub waited : (before : LinkState) → Accounted state before from.session from.done from.last
      → WaitedBy pends polls (state from.session.link) (state to.session.link)
  pub waits : (before : LinkState) → Accounted state before from.session from.done from.last
      → WaitsFrom first (work_of to)

-- what the call gives after its last poll
pub record IsCall {L C A J : Type 0} (rules : A → Rules) (state : L → LinkState)
    (same_plan : L → L → Type 0) (pends : J → ℕ) (polls asked asked' first now : ℕ)
    (from to : View L C A J) (answer : Progress) : Type 0 where
  pub kept : KeptInCall same_plan first now from to
  pub leaves : LeavesByPolls polls asked asked' (state from.session.link) (state to.session.link)
      (entries to) to.end answer
  pub accounted : (before : LinkState) → Accounted state before from.session from.done from.last
      → Accounted state before to.session to.done to.last
  pub agrees : (before : LinkState) → Accounted state before from.session from.done from.last
      → Agrees (rules to.served) to.terms before (state to.session.link) (entries to)
  pub served : AllByRecursion
      (BeganInCall first now (state from.session.link) (state to.session.link))
      (entries to)
  pub answers : (before : LinkState) → Accounted state before from.session from.done from.last
      → AnswersBy (rules to.served).filters state pends polls before (state from.session.link) to
      answer
  pub timely : (before : LinkState) → Accounted state before from.session from.done from.last
      → AnswersInTime state first now from to answer

-- a poll that waits
abbrev pub IsWaiting : Progress → Type 0
IsWaiting (progress.Pending what) = Unit {0}
IsWaiting (progress.Ready reason) = ⊥

-- no exchange was begun
no_entries : {L C A J : Type 0} (view : View L C A J) → IsUnpolled view → entries view ≡ []
no_entries view h =
    ap (λ (es : List Entry). es ++ option_to_list view.last) h.done ∙ ap option_to_list h.last

-- before the first poll
pub serving_none : {L C A J : Type 0} (state : L → LinkState) (same_plan : L → L → Type 0)
    (pends : J → ℕ) (first : ℕ) (from : View L C A J)
    → same_plan from.session.link from.session.link → IsUnpolled from
    → IsServing state same_plan pends 0 first first from from
serving_none state same_plan pends first from plan new = record {
  kept = record { served = refl; terms = refl; plan = plan; clock = omega arith };
  leaves = subst (LeavesInCall 0 (state from.session.link) (state from.session.link) (entries from))
      (sym new.end) (leaves_none (state from.session.link) (entries from));
  accounted = λ before h. h;
  served = subst
      (AllByRecursion (BeganInCall first first (state from.session.link) (state from.session.link)))
      (sym (no_entries from new)) tt;
  alive = λ before h. new.end;
  waited = λ before h. waited_none pends (state from.session.link)
      (later_itself (state from.session.link));
  waits = λ before h. subst (WaitsFrom first) (sym new.work) tt;
}

-- what stays after one poll more
kept_on : {L C A J : Type 0} {rules : A → Rules} {state : L → LinkState}
    {same_plan : L → L → Type 0} {begins : J → Type 0} {pends : J → ℕ}
    {polls first mid now : ℕ} {from at to : View L C A J} {answer : Progress}
    → ((a b c : L) → same_plan a b → same_plan b c → same_plan a c) → mid ≤ now
    → IsServing state same_plan pends polls first mid from at
    → IsPoll rules state same_plan begins pends now at to answer
    → KeptInCall same_plan first now from to
kept_on {from = from} {at = at} {to = to} plan_on high s p = record {
  served = p.app.0 ∙ s.kept.served;
  terms = p.app.1 ∙ s.kept.terms;
  plan = plan_on from.session.link at.session.link to.session.link s.kept.plan p.plan;
  clock = omega (arith, s.kept.clock, high);
}

cause_of : {L C A J : Type 0} (rules : A → Rules) (state : L → LinkState)
    (same_plan : L → L → Type 0) (begins : J → Type 0) (pends : J → ℕ) (polls first mid now : ℕ)
    (from at to : View L C A J) (answer : Progress)
    → IsServing state same_plan pends polls first mid from at
    → IsPoll rules state same_plan begins pends now at to answer
    → (before : LinkState) → Accounted state before from.session from.done from.last
    → Cause (rules to.served).filters state begins pends before at to answer
cause_of rules state same_plan begins pends polls first mid now from at to answer s p before h =
    let asked =
    at_none at.end ((before : LinkState) → Accounted state before at.session at.done at.last
    → Cause (rules to.served).filters state begins pends before at to answer) (s.alive before h)
    p.cause in
    asked before (s.accounted before h)

pub waiting_of : (answer : Progress) → ((reason : End) → answer ≡ progress.Ready reason → ⊥)
    → IsWaiting answer
waiting_of (progress.Pending what) never = tt
waiting_of (progress.Ready reason) never = never reason refl

-- an answer that is an end waits for nothing
pub never_waits : (answer : Progress) (reason : End) → answer ≡ progress.Ready reason
    → IsWaiting answer → ⊥
never_waits answer reason is waits = subst IsWaiting is waits

timely_of : {L C A J : Type 0} (rules : A → Rules) (state : L → LinkState)
    (same_plan : L → L → Type 0) (begins : J → Type 0) (pends : J → ℕ) (polls first mid now : ℕ)
    (from at to : View L C A J) (answer : Progress)
    → IsServing state same_plan pends polls first mid from at
    → IsPoll rules state same_plan begins pends now at to answer
    → (before : LinkState) → Accounted state before from.session from.done from.last
    → IsTimely state now at to answer
timely_of rules state same_plan begins pends polls first mid now from at to answer s p before h =
    at_none at.end (IsTimely state now at to answer) (s.alive before h) p.timely

-- after one poll more that waited
pub serving_on : {L C A J : Type 0} (rules : A → Rules) (state : L → LinkState)
    (same_plan : L → L → Type 0) (begins : J → Type 0) (pends : J → ℕ) (polls first mid now : ℕ)
    (from at to : View L C A J) (answer : Progress)
    → ((a b c : L) → same_plan a b → same_plan b c → same_plan a c) → mid ≤ now
    → IsServing state same_plan pends polls first mid from at
    → IsPoll rules state same_plan begins pends now at to answer
    → IsWaiting answer → IsServing state same_plan pends (polls + 1) first now from to
serving_on rules state same_plan begins pends polls first mid now from at to
    (progress.Ready reason) plan_on high s p waits = absurd waits
serving_on rules state same_plan begins pends polls first mid now from at to
    (progress.Pending what) plan_on high s p waits = record {
      kept = kept_on plan_on high s p;
      leaves = leaves_on state polls (polls + 1) now (state from.session.link) at to
          (progress.Pending what) (omega arith) s.leaves p.later p.extends p.leaves;
      accounted = λ before h. p.accounted before (s.accounted before h);
      served = served_on first mid now (state from.session.link) (state at.session.link)
          (state to.session.link) (entries at) (entries to)
          s.kept.clock high s.leaves.later p.later s.served p.extends;
      alive = λ before h.
          (cause_of rules state same_plan begins pends polls first mid now from at to
          (progress.Pending what) s p before h).0;
      waited = λ before h. waited_on begins pends polls before (state from.session.link)
          (state at.session.link) (state to.session.link) at to what
          s.leaves.later p.later (s.waited before h)
          (cause_of rules state same_plan begins pends polls first mid now from at to
          (progress.Pending what) s p before h).1;
      waits = λ before h. waits_on state first now at to what (omega (arith, s.kept.clock, high))
          (s.waits before h)
          (timely_of rules state same_plan begins pends polls first mid now from at to
          (progress.Pending what) s p before h);
    }

-- the answer of the last poll is that of the call
answers_of : {L C A J : Type 0} (rules : A → Rules) (state : L → LinkState)
    (same_plan : L → L → Type 0) (begins : J → Type 0) (pends : J → ℕ)
    (polls most first mid now : ℕ)
    (from at to : View L C A J) (answer : Progress) → (IsWaiting answer → polls + 1 ≡ most)
    → IsServing state same_plan pends polls first mid from at
    → IsPoll rules state same_plan begins pends now at to answer
    → (before : LinkState) → Accounted state before from.session from.done from.last
    → AnswersBy (rules to.served).filters state pends most before (state from.session.link) to
    answer
answers_of rules state same_plan begins pends polls most first mid now from at to
    (progress.Ready reason) last s p before h =
    let cause =
    cause_of rules state same_plan begins pends polls first mid now from at to
    (progress.Ready reason) s p before h in (
      cause.0,
      stops_by (rules to.served).filters before (state from.session.link)
          (state at.session.link) (state to.session.link) to.done to.last reason s.leaves.later
          cause.1,
    )
answers_of rules state same_plan begins pends polls most first mid now from at to
    (progress.Pending what) last s p before h =
    let cause =
    cause_of rules state same_plan begins pends polls first mid now from at to
    (progress.Pending what) s p before h in (
      cause.0,
      subst (λ n. WaitedBy pends n (state from.session.link) (state to.session.link)) (last tt)
          (waited_on begins pends polls before (state from.session.link) (state at.session.link)
          (state to.session.link) at to what
          s.leaves.later p.later (s.waited before h) cause.1),
      waits_in_call begins pends before (state from.session.link) (state at.session.link)
          (state to.session.link) at to what s.leaves.later p.later cause.1,
    )

-- one poll more, where it was the last
made_of : (most polls : ℕ) (answer : Progress) → (IsWaiting answer → polls + 1 ≡ most)
    → polls + 1 ≤ most → MadePolls most (polls + 1) answer
made_of most polls (progress.Pending what) last few = last tt
made_of most polls (progress.Ready reason) last few = (omega arith, few)

-- what the call gives
pub call_of : {L C A J : Type 0} (rules : A → Rules) (state : L → LinkState)
    (same_plan : L → L → Type 0) (begins : J → Type 0) (pends : J → ℕ)
    (polls most asked asked' first mid now : ℕ)
    (from at to : View L C A J) (answer : Progress)
    → ((a b c : L) → same_plan a b → same_plan b c → same_plan a c) → mid ≤ now
    → asked' ≡ polls + 1 + asked
    → (IsWaiting answer → polls + 1 ≡ most) → polls + 1 ≤ most
    → IsServing state same_plan pends polls first mid from at
    → IsPoll rules state same_plan begins pends now at to answer
    → IsCall rules state same_plan pends most asked asked' first now from to answer
call_of rules state same_plan begins pends polls most asked asked' first mid now from at to answer
    plan_on high told last few s p =
    record {
      kept = kept_on plan_on high s p;
      leaves = record {
        polls = polls + 1;
        made = made_of most polls answer last few;
        told = told;
        leaves = leaves_on state polls (polls + 1) now (state from.session.link) at to answer
            (omega arith) s.leaves p.later p.extends p.leaves;
      };
      accounted = λ before h. p.accounted before (s.accounted before h);
      agrees = λ before h. p.agrees before (s.accounted before h);
      served = served_on first mid now (state from.session.link) (state at.session.link)
          (state to.session.link) (entries at) (entries to)
          s.kept.clock high s.leaves.later p.later s.served p.extends;
      answers =
          answers_of rules state same_plan begins pends polls most first mid now from at to answer
          last s p;
      timely = λ before h. record {
        at = at;
        on = s.leaves.later;
        waits = s.waits before h;
        timely =
            timely_of rules state same_plan begins pends polls first mid now from at to answer s p
            before h;
      };
    }
