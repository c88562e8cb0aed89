-- What one step makes of a connection: the exchange that is last goes on, or the next one is awaited.
use Rattle.std.proofs.Common.{◌≡◌, ℕ, ◌+◌, ◌<◌, ◌≤◌, ◌⊎◌, inl, inr, List, [], ◌∷◌, ◌++◌, length, Bool, false, Option, Some, None, IfNone, option_to_list, refl, sym, ◌∙◌, subst, append-nil, arith}
use Rattle.h1_app.specs.Words.{AllByRecursion, End, LinkState, SessionView, Settings, Reply, Entry, Exchange, Stage, Outcome, Filters, Given, Rules, AreBegun, BeginsIn, BeginsWith, IsNextSet, IsSetAlike, ExtendsLast, Terms, replies}
use Rattle.h1_application.specs.Application.{Runs}
use Rattle.h1_app.specs.declared.exchange.Stage.TheVariants as stage
use Rattle.h1_app.specs.declared.exchange.Outcome.TheVariants as outcome
use Rattle.h1_transcript.specs.Begun.{IsBegunFor, IsSetFor, pipelining_behind}
use Rattle.h1_app.proofs.Words.{JobFrom, rank, Turned, TurnCause, outcome_end, stops, Chain, Sound, SoundStage, SoundWith, Stepped, SteppedWith, StepRefuses, OutcomeCause, rules_with, FewReadsNotReady, view_of, IfAwaiting, Continues, JobNew, LeavesBy, one_where}
use Rattle.h1_app.proofs.EndReplies.{written_so_far}
use Rattle.h1_app.proofs.LeavesLemmas.{noted_grows}
use Rattle.h1_app.proofs.OthersLemmas.{awaits_head, still_last, others_stepped}
use Rattle.h1_transcript.proofs.AloneLemmas.{join_none}
use Rattle.h1_transcript.proofs.GrowthLemmas.{extends_last, replies_append}

pub all_join : (P : Entry → Type 0) (done : List Entry) (e : Entry) → AllByRecursion P done → P e
    → AllByRecursion P (done ++ e ∷ [])
all_join P [] e all h = (h, tt)
all_join P (f ∷ more) e all h = (all.0, all_join P more e all.1 h)

pub pipelining_last : (first : Bool) (done : List Entry) (e : Entry)
    → pipelining_behind first (done ++ e ∷ []) ≡ e.left.pipelining
pipelining_last first [] e = refl
pipelining_last first (f ∷ more) e = pipelining_last f.left.pipelining more e

begun_join : (terms : Terms) (i : ℕ) (first : Bool) (done : List Entry) (e : Entry)
    → AreBegun terms i first done
    → IsBegunFor terms (i + length done) (pipelining_behind first done) e
    → AreBegun terms i first (done ++ e ∷ [])
begun_join terms i first [] e h is =
    let same : i + 0 ≡ i = omega arith in
    (subst (λ n. IsBegunFor terms n first e) same is, tt)
begun_join terms i first (f ∷ more) e h is =
    let same : i + length (f ∷ more) ≡ i + 1 + length more = omega arith in (
      h.0,
      begun_join terms (i + 1) f.left.pipelining more e h.1
          (subst (λ n. IsBegunFor terms n (pipelining_behind f.left.pipelining more) e) same is),
    )

begun_grows : (terms : Terms) (i : ℕ) (first : Bool) (done : List Entry) (a b : Entry)
    → b.began ≡ a.began → b.holding ≡ a.holding
    → AreBegun terms i first (done ++ a ∷ []) → AreBegun terms i first (done ++ b ∷ [])
begun_grows terms i first [] a b is kept h = (
  record { set = rw is h.0.set; keepalive = rw is h.0.keepalive; holding = kept ∙ h.0.holding },
  tt,
)
begun_grows terms i first (f ∷ more) a b is kept h =
    (h.0, begun_grows terms (i + 1) f.left.pipelining more a b is kept h.1)

set_alike : (limit : Option ℕ) (i : ℕ) (pipelining : Bool) (old new : Settings)
    → IsSetFor limit i pipelining old → IsSetAlike old new → IsSetFor limit i pipelining new
set_alike limit i pipelining old new h alike = record {
  closing = alike.closing ∙ h.closing;
  pipelining_is = alike.pipelining ∙ h.pipelining_is;
  reuses = alike.reuses ∙ h.reuses;
  times = alike.times ∙ h.times;
}

-- each exchange began as the one before it left what is set, after a step too
begun_stepped : (terms : Terms) (now : ℕ) (shutdown : Bool) (first second : LinkState)
    (old new : Settings) (done : List Entry) (last behind : Option Entry)
    → AreBegun terms 0 false (done ++ option_to_list last)
    → ExtendsLast now shutdown first second last behind
    → BeginsWith old new last behind → BeginsIn terms.holding last behind
    → (last ≡ None → IsNextSet terms done old)
    → AreBegun terms 0 false (done ++ option_to_list behind)
begun_stepped terms now shutdown first second old new done None None h extends begins kept next = h
begun_stepped terms now shutdown first second old new done None (Some e) h extends begins kept next =
    let same : length done ≡ 0 + length done = omega arith in
    let set : IsBegunFor terms (length done) (pipelining_behind false done) e = record {
      set = set_alike terms.limit (length done) (pipelining_behind false done) old e.began (next refl)
          begins.0;
      keepalive = begins.1;
      holding = kept;
    } in
    begun_join terms 0 false done e (subst (λ xs. AreBegun terms 0 false xs) (append-nil done) h)
    (subst (λ n. IsBegunFor terms n (pipelining_behind false done) e) same set)
begun_stepped terms now shutdown first second old new done (Some a) None h extends begins kept next =
    absurd extends
begun_stepped terms now shutdown first second old new done (Some a) (Some b) h extends begins kept next =
    begun_grows terms 0 false done a b extends.began extends.holding h

-- and after a step it is still set so
next_stepped : {L C J : Type 0} (runs : Runs J)
    (terms : Terms) (now : ℕ) (shutdown : Bool) (first second : LinkState)
    (old : Settings) (session : SessionView L C) (done : List Entry) (last behind : Option Entry) (to : Stage J)
    → SoundStage runs session behind to → ExtendsLast now shutdown first second last behind
    → BeginsWith old session.settings last behind → (last ≡ None → IsNextSet terms done old)
    → IfAwaiting to (IsNextSet terms done session.settings)
next_stepped runs terms now shutdown first second old session done None None stage.Head h extends begins next =
    set_alike terms.limit (length done) (pipelining_behind false done) old session.settings (next refl)
    begins
next_stepped runs terms now shutdown first second old session done (Some a) None stage.Head h extends begins next =
    absurd extends
next_stepped runs terms now shutdown first second old session done last (Some b) stage.Head h extends begins next =
    let clash = h.0 in cc
next_stepped runs terms now shutdown first second old session done last behind _ h extends begins next = tt

pub if_none : {T : Type 0} (end : Option T) (P Q : Type 0) → (P → Q) → IfNone end P → IfNone end Q
if_none None P Q on p = on p
if_none (Some reason) P Q on p = tt

stage_stepped : {L C J : Type 0} (state : L → LinkState) (pends : J → ℕ)
    (runs : Runs J) (filters : Filters)
    (old new : SessionView L C) (behind : Option Entry) (from to : Stage J) (result : Outcome)
    → OutcomeCause state pends runs old new behind from to result
    ⊎ StepRefuses filters new behind result
    → IfNone (outcome_end result) (SoundStage runs new behind to)
stage_stepped state pends runs filters old new behind from to outcome.Done (inl h) = h.0
stage_stepped state pends runs filters old new behind from to outcome.Done (inr h) = absurd h
stage_stepped state pends runs filters old new behind from to (outcome.Waits what) (inl h) = h.0
stage_stepped state pends runs filters old new behind from to (outcome.Waits what) (inr h) = absurd h
stage_stepped state pends runs filters old new behind from to (outcome.Ends reason) h = tt

-- a step of the exchange that is last leaves a sound connection
pub sound_stepped : {L C J : Type 0} (rules : Rules)
    (runs : Runs J) (terms : Terms)
    (state : L → LinkState) (pends : J → ℕ) (now : ℕ) (shutdown : Bool) (x y : Exchange L J C)
    (result : Outcome)
    → Sound rules runs terms x.session x.transcript.done x.transcript.last x.stage None
    → x.transcript.holding ≡ terms.holding
    → Stepped state pends rules runs now shutdown x y result → y.transcript.done ≡ x.transcript.done
    → Sound rules runs terms y.session y.transcript.done y.transcript.last y.stage
    (outcome_end result)
sound_stepped rules runs terms state pends now shutdown x y result s kept made same = rw same (record {
  ended = s.ended;
  allowed = made.allowed;
  kept = made.kept;
  begun = begun_stepped terms now shutdown (state x.session.link) (state y.session.link)
      x.session.settings y.session.settings x.transcript.done x.transcript.last
      y.transcript.last s.begun made.extends made.begins_with (rw kept at made.begins_in) next;
  stage = staged;
  next = if_none (outcome_end result) (SoundStage runs y.session y.transcript.last y.stage)
      (IfAwaiting y.stage (IsNextSet terms x.transcript.done y.session.settings))
      (λ h. next_stepped runs terms now shutdown (state x.session.link) (state y.session.link)
      x.session.settings y.session x.transcript.done x.transcript.last y.transcript.last
      y.stage h made.extends made.begins_with next) staged;
}) where
  next : x.transcript.last ≡ None
      → IsNextSet terms x.transcript.done x.session.settings
  next none =
      rw (awaits_head runs x.session x.transcript.last x.stage s.stage none) at s.next

  staged : IfNone (outcome_end result) (SoundStage runs y.session y.transcript.last y.stage)
  staged = stage_stepped state pends runs rules.filters x.session y.session y.transcript.last x.stage
      y.stage result made.outcome

-- and one with modules
pub sound_stepped_with : {L C J M : Type 0} (gives : Given → Reply → Type 0)
    (runs : Runs J) (chain : Chain M) (terms : Terms)
    (state : L → LinkState) (pends : J → ℕ) (now : ℕ) (shutdown : Bool) (x y : Exchange L J C)
    (first second : List M) (result : Outcome) → SoundWith gives runs chain terms x first None
    → SteppedWith state pends gives runs chain now shutdown second x y result
    → y.transcript.done ≡ x.transcript.done → y.transcript.holding ≡ x.transcript.holding
    → SoundWith gives runs chain terms y second (outcome_end result)
sound_stepped_with gives runs chain terms state pends now shutdown x y first second result s made same
    kept = record {
      sound = sound_stepped (rules_with gives chain) runs terms state pends now shutdown x y result s.sound
          s.holding made.stepped same;
      stand = made.stand;
      holding = kept ∙ s.holding;
    }

few_stepped : (old now : LinkState) (done : List Entry) (last behind : Option Entry)
    (result : Outcome)
    → FewReadsNotReady old now (option_to_list last) (option_to_list behind) result
    → now.read_waits + replies (done ++ option_to_list last)
    ≤ old.read_waits + replies (done ++ option_to_list behind) + one_where (stops result)
few_stepped old now done last behind outcome.Done h =
    let before = replies_append done (option_to_list last) in
    let after = replies_append done (option_to_list behind) in omega (arith, h, before, after)
few_stepped old now done last behind _ h =
    let before = replies_append done (option_to_list last) in
    let after = replies_append done (option_to_list behind) in omega (arith, h, before, after)

-- and what it leaves, whole
pub turned_stepped : {L C A J : Type 0} {rules : Rules}
    {runs : Runs J} (state : L → LinkState)
    (begins : J → Type 0) (pends : J → ℕ) (same_plan : L → L → Type 0) (now : ℕ) (shutdown : Bool)
    (served : A) (terms : Terms) (x y : Exchange L J C) (first : Option End) (result : Outcome)
    → SoundStage runs x.session x.transcript.last x.stage
    → Stepped state pends rules runs now shutdown x y result
    → Continues state same_plan begins pends x y result → LeavesBy state x y result
    → Turned state same_plan now shutdown (view_of served terms x first)
    (view_of served terms y (outcome_end result)) (stops result)
turned_stepped {runs = runs} state begins pends same_plan now shutdown served terms x y first result
    sound s c leaves =
    let from = view_of served terms x first in
    let to = record (view_of served terms y (outcome_end result))
    { done = x.transcript.done } in
    let made : Turned state same_plan now shutdown from to (stops result) = record {
      gone = record {
        served = refl;
        terms = refl;
        plan = c.plan;
        moves = s.moves;
        accounted = λ before h. s.accounted before x.transcript.done h;
        alone = λ before h. join_none before (state x.session.link) x.transcript.done;
        extends = extends_last now shutdown (state x.session.link) (state y.session.link)
            x.transcript.done x.transcript.last y.transcript.last s.extends;
        longer = omega arith;
        body = s.body;
      };
      reads_not_ready = few_stepped (state x.session.link) (state y.session.link)
          x.transcript.done x.transcript.last y.transcript.last result s.reads_not_ready;
      others = others_stepped (state x.session.link) (state y.session.link) from to result refl
          (still_last runs x.session now shutdown (state x.session.link) (state y.session.link)
          x.transcript.last y.transcript.last x.stage sound s.extends) c.others;
      leaves = record {
        leaves = leaves;
        noted = noted_grows now shutdown (state x.session.link) (state y.session.link)
            x.transcript.last y.transcript.last s.extends;
      };
    } in
    subst (λ done. Turned state same_plan now shutdown from
    (record to { done = done }) (stops result)) (sym c.done) made

-- a step that is done came nearer to the end of the exchange, so it asked no job that it leaves
new_job : {J : Type 0} (begins : J → Type 0) (pends : J → ℕ) (from to : Stage J)
    → rank to < rank from → JobFrom begins pends from to → JobNew begins to
new_job begins pends from (stage.Answer job) less (inl there) =
    let falls = rw there.1 at less in absurd (omega (arith, falls))
new_job begins pends from (stage.Answer job) less (inr new) = new
new_job begins pends from _ less h = tt

-- and why it goes on, waits or ends
pub caused_stepped : {L C A J : Type 0} (filters : Filters) (state : L → LinkState)
    (begins : J → Type 0)
    (pends : J → ℕ) (runs : Runs J)
    (same_plan : L → L → Type 0) (served : A) (terms : Terms) (x y : Exchange L J C)
    (first second : Option End) (result : Outcome)
    → Continues state same_plan begins pends x y result
    → OutcomeCause state pends runs x.session y.session y.transcript.last x.stage y.stage result
    ⊎ StepRefuses filters y.session y.transcript.last result
    → TurnCause filters state begins pends (view_of served terms x first)
    (view_of served terms y second) result
caused_stepped filters state begins pends runs same_plan served terms x y first second outcome.Done c
    (inl h) = (h.2, (λ _. h.1), new_job begins pends x.stage y.stage h.1 c.job)
caused_stepped filters state begins pends runs same_plan served terms x y first second outcome.Done c
    (inr h) = absurd h
caused_stepped filters state begins pends runs same_plan served terms x y first second
    (outcome.Waits what) c (inl h) = (c.done, h.1)
caused_stepped filters state begins pends runs same_plan served terms x y first second
    (outcome.Waits what) c (inr h) = absurd h
caused_stepped filters state begins pends runs same_plan served terms x y first second
    (outcome.Ends reason) c (inl h) = (c.done, λ since s. inl (h since y.transcript.done s))
caused_stepped filters state begins pends runs same_plan served terms x y first second
    (outcome.Ends reason) c (inr h) = (
      c.done,
      λ since s. inr (
        h.0,
        written_so_far state since y.transcript.done y.session y.transcript.last s h.1 h.2,
      ),
    )
