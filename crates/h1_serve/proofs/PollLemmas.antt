-- Lemmas on one poll of a script's connection.
use Rattle.std.proofs.Common.{◌≡◌, ℕ, ◌+◌, ◌≤◌, ◌<◌, ◌⊎◌, inl, inr, Bool, true, false, nat_lt, List, ◌++◌, length, Option, Some, None, is_some, IsTrue, IfSome, IfNone, refl, sym, ap, subst, ◌∙◌, arith}
use Rattle.std.proofs.lemmas.Bool.Decides.{nat_tests}
use Rattle.std.proofs.lemmas.List.{take_all}
use Rattle.h1_error.specs.declared.progress.Waiting.{Waiting}
use Rattle.h1_error.specs.declared.progress.Waiting.TheVariants as waiting
use Rattle.h1_error.specs.declared.progress.Progress.{Progress}
use Rattle.h1_error.specs.declared.progress.Progress.TheVariants as progress
use Rattle.h1_link.specs.Later.{Later}
use Rattle.h1_link.specs.MemState.{MemState}
use Rattle.h1_link.specs.MemPlan.{SamePlan, faults_due}
use Rattle.h1_link.specs.MemRule.{Rule, EndReached}
use Rattle.h1_link.specs.Gate.{IsBlocked, IsClosed, gate_from}
use Rattle.h1_link.specs.declared.memory.gate.Gate.{Gate}
use Rattle.h1_link.specs.declared.memory.gate.Gate.TheVariants.{Open, Room, Blocked}
use Rattle.h1_app.specs.declared.exchange.Stage.{Stage}
use Rattle.h1_app.specs.declared.exchange.Stage.TheVariants as stage
use Rattle.h1_app.specs.View.{entries}
use Rattle.h1_transcript.specs.Entries.{replies}
use Rattle.h1_echo.specs.declared.echo.EchoJob.{EchoJob}
use Rattle.h1_app.specs.Accounted.{Accounted}
use Rattle.h1_transcript.specs.Agrees.{Agrees}
use Rattle.h1_transcript.specs.Growth.{Extends}
use Rattle.h1_app.specs.Leaves.{Leaves}
use Rattle.h1_app.proofs.WorkLemmas.{times_left}
use Rattle.h1_app.specs.Timely.{IsTimely}
use Rattle.h1_app.specs.Causes.{Cause, WaitCause, PendedNew, PendedOn, PendedBy}
use Rattle.h1_words.specs.declared.command.Command.TheVariants as command
use Rattle.h1_words.specs.declared.place.Place.{Place}
use Rattle.h1_serve.specs.declared.scripted.Scripted.{Scripted}
use Rattle.h1_serve.specs.State.{State, MarkedView, new_link, link_state, rules, state_of}
use Rattle.h1_serve.specs.LinkDoes.{GivesAhead, IsWithin, IsUsedUp, TakesWithin, NothingGiven, FailsAsPlanned}
use Rattle.h1_serve.specs.PollLine.{PendsFor, IsAnswered, AnswerCause, AnswersInTime, Polls, poll_line}
use Rattle.h1_serve.specs.Running.{EndsAt, IsRunning}
use Rattle.h1_serve.specs.Done.{ObeysOnce}

-- the job of an application that is never slow
never_new : (begins : EchoJob → Type 0) (to : Stage EchoJob) → PendedNew begins (λ _. 0) to → ⊥
never_new begins (stage.Answer job) p = omega (arith, p.2)
never_new begins _ p = p

never_on : (begins : EchoJob → Type 0) (from to : Stage EchoJob) → PendedOn begins (λ _. 0) from to
    → ⊥
never_on begins (stage.Answer before) (stage.Answer job) p = omega (arith, p)
never_on begins stage.Head to p = never_new begins to p
never_on begins (stage.Answer before) _ p = p
never_on begins _ to p = p

same_or_more : (a b : ℕ) → a ≤ b → (b ≡ a) ⊎ (a < b)
same_or_more a b le = same_if (nat_lt a b) a b le refl where
  same_if : (t : Bool) (a b : ℕ) → a ≤ b → nat_lt a b ≡ t → (b ≡ a) ⊎ (a < b)
  same_if true a b le test = inr (grind (arith, nat_tests))
  same_if false a b le test = inl (grind (arith, nat_tests))

never_pends : (begins : EchoJob → Type 0) (from to : MarkedView)
    → PendedBy begins (λ _. 0) from.done to.done from.stage to.stage → ⊥
never_pends begins from to p =
    elim (same_or_more (length from.done) (length to.done) p.longer) [
      | inl same ↦ never_on begins from.stage to.stage (p.same same)
      | inr more ↦ never_new begins to.stage (p.later more)
    ]

pends_for : (begins : EchoJob → Type 0) (from to : Scripted) (what : Waiting)
    → WaitCause begins (λ _. 0) new_link from.connection.session.link.state
    to.connection.session.link.state from.connection to.connection what
    → PendsFor (state_of from) (state_of to) what
pends_for begins from to waiting.Read cause = cause
pends_for begins from to waiting.Write cause = cause
pends_for begins from to waiting.App cause =
    never_pends begins from.connection to.connection cause.1
pends_for begins from to waiting.Budget cause = cause

answer_cause : (begins : EchoJob → Type 0) (from to : Scripted) (answer : Progress)
    → IsAnswered answer
    → Cause (rules (state_of to)).filters link_state begins (λ _. 0) new_link from.connection to.connection
    answer
    → AnswerCause (state_of from) (state_of to) answer
answer_cause begins from to (progress.Pending what) answered cause =
    (cause.0, pends_for begins from to what cause.1)
answer_cause begins from to (progress.Ready reason) answered cause = (cause.0, answered, cause.1)

pub if_none : {X : Type 0} (o : Option X) (P Q : Type 0) → (P → Q) → IfNone o P → IfNone o Q
if_none None P Q goes h = goes h
if_none (Some x) P Q goes h = tt

if_some : {X : Type 0} (o : Option X) (P Q : X → Type 0) → ((x : X) → P x → Q x) → IfSome o P
    → IfSome o Q
if_some None P Q goes h = tt
if_some (Some x) P Q goes h = goes x h

-- the end stays where it was said
ends_on : (ended : Bool) (old new : MemState) → EndsAt ended old.end_at (length old.put)
    → SamePlan old new → EndsAt ended new.end_at (length new.put)
ends_on ended old new ends plan = rw (plan.end_at, plan.put) ends

-- the gate with its room counted from the first byte
within_gate : (gate : Gate) (taken : ℕ) → IsWithin (gate_from gate taken) taken
within_gate Open taken = tt
within_gate (Room left) taken = omega arith
within_gate Blocked taken = tt

used_up : (gate : Gate) (taken : ℕ) → IsClosed gate → IsUsedUp (gate_from gate taken) taken
used_up Open taken closed = closed
used_up (Room left) taken closed = omega (arith, closed)
used_up Blocked taken closed = tt

is_blocked : (gate : Gate) (taken : ℕ) → IsBlocked (gate_from gate taken) → IsBlocked gate
is_blocked Open taken blocked = blocked
is_blocked (Room left) taken blocked = blocked
is_blocked Blocked taken blocked = tt

-- a flush that isn't ready is counted only where the link is blocked
flush_blocked : (gate : Gate) (taken before now : ℕ) → ((IsBlocked gate → ⊥) → now ≡ before)
    → before < now → IsBlocked (gate_from gate taken)
flush_blocked Open taken before now held more =
    let same = held (λ blocked. blocked) in absurd (omega (arith, same, more))
flush_blocked (Room left) taken before now held more =
    let same = held (λ blocked. blocked) in absurd (omega (arith, same, more))
flush_blocked Blocked taken before now held more = tt

takes_within : (old new : Scripted)
    → SamePlan old.connection.session.link new.connection.session.link
    → Rule old.connection.session.link → Rule new.connection.session.link
    → TakesWithin (state_of old) (state_of new)
takes_within old new plan before behind =
    let from = old.connection.session.link in
    let to = new.connection.session.link in
    record {
      gate = plan.gate;
      counted = behind.written;
      within = within_gate to.gate to.state.bytes_out;
      blocked = λ blocked.
          let passed = plan.block (is_blocked to.gate to.state.bytes_out blocked) in passed.written;
      waits = λ more.
          let noted : to.writes_noted < to.state.write_waits =
          omega (arith, plan.writes_noted, before.noted_writes, more) in
          used_up to.gate to.state.bytes_out (behind.stalls noted);
      flush_waits =
          flush_blocked to.gate to.state.bytes_out from.flush_waits to.flush_waits
          (λ free. let ready = plan.flushes free in ready.waits);
    }

-- a planned fault is at most one more
due_more : (planned : Bool) (count : ℕ) → count ≤ faults_due planned count
due_more true count = omega arith
due_more false count = omega arith

-- where a fault is planned and not met it stays planned, and else it was met
met_or_kept : (was is : Bool) (before now : ℕ) (Same : Type 0) → (is ≡ true → Same)
    → faults_due is now ≡ faults_due was before → before < faults_due was before
    → Same ⊎ (before < now)
met_or_kept was true before now Same same due more = inl (same refl)
met_or_kept was false before now Same same due more =
    let is : now ≡ faults_due was before = due in
    let rose : before < now = subst (λ n. before < n) (sym is) more in inr rose

fails_as_planned : (old new : Scripted)
    → SamePlan old.connection.session.link new.connection.session.link
    → FailsAsPlanned (state_of old) (state_of new)
fails_as_planned old new plan =
    let from = old.connection.session.link in
    let to = new.connection.session.link in
    record {
      reads_due = plan.read_faults;
      writes_due = plan.write_faults;
      reads = due_more to.read_fault to.state.read_faults;
      writes = due_more to.write_fault to.state.write_faults;
      read_first =
          met_or_kept from.read_fault to.read_fault from.state.read_faults to.state.read_faults
          (NothingGiven (state_of old) (state_of new))
          (λ planned. let stop = plan.reads_stop planned in (stop.given, stop.ended)) plan.read_faults;
      write_first =
          met_or_kept from.write_fault to.write_fault from.state.write_faults to.state.write_faults
          (to.state.written ≡ from.state.written)
          (λ planned. let stop = plan.writes_stop planned in stop.written) plan.write_faults;
    }

-- all that was put ahead is given
all_given : (link : MemState) → Rule link → length link.put ≤ link.state.bytes_in
    → link.state.given ≡ Some link.put
all_given link rule all =
    rule.given ∙ ap Some (take_all link.state.bytes_in link.put all)

end_said : (ended : Bool) (end_at : Option ℕ) (put given : ℕ) → EndsAt ended end_at put
    → EndReached end_at given
    → (is_some end_at ≡ true) × (put ≤ given)
end_said ended None put given ends reached = absurd reached
end_said true (Some at) put given ends reached = (refl, let same : at ≡ put = cc in omega arith)
end_said false (Some at) put given ends reached = absurd (let never : Some at ≡ None = ends in cc)

met_end : (ended : Bool) (link : MemState) → EndsAt ended link.end_at (length link.put) → Rule link
    → IsTrue link.state.ended
    → (is_some link.end_at ≡ true) × (link.state.given ≡ Some link.put)
met_end ended link ends rule met =
    let said = end_said ended link.end_at (length link.put) link.state.bytes_in ends (rule.ended met) in
    (said.0, all_given link rule said.1)

waited : (old new : MemState) → SamePlan old new → Rule old → Rule new
    → old.state.read_waits < new.state.read_waits
    → (new.state.given ≡ Some new.put) × (is_some new.end_at ≡ false)
waited old new plan before behind more =
    let noted : new.reads_noted < new.state.read_waits = omega (arith, plan.reads_noted, before.noted_reads) in
    let all = behind.waits noted in
    (all_given new behind (omega (arith, all.0)), ap is_some all.1)

gives_ahead : (ended : Bool) (old new : Scripted)
    → EndsAt ended new.connection.session.link.end_at (length new.connection.session.link.put)
    → SamePlan old.connection.session.link new.connection.session.link
    → Rule old.connection.session.link → Rule new.connection.session.link
    → GivesAhead (state_of old) (state_of new)
gives_ahead ended old new ends plan before behind =
    let from = old.connection.session.link in
    let to = new.connection.session.link in
    record {
      put = plan.put;
      said = ap is_some plan.end_at;
      given = behind.given;
      ended = met_end ended to ends behind;
      waits = waited from to plan before behind;
    }

-- what a poll of the connection ensures
pub record Polled (begins : EchoJob → Type 0) (moment : ℕ) (old : Scripted) (answer : Progress)
    (new : Scripted) : Type 0 where
  pub later : Later old.connection.session.link.state new.connection.session.link.state
  pub plan : SamePlan old.connection.session.link new.connection.session.link
  pub modules : new.connection.served.builders ≡ old.connection.served.builders
  pub terms : new.connection.terms ≡ old.connection.terms
  pub shut : new.shutdown ≡ old.shutdown
  pub accounted : Accounted link_state new_link new.connection.session new.connection.done
      new.connection.last
  pub agrees : Agrees (rules (state_of new)) new.connection.terms new_link new.connection.session.link.state
      (entries new.connection)
  pub extends : Extends moment old.shutdown old.connection.session.link.state
      new.connection.session.link.state (entries old.connection) (entries new.connection)
  pub moves : new.connection.session.link.state.moves ≤ old.connection.session.link.state.moves + 64
  pub reads_not_ready : new.connection.session.link.state.read_waits
      + replies (entries old.connection)
      ≤ old.connection.session.link.state.read_waits + replies (entries new.connection) + 1
  pub ended : IfSome old.connection.end (λ reason. (answer ≡ progress.Ready reason)
      × (new.connection ≡ old.connection))
  pub leaves : IfNone old.connection.end (Leaves old.connection.session.link.state
      new.connection.session.link.state new.connection.last new.connection.end)
  pub timely : IfNone old.connection.end
      (IsTimely link_state moment old.connection new.connection answer)
  pub cause : IfNone old.connection.end
      (Cause (rules (state_of new)).filters link_state begins (λ _. 0) new_link old.connection
      new.connection answer)

-- a connection that stays leaves the state as it was
same_state : (old new : Scripted) → new.shutdown ≡ old.shutdown → new.connection ≡ old.connection
    → state_of new ≡ state_of old
same_state old new shut same =
    let seen : Bool → MarkedView → State = λ shut served. state_of (record { connection = served; shutdown = shut }) in
    ap (λ (b : Bool). seen b new.connection) shut ∙ ap (λ (c : MarkedView). seen old.shutdown c) same

timely_so : (moment : ℕ) (old new : Scripted) (answer : Progress)
    → IsTimely link_state moment old.connection new.connection answer
    → AnswersInTime moment (state_of old) (state_of new) answer
timely_so moment old new (progress.Pending what) h = h
timely_so moment old new (progress.Ready reason) h = h

polls : (begins : EchoJob → Type 0) (place : Place) (moment : ℕ) (old new : Scripted)
    (answer : Progress)
    → IsRunning place old.connection → Polled begins moment old answer new
    → Rule old.connection.session.link → Rule new.connection.session.link → IsAnswered answer
    → Polls moment (state_of old) answer (state_of new)
polls begins place moment old new answer running polled before behind answered =
    let from = old.connection.session.link in
    let to = new.connection.session.link in
    let ends = ends_on place.ended from to running.end_at polled.plan in
    record {
      modules = polled.modules;
      terms = polled.terms;
      shut = polled.shut;
      later = polled.later;
      agrees = polled.agrees;
      extends = polled.extends;
      gives = gives_ahead place.ended old new ends polled.plan before behind;
      takes = takes_within old new polled.plan before behind;
      fails = fails_as_planned old new polled.plan;
      moves = polled.moves;
      reads_not_ready = polled.reads_not_ready;
      again =
          if_some old.connection.end _ _ (λ reason same. (same.0, same_state old new polled.shut same.1)) polled.ended;
      leaves = polled.leaves;
      timely = if_none old.connection.end _ _ (timely_so moment old new answer) polled.timely;
      left = times_left new.connection.stage new.connection.last new.connection.session;
      cause = if_none old.connection.end _ _ (answer_cause begins old new answer answered) polled.cause;
    }

-- one poll obeys its line
pub polls_once : (begins : EchoJob → Type 0) (place : Place) (old new : Scripted) (moment : ℕ)
    (answer : Progress) (text behind_text : List ℕ)
    → IsRunning place old.connection → Polled begins moment old answer new
    → Rule old.connection.session.link → Rule new.connection.session.link → IsAnswered answer
    → behind_text ≡ text ++ poll_line moment answer
    → ObeysOnce place old (command.Poll moment) text new behind_text
polls_once begins place old new moment answer text behind_text running polled before behind answered is = record {
  line = poll_line moment answer;
  text_is = is;
  obeys = (answer, refl, polls begins place moment old new answer running polled before behind answered);
  running = record {
    accounted = polled.accounted;
    end_at =
        ends_on place.ended old.connection.session.link new.connection.session.link running.end_at polled.plan;
  };
}
