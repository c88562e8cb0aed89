-- What steps leave of the link, one after the other.
use Rattle.h1_app.specs.Turn.{outcome_end}
use Rattle.h1_app.specs.Asking.{entry_after, outcome_after}
use Rattle.h1_app.specs.Heard.{Heard}
use Rattle.h1_app.specs.Heard as asked
use Rattle.std.proofs.Common.{◌≡◌, ◌⊎◌, inl, inr, ℕ, Bool, Option, Some, None, IfNone, sym, ap, ◌∙◌, subst, refl, true, false, Result, arith}
use Rattle.h1_app.specs.Words.{ErrorType, End, LinkState, Entry, ExtendsLast, SessionView, Error, Poll, Called, FaultsBy, ReusesBy, is_replied, keeps_alive, may_go_on, Payload}
use Rattle.h1_error.specs.declared.error.ErrorType.TheVariants as kind
use Rattle.h1_error.specs.declared.progress.End.TheVariants as end
use Rattle.h1_app.proofs.Words.{View, AsksAs, failure_of, Leaves, LeavesOn, CalledForReuse, NotesFault, ReadsHeld, ReadsHeldBy, ShutBy, WritesHeld, WritesHeldBy}
use Rattle.h1_transfer.specs.Calls.{no_fault, read_fault_of, read_fault_of_kind, write_fault_of_kind}
use Rattle.h1_application.specs.Application.{fault_met}
use Rattle.h1_server.specs.Calls.{is_reused}
use Rattle.h1_app.proofs.DrainLemmas.{alive_replied}

-- an exchange that notes a fault goes on to do so
pub noted_grows : (now : ℕ) (shutdown : Bool) (first second : LinkState)
    (last behind : Option Entry)
    → ExtendsLast now shutdown first second last behind → NotesFault last → NotesFault behind
noted_grows now shutdown first second None behind h noted = absurd noted
noted_grows now shutdown first second (Some e) None h noted = absurd h
noted_grows now shutdown first second (Some e) (Some f) h noted =
    (noted.0, (rw noted.1 at h.body_error), noted.2)

held_by : (before now : ℕ) (last : Option Entry) (k : ErrorType) → NotesFault last
    → ReadsHeldBy before now last k
held_by before now last kind.ReadError noted = tt
held_by before now last _ noted = inr noted

-- what is noted accounts for every failed read
held_noted : (before now : ℕ) (last : Option Entry) (reason : Option End) → NotesFault last
    → ReadsHeld before now last reason
held_noted before now last (Some (end.Failed error)) noted = held_by before now last error.kind noted
held_noted before now last _ noted = inr noted

-- after steps that went on, one more
pub leaves_on : (a b c : LinkState) (last behind : Option Entry) (reason : Option End)
    → Leaves a b last None
    → (NotesFault last → NotesFault behind) → Leaves b c behind reason → Leaves a c behind reason
leaves_on a b c last behind reason first noted second = record {
  writes = subst (λ n. WritesHeld n c.write_faults reason) first.writes second.writes;
  reads = elim first.reads [
    | inl same ↦ subst (λ n. ReadsHeld n c.read_faults behind reason) same second.reads
    | inr met ↦ held_noted a.read_faults c.read_faults behind reason (noted met)
  ];
  shut = subst (λ t. ShutBy t c reason) first.shut second.shut;
}

pub leaves_itself : (s : LinkState) (last : Option Entry) → Leaves s s last None
leaves_itself s last = record { writes = refl; reads = inl refl; shut = refl }

-- on the way, and one step further
pub leaves_further : {L C A J : Type 0} (state : L → LinkState) (a b c : View L C A J)
    → LeavesOn state a b → b.end ≡ None → LeavesOn state b c → LeavesOn state a c
leaves_further state a b c first alive second = record {
  leaves = leaves_on (state a.session.link) (state b.session.link) (state c.session.link) b.last c.last c.end
      (subst (λ reason. Leaves (state a.session.link) (state b.session.link) b.last reason) alive first.leaves)
      second.noted second.leaves;
  noted = λ met. second.noted (first.noted met);
}

-- a body without an error notes no fault
pub never_noted : (e : Entry) → e.body_error ≡ None → NotesFault (Some e) → ⊥
never_noted e none noted = let clash = sym none ∙ noted.1 in cc

pub given_none : {T : Type 0} (o : Option T) (P : Type 0) → P → IfNone o P
given_none None P p = p
given_none (Some value) P p = tt

-- a call that reads failed, and the connection ends with that
pub reads_failed : (before now : LinkState) (last : Option Entry) (k : ErrorType)
    → FaultsBy before now (read_fault_of_kind k)
    → WritesHeldBy before.write_faults now.write_faults k
    × ReadsHeldBy before.read_faults now.read_faults last k
reads_failed before now last kind.ReadError h = (h, tt)
reads_failed before now last kind.WriteError h = (tt, inl h.0)
reads_failed before now last _ h = (h.1, inl h.0)

-- what reading a body met is noted in the exchange
met_by : (before now : LinkState) (e : Entry) (r s : Option Error)
    → FaultsBy before now (fault_met r s) → e.body_error ≡ s
    → (now.write_faults ≡ before.write_faults)
    × ((now.read_faults ≡ before.read_faults) ⊎ NotesFault (Some e))
met_by before now e (Some error) s h is = (h.1, inl h.0)
met_by before now e None None h is = (h.1, inl h.0)
met_by before now e None (Some error) h is = by_kind error.kind refl h
  where
    by_kind : (k : ErrorType) → error.kind ≡ k → FaultsBy before now (read_fault_of_kind k)
        → (now.write_faults ≡ before.write_faults)
        × ((now.read_faults ≡ before.read_faults) ⊎ NotesFault (Some e))
    by_kind kind.ReadError same h = (h, inr (error, is, same))
    by_kind _ same h = (h.1, inl h.0)

held_writes : (before now : ℕ) (k : ErrorType) → now ≡ before → WritesHeldBy before now k
held_writes before now kind.WriteError same = tt
held_writes before now _ same = same

held_reads : (before now : ℕ) (last : Option Entry) (k : ErrorType)
    → ((now ≡ before) ⊎ NotesFault last) → ReadsHeldBy before now last k
held_reads before now last kind.ReadError same = tt
held_reads before now last _ same = same

-- the application was asked
asked_met : {L C : Type 0} (state : L → LinkState) (old new : SessionView L C) (e e2 e3 : Entry)
    (answer : Heard)
    → AsksAs state old new e e2 answer → e3.body_error ≡ e2.body_error
    → ((state new.link).write_faults ≡ (state old.link).write_faults)
    × (((state new.link).read_faults ≡ (state old.link).read_faults) ⊎ NotesFault (Some e3))
    × ((state new.link).shut ≡ (state old.link).shut)
asked_met {L} {C} state old new e e2 e3 answer asks like =
    let calls = asks.reads.calls in
    let noted : e3.body_error ≡ asks.behind.body.refused = like ∙ ap (λ (x : Entry). x.body_error) asks.entry in
    let met = met_by (state old.link) (state asks.behind.link) e3 old.body.refused
    asks.behind.body.refused calls.faults noted in
    rw (ap (λ (x : SessionView L C). x.link) asks.session) (met.0, met.1, calls.shut)

asked_leaves : {L C : Type 0} (state : L → LinkState) (old new : SessionView L C)
    (e e2 e3 : Entry) (answer : Heard)
    → AsksAs state old new e e2 answer → e3.body_error ≡ e2.body_error
    → Leaves (state old.link) (state new.link) (Some e3) None
asked_leaves state old new e e2 e3 answer asks like =
    let met = asked_met state old new e e2 e3 answer asks like in
    record { writes = met.0; reads = met.1; shut = met.2 }

asked_fails : {L C : Type 0} (state : L → LinkState) (old new : SessionView L C)
    (e e2 e3 : Entry) (answer : Heard) (error : Error)
    → AsksAs state old new e e2 answer → e3.body_error ≡ e2.body_error
    → Leaves (state old.link) (state new.link) (Some e3) (Some (end.Failed error))
asked_fails state old new e e2 e3 answer error asks like =
    let met = asked_met state old new e e2 e3 answer asks like in
    record {
      writes = held_writes _ _ error.kind met.0;
      reads = held_reads _ _ (Some e3) error.kind met.1;
      shut = met.2;
    }

pub answer_leaves : {L C : Type 0} (state : L → LinkState) (old new : SessionView L C) (e e2 : Entry)
    (answer : Heard) → AsksAs state old new e e2 answer
    → Leaves (state old.link) (state new.link) (Some (entry_after e2 answer)) (outcome_end (outcome_after answer))
answer_leaves state old new e e2 asked.Reads asks = asked_leaves state old new e e2 e2 asked.Reads asks refl
answer_leaves state old new e e2 asked.Pends asks = asked_leaves state old new e e2 e2 asked.Pends asks refl
answer_leaves state old new e e2 (asked.Replied reply) asks =
    asked_leaves state old new e e2 (record e2 { reply = Some reply }) (asked.Replied reply) asks refl
answer_leaves state old new e e2 (asked.Failed error) asks =
    asked_fails state old new e e2 e2 (asked.Failed error) error asks refl

-- the session was asked for its link's reuse
pub called_reuse : {L C : Type 0} (state : L → LinkState) (now : ℕ) (old asked behind : SessionView L C)
    (kept : Option Payload) (answer : Poll (Result Bool Error))
    → asked ≡ record old { body = record old.body { kept = kept } } → is_replied old.reply ≡ true
    → ReusesBy state now asked behind answer (may_go_on asked) → (may_go_on asked ≡ true
    → Called (state asked.link) (state behind.link) (is_reused answer) (read_fault_of answer))
    → CalledForReuse (state old.link) (state behind.link) (keeps_alive old) (is_reused answer)
    (read_fault_of answer)
called_reuse {L} {C} state now old asked behind kept answer lent_is replied reuses called =
    subst (λ t. CalledForReuse (state old.link) (state behind.link) t (is_reused answer) (read_fault_of answer))
    (alive_replied (keeps_alive old) (is_replied old.reply) replied)
    (subst (λ (x : SessionView L C). CalledForReuse (state x.link) (state behind.link) (may_go_on x)
    (is_reused answer) (read_fault_of answer))
    lent_is (by_alive (may_go_on asked) refl reuses))
  where
    by_alive : (t : Bool) → may_go_on asked ≡ t → ReusesBy state now asked behind answer t
        → CalledForReuse (state asked.link) (state behind.link) t (is_reused answer)
        (read_fault_of answer)
    by_alive true is r = let c = called is in record { others = c.others; faults = c.faults; shut = c.shut }
    by_alive false is r = rw (r.0, r.1) (record { others = omega arith; faults = (refl, refl); shut = (refl, refl) })

-- a write that was refused ends the connection
writes_failed : (before now : LinkState) (last : Option Entry) (k : ErrorType)
    → FaultsBy before now (write_fault_of_kind k)
    → WritesHeldBy before.write_faults now.write_faults k
    × ReadsHeldBy before.read_faults now.read_faults last k
writes_failed before now last kind.WriteError h = (tt, inl h)
writes_failed before now last kind.ReadError h = (h.1, tt)
writes_failed before now last _ h = (h.1, inl h.0)

pub write_fails : (before now : LinkState) (last : Option Entry) (done : Bool) (error : Error)
    → Called before now done (write_fault_of_kind error.kind)
    → Leaves before now last (Some (end.Failed error))
write_fails before now last done error calls =
    let held = writes_failed before now last error.kind calls.faults in
    record { writes = held.0; reads = held.1; shut = calls.shut }

-- which error a refused end of a reply ends the connection with
told_is : (failed error : Error) (k : ErrorType) → error.kind ≡ k
    → (k ≡ kind.PrematureBodyEnd) ⊎ (failure_of (Some failed) error ≡ error)
told_is failed error kind.PrematureBodyEnd is = inl refl
told_is failed error _ is = inr (rw is refl)

pub short_told : (failed error : Error) → error.kind ≡ kind.PrematureBodyEnd
    → failure_of (Some failed) error ≡ failed
short_told failed error is = rw is refl

-- the same at the end of a reply, where a short one ends with the error of the request's body
pub finish_fails : (before now : LinkState) (last : Option Entry) (done : Bool)
    (body_error : Option Error) (error : Error)
    → Called before now done (write_fault_of_kind error.kind)
    → Leaves before now last (Some (end.Failed (failure_of body_error error)))
finish_fails before now last done None error calls = write_fails before now last done error calls
finish_fails before now last done (Some failed) error calls = elim (told_is failed error error.kind refl) [
  | inl short ↦
      let faults : FaultsBy before now no_fault =
      subst (λ k. FaultsBy before now (write_fault_of_kind k)) short calls.faults in
      subst (λ told. Leaves before now last (Some (end.Failed told))) (sym (short_told failed error short)) (record {
        writes = held_writes before.write_faults now.write_faults failed.kind faults.1;
        reads = held_reads before.read_faults now.read_faults last failed.kind (inl faults.0);
        shut = calls.shut;
      })
  | inr same ↦
      subst (λ told. Leaves before now last (Some (end.Failed told))) (sym same)
      (write_fails before now last done error calls)
]
