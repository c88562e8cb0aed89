-- A connection over requests that are made serves them all.
use Rattle.std.proofs.Common.{◌≡◌, ◌≢◌, ℕ, zero, suc, ◌+◌, ◌*◌, ◌<◌, ◌≤◌, ◌⊎◌, inl, inr, List, [], ◌∷◌, ◌++◌, length, take, drop, Bool, true, false, option_to_list, Option, Some, None, IfSome, Result, Ok, Err, IfOk, IfErr, IsOkAnd, unwrap_or, refl, sym, ◌∙◌, ap, subst, arith, append-nil}
use Rattle.std.specs.List.{AllByRecursion}
use Rattle.std.proofs.lemmas.List.{take-append-drop}
use Rattle.std.proofs.lemmas.Bool.{cases_lt}
use Rattle.h1_error.specs.declared.error.Error.{Error}
use Rattle.h1_error.specs.declared.error.ErrorType.TheVariants.{ReadError, ReadTimedout, NoMemory}
use Rattle.h1_error.specs.declared.progress.End.TheVariants as end
use Rattle.h1_error.specs.declared.progress.Progress.{Progress}
use Rattle.h1_error.specs.declared.progress.Progress.TheVariants as progress
use Rattle.h1_link.specs.Gate.{IsClosed, gate_from}
use Rattle.h1_link.specs.Counts.{Rose}
use Rattle.h1_link.specs.LinkState.{LinkState}
use Rattle.h1_link.specs.MemPlan.{SamePlan, faults_due}
use Rattle.h1_link.specs.MemRule.{Rule, EndReached}
use Rattle.h1_link.specs.MemState.{MemState, new_mem_state}
use Rattle.h1_link.specs.declared.memory.gate.Gate.{Gate}
use Rattle.h1_link.specs.declared.memory.gate.Gate.TheVariants.{Open, Room, Blocked}
use Rattle.h1_transcript.specs.Rules.{plain}
use Rattle.h1_transcript.specs.Entry.{Entry}
use Rattle.h1_transcript.specs.Agrees.{Agrees}
use Rattle.h1_transcript.specs.declared.history.History.TheVariants.{Forgotten}
use Rattle.h1_transcript.specs.Complete.{GaveOf, AreServed}
use Rattle.h1_transcript.specs.Growth.{RefusedIn}
use Rattle.h1_transcript.specs.Stream.{Message}
use Rattle.h1_transcript.specs.Told.{ToldGrowth}
use Rattle.h1_transcript.proofs.BehindLemmas.{read_map}
use Rattle.h1_echo.specs.Echo.{EchoGives}
use Rattle.h1_app.specs.Accounted.{Accounted, ReadSo}
use Rattle.h1_app.specs.Leaves.{ShutBy}
use Rattle.h1_app.specs.View.{Served, View, entries, IsNewConnection, terms_of, unlimited}
use Rattle.h1_app.specs.declared.options.HttpServerOptions.{HttpServerOptions}
use Rattle.h1_echo.specs.declared.echo.EchoApp.{EchoApp}
use Rattle.h1_modules.specs.declared.no_modules.NoModules.{NoModules}
use Rattle.h1_generator.specs.Generated.{generated}
use Rattle.h1_generator.specs.Kept.{IsKeptOn}
use Rattle.h1_generator.specs.Messages.{messages}
use Rattle.h1_words.specs.declared.words.TheConstants.{MOST_GENERATED}
use Rattle.h1_generator.proofs.EndLemmas.{Over, ends_served}
use Rattle.h1_generator.proofs.LengthLemmas.{never_spent}
use Rattle.h1_generator.proofs.ValidLemmas.{many}
use Rattle.h1_serving.specs.Served.{EchoedView, BeganInCall, Waited, AnswersFor}
use Rattle.h1_serving.specs.Whole.{failure_of, IsFed, IsReady, IsServedWhole, gen_terms}
use Rattle.h1_serving.specs.declared.serving.TheConstants.{MOST_POLLS}

-- what every link has, of a link in memory
abbrev pub link_state : MemState → LinkState
link_state link = link.state

gate_open : (old new : Gate) (a b : ℕ) → old ≡ Open → gate_from new b ≡ gate_from old a → new ≡ Open
gate_open old Open a b is same = refl
gate_open old (Room left) a b is same = let clash : Room (b + left) ≡ Open =
    same ∙ ap (λ g. gate_from g a) is in cc
gate_open old Blocked a b is same = let clash : Blocked ≡ Open =
    same ∙ ap (λ g. gate_from g a) is in cc

pub fed_on : (bytes : List ℕ) (old new : MemState) → IsFed bytes old → SamePlan old new
    → IsFed bytes new
fed_on bytes old new fed plan = record {
  put = plan.put ∙ fed.put;
  end_at = plan.end_at ∙ fed.end_at;
  gate = gate_open old.gate new.gate old.state.bytes_out new.state.bytes_out fed.gate plan.gate;
  reads = plan.reads_noted ∙ fed.reads;
  writes = plan.writes_noted ∙ fed.writes;
  read_faults = plan.read_faults ∙ fed.read_faults;
  write_faults = plan.write_faults ∙ fed.write_faults;
}

none_due : (planned : Bool) (count : ℕ) → faults_due planned count ≡ 0 → count ≡ 0
none_due true count e = omega arith
none_due false count e = e

some_none : {T : Type 0} (x : T) → Some x ≡ None → ⊥
some_none x h = cc

-- so nothing of it was not ready, and nothing failed
record NeverWaits (link : MemState) : Type 0 where
  reads : link.state.read_waits ≡ 0
  writes : link.state.write_waits ≡ 0
  read_faults : link.state.read_faults ≡ 0
  write_faults : link.state.write_faults ≡ 0

never_waits : (bytes : List ℕ) (link : MemState) → IsFed bytes link → Rule link → NeverWaits link
never_waits bytes link fed rule = record {
  reads = no_reads (cases_lt 0 link.state.read_waits);
  writes = no_writes (cases_lt 0 link.state.write_waits);
  read_faults = none_due link.read_fault link.state.read_faults fed.read_faults;
  write_faults = none_due link.write_fault link.state.write_faults fed.write_faults;
}
  where
    no_reads : (0 < link.state.read_waits) ⊎ (link.state.read_waits ≤ 0) → link.state.read_waits ≡ 0
    no_reads (inl some) =
        let waited = rule.waits (omega (arith, some, fed.reads)) in
        absurd (some_none (length bytes) (sym fed.end_at ∙ waited.1))
    no_reads (inr none) = omega (arith, none)

    no_writes : (0 < link.state.write_waits) ⊎ (link.state.write_waits ≤ 0)
        → link.state.write_waits ≡ 0
    no_writes (inl some) =
        let closed =
        rule.stalls (omega (arith, some, fed.writes)) in absurd (subst IsClosed fed.gate closed)
    no_writes (inr none) = omega (arith, none)

none_after : (n : ℕ) (bytes : List ℕ) → length bytes ≤ n → drop n bytes ≡ []
none_after zero [] h = refl
none_after (suc n) [] h = refl
none_after zero (b ∷ bytes) h = absurd (omega arith)
none_after (suc n) (b ∷ bytes) h = none_after n bytes (omega arith)

-- it gave a front of the bytes, and all where it ended
gave : (bytes : List ℕ) (link : MemState) → IsFed bytes link → Rule link
    → GaveOf bytes new_mem_state.state link.state
gave bytes link fed rule = record {
  front = [];
  since = take link.state.bytes_in bytes;
  rest = drop link.state.bytes_in bytes;
  before_is = refl;
  now_is = rule.given ∙ ap (λ xs. Some (take link.state.bytes_in xs)) fed.put;
  input_is = sym (take-append-drop link.state.bytes_in bytes);
  ended = λ h. none_after link.state.bytes_in bytes (reached h);
}
  where
    reached : link.state.ended ≡ true → length bytes ≤ link.state.bytes_in
    reached h = subst (λ o. EndReached o link.state.bytes_in) fed.end_at (rule.ended h)

kept_on : (first last : ℕ) (link : LinkState) (e : Entry) → link.read_faults ≡ 0 → link.read_waits ≡ 0
    → BeganInCall first last new_mem_state.state link e → IsKeptOn e
kept_on first last link e none ready s =
    record { began = s.began; unfailed = by e.body_error s.refused; in_time = late e.body_error s.refused } where
      late : (o : Option Error) → RefusedIn new_mem_state.state link None o
          → IfSome o (λ error. error.kind ≢ ReadTimedout)
      late None h = tt
      late (Some error) h = λ is.
          let rose : Rose new_mem_state.state.read_waits link.read_waits = rw is at h in
          absurd (omega (arith, rose, ready))

      by : (o : Option Error) → RefusedIn new_mem_state.state link None o
          → IfSome o (λ error. error.kind ≢ ReadError)
      by None h = tt
      by (Some error) h = λ is.
          let rose : Rose new_mem_state.state.read_faults link.read_faults = rw is at h in
          absurd (omega (arith, rose, none))

all_kept : (first last : ℕ) (link : LinkState) (es : List Entry) → link.read_faults ≡ 0 → link.read_waits ≡ 0
    → AllByRecursion (BeganInCall first last new_mem_state.state link) es
    → AllByRecursion IsKeptOn es
all_kept first last link [] none ready h = tt
all_kept first last link (e ∷ more) none ready h =
    (kept_on first last link e none ready h.0, all_kept first last link more none ready h.1)

-- what the call that serves it gives
pub record IsCalled {C A J : Type 0} (count first last : ℕ) (view : View MemState C A J)
    (answer : Progress) : Type 0 where
  pub few : count ≤ MOST_GENERATED
  pub fed : IsFed (generated count) view.session.link
  pub rule : Rule view.session.link
  pub accounted : Accounted link_state new_mem_state.state view.session view.done view.last
  pub agrees : Agrees (plain EchoGives) gen_terms new_mem_state.state view.session.link.state (entries view)
  pub served : AllByRecursion (BeganInCall first last new_mem_state.state view.session.link.state)
      (entries view)
  pub answers : AnswersFor link_state MOST_POLLS new_mem_state.state new_mem_state.state view answer
  pub shut : ShutBy false view.session.link.state view.end

over : {C A J : Type 0} (count first last : ℕ) (view : View MemState C A J) (answer : Progress)
    → IsCalled count first last view answer
    → Over count new_mem_state.state new_mem_state.state view.session.link.state view.done view.last
over count first last view answer c =
    let never = never_waits (generated count) view.session.link c.fed c.rule in
    record {
      few = c.few;
      gave = gave (generated count) view.session.link c.fed c.rule;
      faultless = record {
        reads = λ rose. omega (arith, rose, never.read_faults);
        writes = λ rose. omega (arith, rose, never.write_faults);
      };
      ready = record {
        reads = λ rose. omega (arith, rose, never.reads);
        writes = λ rose. omega (arith, rose, never.writes);
      };
      holding = unlimited Forgotten true;
      roomy = omega arith;
      agrees = c.agrees;
      kept = all_kept first last view.session.link.state (entries view) never.read_faults never.reads c.served;
      behind = read_map view.done new_mem_state.state.given view.session.link.state.given
          (λ rest. ReadSo rest view.session view.last) (λ rest. Unit {0})
          (λ rest h. tt) c.accounted.read;
    }

-- it never waits until its last poll
never_pending : {C A J : Type 0} (count first last : ℕ) (view : View MemState C A J)
    (answer : Progress) → IsCalled count first last view answer
    → Waited 0 MOST_POLLS new_mem_state.state view.session.link.state → ⊥
never_pending count first last view answer c w =
    let never = never_waits (generated count) view.session.link c.fed c.rule in
    let told = c.rule.written in
    let none_reads : w.reads ≡ 0 = omega (arith, w.reads_rose, never.reads, w.all) in
    let none_writes : w.writes ≡ 0 = omega (arith, w.writes_rose, never.writes, w.all) in
    let all : 64 * w.budgets ≡ 64_000_000 = omega (arith, w.all, none_reads, none_writes) in
    never_spent count new_mem_state.state new_mem_state.state view.session.link.state view.done
    view.last told.0 (over count first last view answer c) refl told.1
    (subst (λ n. ToldGrowth new_mem_state.state.given view.session.link.state.given
    new_mem_state.state.written view.session.link.state.written n) all w.moved)

served_many : (done : List Entry) (requests : List Message) → AreServed done requests
    → length done ≡ length requests
served_many [] [] h = refl
served_many [] (m ∷ more) h = absurd h
served_many (e ∷ later) [] h = absurd h
served_many (e ∷ later) (m ∷ more) h = let rest = served_many later more h.3 in omega (arith, rest)

-- it serves all
pub whole_of : {C A J : Type 0} (count first last : ℕ) (view : View MemState C A J)
    (answer : Progress)
    → IsCalled count first last view answer → failure_of answer ≡ None → IsServedWhole count view
unfolding over gave
whole_of count first last view (progress.Pending what) c none =
    absurd (never_pending count first last view (progress.Pending what) c c.answers.1)
whole_of count first last view (progress.Ready end.Finished) c none =
    let o = over count first last view (progress.Ready end.Finished) c in
    let all =
    ends_served count new_mem_state.state new_mem_state.state view.session.link.state view.done
    view.last end.Finished o c.answers.1 in
    let ended : view.session.link.state.ended ≡ true = elim c.answers.1.1 [
      | inl met ↦ met
      | inr rose ↦ absurd (o.ready.reads rose)
    ] in
    let rest : drop view.session.link.state.bytes_in (generated count) ≡ [] = o.gave.ended ended in
    let split = take-append-drop view.session.link.state.bytes_in (generated count) in
    let front : take view.session.link.state.bytes_in (generated count) ≡ generated count =
    sym (append-nil (take view.session.link.state.bytes_in (generated count)))
    ∙ ap (λ xs. take view.session.link.state.bytes_in (generated count) ++ xs) (sym rest)
    ∙ split in
    let last_none : entries view ≡ view.done =
    ap (λ o. view.done ++ option_to_list o) all.0.none ∙ append-nil view.done in
    record {
      end = c.answers.0;
      given = o.gave.now_is ∙ ap Some front;
      ended = ended;
      shut = subst (ShutBy false view.session.link.state) c.answers.0 c.shut;
      many = ap length last_none ∙ served_many view.done (messages count) all.1 ∙ many count;
      served_all = all.1;
      complete = all.0;
      agrees = c.agrees;
    }
whole_of count first last view (progress.Ready end.NotKept) c none =
    absurd (ends_served count new_mem_state.state new_mem_state.state view.session.link.state
    view.done view.last end.NotKept
    (over count first last view (progress.Ready end.NotKept) c) c.answers.1)
whole_of count first last view (progress.Ready end.Overread) c none =
    absurd (ends_served count new_mem_state.state new_mem_state.state view.session.link.state
    view.done view.last end.Overread
    (over count first last view (progress.Ready end.Overread) c) c.answers.1)
whole_of count first last view (progress.Ready (end.Failed error)) c none =
    absurd (some_none error none)

-- or it wanted memory
pub memory_of : {C A J : Type 0} (count first last : ℕ) (view : View MemState C A J)
    (answer : Progress) (error : Error)
    → IsCalled count first last view answer → failure_of answer ≡ Some error → error.kind ≡ NoMemory
memory_of count first last view (progress.Pending what) error c some =
    absurd (some_none error (sym some))
memory_of count first last view (progress.Ready end.Finished) error c some =
    absurd (some_none error (sym some))
memory_of count first last view (progress.Ready end.NotKept) error c some =
    absurd (some_none error (sym some))
memory_of count first last view (progress.Ready end.Overread) error c some =
    absurd (some_none error (sym some))
memory_of count first last view (progress.Ready (end.Failed met)) error c some =
    let same : met ≡ error = cc in
    ap (λ (e : Error). e.kind) (sym same)
    ∙ ends_served count new_mem_state.state new_mem_state.state view.session.link.state view.done
    view.last (end.Failed met)
    (over count first last view (progress.Ready (end.Failed met)) c) c.answers.1

-- a connection that is ready, served by the call
pub record IsCall (count first last : ℕ) (from to : EchoedView MemState)
    (answer : Progress) : Type 0 where
  pub few : count ≤ MOST_GENERATED
  pub ready : IsReady count from
  pub rule : Rule to.session.link
  pub terms : to.terms ≡ from.terms
  pub plan : SamePlan from.session.link to.session.link
  pub shut : ShutBy from.session.link.state.shut to.session.link.state to.end
  pub accounted : (before : LinkState)
      → Accounted link_state before from.session from.done from.last
      → Accounted link_state before to.session to.done to.last
  pub agrees : (before : LinkState) → Accounted link_state before from.session from.done from.last
      → Agrees (plain EchoGives) to.terms before to.session.link.state (entries to)
  pub served : AllByRecursion (BeganInCall first last from.session.link.state to.session.link.state)
      (entries to)
  pub answers : (before : LinkState) → Accounted link_state before from.session from.done from.last
      → AnswersFor link_state MOST_POLLS before from.session.link.state to answer

pub called : (count first last : ℕ) (from to : EchoedView MemState)
    (answer : Progress)
    → IsCall count first last from to answer → IsCalled count first last to answer
called count first last from to answer c = record {
  few = c.few;
  fed = fed_on (generated count) from.session.link to.session.link c.ready.fed c.plan;
  rule = c.rule;
  accounted = c.accounted new_mem_state.state c.ready.accounted;
  agrees = subst (λ l. Agrees (plain EchoGives) l new_mem_state.state to.session.link.state (entries to))
      (c.terms ∙ c.ready.terms) (c.agrees new_mem_state.state c.ready.accounted);
  served = subst
      (λ s. AllByRecursion (BeganInCall first last s to.session.link.state) (entries to))
      c.ready.state c.served;
  answers =
      subst (λ s. AnswersFor link_state MOST_POLLS new_mem_state.state s to answer) c.ready.state
      (c.answers new_mem_state.state c.ready.accounted);
  shut = subst (λ (s : LinkState). ShutBy s.shut to.session.link.state to.end) c.ready.state
      c.shut;
}

pub if_ok : {T E : Type 0} (r : Result T E) (P Q : T → Type 0) → ((x : T) → P x → Q x) → IfOk r P
    → IfOk r Q
if_ok (Ok x) P Q goes h = goes x h
if_ok (Err e) P Q goes h = tt

pub if_err : {T E : Type 0} (r : Result T E) (P Q : E → Type 0) → ((x : E) → P x → Q x) → IfErr r P
    → IfErr r Q
if_err (Ok x) P Q goes h = tt
if_err (Err e) P Q goes h = goes e h

-- before the first poll
pub ready_of : (count : ℕ) (server : Served EchoApp NoModules) (options : Option HttpServerOptions)
    (link : MemState) (made : EchoedView MemState)
    → terms_of options true ≡ gen_terms
    → link ≡ record new_mem_state {
      put = generated count;
      end_at = Some (length (generated count));
    }
    → IsNewConnection server options true link made
    → Accounted link_state link.state made.session made.done made.last → IsReady count made
ready_of count server options link made plain is new accounted =
    let linked : made.session.link ≡ record new_mem_state {
      put = generated count;
      end_at = Some (length (generated count));
    } = new.link ∙ is in
    record {
      unpolled = record { done = new.done; last = new.last; work = new.work; end = new.end };
      terms = new.terms ∙ plain;
      fed = rw linked
          (record {
            put = refl;
            end_at = refl;
            gate = refl;
            reads = refl;
            writes = refl;
            read_faults = refl;
            write_faults = refl;
          });
      state = ap link_state linked;
      accounted =
          subst (λ l. Accounted link_state l made.session made.done made.last)
          (ap link_state is) accounted;
    }

-- the link before its first call
pub fed_link : (count : ℕ) (fresh fed ended : MemState) (bytes items : List ℕ)
    → fresh ≡ new_mem_state → bytes ≡ items → items ≡ generated count
    → fed ≡ record fresh { put = fresh.put ++ bytes; reads_noted = fresh.state.read_waits }
    → ended ≡ record fed {
      end_at = Some (unwrap_or fed.end_at (length fed.put));
      reads_noted = fed.state.read_waits;
    }
    → ended ≡ record new_mem_state {
      put = generated count;
      end_at = Some (length (generated count));
    }
fed_link count fresh fed ended bytes items new same made given said =
    said ∙ ap
    (λ (l : MemState). record l {
      end_at = Some (unwrap_or l.end_at (length l.put));
      reads_noted = l.state.read_waits;
    })
    (given ∙ ap
    (λ (l : MemState). record l { put = l.put ++ bytes; reads_noted = l.state.read_waits }) new
    ∙ ap (λ (xs : List ℕ). record new_mem_state { put = xs; reads_noted = 0 }) (same ∙ made))

pub ok_of : {T E : Type 0} (r : Result T E) (P Q R : T → Type 0) → ((x : T) → P x → Q x → R x)
    → IsOkAnd r P → IfOk r Q → IfOk r R
ok_of (Ok x) P Q R goes one other = goes x one other
ok_of (Err e) P Q R goes one other = tt
