-- What polls leave of the link: its counts, its bytes and its mark.
use Rattle.std.proofs.Common.{◌≡◌, ℕ, ◌+◌, ◌*◌, ◌<◌, ◌≤◌, ◌⊎◌, inl, inr, List, [], ◌∷◌, length, ◌++◌, Bool, false, option_to_list, Option, Some, None, IfSome, IfNone, refl, sym, ◌∙◌, ap, subst, arith, length-append}
use Rattle.std.specs.Io.KnownBytes.{append_known}
use Rattle.std.proofs.lemmas.Bool.{cases_lt}
use Rattle.h1_error.specs.declared.progress.End.{End}
use Rattle.h1_error.specs.declared.progress.End.TheVariants as end
use Rattle.h1_error.specs.declared.error.ErrorType.{ErrorType}
use Rattle.h1_error.specs.declared.error.ErrorType.TheVariants as kind
use Rattle.h1_error.specs.declared.progress.Progress.{Progress}
use Rattle.h1_error.specs.declared.progress.Progress.TheVariants as progress
use Rattle.h1_error.specs.declared.progress.Waiting.{Waiting}
use Rattle.h1_error.specs.declared.progress.Waiting.TheVariants as waiting
use Rattle.h1_link.specs.Later.{Later}
use Rattle.h1_link.specs.LinkState.{LinkState}
use Rattle.h1_link.proofs.Laters.{later_itself, later_on}
use Rattle.h1_transcript.specs.Entry.{Entry}
use Rattle.h1_transcript.specs.Entries.{replies}
use Rattle.h1_transcript.specs.Growth.{Extends}
use Rattle.h1_transcript.specs.Told.{ToldGrowth}
use Rattle.h1_transfer.specs.declared.budget.TheConstants.{CALL_BUDGET}
use Rattle.h1_app.specs.declared.exchange.Stage.{Stage}
use Rattle.h1_app.specs.declared.exchange.Stage.TheVariants as stage
use Rattle.h1_app.specs.Causes.{PendedNew, PendedOn, PendedBy, WaitCause}
use Rattle.h1_app.specs.Leaves.{Leaves, NotesFault, WritesHeld, ReadsHeld, ReadsHeldBy, ShutBy}
use Rattle.h1_app.specs.View.{View, entries}
use Rattle.h1_serving.specs.Served.{NotedIn, LeavesInCall, PendedLast, PendedOnce, WaitedBy, WaitsFor}

-- a poll that waited for the application leaves a job whose count rose
pended_new : {J : Type 0} (begins : J → Type 0) (pends : J → ℕ) (to : Stage J)
    → PendedNew begins pends to → PendedLast pends to
pended_new begins pends (stage.Answer job) p = (p.0, p.2)
pended_new begins pends _ p = p

pended_on : {J : Type 0} (begins : J → Type 0) (pends : J → ℕ) (from to : Stage J)
    → PendedOn begins pends from to → PendedLast pends to
pended_on begins pends (stage.Answer before) (stage.Answer job) p = (before, p)
pended_on begins pends stage.Head to p = pended_new begins pends to p
pended_on begins pends (stage.Answer before) _ p = p
pended_on begins pends _ to p = absurd p

pub pended_last : {L C A J : Type 0} (begins : J → Type 0) (pends : J → ℕ) (from to : View L C A J)
    → PendedBy begins pends from.done to.done from.stage to.stage → PendedLast pends to.stage
pended_last begins pends from to p = by (cases_lt (length from.done) (length to.done)) where
  by : (length from.done < length to.done) ⊎ (length to.done ≤ length from.done)
      → PendedLast pends to.stage
  by (inl more) = pended_new begins pends to.stage (p.later more)
  by (inr few) =
      pended_on begins pends from.stage to.stage (p.same (omega (arith, few, p.longer)))

pended_once : {J : Type 0} (pends : J → ℕ) (to : Stage J) → PendedLast pends to
    → (job : J) × PendedOnce pends job
pended_once pends (stage.Answer job) p = (job, p)
pended_once pends _ p = absurd p

-- bytes that were told of stay told of
told_more : (g w : Option (List ℕ)) (gs gt ws wt : List ℕ) (count more : ℕ)
    → ToldGrowth g (append_known g gs) w (append_known w ws) count
    → ToldGrowth (append_known g gs) (append_known (append_known g gs) gt) (append_known w ws)
    (append_known (append_known w ws) wt) more
    → ToldGrowth g (append_known (append_known g gs) gt) w (append_known (append_known w ws) wt)
    (count + more)
told_more None w gs gt ws wt count more first second = tt
told_more (Some g) None gs gt ws wt count more first second = tt
told_more (Some g) (Some w) gs gt ws wt count more first second = omega (arith, first, second)

told_none : (g w : Option (List ℕ)) (gs ws : List ℕ)
    → ToldGrowth g (append_known g gs) w (append_known w ws) 0
told_none None w gs ws = tt
told_none (Some g) None gs ws = tt
told_none (Some g) (Some w) gs ws = omega (arith, length-append g gs, length-append w ws)

-- the growth over two stretches
pub told_on : (a b c : LinkState) (count more : ℕ) → Later a b → Later b c
    → ToldGrowth a.given b.given a.written b.written count
    → ToldGrowth b.given c.given b.written c.written more
    → ToldGrowth a.given c.given a.written c.written (count + more)
told_on a b c count more first second x y =
    let gb = first.given.1 in
    let wb = first.written.1 in
    let gc = second.given.1 ∙ ap (λ o. append_known o second.given.0) gb in
    let wc = second.written.1 ∙ ap (λ o. append_known o second.written.0) wb in
    let one =
    subst (λ o. ToldGrowth a.given o a.written
    (append_known a.written first.written.0) count) gb
    (subst (λ o. ToldGrowth a.given b.given a.written o count) wb x) in
    let two =
    subst (λ o. ToldGrowth (append_known a.given first.given.0) o
    (append_known a.written first.written.0)
    (append_known (append_known a.written first.written.0) second.written.0) more) gc
    (subst (λ o. ToldGrowth (append_known a.given first.given.0) c.given
    (append_known a.written first.written.0) o more) wc
    (subst (λ o. ToldGrowth o c.given (append_known a.written first.written.0) c.written more) gb
    (subst (λ o. ToldGrowth b.given c.given o c.written more) wb y))) in
    let both =
    told_more a.given a.written first.given.0 second.given.0 first.written.0 second.written.0
    count more one two in
    subst (λ o. ToldGrowth a.given c.given a.written o (count + more)) (sym wc)
    (subst (λ o. ToldGrowth a.given o a.written
    (append_known (append_known a.written first.written.0) second.written.0) (count + more))
    (sym gc) both)

pub told_later : (a b : LinkState) → Later a b → ToldGrowth a.given b.given a.written b.written 0
told_later a b later =
    subst (λ o. ToldGrowth a.given o a.written b.written 0) (sym later.given.1)
    (subst (λ o. ToldGrowth a.given (append_known a.given later.given.0) a.written o 0)
    (sym later.written.1)
    (told_none a.given a.written later.given.0 later.written.0))

-- no poll was made
pub waited_none : {J : Type 0} (pends : J → ℕ) (a : LinkState) → Later a a → WaitedBy pends 0 a a
waited_none pends a later = (
  0,
  record {
    reads = 0;
    writes = 0;
    budgets = 0;
    all = refl;
    reads_rose = omega arith;
    writes_rose = omega arith;
    moves_rose = omega arith;
    moved = told_later a a later;
  },
  λ some. absurd (omega (arith, some)),
)

told_count : (a b : LinkState) (m n : ℕ) → m ≡ n → ToldGrowth a.given b.given a.written b.written m
    → ToldGrowth a.given b.given a.written b.written n
told_count a b m n same h = subst (λ k. ToldGrowth a.given b.given a.written b.written k) same h

-- one poll more waited
pub waited_on : {L C A J : Type 0} (begins : J → Type 0) (pends : J → ℕ) (polls : ℕ)
    (before a b c : LinkState) (from to : View L C A J) (what : Waiting)
    → Later a b → Later b c → WaitedBy pends polls a b
    → WaitCause begins pends before b c from to what → WaitedBy pends (polls + 1) a c
waited_on begins pends polls before a b c from to waiting.Read first second (apps, w, job) why = (
  apps,
  record {
    reads = w.reads + 1;
    writes = w.writes;
    budgets = w.budgets;
    all = omega (arith, w.all);
    reads_rose = let rose = why.0 in omega (arith, rose, w.reads_rose);
    writes_rose = omega (arith, w.writes_rose, second.counts.write_waits);
    moves_rose = omega (arith, w.moves_rose, second.counts.moves);
    moved = told_count a c (CALL_BUDGET * w.budgets + 0) (CALL_BUDGET * w.budgets) (omega arith)
        (told_on a b c (CALL_BUDGET * w.budgets) 0 first second w.moved (told_later b c second));
  },
  job,
)
waited_on begins pends polls before a b c from to waiting.Write first second (apps, w, job) why = (
  apps,
  record {
    reads = w.reads;
    writes = w.writes + 1;
    budgets = w.budgets;
    all = omega (arith, w.all);
    reads_rose = omega (arith, w.reads_rose, second.counts.read_waits);
    writes_rose = let rose = why.0 in omega (arith, rose, w.writes_rose);
    moves_rose = omega (arith, w.moves_rose, second.counts.moves);
    moved = told_count a c (CALL_BUDGET * w.budgets + 0) (CALL_BUDGET * w.budgets) (omega arith)
        (told_on a b c (CALL_BUDGET * w.budgets) 0 first second w.moved (told_later b c second));
  },
  job,
)
waited_on begins pends polls before a b c from to waiting.App first second (apps, w, job) why = (
  apps + 1,
  record {
    reads = w.reads;
    writes = w.writes;
    budgets = w.budgets;
    all = omega (arith, w.all);
    reads_rose = omega (arith, w.reads_rose, second.counts.read_waits);
    writes_rose = omega (arith, w.writes_rose, second.counts.write_waits);
    moves_rose = omega (arith, w.moves_rose, second.counts.moves);
    moved = told_count a c (CALL_BUDGET * w.budgets + 0) (CALL_BUDGET * w.budgets) (omega arith)
        (told_on a b c (CALL_BUDGET * w.budgets) 0 first second w.moved (told_later b c second));
  },
  λ more. pended_once pends to.stage (pended_last begins pends from to why.1),
)
waited_on begins pends polls before a b c from to waiting.Budget first second (apps, w, job) why = (
  apps,
  record {
    reads = w.reads;
    writes = w.writes;
    budgets = w.budgets + 1;
    all = omega (arith, w.all);
    reads_rose = omega (arith, w.reads_rose, second.counts.read_waits);
    writes_rose = omega (arith, w.writes_rose, second.counts.write_waits);
    moves_rose = let rose = why.0 in omega (arith, rose, w.moves_rose);
    moved = told_count a c (CALL_BUDGET * w.budgets + CALL_BUDGET) (CALL_BUDGET * (w.budgets + 1))
        (omega arith)
        (told_on a b c (CALL_BUDGET * w.budgets) CALL_BUDGET first second w.moved why.1);
  },
  job,
)

-- what a poll waits for, it waits for in the whole call
pub waits_in_call : {L C A J : Type 0} (begins : J → Type 0) (pends : J → ℕ)
    (before a b c : LinkState) (from to : View L C A J) (what : Waiting)
    → Later a b → Later b c → WaitCause begins pends before b c from to what
    → WaitsFor (PendedLast pends to.stage) before a c to.done to.last what
waits_in_call begins pends before a b c from to waiting.Read first second cause =
    (let rose = cause.0 in omega (arith, rose, first.counts.read_waits), cause.1)
waits_in_call begins pends before a b c from to waiting.Write first second cause =
    (let rose = cause.0 in omega (arith, rose, first.counts.write_waits), cause.1)
waits_in_call begins pends before a b c from to waiting.App first second cause =
    pended_last begins pends from to cause.1
waits_in_call begins pends before a b c from to waiting.Budget first second cause = (
  let rose = cause.0 in omega (arith, rose, first.counts.moves),
  told_count a c (0 + CALL_BUDGET) CALL_BUDGET (omega arith)
      (told_on a b c 0 CALL_BUDGET first second (told_later a b first) cause.1),
)

-- what one poll leaves of its link
pub record PollLeaves {L C A J : Type 0} (state : L → LinkState) (from to : View L C A J)
    (answer : Progress) : Type 0 where
  pub leaves : IfNone from.end
      (Leaves (state from.session.link) (state to.session.link) to.last to.end)
  pub ended : IfSome from.end (λ reason. (answer ≡ progress.Ready reason) × (to ≡ from))
  pub moves : (state to.session.link).moves ≤ (state from.session.link).moves + CALL_BUDGET
  pub reads_not_ready : (state to.session.link).read_waits + replies (entries from)
      ≤ (state from.session.link).read_waits + replies (entries to) + 1
  pub others : (state to.session.link).others + 3 * length from.done
      ≤ (state from.session.link).others + 3 * length (entries to) + 1

pub poll_leaves : {L C A J : Type 0} {state : L → LinkState} {from to : View L C A J}
    {answer : Progress}
    → IfNone from.end (Leaves (state from.session.link) (state to.session.link) to.last to.end)
    → IfSome from.end (λ reason. (answer ≡ progress.Ready reason) × (to ≡ from))
    → (state to.session.link).moves ≤ (state from.session.link).moves + CALL_BUDGET
    → (state to.session.link).read_waits + replies (entries from)
    ≤ (state from.session.link).read_waits + replies (entries to) + 1
    → (state to.session.link).others + 3 * length from.done
    ≤ (state from.session.link).others + 3 * length (entries to) + 1
    → PollLeaves state from to answer
poll_leaves leaves ended moves reads_not_ready others = record {
  leaves = leaves;
  ended = ended;
  moves = moves;
  reads_not_ready = reads_not_ready;
  others = others;
}

-- before the first poll
pub leaves_none : (a : LinkState) (es : List Entry) → LeavesInCall 0 a a es None
leaves_none a es = record {
  later = later_itself a;
  writes = refl;
  reads = inr (inl refl);
  shut = refl;
  moves = omega arith;
  reads_not_ready = omega arith;
  others = omega arith;
}

pub at_none : {X : Type 0} (o : Option X) (P : Type 0) → o ≡ None → IfNone o P → P
at_none o P is h = subst (λ o. IfNone o P) is h

-- one exchange more at most than those that are done
one_more : (done : List Entry) (last : Option Entry)
    → length (done ++ option_to_list last) ≤ length done + 1
one_more done None = let none : List Entry = [] in omega (arith, length-append done none)
one_more done (Some e) = omega (arith, length-append done (option_to_list (Some e)))

-- an exchange goes on to note a fault
noted_on : (now : ℕ) (shutdown : Bool) (first second : LinkState) (old new : List Entry)
    → Extends now shutdown first second old new → NotedIn old → NotedIn new
noted_on now shutdown first second [] new h noted = absurd noted
noted_on now shutdown first second (e ∷ []) [] h noted = absurd h
noted_on now shutdown first second (e ∷ []) (n ∷ more) h (inl noted) =
    inl (noted.0, (rw noted.1 at h.0.body_error), noted.2)
noted_on now shutdown first second (e ∷ []) (n ∷ more) h (inr noted) = absurd noted
noted_on now shutdown first second (e ∷ f ∷ later) [] h noted = absurd h
noted_on now shutdown first second (e ∷ f ∷ later) (n ∷ more) h (inl noted) =
    inl (subst (λ e. NotesFault (Some e)) (sym h.0) noted)
noted_on now shutdown first second (e ∷ f ∷ later) (n ∷ more) h (inr noted) =
    inr (noted_on now shutdown first second (f ∷ later) more h.1 noted)

-- the last exchange is among them
noted_last : (done : List Entry) (last : Option Entry) → NotesFault last
    → NotedIn (done ++ option_to_list last)
noted_last done None noted = absurd noted
noted_last [] (Some e) noted = inl noted
noted_last (d ∷ more) (Some e) noted = inr (noted_last more (Some e) noted)

-- a failed read is noted in an exchange or told by an error of this kind
noted_by : (before now : ℕ) (done : List Entry) (last : Option Entry) (why : ErrorType)
    → ReadsHeldBy before now last why
    → NotedIn (done ++ option_to_list last) ⊎ ReadsHeldBy before now None why
noted_by before now done last kind.ReadError h = inr tt
noted_by before now done last _ (inl same) = inr (inl same)
noted_by before now done last _ (inr noted) = inl (noted_last done last noted)

-- or told in the end
noted_of : (before now : ℕ) (done : List Entry) (last : Option Entry) (reason : Option End)
    → ReadsHeld before now last reason
    → NotedIn (done ++ option_to_list last) ⊎ ReadsHeld before now None reason
noted_of before now done last (Some (end.Failed error)) h =
    noted_by before now done last error.kind h
noted_of before now done last _ (inl same) = inr (inl same)
noted_of before now done last _ (inr noted) = inl (noted_last done last noted)

-- what is left after one poll more, which changes nothing after an end
pub leaves_on : {L C A J : Type 0} (state : L → LinkState) (polls most now : ℕ) (a : LinkState)
    (at to : View L C A J) (answer : Progress) → polls + 1 ≤ most
    → LeavesInCall polls a (state at.session.link) (entries at) at.end
    → Later (state at.session.link) (state to.session.link)
    → Extends now false (state at.session.link) (state to.session.link) (entries at) (entries to)
    → PollLeaves state at to answer
    → LeavesInCall most a (state to.session.link) (entries to) to.end
leaves_on {L} {C} {A} {J} state polls most now a at to answer few first later extends p =
    let held = by_end at.end refl in
    record {
      later = later_on a (state at.session.link) (state to.session.link) first.later later;
      writes = held.0;
      reads = held.1;
      shut = held.2;
      moves = omega (arith, few, first.moves, p.moves);
      reads_not_ready = omega (arith, few, first.reads_not_ready, p.reads_not_ready);
      others = omega (arith, few, first.others, p.others, one_more at.done at.last);
    }
  where
    Held : View L C A J → Option End → Type 0
    Held view reason = WritesHeld a.write_faults (state view.session.link).write_faults reason
        × (NotedIn (entries view)
        ⊎ ReadsHeld a.read_faults (state view.session.link).read_faults None reason)
        × ShutBy a.shut (state view.session.link) reason

    by_reads : NotedIn (entries at)
        ⊎ ReadsHeld a.read_faults (state at.session.link).read_faults None None
        → ReadsHeld (state at.session.link).read_faults (state to.session.link).read_faults to.last
        to.end
        → NotedIn (entries to)
        ⊎ ReadsHeld a.read_faults (state to.session.link).read_faults None to.end
    by_reads (inl noted) reads = inl (noted_on now false (state at.session.link)
        (state to.session.link) (entries at) (entries to) extends noted)
    by_reads (inr (inl same)) reads =
        noted_of a.read_faults (state to.session.link).read_faults to.done to.last to.end
        (subst (λ n. ReadsHeld n (state to.session.link).read_faults to.last to.end) same reads)
    by_reads (inr (inr none)) reads = absurd none

    by_end : (o : Option End) → at.end ≡ o → Held to to.end
    by_end None is =
        let was = subst (λ o. Held at o) is (first.writes, first.reads, first.shut) in
        let second =
        at_none at.end (Leaves (state at.session.link) (state to.session.link) to.last to.end) is
        p.leaves in (
          subst (λ n. WritesHeld n (state to.session.link).write_faults to.end) was.0 second.writes,
          by_reads was.1 second.reads,
          subst (λ t. ShutBy t (state to.session.link) to.end) was.2 second.shut,
        )
    by_end (Some reason) is =
        let same =
        subst (λ o. IfSome o (λ why. (answer ≡ progress.Ready why) × (to ≡ at))) is p.ended in
        subst (λ (view : View L C A J). Held view view.end) (sym same.1)
        (first.writes, first.reads, first.shut)
