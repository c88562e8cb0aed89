-- Lemmas on scripts whose polls are all at one moment, and whose connection finished.
use Rattle.std.proofs.Common.{◌≡◌, ◌⊎◌, inl, inr, ℕ, ◌+◌, ◌/◌, List, [], ◌∷◌, ◌++◌, Bool, true, option_to_list, Option, Some, None, IfSome, IfNone, refl, sym, ap, subst, ◌∙◌, append-nil, append_assoc}
use Rattle.std.specs.List.{AllByRecursion, flat_map}
use Rattle.std.proofs.lemmas.List.Concat.{flat_map-cons}
use Rattle.h1_error.specs.declared.progress.End.{End}
use Rattle.h1_error.specs.declared.progress.End.TheVariants as end
use Rattle.h1_error.specs.declared.progress.Progress.{Progress}
use Rattle.h1_error.specs.declared.progress.Progress.TheVariants as progress
use Rattle.h1_error.specs.declared.progress.Waiting.TheVariants as waiting
use Rattle.h1_link.specs.Counts.{raised}
use Rattle.h1_link.specs.LinkState.{LinkState}
use Rattle.h1_link.specs.declared.memory.gate.Gate.TheVariants.{Room, Blocked}
use Rattle.h1_head.specs.Views.{ResponseView}
use Rattle.h1_words.specs.Script.{ScriptOutcome, script_of, commands}
use Rattle.h1_words.specs.declared.command.Command.{Command}
use Rattle.h1_words.specs.declared.command.Command.TheVariants as command
use Rattle.h1_transcript.specs.Entry.{Entry}
use Rattle.h1_transcript.specs.Behind.{ReadBehind, WroteBehind, FlushedBy}
use Rattle.h1_transcript.specs.Ends.{EndCause, ReadAll}
use Rattle.h1_transcript.specs.Refusals.{EndsBy}
use Rattle.h1_transcript.specs.Rules.{Filters}
use Rattle.h1_transcript.specs.Exchange.{IsAllowed}
use Rattle.h1_transcript.specs.Growth.{DatedAt, IsBegun, Extends}
use Rattle.h1_transcript.specs.Stream.{empty}
use Rattle.h1_transcript.proofs.CompleteLemmas.{told_of}
use Rattle.h1_serve.specs.State.{State, new_link, start_with, rules, transcript}
use Rattle.h1_app.specs.Timely.{EndsInTime, IsLateHead}
use Rattle.h1_app.specs.Work.{head_since}
use Rattle.h1_serve.specs.PollLine.{AnswerCause, AnswersInTime, Polls, poll_line, work_before}
use Rattle.h1_serve.specs.ExchangeText.{exchanges_lines, wrote_line}
use Rattle.h1_marking.specs.Marking.{MarkingModule, marking_rules}
use Rattle.h1_serve.specs.Report.{Obeys, Lines, IsTextOf, limit_in, modules_in}
use Rattle.h1_serve.specs.Finished.{ArePolledAt, IsFinished, IsBehindPolls}
use Rattle.h1_serve.proofs.SinceLemmas.{IsSinceHere, never_late, since_before, since_behind}
use Rattle.h1_serve.proofs.AlikeLemmas.{IsDatedBy, AreEnded, alike, alike_lines, alike_written}

-- an exchange goes on or begins with the date of its moment
dated_on : (moment : ℕ) (head : Option ResponseView) (old new : Entry) → old.sent_head ≡ head
    → DatedAt moment head old new → IsDatedBy (moment / 1000) old → IsDatedBy (moment / 1000) new
dated_on moment None old new is dated before = dated
dated_on moment (Some header) old new is dated before =
    any new.sent_head (dated.0 ∙ subst (λ o. IfSome o (λ h. old.date ≡ moment / 1000)) is before)
  where
    any : (o : Option ResponseView) → new.date ≡ moment / 1000
        → IfSome o (λ h. new.date ≡ moment / 1000)
    any None e = tt
    any (Some h) e = e

dated_begun : (moment : ℕ) (shut : Bool) (before behind : LinkState) (new : List Entry)
    → AllByRecursion (IsBegun moment shut before behind) new
    → AllByRecursion (IsDatedBy (moment / 1000)) new
dated_begun moment shut before behind [] h = tt
dated_begun moment shut before behind (e ∷ more) h = (h.0.dated, dated_begun moment shut before behind more h.1)

dated_all : (moment : ℕ) (shut : Bool) (before behind : LinkState) (old new : List Entry)
    → Extends moment shut before behind old new → AllByRecursion (IsDatedBy (moment / 1000)) old
    → AllByRecursion (IsDatedBy (moment / 1000)) new
dated_all moment shut before behind [] new h dated = dated_begun moment shut before behind new h
dated_all moment shut before behind (e ∷ []) [] h dated = absurd h
dated_all moment shut before behind (e ∷ []) (n ∷ more) h dated =
    (dated_on moment e.sent_head e n refl h.0.dated dated.0, dated_begun moment shut before behind more h.1)
dated_all moment shut before behind (e ∷ f ∷ later) [] h dated = absurd h
dated_all moment shut before behind (e ∷ f ∷ later) (n ∷ more) h dated = (
  subst (IsDatedBy (moment / 1000)) (sym h.0) dated.0,
  dated_all moment shut before behind (f ∷ later) more h.1 dated.1,
)

-- how a connection stands that finished: it read what was put ahead at the last poll
record StandsFinished (polled : List ℕ) (s : State) : Type 0 where
  ended : s.link.ended ≡ true
  given : s.link.given ≡ Some polled
  cause : EndCause new_link s.link s.link s.done s.last end.Finished
  allowed : AllByRecursion (IsAllowed (rules s)) (transcript s)

-- what holds between two commands
record Holds (moment : ℕ) (polled : List ℕ) (s : State) : Type 0 where
  dated : AllByRecursion (IsDatedBy (moment / 1000)) (transcript s)
  -- a head is waited for since no other moment
  since : s.end ≡ None → IsSinceHere moment (head_since s.work)
  finished : s.end ≡ Some end.Finished → StandsFinished polled s

-- no refusal finishes a connection
not_refused : (filters : Filters) (old now : LinkState) (done : List Entry) (last : Option Entry)
    → EndsBy filters new_link old now done last end.Finished
    → EndCause new_link old now done last end.Finished
not_refused filters old now done last (inl cause) = cause
not_refused filters old now done last (inr refuses) = absurd refuses.0

-- a poll that answered that the connection finished has its cause: the link ended
finished_by : (moment : ℕ) (s t : State) (answer : Progress) → IsSinceHere moment (head_since s.work)
    → AnswersInTime moment s t answer → AnswerCause s t answer → t.end ≡ Some end.Finished
    → (t.link.ended ≡ true) × EndCause new_link t.link t.link t.done t.last end.Finished
finished_by moment s t (progress.Pending what) here timely cause is = absurd (never cause.0 is) where
  never : t.end ≡ None → t.end ≡ Some end.Finished → ⊥
  never e f = cc
finished_by moment s t (progress.Ready reason) here timely cause is =
    let same : reason ≡ end.Finished = one cause.0 is in
    let ends = not_refused (rules t).filters s.link t.link t.done t.last
    (subst (EndsBy (rules t).filters new_link s.link t.link t.done t.last) same cause.2) in
    let in_time : EndsInTime moment s.link t.link (work_before s t) t.work t.last end.Finished =
    subst (EndsInTime moment s.link t.link (work_before s t) t.work t.last) same timely in
    let ended = by in_time.moved in_time.ends in
    (ended, (ends.0, inl ended, ends.2))
  where
    one : t.end ≡ Some reason → t.end ≡ Some end.Finished → reason ≡ end.Finished
    one e f = cc

    by : (moved : Bool) → (t.link.ended ≡ true) ⊎ IsLateHead moment moved (work_before s t) t.work
        → t.link.ended ≡ true
    by moved (inl ended) = ended
    by moved (inr late) =
        absurd (never_late moment moved (work_before s t) t.work (since_before moment s t here) late)

-- by this poll, or by one before it
finished_so : (moment : ℕ) (polled : List ℕ) (s t : State) (answer : Progress) (before : Option End)
    → s.end ≡ before
    → Holds moment polled s → IfNone before (AnswersInTime moment s t answer) → IfNone before (AnswerCause s t answer)
    → IfSome before (λ reason. (answer ≡ progress.Ready reason) × (t ≡ s))
    → t.end ≡ Some end.Finished
    → (t.link.ended ≡ true) × EndCause new_link t.link t.link t.done t.last end.Finished
finished_so moment polled s t answer None at holds timely cause again is =
    finished_by moment s t answer (holds.since at) timely cause is
finished_so moment polled s t answer (Some reason) at holds timely cause again is =
    let Ended : State → Type 0 = λ s. (s.link.ended ≡ true)
    × EndCause new_link s.link s.link s.done s.last end.Finished in
    let was : s.end ≡ Some end.Finished = ap (λ (s : State). s.end) (sym again.1) ∙ is in
    let stands = holds.finished was in
    subst Ended (sym again.1) (stands.ended, stands.cause)

-- since when a head is waited for behind a poll
since_so : (moment : ℕ) (polled : List ℕ) (s t : State) (answer : Progress) (before : Option End)
    → s.end ≡ before → Holds moment polled s → IfNone before (AnswersInTime moment s t answer)
    → IfNone before (AnswerCause s t answer)
    → IfSome before (λ reason. (answer ≡ progress.Ready reason) × (t ≡ s)) → t.end ≡ None
    → IsSinceHere moment (head_since t.work)
since_so moment polled s t answer (Some reason) at holds timely cause again alive =
    let never : Some reason ≡ None = sym at ∙ ap (λ (s : State). s.end) (sym again.1) ∙ alive in absurd cc
since_so moment polled s t (progress.Pending what) None at holds timely cause again alive =
    since_behind moment s.link t.link (work_before s t) t.work (what ≡ waiting.Budget)
    (since_before moment s t (holds.since at)) timely
since_so moment polled s t (progress.Ready reason) None at holds timely cause again alive =
    let never : Some reason ≡ None = sym cause.0 ∙ alive in absurd cc

-- it holds after a poll
polled_holds : (moment : ℕ) (polled : List ℕ) (s t : State) (answer : Progress)
    → Holds moment polled s
    → Polls moment s answer t → Holds moment t.put t
polled_holds moment polled s t answer holds polls = record {
  dated = dated_all moment s.shut s.link t.link (transcript s) (transcript t) polls.extends holds.dated;
  since = since_so moment polled s t answer s.end refl holds polls.timely polls.cause polls.again;
  finished = λ is.
      let cause = finished_so moment polled s t answer s.end refl holds polls.timely polls.cause polls.again is in
      record {
        ended = cause.0;
        given = (polls.gives.ended cause.0).1;
        cause = cause.1;
        allowed = polls.agrees.allowed;
      };
}

-- what was put ahead at the last poll
abbrev polled_in : List ℕ → List ℕ → List Command → List ℕ
polled_in put polled [] = polled
polled_in put polled (command.Give bytes ∷ more) = polled_in (put ++ bytes) polled more
polled_in put polled (command.Poll moment ∷ more) = polled_in put put more
polled_in put polled (command.End ∷ more) = polled_in put polled more
polled_in put polled (command.Room count ∷ more) = polled_in put polled more
polled_in put polled (command.Block ∷ more) = polled_in put polled more
polled_in put polled (command.FaultRead ∷ more) = polled_in put polled more
polled_in put polled (command.FaultWrite ∷ more) = polled_in put polled more
polled_in put polled (command.Shutdown ∷ more) = polled_in put polled more
polled_in put polled (command.Limit count ∷ more) = polled_in put polled more
polled_in put polled (command.Mark number ∷ more) = polled_in put polled more
polled_in put polled (command.Refuse number ∷ more) = polled_in put polled more

-- and where the exchanges, the link and the end stay
same_holds : (moment : ℕ) (polled : List ℕ) (s t : State) → t.done ≡ s.done → t.last ≡ s.last
    → t.link ≡ s.link → t.end ≡ s.end → t.work ≡ s.work → t.modules ≡ s.modules
    → Holds moment polled s → Holds moment polled t
same_holds moment polled s t done last link ends work modules h =
    let entries : transcript t ≡ transcript s =
    ap (λ es. es ++ option_to_list t.last) done ∙ ap (λ e. s.done ++ option_to_list e) last in
    record {
      dated = subst (AllByRecursion (IsDatedBy (moment / 1000))) (sym entries) h.dated;
      since = λ alive. rw work (h.since (sym ends ∙ alive));
      finished = λ is.
          let was = h.finished (sym ends ∙ is) in
          record {
            ended = ap (λ (l : LinkState). l.ended) link ∙ was.ended;
            given = ap (λ (l : LinkState). l.given) link ∙ was.given;
            cause = rw (link, done, last) was.cause;
            allowed = rw modules (subst (AllByRecursion (IsAllowed (rules s))) (sym entries) was.allowed);
          };
    }

lines_hold : (moment : ℕ) (asked : List Command) (s : State) (polled text : List ℕ) (t : State)
    → ArePolledAt moment asked
    → Holds moment polled s → Lines s asked text t → Holds moment (polled_in s.put polled asked) t
lines_hold moment [] s polled text t at holds h = subst (Holds moment polled) (sym h.1) holds
lines_hold moment (command.Give bytes ∷ more) s polled text t at holds h =
    let next : State = record s { put = s.put ++ bytes } in
    let lines : Lines next more h.2 t = subst (λ s. Lines s more h.2 t) h.4.1 h.5 in
    lines_hold moment more next polled h.2 t at (same_holds moment polled s next refl refl refl refl refl refl holds) lines
lines_hold moment (command.End ∷ more) s polled text t at holds h =
    let next : State = record s { said = true } in
    let lines : Lines next more h.2 t = subst (λ s. Lines s more h.2 t) h.4.1 h.5 in
    lines_hold moment more next polled h.2 t at (same_holds moment polled s next refl refl refl refl refl refl holds) lines
lines_hold moment (command.Room count ∷ more) s polled text t at holds h =
    let next : State = record s { gate = Room (s.link.bytes_out + count) } in
    let lines : Lines next more h.2 t = subst (λ s. Lines s more h.2 t) h.4.1 h.5 in
    lines_hold moment more next polled h.2 t at (same_holds moment polled s next refl refl refl refl refl refl holds) lines
lines_hold moment (command.Block ∷ more) s polled text t at holds h =
    let next : State = record s { gate = Blocked } in
    let lines : Lines next more h.2 t = subst (λ s. Lines s more h.2 t) h.4.1 h.5 in
    lines_hold moment more next polled h.2 t at (same_holds moment polled s next refl refl refl refl refl refl holds) lines
lines_hold moment (command.FaultRead ∷ more) s polled text t at holds h =
    let next : State = record s { reads_due = raised s.link.read_faults 1 } in
    let lines : Lines next more h.2 t = subst (λ s. Lines s more h.2 t) h.4.1 h.5 in
    lines_hold moment more next polled h.2 t at (same_holds moment polled s next refl refl refl refl refl refl holds) lines
lines_hold moment (command.FaultWrite ∷ more) s polled text t at holds h =
    let next : State = record s { writes_due = raised s.link.write_faults 1 } in
    let lines : Lines next more h.2 t = subst (λ s. Lines s more h.2 t) h.4.1 h.5 in
    lines_hold moment more next polled h.2 t at (same_holds moment polled s next refl refl refl refl refl refl holds) lines
lines_hold moment (command.Shutdown ∷ more) s polled text t at holds h =
    let next : State = record s { shut = true } in
    let lines : Lines next more h.2 t = subst (λ s. Lines s more h.2 t) h.4.1 h.5 in
    lines_hold moment more next polled h.2 t at (same_holds moment polled s next refl refl refl refl refl refl holds) lines
lines_hold moment (command.Limit count ∷ more) s polled text t at holds h =
    lines_hold moment more s polled h.2 t at holds (subst (λ s. Lines s more h.2 t) h.4.1 h.5)
lines_hold moment (command.Mark number ∷ more) s polled text t at holds h =
    lines_hold moment more s polled h.2 t at holds (subst (λ s. Lines s more h.2 t) h.4.1 h.5)
lines_hold moment (command.Refuse number ∷ more) s polled text t at holds h =
    lines_hold moment more s polled h.2 t at holds (subst (λ s. Lines s more h.2 t) h.4.1 h.5)
lines_hold moment (command.Poll here ∷ more) s polled text t at holds h =
    let polls : Polls moment s h.4.0 h.1 = subst (λ n. Polls n s h.4.0 h.1) at.0 h.4.2 in
    let after = polled_holds moment polled s h.1 h.4.0 holds polls in
    let goes = lines_hold moment more h.1 h.1.put h.2 t at.1 after h.5 in
    subst (λ put. Holds moment (polled_in put put more) t) polls.gives.put goes

-- the lines are those of polls at the moment
poll_texts : (moment : ℕ) (asked : List Command) (s : State) (text : List ℕ) (t : State)
    → ArePolledAt moment asked
    → Lines s asked text t
    → (answers : List Progress) × (text ≡ flat_map (poll_line moment) answers)
poll_texts moment [] s text t at h = ([], h.0)
poll_texts moment (command.Give bytes ∷ more) s text t at h =
    let rest = poll_texts moment more h.1 h.2 t at h.5 in
    (rest.0, h.3 ∙ ap (λ xs. xs ++ h.2) h.4.0 ∙ rest.1)
poll_texts moment (command.End ∷ more) s text t at h =
    let rest = poll_texts moment more h.1 h.2 t at h.5 in
    (rest.0, h.3 ∙ ap (λ xs. xs ++ h.2) h.4.0 ∙ rest.1)
poll_texts moment (command.Room count ∷ more) s text t at h =
    let rest = poll_texts moment more h.1 h.2 t at h.5 in
    (rest.0, h.3 ∙ ap (λ xs. xs ++ h.2) h.4.0 ∙ rest.1)
poll_texts moment (command.Block ∷ more) s text t at h =
    let rest = poll_texts moment more h.1 h.2 t at h.5 in
    (rest.0, h.3 ∙ ap (λ xs. xs ++ h.2) h.4.0 ∙ rest.1)
poll_texts moment (command.FaultRead ∷ more) s text t at h =
    let rest = poll_texts moment more h.1 h.2 t at h.5 in
    (rest.0, h.3 ∙ ap (λ xs. xs ++ h.2) h.4.0 ∙ rest.1)
poll_texts moment (command.FaultWrite ∷ more) s text t at h =
    let rest = poll_texts moment more h.1 h.2 t at h.5 in
    (rest.0, h.3 ∙ ap (λ xs. xs ++ h.2) h.4.0 ∙ rest.1)
poll_texts moment (command.Shutdown ∷ more) s text t at h =
    let rest = poll_texts moment more h.1 h.2 t at h.5 in
    (rest.0, h.3 ∙ ap (λ xs. xs ++ h.2) h.4.0 ∙ rest.1)
poll_texts moment (command.Limit count ∷ more) s text t at h =
    let rest = poll_texts moment more h.1 h.2 t at h.5 in
    (rest.0, h.3 ∙ ap (λ xs. xs ++ h.2) h.4.0 ∙ rest.1)
poll_texts moment (command.Mark number ∷ more) s text t at h =
    let rest = poll_texts moment more h.1 h.2 t at h.5 in
    (rest.0, h.3 ∙ ap (λ xs. xs ++ h.2) h.4.0 ∙ rest.1)
poll_texts moment (command.Refuse number ∷ more) s text t at h =
    let rest = poll_texts moment more h.1 h.2 t at h.5 in
    (rest.0, h.3 ∙ ap (λ xs. xs ++ h.2) h.4.0 ∙ rest.1)
poll_texts moment (command.Poll here ∷ more) s text t at h =
    let rest = poll_texts moment more h.1 h.2 t at.1 h.5 in
    let line : h.0 ≡ poll_line moment h.4.0 = h.4.1 ∙ ap (λ n. poll_line n h.4.0) at.0 in (
      h.4.0 ∷ rest.0,
      h.3 ∙ ap (λ xs. xs ++ h.2) line ∙ ap (λ xs. poll_line moment h.4.0 ++ xs) rest.1
          ∙ sym (flat_map-cons (poll_line moment) h.4.0 rest.0),
    )

-- the modules stay
modules_once : (s : State) (c : Command) (text : List ℕ) (t : State) → Obeys s c text t
    → t.modules ≡ s.modules
modules_once s (command.Give bytes) text t h = ap (λ (s : State). s.modules) h.1
modules_once s command.End text t h = ap (λ (s : State). s.modules) h.1
modules_once s (command.Room count) text t h = ap (λ (s : State). s.modules) h.1
modules_once s command.Block text t h = ap (λ (s : State). s.modules) h.1
modules_once s command.FaultRead text t h = ap (λ (s : State). s.modules) h.1
modules_once s command.FaultWrite text t h = ap (λ (s : State). s.modules) h.1
modules_once s command.Shutdown text t h = ap (λ (s : State). s.modules) h.1
modules_once s (command.Limit count) text t h = ap (λ (s : State). s.modules) h.1
modules_once s (command.Mark number) text t h = ap (λ (s : State). s.modules) h.1
modules_once s (command.Refuse number) text t h = ap (λ (s : State). s.modules) h.1
modules_once s (command.Poll moment) text t h = h.2.modules

modules_kept : (asked : List Command) (s : State) (text : List ℕ) (t : State)
    → Lines s asked text t → t.modules ≡ s.modules
modules_kept [] s text t h = ap (λ (s : State). s.modules) h.1
modules_kept (c ∷ more) s text t h = modules_kept more h.1 h.2 t h.5 ∙ modules_once s c h.0 h.1 h.4

-- the exchanges of a connection with these modules that finished, and what it wrote
record Finish (modules : List MarkingModule) (moment : ℕ) (polled : List ℕ) (s : State)
    (written : List ℕ) : Type 0 where
  entries : transcript s ≡ s.done
  ended : AreEnded (marking_rules modules).filters (moment / 1000) polled (FlushedBy new_link s.link)
      0 s.done
  wrote : WroteBehind written s.done []

finish : (moment : ℕ) (polled : List ℕ) (s : State) (written : List ℕ) → Holds moment polled s
    → s.end ≡ Some end.Finished → s.link.written ≡ Some written
    → Finish s.modules moment polled s written
finish moment polled s written holds is told =
    let stands = holds.finished is in
    let cause = stands.cause in
    let entries : transcript s ≡ s.done = ap (λ e. s.done ++ option_to_list e) cause.0.none ∙ append-nil s.done in
    let read = told_of new_link.given s.link.given [] polled (λ since. ReadAll since s.done empty)
    refl stands.given cause.2 in
    record {
      entries = entries;
      ended = record {
        read = subst (ReadBehind polled s.done) read.2 read.1;
        allowed = subst (AllByRecursion (IsAllowed (rules s))) entries stands.allowed;
        dated = subst (AllByRecursion (IsDatedBy (moment / 1000))) entries holds.dated;
        ended = cause.0.flushed;
      };
      wrote =
          told_of new_link.written s.link.written [] written (λ since. WroteBehind since s.done [])
          refl told cause.0.written;
    }

first_holds : (moment : ℕ) (limit : Option ℕ) (modules : List MarkingModule)
    → Holds moment [] (start_with limit modules)
first_holds moment limit modules = record {
  dated = tt;
  since = λ alive. inl refl;
  finished = λ is. absurd (never (start_with limit modules).end refl is);
} where
  never : (o : Option End) → o ≡ None → o ≡ Some end.Finished → ⊥
  never o e f = cc

finish_of : (moment : ℕ) (asked : List Command) (text : List ℕ) (x : IsTextOf asked text)
    → ArePolledAt moment asked
    → x.last.end ≡ Some end.Finished
    → Finish (modules_in asked) moment (polled_in [] [] asked) x.last x.written
finish_of moment asked text x at is =
    let first = start_with (limit_in asked) (modules_in asked) in
    let whole = finish moment (polled_in [] [] asked) x.last x.written
    (lines_hold moment asked first [] x.polls x.last
    at (first_holds moment (limit_in asked) (modules_in asked)) x.lines) is x.told in
    subst (λ (modules : List MarkingModule). Finish modules moment (polled_in [] [] asked) x.last
    x.written) (modules_kept asked first x.polls x.last x.lines) whole

same_lines : (s t : State) (one other : List ℕ)
    → exchanges_lines (transcript s) ≡ exchanges_lines (transcript t) → one ≡ other
    → exchanges_lines (transcript s) ++ wrote_line one
    ≡ exchanges_lines (transcript t) ++ wrote_line other
same_lines s t one other lines written =
    ap (λ xs. xs ++ wrote_line one) lines ∙ ap (λ xs. exchanges_lines (transcript t) ++ wrote_line xs) written

-- after the polls two texts of the same commands are the same
texts_alike : (moment : ℕ) (asked : List Command) (text other : List ℕ) (x : IsTextOf asked text)
    (y : IsTextOf asked other)
    → ArePolledAt moment asked → x.last.end ≡ Some end.Finished → y.last.end ≡ Some end.Finished
    → (told : List ℕ) × IsBehindPolls moment text told × IsBehindPolls moment other told
texts_alike moment asked text other x y at is also =
    let a = finish_of moment asked text x at is in
    let b = finish_of moment asked other y at also in
    let same = alike (marking_rules (modules_in asked)).filters (moment / 1000) (polled_in [] [] asked) (FlushedBy new_link x.last.link)
    (FlushedBy new_link y.last.link) 0 0 x.last.done y.last.done a.ended b.ended in
    let lines : exchanges_lines (transcript x.last) ≡ exchanges_lines (transcript y.last) =
    ap exchanges_lines a.entries ∙ alike_lines x.last.done y.last.done same ∙ sym (ap exchanges_lines b.entries) in
    let written = alike_written x.last.done y.last.done x.written y.written same a.wrote b.wrote in
    let told = exchanges_lines (transcript x.last) ++ wrote_line x.written in
    let first = poll_texts moment asked (start_with (limit_in asked) (modules_in asked)) x.polls x.last at x.lines in
    let second = poll_texts moment asked (start_with (limit_in asked) (modules_in asked)) y.polls y.last at y.lines in (
      told,
      (
        first.0,
        x.is ∙ append_assoc x.polls (exchanges_lines (transcript x.last)) (wrote_line x.written)
            ∙ ap (λ xs. xs ++ told) first.1,
      ),
      (
        second.0,
        y.is ∙ append_assoc y.polls (exchanges_lines (transcript y.last)) (wrote_line y.written)
            ∙ ap (λ xs. xs ++ (exchanges_lines (transcript y.last) ++ wrote_line y.written)) second.1
            ∙ ap (λ xs. flat_map (poll_line moment) second.0 ++ xs)
            (sym (same_lines x.last y.last x.written y.written lines written)),
      ),
    )

same_asked : (asked other : List Command) (outcome : ScriptOutcome) → outcome ≡ commands asked
    → outcome ≡ commands other → other ≡ asked
same_asked asked other outcome e f = cc

-- a text of commands that polled at one moment, of a connection that finished
record IsFinishedOf (moment : ℕ) (asked : List Command) (text : List ℕ) : Type 0 where
  is_text : IsTextOf asked text
  finished : is_text.last.end ≡ Some end.Finished

pub finished_alike : (moment : ℕ) (script text other : List ℕ) → IsFinished moment script text
    → IsFinished moment script other
    → (told : List ℕ) × IsBehindPolls moment text told × IsBehindPolls moment other told
finished_alike moment script text other x y =
    let same = same_asked x.report.asked y.report.asked (script_of script) x.report.read y.report.read in
    let of_y : IsFinishedOf moment y.report.asked other =
    record { is_text = y.report.is_text; finished = y.finished } in
    let also = subst (λ asked. IsFinishedOf moment asked other) same of_y in
    texts_alike moment x.report.asked text other x.report.is_text also.is_text x.polled x.finished also.finished
