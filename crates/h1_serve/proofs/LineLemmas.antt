-- Lemmas on the lines of a script, one after the other.
use Rattle.std.proofs.Common.{◌≡◌, ◌⊎◌, inl, inr, ℕ, ◌+◌, ◌≤◌, ◌<◌, true, List, [], ◌∷◌, ◌++◌, length, drop, get_or, drop-cons, add-one, suc, Some, refl, sym, ap, subst, ◌∙◌, append-nil, append_assoc}
use Rattle.std.proofs.lemmas.List.{drop_all}
use Rattle.std.specs.Prelude.{Result, Ok, Err, OnOk}
use Rattle.h1_transcript.specs.Entry.{Entry}
use Rattle.h1_words.specs.Script.{place_after}
use Rattle.h1_words.specs.declared.command.Command.{Command}
use Rattle.h1_words.specs.declared.command.Command.TheVariants as command
use Rattle.h1_words.specs.declared.place.Place.{Place}
use Rattle.h1_serve.specs.declared.scripted.Scripted.{Scripted}
use Rattle.h1_serve.specs.State.{State, start_with, transcript, state_of}
use Rattle.h1_serve.specs.Report.{Obeys, Lines, IsTextOf, limit_in, modules_in}
use Rattle.h1_serve.specs.ExchangeText.{exchanges_lines, wrote_line}
use Rattle.h1_serve.specs.Running.{MayStand, IsInTime, AreInOrder, first_place, IsRunning}
use Rattle.h1_serve.specs.Done.{ObeysOnce}

-- the lines obeyed so far, and those to come
pub record Goes (all left : List Command) (scripted : Scripted) (text : List ℕ) : Type 0 where
  pub place : Place
  pub running : IsRunning place scripted.connection
  pub order : AreInOrder place left
  pub lines : (t : State) (rest : List ℕ) → Lines (state_of scripted) left rest t
      → Lines (start_with (limit_in all) (modules_in all)) all (text ++ rest) t

pub goes_first : (all : List Command) (scripted : Scripted) (text : List ℕ)
    → AreInOrder first_place all → IsRunning first_place scripted.connection
    → state_of scripted ≡ start_with (limit_in all) (modules_in all)
    → text ≡ [] → Goes all all scripted text
goes_first all scripted text order running is none = record {
  place = first_place;
  running = running;
  order = order;
  lines = λ t rest lines. rw none (subst (λ s. Lines s all rest t) is lines);
}

goes_on : (all more : List Command) (asked : Command) (old new : Scripted) (text behind : List ℕ)
    → Goes all (asked ∷ more) old text
    → ((place : Place) → MayStand place asked → IsRunning place old.connection
    → ObeysOnce place old asked text new behind)
    → Goes all more new behind
goes_on all more asked old new text behind goes obeys =
    let once = obeys goes.place goes.order.1 goes.running in
    record {
      place = place_after goes.place asked;
      running = once.running;
      order = goes.order.2;
      lines = λ t rest lines.
          let whole = goes.lines t (once.line ++ rest) (once.line, (state_of new), rest, refl, once.obeys, lines) in
          let front : behind ++ rest ≡ text ++ (once.line ++ rest) =
          ap (λ front. front ++ rest) once.text_is ∙ append_assoc text once.line rest in
          subst (λ words. Lines (start_with (limit_in all) (modules_in all)) all words t) (sym front) whole;
    }

-- the command at a place is the first that is left there
pub left_at : (all : List Command) (i : ℕ) (asked : Command) → i < length all
    → asked ≡ get_or all i asked
    → drop i all ≡ asked ∷ drop (i + 1) all
left_at all i asked within is =
    drop-cons all i asked within ∙ ap (λ (c : Command). c ∷ drop (suc i) all) (sym is)
    ∙ ap (λ n. asked ∷ drop n all) (sym (add-one i))

pub goes_next : (all : List Command) (i : ℕ) (asked : Command) (old new : Scripted)
    (text behind : List ℕ)
    → i < length all → asked ≡ get_or all i asked → Goes all (drop i all) old text
    → ((place : Place) → MayStand place asked → IsRunning place old.connection
    → ObeysOnce place old asked text new behind)
    → Goes all (drop (i + 1) all) new behind
goes_next all i asked old new text behind within is goes obeys =
    goes_on all (drop (i + 1) all) asked old new text behind
    (subst (λ left. Goes all left old text) (left_at all i asked within is) goes) obeys

pub next_in_time : (all : List Command) (i : ℕ) (asked : Command) (scripted : Scripted)
    (text : List ℕ)
    → i < length all → asked ≡ get_or all i asked → Goes all (drop i all) scripted text
    → IsInTime asked
next_in_time all i asked scripted text within is goes =
    let order = subst (AreInOrder goes.place) (left_at all i asked within is) goes.order in order.0

-- after the last command its lines are those of all
pub lines_last : (all : List Command) (scripted : Scripted) (n : ℕ) (text : List ℕ)
    → Goes all (drop n all) scripted text → length all ≤ n
    → Lines (start_with (limit_in all) (modules_in all)) all text (state_of scripted)
lines_last all scripted n text goes past =
    let now = state_of scripted in
    let none : Lines now (drop n all) [] now =
    subst (λ left. Lines now left [] now) (sym (drop_all n all past)) (refl, refl) in
    subst (λ words. Lines (start_with (limit_in all) (modules_in all)) all words now)
    (append-nil text) (goes.lines now [] none)

pub goes_last : (all : List Command) (scripted : Scripted) (n : ℕ) (text written whole : List ℕ)
    → Goes all (drop n all) scripted text → length all ≤ n
    → scripted.connection.session.link.state.written ≡ Some written
    → whole ≡ text ++ exchanges_lines (transcript (state_of scripted)) ++ wrote_line written
    → IsTextOf all whole
goes_last all scripted n text written whole goes past told is = record {
  last = state_of scripted;
  polls = text;
  written = written;
  lines = lines_last all scripted n text goes past;
  told = told;
  is = is;
}

-- the limit at a place is the first that is set from there on
pub limit_at : (all : List Command) (i : ℕ) (asked : Command) → i < length all
    → asked ≡ get_or all i asked
    → limit_in (drop i all) ≡ limit_in (asked ∷ drop (i + 1) all)
limit_at all i asked within is = ap limit_in (left_at all i asked within is)

-- what follows of an Ok follows where there is one
pub on_ok : {X E : Type 0} (r : Result X E) (P Q : Type 0) → (P → Q) → OnOk r P → OnOk r Q
on_ok (Ok x) P Q goes h = goes h
on_ok (Err e) P Q goes h = tt

-- later polls are told that the server shuts down
shuts_once : (place : Place) (old : Scripted) (text : List ℕ) → IsRunning place old.connection
    → ObeysOnce place old command.Shutdown text (record old { shutdown = true }) text
shuts_once place old text running = record {
  line = [];
  text_is = sym (append-nil text);
  obeys = (refl, refl);
  running = running;
}

pub shuts_line : (place : Place) (old : Scripted) (asked : Command) (text : List ℕ)
    → asked ≡ command.Shutdown
    → IsRunning place old.connection
    → ObeysOnce place old asked text (record old { shutdown = true }) text
shuts_line place old asked text is running =
    let Goal : Command → Type 0 = λ asked. ObeysOnce place old asked text (record old { shutdown = true }) text in
    subst Goal (sym is) (shuts_once place old text running)

-- the limit and the modules were set before
made_once : (place : Place) (old : Scripted) (asked : Command) (text : List ℕ)
    → Obeys (state_of old) asked [] (state_of old)
    → IsRunning (place_after place asked) old.connection
    → ObeysOnce place old asked text old text
made_once place old asked text obeys running = record {
  line = [];
  text_is = sym (append-nil text);
  obeys = obeys;
  running = running;
}

pub made_line : (place : Place) (old : Scripted) (asked : Command) (text : List ℕ)
    → ((n : ℕ) × (asked ≡ command.Limit n))
    ⊎ (((n : ℕ) × (asked ≡ command.Mark n)) ⊎ ((n : ℕ) × (asked ≡ command.Refuse n)))
    → IsRunning place old.connection → ObeysOnce place old asked text old text
made_line place old asked text is running =
    let Goal : Command → Type 0 = λ asked. ObeysOnce place old asked text old text in
    let limited : IsRunning (record place { limited = true }) old.connection =
    record { accounted = running.accounted; end_at = running.end_at } in
    elim is [
      | inl limit ↦ subst Goal (sym limit.1)
          (made_once place old (command.Limit limit.0) text (refl, refl) limited)
      | inr (inl mark) ↦ subst Goal (sym mark.1)
          (made_once place old (command.Mark mark.0) text (refl, refl) running)
      | inr (inr refuse) ↦ subst Goal (sym refuse.1)
          (made_once place old (command.Refuse refuse.0) text (refl, refl) running)
    ]

-- the text of a report, part by part
pub whole_text : (front between behind : List ℕ) (entries same : List Entry) (written : List ℕ)
    → between ≡ front ++ exchanges_lines entries → entries ≡ same
    → behind ≡ between ++ wrote_line written
    → behind ≡ front ++ exchanges_lines same ++ wrote_line written
whole_text front between behind entries same written first is second =
    second ∙ ap (λ words. words ++ wrote_line written) (first ∙ ap (λ es. front ++ exchanges_lines es) is)
