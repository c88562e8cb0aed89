-- Lemmas on the lines of a client's script, one after the other.
use Rattle.std.proofs.Common.{◌≡◌, ℕ, ◌+◌, ◌≤◌, ◌<◌, List, [], ◌∷◌, ◌++◌, length, drop, get_or, drop-cons, add-one, suc, true, false, Option, Some, None, refl, sym, ap, subst, ◌∙◌, append-nil, append_assoc, arith}
use Rattle.std.proofs.lemmas.List.{drop_all}
use Rattle.std.specs.Option.{option_to_list}
use Rattle.std.specs.Prelude.{Result, Ok, Err, OnOk}
use Rattle.h1_head.specs.Request.{new_request}
use Rattle.h1_head.specs.Views.{RequestView}
use Rattle.h1_link.specs.MemState.{MemState}
use Rattle.h1_words.specs.declared.command.Command.{Command}
use Rattle.h1_client.specs.ClientView.{ClientView}
use Rattle.h1_client.specs.Reusing.{is_reusable, respected}
use Rattle.h1_fetch.specs.Playing.{IsTextOf, Lines, Obeys, ObeysOnce, Polls, kept_line, wrote_line}
use Rattle.h1_fetch.specs.ScriptState.{IsFirst, State, link_behind, link_behind_all, over_link, with_field}
use Rattle.h1_fetch.specs.Steps.{handed_in, left_over}
use Rattle.h1_fetch.specs.declared.lines.Line.{Line}
use Rattle.h1_fetch.specs.declared.lines.Line.TheVariants as line

-- the lines obeyed so far, and those to come
pub record Goes (all left : List Line) (s : State) (text : List ℕ) : Type 0 where
  pub first : State
  pub begins : IsFirst first
  pub lines : (t : State) (rest : List ℕ) → Lines s left rest t → Lines first all (text ++ rest) t

pub goes_first : (all : List Line) (s : State) (text : List ℕ) → IsFirst s → text ≡ []
    → Goes all all s text
goes_first all s text begins none = record {
  first = s;
  begins = begins;
  lines = λ t rest lines. rw none lines;
}

goes_on : (all more : List Line) (asked : Line) (old new : State) (text behind : List ℕ)
    → Goes all (asked ∷ more) old text → ObeysOnce old asked text new behind
    → Goes all more new behind
goes_on all more asked old new text behind goes once = record {
  first = goes.first;
  begins = goes.begins;
  lines = λ t rest lines.
      let whole = goes.lines t (once.told ++ rest) (once.told, new, rest, refl, once.obeys, lines) in
      let front : behind ++ rest ≡ text ++ (once.told ++ rest) =
      ap (λ front. front ++ rest) once.text_is ∙ append_assoc text once.told rest in
      subst (λ words. Lines goes.first all words t) (sym front) whole;
}

-- the item at a place is the first that is left there
left_at : {A : Type 0} (all : List A) (i : ℕ) (item : A) → i < length all → item ≡ get_or all i item
    → drop i all ≡ item ∷ drop (i + 1) all
left_at {A} all i item within is =
    drop-cons all i item within ∙ ap (λ (x : A). x ∷ drop (suc i) all) (sym is)
    ∙ ap (λ n. item ∷ drop n all) (sym (add-one i))

pub goes_next : (all : List Line) (i : ℕ) (asked : Line) (old new : State) (text behind : List ℕ)
    → i < length all → asked ≡ get_or all i asked → Goes all (drop i all) old text
    → ObeysOnce old asked text new behind → Goes all (drop (i + 1) all) new behind
goes_next all i asked old new text behind within is goes once =
    goes_on all (drop (i + 1) all) asked old new text behind
    (subst (λ left. Goes all left old text) (left_at all i asked within is) goes) once

-- what is told behind the polls
abbrev pub Ending : State → List ℕ → Type 0
Ending s text = (written : List ℕ) × (s.session.transfer.link.state.written ≡ Some written)
    × (text ≡ wrote_line written ++ kept_line (is_reusable (respected s.session)))

pub goes_last : (all : List Line) (s : State) (n : ℕ) (text ending whole : List ℕ)
    → Goes all (drop n all) s text → length all ≤ n → Ending s ending → whole ≡ text ++ ending
    → IsTextOf all whole
goes_last all s n text ending whole goes past ends is =
    let none : Lines s (drop n all) [] s =
    subst (λ left. Lines s left [] s) (sym (drop_all n all past)) (refl, refl) in
    record {
      first = goes.first;
      last = s;
      polls = text;
      written = ends.0;
      begins = goes.begins;
      lines = subst (λ words. Lines goes.first all words s) (append-nil text) (goes.lines s [] none);
      told = ends.1;
      is = is ∙ ap (λ words. text ++ words) ends.2
          ∙ sym (append_assoc text (wrote_line ends.0) (kept_line (is_reusable (respected s.session))));
    }

quiet : (s t : State) (asked : Line) (text : List ℕ) → Obeys s asked [] t → ObeysOnce s asked text t text
quiet s t asked text obeys = record { told = []; text_is = sym (append-nil text); obeys = obeys }

pub poll_line : (s t : State) (asked : Line) (moment : ℕ) (text behind : List ℕ)
    → asked ≡ line.Poll moment
    → (told : List ℕ) × (behind ≡ text ++ told) × Polls moment s told t
    → ObeysOnce s asked text t behind
poll_line s t asked moment text behind is polled =
    subst (λ asked. ObeysOnce s asked text t behind) (sym is)
    (record { told = polled.0; text_is = polled.1; obeys = polled.2 })

pub link_line : (s : State) (session : ClientView MemState) (asked : Line) (commands : List Command)
    (text : List ℕ) → asked ≡ line.Link commands
    → session ≡ over_link s.session (link_behind_all commands s.session.transfer.link)
    → ObeysOnce s asked text (record s { session = session }) text
link_line s session asked commands text is so =
    subst (λ asked. ObeysOnce s asked text (record s { session = session }) text) (sym is)
    (quiet s (record s { session = session }) (line.Link commands) text
    (refl, ap (λ (session : ClientView MemState). record s { session = session }) so))

pub ask_line : (s : State) (head : Option RequestView) (asked : Line) (method target text : List ℕ)
    → asked ≡ line.Ask method target → head ≡ Some (new_request method target)
    → ObeysOnce s asked text (record s { head = head }) text
ask_line s head asked method target text is so =
    subst (λ asked. ObeysOnce s asked text (record s { head = head }) text) (sym is)
    (quiet s (record s { head = head }) (line.Ask method target) text
    (refl, ap (λ (head : Option RequestView). record s { head = head }) so))

pub field_line : (s : State) (head : Option RequestView) (asked : Line) (name value text : List ℕ)
    → asked ≡ line.Field name value → head ≡ with_field name value s.head
    → ObeysOnce s asked text (record s { head = head }) text
field_line s head asked name value text is so =
    subst (λ asked. ObeysOnce s asked text (record s { head = head }) text) (sym is)
    (quiet s (record s { head = head }) (line.Field name value) text
    (refl, ap (λ (head : Option RequestView). record s { head = head }) so))

pub send_line : (s : State) (pieces : List (List ℕ)) (asked : Line) (piece text : List ℕ)
    → asked ≡ line.Send piece → pieces ≡ s.pieces ++ piece ∷ []
    → ObeysOnce s asked text (record s { pieces = pieces }) text
send_line s pieces asked piece text is so =
    subst (λ asked. ObeysOnce s asked text (record s { pieces = pieces }) text) (sym is)
    (quiet s (record s { pieces = pieces }) (line.Send piece) text
    (refl, ap (λ (pieces : List (List ℕ)). record s { pieces = pieces }) so))

pub finish_line : (s : State) (asked : Line) (text : List ℕ) → asked ≡ line.Finish
    → ObeysOnce s asked text (record s { ends = true }) text
finish_line s asked text is =
    subst (λ asked. ObeysOnce s asked text (record s { ends = true }) text) (sym is)
    (quiet s (record s { ends = true }) line.Finish text (refl, refl))

-- what leaves at the front is the first
pub popped : (old new : List (List ℕ)) (first : Option (List ℕ)) → old ≡ option_to_list first ++ new
    → new ≡ drop 1 old → (first ≡ handed_in false old) × (new ≡ left_over false old)
popped old new (Some piece) is left =
    (sym (ap (handed_in false) is), sym (ap (left_over false) is))
popped [] new None is left = (refl, sym is)
popped (piece ∷ old) new None is left = absurd (omega (arith, ap length is, ap length left))

-- the link once the commands up to a place set it
pub sets_next : (all : List Command) (i : ℕ) (asked : Command) (old now : MemState)
    → i < length all → asked ≡ get_or all i asked
    → link_behind_all (drop i all) now ≡ link_behind_all all old
    → link_behind_all (drop (i + 1) all) (link_behind asked now) ≡ link_behind_all all old
sets_next all i asked old now within is so =
    sym (ap (λ (left : List Command). link_behind_all left now) (left_at all i asked within is)) ∙ so

pub sets_last : (all : List Command) (n : ℕ) (old now : MemState) → length all ≤ n
    → link_behind_all (drop n all) now ≡ link_behind_all all old → now ≡ link_behind_all all old
sets_last all n old now past so =
    sym (ap (λ (left : List Command). link_behind_all left now) (drop_all n all past)) ∙ so

-- what follows of an Ok follows where there is one
pub on_ok : {X E : Type 0} (r : Result X E) (P Q : Type 0) → (P → Q) → OnOk r P → OnOk r Q
on_ok (Ok x) P Q goes h = goes h
on_ok (Err e) P Q goes h = tt
