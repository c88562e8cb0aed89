-- Scripts that are too long are judged by their front.
use Rattle.std.proofs.Common.{◌≡◌, ℕ, ◌+◌, ◌<◌, ◌≤◌, min, Bool, true, false, cond, not, ◌&&◌, List, [], ◌∷◌, ◌++◌, length, take, drop, count_by, Option, Some, None, refl, sym, ap, ◌∙◌, subst, arith, leb, length-append}
use Rattle.std.specs.List.{slice_split, onto_first}
use Rattle.std.proofs.lemmas.Bool.{lt-leb}
use Rattle.std.proofs.lemmas.List.{take-append-le, take-append-drop}
use Rattle.std.proofs.lemmas.List.Splits.{length-slice_split}
use Rattle.std.proofs.lemmas.List.Sums.{sum_by-append}
use Rattle.h1_words.specs.Script.{is_line_feed, Reading, at_line, stopped_at, faulty_at, may_follow, is_repeated, place_after, with_command, with_line, reading_behind, outcome_of, line_at, faulty_by, first_line, outcome_of_lines, script_of}
use Rattle.h1_words.specs.Command.{command_of}
use Rattle.h1_words.proofs.LineLemmas.{stays_stopped}
use Rattle.h1_words.specs.declared.script.TheConstants.{MAX_SCRIPT}
use Rattle.h1_words.specs.declared.command.Command.{Command}
use Rattle.h1_words.specs.declared.place.Place.{Place}

-- the parts of a front are the first parts of the whole, but for the last
record Front (p : ℕ → Bool) (xs ys : List ℕ) : Type 0 where
  whole : List (List ℕ)
  last : List ℕ
  rest : List (List ℕ)
  of_front : slice_split p xs ≡ whole ++ last ∷ []
  of_all : slice_split p (xs ++ ys) ≡ whole ++ rest

front_onto : (p : ℕ → Bool) (x : ℕ) (xs ys : List ℕ) → p x ≡ false →
    (whole : List (List ℕ)) (last : List ℕ)
    (rest : List (List ℕ)) → slice_split p xs ≡ whole ++ last ∷ [] →
    slice_split p (xs ++ ys) ≡ whole ++ rest → Front p (x ∷ xs) ys
front_onto p x xs ys e [] last rest of_front of_all = record {
  whole = [];
  last = x ∷ last;
  rest = onto_first x rest;
  of_front = rw (e, of_front) refl;
  of_all = rw (e, of_all) refl;
}
front_onto p x xs ys e (line ∷ whole) last rest of_front of_all = record {
  whole = (x ∷ line) ∷ whole;
  last = last;
  rest = rest;
  of_front = rw (e, of_front) refl;
  of_all = rw (e, of_all) refl;
}

front_more : (t : Bool) (p : ℕ → Bool) (x : ℕ) (xs ys : List ℕ) → p x ≡ t → Front p xs ys →
    Front p (x ∷ xs) ys
front_more true p x xs ys e f = record {
  whole = [] ∷ f.whole;
  last = f.last;
  rest = f.rest;
  of_front = rw e (ap (λ l. [] ∷ l) f.of_front);
  of_all = rw e (ap (λ l. [] ∷ l) f.of_all);
}
front_more false p x xs ys e f = front_onto p x xs ys e f.whole f.last f.rest f.of_front f.of_all

split_front : (p : ℕ → Bool) (xs ys : List ℕ) → Front p xs ys
split_front p [] ys = record {
  whole = [];
  last = [];
  rest = slice_split p ys;
  of_front = refl;
  of_all = refl;
}
split_front p (x ∷ xs) ys = front_more (p x) p x xs ys refl (split_front p xs ys)

reading_append : (r : Reading) (lines more : List (List ℕ)) →
    reading_behind r (lines ++ more) ≡ reading_behind (reading_behind r lines) more
reading_append r [] more = refl
reading_append r (line ∷ lines) more = reading_append (with_line r line) lines more

-- unless it is stopped, reading has come to this line
abbrev After : ℕ → Reading → Type 0
After n (at_line place before number) = n ≤ number
After n (stopped_at number) = Unit {0}

after_choice : (t : Bool) (n number : ℕ) (place : Place) (before : List Command) → n ≤ number →
    After (n + 1) (cond t (at_line place before (number + 1)) (stopped_at number))
after_choice true n number place before h = omega arith
after_choice false n number place before h = tt

after_command : (n number : ℕ) (place : Place) (before : List Command) (command : Option Command) →
    n ≤ number → After (n + 1) (with_command place before number command)
after_command n number place before None h = tt
after_command n number place before (Some command) h =
    after_choice (may_follow place command && not (is_repeated command before)) n number
    (place_after place command) (before ++ command ∷ []) h

after_line : (n : ℕ) (r : Reading) (line : List ℕ) → After n r → After (n + 1) (with_line r line)
after_line n (stopped_at number) line h = tt
after_line n (at_line place before number) [] h = omega arith
after_line n (at_line place before number) (b ∷ line) h =
    after_command n number place before (command_of (b ∷ line)) h

after_weaker : (n m : ℕ) (r : Reading) → m ≤ n → After n r → After m r
after_weaker n m (stopped_at number) le h = tt
after_weaker n m (at_line place before number) le h = omega arith

after_lines : (n : ℕ) (r : Reading) (lines : List (List ℕ)) → After n r →
    After (n + length lines) (reading_behind r lines)
after_lines n r [] h = after_weaker n (n + length {A = List ℕ} []) r (omega arith) h
after_lines n r (line ∷ lines) h =
    after_weaker (n + 1 + length lines) (n + length (line ∷ lines))
    (reading_behind (with_line r line) lines)
    (omega arith) (after_lines (n + 1) (with_line r line) lines (after_line n r line h))

-- reading has come to this line, or is stopped there or later
abbrev Late : ℕ → Reading → Type 0
Late n (at_line place before number) = n ≤ number
Late n (stopped_at number) = n ≤ number

late_choice : (t : Bool) (n number : ℕ) (place : Place) (before : List Command) → n ≤ number →
    Late n (cond t (at_line place before (number + 1)) (stopped_at number))
late_choice true n number place before h = omega arith
late_choice false n number place before h = h

late_command : (n number : ℕ) (place : Place) (before : List Command) (command : Option Command) →
    n ≤ number → Late n (with_command place before number command)
late_command n number place before None h = h
late_command n number place before (Some command) h =
    late_choice (may_follow place command && not (is_repeated command before)) n number
    (place_after place command) (before ++ command ∷ []) h

late_line : (n : ℕ) (r : Reading) (line : List ℕ) → Late n r → Late n (with_line r line)
late_line n (stopped_at number) line h = h
late_line n (at_line place before number) [] h = omega arith
late_line n (at_line place before number) (b ∷ line) h =
    late_command n number place before (command_of (b ∷ line)) h

late_lines : (n : ℕ) (r : Reading) (lines : List (List ℕ)) → Late n r →
    Late n (reading_behind r lines)
late_lines n r [] h = h
late_lines n r (line ∷ lines) h = late_lines n (with_line r line) lines (late_line n r line h)

late_fault : (n : ℕ) (r : Reading) → Late n r → faulty_by n (outcome_of r) ≡ faulty_at n
late_fault n (at_line place before number) h = refl
late_fault n (stopped_at number) h = let e : min number n ≡ n = omega arith in
    ap (λ m. faulty_at m) e

-- what follows decides no earlier line
same_fault : (n : ℕ) (r : Reading) (lines more : List (List ℕ)) → After n r →
    faulty_by n (outcome_of (reading_behind r lines)) ≡ faulty_by n
    (outcome_of (reading_behind r more))
same_fault n (stopped_at number) lines more h =
    rw (stays_stopped number lines, stays_stopped number more) refl
same_fault n (at_line place before number) lines more h =
    late_fault n _ (late_lines n (at_line place before number) lines h)
    ∙ sym (late_fault n _ (late_lines n (at_line place before number) more h))

faults_agree : (n : ℕ) (front more : List ℕ) → n ≤ count_by is_line_feed front + 1 →
    faulty_by n (outcome_of_lines (front ++ more)) ≡ faulty_by n (outcome_of_lines front)
faults_agree n front more h =
    let f = split_front is_line_feed front more in
    let whole = after_lines 1 first_line f.whole (omega arith) in
    let count : length (f.whole ++ f.last ∷ []) ≡ count_by is_line_feed front + 1 =
    ap length (sym f.of_front) ∙ length-slice_split is_line_feed front in
    let fits : n ≤ 1 + length f.whole = omega (arith, length-append f.whole (f.last ∷ []), count) in
    let reached = after_weaker (1 + length f.whole) n (reading_behind first_line f.whole) fits
    whole in
    let P : List (List ℕ) → Type 0 =
    λ l. faulty_by n (outcome_of (reading_behind first_line l)) ≡ faulty_by n
    (outcome_of_lines front) in
    let Q : List (List ℕ) → Type 0 =
    λ l. faulty_by n (outcome_of (reading_behind first_line (f.whole ++ f.rest))) ≡ faulty_by n
    (outcome_of (reading_behind first_line l)) in
    subst P (sym f.of_all) (subst Q (sym f.of_front)
    (rw (
      reading_append first_line f.whole f.rest,
      reading_append first_line f.whole
          (f.last ∷ []),
    )
    (same_fault n (reading_behind first_line f.whole) f.rest (f.last ∷ []) reached)))

count_of_front : (p : ℕ → Bool) (m : ℕ) (xs : List ℕ) → count_by p (take m xs) ≤ count_by p xs
count_of_front p m xs =
    let P : List ℕ → Type 0 = λ l. count_by p (take m xs) ≤ count_by p l in
    subst P (take-append-drop m xs)
    (omega (arith, sum_by-append (λ x. cond (p x) 1 0) (take m xs) (drop m xs)))

cut_front : (m : ℕ) (front more : List ℕ) → m < length front →
    faulty_by (line_at m (front ++ more)) (outcome_of_lines (front ++ more)) ≡ faulty_by
    (line_at m front) (outcome_of_lines front)
cut_front m front more h =
    let same : take m (front ++ more) ≡ take m front = take-append-le m front more (omega arith) in
    let P : List ℕ → Type 0 = λ l. faulty_by (count_by is_line_feed l + 1)
    (outcome_of_lines (front ++ more)) ≡ faulty_by (line_at m front) (outcome_of_lines front) in
    subst P (sym same) (faults_agree (line_at m front) front more
    (omega (arith, count_of_front is_line_feed m front)))

-- bytes after a front that is too long change nothing
pub long_scripts_agree : (front more : List ℕ) → MAX_SCRIPT < length front →
    script_of (front ++ more) ≡ script_of front
long_scripts_agree front more h =
    let over : leb (length front) MAX_SCRIPT ≡ false = lt-leb (length front) MAX_SCRIPT h in
    let longer : leb (length (front ++ more)) MAX_SCRIPT ≡ false =
    lt-leb (length (front ++ more)) MAX_SCRIPT (omega (arith, length-append front more)) in
    let P : Bool → Type 0 = λ t. cond t (outcome_of_lines (front ++ more))
    (faulty_by (line_at MAX_SCRIPT (front ++ more)) (outcome_of_lines (front ++ more)))
    ≡ script_of front in
    let Q : Bool → Type 0 = λ t. faulty_by (line_at MAX_SCRIPT (front ++ more))
    (outcome_of_lines (front ++ more)) ≡ cond t (outcome_of_lines front)
    (faulty_by (line_at MAX_SCRIPT front) (outcome_of_lines front)) in
    subst P (sym longer) (subst Q (sym over) (cut_front MAX_SCRIPT front more h))
