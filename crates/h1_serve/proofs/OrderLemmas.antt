-- Lemmas on the commands of a script: the order in which they stand, and how many they are.
use Rattle.std.proofs.Common.{◌≡◌, ℕ, ◌+◌, ◌*◌, ◌^◌, ◌≤◌, ◌<◌, Bool, true, false, not, ◌&&◌, nat_lt, nat_le, cond, List, [], ◌∷◌, ◌++◌, length, count_by, Option, Some, None, IfSome, option_map, refl, sym, ap, ◌∙◌, append-nil, append_assoc, subst, codes, arith}
use Rattle.std.specs.Char.{digit_value}
use Rattle.std.specs.Str.{bytes_eq}
use Rattle.std.proofs.lemmas.Bool.Decides.{nat_tests}
use Rattle.std.proofs.lemmas.List.Splits.{length-slice_split}
use Rattle.std.proofs.lemmas.List.Sums.{count_by-le-length}
use Rattle.h1_words.specs.Number.{number_up_to, number_from, with_digit}
use Rattle.h1_words.specs.ByteText.{bytes_of_text}
use Rattle.h1_words.specs.Command.{behind_words, give_line, poll_line, limit_line, room_line, mark_line, refuse_line, fixed_command, either_command, command_of}
use Rattle.h1_words.specs.Script.{is_line_feed, at_line, stopped_at, ScriptOutcome, commands, faulty_at, may_follow, is_repeated, place_after, with_command, reading_behind, outcome_of, line_at, faulty_by, script_of, lines_of, first_line}
use Rattle.h1_words.specs.declared.number.TheConstants.{MAX_DIGITS}
use Rattle.h1_words.specs.declared.command.TheConstants.{LAST_MOMENT, MAX_SHORT_NUMBER, MAX_ROOM}
use Rattle.h1_words.specs.declared.script.TheConstants.{MAX_SCRIPT}
use Rattle.h1_words.specs.declared.command.Command.{Command}
use Rattle.h1_words.specs.declared.command.Command.TheVariants as command
use Rattle.h1_words.specs.declared.place.Place.{Place}
use Rattle.h1_serve.specs.Running.{IsInTime, MayStand, AreInOrder, first_place}

-- a test decides whether a number is kept
kept_if : (most n : ℕ) (b : Bool) → (b ≡ true → n ≤ most)
    → IfSome (cond b (Some n) None) (λ n. n ≤ most)
kept_if most n true bound = bound refl
kept_if most n false bound = tt

both_true : (a b : Bool) → (a && b) ≡ true → b ≡ true
both_true true b e = e
both_true false true e = refl
both_true false false e = e

first_true : (a b : Bool) → (a && b) ≡ true → a ≡ true
first_true true b e = refl
first_true false b e = e

with_digit_within : (most n b : ℕ) → IfSome (with_digit most n b) (λ n. n ≤ most)
with_digit_within most n b =
    kept_if most (n * 10 + digit_value b) (nat_lt (digit_value b) 10 && nat_le (n * 10 + digit_value b) most)
    (λ e. let le = both_true (nat_lt (digit_value b) 10) (nat_le (n * 10 + digit_value b) most) e in
    grind (arith, nat_tests))

number_from_within : (most : ℕ) (digits : List ℕ) (o : Option ℕ) → IfSome o (λ n. n ≤ most)
    → IfSome (number_from most o digits) (λ n. n ≤ most)
number_from_within most digits None h = tt
number_from_within most [] (Some n) h = h
number_from_within most (b ∷ digits) (Some n) h =
    number_from_within most digits (with_digit most n b) (with_digit_within most n b)

chosen_within : (most : ℕ) (b : Bool) (o : Option ℕ) → IfSome o (λ n. n ≤ most)
    → IfSome (cond b o None) (λ n. n ≤ most)
chosen_within most true o h = h
chosen_within most false o h = tt

zero_within : (most : ℕ) → 0 ≤ most
zero_within most = omega arith

number_within : (most : ℕ) (digits : List ℕ) → IfSome (number_up_to most digits) (λ n. n ≤ most)
number_within most digits =
    chosen_within most (nat_lt 0 (length digits) && nat_le (length digits) MAX_DIGITS)
    (number_from most (Some 0) digits)
    (number_from_within most digits (Some 0) (zero_within most))

poll_of_number : (o : Option ℕ) → IfSome o (λ n. n ≤ LAST_MOMENT)
    → IfSome (option_map command.Poll o) IsInTime
poll_of_number None h = tt
poll_of_number (Some n) h = h

limit_of_number : (o : Option ℕ) → IfSome (option_map command.Limit o) IsInTime
limit_of_number None = tt
limit_of_number (Some n) = tt

room_of_number : (o : Option ℕ) → IfSome (option_map command.Room o) IsInTime
room_of_number None = tt
room_of_number (Some n) = tt

mark_of_number : (o : Option ℕ) → IfSome (option_map command.Mark o) IsInTime
mark_of_number None = tt
mark_of_number (Some n) = tt

refuse_of_number : (o : Option ℕ) → IfSome (option_map command.Refuse o) IsInTime
refuse_of_number None = tt
refuse_of_number (Some n) = tt

refuse_in_time : (o : Option (List ℕ)) → IfSome (refuse_line o) IsInTime
refuse_in_time None = tt
refuse_in_time (Some digits) = refuse_of_number (number_up_to MAX_SHORT_NUMBER digits)

mark_in_time : (line : List ℕ) (o : Option (List ℕ)) → IfSome (mark_line line o) IsInTime
mark_in_time line None = refuse_in_time (behind_words (codes "module refuse ") line)
mark_in_time line (Some digits) = mark_of_number (number_up_to MAX_SHORT_NUMBER digits)

room_in_time : (line : List ℕ) (o : Option (List ℕ)) → IfSome (room_line line o) IsInTime
room_in_time line None = mark_in_time line (behind_words (codes "module mark ") line)
room_in_time line (Some digits) = room_of_number (number_up_to MAX_ROOM digits)

limit_in_time : (line : List ℕ) (o : Option (List ℕ)) → IfSome (limit_line line o) IsInTime
limit_in_time line None = room_in_time line (behind_words (codes "room ") line)
limit_in_time line (Some digits) = limit_of_number (number_up_to MAX_SHORT_NUMBER digits)

poll_in_time : (line : List ℕ) (o : Option (List ℕ)) → IfSome (poll_line line o) IsInTime
poll_in_time line None = limit_in_time line (behind_words (codes "limit ") line)
poll_in_time line (Some digits) = poll_of_number (number_up_to LAST_MOMENT digits) (number_within LAST_MOMENT digits)

give_of_bytes : (o : Option (List ℕ)) → IfSome (option_map command.Give o) IsInTime
give_of_bytes None = tt
give_of_bytes (Some bytes) = tt

give_in_time : (line : List ℕ) (o : Option (List ℕ)) → IfSome (give_line line o) IsInTime
give_in_time line None = poll_in_time line (behind_words (codes "poll ") line)
give_in_time line (Some text) = give_of_bytes (bytes_of_text text)

chosen_in_time : (b : Bool) (c : Command) (o : Option Command) → IsInTime c → IfSome o IsInTime
    → IfSome (cond b (Some c) o) IsInTime
chosen_in_time true c o time h = time
chosen_in_time false c o time h = h

fixed_in_time : (line : List ℕ) → IfSome (fixed_command line) IsInTime
fixed_in_time line =
    let writes = chosen_in_time (bytes_eq line (codes "fault write")) command.FaultWrite None tt tt in
    let reads = chosen_in_time (bytes_eq line (codes "fault read")) command.FaultRead _ tt writes in
    let blocks = chosen_in_time (bytes_eq line (codes "block")) command.Block _ tt reads in
    let shuts = chosen_in_time (bytes_eq line (codes "shutdown")) command.Shutdown _ tt blocks in
    chosen_in_time (bytes_eq line (codes "end")) command.End _ tt shuts

either_in_time : (line : List ℕ) (o : Option Command) → IfSome o IsInTime
    → IfSome (either_command line o) IsInTime
either_in_time line None time = give_in_time line (behind_words (codes "give ") line)
either_in_time line (Some command) time = time

-- the command of a line is in time
command_in_time : (line : List ℕ) → IfSome (command_of line) IsInTime
command_in_time line = either_in_time line (fixed_command line) (fixed_in_time line)

not_true : (b : Bool) → not b ≡ true → b ≡ false
not_true true e = cc
not_true false e = refl

neither : (a b : Bool) → (not a && not b) ≡ true → (a ≡ false) × (b ≡ false)
neither true b e = cc
neither false b e = (refl, not_true b e)

-- what may follow may stand
may_stand : (place : Place) (c : Command) → may_follow place c ≡ true → MayStand place c
may_stand place (command.Give bytes) e = not_true place.ended e
may_stand place command.End e = not_true place.ended e
may_stand place (command.Room count) e = tt
may_stand place command.Block e = tt
may_stand place command.FaultRead e = tt
may_stand place command.FaultWrite e = tt
may_stand place command.Shutdown e = tt
may_stand place (command.Limit count) e = neither place.polled place.limited e
may_stand place (command.Mark number) e = not_true place.polled e
may_stand place (command.Refuse number) e = not_true place.polled e
may_stand place (command.Poll moment) e = grind (arith, nat_tests)

-- a reading that stopped stays so
stays_stopped : (number : ℕ) (lines : List (List ℕ))
    → reading_behind (stopped_at number) lines ≡ stopped_at number
stays_stopped number [] = refl
stays_stopped number (line ∷ lines) = stays_stopped number lines

never_faulty : (number : ℕ) (lines : List (List ℕ)) (cs : List Command)
    → outcome_of (reading_behind (stopped_at number) lines) ≡ commands cs → ⊥
never_faulty number lines cs e =
    let stopped : outcome_of (reading_behind (stopped_at number) lines) ≡ faulty_at number =
    ap outcome_of (stays_stopped number lines) in cc

-- the commands go on in order after these, with at most so many
GoesOn : ℕ → Place → List Command → List Command → Type 0
GoesOn most place before cs = (more : List Command) × (cs ≡ before ++ more) × AreInOrder place more
    × (length more ≤ most)

abbrev Follows : List (List ℕ) → List Command → Type 0
Follows lines cs = (place : Place) (before : List Command) (number : ℕ)
    → outcome_of (reading_behind (at_line place before number) lines) ≡ commands cs
    → GoesOn (length lines) place before cs

put_in_front : (most : ℕ) (place : Place) (before cs : List Command) (c : Command)
    → IsInTime c → MayStand place c → GoesOn most (place_after place c) (before ++ c ∷ []) cs
    → GoesOn (most + 1) place before cs
unfolding GoesOn
put_in_front most place before cs c time may goes = (
  c ∷ goes.0,
  goes.1 ∙ append_assoc before (c ∷ []) goes.0,
  (time, may, goes.2),
  omega (arith, goes.3),
)

one_more : (most : ℕ) (place : Place) (before cs : List Command) → GoesOn most place before cs
    → GoesOn (most + 1) place before cs
unfolding GoesOn
one_more most place before cs goes = (goes.0, goes.1, goes.2, omega (arith, goes.3))

with_test : (place : Place) (before : List Command) (number : ℕ) (lines : List (List ℕ))
    (cs : List Command) (c : Command) (b : Bool)
    → IsInTime c → (b ≡ true → MayStand place c) → Follows lines cs
    → outcome_of (reading_behind
    (cond b (at_line (place_after place c) (before ++ c ∷ []) (number + 1)) (stopped_at number))
    lines) ≡ commands cs
    → GoesOn (length lines + 1) place before cs
with_test place before number lines cs c true time may follows e =
    put_in_front (length lines) place before cs c time (may refl) (follows (place_after place c) (before ++ c ∷ []) (number + 1) e)
with_test place before number lines cs c false time may follows e = absurd (never_faulty number lines cs e)

with_one : (place : Place) (before : List Command) (number : ℕ) (lines : List (List ℕ))
    (cs : List Command) (o : Option Command)
    → IfSome o IsInTime → Follows lines cs
    → outcome_of (reading_behind (with_command place before number o) lines) ≡ commands cs
    → GoesOn (length lines + 1) place before cs
with_one place before number lines cs None time follows e = absurd (never_faulty number lines cs e)
with_one place before number lines cs (Some c) time follows e =
    with_test place before number lines cs c (may_follow place c && not (is_repeated c before)) time
    (λ so. may_stand place c (first_true (may_follow place c) (not (is_repeated c before)) so)) follows e

counted : (line : List ℕ) (lines : List (List ℕ)) (place : Place) (before cs : List Command)
    → GoesOn (length lines + 1) place before cs → GoesOn (length (line ∷ lines)) place before cs
counted line lines place before cs goes =
    let same : length lines + 1 ≡ length (line ∷ lines) = omega arith in
    subst (λ most. GoesOn most place before cs) same goes

follows : (lines : List (List ℕ)) (cs : List Command) → Follows lines cs
unfolding GoesOn
follows [] cs place before number e =
    let same : cs ≡ before = cc in ([], same ∙ sym (append-nil before), tt, omega arith)
follows ([] ∷ lines) cs place before number e =
    counted [] lines place before cs
    (one_more (length lines) place before cs (follows lines cs place before (number + 1) e))
follows ((b ∷ line) ∷ lines) cs place before number e =
    counted (b ∷ line) lines place before cs
    (with_one place before number lines cs (command_of (b ∷ line)) (command_in_time (b ∷ line))
    (follows lines cs) e)

in_order_of : (most : ℕ) (cs : List Command) → GoesOn most first_place [] cs
    → AreInOrder first_place cs × (length cs ≤ most)
unfolding GoesOn
in_order_of most cs goes = (rw goes.1 goes.2, rw goes.1 goes.3)

never_by : (number : ℕ) (outcome : ScriptOutcome) (cs : List Command)
    → faulty_by number outcome ≡ commands cs → ⊥
never_by number (commands read) cs e = cc
never_by number (faulty_at first) cs e = cc

whole_script : (b : Bool) (number : ℕ) (outcome : ScriptOutcome) (cs : List Command)
    → cond b outcome (faulty_by number outcome) ≡ commands cs → (b ≡ true) × (outcome ≡ commands cs)
whole_script true number outcome cs e = (refl, e)
whole_script false number outcome cs e = absurd (never_by number outcome cs e)

-- the outcome of the lines of a script that has commands
outcome_so : (bytes : List ℕ) (cs : List Command) → script_of bytes ≡ commands cs
    → (nat_le (length bytes) MAX_SCRIPT ≡ true)
    × (outcome_of (reading_behind first_line (lines_of bytes)) ≡ commands cs)
outcome_so bytes cs e =
    whole_script (nat_le (length bytes) MAX_SCRIPT) (line_at MAX_SCRIPT bytes)
    (outcome_of (reading_behind first_line (lines_of bytes))) cs e

-- the commands of a script stand in order, one of each line at most
in_order_so : (bytes : List ℕ) (cs : List Command) → script_of bytes ≡ commands cs
    → AreInOrder first_place cs × (length cs ≤ length (lines_of bytes))
in_order_so bytes cs e =
    let whole = outcome_so bytes cs e in
    in_order_of (length (lines_of bytes)) cs
    (follows (lines_of bytes) cs first_place [] 1 whole.1)

pub commands_in_order : (bytes : List ℕ) (cs : List Command) → script_of bytes ≡ commands cs
    → AreInOrder first_place cs
commands_in_order bytes cs e = let both = in_order_so bytes cs e in both.0

-- a script that has commands is within its limit
pub script_within : (bytes : List ℕ) (cs : List Command) → script_of bytes ≡ commands cs
    → length bytes ≤ MAX_SCRIPT
script_within bytes cs e =
    let whole = outcome_so bytes cs e in
    let test = whole.0 in
    grind (arith, nat_tests)

-- so they are few
pub commands_few : (bytes : List ℕ) (cs : List Command) → script_of bytes ≡ commands cs
    → length cs < 2 ^ 32
commands_few bytes cs e =
    let both = in_order_so bytes cs e in
    let short : length bytes ≤ 8388608 = script_within bytes cs e in
    let feeds : count_by is_line_feed bytes ≤ length bytes = count_by-le-length is_line_feed bytes in
    let lines : length (lines_of bytes) ≡ count_by is_line_feed bytes + 1 = length-slice_split is_line_feed bytes in
    omega (arith, both.1, short, feeds, lines)
