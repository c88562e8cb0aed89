-- Scripts: lines that end by LF, the last of which may lack it. Empty lines are passed over.
use Rattle.std.specs.Prelude.{◌≡◌, ℕ, ◌+◌, min, Bool, true, false, not, ◌&&◌, ◌==◌, nat_le, if◌then◌else◌, List, [], ◌∷◌, ◌++◌, length, take, count_by, Option, Some, None, Result, Ok, Err}
use Rattle.std.specs.List.{slice_split, list_any}
use Rattle.h1_words.specs.Command.{command_of}
use Rattle.h1_words.specs.declared.script.TheConstants.{MAX_SCRIPT}
use Rattle.h1_words.specs.declared.command.Command.{Command}
use Rattle.h1_words.specs.declared.command.Command.TheVariants.{Give, End, Room, Block, FaultRead, FaultWrite, Shutdown, Limit, Mark, Refuse, Poll}
use Rattle.h1_words.specs.declared.place.Place.{Place}
use Rattle.h1_words.specs.declared.script.ScriptFault.{ScriptFault}
use Rattle.h1_words.specs.declared.script.ScriptFault.TheVariants as fault

abbrev pub is_line_feed : ℕ → Bool
is_line_feed b = b == 10

-- the parts before, between and after the LFs, where an empty part is no line or an empty one
abbrev pub lines_of : List ℕ → List (List ℕ)
lines_of bytes = slice_split is_line_feed bytes

-- the lines of the bytes that are left
abbrev pub lines_left : Option (List ℕ) → List (List ℕ)
lines_left None = []
lines_left (Some bytes) = lines_of bytes

-- a script means its commands, or the number of the first line outside the grammar
pub data ScriptOutcome : Type 0 where
  commands : List Command → ScriptOutcome
  faulty_at : ℕ → ScriptOutcome

-- `give` doesn't stand after `end`, `end` stands once, `limit` once and only before the first poll,
-- modules only before the first poll, and no poll is before an earlier one; every other line stands
-- anywhere
abbrev pub may_follow : Place → Command → Bool
may_follow place (Give bytes) = not place.ended
may_follow place End = not place.ended
may_follow place (Room count) = true
may_follow place Block = true
may_follow place FaultRead = true
may_follow place FaultWrite = true
may_follow place Shutdown = true
may_follow place (Limit count) = not place.polled && not place.limited
may_follow place (Mark number) = not place.polled
may_follow place (Refuse number) = not place.polled
may_follow place (Poll moment) = nat_le place.last_poll moment

-- what stands before the line after the command
abbrev pub place_after : Place → Command → Place
place_after place (Give bytes) = place
place_after place End = record place { ended = true }
place_after place (Room count) = place
place_after place Block = place
place_after place FaultRead = place
place_after place FaultWrite = place
place_after place Shutdown = place
place_after place (Limit count) = record place { limited = true }
place_after place (Mark number) = place
place_after place (Refuse number) = place
place_after place (Poll moment) = record place { polled = true; last_poll = moment }

-- `module mark` with this number
abbrev pub is_mark : ℕ → Command → Bool
is_mark number (Mark other) = other == number
is_mark number command = false

-- `module refuse` with this number
abbrev pub is_refuse : ℕ → Command → Bool
is_refuse number (Refuse other) = other == number
is_refuse number command = false

-- a module stands once; a line of another kind may stand again
abbrev pub is_repeated : Command → List Command → Bool
is_repeated (Mark number) before = list_any (is_mark number) before
is_repeated (Refuse number) before = list_any (is_refuse number) before
is_repeated command before = false

-- the lines that are read: what stands before the next one, the commands, and the number of the
-- next one, from 1; or the number of a faulty one
pub data Reading : Type 0 where
  at_line : Place → List Command → ℕ → Reading
  stopped_at : ℕ → Reading

-- a nonempty line that is this command, or none
abbrev pub with_command : Place → List Command → ℕ → Option Command → Reading
with_command place before number None = stopped_at number
with_command place before number (Some command) =
    if may_follow place command && not (is_repeated command before)
    then at_line (place_after place command) (before ++ command ∷ []) (number + 1)
    else stopped_at number

-- one line more
abbrev pub with_line : Reading → List ℕ → Reading
with_line (stopped_at number) line = stopped_at number
with_line (at_line place before number) [] = at_line place before (number + 1)
with_line (at_line place before number) (b ∷ line) =
    with_command place before number (command_of (b ∷ line))

abbrev pub reading_behind : Reading → List (List ℕ) → Reading
reading_behind reading [] = reading
reading_behind reading (line ∷ lines) = reading_behind (with_line reading line) lines

abbrev pub outcome_of : Reading → ScriptOutcome
outcome_of (at_line place before number) = commands before
outcome_of (stopped_at number) = faulty_at number

-- the number of the line that holds the byte after the first `place` bytes
abbrev pub line_at : ℕ → List ℕ → ℕ
line_at place bytes = count_by is_line_feed (take place bytes) + 1

-- a fault at this line or at an earlier one
abbrev pub faulty_by : ℕ → ScriptOutcome → ScriptOutcome
faulty_by number (commands read) = faulty_at number
faulty_by number (faulty_at first) = faulty_at (min first number)

-- a script of more than 8,388,608 bytes is faulty by the line that holds the first byte beyond
abbrev pub within_limit : List ℕ → ScriptOutcome → ScriptOutcome
within_limit bytes outcome =
    if nat_le (length bytes) MAX_SCRIPT
    then outcome
    else faulty_by (line_at MAX_SCRIPT bytes) outcome

-- nothing stands before the first line
abbrev pub first_line : Reading
first_line =
    at_line (record { ended = false; limited = false; polled = false; last_poll = 0 }) [] 1

-- what the lines of a script of any length mean
abbrev pub outcome_of_lines : List ℕ → ScriptOutcome
outcome_of_lines bytes = outcome_of (reading_behind first_line (lines_of bytes))

abbrev pub script_of : List ℕ → ScriptOutcome
script_of bytes = within_limit bytes (outcome_of_lines bytes)

-- an answer that tells what a script means; out of memory tells nothing
abbrev pub Tells : ScriptOutcome → Result (List Command) ScriptFault → Type 0
Tells outcome (Ok script) = outcome ≡ commands script
Tells outcome (Err (fault.Line number)) = outcome ≡ faulty_at number
Tells outcome (Err fault.NoMemory) = Unit {0}

-- a fault that tells at which line reading stopped
abbrev pub TellsFault : Reading → ScriptFault → Type 0
TellsFault reading (fault.Line number) = reading ≡ stopped_at number
TellsFault reading fault.NoMemory = Unit {0}
