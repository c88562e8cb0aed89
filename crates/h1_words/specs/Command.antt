-- The lines of a script, each by itself.
use Rattle.std.specs.Prelude.{ℕ, if◌then◌else◌, List, length, take, drop, codes, Option, Some, None}
use Rattle.std.specs.Option.{option_map}
use Rattle.std.specs.Str.{bytes_eq}
use Rattle.h1_words.specs.ByteText.{bytes_of_text}
use Rattle.h1_words.specs.Number.{number_up_to}
use Rattle.h1_words.specs.declared.command.TheConstants.{LAST_MOMENT, MAX_SHORT_NUMBER, MAX_ROOM}
use Rattle.h1_words.specs.declared.command.Command.{Command}
use Rattle.h1_words.specs.declared.command.Command.TheVariants.{Give, End, Room, Block, FaultRead, FaultWrite, Shutdown, Limit, Mark, Refuse, Poll}

-- what stands after these words at the front of a line
abbrev pub behind_words : List ℕ → List ℕ → Option (List ℕ)
behind_words words line =
    if bytes_eq (take (length words) line) words then Some (drop (length words) line) else None

-- give TEXT
abbrev pub give_command : List ℕ → Option Command
give_command text = option_map Give (bytes_of_text text)

-- poll N, before the year 10000
abbrev pub poll_command : List ℕ → Option Command
poll_command digits = option_map Poll (number_up_to LAST_MOMENT digits)

-- N below 2^32
abbrev pub short_number : List ℕ → Option ℕ
short_number digits = number_up_to MAX_SHORT_NUMBER digits

-- limit N, below 2^32
abbrev pub limit_command : List ℕ → Option Command
limit_command digits = option_map Limit (short_number digits)

-- module mark N, below 2^32
abbrev pub mark_command : List ℕ → Option Command
mark_command digits = option_map Mark (short_number digits)

-- module refuse N, below 2^32
abbrev pub refuse_command : List ℕ → Option Command
refuse_command digits = option_map Refuse (short_number digits)

-- room N, below 2^64
abbrev pub room_command : List ℕ → Option Command
room_command digits = option_map Room (number_up_to MAX_ROOM digits)

abbrev pub refuse_line : Option (List ℕ) → Option Command
refuse_line None = None
refuse_line (Some digits) = refuse_command digits

abbrev pub mark_line : List ℕ → Option (List ℕ) → Option Command
mark_line line None = refuse_line (behind_words (codes "module refuse ") line)
mark_line line (Some digits) = mark_command digits

-- module mark N, or module refuse N
abbrev pub module_command : List ℕ → Option Command
module_command line = mark_line line (behind_words (codes "module mark ") line)

abbrev pub room_line : List ℕ → Option (List ℕ) → Option Command
room_line line None = module_command line
room_line line (Some digits) = room_command digits

abbrev pub limit_line : List ℕ → Option (List ℕ) → Option Command
limit_line line None = room_line line (behind_words (codes "room ") line)
limit_line line (Some digits) = limit_command digits

abbrev pub poll_line : List ℕ → Option (List ℕ) → Option Command
poll_line line None = limit_line line (behind_words (codes "limit ") line)
poll_line line (Some digits) = poll_command digits

abbrev pub give_line : List ℕ → Option (List ℕ) → Option Command
give_line line None = poll_line line (behind_words (codes "poll ") line)
give_line line (Some text) = give_command text

-- give TEXT, or poll N, or limit N, or room N, or a module
abbrev pub text_command : List ℕ → Option Command
text_command line = give_line line (behind_words (codes "give ") line)

-- end, or shutdown, or block, or fault read, or fault write
abbrev pub fixed_command : List ℕ → Option Command
fixed_command line =
    if bytes_eq line (codes "end") then Some End
    else (if bytes_eq line (codes "shutdown") then Some Shutdown
    else (if bytes_eq line (codes "block") then Some Block
    else (if bytes_eq line (codes "fault read") then Some FaultRead
    else (if bytes_eq line (codes "fault write") then Some FaultWrite
    else None))))

-- one of the fixed lines, or one with a text or a number
abbrev pub either_command : List ℕ → Option Command → Option Command
either_command line None = text_command line
either_command line (Some command) = Some command

abbrev pub command_of : List ℕ → Option Command
command_of line = either_command line (fixed_command line)
