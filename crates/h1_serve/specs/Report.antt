-- What a script is reported as: a line for each poll, then what was read and written in the end.
use Rattle.std.specs.Prelude.{◌≡◌, ℕ, ◌+◌, pos, List, [], ◌∷◌, ◌++◌, true, Option, Some, None}
use Rattle.h1_error.specs.declared.progress.Progress.{Progress}
use Rattle.h1_link.specs.Counts.{raised}
use Rattle.h1_link.specs.declared.memory.gate.Gate.TheVariants.{Room, Blocked}
use Rattle.h1_words.specs.declared.command.Command.{Command}
use Rattle.h1_words.specs.declared.command.Command.TheVariants as command
use Rattle.h1_words.specs.Script.{script_of, commands}
use Rattle.h1_marking.specs.Marking.{MarkingModule}
use Rattle.h1_marking.specs.declared.marking.Marking.{Marking}
use Rattle.h1_marking.specs.declared.marking.Marking.TheVariants as marking
use Rattle.h1_serve.specs.State.{State, start_with, transcript}
use Rattle.h1_serve.specs.PollLine.{Polls, poll_line}
use Rattle.h1_serve.specs.ExchangeText.{exchanges_lines, wrote_line}

-- what a command makes of the state before it, and what it writes
abbrev pub Obeys : State → Command → List ℕ → State → Type 0
Obeys s (command.Give bytes) text t = (text ≡ []) × (t ≡ record s { put = s.put ++ bytes })
Obeys s command.End text t = (text ≡ []) × (t ≡ record s { said = true })
Obeys s (command.Room count) text t =
    (text ≡ []) × (t ≡ record s { gate = Room (s.link.bytes_out + count) })
Obeys s command.Block text t = (text ≡ []) × (t ≡ record s { gate = Blocked })
Obeys s command.FaultRead text t =
    (text ≡ []) × (t ≡ record s { reads_due = raised s.link.read_faults 1 })
Obeys s command.FaultWrite text t =
    (text ≡ []) × (t ≡ record s { writes_due = raised s.link.write_faults 1 })
Obeys s command.Shutdown text t = (text ≡ []) × (t ≡ record s { shut = true })
Obeys s (command.Limit count) text t = (text ≡ []) × (t ≡ s)
Obeys s (command.Mark number) text t = (text ≡ []) × (t ≡ s)
Obeys s (command.Refuse number) text t = (text ≡ []) × (t ≡ s)
Obeys s (command.Poll moment) text t =
    (answer : Progress) × (text ≡ poll_line moment answer) × Polls moment s answer t

-- the commands one after the other, and what each writes
abbrev pub Lines : State → List Command → List ℕ → State → Type 0
Lines s [] text t = (text ≡ []) × (t ≡ s)
Lines s (c ∷ more) text t =
    (line : List ℕ) × (next : State) × (rest : List ℕ) × (text ≡ line ++ rest) × Obeys s c line next
    × Lines next more rest t

-- the limit that the commands set, before the first poll
abbrev pub limit_in : List Command → Option ℕ
limit_in [] = None
limit_in (command.Limit count ∷ more) = Some count
limit_in (c ∷ more) = limit_in more

-- the module that a command adds
abbrev pub marking_of : Command → Option Marking
marking_of (command.Mark number) = Some (marking.Mark number)
marking_of (command.Refuse number) = Some (marking.Refuse number)
marking_of _ = None

-- one module more, where there is one
abbrev pub with_marking : ℕ → Option Marking → (ℕ → List MarkingModule) → List MarkingModule
with_marking key None more = more key
with_marking key (Some m) more =
    (record { filter = m; order = pos 0; key = key }) ∷ more (key + 1)

-- the modules that the commands add, with keys from this one on in the order of the lines
abbrev pub modules_from : ℕ → List Command → List MarkingModule
modules_from key [] = []
modules_from key (c ∷ rest) = with_marking key (marking_of c) (λ next. modules_from next rest)

abbrev pub modules_in : List Command → List MarkingModule
modules_in asked = modules_from 0 asked

-- the text of these commands: their polls, and then the exchanges and the bytes written of the last
-- state
pub record IsTextOf (asked : List Command) (text : List ℕ) : Type 0 where
  pub last : State
  pub polls : List ℕ
  pub written : List ℕ
  pub lines : Lines (start_with (limit_in asked) (modules_in asked)) asked polls last
  pub told : last.link.written ≡ Some written
  pub is : text ≡ polls ++ exchanges_lines (transcript last) ++ wrote_line written

-- the text is a report of the script
pub record Report (script text : List ℕ) : Type 0 where
  pub asked : List Command
  pub read : script_of script ≡ commands asked
  pub is_text : IsTextOf asked text
