-- The words of the command line.
use Rattle.std.specs.Prelude.{ℕ, ◌≤◌, if◌then◌else◌, List, [], ◌∷◌, codes, Option, Some, None}
use Rattle.std.specs.Option.{option_map}
use Rattle.std.specs.Str.{bytes_eq}
use Rattle.h1_words.specs.Number.{number_up_to}
use Rattle.h1_words.specs.declared.words.TheConstants.{MOST_GENERATED, MOST_CONNECTIONS, LAST_PORT}
use Rattle.h1_words.specs.declared.words.Task.{Task}
use Rattle.h1_words.specs.declared.words.Task.TheVariants.{Script, Gen, Listen}

-- the task of `gen` with these digits
abbrev pub gen_task : List ℕ → Option Task
gen_task digits = option_map Gen (number_up_to MOST_GENERATED digits)

abbrev pub listen_at : Option ℕ → Option ℕ → Option Task
listen_at None count = None
listen_at (Some port) count = option_map (Listen port) count

-- the task of `listen` with the digits of a port and of a count
abbrev pub listen_task : List ℕ → List ℕ → Option Task
listen_task port count =
    listen_at (number_up_to LAST_PORT port) (number_up_to MOST_CONNECTIONS count)

-- script, or gen N, or listen PORT COUNT
abbrev pub task_of : List (List ℕ) → Option Task
task_of [] = None
task_of (word ∷ []) = if bytes_eq word (codes "script") then Some Script else None
task_of (word ∷ number ∷ []) = if bytes_eq word (codes "gen") then gen_task number else None
task_of (word ∷ port ∷ count ∷ []) =
    if bytes_eq word (codes "listen") then listen_task port count else None
task_of (word ∷ port ∷ count ∷ next ∷ more) = None

-- a number is within its limit
abbrev pub IsWithin : Task → Type 0
IsWithin Script = Unit {0}
IsWithin (Gen count) = count ≤ MOST_GENERATED
IsWithin (Listen port count) = (port ≤ LAST_PORT) × (count ≤ MOST_CONNECTIONS)
