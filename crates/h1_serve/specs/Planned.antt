-- The faults that the lines of a script plan.
use Rattle.std.specs.Prelude.{ℕ, ◌+◌, List, [], ◌∷◌}
use Rattle.h1_words.specs.declared.command.Command.{Command}
use Rattle.h1_words.specs.declared.command.Command.TheVariants as command

-- one for each line `fault read`
abbrev pub read_fault_of : Command → ℕ
read_fault_of command.FaultRead = 1
read_fault_of _ = 0

-- one for each line `fault write`
abbrev pub write_fault_of : Command → ℕ
write_fault_of command.FaultWrite = 1
write_fault_of _ = 0

-- how many lines `fault read`, and how many `fault write`, these are
abbrev pub read_fault_lines : List Command → ℕ
read_fault_lines [] = 0
read_fault_lines (c ∷ more) = read_fault_of c + read_fault_lines more

abbrev pub write_fault_lines : List Command → ℕ
write_fault_lines [] = 0
write_fault_lines (c ∷ more) = write_fault_of c + write_fault_lines more
