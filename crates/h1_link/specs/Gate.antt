-- How much a link in memory takes.
use Rattle.std.specs.Prelude.{◌≡◌, ℕ, ◌+◌, ◌-◌, ◌==◌, min, Option, Some, None, if◌then◌else◌}
use Rattle.h1_link.specs.declared.memory.gate.Gate.{Gate}
use Rattle.h1_link.specs.declared.memory.gate.Gate.TheVariants.{Open, Room, Blocked}

-- how many bytes of a piece of that length are taken now, where the gate takes any
abbrev pub room_for : Gate → ℕ → Option ℕ
room_for Open len = Some len
room_for (Room left) len = if left == 0 then None else Some (min left len)
room_for Blocked len = None

-- the gate once that many bytes went through it
abbrev pub gate_after : Gate → ℕ → Gate
gate_after Open n = Open
gate_after (Room left) n = Room (left - n)
gate_after Blocked n = Blocked

-- the gate with its room counted from the first byte ever taken: no write changes this
abbrev pub gate_from : Gate → ℕ → Gate
gate_from Open taken = Open
gate_from (Room left) taken = Room (taken + left)
gate_from Blocked taken = Blocked

-- nothing goes through, and no flush is done
abbrev pub IsBlocked : Gate → Type 0
IsBlocked Open = ⊥
IsBlocked (Room left) = ⊥
IsBlocked Blocked = Unit {0}

-- nothing goes through
abbrev pub IsClosed : Gate → Type 0
IsClosed Open = ⊥
IsClosed (Room left) = left ≡ 0
IsClosed Blocked = Unit {0}
