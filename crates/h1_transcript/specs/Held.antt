-- Values that are seen whether memory has them or not.
use Rattle.std.specs.Prelude.{Bool, true, false, Option, Some, None, option_map}
use Rattle.h1_transcript.specs.declared.held.Held.{Held}
use Rattle.h1_transcript.specs.declared.held.Held.TheVariants as held
use Rattle.h1_transcript.specs.declared.history.History.{History}
use Rattle.h1_transcript.specs.declared.history.History.TheVariants as history

-- what was seen
abbrev pub value_of : {T : Type 0} → Held T → T
value_of (held.Copy value) = value
value_of (held.Seen seen) = seen.value

-- what memory has of it
abbrev pub copy_of : {T : Type 0} → Held T → Option T
copy_of (held.Copy value) = Some value
copy_of (held.Seen seen) = None

-- memory has a copy where exchanges are kept, and none where they are forgotten
abbrev pub HoldsBy : {T : Type 0} → History → Held T → Type 0
HoldsBy history.Kept (held.Copy value) = Unit {0}
HoldsBy history.Kept (held.Seen seen) = ⊥
HoldsBy history.Forgotten (held.Copy value) = ⊥
HoldsBy history.Forgotten (held.Seen seen) = Unit {0}

-- the head for the application: the one that was read, or what stands in its stead
abbrev pub filtered_of : {T : Type 0} → Bool → Held T → Option (Held T) → Option T
filtered_of false head changed = Some (value_of head)
filtered_of true head changed = option_map value_of changed

-- what stands in a place, where it counts
abbrev pub shown_if : {T : Type 0} → Bool → Option T → Option T
shown_if true found = found
shown_if false found = None
