-- The bytes of a text that is short or long.
use Rattle.std.specs.Prelude.{ℕ, List}
use Rattle.h1_fields.specs.declared.text.Stored.{Stored}
use Rattle.h1_fields.specs.declared.text.Stored.TheVariants.{Short, Long}

abbrev pub bytes_in : Stored → List ℕ
bytes_in (Short short) = short.items
bytes_in (Long long) = long.items
