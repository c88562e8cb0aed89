-- Lists in field values (RFC 9110, section 5.6.1).
use Rattle.std.specs.Prelude.{ℕ, Bool, List, map, ◌==◌}
use Rattle.std.specs.List.{slice_split, flat_map, list_any}
use Rattle.httparse.specs.Grammar.{trim_ows}
use Rattle.h1_fields.specs.Names.{same_name}
use Rattle.h1_fields.specs.Lines.{Line, values_of}

abbrev pub is_comma : ℕ → Bool
is_comma b = b == 44

-- the parts of a value between its commas, without the spaces and tabs around them
abbrev pub value_parts : List ℕ → List (List ℕ)
value_parts value = map trim_ows (slice_split is_comma value)

-- the same of all values, one after another
abbrev pub list_parts : List (List ℕ) → List (List ℕ)
list_parts values = flat_map value_parts values

-- the parts of all lines of a name
abbrev pub parts_of : List ℕ → List Line → List (List ℕ)
parts_of name lines = list_parts (values_of name lines)

-- some part of the lines of this name is the token, in any case
abbrev pub lists_named : List ℕ → List ℕ → List Line → Bool
lists_named name token lines = list_any (same_name token) (parts_of name lines)
