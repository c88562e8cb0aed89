-- What is left of a value after a comma.
use Rattle.std.specs.Prelude.{ℕ, List, [], map, Option, None, Some}
use Rattle.std.specs.List.{slice_split}
use Rattle.httparse.specs.Grammar.{trim_ows}
use Rattle.h1_fields.specs.ListParts.{is_comma}

-- the pieces of the bytes after a comma, and none where there was no comma
abbrev pub pieces_behind : Option (List ℕ) → List (List ℕ)
pieces_behind None = []
pieces_behind (Some bytes) = slice_split is_comma bytes

-- the same without the spaces and tabs around them
abbrev pub parts_behind : Option (List ℕ) → List (List ℕ)
parts_behind bytes = map trim_ows (pieces_behind bytes)
