-- Field lines as places in one text.
use Rattle.std.specs.Prelude.{ℕ, ◌≤◌, ◌≡◌, List, map, length}
use Rattle.std.specs.List.{All, slice_range}
use Rattle.h1_fields.specs.declared.span.Span.{Span}
use Rattle.h1_fields.specs.Lines.{Line}

-- the name and the value lie in a text of that length
pub record Fits (room : ℕ) (span : Span) : Type 0 where
  pub name : span.name ≤ span.name_end
  pub name_within : span.name_end ≤ room
  pub value : span.value ≤ span.value_end
  pub value_within : span.value_end ≤ room

abbrev pub AllFit : List ℕ → List Span → Type 0
AllFit text spans = All (Fits (length text)) spans

-- the line that lies there
abbrev pub line_of : List ℕ → Span → Line
line_of text span =
    (slice_range text span.name span.name_end, slice_range text span.value span.value_end)

abbrev pub lines_of : List ℕ → List Span → List Line
lines_of text spans = map (line_of text) spans

-- the place of this line in the text
pub record IsPlaceOf (text name value : List ℕ) (span : Span) : Type 0 where
  pub fits : Fits (length text) span
  pub line : line_of text span ≡ (name, value)
