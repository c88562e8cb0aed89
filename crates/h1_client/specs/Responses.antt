-- Which response is the final one, and how its body ends (RFC 9110, sections 7.8 and 15.2; RFC 9112,
-- section 6.3).
use Rattle.std.specs.Prelude.{ℕ, Bool, true, false, ◌&&◌, not, List, [], ◌∷◌, codes, Option, Some, None, if◌then◌else◌}
use Rattle.std.specs.List.{list_any}
use Rattle.h1_body.specs.Framing.{is_head, response_framing}
use Rattle.h1_fields.specs.ContentLength.{content_length}
use Rattle.h1_fields.specs.Lines.{Line, first_value, values_of}
use Rattle.h1_fields.specs.ListParts.{is_comma}
use Rattle.h1_fields.specs.declared.content_length.ContentLength.{ContentLength}
use Rattle.h1_fields.specs.declared.content_length.ContentLength.TheVariants as stated
use Rattle.h1_head.specs.Upgrade.{asks_upgrade, is_switch}
use Rattle.h1_client.specs.Words.{RequestView, ResponseView, ResponseHead, Framing, Counted, is_interim}

-- the final response, once its head was the last that was read
abbrev pub final_of : Option ResponseHead → Option ResponseView
final_of None = None
final_of (Some last) = if is_interim last.header.status then None else Some last.header

-- how the body of a response to this request ends; an interim one has none
abbrev pub framing_to : RequestView → ResponseView → Framing
framing_to request said =
    if is_interim said.status then Counted 0
    else response_framing (is_head request.method) (asks_upgrade request) said

-- the lines state no number, or several
abbrev pub is_bad : ContentLength → Bool
is_bad stated.Absent = false
is_bad (stated.Number n) = false
is_bad stated.Bad = true

-- one value, and no list in it
abbrev pub is_single : List (List ℕ) → Bool
is_single [] = false
is_single (value ∷ []) = not (list_any is_comma value)
is_single (value ∷ other ∷ values) = false

-- the length of a response is stated wrongly, which may be tolerated of a single value
abbrev pub has_bad_length : Bool → List Line → Bool
has_bad_length tolerant fields = is_bad (content_length fields)
    && not (tolerant && is_single (values_of (codes "Content-Length") fields))

-- the value of the first line of that name in the head that was read last
abbrev pub header_of : List ℕ → Option ResponseHead → Option (List ℕ)
header_of name None = None
header_of name (Some last) = first_value name last.header.fields

-- the request that was taken up asks for another protocol
abbrev pub wishes_upgrade : Option RequestView → Bool
wishes_upgrade None = false
wishes_upgrade (Some request) = asks_upgrade request

-- the final response changes the protocol
abbrev pub is_upgraded : Option ResponseView → Bool
is_upgraded None = false
is_upgraded (Some said) = is_switch said
