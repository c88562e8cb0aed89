-- Authorities whose port two readers may find in two places (RFC 3986, section 3.2).
use Rattle.std.specs.Prelude.{ℕ, Bool, true, false, ◌||◌, ◌==◌, if◌then◌else◌, nat_lt, List, [], ◌∷◌, count_by}
use Rattle.std.specs.List.{list_any}
use Rattle.h1_authority.specs.Bytes.{is_bracket}

-- outside of a leading pair of brackets: a bracket, or two colons
abbrev pub is_ambiguous_outside : List ℕ → Bool
is_ambiguous_outside bytes = list_any is_bracket bytes || nat_lt 1 (count_by (λ b. b == 58) bytes)

-- after a leading `[`: a second `[` before the first `]`, or no `]`, or what is ambiguous
-- after it
abbrev pub is_ambiguous_behind_bracket : List ℕ → Bool
is_ambiguous_behind_bracket [] = true
is_ambiguous_behind_bracket (b ∷ bytes) =
    if b == 91 then true
    else (if b == 93 then is_ambiguous_outside bytes else is_ambiguous_behind_bracket bytes)

abbrev pub has_ambiguous_port_suffix : List ℕ → Bool
has_ambiguous_port_suffix [] = false
has_ambiguous_port_suffix (b ∷ bytes) =
    if b == 91 then is_ambiguous_behind_bracket bytes else is_ambiguous_outside (b ∷ bytes)
