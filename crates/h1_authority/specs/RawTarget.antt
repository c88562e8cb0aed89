-- The authority of a request target in absolute form (RFC 9112, section 3.2.2).
use Rattle.std.specs.Prelude.{ℕ, Bool, true, false, not, ◌||◌, ◌&&◌, ◌==◌, if◌then◌else◌, List, [], ◌∷◌, drop, Option, Some, None}
use Rattle.std.specs.List.{list_any, position_or_len, before_first}
use Rattle.h1_authority.specs.Bytes.{ends_authority, authority_part}
use Rattle.h1_authority.specs.Scheme.{is_http_family_scheme, is_scheme}
use Rattle.h1_authority.specs.declared.raw_target.RawTargetAuthority.{RawTargetAuthority}
use Rattle.h1_authority.specs.declared.raw_target.RawTargetAuthority.TheVariants as raw

-- no authority; bytes that readers may take for two authorities; or a scheme and an authority
pub data TargetClass : Type 0 where
  absent : TargetClass
  ambiguous : TargetClass
  absolute : List ℕ → List ℕ → TargetClass

-- the class that a value of the program stands for
abbrev pub seen_as : RawTargetAuthority → TargetClass
seen_as raw.None = absent
seen_as raw.AmbiguousAuthority = ambiguous
seen_as (raw.Absolute scheme authority) = absolute scheme.now authority.now

-- `:`, `/`, `?`, `#` and `\`
abbrev pub ends_scheme : ℕ → Bool
ends_scheme b = b == 58 || ends_authority b || b == 92

abbrev pub has_backslash : List ℕ → Bool
has_backslash bytes = list_any (λ b. b == 92) bytes

abbrev pub is_empty : List ℕ → Bool
is_empty [] = true
is_empty (b ∷ bytes) = false

-- what follows a leading `//`
abbrev pub behind_slashes : List ℕ → Option (List ℕ)
behind_slashes [] = None
behind_slashes (a ∷ []) = None
behind_slashes (a ∷ b ∷ rest) = if a == 47 && b == 47 then Some rest else None

-- after `http:` or `https:`: `//` and a nonempty authority without `\`
abbrev pub http_class : List ℕ → Option (List ℕ) → TargetClass
http_class scheme None = ambiguous
http_class scheme (Some rest) =
    if is_empty (authority_part rest) || has_backslash (authority_part rest) then ambiguous
    else absolute scheme (authority_part rest)

-- after another scheme
abbrev pub other_class : List ℕ → Option (List ℕ) → TargetClass
other_class scheme None = absent
other_class scheme (Some rest) =
    if is_empty (authority_part rest) then absent
    else (if not (is_scheme scheme) || has_backslash (authority_part rest) then ambiguous
    else absolute scheme (authority_part rest))

abbrev pub class_of_scheme : List ℕ → List ℕ → TargetClass
class_of_scheme scheme rest =
    if is_http_family_scheme scheme then http_class scheme (behind_slashes rest)
    else other_class scheme (behind_slashes rest)

-- what stands before the first of the five bytes, and that byte with all after it: only `:`
-- ends a scheme
abbrev pub class_at : List ℕ → List ℕ → TargetClass
class_at scheme [] = absent
class_at scheme (b ∷ rest) = if b == 58 then class_of_scheme scheme rest else absent

abbrev pub class_of : List ℕ → TargetClass
class_of target =
    class_at (before_first ends_scheme target) (drop (position_or_len ends_scheme target) target)
