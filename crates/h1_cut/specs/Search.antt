-- What a search for the end of a head will find (RFC 9112, section 2.2).
use Rattle.std.specs.Prelude.{◌≡◌, ℕ, ◌≤◌, Bool, true, false, Option, Some, List, [], ◌∷◌, ◌++◌, length, take, MatchOption, ◌+◌, if◌then◌else◌}
use Rattle.h1_cut.specs.declared.search.HeadSearch.{HeadSearch}
use Rattle.h1_cut.specs.declared.search.Reached.{Reached}
use Rattle.h1_cut.specs.declared.search.Reached.TheVariants.{Start, Lines, End}
use Rattle.h1_cut.specs.Cut.{cut, cut_from}

-- whether a nonempty line has come
abbrev pub has_begun : Reached → Bool
has_begun Start = false
has_begun Lines = true
has_begun End = true

-- whether the end of the head has come
abbrev pub is_end : Reached → Bool
is_end Start = false
is_end Lines = false
is_end End = true

-- how many bytes the search has looked at
abbrev pub at_of : HeadSearch → ℕ
at_of s = s.at

-- what the search finds if these bytes follow
abbrev pub found_by : HeadSearch → List ℕ → Option ℕ
found_by s bytes =
    if is_end s.reached then Some s.at else cut_from s.at (has_begun s.reached) s.line bytes

-- what the search has looked at is a front of the bytes
pub record HasLookedAt (s : HeadSearch) (bytes : List ℕ) : Type 0 where
  pub within : at_of s ≤ length bytes
  pub same : (rest : List ℕ) → found_by s rest ≡ cut (take (at_of s) bytes ++ rest)

-- what a call of a search leaves that looked at these bytes, over a counter of looks
pub record Advanced (old new : HeadSearch) (bytes : List ℕ) (before after : ℕ) : Type 0 where
  pub looked : HasLookedAt new bytes
  -- it stands behind all bytes, or at the end of the head
  pub at : MatchOption (cut bytes) (at_of new ≡ length bytes) (λ n. at_of new ≡ n)
  -- the counter rose by at most the bytes that the search went on
  pub steps : after + at_of old ≤ before + at_of new

-- calls of a search one after the other, each over these bytes
abbrev pub Calls : HeadSearch → ℕ → List (List ℕ) → HeadSearch → ℕ → Type 0
Calls old before [] new after = (old ≡ new) × (before ≡ after)
Calls old before (bytes ∷ later) new after =
    (next : HeadSearch) × (count : ℕ) × Advanced old next bytes before count
    × Calls next count later new after

-- what the search has looked at is a front of the bytes, within the limit
pub record HasLooked (limit : ℕ) (s : HeadSearch) (bytes : List ℕ) : Type 0 where
  pub within : at_of s ≤ length bytes
  pub limited : at_of s ≤ limit
  pub same : (rest : List ℕ) → found_by s rest ≡ cut (take (at_of s) bytes ++ rest)
