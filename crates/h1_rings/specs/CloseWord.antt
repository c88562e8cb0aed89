-- The rule of a close word: it is 0, or one more than a number that only its owner sets, and which then stays.
use Rattle.std.specs.Prelude.{◌≡◌, ℕ, ◌+◌, ◌-◌, ◌==◌, Bool, true, List, Option, Some, None, IfSome, if◌then◌else◌, slice_index}
use mathlib.Core.Option.{some}
use lib.ListN.{get_elem?}
use Rattle.h1_rings.specs.declared.close_word.WordView.{WordView}

abbrev pub word_view : Bool → Option ℕ → Option ℕ → WordView
word_view owns set seen = record { owns = owns; set = set; seen = seen }

abbrev pub mark : Option ℕ → ℕ
mark None = 0
mark (Some n) = n + 1

-- the number that a word has
abbrev pub number : ℕ → Option ℕ
number bits = if bits == 0 then None else Some (bits - 1)

-- a number that is known is the number
abbrev pub Agrees : Option ℕ → Option ℕ → Type 0
Agrees known now = IfSome known (λ n. now ≡ Some n)

-- what a pass knows is so
pub record KnowsWord (owner : ℕ) (now : Option ℕ) (port : ℕ) (v : WordView) : Type 0 where
  pub owning : v.owns ≡ true → (port ≡ owner) × (v.set ≡ now)
  pub saw : Agrees v.seen now

pub record KeepsNumber (words : List ℕ) (views : List WordView) : Type 0 where
  pub owner : ℕ
  pub now : Option ℕ
  pub word : slice_index words 0 ≡ mark now
  pub each : (port : ℕ) (v : WordView) → get_elem? views port ≡ some v → KnowsWord owner now port v

-- the word was found as y, and a number that was seen before is its number
pub record HasLooked (v : WordView) (y : List ℕ) (w : WordView) : Type 0 where
  pub seen : w ≡ word_view v.owns v.set (number (slice_index y 0))
  pub stays : Agrees v.seen (number (slice_index y 0))
