-- What holds of the bytes of a link, where it tells them.
use Rattle.std.specs.Prelude.{◌≡◌, ℕ, ◌+◌, List, ◌++◌, length, Option, Some, None, ◌≤◌}

-- what holds of the bytes that came since, where the link tells its bytes
abbrev pub IfTold : Option (List ℕ) → Option (List ℕ) → (List ℕ → Type 0) → Type 0
IfTold (Some before) (Some now) P = (since : List ℕ) × (now ≡ before ++ since) × P since
IfTold (Some before) None P = Unit {0}
IfTold None now P = Unit {0}

-- where the link tells its bytes, so many more were given and written
abbrev pub ToldGrowth : Option (List ℕ) → Option (List ℕ) → Option (List ℕ) → Option (List ℕ) → ℕ
    → Type 0
ToldGrowth (Some given) (Some more) (Some written) (Some further) count =
    length given + length written + count ≤ length more + length further
ToldGrowth given more written further count = Unit {0}
