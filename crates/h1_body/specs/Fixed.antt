-- A copy of payload up to a capacity.
use Rattle.std.specs.Prelude.{ℕ, ◌+◌, nat_le, List, [], ◌++◌, length, Bool, true, if◌then◌else◌}

pub record FixedView : Type 0 where
  pub capacity : ℕ
  pub bytes : List ℕ
  pub truncated : Bool

-- a piece that does not fit takes all bytes with it, and nothing is added to a truncated buffer
abbrev pub after_write : FixedView → List ℕ → FixedView
after_write view piece =
    if view.truncated
    then view
    else (if nat_le (length view.bytes + length piece) view.capacity
    then record view { bytes = view.bytes ++ piece }
    else record view { bytes = []; truncated = true })
