-- The rest of a line that isn't empty (RFC 9112, section 2.2).
use Rattle.std.specs.Prelude.{◌≡◌, ◌<◌, ◌≤◌, ℕ, Bool, true, List, ◌++◌, length, drop}
use Rattle.h1_cut.specs.declared.line.LineSoFar.TheVariants.{Nothing, Text}
use Rattle.h1_cut.specs.Cut.{cut_from}

-- from `from` to `at` the line goes on, whatever follows
pub record IsTextTo (bytes : List ℕ) (from at : ℕ) : Type 0 where
  pub goes : (begun : Bool) (more : List ℕ)
      → cut_from from begun Text (drop from bytes ++ more)
      ≡ cut_from at begun Text (drop at bytes ++ more)

-- the line goes on from `from`, and `at` is behind its LF
pub record EndsTextAt (bytes : List ℕ) (from at : ℕ) : Type 0 where
  pub behind : from < at
  pub within : at ≤ length bytes
  pub goes : (begun : Bool) (more : List ℕ)
      → cut_from from begun Text (drop from bytes ++ more)
      ≡ cut_from at true Nothing (drop at bytes ++ more)
