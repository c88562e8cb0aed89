-- A head that ends within a limit (RFC 9112, section 3: a server may refuse what is longer).
use Rattle.std.specs.Prelude.{◌≡◌, ◌<◌, ◌≤◌, ℕ, List, length, take, Some, None}
use Rattle.h1_cut.specs.Cut.{cut}

-- the first head of the bytes takes n bytes, which are within the limit and within the bytes
pub record CutsAt (limit : ℕ) (bytes : List ℕ) (n : ℕ) : Type 0 where
  pub cut_is : cut bytes ≡ Some n
  pub own : cut (take n bytes) ≡ Some n
  pub some : 0 < n
  pub limited : n ≤ limit
  pub within : n ≤ length bytes

-- no head ends within the limit
unfoldable pub HasNoCut : ℕ → List ℕ → Type 0
HasNoCut limit bytes = cut (take limit bytes) ≡ None
