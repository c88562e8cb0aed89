-- What the bytes of a link are made of while an exchange goes on.
use Rattle.std.specs.Prelude.{◌≡◌, ℕ, List, ◌++◌}
use Rattle.h1_client.specs.Words.{LinkState}
use Rattle.h1_client.specs.Served.{Served, Told}

-- Whole exchanges stand in front. Behind them the link took what was taken up of this request but for
-- what is owed, and gave what was used of the responses and then what is received.
pub record Spans (owed received request used : List ℕ) (taken given : List ℕ) : Type 0 where
  pub taken_before : List ℕ
  pub given_before : List ℕ
  pub served : Served taken_before given_before
  pub took : taken ++ owed ≡ taken_before ++ request
  pub gave : given ≡ given_before ++ (used ++ received)

abbrev pub Holds : LinkState → List ℕ → List ℕ → List ℕ → List ℕ → Type 0
Holds s owed received request used = Told s.written s.given (Spans owed received request used)
