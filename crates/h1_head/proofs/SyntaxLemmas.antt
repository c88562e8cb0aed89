-- Tokens as a test.
use Rattle.std.proofs.Common.{◌≡◌, ℕ, Bool, true, List, [], ◌∷◌, All, IsTrue, refl, nat_lt, length, rules, tests}
use Rattle.std.specs.List.{list_all}
use Rattle.std.proofs.lemmas.List.Elements.{All-head, All-tail}
use Rattle.httparse.specs.Grammar.{IsToken, is_token, is_token_byte}

all_pass : (test : ℕ → Bool) (bytes : List ℕ) → All (λ b. IsTrue (test b)) bytes
    → list_all test bytes ≡ true
all_pass test [] pass = refl
all_pass test (b ∷ bytes) pass =
    let first : test b ≡ true = All-head (λ x. IsTrue (test x)) b bytes pass in
    rw first (all_pass test bytes (All-tail (λ x. IsTrue (test x)) b bytes pass))

-- the test finds a token
pub is_token_true : (bytes : List ℕ) → IsToken bytes → is_token bytes ≡ true
is_token_true bytes token =
    let some : nat_lt 0 (length bytes) ≡ true = search (rules, tests) in
    rw some (all_pass is_token_byte bytes token.1)
