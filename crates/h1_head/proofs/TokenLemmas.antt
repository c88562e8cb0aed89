-- A token passes the test for one (RFC 9110, section 5.6.2).
use Rattle.std.proofs.Common.{◌≡◌, ℕ, ◌<◌, true, List, length, IsTrue, arith}
use Rattle.std.proofs.lemmas.Bool.Decides.{nat_tests}
use Rattle.std.proofs.lemmas.List.Sums.{list_all-from_AllPass}
use Rattle.std.specs.List.{list_all}
use Rattle.httparse.specs.Grammar.{IsToken, is_token, is_token_byte}

pub token_test : (bytes : List ℕ) → IsToken bytes → IsTrue (is_token bytes)
token_test bytes token =
    let some : 0 < length bytes = token.0 in
    let pass : list_all is_token_byte bytes ≡ true =
    list_all-from_AllPass is_token_byte bytes token.1 in
    rw pass (grind (arith, nat_tests))
