-- The line of a mark is refused only where memory ran out.
use Rattle.std.proofs.Common.{◌≡◌, ℕ, ◌<◌, ◌^◌, true, List, None, codes, decimal, refl}
use Rattle.std.proofs.lemmas.Fmt.{decimal_is_IsNumeral}
use Rattle.httparse.specs.Grammar.{is_token, is_token_byte}
use Rattle.h1_head.specs.Faults.{line_fault}
use Rattle.h1_echo.proofs.EchoLemmas.{digits_are_text}

name_is : is_token (codes "x-mark") ≡ true
unfolding is_token_byte
name_is = refl

-- a number is a value of it
pub mark_is_a_line : (value : List ℕ) (number : ℕ) → value ≡ decimal number → number < 2 ^ 64
    → line_fault (codes "x-mark") value ≡ None
mark_is_a_line value number is small =
    let digits = (decimal_is_IsNumeral number small).0 in
    rw (is, name_is, digits_are_text (decimal number) digits.1) refl
