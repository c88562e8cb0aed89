-- The numbers of ports.
use Rattle.std.proofs.Common.{◌≡◌, ℕ, ◌+◌, ◌*◌, ◌<◌, ◌≤◌, ◌^◌, Bool, true, false, cond, ◌&&◌, List, [], ◌∷◌, drop, Some, None, refl, sym, ap, subst, arith, ltb, eqb}
use Rattle.std.proofs.lemmas.Bool.{ltb-true, lt-ltb, and_parts, and_from}
use Rattle.std.specs.Char.{digit_value}
use Rattle.std.specs.Str.Parse.{IsNumeral, AllDigits, digits_value, digits_value_after}
use Rattle.h1_authority.specs.ParsedAuthority.{port_from, port_of_digits, port_of}
use Rattle.h1_authority.specs.AuthorityGrammar.{IsPort}

-- after those of n these digits write a port
record Writes (n : ℕ) (digits : List ℕ) (port : ℕ) : Type 0 where
  each : AllDigits 10 digits
  value : digits_value_after 10 n digits ≡ port
  small : port < 2 ^ 16

read_more : (t : Bool) (n b : ℕ) (digits : List ℕ) (port : ℕ) →
    (ltb (digit_value b) 10 && ltb (n * 10 + digit_value b) (2 ^ 16)) ≡ t →
    port_from (cond t (Some (n * 10 + digit_value b)) None) digits ≡ Some port →
    (port_from (Some (n * 10 + digit_value b)) digits ≡ Some port →
    n * 10 + digit_value b < 2 ^ 16 → Writes (n * 10 + digit_value b) digits port) →
    Writes n (b ∷ digits) port
read_more true n b digits port test h more =
    let parts = and_parts (ltb (digit_value b) 10) (ltb (n * 10 + digit_value b) (2 ^ 16)) test in
    let rest = more h (ltb-true (n * 10 + digit_value b) (2 ^ 16) parts.1) in
    record {
      each = (ltb-true (digit_value b) 10 parts.0, rest.each);
      value = rest.value;
      small =
          rest.small;
    }
read_more false n b digits port test h more = cc

read : (n : ℕ) (digits : List ℕ) (port : ℕ) → port_from (Some n) digits ≡ Some port → n < 2 ^ 16 →
    Writes n digits port
read n [] port h small = let e : n ≡ port = cc in
    record { each = tt; value = e; small = omega arith }
read n (b ∷ digits) port h small =
    read_more _ n b digits port refl h (read (n * 10 + digit_value b) digits port)

grows : (n : ℕ) (digits : List ℕ) → n ≤ digits_value_after 10 n digits
grows n [] = omega arith
grows n (b ∷ digits) = omega (arith, grows (n * 10 + digit_value b) digits)

written : (n : ℕ) (digits : List ℕ) (port : ℕ) → Writes n digits port →
    port_from (Some n) digits ≡ Some port
written n [] port w = ap (λ m. Some m) w.value
written n (b ∷ digits) port w =
    let more = n * 10 + digit_value b in
    let fits : more < 2 ^ 16 = omega (arith, grows more digits, w.value, w.small) in
    let test : (ltb (digit_value b) 10 && ltb more (2 ^ 16)) ≡ true =
    and_from _ _ (lt-ltb _ _ w.each.0) (lt-ltb _ _ fits) in
    let P : Bool → Type 0 = λ t. port_from (cond t (Some more) None) digits ≡ Some port in
    subst P (sym test) (written more digits port
    (record { each = w.each.1; value = w.value; small = w.small }))

-- the digits alone
record Numbers (digits : List ℕ) (port : ℕ) : Type 0 where
  numeral : IsNumeral 10 digits
  value : digits_value 10 digits ≡ port
  small : port < 2 ^ 16

digits_only : (digits : List ℕ) (port : ℕ) → port_of_digits digits ≡ Some port → Numbers digits port
digits_only [] port h = cc
digits_only (b ∷ digits) port h =
    let w = read 0 (b ∷ digits) port h (omega arith) in
    record { numeral = (omega arith, w.each); value = w.value; small = w.small }

digits_all : (digits : List ℕ) (port : ℕ) → Numbers digits port → port_of_digits digits ≡ Some port
digits_all [] port w = absurd (omega (arith, w.numeral.0))
digits_all (b ∷ digits) port w =
    written 0 (b ∷ digits) port (record { each = w.numeral.1; value = w.value; small = w.small })

plus_only : (t : Bool) (b : ℕ) (text : List ℕ) (port : ℕ) →
    cond t (port_of_digits text) (port_of_digits (b ∷ text)) ≡ Some port →
    Numbers (drop (cond t 1 0) (b ∷ text)) port
plus_only true b text port h = digits_only text port h
plus_only false b text port h = digits_only (b ∷ text) port h

plus_all : (t : Bool) (b : ℕ) (text : List ℕ) (port : ℕ) →
    Numbers (drop (cond t 1 0) (b ∷ text)) port →
    cond t (port_of_digits text) (port_of_digits (b ∷ text)) ≡ Some port
plus_all true b text port w = digits_all text port w
plus_all false b text port w = digits_all (b ∷ text) port w

-- a port that is found is the number that the text writes
pub port_only : (text : List ℕ) (port : ℕ) → port_of text ≡ Some port → IsPort text port
port_only [] port h = cc
port_only (b ∷ text) port h =
    let w = plus_only (eqb b 43) b text port h in
    record { digits = w.numeral; value = w.value; small = w.small }

-- a text that writes a port is found to be it
pub port_all : (text : List ℕ) (port : ℕ) → IsPort text port → port_of text ≡ Some port
port_all [] port w = absurd (omega (arith, w.digits.0))
port_all (b ∷ text) port w = plus_all (eqb b 43) b text port
    (record { numeral = w.digits; value = w.value; small = w.small })
