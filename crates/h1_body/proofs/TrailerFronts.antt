-- A byte of a trailer before what completes a body from the next place.
use Rattle.std.proofs.Common.{◌≡◌, ℕ, ◌+◌, ◌-◌, ◌<◌, ◌≤◌, List, [], ◌∷◌, ◌++◌, length, refl, sym, ap, subst, ◌∙◌, append_assoc, arith, length-append, inl, inr, true, ◌&&◌, ◌==◌, nat_lt, nat_le}
use Rattle.std.specs.List.{flat_map}
use Rattle.httparse.specs.Grammar.{is_token_byte}
use Rattle.h1_body.specs.Chunks.{step, is_text}
use Rattle.h1_body.specs.ChunkedBody.{Trailer, crlf, print_trailer, IsTrailer}
use Rattle.h1_body.specs.declared.chunking.Chunking.TheVariants.{Trailers, Name, Value, ValueLf, EndLf, Done}
use Rattle.h1_body.proofs.GrammarRuns.{both_parts}
use Rattle.h1_body.proofs.TrailerRuns.{length-print_trailer}
use Rattle.h1_body.proofs.Completing.{EndsTrailers, EndsName, Completes}
use Rattle.h1_body.proofs.ChunkFronts.{either, only_way, expected, cons_is, less, at_most, same_number}

-- a trailer line in front
trailer_in_front : (left : ℕ) (trailer : Trailer) (rest : List ℕ) → IsTrailer trailer
    → length (print_trailer trailer) ≤ left
    → EndsTrailers (left - length (print_trailer trailer)) rest
    → EndsTrailers left (print_trailer trailer ++ rest)
trailer_in_front left trailer rest is few behind = record {
  trailers = trailer ∷ behind.trailers;
  valid = (is, behind.valid);
  short = omega (
    arith,
    length-append (print_trailer trailer) (flat_map print_trailer behind.trailers),
    behind.short,
  );
  bytes_are = ap (λ bytes. print_trailer trailer ++ bytes) behind.bytes_are
      ∙ sym (append_assoc (print_trailer trailer) (flat_map print_trailer behind.trailers) crlf);
}

regroup_trailer : (n v c r : List ℕ) → n ++ 58 ∷ (v ++ (c ++ r)) ≡ (n ++ 58 ∷ (v ++ c)) ++ r
regroup_trailer n v c r = simp append_assoc

-- the name of a trailer begins before what completes it
trailer_begun : (left b : ℕ) (bytes : List ℕ) → is_token_byte b ≡ true → 4 ≤ left
    → EndsName (left - 4) bytes → EndsTrailers left (b ∷ bytes)
trailer_begun left b bytes token room ends =
    let trailer : Trailer = record { name = b ∷ ends.name; value = ends.value } in
    let long : length (print_trailer trailer) ≡ length (b ∷ ends.name) + length ends.value + 3 =
    length-print_trailer trailer in
    let same : left - 4 - (length ends.name + length ends.value) ≡ left - length
    (print_trailer trailer) = omega arith in
    let is : IsTrailer trailer =
    record { some = omega arith; name = (token, ends.tchars); value = ends.text } in
    let few : length (print_trailer trailer) ≤ left = omega (arith, ends.few) in
    subst (λ xs. EndsTrailers left xs)
    (sym (ap (λ xs. b ∷ xs) ends.bytes_are
    ∙ regroup_trailer (b ∷ ends.name) ends.value crlf ends.rest))
    (trailer_in_front left trailer ends.rest is few
    (subst (λ n. EndsTrailers n ends.rest) same ends.behind))

pub front_trailers : (left b : ℕ) (bytes payload : List ℕ)
    → Completes (step (Trailers left) b) bytes payload
    → Completes (Trailers left) (b ∷ bytes) payload
front_trailers left b bytes payload h =
    elim (either (b == 13) EndLf _ bytes payload h) [
      | inl cr ↦ (
        record {
          trailers = [];
          valid = tt;
          short = omega arith;
          bytes_are =
              cons_is (same_number b 13 cr.0) cr.1.0;
        },
        cr.1.1,
      )
      | inr other ↦
          let way = only_way (is_token_byte b && nat_le 4 left)
          (Name (left - 4)) bytes payload other.1 in
          let tests = both_parts (is_token_byte b) (nat_le 4 left) way.0 in
          (trailer_begun left b bytes tests.0 (at_most 4 left tests.1) way.1.0, way.1.1)
    ]

pub front_name : (left b : ℕ) (bytes payload : List ℕ)
    → Completes (step (Name left) b) bytes payload → Completes (Name left) (b ∷ bytes) payload
front_name left b bytes payload h =
    elim (either (b == 58) (Value left) _ bytes payload h) [
      | inl colon ↦
          let ends = colon.1.0 in
          let same : left - length ends.value ≡ left - (0 + length ends.value) = omega arith in (
            record {
              name = [];
              value = ends.value;
              rest = ends.rest;
              tchars = tt;
              text = ends.text;
              few = omega (arith, ends.few);
              bytes_are = cons_is (same_number b 58 colon.0) ends.bytes_are;
              behind = subst (λ n. EndsTrailers n ends.rest) same ends.behind;
            },
            colon.1.1,
          )
      | inr other ↦
          let way = only_way (is_token_byte b && nat_lt 0 left)
          (Name (left - 1)) bytes payload other.1 in
          let tests = both_parts (is_token_byte b) (nat_lt 0 left) way.0 in
          let room : 0 < left = less 0 left tests.1 in
          let ends = way.1.0 in
          let same : left - 1 - (length ends.name + length ends.value) ≡ left -
          (length (b ∷ ends.name) + length ends.value) = omega arith in (
            record {
              name = b ∷ ends.name;
              value = ends.value;
              rest = ends.rest;
              tchars = (tests.0, ends.tchars);
              text = ends.text;
              few = omega (arith, ends.few);
              bytes_are = ap (λ xs. b ∷ xs) ends.bytes_are;
              behind = subst (λ n. EndsTrailers n ends.rest) same ends.behind;
            },
            way.1.1,
          )
    ]

pub front_value : (left b : ℕ) (bytes payload : List ℕ)
    → Completes (step (Value left) b) bytes payload → Completes (Value left) (b ∷ bytes) payload
front_value left b bytes payload h =
    elim (either (b == 13) (ValueLf left) _ bytes payload h) [
      | inl cr ↦
          let same : left ≡ left - 0 = omega arith in (
            record {
              value = [];
              rest = cr.1.0;
              text = tt;
              few = omega arith;
              bytes_are = cons_is (same_number b 13 cr.0) cr.1.1;
              behind = subst (λ n. EndsTrailers n cr.1.0) same cr.1.2;
            },
            cr.1.3,
          )
      | inr other ↦
          let way = only_way (is_text b && nat_lt 0 left)
          (Value (left - 1)) bytes payload other.1 in
          let tests = both_parts (is_text b) (nat_lt 0 left) way.0 in
          let room : 0 < left = less 0 left tests.1 in
          let ends = way.1.0 in
          let same : left - 1 - length ends.value ≡ left - length (b ∷ ends.value) = omega arith in (
            record {
              value = b ∷ ends.value;
              rest = ends.rest;
              text = (tests.0, ends.text);
              few = omega (arith, ends.few);
              bytes_are = ap (λ xs. b ∷ xs) ends.bytes_are;
              behind = subst (λ n. EndsTrailers n ends.rest) same ends.behind;
            },
            way.1.1,
          )
    ]

pub front_value_lf : (left b : ℕ) (bytes payload : List ℕ)
    → Completes (step (ValueLf left) b) bytes payload → Completes (ValueLf left) (b ∷ bytes) payload
front_value_lf left b bytes payload h =
    let lf = expected 10 b (Trailers left) bytes payload h in
    (bytes, cons_is lf.0 refl, lf.1.0, lf.1.1)

pub front_end_lf : (b : ℕ) (bytes payload : List ℕ) → Completes (step EndLf b) bytes payload
    → Completes EndLf (b ∷ bytes) payload
front_end_lf b bytes payload h =
    let lf = expected 10 b Done bytes payload h in
    (cons_is lf.0 lf.1.0, lf.1.1)
