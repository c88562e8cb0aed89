-- The rest of a line of text, byte by byte.
use Rattle.std.proofs.Common.{◌≡◌, ℕ, ◌+◌, ◌<◌, ◌≤◌, ◌==◌, Bool, true, false, List, ◌∷◌, ◌++◌, length, drop, slice_index, refl, ◌∙◌, ap, arith}
use Rattle.std.proofs.lemmas.List.{drop_more}
use Rattle.h1_cut.specs.declared.line.LineSoFar.TheVariants.{Nothing, Text}
use Rattle.h1_cut.specs.Cut.{cut_from}
use Rattle.h1_cut.specs.Text.{EndsTextAt, IsTextTo}

pub text_itself : (from : ℕ) (bytes : List ℕ) → IsTextTo bytes from from
text_itself from bytes = record { goes = λ begun more. refl }

-- a byte that isn't LF
text_byte : (at : ℕ) (begun : Bool) (b : ℕ) (rest : List ℕ) → (b == 10) ≡ false
    → cut_from at begun Text (b ∷ rest) ≡ cut_from (at + 1) begun Text rest
text_byte at begun b rest h = rw h refl

line_byte : (at : ℕ) (begun : Bool) (b : ℕ) (rest : List ℕ) → (b == 10) ≡ true
    → cut_from at begun Text (b ∷ rest) ≡ cut_from (at + 1) true Nothing rest
line_byte at begun b rest h = rw h refl

one_more : (at : ℕ) (bytes more : List ℕ) → at < length bytes
    → drop at bytes ++ more ≡ slice_index bytes at ∷ (drop (at + 1) bytes ++ more)
one_more at bytes more h = ap (λ (x : List ℕ). x ++ more) (drop_more bytes at 0 h)

pub text_on : (from at : ℕ) (bytes : List ℕ) → IsTextTo bytes from at → at < length bytes
    → (slice_index bytes at == 10) ≡ false → IsTextTo bytes from (at + 1)
text_on from at bytes s within h = record {
  goes = λ begun more.
      s.goes begun more ∙ ap (cut_from at begun Text) (one_more at bytes more within)
      ∙ text_byte at begun (slice_index bytes at) (drop (at + 1) bytes ++ more) h;
}

pub text_ends : (from at : ℕ) (bytes : List ℕ) → IsTextTo bytes from at → from ≤ at
    → at < length bytes → (slice_index bytes at == 10) ≡ true → EndsTextAt bytes from (at + 1)
text_ends from at bytes s order within h = record {
  behind = omega arith;
  within = omega arith;
  goes = λ begun more.
      s.goes begun more ∙ ap (cut_from at begun Text) (one_more at bytes more within)
      ∙ line_byte at begun (slice_index bytes at) (drop (at + 1) bytes ++ more) h;
}
