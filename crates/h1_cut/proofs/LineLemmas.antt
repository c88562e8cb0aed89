-- The cut byte by byte is the cut by lines.
use Rattle.std.proofs.Common.{◌≡◌, ℕ, ◌+◌, Bool, true, false, cond, Option, Some, List, [], ◌∷◌, ◌++◌, length, refl, sym, ◌∙◌, ap, arith, length-append, ◌==◌}
use Rattle.h1_cut.specs.declared.line.LineSoFar.{LineSoFar}
use Rattle.h1_cut.specs.declared.line.LineSoFar.TheVariants.{Nothing, Cr, Text}
use Rattle.h1_cut.specs.Cut.{cut, cut_from, is_empty_line, line_with}
use Rattle.h1_cut.specs.Lines.{end_of_head, is_empty, lines_behind}

-- what is known of a line whose bytes are these
abbrev state_of : List ℕ → LineSoFar
state_of [] = Nothing
state_of (b ∷ []) = cond (b == 13) Cr Text
state_of (b ∷ c ∷ more) = Text

state_empty : (line : List ℕ) → is_empty_line (state_of line) ≡ is_empty line
state_empty [] = refl
state_empty (b ∷ []) =
    elim (b == 13) as (λ t. is_empty_line (cond t Cr Text) ≡ t) [ true ↦ refl | false ↦ refl ]
state_empty (b ∷ c ∷ more) = refl

state_with : (line : List ℕ) (b : ℕ) → state_of (line ++ b ∷ []) ≡ line_with (state_of line) b
state_with [] b = refl
state_with (a ∷ []) b =
    elim (a == 13) as (λ t. Text ≡ line_with (cond t Cr Text) b) [ true ↦ refl | false ↦ refl ]
state_with (a ∷ c ∷ more) b = refl

-- one byte: each side of the choice is given
step : (t e begun : Bool) (m at : ℕ) (line : List ℕ) (lines others : List (List ℕ))
    (after fresh on : Option ℕ)
    → m ≡ at + length line + 1
    → is_empty line ≡ e
    → after ≡ end_of_head (at + length line + 1) false lines
    → fresh ≡ end_of_head (at + length line + 1) true lines
    → on ≡ end_of_head at begun others
    → cond t (cond e (cond begun (Some m) after) fresh) on
    ≡ end_of_head at begun (cond t (line ∷ lines) others)
step true true true m at line lines others after fresh on em ee ea ef eo = rw ee (ap Some em)
step true true false m at line lines others after fresh on em ee ea ef eo = rw ee ea
step true false true m at line lines others after fresh on em ee ea ef eo = rw ee ef
step true false false m at line lines others after fresh on em ee ea ef eo = rw ee ef
step false e begun m at line lines others after fresh on em ee ea ef eo = eo

by_lines : (bytes line : List ℕ) (begun : Bool) (at m : ℕ) → m ≡ at + length line
    → cut_from m begun (state_of line) bytes ≡ end_of_head at begun (lines_behind line bytes)
by_lines [] line begun at m h = refl
by_lines (b ∷ bytes) line begun at m h =
    step (b == 10) (is_empty_line (state_of line)) begun (m + 1) at line (lines_behind [] bytes)
    (lines_behind (line ++ b ∷ []) bytes)
    (cut_from (m + 1) false Nothing bytes)
    (cut_from (m + 1) true Nothing bytes)
    (cut_from (m + 1) begun (line_with (state_of line) b) bytes)
    (omega arith)
    (sym (state_empty line))
    (by_lines bytes [] false (at + length line + 1) (m + 1) (omega arith))
    (by_lines bytes [] true (at + length line + 1) (m + 1) (omega arith))
    (let l : length (line ++ b ∷ []) ≡ length line + 1 = length-append line (b ∷ []) in
    ap (λ (s : LineSoFar). cut_from (m + 1) begun s bytes) (sym (state_with line b))
    ∙ by_lines bytes (line ++ b ∷ []) begun at (m + 1) (omega arith))

pub cut-by_lines : (bytes : List ℕ) → cut bytes ≡ end_of_head 0 false (lines_behind [] bytes)
cut-by_lines bytes = by_lines bytes [] false 0 0 refl
