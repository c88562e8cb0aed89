-- A search counts its bytes from where it began.
use Rattle.std.proofs.Common.{◌≡◌, ℕ, ◌+◌, Bool, true, false, cond, Option, Some, option_map, List, [], ◌∷◌, ◌++◌, length, refl, sym, ◌∙◌, ap, arith, ◌==◌, append-nil}
use Rattle.h1_cut.specs.declared.line.LineSoFar.{LineSoFar}
use Rattle.h1_cut.specs.declared.line.LineSoFar.TheVariants.{Nothing}
use Rattle.h1_cut.specs.declared.search.HeadSearch.{HeadSearch}
use Rattle.h1_cut.specs.Cut.{cut_from, is_empty_line, line_with}
use Rattle.h1_cut.specs.Search.{found_by, is_end, has_begun}

-- k bytes further on
abbrev further : ℕ → Option ℕ → Option ℕ
further k found = option_map (λ n. k + n) found

cond_further : {x y : Option ℕ} (k : ℕ) (t : Bool) (x' y' : Option ℕ) → x ≡ further k x'
    → y ≡ further k y' → cond t x y ≡ further k (cond t x' y')
cond_further k true x' y' f g = f
cond_further k false x' y' f g = g

cut_from-further : (bytes : List ℕ) (k at m : ℕ) (begun : Bool) (line : LineSoFar) → m ≡ k + at
    → cut_from m begun line bytes ≡ further k (cut_from at begun line bytes)
cut_from-further [] k at m begun line h = refl
cut_from-further (b ∷ bytes) k at m begun line h =
    let next : m + 1 ≡ k + (at + 1) = omega arith in
    cond_further k (b == 10)
    (cond (is_empty_line line) (cond begun (Some (at + 1)) (cut_from (at + 1) false Nothing bytes))
    (cut_from (at + 1) true Nothing bytes))
    (cut_from (at + 1) begun (line_with line b) bytes)
    (cond_further k (is_empty_line line)
    (cond begun (Some (at + 1)) (cut_from (at + 1) false Nothing bytes))
    (cut_from (at + 1) true Nothing bytes)
    (cond_further k begun (Some (at + 1)) (cut_from (at + 1) false Nothing bytes) (ap Some next)
    (cut_from-further bytes k (at + 1) (m + 1) false Nothing next))
    (cut_from-further bytes k (at + 1) (m + 1) true Nothing next))
    (cut_from-further bytes k (at + 1) (m + 1) begun (line_with line b) next)

-- a search that has the same lines behind it, at another place
abbrev placed : ℕ → HeadSearch → HeadSearch
placed n s = record s { at = n }

found-further : (k at n : ℕ) (s : HeadSearch) (bytes : List ℕ) → n ≡ k + at
    → found_by (placed n s) bytes ≡ further k (found_by (placed at s) bytes)
found-further k at n s bytes h =
    cond_further k (is_end s.reached) (Some at) (cut_from at (has_begun s.reached) s.line bytes)
    (ap Some h)
    (cut_from-further bytes k at n (has_begun s.reached) s.line h)

-- what is found in a piece by a search that counts from the piece
pub feed_finds : (old ahead : HeadSearch) (piece bytes : List ℕ) (found : Option ℕ)
    → bytes ≡ piece → found ≡ found_by ahead []
    → found_by ahead [] ≡ found_by (placed 0 old) (bytes ++ [])
    → further old.at found ≡ found_by old piece
feed_finds old ahead piece bytes found same is h =
    ap (further old.at) (is ∙ h ∙ ap (found_by (placed 0 old)) (append-nil bytes ∙ same))
    ∙ sym (found-further old.at 0 old.at old piece (omega arith))

-- what follows the piece
pub feed_keeps : (old ahead : HeadSearch) (piece bytes more : List ℕ) → bytes ≡ piece
    → ahead.at ≡ length bytes → found_by ahead more ≡ found_by (placed 0 old) (bytes ++ more)
    → found_by (placed (old.at + length piece) ahead) more ≡ found_by old (piece ++ more)
feed_keeps old ahead piece bytes more same at h =
    found-further old.at ahead.at (old.at + length piece) ahead more
    (ap (λ (n : ℕ). old.at + n) (sym (at ∙ ap length same)))
    ∙ ap (further old.at) (h ∙ ap (λ (x : List ℕ). found_by (placed 0 old) (x ++ more)) same)
    ∙ sym (found-further old.at 0 old.at old (piece ++ more) (omega arith))
