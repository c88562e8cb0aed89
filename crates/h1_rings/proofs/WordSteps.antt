-- Each step keeps the rule of a close word.
use Rattle.std.proofs.Common.{◌≡◌, ◌≢◌, ℕ, zero, suc, ◌==◌, Bool, true, false, true≢false, List, [], ◌∷◌, ◌++◌, set, slice_index, sym, refl, ap, ◌∙◌, subst, ⊎_elim, arith}
use Rattle.std.proofs.lemmas.Bool.Decides.{nat_tests}
use mathlib.Core.Option.{some, some-ne-none}
use lib.ListN.{get_elem?}
use Rattle.crossbeam_utils.specs.Register.{Turns, Forks, Merges}
use Rattle.atomic_table.proofs.Lists.{at_set, at_snoc}
use Rattle.h1_rings.specs.declared.close_word.WordView.{WordView}
use Rattle.std.specs.Prelude.{Option, Some, None, if◌then◌else◌, ◌+◌, ◌-◌}
use Rattle.h1_rings.specs.CloseWord.{word_view, mark, number, Agrees, KnowsWord, KeepsNumber, HasLooked}

abbrev All : (ℕ → WordView → Type 0) → List WordView → Type 0
All F views = (port : ℕ) (v : WordView) → get_elem? views port ≡ some v → F port v

at_end : (l : List WordView) (a b : WordView) (j : ℕ) → get_elem? l j ≢ some b
    → get_elem? (l ++ a ∷ []) j ≡ some b → j ≡ Rattle.std.proofs.Common.length l
at_end [] a b zero n e = refl
at_end [] a b (suc j) n e = absurd (some-ne-none b (sym e))
at_end (x ∷ xs) a b zero n e = absurd (n e)
at_end (x ∷ xs) a b (suc j) n e = ap suc (at_end xs a b j n e)

all_set : (F : ℕ → WordView → Type 0) (views : List WordView) (port : ℕ) (w : WordView) → F port w
    → ((j : ℕ) (u : WordView) → j ≢ port → get_elem? views j ≡ some u → F j u)
    → All F (set views port w)
all_set F views port w mine others j u e =
    ⊎_elim
    (λ (x : (j ≡ port) × (w ≡ u)). subst (λ (y : ℕ). F y u) (sym x.0)
    (subst (λ (y : WordView). F port y) x.1 mine))
    (λ (x : (j ≢ port) × (get_elem? views j ≡ some u)). others j u x.0 x.1) (at_set views port j w u e)

knows_nothing : (owner : ℕ) (now : Option ℕ) (port : ℕ) → KnowsWord owner now port (word_view false None None)
knows_nothing owner now port = record { owning = λ p. absurd (true≢false (sym p)); saw = tt }

pub begins : KeepsNumber (0 ∷ []) (word_view true None None ∷ [])
begins = record {
  owner = 0;
  now = None;
  word = refl;
  each = all_set (KnowsWord 0 None) (word_view true None None ∷ []) 0 (word_view true None None)
      record { owning = λ _. (refl, refl); saw = tt }
      (λ j u other e. absurd (other (at_end [] _ u j (λ x. some-ne-none u (sym x)) e)));
}

number-suc : (n : ℕ) → number (n + 1) ≡ Some n
number-suc n =
    let some_bits : ((n + 1) == 0) ≡ false = grind (arith, nat_tests) in
    ap (λ b. if b then None else Some ((n + 1) - 1)) some_bits ∙ ap (λ (m : ℕ). Some m) (omega arith)

number-mark : (now : Option ℕ) → number (mark now) ≡ now
number-mark None = refl
number-mark (Some n) = number-suc n

agrees_on : (known now after : Option ℕ) → Agrees known now → Agrees now after → Agrees known after
agrees_on None now after a b = tt
agrees_on (Some n) now after a b = subst (λ (o : Option ℕ). Agrees o after) a b

pub sets : (port : ℕ) (v : WordView) (n : ℕ) → v.owns ≡ true → Agrees v.set (Some n)
    → Turns KeepsNumber port v (λ _. (n + 1) ∷ [])
    (λ v x y w. w ≡ word_view v.owns (number (slice_index y 0)) v.seen)
sets port v n may known x views h at =
    let w : WordView = word_view v.owns (Some n) v.seen in
    let here = (h.each port v at).owning may in
    let on : Agrees h.now (Some n) = subst (λ (o : Option ℕ). Agrees o (Some n)) here.1 known in (
      w,
      record {
        owner = h.owner;
        now = Some n;
        word = refl;
        each = all_set (KnowsWord h.owner (Some n)) views port w
            record { owning = λ _. (here.0, refl); saw = agrees_on v.seen h.now (Some n) (h.each port v at).saw on }
            (λ j u other e. record {
              owning =
                  λ p. absurd (other (((h.each j u e).owning p).0 ∙ sym here.0));
              saw = agrees_on u.seen h.now (Some n) (h.each j u e).saw on;
            });
      },
      ap (λ o. word_view v.owns o v.seen) (sym (number-suc n)),
    )

itself : (o : Option ℕ) → Agrees o o
itself None = tt
itself (Some n) = refl

pub looks : (port : ℕ) (v : WordView) → Turns KeepsNumber port v (λ x. x) (λ v x y w. HasLooked v y w)
looks port v x views h at =
    let found : number (slice_index x 0) ≡ h.now = ap number h.word ∙ number-mark h.now in
    let w : WordView = word_view v.owns v.set (number (slice_index x 0)) in
    let mine = h.each port v at in (
      w,
      record {
        owner = h.owner;
        now = h.now;
        word = h.word;
        each = all_set
            (KnowsWord h.owner h.now) views port w record {
              owning = mine.owning;
              saw = subst (λ (o : Option ℕ). Agrees o h.now) (sym found) (itself h.now);
            }
            (λ j u other e. h.each j u e);
      },
      record { seen = refl; stays = subst (λ (o : Option ℕ). Agrees v.seen o) (sym found) mine.saw },
    )

pub compares : (port : ℕ) (v : WordView) → v.owns ≡ true
    → Turns KeepsNumber port v (λ x. x) (λ v x y w. Agrees v.seen v.set)
compares port v may x views h at =
    let mine = h.each port v at in (
      v,
      record {
        owner = h.owner;
        now = h.now;
        word = h.word;
        each = all_set (KnowsWord h.owner h.now) views port v mine
            (λ j u other e. h.each j u e);
      },
      subst (λ (o : Option ℕ). Agrees v.seen o) (sym (mine.owning may).1) mine.saw,
    )

-- a new pass that may not set the word knows no more than the pass that it comes from
pub forks : (port : ℕ) (v : WordView) → Forks KeepsNumber port v v (word_view false None v.seen)
forks port v x views h at =
    let r : WordView = word_view false None v.seen in
    let mine = h.each port v at in
    let vs : List WordView = set views port v in
    let old : All (KnowsWord h.owner h.now) vs =
    all_set (KnowsWord h.owner h.now) views port v mine (λ j u other e. h.each j u e) in
    record {
      owner = h.owner;
      now = h.now;
      word = h.word;
      each = λ j u e. ⊎_elim (old j u)
          (λ (is : r ≡ u). subst
          (λ (y : WordView). KnowsWord h.owner h.now j y) is record {
            owning =
                λ p. absurd (true≢false (sym p));
            saw = mine.saw;
          })
          (at_snoc vs r u j e);
    }

-- a pass that may not set the word hands its whole view on
pub hands_on : (port : ℕ) (v : WordView) → v.owns ≡ false → Forks KeepsNumber port v (word_view false None None) v
hands_on port v none x views h at =
    let l : WordView = word_view false None None in
    let mine = h.each port v at in
    let vs : List WordView = set views port l in
    let old : All (KnowsWord h.owner h.now) vs =
    all_set (KnowsWord h.owner h.now) views port l (knows_nothing h.owner h.now port)
    (λ j u other e. h.each j u e) in
    record {
      owner = h.owner;
      now = h.now;
      word = h.word;
      each = λ j u e. ⊎_elim (old j u)
          (λ (is : v ≡ u). subst
          (λ (y : WordView). KnowsWord h.owner h.now j y) is record {
            owning =
                λ p. absurd (true≢false (sym p ∙ none));
            saw = mine.saw;
          })
          (at_snoc vs v u j e);
    }

pub merges : (port : ℕ) (v : WordView) (other : ℕ) (u : WordView) → v.owns ≡ true
    → Merges KeepsNumber port v other u (word_view v.owns v.set u.seen) (word_view false None None)
merges port v other u may x views h at two at' =
    let both : WordView = word_view v.owns v.set u.seen in
    let mine = h.each port v at in
    let vs : List WordView = set views port both in
    let was : get_elem? views other ≡ some u =
    ⊎_elim (λ x. absurd (two x.0)) (λ x. x.1) (at_set views port other both u at') in
    let theirs = h.each other u was in
    let now : All (KnowsWord h.owner h.now) vs =
    all_set
    (KnowsWord h.owner h.now) views port both record { owning = mine.owning; saw = theirs.saw }
    (λ j y _ e. h.each j y e) in
    record {
      owner = h.owner;
      now = h.now;
      word = h.word;
      each = all_set (KnowsWord h.owner h.now) vs other (word_view false None None)
          (knows_nothing h.owner h.now other) (λ j y _ e. now j y e);
    }
