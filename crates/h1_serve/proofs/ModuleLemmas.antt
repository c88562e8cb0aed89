-- Lemmas on the modules that the lines of a script add.
use Rattle.std.proofs.Common.{◌≡◌, ℕ, ◌+◌, ◌≤◌, ◌<◌, pos, false, List, [], ◌∷◌, ◌++◌, length, drop, get_or, Some, None, refl, sym, ap, subst, ◌∙◌, append-nil, append_assoc, arith}
use Rattle.std.proofs.lemmas.List.{drop_all}
use Rattle.std.specs.Prelude.{int_lt}
use Rattle.std.specs.List.{AllByRecursion}
use Rattle.h1_modules.specs.Builders.{placed}
use Rattle.h1_words.specs.declared.command.Command.{Command}
use Rattle.h1_marking.specs.Marking.{MarkingModule}
use Rattle.h1_marking.specs.declared.marking.Marking.{Marking}
use Rattle.h1_serve.specs.Report.{marking_of, with_marking, modules_from, modules_in}
use Rattle.h1_serve.proofs.LineLemmas.{left_at}

-- no module has another order than 0
abbrev pub AreOfOneOrder : List MarkingModule → Type 0
AreOfOneOrder modules = AllByRecursion (λ m. m.order ≡ pos 0) modules

-- modules of one order stand as they were added
placed_last : (added : MarkingModule) (before : List MarkingModule) → added.order ≡ pos 0
    → AreOfOneOrder before
    → placed (λ (m : MarkingModule). m.order) added before ≡ before ++ added ∷ []
placed_last added [] last all = refl
placed_last added (m ∷ before) last all =
    let same : int_lt m.order added.order ≡ false = rw (last, all.0) refl in
    rw same (ap (λ ms. m ∷ ms) (placed_last added before last all.1))

one_more : (added : MarkingModule) (before : List MarkingModule) → added.order ≡ pos 0
    → AreOfOneOrder before → AreOfOneOrder (before ++ added ∷ [])
one_more added [] last all = (last, tt)
one_more added (m ∷ before) last all = (all.0, one_more added before last all.1)

-- the modules that were added so far, with the number of lines that were read, and the lines to come
pub record Adds (all left : List Command) (read key : ℕ) (made : List MarkingModule)
    : Type 0 where
  pub few : key ≤ read
  pub orders : AreOfOneOrder made
  pub modules : modules_in all ≡ made ++ modules_from key left

pub adds_first : (all : List Command) (made : List MarkingModule) → made ≡ []
    → Adds all all 0 0 made
adds_first all made none = record {
  few = omega arith;
  orders = rw none tt;
  modules = ap (λ bs. bs ++ modules_from 0 all) (sym none);
}

-- a line that adds no module
adds_none : (all left : List Command) (asked : Command) (read key : ℕ) (made : List MarkingModule)
    → None ≡ marking_of asked → Adds all (asked ∷ left) read key made
    → Adds all left (read + 1) key made
adds_none all left asked read key made none adds = record {
  few = omega (arith, adds.few);
  orders = adds.orders;
  modules = adds.modules
      ∙ ap (λ o. made ++ with_marking key o (λ next. modules_from next left)) (sym none);
}

-- and one that adds this
adds_one : (all left : List Command) (asked : Command) (read key : ℕ) (made : List MarkingModule)
    (marking : Marking) (added : MarkingModule)
    → added ≡ record { filter = marking; order = pos 0; key = key }
    → Some marking ≡ marking_of asked → Adds all (asked ∷ left) read key made
    → Adds all left (read + 1) (key + 1)
    (placed (λ (m : MarkingModule). m.order) added made)
adds_one all left asked read key made marking added of is adds =
    let rest = modules_from (key + 1) left in
    let order : added.order ≡ pos 0 = ap (λ (m : MarkingModule). m.order) of in
    let last = placed_last added made order adds.orders in
    record {
      few = omega (arith, adds.few);
      orders = rw last (one_more added made order adds.orders);
      modules = adds.modules
          ∙ ap (λ o. made ++ with_marking key o (λ next. modules_from next left)) (sym is)
          ∙ ap (λ (m : MarkingModule). made ++ m ∷ rest) (sym of)
          ∙ sym (append_assoc made (added ∷ []) rest)
          ∙ ap (λ bs. bs ++ rest) (sym last);
    }

pub adds_no_more : (all : List Command) (i : ℕ) (asked : Command) (key : ℕ)
    (made : List MarkingModule)
    → i < length all → asked ≡ get_or all i asked → None ≡ marking_of asked
    → Adds all (drop i all) i key made → Adds all (drop (i + 1) all) (i + 1) key made
adds_no_more all i asked key made within is none adds =
    adds_none all (drop (i + 1) all) asked i key made none
    (subst (λ left. Adds all left i key made) (left_at all i asked within is) adds)

pub adds_one_more : (all : List Command) (i : ℕ) (asked : Command) (key : ℕ)
    (made : List MarkingModule) (marking : Marking) (added : MarkingModule)
    → added ≡ record { filter = marking; order = pos 0; key = key }
    → i < length all → asked ≡ get_or all i asked → Some marking ≡ marking_of asked
    → Adds all (drop i all) i key made
    → Adds all (drop (i + 1) all) (i + 1) (key + 1)
    (placed (λ (m : MarkingModule). m.order) added made)
adds_one_more all i asked key made marking added of within is some adds =
    adds_one all (drop (i + 1) all) asked i key made marking added of some
    (subst (λ left. Adds all left i key made) (left_at all i asked within is) adds)

-- all were added
pub adds_last : (all : List Command) (i key : ℕ) (made : List MarkingModule) → length all ≤ i
    → Adds all (drop i all) i key made → made ≡ modules_in all
adds_last all i key made past adds =
    sym (adds.modules ∙ ap (λ left. made ++ modules_from key left) (drop_all i all past) ∙ append-nil made)
