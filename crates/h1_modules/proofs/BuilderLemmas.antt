-- The order of modules.
use Rattle.std.proofs.Common.{◌≡◌, ℤ, ◌++◌, Bool, true, false, List, [], ◌∷◌, refl, ap, arith, filter}
use Rattle.std.specs.Prelude.{◌≤ℤ◌, ◌<ℤ◌, int_lt, if◌then◌else◌}
use Rattle.std.specs.List.{AllByRecursion}
use Rattle.std.proofs.lemmas.Bool.{false≢true}
use Rattle.std.proofs.lemmas.Int.{ints}
use Rattle.std.proofs.lemmas.List.{append-nil}
use Rattle.h1_modules.specs.Builders.{placed, Descends, is_order}

lower : (a b : ℤ) → int_lt a b ≡ true → a <ℤ b
lower a b h = grind (arith, ints)

higher : (a b : ℤ) → int_lt a b ≡ false → b ≤ℤ a
higher a b h = grind (arith, ints)

under : (a b : ℤ) → a <ℤ b → int_lt a b ≡ true
under a b h = grind (arith, ints)

not_under : (a b : ℤ) → a ≤ℤ b → int_lt b a ≡ false
not_under a b h = grind (arith, ints)

le_from_lt : (a b : ℤ) → a <ℤ b → a ≤ℤ b
le_from_lt a b h = omega (arith, ints)

le_refl : (a : ℤ) → a ≤ℤ a
le_refl a = omega (arith, ints)

le_trans : (a b c : ℤ) → a ≤ℤ b → b ≤ℤ c → a ≤ℤ c
le_trans a b c h k = omega (arith, ints)

le_lt_trans : (a b c : ℤ) → a ≤ℤ b → b <ℤ c → a <ℤ c
le_lt_trans a b c h k = omega (arith, ints)

lt_le_trans : (a b c : ℤ) → a <ℤ b → b ≤ℤ c → a <ℤ c
lt_le_trans a b c h k = omega (arith, ints)

-- what holds of each arm holds of the choice
choice : {B : Type 0} (P : List B → Type 0) (t : Bool) (xs ys : List B) → (t ≡ true → P xs)
    → (t ≡ false → P ys) → P (if t then xs else ys)
choice P true xs ys p q = p refl
choice P false xs ys p q = q refl

all_below : {B : Type 0} (order : B → ℤ) (a b : ℤ) → a ≤ℤ b → (builders : List B)
    → AllByRecursion (λ later. order later ≤ℤ a) builders
    → AllByRecursion (λ later. order later ≤ℤ b) builders
all_below order a b h [] all = tt
all_below order a b h (first ∷ builders) all =
    (le_trans (order first) a b all.0 h, all_below order a b h builders all.1)

all_placed : {B : Type 0} (order : B → ℤ) (added : B) (a : ℤ) → order added ≤ℤ a
    → (builders : List B) → AllByRecursion (λ later. order later ≤ℤ a) builders
    → AllByRecursion (λ later. order later ≤ℤ a) (placed order added builders)
all_placed order added a h [] all = (h, tt)
all_placed order added a h (first ∷ builders) all =
    choice (AllByRecursion (λ later. order later ≤ℤ a)) (int_lt (order first) (order added))
    (added ∷ first ∷ builders) (first ∷ placed order added builders)
    (λ _. (h, all)) (λ _. (all.0, all_placed order added a h builders all.1))

-- an added builder leaves the order descending
pub placed_descends : {B : Type 0} (order : B → ℤ) (added : B) (builders : List B)
    → Descends order builders → Descends order (placed order added builders)
placed_descends order added [] d = (tt, tt)
placed_descends order added (first ∷ builders) d =
    choice (Descends order) (int_lt (order first) (order added))
    (added ∷ first ∷ builders) (first ∷ placed order added builders)
    (λ t. let le = le_from_lt (order first) (order added) (lower (order first) (order added) t) in
    ((le, all_below order (order first) (order added) le builders d.0), d))
    (λ f. (
      all_placed order added (order first) (higher (order first) (order added) f) builders d.0,
      placed_descends order added builders d.1,
    ))

not_order : (o a : ℤ) → a <ℤ o → is_order o a ≡ false
not_order o a h = rw (not_under a o (le_from_lt a o h), under a o h) refl

order_le : (o a : ℤ) → is_order o a ≡ true → a ≤ℤ o
order_le o a is = by_test (int_lt o a) refl
  where
    by_test : (t : Bool) → int_lt o a ≡ t → a ≤ℤ o
    by_test true lt = absurd (false≢true (rw lt at is))
    by_test false ge = higher o a ge

-- none of lower orders is of this one
none_of : {B : Type 0} (order : B → ℤ) (o a : ℤ) → a <ℤ o → (builders : List B)
    → AllByRecursion (λ later. order later ≤ℤ a) builders
    → filter (λ b. is_order o (order b)) builders ≡ []
none_of order o a h [] all = refl
none_of order o a h (first ∷ builders) all =
    rw (not_order o (order first) (le_lt_trans (order first) a o all.0 h)) (none_of order o a h builders all.1)

module _ {B : Type 0} (order : B → ℤ) (o : ℤ) (added : B) where
  abbrev of_order : List B → List B
  of_order builders = filter (λ b. is_order o (order b)) builders

  abbrev one : List B
  one = if is_order o (order added) then added ∷ [] else []

  before : (first : B) (builders : List B) → order first <ℤ order added
      → Descends order (first ∷ builders)
      → of_order (added ∷ first ∷ builders) ≡ of_order (first ∷ builders) ++ one
  before first builders lt d = by_test (is_order o (order added)) refl
    where
      by_test : (t : Bool) → is_order o (order added) ≡ t
          → of_order (added ∷ first ∷ builders) ≡ of_order (first ∷ builders) ++ one
      by_test true is =
          let below = lt_le_trans (order first) (order added) o lt (order_le o (order added) is) in
          rw (is, none_of order o (order first) below (first ∷ builders) (le_refl (order first), d.0)) refl
      by_test false is = rw (is, append-nil) refl

  after : (first : B) (placed builders : List B) → of_order placed ≡ of_order builders ++ one
      → of_order (first ∷ placed) ≡ of_order (first ∷ builders) ++ one
  after first placed builders same = by_test (is_order o (order first)) refl
    where
      by_test : (t : Bool) → is_order o (order first) ≡ t
          → of_order (first ∷ placed) ≡ of_order (first ∷ builders) ++ one
      by_test true is = rw is (ap (λ xs. first ∷ xs) same)
      by_test false is = rw is same

  -- it stands behind those of its own order
  pub placed_last : (builders : List B) → Descends order builders
      → of_order (placed order added builders) ≡ of_order builders ++ one
  placed_last [] d = refl
  placed_last (first ∷ builders) d =
      choice (λ xs. of_order xs ≡ of_order (first ∷ builders) ++ one)
      (int_lt (order first) (order added))
      (added ∷ first ∷ builders) (first ∷ placed order added builders)
      (λ t. before first builders (lower (order first) (order added) t) d)
      (λ _. after first (placed order added builders) builders (placed_last builders d.1))
