-- The cut of a front, and of what goes on after it.
use Rattle.std.proofs.Common.{◌≡◌, ℕ, ◌+◌, ◌<◌, ◌≤◌, Bool, true, false, cond, Option, Some, None, List, [], ◌∷◌, ◌++◌, length, take, drop, min, MatchOption, refl, sym, ◌∙◌, ap, arith, length-append, ◌==◌}
use Rattle.std.proofs.lemmas.Grind.{common_steps}
use Rattle.std.proofs.lemmas.List.{length-take, take-append-drop, take_min}
use Rattle.h1_cut.specs.declared.line.LineSoFar.{LineSoFar}
use Rattle.h1_cut.specs.declared.line.LineSoFar.TheVariants.{Nothing}
use Rattle.h1_cut.specs.Cut.{cut, cut_from, is_empty_line, line_with}
use Rattle.h1_cut.specs.Limit.{CutsAt, HasNoCut}

-- where each side finds n, the choice does
cond_finds : {n : ℕ} (t : Bool) {x y x' y' : Option ℕ} → (x ≡ Some n → x' ≡ Some n)
    → (y ≡ Some n → y' ≡ Some n) → cond t x y ≡ Some n → cond t x' y' ≡ Some n
cond_finds true f g h = f h
cond_finds false f g h = g h

-- a cut that is found stays
pub cut_from-append : (bytes more : List ℕ) (at : ℕ) (begun : Bool) (line : LineSoFar) (n : ℕ)
    → cut_from at begun line bytes ≡ Some n → cut_from at begun line (bytes ++ more) ≡ Some n
cut_from-append [] more at begun line n h = cc
cut_from-append (b ∷ bytes) more at begun line n h =
    cond_finds (b == 10)
    (cond_finds (is_empty_line line)
    (cond_finds begun (λ f. f) (cut_from-append bytes more (at + 1) false Nothing n))
    (cut_from-append bytes more (at + 1) true Nothing n))
    (cut_from-append bytes more (at + 1) begun (line_with line b) n)
    h

pub cut-append : (bytes more : List ℕ) (n : ℕ) → cut bytes ≡ Some n → cut (bytes ++ more) ≡ Some n
cut-append bytes more n h = cut_from-append bytes more 0 false Nothing n h

-- the bytes begin with a front in which n is found, and n is at its end
pub record Splits (f : List ℕ → Option ℕ) (at : ℕ) (bytes : List ℕ) (n : ℕ) : Type 0 where
  pub front : List ℕ
  pub rest : List ℕ
  pub split : bytes ≡ front ++ rest
  pub long : n ≡ at + length front
  pub finds : f front ≡ Some n

cond_splits : {at n : ℕ} {bytes : List ℕ} (t : Bool) (f g : List ℕ → Option ℕ)
    → (f bytes ≡ Some n → Splits f at bytes n) → (g bytes ≡ Some n → Splits g at bytes n)
    → cond t (f bytes) (g bytes) ≡ Some n → Splits (λ x. cond t (f x) (g x)) at bytes n
cond_splits true f g p q h = p h
cond_splits false f g p q h = q h

here : (at n : ℕ) (bytes : List ℕ) → Some at ≡ Some n → Splits (λ x. Some at) at bytes n
here at n bytes h =
    let e : at ≡ n = cc in
    record { front = []; rest = bytes; split = refl; long = omega arith; finds = h }

behind : (b at n : ℕ) (begun : Bool) (line : LineSoFar) (bytes : List ℕ)
    → Splits (λ x. cut_from at begun line (b ∷ x)) (at + 1) bytes n
    → Splits (cut_from at begun line) at (b ∷ bytes) n
behind b at n begun line bytes s = record {
  front = b ∷ s.front;
  rest = s.rest;
  split = ap (λ (x : List ℕ). b ∷ x) s.split;
  long = grind (arith, common_steps);
  finds = s.finds;
}

pub cut_from-splits : (bytes : List ℕ) (at : ℕ) (begun : Bool) (line : LineSoFar) (n : ℕ)
    → cut_from at begun line bytes ≡ Some n → Splits (cut_from at begun line) at bytes n
cut_from-splits [] at begun line n h = cc
cut_from-splits (b ∷ bytes) at begun line n h =
    behind b at n begun line bytes
    (cond_splits (b == 10)
    (λ x. cond (is_empty_line line) (cond begun (Some (at + 1)) (cut_from (at + 1) false Nothing x))
    (cut_from (at + 1) true Nothing x))
    (λ x. cut_from (at + 1) begun (line_with line b) x)
    (cond_splits (is_empty_line line)
    (λ x. cond begun (Some (at + 1)) (cut_from (at + 1) false Nothing x))
    (λ x. cut_from (at + 1) true Nothing x)
    (cond_splits begun (λ x. Some (at + 1)) (λ x. cut_from (at + 1) false Nothing x)
    (here (at + 1) n bytes) (cut_from-splits bytes (at + 1) false Nothing n))
    (cut_from-splits bytes (at + 1) true Nothing n))
    (cut_from-splits bytes (at + 1) begun (line_with line b) n)
    h)

-- what is found was not found in no bytes
some_bytes : (bytes : List ℕ) (at : ℕ) (begun : Bool) (line : LineSoFar) (n : ℕ)
    → cut_from at begun line bytes ≡ Some n → 0 < length bytes
some_bytes [] at begun line n h = cc
some_bytes (b ∷ bytes) at begun line n h = grind (arith, common_steps)

take_front : (n : ℕ) (bytes front rest : List ℕ) → n ≡ length front → bytes ≡ front ++ rest
    → take n bytes ≡ front
take_front n bytes front rest long split = rw (long, split) (grind (arith, common_steps))

-- a cut is within the bytes, takes some byte, and is that of its own bytes
pub cut_front : (bytes : List ℕ) (n : ℕ) → cut bytes ≡ Some n
    → (0 < n) × (n ≤ length bytes) × (cut (take n bytes) ≡ Some n)
cut_front bytes n h =
    let s = cut_from-splits bytes 0 false Nothing n h in
    let some : 0 < length s.front = some_bytes s.front 0 false Nothing n s.finds in
    let e : n ≡ length s.front = omega (arith, s.long) in
    let l : length bytes ≡ length s.front + length s.rest =
    ap length s.split ∙ length-append s.front s.rest in
    let t : take n bytes ≡ s.front = take_front n bytes s.front s.rest e s.split in
    (omega arith, omega arith, ap cut t ∙ s.finds)

some_same : (m n : ℕ) → Some m ≡ Some n → m ≡ n
some_same m n h = cc

no_bytes : (bytes : List ℕ) → length bytes ≡ 0 → bytes ≡ []
no_bytes [] h = refl
no_bytes (b ∷ bytes) h = absurd (omega arith)

pub cut-prefix_free : (head more : List ℕ) → cut head ≡ Some (length head)
    → cut (head ++ more) ≡ Some (length (head ++ more)) → more ≡ []
cut-prefix_free head more h k =
    let e = some_same _ _ (sym (cut-append head more (length head) h) ∙ k) in
    no_bytes more (omega (arith, e, length-append {A = ℕ} head more))

pub take_within : (limit n : ℕ) (bytes : List ℕ) → n ≤ limit
    → take n (take limit bytes) ≡ take n bytes
take_within limit n bytes h = grind (arith, common_steps)

-- the cut of the bytes through the limit
pub cut_taken : (limit : ℕ) (bytes : List ℕ) (found : Option ℕ) → found ≡ cut (take limit bytes)
    → MatchOption found (HasNoCut limit bytes) (CutsAt limit bytes)
unfolding HasNoCut
cut_taken limit bytes None e = sym e
cut_taken limit bytes (Some n) e =
    let f = cut_front (take limit bytes) n (sym e) in
    let l : length (take limit bytes) ≡ min limit (length bytes) = length-take limit bytes in
    let limited : n ≤ limit = omega (arith, f.1) in
    let within : n ≤ length bytes = omega (arith, f.1) in
    record {
      cut_is =
          ap cut (sym (take-append-drop limit bytes))
          ∙ cut-append (take limit bytes) (drop limit bytes) n (sym e);
      own = ap cut (sym (take_within limit n bytes limited)) ∙ f.2;
      some = f.0;
      limited = limited;
      within = within;
    }

-- the same for the bytes that are there through the limit
pub cut_min : (limit : ℕ) (bytes : List ℕ) (found : Option ℕ)
    → found ≡ cut (take (min limit (length bytes)) bytes)
    → MatchOption found (HasNoCut limit bytes) (CutsAt limit bytes)
cut_min limit bytes found e = cut_taken limit bytes found (e ∙ ap cut (take_min limit bytes))
