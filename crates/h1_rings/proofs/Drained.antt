-- What the takes of a ring whose ends have met give is what was left.
use Rattle.std.proofs.Common.{◌≡◌, ℕ, ◌+◌, ◌≤◌, List, [], ◌∷◌, ◌++◌, length, Option, Some, None, sym, refl, ap, ◌∙◌, subst, append_assoc, append-nil, arith, add-one}
use Rattle.h1_rings.specs.Settled.{NextIs, Holds}

module _ {T : Type 0} where
  cancels : (front xs ys : List T) → front ++ xs ≡ front ++ ys → xs ≡ ys
  cancels [] xs ys e = e
  cancels (x ∷ front) xs ys e = cancels front xs ys (grind (arith, e))

  nothing : (xs : List T) → length xs ≡ 0 → xs ≡ []
  nothing [] e = refl
  nothing (x ∷ xs) e = absurd (omega arith)

  -- a take, before the slots of the takes to come
  next_holds : (n : ℕ) (put before after left : List T) (o : Option T) (slots : List (Option T))
      → put ≡ before ++ left → length left ≤ n + 1 → NextIs put before o after
      → ((rest : List T) → put ≡ after ++ rest → length rest ≤ n → Holds slots rest) → Holds (o ∷ slots) left
  next_holds n put before after left None slots e few next go =
      let empty : left ≡ [] = cancels before left [] (sym e ∙ (next.0 ∙ sym (append-nil before))) in
      (empty, go [] (next.0 ∙ (sym next.1 ∙ sym (append-nil after))) (omega arith))
  next_holds n put before after left (Some x) slots e few next go =
      let rest : List T = next.1.0 in
      let more : before ++ left ≡ before ++ x ∷ rest = sym e
      ∙ (sym next.1.1 ∙ (ap (λ l. l ++ rest) next.0 ∙ append_assoc before (x ∷ []) rest)) in
      let is : left ≡ x ∷ rest = cancels before left (x ∷ rest) more in
      let long : length left ≡ length rest + 1 = ap length is ∙ sym (add-one (length rest)) in
      (rest, is, go rest (sym next.1.1) (omega arith))

  pub drained : (p0 p1 p2 p3 t0 t1 t2 t3 t4 : List T) (a b c d : Option T) → p1 ≡ p0 → p2 ≡ p1 → p3 ≡ p2
      → NextIs p0 t0 a t1 → NextIs p1 t1 b t2 → NextIs p2 t2 c t3 → NextIs p3 t3 d t4
      → (left : List T) × (p0 ≡ t0 ++ left) × (length left ≤ 4)
      → (left : List T) × (p0 ≡ t0 ++ left) × Holds (a ∷ b ∷ c ∷ d ∷ []) left
  drained p0 p1 p2 p3 t0 t1 t2 t3 t4 a b c d e1 e2 e3 na nb nc nd was =
      let nb' = subst (λ (p : List T). NextIs p t1 b t2) e1 nb in
      let nc' = subst (λ (p : List T). NextIs p t2 c t3) (e2 ∙ e1) nc in
      let nd' = subst (λ (p : List T). NextIs p t3 d t4) (e3 ∙ (e2 ∙ e1)) nd in (
        was.0,
        was.1,
        next_holds 3 p0 t0 t1 was.0 a (b ∷ c ∷ d ∷ []) was.1 was.2 na (λ l1 q1 f1.
            next_holds 2 p0 t1 t2 l1 b (c ∷ d ∷ []) q1 f1 nb' (λ l2 q2 f2.
            next_holds 1 p0 t2 t3 l2 c (d ∷ []) q2 f2 nc' (λ l3 q3 f3.
            next_holds 0 p0 t3 t4 l3 d [] q3 f3 nd' (λ l4 q4 f4. nothing l4 (omega arith))))),
      )
