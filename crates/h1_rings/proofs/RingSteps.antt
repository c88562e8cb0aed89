-- Each step keeps the rule of a ring's queue.
use Rattle.std.proofs.Common.{◌≡◌, ◌≢◌, ℕ, zero, suc, ◌+◌, ◌≤◌, true, false, true≢false, List, [], ◌∷◌, ◌++◌, length, set, sym, refl, ap, ◌∙◌, subst, ⊎_elim, append_assoc, append-nil, arith, length-append}
use mathlib.Core.Option.{some, some-ne-none}
use mathlib.Core.List.{IsPrefix}
use lib.ListN.{get_elem?}
use Rattle.crossbeam_queue.specs.Fifo.{Pushes, Pops, Forks, Merges, Learns}
use Rattle.crossbeam_queue.proofs.Lists.{at_set, at_snoc}
use Rattle.h1_rings.specs.declared.ring_rule.QueueView.{QueueView}
use Rattle.h1_rings.specs.RingRule.{queue_view, KnowsQueue, KeepsOrder, HasPut, HasTaken, Waits, Comes}

module _ {T : Type 0} where
  pub prefix_itself : (xs : List T) → IsPrefix xs xs
  prefix_itself xs = ([], append-nil xs)

  pub prefix_more : (xs ys more : List T) → IsPrefix xs ys → IsPrefix xs (ys ++ more)
  prefix_more xs ys more p = (p.0 ++ more, sym (append_assoc xs p.0 more) ∙ ap (λ l. l ++ more) p.1)

  abbrev All : (ℕ → QueueView T → Type 0) → List (QueueView T) → Type 0
  All F views = (port : ℕ) (v : QueueView T) → get_elem? views port ≡ some v → F port v

  at_end : (l : List (QueueView T)) (a b : QueueView T) (j : ℕ) → get_elem? l j ≢ some b
      → get_elem? (l ++ a ∷ []) j ≡ some b → j ≡ length l
  at_end [] a b zero n e = refl
  at_end [] a b (suc j) n e = absurd (some-ne-none b (sym e))
  at_end (x ∷ xs) a b zero n e = absurd (n e)
  at_end (x ∷ xs) a b (suc j) n e = ap suc (at_end xs a b j n e)

  all_set : (F : ℕ → QueueView T → Type 0) (views : List (QueueView T)) (port : ℕ) (w : QueueView T)
      → F port w → ((j : ℕ) (u : QueueView T) → j ≢ port → get_elem? views j ≡ some u → F j u)
      → All F (set views port w)
  all_set F views port w mine others j u e =
      ⊎_elim
      (λ (x : (j ≡ port) × (w ≡ u)). subst (λ (y : ℕ). F y u) (sym x.0)
      (subst (λ (y : QueueView T). F port y) x.1 mine))
      (λ (x : (j ≢ port) × (get_elem? views j ≡ some u)). others j u x.0 x.1) (at_set views port j w u e)

  pub begins : (most : ℕ) → KeepsOrder {T = T} most [] (queue_view true true [] [] ∷ [])
  begins most = record {
    writer = 0;
    reader = 0;
    all = [];
    gone = [];
    order = refl;
    room = omega arith;
    each = all_set (KnowsQueue 0 0 [] []) (queue_view true true [] [] ∷ []) 0 (queue_view true true [] [])
        record {
          writes = λ _. (refl, refl);
          reads = λ _. (refl, refl);
          seen_put = prefix_itself [];
          seen_taken = prefix_itself [];
        }
        (λ j u other e. absurd (other (at_end [] _ u j (λ x. some-ne-none u (sym x)) e)));
  }

  pub puts : (n most port : ℕ) (v : QueueView T) (x : T) → n ≤ most → v.puts ≡ true
      → Pushes (KeepsOrder most) n port v x (HasPut most v x)
  puts n most port v x few may items views room h at =
      let all = h.all ++ x ∷ [] in
      let w : QueueView T = queue_view v.puts v.takes all h.gone in
      let mine = h.each port v at in
      let here = mine.writes may in
      let long : length h.all ≡ length h.gone + length items = ap length h.order ∙ length-append h.gone items in
      let longer : length all ≡ length h.all + 1 = length-append h.all (x ∷ []) in (
        w,
        record {
          writer = h.writer;
          reader = h.reader;
          all = all;
          gone = h.gone;
          order = ap (λ l. l ++ x ∷ []) h.order ∙ append_assoc h.gone items (x ∷ []);
          room = (let e = length-append items (x ∷ []) in omega arith);
          each = all_set (KnowsQueue h.writer h.reader all h.gone) views port w
              record {
                writes = λ _. (here.0, refl);
                reads = λ takes. ((mine.reads takes).0, refl);
                seen_put = prefix_itself all;
                seen_taken = prefix_itself h.gone;
              }
              (λ j u other e. let theirs = h.each j u e in
              record {
                writes = λ p. absurd (other ((theirs.writes p).0 ∙ sym here.0));
                reads = theirs.reads;
                seen_put = prefix_more u.put h.all (x ∷ []) theirs.seen_put;
                seen_taken = theirs.seen_taken;
              });
        },
        record {
          same = (refl, refl);
          put = ap (λ l. l ++ x ∷ []) (sym here.1);
          seen = mine.seen_taken;
          room = omega arith;
        },
      )

  pub takes : (most port : ℕ) (v : QueueView T) → v.takes ≡ true → Pops (KeepsOrder most) port v (HasTaken v)
  takes most port v may x items views h at =
      let gone = h.gone ++ x ∷ [] in
      let w : QueueView T = queue_view v.puts v.takes h.all gone in
      let mine = h.each port v at in
      let here = mine.reads may in
      let order : h.all ≡ gone ++ items = h.order ∙ sym (append_assoc h.gone (x ∷ []) items) in (
        w,
        record {
          writer = h.writer;
          reader = h.reader;
          all = h.all;
          gone = gone;
          order = order;
          room = (let r = h.room in omega arith);
          each = all_set (KnowsQueue h.writer h.reader h.all gone) views port w
              record {
                writes = λ puts. ((mine.writes puts).0, refl);
                reads = λ _. (here.0, refl);
                seen_put = prefix_itself h.all;
                seen_taken = prefix_itself gone;
              }
              (λ j u other e. let theirs = h.each j u e in
              record {
                writes = theirs.writes;
                reads = λ p. absurd (other ((theirs.reads p).0 ∙ sym here.0));
                seen_put = theirs.seen_put;
                seen_taken = prefix_more u.taken h.gone (x ∷ []) theirs.seen_taken;
              });
        },
        record {
          same = (refl, refl);
          taken = ap (λ l. l ++ x ∷ []) (sym here.1);
          seen = mine.seen_put;
          ahead = (items, sym order);
        },
      )

  pub forks : (most port : ℕ) (v : QueueView T) → v.puts ≡ true → v.takes ≡ true
      → Forks (KeepsOrder most) port v (queue_view true false v.put v.taken)
      (queue_view false true v.put v.taken)
  forks most port v a b items views h at =
      let l : QueueView T = queue_view true false v.put v.taken in
      let r : QueueView T = queue_view false true v.put v.taken in
      let mine = h.each port v at in
      let vs : List (QueueView T) = set views port l in
      let Old : ℕ → QueueView T
      → Type 0 = λ j u. (u.puts ≡ true → (j ≡ h.writer) × (u.put ≡ h.all)) × (u.takes ≢ true)
      × IsPrefix u.put h.all × IsPrefix u.taken h.gone in
      let old : All Old vs =
      all_set Old views port l
      ((λ _. mine.writes a), (λ p. true≢false (sym p)), mine.seen_put, mine.seen_taken)
      (λ j u other e. let theirs =
      h.each j u e in (
        theirs.writes,
        (λ p. other
            ((theirs.reads p).0 ∙ sym (mine.reads b).0)),
        theirs.seen_put,
        theirs.seen_taken,
      )) in
      record {
        writer = h.writer;
        reader = length vs;
        all = h.all;
        gone = h.gone;
        order = h.order;
        room = h.room;
        each = λ j u e. ⊎_elim
            (λ x. let was =
            old j u x in record {
              writes = was.0;
              reads = λ p. absurd (was.1 p);
              seen_put = was.2;
              seen_taken = was.3;
            })
            (λ (is : r ≡ u). record {
              writes = λ p. absurd (true≢false (sym (ap (λ (y : QueueView T). y.puts) is ∙ p)));
              reads = λ p. (
                at_end vs r u j (λ x. (old j u x).1 p) e,
                ap (λ (y : QueueView T). y.taken)
                    (sym is) ∙ (mine.reads b).1,
              );
              seen_put = subst (λ (y : QueueView T). IsPrefix y.put h.all) is mine.seen_put;
              seen_taken = subst (λ (y : QueueView T). IsPrefix y.taken h.gone) is mine.seen_taken;
            })
            (at_snoc vs r u j e);
      }

  pub merges : (most port : ℕ) (v : QueueView T) (other : ℕ) (u : QueueView T) → v.puts ≡ true
      → u.takes ≡ true
      → Merges (KeepsOrder most) port v other u (queue_view true true v.put u.taken)
      (queue_view false false [] [])
  merges most port v other u a b items views h at two at' =
      let both : QueueView T = queue_view true true v.put u.taken in
      let mine = h.each port v at in
      let vs : List (QueueView T) = set views port both in
      let was : get_elem? views other ≡ some u =
      ⊎_elim (λ x. absurd (two x.0)) (λ x. x.1) (at_set views port other both u at') in
      let theirs = h.each other u was in
      let Now : ℕ → QueueView T → Type 0 = λ j y. j ≢ other → KnowsQueue h.writer port h.all h.gone j y in
      let now : All Now vs =
      all_set Now views port both
      (λ _. record {
        writes = λ _. mine.writes a;
        reads = λ _. (refl, (theirs.reads b).1);
        seen_put = mine.seen_put;
        seen_taken = theirs.seen_taken;
      })
      (λ j y _ e apart. let its =
      h.each j y e in record {
        writes = its.writes;
        reads = λ p. absurd (apart ((its.reads p).0 ∙ sym (theirs.reads b).0));
        seen_put = its.seen_put;
        seen_taken = its.seen_taken;
      }) in
      record {
        writer = h.writer;
        reader = port;
        all = h.all;
        gone = h.gone;
        order = h.order;
        room = h.room;
        each = all_set (KnowsQueue h.writer port h.all h.gone) vs other (queue_view false false [] [])
            record {
              writes = λ p. absurd (true≢false (sym p));
              reads = λ p. absurd (true≢false (sym p));
              seen_put = (h.all, refl);
              seen_taken = (h.gone, refl);
            }
            (λ j y apart e. now j y e apart);
      }

  pub waits : (most port : ℕ) (v : QueueView T) → v.puts ≡ true → Learns (KeepsOrder most) port v (Waits v)
  waits most port v may items views h at = let mine =
      h.each port v at in (h.gone, mine.seen_taken, (mine.writes may).1 ∙ h.order)

  pub comes : (most port : ℕ) (v : QueueView T) → v.takes ≡ true → Learns (KeepsOrder most) port v (Comes v)
  comes most port v may items views h at = let mine =
      h.each port v at in
      (h.all, mine.seen_put, h.order ∙ ap (λ l. l ++ items) (sym (mine.reads may).1))

  pub totals : (most port : ℕ) (v : QueueView T) → v.puts ≡ true → v.takes ≡ true
      → Learns (KeepsOrder most) port v
      (λ items. (v.put ≡ v.taken ++ items) × (length items ≤ most))
  totals most port v a b items views h at = let mine =
      h.each port v at in
      ((mine.writes a).1 ∙ (h.order ∙ ap (λ l. l ++ items) (sym (mine.reads b).1)), h.room)

  pub drains : (most port : ℕ) (v : QueueView T) → v.puts ≡ true → v.takes ≡ true
      → Pops (KeepsOrder most) port v
      (λ x w. (w ≡ queue_view v.puts v.takes v.put (v.taken ++ x ∷ [])) × IsPrefix w.taken w.put)
  unfolding takes
  drains most port v a b x items views h at =
      let mine = h.each port v at in
      let put = (mine.writes a).1 in
      let taken = (mine.reads b).1 in
      let step = takes most port v b x items views h at in
      let w : QueueView T = queue_view v.puts v.takes h.all (h.gone ++ x ∷ []) in
      let w' : QueueView T = queue_view v.puts v.takes v.put (v.taken ++ x ∷ []) in
      let same : w ≡ w' = λ i. queue_view v.puts v.takes (sym put i) (sym taken i ++ x ∷ []) in
      (w, step.1, (same, (items, sym (h.order ∙ sym (append_assoc h.gone (x ∷ []) items)))))
