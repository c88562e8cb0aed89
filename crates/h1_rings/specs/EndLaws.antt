-- What was put or taken from one state of an end to another goes on.
use Rattle.std.specs.Prelude.{Bool, List, [], ◌++◌}
use Rattle.std.proofs.Common.{refl, sym, ap, ◌∙◌, append_assoc, append-nil}
use Rattle.h1_head.specs.declared.task.HttpTask.{HttpTask}
use Rattle.h1_rings.specs.Ends.{PutView, TakeView, RingPuts, RingTakes}
use Rattle.h1_rings.specs.PlainEnds.{ListPuts, ListTakes}

module _ {T : Type 0} where
  pub ring_puts_none : (end : PutView T) → RingPuts end [] end
  ring_puts_none end = record { same = refl; moved = sym (append-nil end.put) }

  pub ring_puts_on : (a b c : PutView T) (some more : List T) → RingPuts a some b
      → RingPuts b more c → RingPuts a (some ++ more) c
  ring_puts_on a b c some more p q =
      record {
        same = q.same ∙ p.same;
        moved = q.moved ∙ (ap (λ l. l ++ more) p.moved ∙ append_assoc a.put some more);
      }

  pub ring_takes_none : (end : TakeView T) → RingTakes end [] end
  ring_takes_none end = record { same = refl; moved = sym (append-nil end.taken) }

  pub ring_takes_on : (a b c : TakeView T) (some more : List T) → RingTakes a some b
      → RingTakes b more c → RingTakes a (some ++ more) c
  ring_takes_on a b c some more p q =
      record {
        same = q.same ∙ p.same;
        moved = q.moved ∙ (ap (λ l. l ++ more) p.moved ∙ append_assoc a.taken some more);
      }

pub list_puts_none : (end : List HttpTask) (gone : Bool) → ListPuts end gone [] end gone
list_puts_none end gone = (sym (append-nil end), refl, λ is. refl)

pub list_puts_on : (a b c : List HttpTask) (x y z : Bool) (some more : List HttpTask)
    → ListPuts a x some b y → ListPuts b y more c z → ListPuts a x (some ++ more) c z
list_puts_on a b c x y z some more p q = (
  q.0 ∙ (ap (λ l. l ++ more) p.0 ∙ append_assoc a some more),
  q.1 ∙ p.1,
  λ is. ap (λ l. l ++ more) (p.2 is) ∙ q.2 (p.1 ∙ is),
)

pub list_takes_none : (end : List HttpTask) (ended : Bool) → ListTakes end ended [] end ended
list_takes_none end ended = (refl, refl)

pub list_takes_on : (a b c : List HttpTask) (x y z : Bool) (some more : List HttpTask)
    → ListTakes a x some b y → ListTakes b y more c z → ListTakes a x (some ++ more) c z
list_takes_on a b c x y z some more p q = (p.0 ∙ (ap (λ l. some ++ l) q.0 ∙ sym (append_assoc some more c)), q.1 ∙ p.1)
