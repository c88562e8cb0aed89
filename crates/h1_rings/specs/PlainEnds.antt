-- Ends in memory, of at most four tasks.
use Rattle.std.specs.Prelude.{◌≡◌, Bool, true, false, List, [], ◌∷◌, ◌++◌, length, Option, Some, None, nat_lt}
use Rattle.h1_head.specs.declared.task.HttpTask.{HttpTask}
use Rattle.h1_rings.specs.declared.task_ends.PutStep.{PutStep}
use Rattle.h1_rings.specs.declared.task_ends.PutStep.TheVariants as p

module _ {T : Type 0} where
  -- the item of a slot
  abbrev pub one_of : Option T → List T
  one_of None = []
  one_of (Some item) = item ∷ []

  -- the items of four slots, in order
  abbrev pub items_of : Option T → Option T → Option T → Option T → List T
  items_of a b c d = one_of a ++ (one_of b ++ (one_of c ++ one_of d))

  -- where a slot has no item, the next has none
  abbrev pub Behind : Option T → Option T → Type 0
  Behind None after = after ≡ None
  Behind (Some item) after = Unit {0}

  -- the items stand in the first slots
  abbrev pub InFront : Option T → Option T → Option T → Option T → Type 0
  InFront a b c d = Behind a b × Behind b c × Behind c d

  -- no room is left
  abbrev pub is_four : List T → Bool
  is_four items = nat_lt 3 (length items)

  -- the item in front, and those behind it
  abbrev pub front : List T → Option T × List T
  front [] = (None, [])
  front (item ∷ items) = (Some item, items)

-- a task that is given is put behind the others, where the end isn't closed and has room
abbrev pub Gives : List HttpTask → Bool → HttpTask → PutStep → List HttpTask → Type 0
Gives items closed task p.Put after = (closed ≡ false) × (is_four items ≡ false) × (after ≡ items ++ task ∷ [])
Gives items closed task (p.Full back) after = (closed ≡ false) × (is_four items ≡ true)
    × (back ≡ task) × (after ≡ items)
Gives items closed task (p.Gone back) after = (closed ≡ true) × (back ≡ task) × (after ≡ items)

-- these tasks were put into a plain end that has so many before and after, and whose mark that its
-- receiver is gone stays; behind that mark none is put
abbrev pub ListPuts : List HttpTask → Bool → List HttpTask → List HttpTask → Bool → Type 0
ListPuts before gone tasks after gone_after = (after ≡ before ++ tasks) × (gone_after ≡ gone)
    × (gone ≡ true → tasks ≡ [])

-- these tasks were taken from a plain end, whose mark that its sender ended stays
abbrev pub ListTakes : List HttpTask → Bool → List HttpTask → List HttpTask → Bool → Type 0
ListTakes before ended tasks after ended_after = (before ≡ tasks ++ after) × (ended_after ≡ ended)
