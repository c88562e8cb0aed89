-- What was put is what was taken and then what the queue holds. One pass at most may put, and it
-- has the list of all that was put. The same for takes.
use Rattle.std.specs.Prelude.{◌≡◌, ℕ, ◌+◌, ◌≤◌, Bool, true, List, [], ◌∷◌, ◌++◌, length}
use mathlib.Core.Option.{some}
use mathlib.Core.List.{IsPrefix}
use lib.ListN.{get_elem?}
use Rattle.h1_rings.specs.declared.ring_rule.QueueView.{QueueView}

module _ {T : Type 0} where
  abbrev pub queue_view : Bool → Bool → List T → List T → QueueView T
  queue_view puts takes put taken = record { puts = puts; takes = takes; put = put; taken = taken }

  -- what a pass knows is so
  pub record KnowsQueue (writer reader : ℕ) (all gone : List T) (port : ℕ) (v : QueueView T) : Type 0 where
    pub writes : v.puts ≡ true → (port ≡ writer) × (v.put ≡ all)
    pub reads : v.takes ≡ true → (port ≡ reader) × (v.taken ≡ gone)
    pub seen_put : IsPrefix v.put all
    pub seen_taken : IsPrefix v.taken gone

  pub record KeepsOrder (most : ℕ) (items : List T) (views : List (QueueView T)) : Type 0 where
    pub writer : ℕ
    pub reader : ℕ
    pub all : List T
    pub gone : List T
    pub order : all ≡ gone ++ items
    pub room : length items ≤ most
    pub each : (port : ℕ) (v : QueueView T) → get_elem? views port ≡ some v → KnowsQueue writer reader all gone port v

  -- x was put behind all that was put before, where fewer than the most were in the queue
  pub record HasPut (most : ℕ) (v : QueueView T) (x : T) (w : QueueView T) : Type 0 where
    pub same : (w.puts ≡ v.puts) × (w.takes ≡ v.takes)
    pub put : w.put ≡ v.put ++ x ∷ []
    pub seen : IsPrefix v.taken w.taken
    pub room : length w.put ≤ length w.taken + most

  -- x was taken behind all that was taken before
  pub record HasTaken (v : QueueView T) (x : T) (w : QueueView T) : Type 0 where
    pub same : (w.puts ≡ v.puts) × (w.takes ≡ v.takes)
    pub taken : w.taken ≡ v.taken ++ x ∷ []
    pub seen : IsPrefix v.put w.put
    pub ahead : IsPrefix w.taken w.put

  -- the queue holds the last of what was put, and all that was seen taken was taken before them
  abbrev pub Waits : QueueView T → List T → Type 0
  Waits v items = (gone : List T) × IsPrefix v.taken gone × (v.put ≡ gone ++ items)

  -- the queue holds what was put and not taken, and all that was seen put was put
  abbrev pub Comes : QueueView T → List T → Type 0
  Comes v items = (all : List T) × IsPrefix v.put all × (all ≡ v.taken ++ items)
