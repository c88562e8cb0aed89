-- What a contract sees of the two ends of a ring, and what their calls leave.
use Rattle.std.specs.Prelude.{◌≡◌, ◌≢◌, ℕ, ◌+◌, ◌≤◌, Option, Some, None, IsSome, ◌<◌, ◌-◌, ◌^◌, min, List, [], ◌∷◌, ◌++◌, length}
use mathlib.Core.List.{IsPrefix}
use Rattle.atomic_table.specs.Seated.{TableId}
use Rattle.h1_rings.specs.declared.put_end.Put.{Put}
use Rattle.h1_rings.specs.declared.put_end.Put.TheVariants as p
use Rattle.h1_rings.specs.declared.take_end.Take.{Take}
use Rattle.h1_rings.specs.declared.take_end.Take.TheVariants as t

pub record PutView (T : Type 0) : Type 0 where
  -- which ring it is
  pub ring : TableId × TableId × TableId
  -- all that was put
  pub put : List T
  -- what was seen taken
  pub freed : List T
  -- the number that this end was closed with
  pub closed : Option ℕ
  -- the number with which the other end was seen closed
  pub gone : Option ℕ

pub record TakeView (T : Type 0) : Type 0 where
  pub ring : TableId × TableId × TableId
  -- all that was taken
  pub taken : List T
  -- what was seen put
  pub seen : List T
  pub closed : Option ℕ
  pub ended : Option ℕ

-- a count stands still beyond its end
abbrev pub counted : ℕ → ℕ
counted n = min n (2 ^ 64 - 2)

module _ {T : Type 0} where
  -- at a step the ring held `most` items, the last that were put, and all that was seen taken was taken before them
  abbrev pub WasFull : ℕ → PutView T → Type 0
  WasFull most v = (gone : List T) × (items : List T) × IsPrefix v.freed gone
      × (v.put ≡ gone ++ items) × (length items ≡ most)

  -- at a step all that was put had been taken, and so all that was seen put
  abbrev pub WasEmpty : TakeView T → Type 0
  WasEmpty v = IsPrefix v.seen v.taken

  -- the sender was seen closed with so many items as were taken, and no item was left
  abbrev pub WasEnded : TakeView T → Type 0
  WasEnded v = (v.ended ≡ Some (length v.taken)) × (length v.taken < 2 ^ 64 - 2) × WasEmpty v

  pub record HasPut (most : ℕ) (v : PutView T) (x : T) (w : PutView T) : Type 0 where
    pub put : w.put ≡ v.put ++ x ∷ []
    pub seen : IsPrefix v.freed w.freed
    pub room : length w.put ≤ length w.freed + most
    pub rest : w ≡ record v { put = w.put; freed = w.freed; gone = w.gone }

  -- a put with no look at the other's word
  abbrev pub OfferOf : ℕ → PutView T → T → Put T → PutView T → Type 0
  OfferOf most v x p.Put w = HasPut most v x w
  OfferOf most v x (p.Full y) w = (y ≡ x) × WasFull most v × (w ≡ v)
  OfferOf most v x (p.Gone y) w = ⊥

  -- a put, behind a look at the other's word: nothing is put where that is set
  abbrev pub PutStepOf : ℕ → PutView T → T → Put T → PutView T → Type 0
  PutStepOf most v x p.Put w = HasPut most v x w × (w.gone ≡ None)
  PutStepOf most v x (p.Full y) w =
      (y ≡ x) × WasFull most v × (w.gone ≡ None) × (w ≡ record v { gone = w.gone })
  PutStepOf most v x (p.Gone y) w = (y ≡ x) × IsSome w.gone × (w ≡ record v { gone = w.gone })

  pub record HasTaken (v : TakeView T) (x : T) (w : TakeView T) : Type 0 where
    pub taken : w.taken ≡ v.taken ++ x ∷ []
    pub seen : IsPrefix v.seen w.seen
    pub ahead : IsPrefix w.taken w.seen
    pub rest : w ≡ record v { taken = w.taken; seen = w.seen; ended = w.ended }

  -- nothing was taken, since all that was put had been
  abbrev pub TakesNone : TakeView T → TakeView T → Type 0
  TakesNone v w = WasEmpty v × (w ≡ record v { ended = w.ended })

  -- a take: it answers Empty only where it doesn't know that its sender was closed behind all that was
  -- taken
  abbrev pub TakeStepOf : TakeView T → Take T → TakeView T → Type 0
  TakeStepOf v (t.Item x) w = HasTaken v x w
  TakeStepOf v t.Empty w =
      TakesNone v w × (length v.taken < 2 ^ 64 - 2 → w.ended ≢ Some (length v.taken))
  TakeStepOf v t.Ended w = WasEmpty v × (length v.taken < 2 ^ 64 - 2) × (w ≡ record v { ended = Some (length v.taken) })

  -- from one state of a ring's end to the other these items were put, or taken
  pub record RingPuts (a : PutView T) (items : List T) (b : PutView T) : Type 0 where
    pub same : b.ring ≡ a.ring
    pub moved : b.put ≡ a.put ++ items

  pub record RingTakes (a : TakeView T) (items : List T) (b : TakeView T) : Type 0 where
    pub same : b.ring ≡ a.ring
    pub moved : b.taken ≡ a.taken ++ items
