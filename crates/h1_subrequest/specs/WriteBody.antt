-- What the writes of a subrequest's response put, and what they answer.
use Rattle.std.specs.Prelude.{◌≡◌, ℕ, ◌⊎◌, Bool, true, false, List, [], ◌∷◌, length, Option, Some, None, Result, Ok, Err, nat_le}
use Rattle.h1_error.specs.declared.error.ErrorType.TheVariants.{PrematureBodyEnd, WriteError}
use Rattle.h1_subrequest.specs.Words.{Body, BodyMode, Drops, Error, ErrorType, HttpTask, Passes, Passing, Pending, Poll, Ready, Trailer}
use Rattle.h1_subrequest.specs.declared.body_mode.BodyMode.TheVariants as mode
use Rattle.h1_subrequest.specs.Writing.{cut}

-- how many bytes of payload were put, or None where there was nothing to put
abbrev pub Count : Type 0
Count = Result (Option ℕ) Error

abbrev pub failed : {T : Type 0} → ErrorType → Result T Error
failed cause = Err (record { kind = cause; retry = false })

-- no header has set the mode
abbrev pub is_unset : BodyMode → Bool
is_unset mode.ToSelect = true
is_unset (mode.ContentLength n count) = false
is_unset (mode.UntilClose count) = false
is_unset (mode.Complete count) = false

-- the body was ended, or all of its length was put
abbrev pub is_finished : BodyMode → Bool
is_finished mode.ToSelect = false
is_finished (mode.ContentLength n count) = nat_le n count
is_finished (mode.UntilClose count) = false
is_finished (mode.Complete count) = true

-- how many bytes of payload were put
abbrev pub written : BodyMode → ℕ
written mode.ToSelect = 0
written (mode.ContentLength n count) = count
written (mode.UntilClose count) = count
written (mode.Complete count) = count

-- the payload in a task
abbrev pub piece_in : HttpTask → Option (List ℕ)
piece_in (Body piece end) = piece
piece_in task = None

-- a task with trailer fields
abbrev pub IsTrailer : Option HttpTask → Type 0
IsTrailer (Some (Trailer fields)) = Unit {0}
IsTrailer task = ⊥

-- The task was put. Or four tasks were there, and nothing was put. Or the receiver was gone.
abbrev pub Offers : {X : Type 0} → (X → List HttpTask → X → Type 0) → Type 0 → Type 0 → X → X
    → HttpTask → Type 0 → Type 0 → Type 0 → Type 0
Offers puts full gone tx tx' task when_put when_full when_gone =
    (puts tx (task ∷ []) tx' × when_put)
    ⊎ (full × puts tx [] tx' × when_full)
    ⊎ (gone × puts tx [] tx' × when_gone)

-- What passes of a piece is put. At a full ring it is kept, cut to the length. A piece of which
-- nothing passes is dropped.
abbrev pub WritesPart : {X : Type 0} → (X → List HttpTask → X → Type 0) → Type 0 → Type 0 → X → X
    → BodyMode → BodyMode → Option (List ℕ × BodyMode) → Option (List ℕ) → Poll Count → Type 0
WritesPart puts full gone tx tx' writer writer' None piece' result =
    (tx' ≡ tx) × (writer' ≡ writer) × (piece' ≡ None) × (result ≡ Ready (Ok None))
WritesPart puts full gone tx tx' writer writer' (Some cut) piece' result =
    Offers puts full gone tx tx' (Body (Some cut.0) false)
    ((writer' ≡ cut.1) × (piece' ≡ None) × (result ≡ Ready (Ok (Some (length cut.0)))))
    ((writer' ≡ writer) × (piece' ≡ Some cut.0) × (result ≡ Pending))
    ((writer' ≡ writer) × (piece' ≡ None) × (result ≡ Ready (failed WriteError)))

abbrev pub WritesPiece : {X : Type 0} → (X → List HttpTask → X → Type 0) → Type 0 → Type 0 → X → X
    → BodyMode → BodyMode → Option (List ℕ) → Option (List ℕ) → Poll Count → Type 0
WritesPiece puts full gone tx tx' writer writer' None piece' result = ⊥
WritesPiece puts full gone tx tx' writer writer' (Some piece) piece' result =
    WritesPart puts full gone tx tx' writer writer' (cut writer piece) piece' result

-- the answer where an end is dropped: it came too early, or there was none to put
abbrev pub dropped : BodyMode → Count
dropped mode.ToSelect = Ok None
dropped (mode.ContentLength n count) = failed PrematureBodyEnd
dropped (mode.UntilClose count) = Ok None
dropped (mode.Complete count) = Ok None

-- The end is put. One that comes too early is refused, with the body complete.
abbrev pub EndsBody : {X : Type 0} → (X → List HttpTask → X → Type 0) → Type 0 → Type 0 → X → X
    → BodyMode → BodyMode → Passing → Poll Count → Type 0
EndsBody puts full gone tx tx' writer writer' (Drops after) result =
    (tx' ≡ tx) × (writer' ≡ after) × (result ≡ Ready (dropped writer))
EndsBody puts full gone tx tx' writer writer' (Passes task after) result =
    Offers puts full gone tx tx' task
    ((writer' ≡ after) × (result ≡ Ready (Ok (Some (written after)))))
    ((writer' ≡ writer) × (result ≡ Pending))
    ((writer' ≡ writer) × (result ≡ Ready (failed WriteError)))

-- A task that passes as it is. At a full ring it is kept.
abbrev pub WritesTask : {X : Type 0} → (X → List HttpTask → X → Type 0) → Type 0 → Type 0 → X → X
    → Option HttpTask → Option HttpTask → Poll (Result (Unit {0}) Error) → Type 0
WritesTask puts full gone tx tx' None task' result = ⊥
WritesTask puts full gone tx tx' (Some task) task' result =
    Offers puts full gone tx tx' task
    ((task' ≡ None) × (result ≡ Ready (Ok tt)))
    ((task' ≡ Some task) × (result ≡ Pending))
    ((task' ≡ None) × (result ≡ Ready (failed WriteError)))
