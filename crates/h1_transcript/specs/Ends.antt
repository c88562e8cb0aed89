-- When a connection ends, and how its exchanges stand then (RFC 9112, section 9.3).
use Rattle.std.specs.Prelude.{◌≡◌, ◌≢◌, ℕ, ◌+◌, ◌<◌, ◌⊎◌, List, [], ◌∷◌, ◌++◌, length, drop, true, false, Option, Some, None}
use Rattle.h1_transcript.specs.Words.{Error, ErrorType, End, LinkState, Rose, HeadAt, Body, unfinished, broken, payload_of, body, framing, Entry}
use Rattle.h1_error.specs.declared.error.ErrorType.TheVariants as kind
use Rattle.h1_error.specs.declared.progress.End.TheVariants as end
use Rattle.h1_transcript.specs.Stream.{Tail, empty, begun, refused, EndsAs}
use Rattle.h1_transcript.specs.Behind.{WroteBehind, AfterRead, DoneBehind, FlushedBy, written_of, is_until_close}
use Rattle.h1_transcript.specs.Exchange.{render, is_short}
use Rattle.h1_transcript.specs.Told.{IfTold}

-- the bytes are the requests of these exchanges, each with a body that was read whole, and this tail
abbrev pub ReadAll : List ℕ → List Entry → Tail → Type 0
ReadAll since done tail = AfterRead done (λ rest. EndsAs rest tail) since

-- The last request's body is not whole: it is cut, or broken, after the payload that was read.
pub record LastStands (since : List ℕ) (e : Entry) (stands : Body) : Type 0 where
  pub n : ℕ
  pub head : HeadAt since n e.head e.both
  pub body : body (framing e.head) (drop n since) ≡ stands

-- a body is longer than its exchange's payload may be
abbrev pub IsTooLarge : Entry → Body → Type 0
IsTooLarge e body = e.holding.limit < length (payload_of body)

-- the last request's body is longer than its payload may be, as far as it came
pub record LastGoesPast (since : List ℕ) (e : Entry) : Type 0 where
  pub n : ℕ
  pub head : HeadAt since n e.head e.both
  pub body : IsTooLarge e (body (framing e.head) (drop n since))

-- the same after the exchanges that ended
abbrev pub LastAfter : List ℕ → List Entry → Entry → Body → Type 0
LastAfter since done e stands = AfterRead done (λ rest. LastStands rest e stands) since

-- the reply was written whole, after those of the exchanges that ended, and flushed, and nothing of
-- it is owed
pub record IsComplete (before now : LinkState) (done : List Entry) (e : Entry) : Type 0 where
  pub sent_head : (e.sent_head ≢ None)
  pub sent_body : (e.sent_body ≢ None)
  pub written : IfTold before.written now.written (λ since. WroteBehind since done (render e))
  pub flushed : FlushedBy before now (written_of done + e.written)
  pub unowed : e.owed ≡ false

-- every exchange is over: all replies were written whole and flushed, and the connection was kept
-- after each of them
pub record AreAllDone (before now : LinkState) (done : List Entry)
    (last : Option Entry) : Type 0 where
  pub none : last ≡ None
  pub written : IfTold before.written now.written (λ since. WroteBehind since done [])
  pub flushed : DoneBehind (FlushedBy before now) 0 done

-- the reply is complete, and the connection is kept after it
pub record IsDone (before now : LinkState) (done : List Entry) (e : Entry) : Type 0 where
  pub complete : IsComplete before now done e
  pub long : is_short e ≡ false
  pub keep : e.keep ≡ true
  pub closes : is_until_close e ≡ false

-- what is awaited is not among the bytes given: a head, or more of the last request's body, which
-- the application reads, or which is drained after the reply
abbrev pub LacksSo : LinkState → LinkState → List Entry → Option Entry → Type 0
LacksSo before now done None =
    AreAllDone before now done None
    × IfTold before.given now.given (λ since. ReadAll since done empty ⊎ ReadAll since done begun)
LacksSo before now done (Some e) = ((e.reply ≡ None) ⊎ IsDone before now done e)
    × IfTold before.given now.given (λ since. LastAfter since done e (unfinished e.body))

-- the render of a short reply was written whole, after those of the exchanges that ended
pub record IsWrittenShort (before now : LinkState) (done : List Entry) (e : Entry) : Type 0 where
  pub short : is_short e ≡ true
  pub written : IfTold before.written now.written (λ since. WroteBehind since done (render e))

-- an error of the request's body ends the connection once the reply is written
pub record EndsBody (before now : LinkState) (done : List Entry) (e : Entry)
    (error : Error) : Type 0 where
  pub is : e.body_error ≡ Some error
  pub replied : IsComplete before now done e ⊎ IsWrittenShort before now done e

-- and an error that the drain met ends it after a reply that is done; `risen` is what the error asks
-- of the poll that met it
abbrev pub StopsLast : LinkState → LinkState → List Entry → Entry → Error → Type 0 → Type 0
StopsLast before now done e error risen =
    EndsBody before now done e error ⊎ (IsDone before now done e × (e.body_error ≡ None) × risen)

abbrev pub OfLast : Option Entry → (Entry → Type 0) → Type 0
OfLast None P = ⊥
OfLast (Some e) P = P e

-- when a connection fails with an error of this kind; `done` are the exchanges before the last
abbrev pub FailureCause : LinkState → LinkState → LinkState → List Entry → Option Entry → Error
    → ErrorType → Type 0
FailureCause before old now done last error (kind.InvalidHTTPHeader fault) =
    AreAllDone before now done last
    × IfTold before.given now.given (λ since. ReadAll since done (refused fault))
FailureCause before old now done last error kind.ConnectionClosed = (now.ended ≡ true)
    × ((AreAllDone before now done last
    × IfTold before.given now.given (λ since. ReadAll since done begun))
    ⊎ OfLast last (λ e. StopsLast before now done e error (Unit {0})
    × IfTold before.given now.given (λ since. LastAfter since done e (unfinished e.body))))
FailureCause before old now done last error kind.InvalidBody =
    OfLast last (λ e. StopsLast before now done e error (Unit {0})
    × IfTold before.given now.given (λ since. LastAfter since done e (broken e.body)))
FailureCause before old now done last error kind.ContentTooLarge =
    OfLast last (λ e. StopsLast before now done e error (Unit {0})
    × IfTold before.given now.given (AfterRead done (λ rest. LastGoesPast rest e)))
FailureCause before old now done last error kind.ReadError =
    ((last ≡ None) × Rose old.read_faults now.read_faults × LacksSo before now done None)
    ⊎ OfLast last (λ e. StopsLast before now done e error (Rose old.read_faults now.read_faults)
    × IfTold before.given now.given (λ since. LastAfter since done e (unfinished e.body)))
FailureCause before old now done last error kind.WriteError = Rose old.write_faults now.write_faults
FailureCause before old now done last error kind.ReadTimedout =
    (Rose old.read_waits now.read_waits × AreAllDone before now done last
    × IfTold before.given now.given (λ since. ReadAll since done begun))
    ⊎ OfLast last (λ e. StopsLast before now done e error (Rose old.read_waits now.read_waits)
    × IfTold before.given now.given (λ since. LastAfter since done e (unfinished e.body)))
FailureCause before old now done last error kind.WriteTimedout =
    Rose old.write_waits now.write_waits
    × OfLast last (λ e. (e.sent_body ≢ None) × (e.owed ≡ true))
FailureCause before old now done last error kind.PrematureBodyEnd =
    OfLast last (λ e. IsWrittenShort before now done e × (e.body_error ≡ None))
FailureCause before old now done last error kind.NoMemory = Unit {0}
FailureCause before old now done last error _ = ⊥

-- When a connection ends; `old` is the link's state before the poll that gave the end. It is finished
-- where its link ended behind the last request, or waited too long there. An error isn't for a retry.
abbrev pub EndCause : LinkState → LinkState → LinkState → List Entry → Option Entry → End → Type 0
EndCause before old now done last end.Finished =
    AreAllDone before now done last
    × ((now.ended ≡ true) ⊎ Rose old.read_waits now.read_waits)
    × IfTold before.given now.given (λ since. ReadAll since done empty)
EndCause before old now done last end.NotKept =
    OfLast last (λ e. IsComplete before now done e × (is_short e ≡ false) × (e.body_error ≡ None)
    × ((e.keep ≡ false) ⊎ (is_until_close e ≡ true)))
EndCause before old now done last end.Overread =
    OfLast last (λ e. IsDone before now done e × (e.left.pipelining ≡ false)
    × IfTold before.given now.given (AfterRead (done ++ e ∷ []) (λ rest. 0 < length rest)))
EndCause before old now done last (end.Failed error) =
    (error.retry ≡ false) × FailureCause before old now done last error error.kind
