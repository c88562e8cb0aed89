-- What a connection read and wrote since its link had a state: the bytes of the link, taken apart
-- into the exchanges and what is still to be used or written.
use Rattle.std.specs.Prelude.{◌≡◌, ℕ, ◌+◌, ◌-◌, ◌^◌, List, [], ◌++◌, length, drop, min, true, false, Option, Some, None, IfSome, IsSome}
use Rattle.h1_app.specs.Words.{Error, ErrorType, LinkState, RoseBy, Later, HeadAt, broken, is_whole, BodyState, How, Open, Whole, Failed, reads, wish, HasRead, WriterView, end_bytes, framing, Lacks, SessionView, Request, Entry, AfterRead, AfterWrote, DoneBehind, FlushedBy, IsBelow, written_of, render, IfTold, IsPast, Payload, payload_in}
use Rattle.h1_transfer.specs.BodyErrors.{SaysOfBody}

-- how the body stood when the application replied, of a body that is read on after the reply
abbrev pub StoodSo : How → Entry → BodyState → Type 0
StoodSo Whole e body =
    (e.body_error ≡ None) × (e.handed ≡ length e.body) × (is_whole (reads body.reader []) ≡ true)
StoodSo Open e body = (e.body_error ≡ None) × IsBelow (framing e.head) e.handed
StoodSo Failed e body = IsSome e.body_error

-- the head of the request is used, and a part of its body became the payload
pub record ReadEntry {L C : Type 0} (since : List ℕ) (e : Entry)
    (session : SessionView L C) : Type 0 where
  pub n : ℕ
  pub used : List ℕ
  pub head : HeadAt since n e.head e.both
  pub bytes : drop n since ≡ used ++ session.received
  pub decoded : HasRead (framing e.head) used e.body session.body.reader
  pub stood : IfSome e.reply (λ reply. StoodSo e.how e session.body)

-- a head that no exchange was begun for: it is used, and its wish is the request's
pub record ReadHead (since received : List ℕ) (request : Request) : Type 0 where
  pub n : ℕ
  pub head : HeadAt since n request.header request.both
  pub bytes : drop n since ≡ received
  pub wish : request.wish ≡ wish request.header request.both

-- with no exchange begun, the bytes are all received and not used, but for a head that was read
abbrev pub ReadAhead : List ℕ → List ℕ → Option Request → Type 0
ReadAhead since received None = since ≡ received
ReadAhead since received (Some request) = ReadHead since received request

abbrev pub ReadSo : {L C : Type 0} → List ℕ → SessionView L C → Option Entry → Type 0
ReadSo since session None = ReadAhead since session.received session.request
ReadSo since session (Some e) = ReadEntry since e session

-- what is still to be taken up of a reply whose body is known
abbrev pub coming : Option (List ℕ) → WriterView → List ℕ
coming None writer = []
coming (Some sent) writer = end_bytes writer

abbrev pub WroteSo : {L C : Type 0} → List ℕ → SessionView L C → Option Entry → Type 0
WroteSo since session None = (since ≡ []) × (session.reply.owed ≡ [])
WroteSo since session (Some e) =
    since ++ session.reply.owed ++ coming e.sent_body session.reply.writer ≡ render e

-- what an error of this kind says of a body that can't be read on
abbrev pub StopsBody : {L C : Type 0} → (L → LinkState) → SessionView L C → Payload → ErrorType
    → Type 0
StopsBody state session payload kind = SaysOfBody (reads session.body.reader [] ≡ broken [])
    (((state session.link).ended ≡ true) × Lacks session.body.reader session.received)
    (Lacks session.body.reader session.received) (Lacks session.body.reader session.received)
    (IsPast payload.gathering.limit payload.bytes (reads session.body.reader session.received))
    (Unit {0}) kind

-- the error of the request's body has its cause, and isn't for a retry
abbrev pub StopsWith : {L C : Type 0} → (L → LinkState) → SessionView L C → Payload → Error → Type 0
StopsWith state session payload error =
    StopsBody state session payload error.kind × (error.retry ≡ false)

abbrev pub StoppedSo : {L C : Type 0} → (L → LinkState) → SessionView L C → Option Entry → Type 0
StoppedSo state session None = Unit {0}
StoppedSo state session (Some e) = IfSome e.body_error (StopsWith state session (payload_in e))

-- a reply of which nothing is owed any more was flushed
abbrev pub SettledSo : LinkState → LinkState → List Entry → Option Entry → Type 0
SettledSo before now done None = Unit {0}
SettledSo before now done (Some e) =
    IfSome e.sent_head (λ head. e.owed ≡ false → FlushedBy before now (written_of done + e.written))

-- The bytes given are the requests of the exchanges that ended, and after them the last request and
-- what is received; the bytes written are their replies, and after them the last reply but for what
-- is owed and what is to be taken up.
pub record Accounted {L C : Type 0} (state : L → LinkState) (before : LinkState)
    (session : SessionView L C) (done : List Entry) (last : Option Entry) : Type 0 where
  pub later : Later before (state session.link)
  pub read : IfTold before.given (state session.link).given
      (AfterRead done (λ rest. ReadSo rest session last))
  pub wrote : IfTold before.written (state session.link).written
      (AfterWrote done (λ rest. WroteSo rest session last
      × (session.reply.sent ≡ min (length rest) (2 ^ 64 - 1))))
  pub stopped : StoppedSo state session last
  pub flushed : DoneBehind (FlushedBy before (state session.link)) 0 done
  pub settled : SettledSo before (state session.link) done last
  pub out : RoseBy (written_of done + session.reply.sent) before.bytes_out
      (state session.link).bytes_out
