-- How what was read and written since goes on with each step.
use Rattle.std.proofs.Common.{◌≡◌, ℕ, Bool, ◌+◌, ◌-◌, ◌^◌, ◌<◌, ◌≤◌, ◌⊎◌, inl, inr, true, false, min, List, [], ◌∷◌, ◌++◌, length, drop, Option, Some, None, IfSome, option_map, refl, sym, ◌∙◌, ap, subst, arith, append-nil, append_assoc, length-append}
use Rattle.std.proofs.lemmas.List.{drop-append-le}
use Rattle.std.specs.Io.KnownBytes.{append_known}
use Rattle.h1_app.specs.Words.{LinkState, RoseBy, Later, ResponseView, HeadAt, body, reads, HasRead, framing, Framing, BodyReader, Decoded, ahead, Error, ErrorType, Received, SessionView, allowance, Request, Settings, Entry, wish, IfTold, ReadBehind, WroteBehind, AfterRead, AfterWrote, FlushedBy, written_of, FailureCause, EndCause, LacksSo, AreAllDone, End, no_memory, Payload, grown}
use Rattle.h1_link.proofs.Laters.{later_on}
use Rattle.h1_head.specs.RequestHead.{RefusedAt, NotYetAt}
use Rattle.h1_head.proofs.RequestHeadLemmas.{HeadAt-append}
use Rattle.h1_body.specs.Body.{payload_of}
use Rattle.h1_body.proofs.RunLemmas.{ahead-ahead}
use Rattle.h1_application.proofs.ReadLemmas.{budget_spent, within_spent}
use Rattle.h1_body.proofs.ReadLemmas.{read_none}
use Rattle.h1_error.specs.declared.error.ErrorType.TheVariants as kind
use Rattle.h1_error.specs.declared.progress.End.TheVariants as end
use Rattle.h1_app.proofs.Words.{MovesWithin, Accounted, ReadSo, ReadEntry, WroteSo, StopsBody, StopsWith, StoppedSo, StoodSo, SettledSo, IsNewEntry, ReadAhead, ReadHead}
use Rattle.h1_server.specs.Requests.{HeadRefusal}
use Rattle.h1_transcript.specs.Stream.{empty, begun, EndsAs}
use Rattle.h1_transcript.specs.Ends.{ReadAll}
use Rattle.h1_transcript.proofs.BehindLemmas.{told_map, read_on, read_map, wrote_same, flushed_on}

pub rose_later : (sent before old new : ℕ) → old ≤ new → RoseBy sent before old
    → RoseBy sent before new
rose_later sent before old new le h = omega arith

-- a reply that was flushed stays so
pub settled_later : (sent : Option ResponseView) (owed : Bool) (total : ℕ)
    (before now later : LinkState) → now.flushed ≤ later.flushed
    → IfSome sent (λ head. owed ≡ false → FlushedBy before now total)
    → IfSome sent (λ head. owed ≡ false → FlushedBy before later total)
settled_later None owed total before now later le h = tt
settled_later (Some head) owed total before now later le h =
    λ free. rose_later total before.bytes_out now.flushed later.flushed le (h free)

pub settled_on : (before now later : LinkState) (done : List Entry) (last : Option Entry)
    → now.flushed ≤ later.flushed
    → SettledSo before now done last → SettledSo before later done last
settled_on before now later done None le h = tt
settled_on before now later done (Some e) le h =
    settled_later e.sent_head e.owed (written_of done + e.written) before now later le h

-- a body that can't be read on stays so
pub stops_on : {L C : Type 0} (state : L → LinkState) (old new : SessionView L C) (payload : Payload)
    (piece : List ℕ) (k : ErrorType)
    → new.body.reader ≡ old.body.reader → new.received ≡ old.received
    → ((state old.link).ended ≡ true → (state new.link).ended ≡ true)
    → StopsBody state old payload k → StopsBody state new (grown piece payload) k
stops_on state old new payload piece kind.InvalidBody reader received ends h = rw reader h
stops_on state old new payload piece kind.ConnectionClosed reader received ends h =
    (ends h.0, rw (received, reader) h.1)
stops_on state old new payload piece kind.ReadError reader received ends h = rw (received, reader) h
stops_on state old new payload piece kind.ReadTimedout reader received ends h = rw (received, reader) h
stops_on state old new payload piece kind.ContentTooLarge reader received ends h =
    rw (received, reader) (longer (payload_of (reads old.body.reader old.received)) h)
  where
    longer : (rest : List ℕ) → payload.gathering.limit < length (payload.bytes ++ rest)
        → payload.gathering.limit < length ((payload.bytes ++ piece) ++ rest)
    longer rest h = omega (
      arith,
      h,
      length-append payload.bytes rest,
      length-append payload.bytes piece,
      length-append (payload.bytes ++ piece) rest,
    )
stops_on state old new payload piece kind.NoMemory reader received ends h = tt
stops_on state old new payload piece _ reader received ends h = absurd h

stops_so : {L C : Type 0} (state : L → LinkState) (old new : SessionView L C) (payload : Payload)
    (k : ErrorType) → new.body.reader ≡ old.body.reader → new.received ≡ old.received
    → ((state old.link).ended ≡ true → (state new.link).ended ≡ true)
    → StopsBody state old payload k → StopsBody state new payload k
stops_so state old new payload k reader received ends h =
    subst (λ bytes. StopsBody state new (record payload { bytes = bytes }) k) (append-nil payload.bytes)
    (stops_on state old new payload [] k reader received ends h)

pub stopped_on : {L C : Type 0} (state : L → LinkState) (old new : SessionView L C) (payload : Payload)
    (error : Option Error) → new.body ≡ old.body → new.received ≡ old.received
    → Later (state old.link) (state new.link)
    → IfSome error (StopsWith state old payload) → IfSome error (StopsWith state new payload)
stopped_on state old new payload None body received later h = tt
stopped_on state old new payload (Some error) body received later h = (
  stops_so state old new payload error.kind (ap (λ b. b.reader) body) received later.ended h.0,
  h.1,
)

-- where no exchange is last, all are over
pub all_done : {L C : Type 0} (state : L → LinkState) (before : LinkState)
    (session : SessionView L C) (done : List Entry)
    → Accounted state before session done None → AreAllDone before (state session.link) done None
all_done state before session done s = record {
  none = refl;
  written = told_map before.written (state session.link).written
      (AfterWrote done (λ rest. WroteSo rest session None
      × (session.reply.sent ≡ min (length rest) (2 ^ 64 - 1)))) (λ since. WroteBehind since done [])
      (λ since p. subst (λ xs. WroteBehind since done xs) p.2.0.0 p.1) s.wrote;
  flushed = s.flushed;
}

-- the bytes that are received while a head is awaited
pub told_ahead : {L C : Type 0} (session : SessionView L C) (done : List Entry)
    (before now : Option (List ℕ)) → session.request ≡ None
    → IfTold before now (AfterRead done (λ rest. ReadSo rest session None))
    → IfTold before now (AfterRead done (λ rest. rest ≡ session.received))
told_ahead session done before now none h =
    read_map done before now (λ rest. ReadAhead rest session.received session.request) (λ rest. rest ≡ session.received)
    (λ rest r. subst (λ x. ReadAhead rest session.received x) none r) h

-- what is read after what was read
pub read_decoded : (f : Framing) (used more payload later : List ℕ) (old new : BodyReader)
    → HasRead f used payload old → Decoded old new more later
    → HasRead f (used ++ more) (payload ++ later) new
read_decoded f used more payload later old new h d = record {
  read = (λ xs. ap (body f) (append_assoc used more xs) ∙ h.read (more ++ xs)
      ∙ ap (ahead payload (length used)) (d.reads xs)
      ∙ ahead-ahead payload later (length used) (length more) (reads new xs)
      ∙ ap (λ n. ahead (payload ++ later) n (reads new xs)) (sym (length-append used more)));
}

-- more of the last request's body was read
pub entry_on : {L C : Type 0} (old new : SessionView L C) (e f : Entry)
    (piece used payload rest : List ℕ) → f.head ≡ e.head → f.both ≡ e.both
    → f.body ≡ e.body ++ payload → old.received ++ piece ≡ used ++ new.received
    → Decoded old.body.reader new.body.reader used payload
    → ((front : List ℕ) → HasRead (framing f.head) (front ++ used) f.body new.body.reader
    → IfSome e.reply (λ reply. StoodSo e.how e old.body)
    → IfSome f.reply (λ reply. StoodSo f.how f new.body))
    → ReadEntry rest e old → ReadEntry (rest ++ piece) f new
entry_on old new e f piece used payload rest head both body bytes decoded stood p =
    let read : HasRead (framing f.head) (p.used ++ used) f.body new.body.reader =
    rw (head, body) (read_decoded (framing e.head) p.used used e.body payload old.body.reader
    new.body.reader p.decoded decoded) in
    record {
      n = p.n;
      used = p.used ++ used;
      head = rw (head, both) (HeadAt-append rest piece p.n e.head e.both p.head);
      bytes = drop-append-le p.n rest piece p.head.cuts.within ∙ ap (λ xs. xs ++ piece) p.bytes
          ∙ append_assoc p.used old.received piece ∙ ap (λ xs. p.used ++ xs) bytes
          ∙ sym (append_assoc p.used used new.received);
      decoded = read;
      stood = stood p.used read p.stood;
    }

-- a step that writes nothing goes on with what was read and written since
pub accounted_read : {L C : Type 0} (state : L → LinkState) (old new : SessionView L C)
    (last next : Option Entry) (piece : List ℕ) (before : LinkState) (done : List Entry)
    → Later (state old.link) (state new.link)
    → (state new.link).given ≡ append_known (state old.link).given piece
    → (state new.link).written ≡ append_known (state old.link).written [] → new.reply ≡ old.reply
    → ((rest : List ℕ) → ReadSo rest old last → ReadSo (rest ++ piece) new next)
    → ((rest : List ℕ) → WroteSo rest old last → WroteSo rest new next)
    → StoppedSo state new next → SettledSo before (state new.link) done next
    → Accounted state before old done last → Accounted state before new done next
accounted_read state old new last next piece before done later given written same reads writes
    stopped settled s = record {
      later = later_on before (state old.link) (state new.link) s.later later;
      read = read_on done before.given (state old.link).given (state new.link).given piece
          (λ rest. ReadSo rest old last) (λ rest. ReadSo rest new next) given reads s.read;
      wrote = wrote_same done before.written (state old.link).written (state new.link).written
          (λ rest. WroteSo rest old last × (old.reply.sent ≡ min (length rest) (2 ^ 64 - 1)))
          (λ rest. WroteSo rest new next × (new.reply.sent ≡ min (length rest) (2 ^ 64 - 1)))
          written (λ rest h. (writes rest h.0, rw same h.1)) s.wrote;
      stopped = stopped;
      flushed = flushed_on before (state old.link) (state new.link) 0 done later.flushed s.flushed;
      settled = settled;
      out = rw same (rose_later (written_of done + old.reply.sent) before.bytes_out _ _
          later.counts.bytes_out s.out);
    }

-- more was received, and no exchange was begun before
module _ {L C : Type 0} (state : L → LinkState) (old new : SessionView L C) (bytes : List ℕ)
    (budget left : ℕ) (before : LinkState) (done : List Entry)
    (r : Received (state old.link) (state new.link) old.received bytes budget left)
    (same : new.reply ≡ old.reply) (none : old.request ≡ None)
    (s : Accounted state before old done None) where
  accounted_more : (last : Option Entry) → ((rest : List ℕ) → rest ≡ bytes → ReadSo rest new last)
      → ((rest : List ℕ) → WroteSo rest old None → WroteSo rest new last)
      → StoppedSo state new last → SettledSo before (state new.link) done last
      → Accounted state before new done last
  accounted_more last reads writes stopped settled =
      accounted_read state old new None last r.piece before done r.moved.later r.moved.given
      r.moved.written same
      (λ rest h. let all : rest ≡ old.received = subst (ReadAhead rest old.received) none h in
      reads (rest ++ r.piece) (ap (λ xs. xs ++ r.piece) all ∙ sym r.bytes)) writes stopped settled s

  -- a session that only received, with no exchange begun
  pub accounted_received : new.received ≡ bytes → new.request ≡ None
      → Accounted state before new done None
  accounted_received got still =
      accounted_more None
      (λ since e. subst (λ x. ReadAhead since new.received x) (sym still) (e ∙ sym got))
      (λ since h. rw same h) tt tt

  -- a head that was read and begins no exchange
  pub accounted_headed : (used : ℕ) (request : Request)
      → HeadAt bytes used request.header request.both
      → request.wish ≡ wish request.header request.both → new.received ≡ drop used bytes
      → new.request ≡ Some request → Accounted state before new done None
  accounted_headed used request head wishes rest is =
      accounted_more None
      (λ since e. subst (λ x. ReadAhead since new.received x) (sym is)
      (subst (λ xs. ReadHead xs new.received request) (sym e)
      (record { n = used; head = head; bytes = sym rest; wish = wishes })))
      (λ since h. rw same h) tt tt

  -- a head that was read begins the exchange
  pub accounted_begun : (used : ℕ) (request : Request) (settings : Settings) (e : Entry)
      → HeadAt bytes used request.header request.both → new.received ≡ drop used bytes
      → ((rest : List ℕ) → reads new.body.reader rest ≡ body (framing request.header) rest)
      → IsNewEntry request settings e → Accounted state before new done (Some e)
  accounted_begun used request settings e head rest reader is =
      let headed : HeadAt bytes used e.head e.both = rw (is.head, is.both) head in
      let read : HasRead (framing e.head) [] e.body new.body.reader =
      rw (is.head, is.body) (read_none (framing request.header) new.body.reader reader) in
      accounted_more (Some e)
      (λ since eq. subst (λ xs. ReadEntry xs e new) (sym eq) (record {
        n = used;
        used = [];
        head = headed;
        bytes = sym rest;
        decoded = read;
        stood = rw is.reply tt;
      }))
      (λ since h. rw (same, is.sent_body, is.sent_head, h.0, h.1) refl) (rw is.body_error tt)
      (rw is.sent_head tt)

-- received bytes that begin no head are nothing, or a head that is begun
pub lacks_head : (done : List Entry) (since bytes : List ℕ) → ReadBehind since done bytes
    → NotYetAt bytes → ReadAll since done empty ⊎ ReadAll since done begun
lacks_head done since [] read h = inl ([], read, refl)
lacks_head done since (b ∷ bytes) read h = inr (b ∷ bytes, read, (h, omega arith))

-- the same of all that was told
pub told_lacks : (before now : LinkState) (done : List Entry) (bytes : List ℕ)
    → AreAllDone before now done None
    → IfTold before.given now.given (AfterRead done (λ rest. rest ≡ bytes)) → NotYetAt bytes
    → LacksSo before now done None
told_lacks before now done bytes all told h = (
  all,
  told_map before.given now.given (AfterRead done (λ rest. rest ≡ bytes))
      (λ since. ReadAll since done empty ⊎ ReadAll since done begun)
      (λ since p. lacks_head done since bytes (subst (λ xs. ReadBehind since done xs) p.2 p.1) h) told,
)

-- a head read that failed has its cause
pub head_failed : (before old now : LinkState) (done : List Entry) (bytes : List ℕ) (error : Error)
    (k : ErrorType) → AreAllDone before now done None
    → IfTold before.given now.given (AfterRead done (λ rest. rest ≡ bytes))
    → HeadRefusal old now bytes k → FailureCause before old now done None error k
head_failed before old now done bytes error (kind.InvalidHTTPHeader fault) all told h =
    (all, read_map done before.given now.given _ _ (λ rest e. subst (λ x. RefusedAt x fault) (sym e) h) told)
head_failed before old now done bytes error kind.ConnectionClosed all told h =
    let lacks = read_map done before.given now.given (λ rest. rest ≡ bytes) (λ rest. EndsAs rest begun)
    (λ rest e. subst (λ x. NotYetAt x × (0 < length x)) (sym e) (h.1, h.2)) told in
    (h.0, inl (all, lacks))
head_failed before old now done bytes error kind.ReadError all told h =
    inl (refl, h.0, told_lacks before now done bytes all told h.1)
head_failed before old now done bytes error kind.ReadTimedout all told h =
    let lacks = read_map done before.given now.given (λ rest. rest ≡ bytes) (λ rest. EndsAs rest begun)
    (λ rest e. subst (λ x. NotYetAt x × (0 < length x)) (sym e) (h.1, h.2)) told in
    inl (h.0, all, lacks)
head_failed before old now done bytes error kind.NoMemory all told h = tt
head_failed before old now done bytes error _ all told h = absurd h

-- out of memory, a connection may end at any moment
pub memory_ends : (before old now : LinkState) (done : List Entry) (last : Option Entry)
    (reason : End) → reason ≡ end.Failed no_memory → EndCause before old now done last reason
memory_ends before old now done last reason is = rw is (refl, tt)

-- a call that only received went within its budget
pub moves_received : {L C : Type 0} (state : L → LinkState) (old new : SessionView L C)
    (bytes : List ℕ) (left : ℕ)
    → Received (state old.link) (state new.link) old.received bytes (allowance old.budget) left
    → new.budget ≡ option_map (λ _. left) old.budget → new.context ≡ old.context
    → MovesWithin state old new
moves_received state old new bytes left r e context = record {
  read = r.piece;
  wrote = [];
  spent = allowance old.budget - left;
  moved = r.moved;
  budget = budget_spent old.budget new.budget left r.within e;
  within = within_spent old.budget left;
  context = context;
}
