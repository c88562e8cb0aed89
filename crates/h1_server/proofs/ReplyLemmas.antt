-- Lemmas on the call that writes the head of a reply.
use Rattle.std.proofs.Common.{◌≡◌, ℕ, ◌≤◌, ◌<◌, List, [], ◌++◌, length, Bool, true, false, cond, IsTrue, Option, Some, None, IfNone, IfSome, Result, Ok, Err, refl, sym, ◌∙◌, append-nil}
use Rattle.h1_server.specs.Words.{Poll, Ready, Pending, Error, LinkState, ResponseView, flushes_head, TransferView, Outgoing, Head, Request}
use Rattle.h1_transfer.specs.BodyWrites.{IsTakenUp}
use Rattle.h1_transfer.specs.Writes.{Delivers, IsSameMessage}
use Rattle.h1_transfer.specs.Writing.{DeliveryAnswer, IsDelivered, Owes}
use Rattle.h1_transfer.specs.declared.delivering.Delivery.TheVariants as delivery
use Rattle.h1_transfer.proofs.WriteLemmas.{written}
use Rattle.h1_server.specs.HeaderWrites.{HeaderWrite, HeaderAnswer, HeaderTaking, IsHeaderStep, keep_after, is_passed_over, kept_by}
use Rattle.h1_server.specs.Persistence.{keep_flag}
use Rattle.h1_server.proofs.Words.{SessionView, session}
use Rattle.h1_server.specs.TakingUp.{TakesUpHeader, head_delivery}
use Rattle.h1_server.proofs.HoldsLemmas.{writes_in}

-- what a head asks for is what its framing asks for
flushed_if : (flushes : Bool) (now : LinkState) → IsDelivered (cond flushes delivery.Flushed delivery.Sent) now
    → IsTrue flushes → now.bytes_out ≤ now.flushed
flushed_if true now done asked = done
flushed_if false now done asked = absurd (cc)

owes_unless : (flushes : Bool) (owed : List ℕ) → Owes (cond flushes delivery.Flushed delivery.Sent) owed
    → flushes ≡ false → 0 < length owed
owes_unless true owed owes not_asked = absurd (cc)
owes_unless false owed owes not_asked = owes

header_answer : (before now : LinkState) (old new : Outgoing) (left : ℕ) (outcome : Poll (Result (Unit {0}) Error))
    → new.writer ≡ old.writer → DeliveryAnswer (head_delivery old.writer.framing) None before now new Head left outcome
    → HeaderAnswer before now new left outcome
header_answer before now old new left (Ready (Ok done)) same h =
    (h.0, rw same (flushed_if (flushes_head old.writer.framing) now h.1))
header_answer before now old new left Pending same h =
    (h.0, rw same (owes_unless (flushes_head old.writer.framing) new.owed h.1))
header_answer before now old new left (Ready (Err error)) same h = h

-- a header that can't be written stays
pub header_kept : {L C : Type 0} (state : L → LinkState) (old : SessionView L C)
    (mid : TransferView L) (request : Request) (flag : Bool) (now : ℕ) (error : Error)
    (header : Option ResponseView) → is_passed_over header old.reply.headed ≡ false
    → IfNone header ((Err error ≡ Ok (tt {0})) × (mid ≡ session.transfer old))
    → IfSome header
    (λ view. TakesUpHeader (session.transfer old) mid request flag view now (Err error))
    → HeaderWrite state old (session.put old mid) request header
    (kept_by header mid.outgoing.headed) now (Ready (Err error))
header_kept state old mid request flag now error None unpassed goes takes =
    absurd (never goes.0) where
      never : Err error ≡ Ok (tt {0}) → ⊥
      never same = cc
header_kept state old mid request flag now error (Some view) unpassed goes takes =
    rw (takes.0, unpassed) (record {
      same = refl;
      back = refl;
      error = error;
      answer = refl;
      cause = takes.1;
      retry = takes.2;
    })

-- a header that is taken up isn't left
taken_none : (old new : Outgoing) (request : Request) (flag : Bool) (now : ℕ) (taking : List ℕ)
    (header : Option ResponseView) → HeaderTaking old new request flag now taking header
    → kept_by header new.headed ≡ None
taken_none old new request flag now taking None takes = either new.headed where
  either : (headed : Bool) → kept_by None headed ≡ None
  either true = refl
  either false = refl
taken_none old new request flag now taking (Some view) takes = rw takes.headed refl

-- what a header call takes up before it delivers
header_taken : {L : Type 0} (old mid : TransferView L) (new : Outgoing) (request : Request) (was flag noted : Bool)
    (now : ℕ) (header : Option ResponseView)
    → noted ≡ keep_after header was flag → IsHeaderStep header old.outgoing.step
    → IfNone header (◌≡◌ {A = Result (Unit {0}) Error} (Ok tt) (Ok tt) × (mid ≡ old))
    → IfSome header (λ view. TakesUpHeader old mid request noted view now (Ok tt))
    → IsSameMessage mid.outgoing new
    → (taking : List ℕ) × HeaderTaking old.outgoing new request flag now taking header
    × (mid.outgoing.owed ≡ old.outgoing.owed ++ taking) × IsTakenUp old.outgoing mid.outgoing Head
    × (mid ≡ record old { outgoing = mid.outgoing })
header_taken old mid new request was flag noted now None noted_is free goes takes same = (
  [],
  (refl, rw goes.1 at same),
  rw goes.1 (sym (append-nil old.outgoing.owed)),
  rw goes.1 (record { step = free; refused = refl; sent = refl; write_since = refl }),
  rw goes.1 refl,
)
header_taken old mid new request was flag noted now (Some view) noted_is free goes takes same = (
  mid.outgoing.owed,
  record {
    version = takes.0.version;
    date = takes.0.date;
    is_date = takes.0.is_date;
    bytes = rw (← noted_is) takes.0.bytes;
    headed = same.headed ∙ takes.0.headed;
    writer = same.writer ∙ takes.0.writer;
    handed = same.handed ∙ takes.0.handed;
    write_since = same.write_since ∙ takes.0.write_since;
  },
  rw takes.3 refl,
  takes.1,
  takes.2,
)

-- a header call that wrote
pub header_written : {L C : Type 0} (state : L → LinkState) (old : SessionView L C) (mid new : TransferView L)
    (request : Request) (noted : Bool) (now : ℕ) (outcome : Poll (Result (Unit {0}) Error))
    (header : Option ResponseView)
    → noted ≡ keep_after header old.keep (keep_flag request.wish old.settings old.body)
    → IsHeaderStep header old.reply.step → old.reply.refused ≡ None
    → IfNone header
    (◌≡◌ {A = Result (Unit {0}) Error} (Ok tt) (Ok tt) × (mid ≡ session.transfer old))
    → IfSome header
    (λ view. TakesUpHeader (session.transfer old) mid request noted view now (Ok tt))
    → Delivers state (head_delivery mid.outgoing.writer.framing) mid new outcome
    → HeaderWrite state old (record (session.put old new) { keep = noted }) request header
    (kept_by header new.outgoing.headed) now outcome
header_written state old mid new request noted now outcome header noted_is free unrefused goes takes
    delivers =
    let before = session.transfer old in
    let flag = keep_flag request.wish old.settings old.body in
    let up = header_taken before mid new.outgoing request old.keep flag noted now header noted_is
    free goes takes delivers.same in
    let d = rw up.4 at delivers in
    let wrote = written state _ before new mid.outgoing up.0 Head outcome up.2 up.3 unrefused d in
    let taken = taken_none before.outgoing new.outgoing request flag now up.0 header up.1 in
    rw (taken, noted_is) (record {
      taking = up.0;
      left = d.left;
      writes = writes_in state (record old { keep = keep_after header old.keep flag }) new up.0 d.left wrote.0;
      takes = up.1;
      answer = header_answer _ _ mid.outgoing new.outgoing _ outcome d.same.writer wrote.1;
    })
