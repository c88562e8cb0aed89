-- Lemmas on a link's state between two moments.
use Rattle.std.proofs.Common.{◌≡◌, ℕ, ◌≤◌, Bool, true, false, cond, eqb, List, [], ◌++◌, take, length, Option, Some, None, IsTrue, refl, sym, ap, ◌∙◌, append-nil, append_assoc, arith}
use Rattle.std.specs.Io.KnownBytes.{append_known}
use Rattle.h1_link.specs.Counts.{raised, RoseBy}
use Rattle.h1_link.specs.LinkState.{LinkState}
use Rattle.h1_link.specs.Later.{Grew, NoCountFalls, Later, KeepsBytes, CallsOnce}
use Rattle.h1_link.specs.Steps.{after_read, after_write, after_flush, after_shutdown, after_no_byte, after_bytes}
use Rattle.h1_link.specs.declared.link.ReadStep.{ReadStep}
use Rattle.h1_link.specs.declared.link.ReadStep.TheVariants as read
use Rattle.h1_link.specs.declared.link.WriteStep.{WriteStep}
use Rattle.h1_link.specs.declared.link.WriteStep.TheVariants as write
use Rattle.h1_link.specs.declared.link.FlushStep.{FlushStep}
use Rattle.h1_link.specs.declared.link.FlushStep.TheVariants as flush

-- nothing more after known bytes leaves them
pub append_known-nil : (known : Option (List ℕ)) → append_known known [] ≡ known
append_known-nil None = refl
append_known-nil (Some bytes) = ap Some (append-nil bytes)

-- two pieces after known bytes are one
pub append_known-on : (known : Option (List ℕ)) (a b : List ℕ)
    → append_known (append_known known a) b ≡ append_known known (a ++ b)
append_known-on None a b = refl
append_known-on (Some bytes) a b = ap Some (append_assoc bytes a b)

pub grew_itself : (known : Option (List ℕ)) → Grew known known
grew_itself known = ([], sym (append_known-nil known))

pub grew_same : (old new : Option (List ℕ)) → new ≡ old → Grew old new
grew_same old new same = ([], same ∙ sym (append_known-nil old))

pub grew_on : (a b c : Option (List ℕ)) → Grew a b → Grew b c → Grew a c
grew_on a b c first second =
    let moved = ap (λ known. append_known known second.0) first.1 in
    (first.0 ++ second.0, second.1 ∙ moved ∙ append_known-on a first.0 second.0)

pub later_itself : (s : LinkState) → Later s s
later_itself s = record {
  given = grew_itself s.given;
  written = grew_itself s.written;
  ended = λ h. h;
  flushed = omega arith;
  shut = λ h. h;
  counts = omega arith;
}

pub later_on : (a b c : LinkState) → Later a b → Later b c → Later a c
later_on a b c first second = record {
  given = grew_on _ _ _ first.given second.given;
  written = grew_on _ _ _ first.written second.written;
  ended = λ h. second.ended (first.ended h);
  flushed = omega arith;
  shut = λ h. second.shut (first.shut h);
  counts = omega arith;
}

-- the same state is a later one
pub later_same : (old new : LinkState) → new ≡ old → Later old new
later_same old new same = rw same (later_itself old)

-- a state that keeps its bytes is a later one
pub later_keeps : (old new : LinkState) → KeepsBytes old new → Later old new
later_keeps old new kept = record {
  given = grew_same _ _ kept.given;
  written = grew_same _ _ kept.written;
  ended = λ h. rw kept.ended h;
  flushed = omega arith;
  shut = kept.shut;
  counts = kept.counts;
}

pub keeps_itself : (s : LinkState) → KeepsBytes s s
keeps_itself s = record {
  given = refl;
  written = refl;
  ended = refl;
  flushed = refl;
  shut = λ h. h;
  counts = omega arith;
}

pub keeps_on : (a b c : LinkState) → KeepsBytes a b → KeepsBytes b c → KeepsBytes a c
keeps_on a b c first second = record {
  given = second.given ∙ first.given;
  written = second.written ∙ first.written;
  ended = second.ended ∙ first.ended;
  flushed = second.flushed ∙ first.flushed;
  shut = λ h. second.shut (first.shut h);
  counts = omega arith;
}

-- a state with the same bytes, whose counts didn't fall
counted : (old new : LinkState) → new.given ≡ old.given → new.written ≡ old.written
    → (IsTrue old.ended → IsTrue new.ended) → old.flushed ≤ new.flushed
    → (IsTrue old.shut → IsTrue new.shut) → NoCountFalls old new → Later old new
counted old new given written ended flushed shut counts = record {
  given = grew_same _ _ given;
  written = grew_same _ _ written;
  ended = ended;
  flushed = flushed;
  shut = shut;
  counts = counts;
}

pub later_read : (s : LinkState) (buffer : List ℕ) (answer : ReadStep)
    → Later s (after_read s buffer answer)
later_read s buffer (read.Got n) = record {
  given = (take n buffer, refl);
  written = grew_itself s.written;
  ended = λ h. h;
  flushed = omega arith;
  shut = λ h. h;
  counts = omega arith;
}
later_read s buffer read.End = counted _ _ refl refl (λ _. refl) (omega arith) (λ h. h) (omega arith)
later_read s buffer read.NotReady = counted _ _ refl refl (λ h. h) (omega arith) (λ h. h) (omega arith)
later_read s buffer read.Failed = counted _ _ refl refl (λ h. h) (omega arith) (λ h. h) (omega arith)
later_read s buffer read.NoMemory = counted _ _ refl refl (λ h. h) (omega arith) (λ h. h) (omega arith)

later_no_byte : (s : LinkState) (piece : List ℕ) → Later s (after_no_byte s piece)
later_no_byte s piece =
    let faulty : Bool → LinkState = λ empty. record s {
      write_faults = cond empty s.write_faults (raised s.write_faults 1);
      others = raised s.others 1;
    } in
    elim (eqb (length piece) 0) as (λ empty. Later s (faulty empty)) [
      | true ↦ counted _ _ refl refl (λ h. h) (omega arith) (λ h. h) (omega arith)
      | false ↦ counted _ _ refl refl (λ h. h) (omega arith) (λ h. h) (omega arith)
    ]

later_bytes : (s : LinkState) (bytes : List ℕ) (n : ℕ) → Later s (after_bytes s bytes n)
later_bytes s bytes n = record {
  given = grew_itself s.given;
  written = (bytes, refl);
  ended = λ h. h;
  flushed = omega arith;
  shut = λ h. h;
  counts = omega arith;
}

pub later_write : (s : LinkState) (piece : List ℕ) (answer : WriteStep)
    → Later s (after_write s piece answer)
later_write s piece (write.Took n) =
    let taken : LinkState = after_bytes s (take n piece) n in
    elim (eqb n 0) as (λ none. Later s (cond none (after_no_byte s piece) taken)) [
      | true ↦ later_no_byte s piece
      | false ↦ later_bytes s (take n piece) n
    ]
later_write s piece write.NotReady = counted _ _ refl refl (λ h. h) (omega arith) (λ h. h) (omega arith)
later_write s piece write.Failed = counted _ _ refl refl (λ h. h) (omega arith) (λ h. h) (omega arith)
later_write s piece write.NoMemory = counted _ _ refl refl (λ h. h) (omega arith) (λ h. h) (omega arith)

pub later_flush : (s : LinkState) (answer : FlushStep) → Later s (after_flush s answer)
later_flush s flush.Done = counted _ _ refl refl (λ h. h) (omega arith) (λ h. h) (omega arith)
later_flush s flush.NotReady = counted _ _ refl refl (λ h. h) (omega arith) (λ h. h) (omega arith)
later_flush s flush.Failed = counted _ _ refl refl (λ h. h) (omega arith) (λ h. h) (omega arith)

pub later_shutdown : (s : LinkState) → Later s (after_shutdown s)
later_shutdown s = counted _ _ refl refl (λ h. h) (omega arith) (λ _. refl) (omega arith)

-- each call is one call
pub calls_read : (s : LinkState) (buffer : List ℕ) (answer : ReadStep)
    → CallsOnce s (after_read s buffer answer)
calls_read s buffer (read.Got n) = omega arith
calls_read s buffer read.End = omega arith
calls_read s buffer read.NotReady = omega arith
calls_read s buffer read.Failed = omega arith
calls_read s buffer read.NoMemory = omega arith

pub calls_write : (s : LinkState) (piece : List ℕ) (answer : WriteStep)
    → CallsOnce s (after_write s piece answer)
calls_write s piece (write.Took n) =
    let taken : LinkState = after_bytes s (take n piece) n in
    elim (eqb n 0) as (λ none. CallsOnce s (cond none (after_no_byte s piece) taken)) [
      | true ↦ omega arith
      | false ↦ omega arith
    ]
calls_write s piece write.NotReady = omega arith
calls_write s piece write.Failed = omega arith
calls_write s piece write.NoMemory = omega arith

pub calls_flush : (s : LinkState) (answer : FlushStep) → CallsOnce s (after_flush s answer)
calls_flush s flush.Done = omega arith
calls_flush s flush.NotReady = omega arith
calls_flush s flush.Failed = omega arith

pub calls_shutdown : (s : LinkState) → CallsOnce s (after_shutdown s)
calls_shutdown s = omega arith

-- a rise stays along later states
pub rose_read_waits : (by : ℕ) (a b c d : LinkState) → Later a b
    → RoseBy by b.read_waits c.read_waits → Later c d → RoseBy by a.read_waits d.read_waits
rose_read_waits by a b c d before rise after = omega arith

pub rose_write_waits : (by : ℕ) (a b c d : LinkState) → Later a b
    → RoseBy by b.write_waits c.write_waits → Later c d → RoseBy by a.write_waits d.write_waits
rose_write_waits by a b c d before rise after = omega arith

pub rose_read_faults : (by : ℕ) (a b c d : LinkState) → Later a b
    → RoseBy by b.read_faults c.read_faults → Later c d → RoseBy by a.read_faults d.read_faults
rose_read_faults by a b c d before rise after = omega arith

pub rose_write_faults : (by : ℕ) (a b c d : LinkState) → Later a b
    → RoseBy by b.write_faults c.write_faults → Later c d → RoseBy by a.write_faults d.write_faults
rose_write_faults by a b c d before rise after = omega arith

pub rose_moves : (by : ℕ) (a b c d : LinkState) → Later a b
    → RoseBy by b.moves c.moves → Later c d → RoseBy by a.moves d.moves
rose_moves by a b c d before rise after = omega arith
