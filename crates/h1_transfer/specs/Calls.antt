-- What one call does to its link beside moving bytes: calls that moved none, faults, and the mark that
-- it was shut.
use Rattle.std.specs.Prelude.{◌≡◌, ◌+◌, ◌≤◌, Bool, true, false, Result, Ok, Err}
use Rattle.h1_transfer.specs.Words.{Poll, Ready, Pending, Error, ErrorType, LinkState, FlushStep, Filled, BodyRead, BodyStop, Sending, Delivery}
use Rattle.h1_error.specs.declared.error.ErrorType.TheVariants as kind
use Rattle.h1_link.specs.declared.link.FlushStep.TheVariants as flush
use Rattle.h1_transfer.specs.declared.receiving.Filled.TheVariants as f
use Rattle.h1_transfer.specs.declared.reading_body.BodyRead.TheVariants as b
use Rattle.h1_transfer.specs.declared.reading_body.BodyStop.TheVariants as stop
use Rattle.h1_transfer.specs.declared.sending.Sending.TheVariants as s
use Rattle.h1_transfer.specs.declared.delivering.Delivery.TheVariants as delivery

-- at most one link call moved no byte
abbrev pub OneOther : LinkState → LinkState → Type 0
OneOther before now = now.others ≤ before.others + 1

-- at most one link call moved no byte, and none where all that was asked for is done
abbrev pub CallsFew : LinkState → LinkState → Bool → Type 0
CallsFew before now true = now.others ≡ before.others
CallsFew before now false = OneOther before now

-- the fault of the link that an answer tells
pub data Fault : Type 0 where
  no_fault read_fault write_fault : Fault

-- a count of faults changes only where the answer tells that fault
abbrev pub FaultsBy : LinkState → LinkState → Fault → Type 0
FaultsBy before now no_fault =
    (now.read_faults ≡ before.read_faults) × (now.write_faults ≡ before.write_faults)
FaultsBy before now read_fault = now.write_faults ≡ before.write_faults
FaultsBy before now write_fault = now.read_faults ≡ before.read_faults

-- what a call that came to this answer did to the link beside moving bytes
pub record Called (before now : LinkState) (done : Bool) (fault : Fault) : Type 0 where
  pub others : CallsFew before now done
  pub faults : FaultsBy before now fault
  pub shut : now.shut ≡ before.shut

-- the answer of a call that is done
abbrev pub succeeds : {T : Type 0} → Poll (Result T Error) → Bool
succeeds (Ready (Ok value)) = true
succeeds (Ready (Err error)) = false
succeeds Pending = false

-- the fault that an error tells of a call that reads
abbrev pub read_fault_of_kind : ErrorType → Fault
read_fault_of_kind kind.ReadError = read_fault
read_fault_of_kind _ = no_fault

-- the fault that the answer of a call that reads tells
abbrev pub read_fault_of : {T : Type 0} → Poll (Result T Error) → Fault
read_fault_of (Ready (Ok value)) = no_fault
read_fault_of (Ready (Err error)) = read_fault_of_kind error.kind
read_fault_of Pending = no_fault

-- the fault that an error tells of a call that writes
abbrev pub write_fault_of_kind : ErrorType → Fault
write_fault_of_kind kind.WriteError = write_fault
write_fault_of_kind _ = no_fault

-- the fault that the answer of a call that writes tells
abbrev pub write_fault_of : {T : Type 0} → Poll (Result T Error) → Fault
write_fault_of (Ready (Ok value)) = no_fault
write_fault_of (Ready (Err error)) = write_fault_of_kind error.kind
write_fault_of Pending = no_fault

-- a read gave bytes
abbrev pub is_got : Filled → Bool
is_got f.Got = true
is_got _ = false

abbrev pub fault_of_fill : Filled → Fault
fault_of_fill f.Failed = read_fault
fault_of_fill _ = no_fault

-- the end of a body was read
abbrev pub is_done : BodyStop → Bool
is_done stop.Done = true
is_done _ = false

abbrev pub fault_of_stop : BodyStop → Fault
fault_of_stop stop.Failed = read_fault
fault_of_stop _ = no_fault

-- a part of a body was read, or its end
abbrev pub is_part : BodyRead → Bool
is_part (b.Piece bytes) = true
is_part (b.Stopped stop) = is_done stop

abbrev pub fault_of_read : BodyRead → Fault
fault_of_read (b.Piece bytes) = no_fault
fault_of_read (b.Stopped stop) = fault_of_stop stop

-- all that was owed is sent
abbrev pub is_all : Sending → Bool
is_all s.All = true
is_all _ = false

abbrev pub fault_of_send : Sending → Fault
fault_of_send s.Failed = write_fault
fault_of_send _ = no_fault

abbrev pub fault_of_flush : FlushStep → Fault
fault_of_flush flush.Failed = write_fault
fault_of_flush _ = no_fault

-- no flush is asked for
abbrev pub is_unflushed : Delivery → Bool
is_unflushed delivery.Sent = true
is_unflushed delivery.Flushed = false
