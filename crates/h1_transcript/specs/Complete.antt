-- Valid input, and what a connection makes of it (RFC 9112, section 9.3.2).
use Rattle.std.specs.Prelude.{◌≡◌, ◌≢◌, ℕ, ◌≤◌, List, [], ◌∷◌, ◌++◌, length, true, false, Option, Some, None, IfSome}
use Rattle.h1_transcript.specs.Words.{AllByRecursion, ReadError, End, Rose, LinkState, wish, payload_of, Entry, Whole}
use Rattle.h1_error.specs.declared.error.ErrorType.TheVariants.{NoMemory}
use Rattle.h1_error.specs.declared.progress.End.TheVariants as end
use Rattle.h1_transcript.specs.Behind.{is_until_close}
use Rattle.h1_transcript.specs.Ends.{AreAllDone}
use Rattle.h1_transcript.specs.Exchange.{is_short}
use Rattle.h1_transcript.specs.Stream.{Message, Parses, empty}
use Rattle.h1_transfer.specs.Deadline.{is_timeout}

-- a request that wishes the connection to be kept
abbrev pub IsWished : Message → Type 0
IsWished m = wish m.head m.both ≡ true

-- the bytes are these requests, each whole, and each wishes the connection to be kept
pub record IsValid (input : List ℕ) (requests : List Message) : Type 0 where
  pub parses : Parses input requests empty
  pub wished : AllByRecursion IsWished requests

-- since the first state the link gave a front of the input, and all of it where it ended
pub record GaveOf (input : List ℕ) (before now : LinkState) : Type 0 where
  pub front : List ℕ
  pub since : List ℕ
  pub rest : List ℕ
  pub before_is : before.given ≡ Some front
  pub now_is : now.given ≡ Some (front ++ since)
  pub input_is : input ≡ since ++ rest
  pub ended : now.ended ≡ true → rest ≡ []

-- The application keeps the connection: it reads the body to its end and leaves keep-alive and
-- pipelining on, its reply has a length and all of it, and no read of the body failed.
pub record KeepsOn (e : Entry) : Type 0 where
  pub replied : IfSome e.reply (λ reply. (e.how ≡ Whole) × (e.left.keep_off ≡ false)
      × (e.left.pipelining ≡ true))
  pub long : is_short e ≡ false
  pub closes : is_until_close e ≡ false
  pub unfailed : IfSome e.body_error (λ error. error.kind ≢ ReadError)

-- the payload is within its limit
abbrev pub Fits : ℕ → Message → Type 0
Fits limit m = length (payload_of m.body) ≤ limit

-- so many requests are within the limit
abbrev pub AreWithin : Option ℕ → ℕ → Type 0
AreWithin None count = Unit {0}
AreWithin (Some limit) count = count ≤ limit

-- no call of the link failed between these states
pub record NoFault (old now : LinkState) : Type 0 where
  pub reads : Rose old.read_faults now.read_faults → ⊥
  pub writes : Rose old.write_faults now.write_faults → ⊥

-- the reason isn't that a limit of time was reached
abbrev pub IsInTime : LinkState → End → Type 0
IsInTime now end.Finished = now.ended ≡ true
IsInTime now (end.Failed error) = is_timeout error.kind ≡ false
IsInTime now _ = Unit {0}

-- the exchanges are these requests, all of them and each whole
abbrev pub AreServed : List Entry → List Message → Type 0
AreServed [] [] = Unit {0}
AreServed [] (m ∷ more) = ⊥
AreServed (e ∷ later) [] = ⊥
AreServed (e ∷ later) (m ∷ more) =
    (e.head ≡ m.head) × (e.both ≡ m.both) × (e.body ≡ payload_of m.body) × AreServed later more

-- memory ran out
abbrev pub IsOutOfMemory : End → Type 0
IsOutOfMemory (end.Failed error) = error.kind ≡ NoMemory
IsOutOfMemory _ = ⊥

-- every request is served and every reply complete, or there was no memory
abbrev pub ServesAll : LinkState → LinkState → List Message → List Entry → Option Entry → End
    → Type 0
ServesAll before now requests done last end.Finished =
    AreAllDone before now done last × AreServed done requests
ServesAll before now requests done last (end.Failed error) = error.kind ≡ NoMemory
ServesAll before now requests done last _ = ⊥
