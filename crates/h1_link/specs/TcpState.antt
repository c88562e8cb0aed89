-- What contracts see of a link over TCP (RFC 9112, section 9): what every link has, and what its
-- stream tells of itself.
use Rattle.std.specs.Prelude.{◌≡◌, ℕ, List, [], take, Option}
use Rattle.std.specs.Io.KnownBytes.{Appends, Consumes, IsAtEnd, Keeps, append_known}
use Rattle.h1_link.specs.LinkState.{LinkState, fresh_state}
use Rattle.h1_link.specs.declared.link.ReadStep.{ReadStep}
use Rattle.h1_link.specs.declared.link.ReadStep.TheVariants as read
use Rattle.h1_link.specs.declared.link.WriteStep.{WriteStep}
use Rattle.h1_link.specs.declared.link.WriteStep.TheVariants as write
use Rattle.h1_link.specs.declared.link.FlushStep.{FlushStep}
use Rattle.h1_link.specs.declared.link.FlushStep.TheVariants as flush

pub record TcpState : Type 0 where
  -- what every link has
  pub state : LinkState
  -- the bytes that the stream's reads have still to give, where the stream tells them
  pub left : Option (List ℕ)
  -- the bytes that the stream's writes took, where the stream tells them
  pub sent : Option (List ℕ)
  -- the bytes that the link took and the stream didn't yet
  pub held : List ℕ

-- a link over a stream that tells these bytes, before its first call
abbrev pub new_tcp_state : Option (List ℕ) → Option (List ℕ) → TcpState
new_tcp_state left sent = record { state = fresh_state; left = left; sent = sent; held = [] }

-- all that the stream took, and what it is still to take
abbrev pub contents : TcpState → Option (List ℕ)
contents link = append_known link.sent link.held

-- a read hands out the bytes that the stream gave, no other and none less, and says that the peer
-- sends no further byte where the stream gives none
abbrev pub ReadsStream : TcpState → TcpState → List ℕ → ReadStep → Type 0
ReadsStream old new buffer (read.Got n) = Consumes old.left new.left (take n buffer)
ReadsStream old new buffer read.End = Consumes old.left new.left [] × IsAtEnd new.left
ReadsStream old new buffer read.NotReady = Keeps old.left new.left
ReadsStream old new buffer read.Failed = Keeps old.left new.left
ReadsStream old new buffer read.NoMemory = Keeps old.left new.left

-- the bytes that a write took follow all that were taken before, and a write that took none adds
-- none
abbrev pub WritesStream : TcpState → TcpState → List ℕ → WriteStep → Type 0
WritesStream old new piece (write.Took n) = Appends (contents old) (contents new) (take n piece)
WritesStream old new piece write.NotReady = Keeps (contents old) (contents new)
WritesStream old new piece write.Failed = Keeps (contents old) (contents new)
WritesStream old new piece write.NoMemory = Keeps (contents old) (contents new)

-- once a flush is done the stream took all
abbrev pub HoldsNothing : TcpState → FlushStep → Type 0
HoldsNothing new flush.Done = new.held ≡ []
HoldsNothing new flush.NotReady = Unit {0}
HoldsNothing new flush.Failed = Unit {0}
