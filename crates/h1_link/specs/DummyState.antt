-- What contracts see of a link that gives fixed bytes and keeps nothing.
use Rattle.std.specs.Prelude.{◌≡◌, refl, ℕ, ◌-◌, ◌≤◌, ◌<◌, min, List, length, take, Some, nat_lt, if◌then◌else◌}
use Rattle.std.proofs.Common.{◌∙◌}
use Rattle.h1_link.specs.LinkState.{LinkState}
use Rattle.h1_link.specs.declared.link.ReadStep.{ReadStep}
use Rattle.h1_link.specs.declared.link.ReadStep.TheVariants.{Got, NotReady}

pub record DummyState : Type 0 where
  -- what every link has
  pub state : LinkState
  -- all bytes that its reads give
  pub bytes : List ℕ

abbrev pub dummy_state_of : LinkState → List ℕ → ℕ → DummyState
dummy_state_of tally bytes next = record {
  state = record tally { given = Some (take next bytes); bytes_in = next };
  bytes = bytes;
}

-- the bytes given are the first ones, and a read waited only where all were given
pub record DummyRule (link : DummyState) : Type 0 where
  pub within : link.state.bytes_in ≤ length link.bytes
  pub given : link.state.given ≡ Some (take link.state.bytes_in link.bytes)
  pub waits : 0 < link.state.read_waits → link.state.bytes_in ≡ length link.bytes

-- a read gives as many bytes as are left and fit, and waits for ever once none is left
abbrev pub dummy_read_answer : DummyState → ℕ → ReadStep
dummy_read_answer link room =
    if nat_lt link.state.bytes_in (length link.bytes)
    then Got (min room (length link.bytes - link.state.bytes_in))
    else NotReady

pub record SameBytes (old new : DummyState) : Type 0 where
  pub bytes : new.bytes ≡ old.bytes

pub bytes_itself : (link : DummyState) → SameBytes link link
bytes_itself link = record { bytes = refl }

pub bytes_on : (a b c : DummyState) → SameBytes a b → SameBytes b c → SameBytes a c
bytes_on a b c first second = record { bytes = second.bytes ∙ first.bytes }
