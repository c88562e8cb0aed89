-- A client's script between two of its lines: its session, and what was said of the request and isn't
-- handed in yet.
use Rattle.std.specs.Prelude.{◌≡◌, ℕ, Bool, false, List, [], ◌∷◌, ◌++◌, length, true, Option, Some, None, unwrap_or}
use Rattle.h1_head.specs.Views.{RequestView}
use Rattle.h1_link.specs.LinkState.{LinkState}
use Rattle.h1_link.specs.MemState.{MemState, new_mem_state}
use Rattle.h1_link.specs.declared.memory.gate.Gate.TheVariants as gate
use Rattle.h1_words.specs.declared.command.Command.{Command}
use Rattle.h1_words.specs.declared.command.Command.TheVariants as command
use Rattle.h1_client.specs.ClientView.{ClientView, IsNewSession}
use Rattle.h1_client.specs.Settings.{new_settings}
use Rattle.h1_client.specs.declared.settings.Settings.{Settings}
use Rattle.h1_fetch.specs.declared.scripted.Scripted.{Scripted}
use Rattle.h1_fetch.specs.declared.scripted.TheConstants.{SCRIPT_TIMEOUT}

pub record State : Type 0 where
  pub session : ClientView MemState
  pub head : Option RequestView
  pub pieces : List (List ℕ)
  -- the end of the body was said, and it was written
  pub ends : Bool
  pub ended : Bool

abbrev pub state_of : Scripted → State
state_of scripted = record {
  session = scripted.session;
  head = scripted.head;
  pieces = scripted.pieces.items;
  ends = scripted.ends;
  ended = scripted.ended;
}

-- what every link has, of a link in memory
abbrev pub link_state : MemState → LinkState
link_state link = link.state

-- a read or a write may wait for so long
abbrev pub script_settings : Settings
script_settings =
    record new_settings { read_timeout = Some SCRIPT_TIMEOUT; write_timeout = Some SCRIPT_TIMEOUT }

-- before the first line: a new session over a new link, and nothing is said
pub record IsFirst (s : State) : Type 0 where
  pub made : ClientView MemState
  pub new : IsNewSession new_mem_state new_settings made
  pub session : s.session ≡ record made { settings = script_settings }
  pub head : s.head ≡ None
  pub pieces : s.pieces ≡ []
  pub ends : s.ends ≡ false
  pub ended : s.ended ≡ false

-- the link once a line set it; a line that sets none leaves it as it is
abbrev pub link_behind : Command → MemState → MemState
link_behind (command.Give bytes) m =
    record m { put = m.put ++ bytes; reads_noted = m.state.read_waits }
link_behind command.End m = record m {
  end_at = Some (unwrap_or m.end_at (length m.put));
  reads_noted = m.state.read_waits;
}
link_behind (command.Room count) m =
    record m { gate = gate.Room count; writes_noted = m.state.write_waits }
link_behind command.Block m = record m { gate = gate.Blocked; writes_noted = m.state.write_waits }
link_behind command.FaultRead m = record m { read_fault = true }
link_behind command.FaultWrite m = record m { write_fault = true }
link_behind command.Shutdown m = m
link_behind (command.Limit count) m = m
link_behind (command.Mark number) m = m
link_behind (command.Refuse number) m = m
link_behind (command.Poll moment) m = m

-- the same of all
abbrev pub link_behind_all : List Command → MemState → MemState
link_behind_all [] m = m
link_behind_all (c ∷ more) m = link_behind_all more (link_behind c m)

-- a session whose link is this
abbrev pub over_link : ClientView MemState → MemState → ClientView MemState
over_link s link = record s { transfer = record s.transfer { link = link } }

-- a field line more, where a head was begun
abbrev pub with_field : List ℕ → List ℕ → Option RequestView → Option RequestView
with_field name value None = None
with_field name value (Some head) =
    Some (record head { fields = head.fields ++ (name, value) ∷ [] })
