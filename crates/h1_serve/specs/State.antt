-- What a script's connection is between two lines of the script.
use Rattle.std.specs.Prelude.{ℕ, List, [], ◌++◌, Bool, false, Option, None, is_some, option_to_list, true}
use Rattle.h1_error.specs.declared.progress.End.{End}
use Rattle.h1_link.specs.LinkState.{LinkState}
use Rattle.h1_link.specs.Gate.{gate_from}
use Rattle.h1_link.specs.MemPlan.{faults_due}
use Rattle.h1_link.specs.MemState.{MemState, new_mem_state}
use Rattle.h1_link.specs.declared.memory.gate.Gate.{Gate}
use Rattle.h1_link.specs.declared.memory.gate.Gate.TheVariants.{Open}
use Rattle.h1_transcript.specs.Begun.{Terms}
use Rattle.h1_transcript.specs.Entry.{Entry}
use Rattle.h1_transcript.specs.declared.history.History.TheVariants.{Kept}
use Rattle.h1_echo.specs.declared.echo.EchoApp.{EchoApp}
use Rattle.h1_echo.specs.declared.echo.EchoJob.{EchoJob}
use Rattle.h1_marking.specs.Marking.{MarkingModule, marking_rules}
use Rattle.h1_transcript.specs.Rules.{Rules}
use Rattle.h1_app.specs.View.{Served, View, work_of, unlimited}
use Rattle.h1_app.specs.Work.{Work, reads_head}
use Rattle.h1_serve.specs.declared.scripted.Scripted.{Scripted}

pub record State : Type 0 where
  -- the exchanges: every one but the last, and the last
  pub done : List Entry
  pub last : Option Entry
  -- what the link gave and took
  pub link : LinkState
  -- the bytes that were put ahead, and whether the end was said after them
  pub put : List ℕ
  pub said : Bool
  -- how much the link takes by the last `room` or `block` line, the room counted from the first byte
  -- that the link ever took
  pub gate : Gate
  -- how many reads and how many writes have failed once those that are planned fail
  pub reads_due : ℕ
  pub writes_due : ℕ
  -- the flushes that weren't ready, which the link counts among the writes as well
  pub flush_waits : ℕ
  -- what the connection does for which its link may keep it waiting only so long, and since when it
  -- waits
  pub work : Work
  -- the modules of the server, in the order in which they were added
  pub modules : List MarkingModule
  -- what the connection is made with, and whether the server shuts down
  pub terms : Terms
  pub shut : Bool
  -- why the connection ended
  pub end : Option End

-- a link that gave and took nothing
abbrev pub new_link : LinkState
new_link = new_mem_state.state

-- before the first line, with this limit and these modules
abbrev pub start_with : Option ℕ → List MarkingModule → State
start_with limit modules = record {
  done = [];
  last = None;
  link = new_link;
  put = [];
  said = false;
  gate = Open;
  reads_due = 0;
  writes_due = 0;
  flush_waits = 0;
  work = reads_head None;
  modules = modules;
  terms = record { limit = limit; holding = unlimited Kept true };
  shut = false;
  end = None;
}

abbrev pub transcript : State → List Entry
transcript s = s.done ++ option_to_list s.last

-- what every link has, of a link in memory
abbrev pub link_state : MemState → LinkState
link_state link = link.state

-- what a link in memory takes, its room counted from its first byte
abbrev pub gate_of : MemState → Gate
gate_of link = gate_from link.gate link.state.bytes_out

-- the faults once those that are planned are met
abbrev pub reads_due_of : MemState → ℕ
reads_due_of link = faults_due link.read_fault link.state.read_faults

abbrev pub writes_due_of : MemState → ℕ
writes_due_of link = faults_due link.write_fault link.state.write_faults

-- what is seen of a script's connection
abbrev pub MarkedView : Type 0
MarkedView = View MemState (Unit {0}) (Served EchoApp MarkingModule) EchoJob

-- what the connection sends: what the application replies, and what the modules make of it
abbrev pub rules : State → Rules
rules s = marking_rules s.modules

-- what is seen of a script as it runs
abbrev pub state_of : Scripted → State
state_of scripted = record {
  done = scripted.connection.done;
  last = scripted.connection.last;
  link = scripted.connection.session.link.state;
  put = scripted.connection.session.link.put;
  said = is_some scripted.connection.session.link.end_at;
  gate = gate_of scripted.connection.session.link;
  reads_due = reads_due_of scripted.connection.session.link;
  writes_due = writes_due_of scripted.connection.session.link;
  flush_waits = scripted.connection.session.link.flush_waits;
  work = work_of scripted.connection;
  modules = scripted.connection.served.builders;
  terms = scripted.connection.terms;
  shut = scripted.shutdown;
  end = scripted.connection.end;
}
