-- The exit statuses of a run, each with its cause.
use Rattle.std.specs.Prelude.{◌≡◌, ℕ, ◌≤◌, List, ◌++◌, true, Option, Some, None}
use Rattle.h1_link.specs.AcceptorState.{AcceptorState}
use Rattle.h1_link.specs.Counts.{Rose}
use Rattle.h1_link.specs.ClockState.{ClockState}
use Rattle.h1_link.specs.SourceState.{SourceState}
use Rattle.h1_link.specs.SinkState.{SinkState}
use Rattle.h1_words.specs.Script.{script_of, faulty_at}
use Rattle.h1_words.specs.declared.words.Task.{Task}
use Rattle.h1_words.specs.declared.words.Task.TheVariants as task
use Rattle.h1_serve.specs.declared.status.Status.{Status}
use Rattle.h1_serve.specs.declared.status.Status.TheVariants as status
use Rattle.h1_serve.specs.declared.output.Written.{Written}
use Rattle.h1_serve.specs.declared.output.Written.TheVariants as written
use Rattle.h1_serve.specs.Input.{Gave, ReadsScript}
use Rattle.h1_serve.specs.Output.{Wrote, usage_line, fault_line}
use Rattle.h1_serve.specs.Report.{Report}
use Rattle.h1_serve.specs.Generated.{IsGenText}
use Rattle.h1_serve.specs.ListenPeer.{Peer}
use Rattle.h1_serve.specs.Listening.{Serves, Listens, GoesOn, ListenCause}

-- The source was read to its end, and the sink took a report of what it gave and flushed it.
pub record Reported (source_before source_now : SourceState)
    (sink_before sink_now : SinkState) : Type 0 where
  pub script : List ℕ
  pub text : List ℕ
  pub gave : Gave source_before source_now script
  pub ended : source_now.ended ≡ true
  pub wrote : Wrote sink_before sink_now text
  pub report : Report script text

-- A line of the script is outside of the grammar, or it is too long; the sink took the line's number
-- and no other text, and flushed it.
pub record Refused (source_before source_now : SourceState)
    (sink_before sink_now : SinkState) : Type 0 where
  pub script : List ℕ
  pub number : ℕ
  pub read : ReadsScript source_before source_now script
  pub faulty : script_of script ≡ faulty_at number
  pub wrote : Wrote sink_before sink_now (fault_line number)

-- The sink took the four lines that tell of so many requests, which were made and served, and
-- flushed them.
pub record ToldInNumbers (count : ℕ) (sink_before sink_now : SinkState) : Type 0 where
  pub text : List ℕ
  pub wrote : Wrote sink_before sink_now text
  pub is_text : IsGenText count text

-- the cause of each status of the task `script`
abbrev pub ScriptCause : SourceState → SourceState → SinkState → SinkState → Status → Type 0
ScriptCause source source' sink sink' status.Done = Reported source source' sink sink'
ScriptCause source source' sink sink' status.Words = ⊥
ScriptCause source source' sink sink' status.Script = Refused source source' sink sink'
ScriptCause source source' sink sink' status.Source = Rose source.faults source'.faults
ScriptCause source source' sink sink' status.Sink = Rose sink.faults sink'.faults
ScriptCause source source' sink sink' status.Memory = Unit {0}
ScriptCause source source' sink sink' status.Acceptor = ⊥

-- the cause of each status of the task `gen` with this number
abbrev pub GenCause : ℕ → SinkState → SinkState → Status → Type 0
GenCause count sink sink' status.Done = ToldInNumbers count sink sink'
GenCause count sink sink' status.Words = ⊥
GenCause count sink sink' status.Script = ⊥
GenCause count sink sink' status.Source = ⊥
GenCause count sink sink' status.Sink = Rose sink.faults sink'.faults
GenCause count sink sink' status.Memory = Unit {0}
GenCause count sink sink' status.Acceptor = ⊥

-- the cause of each status where the words are no task
abbrev pub WordsCause : SourceState → SourceState → SinkState → SinkState → Status → Type 0
WordsCause source source' sink sink' status.Words = (source' ≡ source) × Wrote sink sink' usage_line
WordsCause source source' sink sink' status.Sink =
    (source' ≡ source) × Rose sink.faults sink'.faults
WordsCause source source' sink sink' status.Memory = source' ≡ source
WordsCause source source' sink sink' status.Done = ⊥
WordsCause source source' sink sink' status.Script = ⊥
WordsCause source source' sink sink' status.Source = ⊥
WordsCause source source' sink sink' status.Acceptor = ⊥

-- the cause of each status, by what the words ask for; `is_peer` tells what comes of a peer
abbrev pub CauseBy : (Peer → Type 0) → Option Task → SourceState → SourceState
    → SinkState → SinkState → AcceptorState → AcceptorState → ClockState → ClockState → Status
    → Type 0
CauseBy is_peer None source source' sink sink' net net' clock clock' status =
    WordsCause source source' sink sink' status
CauseBy is_peer (Some task.Script) source source' sink sink' net net' clock clock' status =
    ScriptCause source source' sink sink' status
CauseBy is_peer (Some (task.Gen count)) source source' sink sink' net net' clock clock' status =
    (source' ≡ source) × GenCause count sink sink' status
CauseBy is_peer (Some (task.Listen port count)) source source' sink sink' net net' clock clock'
    status =
    (source' ≡ source) × ListenCause is_peer port count sink sink' net net' clock clock' status

-- the number of a status
abbrev pub number_of : Status → ℕ
number_of status.Done = 0
number_of status.Words = 2
number_of status.Script = 3
number_of status.Source = 4
number_of status.Sink = 5
number_of status.Memory = 6
number_of status.Acceptor = 8

-- a run ends with the number of a status whose cause is there
abbrev pub Ends : (Peer → Type 0) → Option Task → SourceState → SourceState
    → SinkState → SinkState → AcceptorState → AcceptorState → ClockState → ClockState → ℕ
    → Type 0
Ends is_peer found source source' sink sink' net net' clock clock' number =
    (status : Status) × (number ≡ number_of status)
    × CauseBy is_peer found source source' sink sink' net net' clock clock' status

-- what status 0 tells, by what the words ask for
abbrev pub DoneBy : (Peer → Type 0) → Option Task → SourceState → SourceState
    → SinkState → SinkState → AcceptorState → AcceptorState → ClockState → ClockState → Type 0
DoneBy is_peer None source source' sink sink' net net' clock clock' = ⊥
DoneBy is_peer (Some task.Script) source source' sink sink' net net' clock clock' =
    Reported source source' sink sink'
DoneBy is_peer (Some (task.Gen count)) source source' sink sink' net net' clock clock' =
    (source' ≡ source) × ToldInNumbers count sink sink'
DoneBy is_peer (Some (task.Listen port count)) source source' sink sink' net net' clock clock' =
    (source' ≡ source) × (net'.port ≡ Some port)
    × Serves is_peer count 0 sink sink' net net' clock clock'

-- what status 8 tells: the task, that the acceptor failed in this call, and how many peers were
-- served before
pub record StopsListening (is_peer : Peer → Type 0) (found : Option Task)
    (sink sink' : SinkState) (net net' : AcceptorState) (clock clock' : ClockState) : Type 0 where
  pub port : ℕ
  pub count : ℕ
  pub is : found ≡ Some (task.Listen port count)
  pub rose : Rose net.accept_faults net'.accept_faults
  pub served : ℕ
  pub few : served ≤ count
  pub told : Serves is_peer served 1 sink sink' net net' clock clock'

-- the network is used by `listen` alone
abbrev pub NetBy : Option Task → AcceptorState → AcceptorState → Type 0
NetBy None net net' = net' ≡ net
NetBy (Some task.Script) net net' = net' ≡ net
NetBy (Some (task.Gen count)) net net' = net' ≡ net
NetBy (Some (task.Listen port count)) net net' = Listens port count net net'

-- the clock is asked by `listen` alone
abbrev pub ClockBy : Option Task → ClockState → ClockState → Type 0
ClockBy None clock clock' = clock' ≡ clock
ClockBy (Some task.Script) clock clock' = clock' ≡ clock
ClockBy (Some (task.Gen count)) clock clock' = clock' ≡ clock
ClockBy (Some (task.Listen port count)) clock clock' = GoesOn clock clock'

-- the status once a text was written, which is this one where all of it was taken and flushed
abbrev pub status_after : Status → Written → Status
status_after whole written.Whole = whole
status_after whole written.Failed = status.Sink
status_after whole written.NoMemory = status.Memory

-- the source tells its bytes, and gave these in this call
pub record GaveScript (before now : SourceState) (script : List ℕ) : Type 0 where
  pub front : List ℕ
  pub before_is : before.given ≡ Some front
  pub now_is : now.given ≡ Some (front ++ script)
