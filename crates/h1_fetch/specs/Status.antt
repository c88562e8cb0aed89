-- The exit statuses of a run, each with its cause.
use Rattle.std.specs.Prelude.{◌≡◌, ℕ, List, Option, Some, None}
use Rattle.h1_link.specs.Counts.{Rose}
use Rattle.h1_link.specs.DialerState.{DialerState}
use Rattle.h1_link.specs.LinkState.{LinkState}
use Rattle.h1_link.specs.SourceState.{SourceState}
use Rattle.h1_link.specs.SinkState.{SinkState}
use Rattle.h1_fetch.specs.Getting.{GetCause, peer_at}
use Rattle.h1_fetch.specs.Input.{ReadsScript}
use Rattle.h1_fetch.specs.Output.{Wrote, usage_line, fault_line}
use Rattle.h1_fetch.specs.Playing.{IsTextOf}
use Rattle.h1_fetch.specs.Request.{whole_request}
use Rattle.h1_fetch.specs.Words.{Job, script, get}
use Rattle.h1_fetch.specs.declared.lines.Line.{Line}
use Rattle.h1_fetch.specs.declared.output.Written.{Written}
use Rattle.h1_fetch.specs.declared.output.Written.TheVariants as written
use Rattle.h1_fetch.specs.declared.status.Status.{Status}
use Rattle.h1_fetch.specs.declared.status.Status.TheVariants as status

-- the source was read to its end, and the sink took a report of lines and flushed it
pub record Reported (source source' : SourceState) (sink sink' : SinkState) : Type 0 where
  pub script : List ℕ
  pub asked : List Line
  pub text : List ℕ
  pub read : ReadsScript source source' script
  pub report : IsTextOf asked text
  pub wrote : Wrote sink sink' text

-- a line of the script is outside of the grammar; the sink took the line's number and no other text,
-- and flushed it
pub record Refused (source source' : SourceState) (sink sink' : SinkState) : Type 0 where
  pub script : List ℕ
  pub number : ℕ
  pub read : ReadsScript source source' script
  pub wrote : Wrote sink sink' (fault_line number)

-- the cause of each status of the task `script`
abbrev pub ScriptCause : SourceState → SourceState → SinkState → SinkState → Status → Type 0
ScriptCause source source' sink sink' status.Done = Reported source source' sink sink'
ScriptCause source source' sink sink' status.Words = ⊥
ScriptCause source source' sink sink' status.Script = Refused source source' sink sink'
ScriptCause source source' sink sink' status.Source = Rose source.faults source'.faults
ScriptCause source source' sink sink' status.Sink = Rose sink.faults sink'.faults
ScriptCause source source' sink sink' status.Memory = Unit {0}
ScriptCause source source' sink sink' status.Response = ⊥
ScriptCause source source' sink sink' status.Server = ⊥

-- the cause of each status where the words are no task
abbrev pub WordsCause : SinkState → SinkState → Status → Type 0
WordsCause sink sink' status.Words = Wrote sink sink' usage_line
WordsCause sink sink' status.Sink = Rose sink.faults sink'.faults
WordsCause sink sink' status.Memory = Unit {0}
WordsCause sink sink' _ = ⊥

-- what a run leaves alone where it is no `get`
abbrev pub Alone : {D : Type 0} → SinkState → SinkState → D → D → Type 0
Alone messages messages' dialer dialer' = (messages' ≡ messages) × (dialer' ≡ dialer)

-- the cause of each status, by what the words ask for
abbrev pub CauseBy : {L D : Type 0} → (L → LinkState) → (D → DialerState) → Option Job
    → SourceState → SourceState → SinkState → SinkState → SinkState → SinkState → D → D → Status
    → Type 0
CauseBy state dials None source source' sink sink' messages messages' dialer dialer' status =
    WordsCause sink sink' status × (source' ≡ source) × Alone messages messages' dialer dialer'
CauseBy state dials (Some script) source source' sink sink' messages messages' dialer dialer' status =
    ScriptCause source source' sink sink' status × Alone messages messages' dialer dialer'
CauseBy state dials (Some (get ask)) source source' sink sink' messages messages' dialer dialer'
    status =
    GetCause state dials (peer_at ask.port) (whole_request ask.path ask.body) ask.count sink sink'
    messages messages' dialer dialer' status
    × (source' ≡ source)

-- the number of a status
abbrev pub number_of : Status → ℕ
number_of status.Done = 0
number_of status.Words = 2
number_of status.Script = 3
number_of status.Source = 4
number_of status.Sink = 5
number_of status.Memory = 6
number_of status.Response = 4
number_of status.Server = 7

-- a run ends with the number of a status whose cause is there
abbrev pub Ends : {L D : Type 0} → (L → LinkState) → (D → DialerState) → Option Job
    → SourceState → SourceState → SinkState → SinkState → SinkState → SinkState → D → D → ℕ
    → Type 0
Ends state dials job source source' sink sink' messages messages' dialer dialer' number =
    (status : Status) × (number ≡ number_of status)
    × CauseBy state dials job source source' sink sink' messages messages' dialer dialer' status

-- the status once a text was written, which is this one where all of it was taken and flushed
abbrev pub status_after : Status → Written → Status
status_after whole written.Whole = whole
status_after whole written.Failed = status.Sink
status_after whole written.NoMemory = status.Memory
