-- What each exit status tells, and which statuses the words and the script leave.
use Rattle.std.proofs.Common.{◌≡◌, ℕ, ◌⊎◌, List, Option, Some, None}
use Rattle.h1_link.specs.AcceptorState.{AcceptorState}
use Rattle.h1_link.specs.ClockState.{ClockState}
use Rattle.h1_link.specs.Counts.{Rose}
use Rattle.h1_link.specs.SourceState.{SourceState}
use Rattle.h1_link.specs.SinkState.{SinkState}
use Rattle.h1_words.specs.Script.{script_of, commands, faulty_at}
use Rattle.h1_words.specs.declared.command.Command.{Command}
use Rattle.h1_words.specs.declared.words.Task.{Task}
use Rattle.h1_words.specs.declared.words.Task.TheVariants as task
use Rattle.h1_serve.specs.ListenPeer.{Peer}
use Rattle.h1_serve.specs.Output.{Wrote, usage_line}
use Rattle.h1_serve.specs.Status.{Refused, DoneBy, StopsListening, GaveScript, Ends}
use Rattle.h1_serve.proofs.CauseLemmas.{done_by, words_by, script_by, source_by, sink_by, acceptor_by, listened_by, no_task_by, generated_by, faulty_by_cause, lawful_by_cause}

pub zero_is_done : (is_peer : Peer → Type 0) (found : Option Task)
    (source source' : SourceState) (sink sink' : SinkState) (net net' : AcceptorState)
    (clock clock' : ClockState)
    → Ends is_peer found source source' sink sink' net net' clock clock' 0
    → DoneBy is_peer found source source' sink sink' net net' clock clock'
zero_is_done is_peer found source source' sink sink' net net' clock clock' ends =
    done_by is_peer found source source' sink sink' net net' clock clock' ends.0 ends.1 ends.2

pub two_is_words : (is_peer : Peer → Type 0) (found : Option Task)
    (source source' : SourceState) (sink sink' : SinkState) (net net' : AcceptorState)
    (clock clock' : ClockState)
    → Ends is_peer found source source' sink sink' net net' clock clock' 2
    → (found ≡ None) × Wrote sink sink' usage_line
two_is_words is_peer found source source' sink sink' net net' clock clock' ends =
    words_by is_peer found source source' sink sink' net net' clock clock' ends.0 ends.1 ends.2

pub three_is_script : (is_peer : Peer → Type 0) (found : Option Task)
    (source source' : SourceState) (sink sink' : SinkState) (net net' : AcceptorState)
    (clock clock' : ClockState)
    → Ends is_peer found source source' sink sink' net net' clock clock' 3
    → (found ≡ Some task.Script) × Refused source source' sink sink'
three_is_script is_peer found source source' sink sink' net net' clock clock' ends =
    script_by is_peer found source source' sink sink' net net' clock clock' ends.0 ends.1 ends.2

pub four_is_source : (is_peer : Peer → Type 0) (found : Option Task)
    (source source' : SourceState) (sink sink' : SinkState) (net net' : AcceptorState)
    (clock clock' : ClockState)
    → Ends is_peer found source source' sink sink' net net' clock clock' 4
    → (found ≡ Some task.Script) × Rose source.faults source'.faults
four_is_source is_peer found source source' sink sink' net net' clock clock' ends =
    source_by is_peer found source source' sink sink' net net' clock clock' ends.0 ends.1 ends.2

pub five_is_sink : (is_peer : Peer → Type 0) (found : Option Task)
    (source source' : SourceState) (sink sink' : SinkState) (net net' : AcceptorState)
    (clock clock' : ClockState)
    → Ends is_peer found source source' sink sink' net net' clock clock' 5
    → Rose sink.faults sink'.faults
five_is_sink is_peer found source source' sink sink' net net' clock clock' ends =
    sink_by is_peer found source source' sink sink' net net' clock clock' ends.0 ends.1 ends.2

pub eight_is_acceptor : (is_peer : Peer → Type 0) (found : Option Task)
    (source source' : SourceState) (sink sink' : SinkState) (net net' : AcceptorState)
    (clock clock' : ClockState)
    → Ends is_peer found source source' sink sink' net net' clock clock' 8
    → StopsListening is_peer found sink sink' net net' clock clock'
eight_is_acceptor is_peer found source source' sink sink' net net' clock clock' ends =
    acceptor_by is_peer found source source' sink sink' net net' clock clock' ends.0 ends.1 ends.2

pub no_task_leaves : (is_peer : Peer → Type 0)
    (source source' : SourceState) (sink sink' : SinkState) (net net' : AcceptorState)
    (clock clock' : ClockState) (number : ℕ)
    → Ends is_peer None source source' sink sink' net net' clock clock' number
    → (number ≡ 2) ⊎ ((number ≡ 5) × Rose sink.faults sink'.faults) ⊎ (number ≡ 6)
no_task_leaves is_peer source source' sink sink' net net' clock clock' number ends =
    no_task_by source source' sink sink' number ends.0 ends.1 ends.2

pub faulty_leaves : (is_peer : Peer → Type 0)
    (source source' : SourceState) (sink sink' : SinkState) (net net' : AcceptorState)
    (clock clock' : ClockState) (number line : ℕ)
    (script : List ℕ)
    → GaveScript source source' script → script_of script ≡ faulty_at line
    → Ends is_peer (Some task.Script) source source' sink sink' net net' clock clock' number
    → (number ≡ 3) ⊎ ((number ≡ 4) × Rose source.faults source'.faults)
    ⊎ ((number ≡ 5) × Rose sink.faults sink'.faults) ⊎ (number ≡ 6)
faulty_leaves is_peer source source' sink sink' net net' clock clock' number line script
    told faulty ends =
    faulty_by_cause source source' sink sink' number line script ends.0 told faulty ends.1 ends.2

pub lawful_leaves : (is_peer : Peer → Type 0)
    (source source' : SourceState) (sink sink' : SinkState) (net net' : AcceptorState)
    (clock clock' : ClockState) (number : ℕ)
    (script : List ℕ) (asked : List Command)
    → GaveScript source source' script → script_of script ≡ commands asked
    → Ends is_peer (Some task.Script) source source' sink sink' net net' clock clock' number
    → (number ≡ 0) ⊎ ((number ≡ 4) × Rose source.faults source'.faults)
    ⊎ ((number ≡ 5) × Rose sink.faults sink'.faults) ⊎ (number ≡ 6)
lawful_leaves is_peer source source' sink sink' net net' clock clock' number script asked
    told lawful ends =
    lawful_by_cause source source' sink sink' number script asked ends.0 told lawful ends.1 ends.2

pub generated_leaves : (is_peer : Peer → Type 0)
    (source source' : SourceState) (sink sink' : SinkState) (net net' : AcceptorState)
    (clock clock' : ClockState) (number count : ℕ)
    → Ends is_peer (Some (task.Gen count)) source source' sink sink' net net' clock clock' number
    → (number ≡ 0) ⊎ ((number ≡ 5) × Rose sink.faults sink'.faults) ⊎ (number ≡ 6)
generated_leaves is_peer source source' sink sink' net net' clock clock' number count ends =
    generated_by is_peer source source' sink sink' net net' clock clock'
    number count ends.0 ends.1 ends.2

pub listened_leaves : (is_peer : Peer → Type 0)
    (source source' : SourceState) (sink sink' : SinkState) (net net' : AcceptorState)
    (clock clock' : ClockState)
    (number port count : ℕ)
    → Ends is_peer (Some (task.Listen port count)) source source' sink sink' net net' clock clock' number
    → (number ≡ 0) ⊎ ((number ≡ 5) × Rose sink.faults sink'.faults) ⊎ (number ≡ 6)
    ⊎ ((number ≡ 8) × Rose net.accept_faults net'.accept_faults)
listened_leaves is_peer source source' sink sink' net net' clock clock' number port count ends =
    listened_by is_peer source source' sink sink' net net' clock clock'
    number port count ends.0 ends.1 ends.2.1
