-- Lemmas on what each exit status tells, and which statuses the words and the script leave.
use Rattle.std.proofs.Common.{◌≡◌, ℕ, ◌⊎◌, inl, inr, List, ◌++◌, Option, Some, None, refl, sym, ap, subst, ◌∙◌, arith}
use Rattle.std.proofs.lemmas.List.{append_cancel_left}
use Rattle.std.specs.Io.KnownBytes.{append_known}
use Rattle.h1_link.specs.AcceptorState.{AcceptorState}
use Rattle.h1_link.specs.Counts.{Rose}
use Rattle.h1_link.specs.ClockState.{ClockState}
use Rattle.h1_link.specs.SourceState.{SourceState}
use Rattle.h1_link.specs.SinkState.{SinkState}
use Rattle.h1_words.specs.Script.{script_of, commands, faulty_at}
use Rattle.h1_words.specs.declared.command.Command.{Command}
use Rattle.h1_words.specs.declared.words.Task.{Task}
use Rattle.h1_words.specs.declared.words.Task.TheVariants as task
use Rattle.h1_serve.specs.declared.status.Status.{Status}
use Rattle.h1_serve.specs.declared.status.Status.TheVariants as status
use Rattle.h1_link.proofs.CountLemmas.{rose_raised}
use Rattle.h1_serve.specs.Input.{Gave}
use Rattle.h1_serve.specs.ListenPeer.{Peer}
use Rattle.h1_serve.specs.Listening.{ListenCause}
use Rattle.h1_serve.specs.Output.{Wrote, usage_line}
use Rattle.h1_serve.specs.Status.{Refused, DoneBy, StopsListening, CauseBy, ScriptCause, WordsCause, GaveScript, number_of}

pub done_by : (is_peer : Peer → Type 0) (found : Option Task)
    (source source' : SourceState) (sink sink' : SinkState) (net net' : AcceptorState)
    (clock clock' : ClockState)
    (answer : Status)
    → 0 ≡ number_of answer
    → CauseBy is_peer found source source' sink sink' net net' clock clock' answer
    → DoneBy is_peer found source source' sink sink' net net' clock clock'
done_by is_peer (Some task.Script) source source' sink sink' net net' clock clock'
    status.Done e cause =
    cause
done_by is_peer (Some (task.Gen count)) source source' sink sink' net net' clock clock'
    status.Done e cause =
    cause
done_by is_peer (Some (task.Listen port count)) source source' sink sink' net net' clock clock'
    status.Done e cause =
    (cause.0, cause.1.0, cause.1.1)
done_by is_peer None source source' sink sink' net net' clock clock' status.Done e cause =
    absurd cause
done_by is_peer found source source' sink sink' net net' clock clock' status.Words e cause =
    absurd (omega arith)
done_by is_peer found source source' sink sink' net net' clock clock' status.Script e cause =
    absurd (omega arith)
done_by is_peer found source source' sink sink' net net' clock clock' status.Source e cause =
    absurd (omega arith)
done_by is_peer found source source' sink sink' net net' clock clock' status.Sink e cause =
    absurd (omega arith)
done_by is_peer found source source' sink sink' net net' clock clock' status.Memory e cause =
    absurd (omega arith)
done_by is_peer found source source' sink sink' net net' clock clock' status.Acceptor e cause =
    absurd (omega arith)

pub words_by : (is_peer : Peer → Type 0) (found : Option Task)
    (source source' : SourceState) (sink sink' : SinkState) (net net' : AcceptorState)
    (clock clock' : ClockState)
    (answer : Status)
    → 2 ≡ number_of answer
    → CauseBy is_peer found source source' sink sink' net net' clock clock' answer
    → (found ≡ None) × Wrote sink sink' usage_line
words_by is_peer None source source' sink sink' net net' clock clock' status.Words e cause =
    (refl, cause.1)
words_by is_peer (Some task.Script) source source' sink sink' net net' clock clock'
    status.Words e cause =
    absurd cause
words_by is_peer (Some (task.Gen count)) source source' sink sink' net net' clock clock'
    status.Words e cause =
    absurd cause.1
words_by is_peer (Some (task.Listen port count)) source source' sink sink' net net' clock clock'
    status.Words e cause =
    absurd cause.1
words_by is_peer found source source' sink sink' net net' clock clock' status.Done e cause =
    absurd (omega arith)
words_by is_peer found source source' sink sink' net net' clock clock' status.Script e cause =
    absurd (omega arith)
words_by is_peer found source source' sink sink' net net' clock clock' status.Source e cause =
    absurd (omega arith)
words_by is_peer found source source' sink sink' net net' clock clock' status.Sink e cause =
    absurd (omega arith)
words_by is_peer found source source' sink sink' net net' clock clock' status.Memory e cause =
    absurd (omega arith)
words_by is_peer found source source' sink sink' net net' clock clock' status.Acceptor e cause =
    absurd (omega arith)

pub script_by : (is_peer : Peer → Type 0) (found : Option Task)
    (source source' : SourceState) (sink sink' : SinkState) (net net' : AcceptorState)
    (clock clock' : ClockState)
    (answer : Status)
    → 3 ≡ number_of answer
    → CauseBy is_peer found source source' sink sink' net net' clock clock' answer
    → (found ≡ Some task.Script) × Refused source source' sink sink'
script_by is_peer (Some task.Script) source source' sink sink' net net' clock clock'
    status.Script e cause =
    (refl, cause)
script_by is_peer (Some (task.Gen count)) source source' sink sink' net net' clock clock'
    status.Script e cause =
    absurd cause.1
script_by is_peer (Some (task.Listen port count)) source source' sink sink' net net' clock clock'
    status.Script e cause =
    absurd cause.1
script_by is_peer None source source' sink sink' net net' clock clock' status.Script e cause =
    absurd cause
script_by is_peer found source source' sink sink' net net' clock clock' status.Done e cause =
    absurd (omega arith)
script_by is_peer found source source' sink sink' net net' clock clock' status.Words e cause =
    absurd (omega arith)
script_by is_peer found source source' sink sink' net net' clock clock' status.Source e cause =
    absurd (omega arith)
script_by is_peer found source source' sink sink' net net' clock clock' status.Sink e cause =
    absurd (omega arith)
script_by is_peer found source source' sink sink' net net' clock clock' status.Memory e cause =
    absurd (omega arith)
script_by is_peer found source source' sink sink' net net' clock clock' status.Acceptor e cause =
    absurd (omega arith)

pub source_by : (is_peer : Peer → Type 0) (found : Option Task)
    (source source' : SourceState) (sink sink' : SinkState) (net net' : AcceptorState)
    (clock clock' : ClockState)
    (answer : Status)
    → 4 ≡ number_of answer
    → CauseBy is_peer found source source' sink sink' net net' clock clock' answer
    → (found ≡ Some task.Script) × Rose source.faults source'.faults
source_by is_peer (Some task.Script) source source' sink sink' net net' clock clock'
    status.Source e cause =
    (refl, cause)
source_by is_peer (Some (task.Gen count)) source source' sink sink' net net' clock clock'
    status.Source e cause =
    absurd cause.1
source_by is_peer (Some (task.Listen port count)) source source' sink sink' net net' clock clock'
    status.Source e cause =
    absurd cause.1
source_by is_peer None source source' sink sink' net net' clock clock' status.Source e cause =
    absurd cause
source_by is_peer found source source' sink sink' net net' clock clock' status.Done e cause =
    absurd (omega arith)
source_by is_peer found source source' sink sink' net net' clock clock' status.Words e cause =
    absurd (omega arith)
source_by is_peer found source source' sink sink' net net' clock clock' status.Script e cause =
    absurd (omega arith)
source_by is_peer found source source' sink sink' net net' clock clock' status.Sink e cause =
    absurd (omega arith)
source_by is_peer found source source' sink sink' net net' clock clock' status.Memory e cause =
    absurd (omega arith)
source_by is_peer found source source' sink sink' net net' clock clock' status.Acceptor e cause =
    absurd (omega arith)

pub sink_by : (is_peer : Peer → Type 0) (found : Option Task)
    (source source' : SourceState) (sink sink' : SinkState) (net net' : AcceptorState)
    (clock clock' : ClockState)
    (answer : Status)
    → 5 ≡ number_of answer
    → CauseBy is_peer found source source' sink sink' net net' clock clock' answer
    → Rose sink.faults sink'.faults
sink_by is_peer (Some task.Script) source source' sink sink' net net' clock clock'
    status.Sink e cause =
    cause
sink_by is_peer (Some (task.Gen count)) source source' sink sink' net net' clock clock'
    status.Sink e cause =
    cause.1
sink_by is_peer (Some (task.Listen port count)) source source' sink sink' net net' clock clock'
    status.Sink e cause =
    cause.1
sink_by is_peer None source source' sink sink' net net' clock clock' status.Sink e cause = cause.1
sink_by is_peer found source source' sink sink' net net' clock clock' status.Done e cause =
    absurd (omega arith)
sink_by is_peer found source source' sink sink' net net' clock clock' status.Words e cause =
    absurd (omega arith)
sink_by is_peer found source source' sink sink' net net' clock clock' status.Script e cause =
    absurd (omega arith)
sink_by is_peer found source source' sink sink' net net' clock clock' status.Source e cause =
    absurd (omega arith)
sink_by is_peer found source source' sink sink' net net' clock clock' status.Memory e cause =
    absurd (omega arith)
sink_by is_peer found source source' sink sink' net net' clock clock' status.Acceptor e cause =
    absurd (omega arith)

pub acceptor_by : (is_peer : Peer → Type 0) (found : Option Task)
    (source source' : SourceState) (sink sink' : SinkState) (net net' : AcceptorState)
    (clock clock' : ClockState)
    (answer : Status)
    → 8 ≡ number_of answer
    → CauseBy is_peer found source source' sink sink' net net' clock clock' answer
    → StopsListening is_peer found sink sink' net net' clock clock'
acceptor_by is_peer (Some (task.Listen port count)) source source' sink sink' net net' clock clock'
    status.Acceptor e cause =
    let told = cause.1.2 in
    record {
      port = port;
      count = count;
      is = refl;
      rose = subst (Rose net.accept_faults) (sym told.faults) (rose_raised net.accept_faults 1);
      served = cause.1.0;
      few = cause.1.1;
      told = told;
    }
acceptor_by is_peer None source source' sink sink' net net' clock clock' status.Acceptor e cause =
    absurd cause
acceptor_by is_peer (Some task.Script) source source' sink sink' net net' clock clock'
    status.Acceptor e cause =
    absurd cause
acceptor_by is_peer (Some (task.Gen count)) source source' sink sink' net net' clock clock'
    status.Acceptor e cause =
    absurd cause.1
acceptor_by is_peer found source source' sink sink' net net' clock clock' status.Done e cause =
    absurd (omega arith)
acceptor_by is_peer found source source' sink sink' net net' clock clock' status.Words e cause =
    absurd (omega arith)
acceptor_by is_peer found source source' sink sink' net net' clock clock' status.Script e cause =
    absurd (omega arith)
acceptor_by is_peer found source source' sink sink' net net' clock clock' status.Source e cause =
    absurd (omega arith)
acceptor_by is_peer found source source' sink sink' net net' clock clock' status.Sink e cause =
    absurd (omega arith)
acceptor_by is_peer found source source' sink sink' net net' clock clock' status.Memory e cause =
    absurd (omega arith)

pub listened_by : (is_peer : Peer → Type 0)
    (source source' : SourceState) (sink sink' : SinkState) (net net' : AcceptorState)
    (clock clock' : ClockState)
    (number port count : ℕ) (answer : Status)
    → number ≡ number_of answer
    → ListenCause is_peer port count sink sink' net net' clock clock' answer
    → (number ≡ 0) ⊎ ((number ≡ 5) × Rose sink.faults sink'.faults) ⊎ (number ≡ 6)
    ⊎ ((number ≡ 8) × Rose net.accept_faults net'.accept_faults)
listened_by is_peer source source' sink sink' net net' clock clock' number port count
    status.Done e cause =
    inl e
listened_by is_peer source source' sink sink' net net' clock clock' number port count
    status.Sink e cause =
    inr (inl (e, cause))
listened_by is_peer source source' sink sink' net net' clock clock' number port count
    status.Memory e cause =
    inr (inr (inl e))
listened_by is_peer source source' sink sink' net net' clock clock' number port count
    status.Acceptor e cause =
    inr (inr (inr
    (e, subst (Rose net.accept_faults) (sym cause.2.faults) (rose_raised net.accept_faults 1))))
listened_by is_peer source source' sink sink' net net' clock clock' number port count
    status.Words e cause =
    absurd cause
listened_by is_peer source source' sink sink' net net' clock clock' number port count
    status.Script e cause =
    absurd cause
listened_by is_peer source source' sink sink' net net' clock clock' number port count
    status.Source e cause =
    absurd cause

pub no_task_by : (source source' : SourceState) (sink sink' : SinkState) (number : ℕ)
    (answer : Status)
    → number ≡ number_of answer → WordsCause source source' sink sink' answer
    → (number ≡ 2) ⊎ ((number ≡ 5) × Rose sink.faults sink'.faults) ⊎ (number ≡ 6)
no_task_by source source' sink sink' number status.Words e cause = inl e
no_task_by source source' sink sink' number status.Sink e cause = inr (inl (e, cause.1))
no_task_by source source' sink sink' number status.Memory e cause = inr (inr e)
no_task_by source source' sink sink' number status.Done e cause = absurd cause
no_task_by source source' sink sink' number status.Script e cause = absurd cause
no_task_by source source' sink sink' number status.Source e cause = absurd cause
no_task_by source source' sink sink' number status.Acceptor e cause = absurd cause

pub generated_by : (is_peer : Peer → Type 0)
    (source source' : SourceState) (sink sink' : SinkState) (net net' : AcceptorState)
    (clock clock' : ClockState) (number count : ℕ)
    (answer : Status)
    → number ≡ number_of answer
    → CauseBy is_peer (Some (task.Gen count)) source source' sink sink' net net' clock clock' answer
    → (number ≡ 0) ⊎ ((number ≡ 5) × Rose sink.faults sink'.faults) ⊎ (number ≡ 6)
generated_by is_peer source source' sink sink' net net' clock clock' number count
    status.Done e cause =
    inl e
generated_by is_peer source source' sink sink' net net' clock clock' number count
    status.Sink e cause =
    inr (inl (e, cause.1))
generated_by is_peer source source' sink sink' net net' clock clock' number count
    status.Memory e cause =
    inr (inr e)
generated_by is_peer source source' sink sink' net net' clock clock' number count
    status.Words e cause =
    absurd cause.1
generated_by is_peer source source' sink sink' net net' clock clock' number count
    status.Script e cause =
    absurd cause.1
generated_by is_peer source source' sink sink' net net' clock clock' number count
    status.Source e cause =
    absurd cause.1
generated_by is_peer source source' sink sink' net net' clock clock' number count
    status.Acceptor e cause =
    absurd cause.1

-- the bytes that a telling source gave in the call are determined
told_same : (before now : SourceState) (script other : List ℕ) → GaveScript before now script
    → Gave before now other
    → other ≡ script
told_same before now script other told gave =
    let known : now.given ≡ Some (told.front ++ other) =
    gave.given ∙ ap (λ front. append_known front other) told.before_is in
    let same : told.front ++ other ≡ told.front ++ script = cc (known, told.now_is) in
    append_cancel_left told.front other script same

never_both : (script other : List ℕ) (line : ℕ) (asked : List Command) → other ≡ script
    → script_of script ≡ faulty_at line → script_of other ≡ commands asked → ⊥
never_both script other line asked same faulty lawful =
    let one : script_of other ≡ script_of script = ap script_of same in cc

pub faulty_by_cause : (source source' : SourceState) (sink sink' : SinkState) (number line : ℕ)
    (script : List ℕ) (answer : Status)
    → GaveScript source source' script → script_of script ≡ faulty_at line
    → number ≡ number_of answer → ScriptCause source source' sink sink' answer
    → (number ≡ 3) ⊎ ((number ≡ 4) × Rose source.faults source'.faults)
    ⊎ ((number ≡ 5) × Rose sink.faults sink'.faults) ⊎ (number ≡ 6)
faulty_by_cause source source' sink sink' number line script status.Done told faulty e cause =
    absurd
    (never_both script cause.script line cause.report.asked
    (told_same source source' script cause.script told cause.gave) faulty cause.report.read)
faulty_by_cause source source' sink sink' number line script status.Words told faulty e cause =
    absurd cause
faulty_by_cause source source' sink sink' number line script status.Script told faulty e cause =
    inl e
faulty_by_cause source source' sink sink' number line script status.Source told faulty e cause =
    inr (inl (e, cause))
faulty_by_cause source source' sink sink' number line script status.Sink told faulty e cause =
    inr (inr (inl (e, cause)))
faulty_by_cause source source' sink sink' number line script status.Memory told faulty e cause =
    inr (inr (inr e))
faulty_by_cause source source' sink sink' number line script status.Acceptor told faulty e cause =
    absurd cause

pub lawful_by_cause : (source source' : SourceState) (sink sink' : SinkState) (number : ℕ)
    (script : List ℕ) (asked : List Command) (answer : Status)
    → GaveScript source source' script → script_of script ≡ commands asked
    → number ≡ number_of answer → ScriptCause source source' sink sink' answer
    → (number ≡ 0) ⊎ ((number ≡ 4) × Rose source.faults source'.faults)
    ⊎ ((number ≡ 5) × Rose sink.faults sink'.faults) ⊎ (number ≡ 6)
lawful_by_cause source source' sink sink' number script asked status.Done told lawful e cause =
    inl e
lawful_by_cause source source' sink sink' number script asked status.Words told lawful e cause =
    absurd cause
lawful_by_cause source source' sink sink' number script asked status.Script told lawful e cause =
    absurd
    (never_both cause.script script cause.number asked
    (sym (told_same source source' script cause.script told cause.read.gave)) cause.faulty lawful)
lawful_by_cause source source' sink sink' number script asked status.Source told lawful e cause =
    inr (inl (e, cause))
lawful_by_cause source source' sink sink' number script asked status.Sink told lawful e cause =
    inr (inr (inl (e, cause)))
lawful_by_cause source source' sink sink' number script asked status.Memory told lawful e cause =
    inr (inr (inr e))
lawful_by_cause source source' sink sink' number script asked status.Acceptor told lawful e cause =
    absurd cause
