-- Lemmas on a source's and a sink's state between two moments.
use Rattle.std.proofs.Common.{ℕ, ◌≤◌, Bool, true, false, cond, eqb, List, take, length, refl, arith}
use Rattle.std.specs.Io.KnownBytes.{append_known}
use Rattle.h1_link.specs.Counts.{raised}
use Rattle.h1_link.specs.SourceState.{SourceState, LaterSource, after_source_read}
use Rattle.h1_link.specs.SinkState.{SinkState, LaterSink, after_sink_write, after_sink_flush}
use Rattle.h1_link.specs.declared.source.SourceStep.{SourceStep}
use Rattle.h1_link.specs.declared.source.SourceStep.TheVariants.{Got, End, Failed}
use Rattle.h1_link.specs.declared.sink.SinkStep.{SinkStep}
use Rattle.h1_link.specs.declared.sink.SinkStep.TheVariants as sink
use Rattle.h1_link.proofs.Laters.{grew_itself, grew_on}

pub later_source_itself : (s : SourceState) → LaterSource s s
later_source_itself s = record { given = grew_itself s.given; ended = λ h. h; faults = omega arith }

pub later_source_on : (a b c : SourceState) → LaterSource a b → LaterSource b c → LaterSource a c
later_source_on a b c first second = record {
  given = grew_on _ _ _ first.given second.given;
  ended = λ h. second.ended (first.ended h);
  faults = omega arith;
}

source_got : (s : SourceState) (bytes : List ℕ)
    → LaterSource s (record s { given = append_known s.given bytes })
source_got s bytes = record { given = (bytes, refl); ended = λ h. h; faults = omega arith }

source_ended : (s : SourceState) → LaterSource s (record s { ended = true })
source_ended s = record { given = grew_itself s.given; ended = λ _. refl; faults = omega arith }

pub later_source_read : (s : SourceState) (buffer : List ℕ) (answer : SourceStep)
    → LaterSource s (after_source_read s buffer answer)
later_source_read s buffer (Got n) =
    let got : SourceState = record s { given = append_known s.given (take n buffer) } in
    elim (eqb n 0) as (λ none. LaterSource s (cond none (record s { ended = true }) got)) [
      | true ↦ source_ended s
      | false ↦ source_got s (take n buffer)
    ]
later_source_read s buffer End = source_ended s
later_source_read s buffer Failed = record {
  given = grew_itself s.given;
  ended = λ h. h;
  faults = omega arith;
}

pub later_sink_itself : (s : SinkState) → LaterSink s s
later_sink_itself s = record { taken = grew_itself s.taken; faults = omega arith }

pub later_sink_on : (a b c : SinkState) → LaterSink a b → LaterSink b c → LaterSink a c
later_sink_on a b c first second = record {
  taken = grew_on _ _ _ first.taken second.taken;
  faults = omega arith;
}

sink_faults : (s : SinkState) (faults : ℕ) → s.faults ≤ faults
    → LaterSink s (record s { faults = faults })
sink_faults s faults more = record { taken = grew_itself s.taken; faults = more }

sink_took : (s : SinkState) (bytes : List ℕ)
    → LaterSink s (record s { taken = append_known s.taken bytes; flushed = false })
sink_took s bytes = record { taken = (bytes, refl); faults = omega arith }

-- no byte taken raises the faults or leaves them
no_byte_faults : (faults : ℕ) (empty : Bool) → faults ≤ cond empty faults (raised faults 1)
no_byte_faults faults true = omega arith
no_byte_faults faults false = omega arith

pub later_sink_write : (s : SinkState) (piece : List ℕ) (answer : SinkStep)
    → LaterSink s (after_sink_write s piece answer)
later_sink_write s piece (sink.Took n) =
    let faults : ℕ = cond (eqb (length piece) 0) s.faults (raised s.faults 1) in
    let none : SinkState = record s { faults = faults } in
    let some : SinkState = record s {
      taken = append_known s.taken (take n piece);
      flushed = false;
    } in
    elim (eqb n 0) as (λ empty. LaterSink s (cond empty none some)) [
      | true ↦ sink_faults s _ (no_byte_faults s.faults (eqb (length piece) 0))
      | false ↦ sink_took s (take n piece)
    ]
later_sink_write s piece sink.Failed = sink_faults s _ (omega arith)
later_sink_write s piece sink.NoMemory = later_sink_itself s

pub later_sink_flush : (s : SinkState) (done : Bool) → LaterSink s (after_sink_flush s done)
later_sink_flush s true = record { taken = grew_itself s.taken; faults = omega arith }
later_sink_flush s false = sink_faults s _ (omega arith)
