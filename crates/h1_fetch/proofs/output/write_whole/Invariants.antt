use Rattle.std.proofs.Common.{◌≤◌, ◌-◌, length, take}
use Rattle.h1_fetch.specs.Output.{Took}
use Rattle.h1_fetch.proofs.output.write_whole.Given as goal

abbrev pub invariant-loop-at : goal.invariant-loop-at
invariant-loop-at g l = record {
  within : l.at ≤ length l.text;
  took : Took (g.K.Sink.state l.fn.sink) (g.K.Sink.state l.sink) (take l.at l.text);
}

abbrev pub decreases-loop-at : goal.decreases-loop-at
decreases-loop-at g l = length l.text - l.at
