use Rattle.std.specs.Io.KnownBytes.{Keeps}
use Rattle.std.specs.Io.Buffered.{writer_contents}
use Rattle.h1_link.proofs.closing.send_held.Given as goal

abbrev pub invariant-loop : goal.invariant-loop
invariant-loop g l =
    Keeps (writer_contents g.W.Write.contents l.fn.stream)
    (writer_contents g.W.Write.contents l.stream)
