use Rattle.std.proofs.Common.{◌≡◌, map, take}
use Rattle.httparse.specs.Spans.{header_bytes}
use Rattle.h1_fields.specs.Kinds.{AreKnown}
use Rattle.h1_fields.specs.Spans.{lines_of}
use Rattle.h1_fields.proofs.head.HeadLines.read.Given as goal

abbrev pub invariant-loop-span : goal.invariant-loop-span
invariant-loop-span l =
    (l.self-inside.head ≡ l.head)
    × AreKnown l.head l.self-inside.lines.items l.self-inside.kinds
    × (lines_of l.head l.self-inside.lines.items
    ≡ map (header_bytes l.head) (take l.span-index l.spans))
