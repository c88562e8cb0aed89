use Rattle.std.proofs.Common.{◌∙◌}
use Rattle.h1_fields.proofs.SpanLemmas.{found_more, line_found}
use Rattle.h1_fields.proofs.KindLemmas.{known_found}
use Rattle.h1_fields.proofs.head.HeadLines.read.Goals as goal

pub loop-span-preserved : goal.loop-span-preserved
loop-span-preserved c =
    let before = c.loop-span.invariant in
    let added = c.in_ok-push.ensures.ok in
    let place = rw c.as_slice.ensures at c.of_header.ensures in
    let noted = rw (c.of.ensures, c.as_slice-in-loop-span.ensures) at c.note.ensures in (
      before.0,
      known_found _ _ _ _ _ _ _ _ _ before.1 place added noted c.len-at.ensures.value,
      line_found _ _ _ _ _ _ before.1.0 place added
          ∙ found_more _ _ _ _ _ c.loop-span-test.true before.2,
    )
