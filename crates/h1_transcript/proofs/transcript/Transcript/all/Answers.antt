use Rattle.std.proofs.Common.{Some, sym, ap, ◌∙◌}
use Rattle.h1_transcript.proofs.EntryLemmas.{all_are}
use Rattle.h1_transcript.proofs.transcript.Transcript.all.Goals as goal

pub returns-in-Kept : goal.returns-in-Kept
returns-in-Kept c =
    rw (← c.self.view_is, c.in-Kept.is) (ap Some (c.as_slice.ensures.value
    ∙ sym (all_are c.self.inside.entries.items c.self.inside.ended c.self.invariant.1)))
