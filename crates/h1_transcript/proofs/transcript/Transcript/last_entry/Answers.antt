use Rattle.std.proofs.Common.{refl}
use Rattle.h1_transcript.proofs.EntryLemmas.{ended_same, last_changes, last_is}
use Rattle.h1_transcript.proofs.transcript.Transcript.last_entry.Goals as goal

pub returns : goal.returns
returns c =
    let entries = c.self.inside.entries.items in
    let some = rw (← c.self.view_is) at c.requires in
    rw (← c.self.view_is) (
      (
        refl,
        λ w. rw (
          ended_same _ _ c.self.inside.ended entries w some,
          (last_changes entries c.self.inside.ended w some).1,
        ) refl,
      ),
      record {
        lends = tt;
        value = last_is entries c.self.inside.ended c.index_mut.result.now some
            c.index_mut.ensures.value;
      },
    )
