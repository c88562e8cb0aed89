use Rattle.std.proofs.Common.{◌+◌, ◌-◌, ◌^◌, min, take, slice_get, ap, ◌∙◌, arith}
use Rattle.std.proofs.lemmas.Option.{slice_get_past}
use Rattle.h1_transcript.proofs.EntryLemmas.{last_is, more_payload, one_more_ended, some_within}
use Rattle.h1_transcript.proofs.transcript.Transcript.end_kept.Goals as goal

pub invariant_of-self : goal.invariant_of-self
invariant_of-self c =
    let xs = c.self.inside.entries.items in
    let n = c.self.inside.ended in
    let some = rw (← c.self.view_is) at c.requires.last in
    let kept = rw (← c.self.view_is) at c.requires.kept in
    let here = last_is xs n c.index.result.now some c.index.ensures in
    let within = some_within xs n some in (
      omega (arith, within),
      omega (arith, c.self.invariant.1),
      c.self.invariant.2,
      c.self.invariant.3,
      rw (kept, one_more_ended xs n) (c.saturating_add-self-inside.ensures
          ∙ ap (λ n. min (c.self.inside.payload + n) (2 ^ 64 - 1)) c.body_len-read.ensures.value
          ∙ more_payload (take n xs) (slice_get xs n) c.index.result.now c.self.inside.payload here
          (rw kept at c.self.invariant.4)),
    )

pub returns-clause-done : goal.returns-clause-done
returns-clause-done c =
    let kept = rw (← c.self.view_is) at c.requires.kept in
    rw (← c.self.view_is, kept) (one_more_ended c.self.inside.entries.items c.self.inside.ended)

pub returns-clause-last : goal.returns-clause-last
returns-clause-last c =
    slice_get_past c.self.inside.entries.items (c.self.inside.ended + 1) c.self.invariant.1
