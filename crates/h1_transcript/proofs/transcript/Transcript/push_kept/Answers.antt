use Rattle.std.proofs.Common.{◌∷◌, [], refl, arith, length-append}
use Rattle.h1_transcript.proofs.EntryLemmas.{ended_next, next_goes_on, none_past}
use Rattle.h1_transcript.proofs.transcript.Transcript.push_kept.Goals as goal

pub invariant_of-self-2 : goal.invariant_of-self-2
invariant_of-self-2 c =
    let xs = c.self.inside.entries.items in
    let n = c.self.inside.ended in
    let none = rw (← c.self.view_is) at c.requires.none in
    let kept = rw (← c.self.view_is) at c.requires.kept in
    let past = none_past xs n none in
    let more = length-append xs (c.new_kept.result ∷ []) in
    rw (c.push_reserved.ensures.items, c.reserve.ensures.items) (
      omega (arith, past, more, c.self.invariant.0),
      omega (arith, past, more, c.self.invariant.0),
      c.self.invariant.2,
      rw kept (rw kept at c.self.invariant.3),
      rw (ended_next _ _ n xs c.new_kept.result none c.self.invariant.0) c.self.invariant.4,
    )

pub returns-clause-ok : goal.returns-clause-ok
returns-clause-ok c =
    let xs = c.self.inside.entries.items in
    let n = c.self.inside.ended in
    let none = rw (← c.self.view_is) at c.requires.none in (
      c.new_kept.result,
      rw (← c.self.view_is) c.new_kept.ensures,
      rw (
        ← c.self.view_is,
        c.push_reserved.ensures.items,
        c.reserve.ensures.items,
        ended_next _ _ n xs c.new_kept.result none c.self.invariant.0,
        (next_goes_on xs n c.new_kept.result none c.self.invariant.0).1,
      ) refl,
    )
