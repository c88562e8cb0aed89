use Rattle.std.proofs.Common.{◌+◌, ◌-◌, ◌^◌, ◌≤◌, ◌≡◌, ◌++◌, ◌∷◌, [], length, min, option_to_list, slice_get, ap, sym, ◌∙◌, length-append, arith}
use Rattle.std.proofs.lemmas.Option.{slice_get_past}
use Rattle.h1_transcript.specs.Entries.{exchanges_of}
use Rattle.h1_transcript.proofs.EntryLemmas.{last_is, more_payload, noted_behind, same_length, some_within}
use Rattle.h1_transcript.proofs.transcript.Transcript.end_forgotten.Goals as goal

pub invariant_of-self : goal.invariant_of-self
invariant_of-self c =
    let xs = c.self.inside.entries.items in
    let n = c.self.inside.ended in
    let past = exchanges_of c.self.inside.past.items in
    let some = rw (← c.self.view_is) at c.requires.last in
    let gone = rw (← c.self.view_is) at c.requires.forgotten in
    let here = last_is xs n c.index.result.now some c.index.ensures in
    let there = last_is xs n c.index-2.result.now some c.index-2.ensures in
    let within = some_within xs n some in
    let few : length xs ≤ 1 = rw gone at c.self.invariant.3 in
    let same = same_length xs n c.release.new.self in
    let noted : exchanges_of c.and-self-inside.result.items ≡ past ++ option_to_list (slice_get xs n) =
    ap exchanges_of c.and-self-inside.ensures
    ∙ noted_behind c.self.inside.past.items c.index-2.result.now
    ∙ ap (λ last. past ++ option_to_list last) (sym there) in
    let one = length-append past (c.index-2.result.now ∷ []) in (
      omega (arith, same, within),
      omega (arith, same, few),
      rw (noted, there) (omega (arith, one, c.self.invariant.2, c.saturating_add-self-inside-2.ensures)),
      rw gone (omega (arith, same, few)),
      rw (gone, noted) (c.saturating_add-self-inside.ensures
          ∙ ap (λ n. min (c.self.inside.payload + n) (2 ^ 64 - 1)) c.body_len-read.ensures.value
          ∙ more_payload past (slice_get xs n) c.index.result.now c.self.inside.payload here
          (rw gone at c.self.invariant.4)),
    )

pub returns-clause-done : goal.returns-clause-done
returns-clause-done c =
    let xs = c.self.inside.entries.items in
    let n = c.self.inside.ended in
    let some = rw (← c.self.view_is) at c.requires.last in
    let gone = rw (← c.self.view_is) at c.requires.forgotten in
    let there = last_is xs n c.index-2.result.now some c.index-2.ensures in
    rw (← c.self.view_is, gone, there) (ap exchanges_of c.and-self-inside.ensures
    ∙ noted_behind c.self.inside.past.items c.index-2.result.now)

pub returns-clause-last : goal.returns-clause-last
returns-clause-last c =
    let xs = c.self.inside.entries.items in
    let gone = rw (← c.self.view_is) at c.requires.forgotten in
    let few : length xs ≤ 1 = rw gone at c.self.invariant.3 in
    let same = same_length xs c.self.inside.ended c.release.new.self in
    slice_get_past _ 1 (omega (arith, same, few))
