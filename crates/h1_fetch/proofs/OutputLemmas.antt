-- Lemmas on what a sink took.
use Rattle.std.proofs.Common.{◌≡◌, ℕ, ◌+◌, ◌-◌, List, length, take, drop, sym, ap, ◌∙◌, length-drop, arith}
use Rattle.std.proofs.lemmas.Bool.{ne_eqb}
use Rattle.std.proofs.lemmas.List.{take_all}
use Rattle.std.proofs.Math.Seq.{take-add}
use Rattle.std.specs.Io.KnownBytes.{append_known}
use Rattle.h1_link.specs.SinkState.{SinkState, after_sink_write}
use Rattle.h1_link.specs.declared.sink.SinkStep.TheVariants as step
use Rattle.h1_link.proofs.Laters.{append_known-on}
use Rattle.h1_fetch.specs.Output.{Took}

-- what is left from a place on
left_from : (text : List ℕ) (at : ℕ) → take (length text - at) (drop at text) ≡ drop at text
left_from text at = take_all (length text - at) (drop at text) (omega (arith, length-drop at text))

-- a write of a part of what is left is after what was taken
pub took_more : (before now after : SinkState) (text : List ℕ) (at n : ℕ)
    → Took before now (take at text) → (n ≡ 0 → ⊥)
    → after ≡ after_sink_write now (take (length text - at) (drop at text)) (step.Took n)
    → Took before after (take (at + n) text)
took_more before now after text at n took some state =
    let e = rw (ne_eqb n 0 some, left_from text at) at state in
    let moved : after.taken ≡ append_known now.taken (take n (drop at text)) = ap (λ (s : SinkState). s.taken) e in
    let front = ap (λ known. append_known known (take n (drop at text))) took.taken in
    let whole = append_known-on before.taken (take at text) (take n (drop at text)) in
    record {
      taken = moved ∙ front ∙ whole ∙ ap (append_known before.taken) (sym (take-add at n text));
      faults = ap (λ (s : SinkState). s.faults) e ∙ took.faults;
    }
