-- One write sends a front of what is owed.
use Rattle.std.proofs.Common.{◌<◌, ◌≤◌, ◌-◌, length, arith, refl, ◌∙◌, ap, min, ◌+◌, ◌^◌}
use Rattle.h1_transfer.proofs.CalledLemmas.{called_itself, called_on}
use Rattle.h1_transfer.proofs.MovedLemmas.{sent_itself, sent_on, sent_one, sent_after_on, front_len, took}
use Rattle.h1_transfer.proofs.sending.send.Goals as goal

pub sends-init : goal.sends-init
sends-init g c = record {
  moved = sent_itself _ _ _;
  counted = omega arith;
  calls = called_itself _;
  plan = g.met.L.Link.plan_itself _;
}

pub sends-preserved : goal.sends-preserved
sends-preserved g c =
    let some : 0 < c.in-Took.count = omega arith in
    let spend : 0 < c.sends.budget = omega arith in
    let within : c.in-Took.count ≤ length c.front.result.now = c.in-Took.ensures.fits in
    let before = c.sends.invariant.moved in
    record {
      moved = rw c.in-Took.ensures.state (rw c.advance.ensures
          (sent_on before (sent_one _ _ _ _ _ c.front.ensures.front some within spend)));
      counted = c.saturating_add.ensures
          ∙ ap (λ n. min (n + c.in-Took.count) (2 ^ 64 - 1)) c.sends.invariant.counted
          ∙ sent_after_on _ _ before.piece _ _ before.bytes (front_len _ _ _ c.front.ensures.front within)
          ∙ rw c.advance.ensures;
      calls = rw (c.in-Took.ensures.state, took (g.L.Link.state c.sends.link) c.front.result.now c.in-Took.count some)
          (called_on _ _ _ _ _ c.sends.invariant.calls (record { others = refl; faults = (refl, refl); shut = refl }));
      plan = g.met.L.Link.plan_on _ _ _ c.sends.invariant.plan c.poll_write.ensures.plan;
    }
