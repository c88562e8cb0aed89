-- Each turn uses what is received, and then reads once.
use Rattle.std.proofs.Common.{arith, refl, ◌∙◌, inl, inr}
use Rattle.std.proofs.lemmas.Bool.{cases_lt}
use Rattle.h1_transfer.proofs.CalledLemmas.{called_itself, called_on}
use Rattle.h1_transfer.proofs.BodyLemmas.{parsed_first, reads_body_itself, body_took, body_filled}
use Rattle.h1_transfer.proofs.reading_body.read_body.Goals as goal

pub reads-init : goal.reads-init
reads-init g c = record {
  moved = reads_body_itself _ _ _ _ _;
  waits = refl;
  alive = refl;
  parsed = λ less. absurd (omega (arith, less));
  calls = called_itself _;
  plan = g.met.L.Link.plan_itself _;
}

pub reads-preserved : goal.reads-preserved
reads-preserved g c =
    let before = c.reads.invariant in
    let step = c.in-Ok-Lacks in
    let took = body_took before.moved step.field-0-is step.ensures in
    let lacks = (rw step.field-0-is at step.ensures).1 in
    record {
      moved = body_filled before.moved step.field-0-is step.ensures c.in-Got.ensures.fills (omega arith);
      waits = c.in-Got.ensures.fills.cause.1 ∙ before.waits;
      alive = c.in-Got.ensures.fills.cause.2 ∙ before.alive;
      parsed = λ _. elim (cases_lt c.reads.budget c.args.budget.now) [
        | inl less ↦ before.parsed less
        | inr first ↦ parsed_first took first lacks
      ];
      calls = called_on _ _ _ _ _ before.calls c.in-Got.ensures.calls;
      plan = g.met.L.Link.plan_on _ _ _ before.plan c.fill_on.ensures.plan;
    }
