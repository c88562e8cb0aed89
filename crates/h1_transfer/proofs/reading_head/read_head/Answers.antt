-- Each read puts what it gave after what is received.
use Rattle.std.proofs.Common.{◌≤◌, arith, refl, ◌∙◌, inl, inr}
use Rattle.std.proofs.lemmas.Bool.{cases_lt}
use Rattle.h1_transfer.specs.Words.{Got, End}
use Rattle.h1_cut.proofs.SearchLemmas.{HasLooked-append}
use Rattle.h1_transfer.proofs.CalledLemmas.{called_itself, called_on}
use Rattle.h1_transfer.proofs.MovedLemmas.{read_nothing, received_itself, received_fills, receives_free}
use Rattle.h1_transfer.proofs.reading_head.read_head.Goals as goal

pub reads-init : goal.reads-init
reads-init g c = record {
  moved = received_itself _ _ _;
  waits = refl;
  parsed = λ less. absurd (omega (arith, less));
  calls = called_itself _;
  looked = c.requires.looked;
  plan = g.met.L.Link.plan_itself _;
}

pub reads-preserved : goal.reads-preserved
reads-preserved g c =
    let looked = rw c.as_slice.ensures at c.in-Ok-NotYet.ensures.looked in
    let lacks = rw (c.as_slice.ensures, c.in-Ok-NotYet.field-0-is) at c.in-Ok-NotYet.ensures.ok in
    let spend : 1 ≤ c.reads.budget = omega arith in
    record {
      moved = received_fills _ _ _ _ _ _ _ _ Got c.reads.invariant.moved c.in-Got.ensures.fills spend;
      waits = c.in-Got.ensures.fills.cause.1 ∙ c.reads.invariant.waits;
      parsed = λ _. elim (cases_lt c.reads.budget c.args.budget.now) [
        | inl less ↦ c.reads.invariant.parsed less
        | inr first ↦ read_nothing _ _ _ _ _ _ g.H.Head.lacks c.reads.invariant.moved first lacks
      ];
      calls = called_on _ _ _ _ _ c.reads.invariant.calls c.in-Got.ensures.calls;
      looked = rw c.in-Got.ensures.fills.bytes (HasLooked-append _ _ _ _ looked);
      plan = g.met.L.Link.plan_on _ _ _ c.reads.invariant.plan c.fill.ensures.plan;
    }

pub returns-in-End-clause-receives : goal.returns-in-End-clause-receives
returns-in-End-clause-receives g c =
    receives_free _ _ _ _ _ _ _ _ _ End refl c.reads.invariant.moved c.reads.invariant.waits
    c.reads.invariant.parsed c.in-End.ensures.fills

pub returns-in-End-2-clause-receives : goal.returns-in-End-2-clause-receives
returns-in-End-2-clause-receives g c =
    receives_free _ _ _ _ _ _ _ _ _ End refl c.reads.invariant.moved c.reads.invariant.waits
    c.reads.invariant.parsed c.in-End-2.ensures.fills
