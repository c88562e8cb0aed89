-- Each turn reads payload on.
use Rattle.std.proofs.Common.{[], refl, ◌++◌, ◌∙◌, arith}
use Rattle.h1_transfer.proofs.CalledLemmas.{called_itself, called_on}
use Rattle.h1_transfer.proofs.BodyLemmas.{parsed_behind, reads_body_itself, reads_body_on, drains_less}
use Rattle.h1_transfer.proofs.reading_body.drain_rest.Goals as goal

pub drains-init : goal.drains-init
drains-init g c = record {
  moved = ([], reads_body_itself _ _ _ _ _);
  waits = refl;
  alive = refl;
  parsed = λ less. absurd (omega (arith, less));
  calls = called_itself _;
  plan = g.met.L.Link.plan_itself _;
}

pub drains-preserved : goal.drains-preserved
drains-preserved g c =
    let before = c.drains.invariant in
    let read = c.in-Piece.ensures in
    record {
      moved = (before.moved.0 ++ c.in-Piece.payload, reads_body_on before.moved.1 read.reads);
      waits = read.cause.1 ∙ before.waits;
      alive = read.cause.2 ∙ before.alive;
      parsed = parsed_behind before.moved.1 before.parsed read.parsed;
      calls = called_on _ _ _ _ _ before.calls read.calls;
      plan = g.met.L.Link.plan_on _ _ _ before.plan read.plan;
    }

pub drains-smaller : goal.drains-smaller
drains-smaller g c = drains_less c.in-Piece.ensures.reads c.in-Piece.ensures.cause.0
    (omega (arith, c.len-left_over.ensures.bound, c.len-left_over.ensures.value))

pub returns-in-Stopped-clause-parsed : goal.returns-in-Stopped-clause-parsed
returns-in-Stopped-clause-parsed g c =
    parsed_behind c.drains.invariant.moved.1 c.drains.invariant.parsed c.in-Stopped.ensures.parsed

pub returns-in-Stopped-clause-reads : goal.returns-in-Stopped-clause-reads
returns-in-Stopped-clause-reads g c = (
  c.drains.invariant.moved.0 ++ [],
  reads_body_on c.drains.invariant.moved.1 c.in-Stopped.ensures.reads,
)
