-- The reading goes on from call to call.
use Rattle.std.proofs.Common.{Some, arith, ◌∙◌}
use Rattle.h1_echo.proofs.EchoLemmas.{limit_further, reading_itself, reading_on}
use Rattle.h1_application.proofs.ReadLemmas.{reads_on}
use Rattle.h1_application.proofs.TimeLemmas.{in_time_on}
use Rattle.h1_echo.proofs.echo.read_body.Goals as goal

pub reads-init : goal.reads-init
reads-init g c = record {
  reading = reading_itself g.L.Link.state c.args.now _ c.requires.request c.requires.kept c.requires.budget;
  plan = g.met.L.Link.plan_itself _;
}

pub returns-in-Some-clause-reads : goal.returns-in-Some-clause-reads
returns-in-Some-clause-reads g c =
    reads_on g.L.Link.state _ _ _
    c.reads.invariant.reading.only c.reads.invariant.reading.free c.read_piece.ensures.reads

pub returns-in-Some-clause-timed : goal.returns-in-Some-clause-timed
returns-in-Some-clause-timed g c =
    in_time_on g.L.Link.state c.args.now _ _ _
    c.reads.invariant.reading.free.refused c.reads.invariant.reading.timed c.read_piece.ensures.timed

pub returns-in-Some-clause-limit : goal.returns-in-Some-clause-limit
returns-in-Some-clause-limit g c =
    limit_further (Some c.in-Some.stopped) _ _ _ _ c.read_piece.new.http.read_limit c.reads.invariant.reading.settings c.reads.invariant.reading.limit
    c.in-Some.ensures.limit

pub returns-in-Some-clause-plan : goal.returns-in-Some-clause-plan
returns-in-Some-clause-plan g c = g.met.L.Link.plan_on _ _ _ c.reads.invariant.plan c.read_piece.ensures.plan

pub returns-in-Some-clause-settings : goal.returns-in-Some-clause-settings
returns-in-Some-clause-settings g c = c.read_piece.ensures.settings ∙ c.reads.invariant.reading.settings

pub reads-smaller : goal.reads-smaller
reads-smaller g c = let longer = c.in-None.ensures.longer in omega arith

pub reads-preserved : goal.reads-preserved
reads-preserved g c = record {
  reading = reading_on g.L.Link.state c.args.now _ _ _ c.reads.invariant.reading
      c.read_piece.ensures.reads c.read_piece.ensures.timed c.in-None.ensures.limit
      c.in-None.ensures.cause c.read_piece.ensures.settings;
  plan = g.met.L.Link.plan_on _ _ _ c.reads.invariant.plan c.read_piece.ensures.plan;
}
