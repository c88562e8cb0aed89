use Rattle.crossbeam_utils.specs.Seq.{cell_view}
use Rattle.h1_rings.proofs.put_end.PutEnd.offer.Goals as goal

pub returns-in-Err-clause-step : goal.returns-in-Err-clause-step
returns-in-Err-clause-step g c =
    let r = c.in-Err.ensures.rule in
    let held = r.2 in
    rw (← c.self.view_is) (
      r.0,
      (held.2.0, held.0, held.2.1, held.2.2, held.1),
      λ i. record {
        ring = (c.in-Err.ensures.pass.1 i, c.self.inside.own.table_id, c.self.inside.other.table_id);
        put = (r.1 i).put;
        freed = (r.1 i).taken;
        closed = (cell_view c.self.inside.own).set;
        gone = (cell_view c.self.inside.other).seen;
      },
    )
