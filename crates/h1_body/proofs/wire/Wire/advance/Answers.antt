use Rattle.std.proofs.Common.{refl}
use Rattle.h1_body.proofs.WireLemmas.{drop_pieces}
use Rattle.h1_body.proofs.wire.Wire.advance.Goals as goal

pub returns : goal.returns
returns c =
    rw (← c.self.view_is, c.advance.ensures, c.advance-2.ensures)
    (drop_pieces _ _ _ c.args.count c.min-lines.result c.min-payload.result _
    (rw c.len.ensures.len at c.min-lines.ensures)
    (rw c.len-2.ensures.value at c.min-payload.ensures) refl)
