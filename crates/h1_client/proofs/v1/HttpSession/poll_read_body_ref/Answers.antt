-- What is lent is what the read gave.
use Rattle.std.proofs.Common.{refl, subst, sym}
use Rattle.h1_client.specs.Lending.{shown}
use Rattle.h1_client.specs.ReadingBody.{PartCall}
use Rattle.h1_client.proofs.v1.HttpSession.poll_read_body_ref.Goals as goal

pub returns : goal.returns
returns g c =
    let part = c.poll_read_body_bytes in
    let state = g.L.Link.state in
    let plan = g.L.Link.same_plan in
    let old = subst (λ s. PartCall state plan c.args.now s part.new.self part.result) c.self.view_is
    part.ensures in
    let lent = subst (λ told. PartCall state plan c.args.now c.args.self.now part.new.self told)
    (sym c.shown.ensures) old in (
      (
        refl,
        λ w. tt,
        subst (λ n. PartCall state plan c.args.now c.args.self.now n (shown c.shown.result))
            (sym c.self-3.view_is) lent,
      ),
      record { lends = tt },
    )
