-- Each look takes the latest release out.
use Rattle.std.proofs.Common.{◌+◌, ◌-◌, ◌^◌, min, ap, ◌∙◌, sym}
use Rattle.h1_client.proofs.PickLemmas.{looked_more, picks_fresh}
use Rattle.h1_client.proofs.pool.Pool.pick_idle.Goals as goal

pub returns-in-Some-fresh : goal.returns-in-Some-fresh
returns-in-Some-fresh g c =
    picks_fresh _ _ _ _ _ _ _ _ _ _ c.probe-probe.result c.picks.invariant c.in-Some.ensures.takes
    c.in-Some.ensures.keyed c.probe-probe.ensures.probes
    (sym c.fresh.ensures ∙ c.in-Some-fresh.is)
    (c.saturating_add-unasked.ensures
    ∙ ap (λ n. min (c.picks.unasked + n) (2 ^ 64 - 1)) c.unasked.ensures)

pub picks-preserved : goal.picks-preserved
picks-preserved g c =
    looked_more _ _ _ _ _ _ _ _ _ c.probe-probe.result c.picks.invariant c.in-Some.ensures.takes
    c.probe-probe.ensures.probes
    (sym c.fresh.ensures ∙ c.in_default-fresh.is)
    (c.saturating_add-unasked.ensures
    ∙ ap (λ n. min (c.picks.unasked + n) (2 ^ 64 - 1)) c.unasked.ensures)
