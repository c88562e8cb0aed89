use Rattle.std.proofs.Common.{refl, ap, arith, inl, ◌∙◌}
use Rattle.h1_serve.proofs.ListenLemmas.{served_none, served_more, stopped_cause, accepts_more}
use Rattle.h1_serve.specs.ListenPeer.{IsPeer}
use Rattle.h1_serve.proofs.listening.listen.Goals as goal

pub returns-then-not-bind-clause-cause : goal.returns-then-not-bind-clause-cause
returns-then-not-bind-clause-cause g c =
    let is = c.if-not-bind.ensures.state in (
      0,
      omega arith,
      served_none (IsPeer g.A.Link.Link.state g.A.Link.Link.same_plan) 1 _ _ _ _ _ _ refl
          (ap (λ s. s.accepted) is) (ap (λ s. s.handed_back) is) (ap (λ s. s.accept_faults) is) refl,
    )

pub returns-in-Err-clause-cause : goal.returns-in-Err-clause-cause
returns-in-Err-clause-cause g c =
    stopped_cause (IsPeer g.A.Link.Link.state g.A.Link.Link.same_plan) c.args.port c.args.count
    c.loop-number.number _ _ _ _ _ _ _ _ _ c.in-Err.status
    (omega (arith, c.loop-number-test.true)) c.loop-number.invariant.0 c.in-Err.ensures.err

pub returns-in-Err-clause-net : goal.returns-in-Err-clause-net
returns-in-Err-clause-net g c =
    inl (accepts_more (IsPeer g.A.Link.Link.state g.A.Link.Link.same_plan) c.args.port
    c.args.count c.loop-number.number _ _ _ _ _ _ _ (omega (arith, c.loop-number-test.true))
    c.loop-number.invariant.1 c.loop-number.invariant.0 c.serve_next.ensures.net)

pub loop-number-preserved : goal.loop-number-preserved
loop-number-preserved g c =
    let on = c.serve_next.ensures.clock in
    let since = c.loop-number.invariant.2 in (
      served_more (IsPeer g.A.Link.Link.state g.A.Link.Link.same_plan) c.loop-number.number _ _ _ _
          _ _ _ _ _ c.loop-number.invariant.0 c.in_default.ensures.ok,
      c.serve_next.ensures.net.port ∙ c.loop-number.invariant.1,
      (omega (arith, since, on), omega (arith, since, on)),
    )
