use Rattle.std.proofs.Common.{◌≡◌, inr, subst, arith}
use Rattle.h1_asking.proofs.FetchLemmas.{waits_more}
use Rattle.h1_asking.specs.Fetching.{AfterWaits}
use Rattle.h1_asking.specs.declared.fetching.TheConstants.{MOST_POLLS}
use Rattle.h1_asking.proofs.fetching.connect.Goals as goal

pub loop-waits-preserved : goal.loop-waits-preserved
loop-waits-preserved g c =
    waits_more g.D.Link.Link.state g.D.Dialer.state c.args.peer.now c.loop-waits.waits _ _ _
    c.loop-waits.invariant c.in-Pending.ensures.answer

pub returns-clause-err : goal.returns-clause-err
returns-clause-err g c =
    let all : c.loop-waits.waits ≡ MOST_POLLS =
    omega (arith, c.loop-waits-test.false, c.loop-waits.auto.waits-end) in
    inr (
      c.from.ensures,
      subst (λ n. AfterWaits g.D.Link.Link.state g.D.Dialer.state c.args.peer.now n c.args.dialer.now
          c.loop-waits.dialer) all c.loop-waits.invariant,
    )
