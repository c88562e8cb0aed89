use Rattle.std.proofs.Common.{◌≡◌, ◌+◌, ◌-◌, ◌≤◌, refl, sym, ap, subst, arith}
use Rattle.std.specs.Option.{option_copied}
use Rattle.h1_asking.specs.Fetching.{Fetches, FetchFault}
use Rattle.h1_fetch.specs.Getting.{GetCause, peer_at}
use Rattle.h1_fetch.specs.Request.{request_for, whole_request}
use Rattle.h1_fetch.specs.Telling.{GivesUp}
use Rattle.h1_fetch.proofs.GetLemmas.{GetsSoFar, done_cause, gets_more, gets_none, gives_up, one_few, reused_few}
use Rattle.h1_fetch.proofs.getting.get.Goals as goal

pub loop-number-init : goal.loop-number-init
loop-number-init g c = record {
  far = gets_none g.D.Link.Link.state g.D.Dialer.state _ _ _ _;
  quiet = refl;
}

pub overflow_add-reused : goal.overflow_add-reused
overflow_add-reused g c =
    let few = reused_few g.D.Link.Link.state g.D.Dialer.state _ _ _ _ _ _ _ _
    c.loop-number.invariant.far in
    let one = one_few c.in-Ok-ask_for.fetched.is_reused in
    omega (arith, few, one, c.one_if-reused.ensures, c.loop-number-test.true, c.ranges.asked)

pub returns-in-Err : goal.returns-in-Err
returns-in-Err g c =
    gives_up g.D.Link.Link.state g.D.Dialer.state (peer_at c.args.asked.port) _ c.args.asked.count
    c.loop-number.number _ _ _ _ _ _ _ c.in-Err.fault c.give_up.result c.loop-number-test.true
    c.loop-number.invariant.far.gets
    (subst (λ p. FetchFault g.D.Link.Link.state g.D.Dialer.state p c.loop-number.dialer
    c.ask_for.new.dialer c.in-Err.fault) c.peer_at-peer.ensures c.in-Err.ensures.err)
    (subst (λ m. GivesUp m (g.M.Sink.state c.give_up.new.messages) c.loop-number.number c.in-Err.fault
    c.give_up.result) c.loop-number.invariant.quiet c.give_up.ensures)

pub loop-number-preserved : goal.loop-number-preserved
loop-number-preserved g c = record {
  far = gets_more g.D.Link.Link.state g.D.Dialer.state (peer_at c.args.asked.port)
      (whole_request c.args.asked.path.now (option_copied c.args.asked.body)) c.loop-number.number
      c.loop-number.reused _ _ _ _ _ _ _ c.in-Ok-ask_for.fetched c.loop-number.invariant.far
      (subst (λ p. Fetches g.D.Link.Link.state g.D.Dialer.state p
      (request_for c.args.asked.path.now (option_copied c.args.asked.body))
      (option_copied c.args.asked.body) c.loop-number.dialer c.ask_for.new.dialer
      c.in-Ok-ask_for.fetched) c.peer_at-peer.ensures c.in-Ok-ask_for.ensures.ok)
      c.in_default-tell.ensures.ok (ap (λ n. c.loop-number.reused + n) c.one_if-reused.ensures);
  quiet = c.loop-number.invariant.quiet;
}

pub overflow_sub-asked : goal.overflow_sub-asked
overflow_sub-asked g c =
    let few = reused_few g.D.Link.Link.state g.D.Dialer.state _ _ _ _ _ _ _ _
    c.loop-number.invariant.far in
    omega (arith, few, c.loop-number.auto.number-end)

pub returns : goal.returns
returns g c =
    let request = whole_request c.args.asked.path.now (option_copied c.args.asked.body) in
    let few = reused_few g.D.Link.Link.state g.D.Dialer.state _ _ _ _ _ _ _ _
    c.loop-number.invariant.far in
    let most : c.loop-number.reused ≤ c.args.asked.count =
    omega (arith, few, c.loop-number.auto.number-end) in
    let sum : (c.args.asked.count - c.loop-number.reused) + c.loop-number.reused ≡ c.args.asked.count =
    omega (arith, most) in
    let all : c.loop-number.number ≡ c.args.asked.count =
    omega (arith, c.loop-number-test.false, c.loop-number.auto.number-end) in
    subst (λ m. GetCause g.D.Link.Link.state g.D.Dialer.state (peer_at c.args.asked.port) request
    c.args.asked.count (g.K.Sink.state c.args.sink.now) (g.K.Sink.state c.tell_links.new.sink)
    (g.M.Sink.state c.args.messages.now) m c.args.dialer.now c.loop-number.dialer c.tell_links.result)
    (sym c.loop-number.invariant.quiet)
    (done_cause g.D.Link.Link.state g.D.Dialer.state (peer_at c.args.asked.port) request
    c.args.asked.count (c.args.asked.count - c.loop-number.reused) c.loop-number.reused _ _ _ _ _ _
    c.tell_links.result
    (subst (λ n. GetsSoFar g.D.Link.Link.state g.D.Dialer.state (peer_at c.args.asked.port) request n
    c.loop-number.reused (g.K.Sink.state c.args.sink.now) (g.K.Sink.state c.loop-number.sink)
    c.args.dialer.now c.loop-number.dialer) all c.loop-number.invariant.far)
    sum c.tell_links.ensures)
