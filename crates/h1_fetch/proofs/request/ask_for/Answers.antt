use Rattle.std.proofs.Common.{IfOk, subst}
use Rattle.std.specs.Option.{option_copied}
use Rattle.h1_asking.specs.Fetching.{Fetches}
use Rattle.h1_fetch.specs.Request.{request_for}
use Rattle.h1_fetch.proofs.request.ask_for.Goals as goal

pub returns-clause-ok : goal.returns-clause-ok
returns-clause-ok g c =
    let body = option_copied c.args.body in
    subst (λ b. IfOk c.fetch.result (Fetches g.D.Link.Link.state g.D.Dialer.state c.args.peer.now
    (request_for c.args.path.now body) b c.args.dialer.now c.fetch.new.dialer)) c.in-Ok-body_for.ensures
    (subst (λ h. IfOk c.fetch.result (Fetches g.D.Link.Link.state g.D.Dialer.state c.args.peer.now h
    c.in-Ok-body_for.body c.args.dialer.now c.fetch.new.dialer)) c.in-Ok.ensures c.fetch.ensures.ok)
