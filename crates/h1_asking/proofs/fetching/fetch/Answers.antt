use Rattle.std.proofs.Common.{◌∙◌}
use Rattle.h1_asking.proofs.FetchLemmas.{handed_key, response_cause, server_cause}
use Rattle.h1_asking.proofs.fetching.fetch.Goals as goal

pub returns-in-Err-clause-err : goal.returns-in-Err-clause-err
returns-in-Err-clause-err g c =
    server_cause g.D.Link.Link.state g.D.Dialer.state c.args.peer.now _ _ c.in-Err.error _
    c.in-Err.ensures.err c.server_fault.ensures

pub returns-in-Err-exchange-clause-err : goal.returns-in-Err-exchange-clause-err
returns-in-Err-exchange-clause-err g c =
    response_cause g.D.Link.Link.state g.D.Dialer.state c.args.peer.now _ _ _ _
    c.in-Err-exchange.error _ c.in-Ok.ensures.ok c.response_fault.ensures

pub release_http_session-requires : goal.release_http_session-requires
release_http_session-requires g c =
    c.in-Ok-exchange.ensures.key
    ∙ handed_key g.D.Link.Link.state g.D.Dialer.state c.args.peer.now c.in-Ok.ensures.ok.between _
    c.in-Ok.handed.0 c.in-Ok.handed.1 c.in-Ok.ensures.ok.answer

pub returns-in-Ok-release_http_session-clause-ok : goal.returns-in-Ok-release_http_session-clause-ok
returns-in-Ok-release_http_session-clause-ok g c = record {
  session = c.in-Ok.handed.0;
  connects = c.in-Ok.ensures.ok;
  left = c.exchange.new.session;
  exchanges = c.in-Ok-exchange.ensures.ok;
  kept = c.in-Ok-release_http_session.ensures.ok;
}
