use Rattle.std.proofs.Common.{◌≡◌, ℕ, List, Option, Some}
use Rattle.h1_client.specs.ClientView.{request_of, response_of}
use Rattle.h1_client.specs.Words.{RequestView}
use Rattle.h1_asking.specs.Reading.{ReadsHeads, Unread}
use Rattle.h1_asking.proofs.fetching.read_head.Given as goal

abbrev pub invariant-loop : goal.invariant-loop
invariant-loop g l = record {
  request : request_of l.session ≡ request_of l.fn.session;
  settings : l.session.settings ≡ l.fn.session.settings;
  wrote : (g.L.Link.state l.session.transfer.link).written
      ≡ (g.L.Link.state l.fn.session.transfer.link).written;
  reads : (before : Option (List ℕ)) (request : RequestView)
      → request_of l.fn.session ≡ Some request → Unread g.L.Link.state before l.fn.session
      → ReadsHeads g.L.Link.state before request l.session.transfer (response_of l.session);
}
