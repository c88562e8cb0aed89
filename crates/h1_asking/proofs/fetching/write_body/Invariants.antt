use Rattle.std.proofs.Common.{◌≡◌, ℕ, List, [], Option}
use Rattle.h1_client.specs.ClientView.{request_of}
use Rattle.h1_client.specs.Words.{RequestView, begun, framing}
use Rattle.h1_asking.specs.Reading.{Unread}
use Rattle.h1_asking.specs.Writing.{HasPut}
use Rattle.h1_asking.proofs.PutLemmas.{PutsBody}
use Rattle.h1_asking.proofs.fetching.write_body.Given as goal

abbrev pub invariant-loop : goal.invariant-loop
invariant-loop g l = record {
  request : request_of l.session ≡ request_of l.fn.session;
  settings : l.session.settings ≡ l.fn.session.settings;
  puts : (before : Option (List ℕ)) (request : RequestView)
      → HasPut g.L.Link.state before request (begun (framing request)) [] l.fn.session
      → PutsBody g.L.Link.state before request l.fn.body l.piece l.session.transfer.link
      l.session.transfer.outgoing;
  unread : (before : Option (List ℕ)) → Unread g.L.Link.state before l.fn.session
      → Unread g.L.Link.state before l.session;
}
