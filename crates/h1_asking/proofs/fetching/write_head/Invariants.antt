use Rattle.std.proofs.Common.{◌≡◌, ℕ, List, Option}
use Rattle.h1_client.specs.ClientView.{request_of}
use Rattle.h1_asking.specs.Reading.{Unread}
use Rattle.h1_asking.specs.Turns.{IsHandedOver}
use Rattle.h1_asking.proofs.PutLemmas.{PutsHead}
use Rattle.h1_asking.proofs.fetching.write_head.Given as goal

abbrev pub invariant-loop : goal.invariant-loop
invariant-loop g l = record {
  handed : IsHandedOver l.fn.head l.handed (request_of l.session);
  settings : l.session.settings ≡ l.fn.session.settings;
  puts : PutsHead g.L.Link.state (g.L.Link.state l.fn.session.transfer.link).written l.fn.head l.handed
      l.session.transfer.link l.session.transfer.outgoing;
  unread : (before : Option (List ℕ)) → Unread g.L.Link.state before l.fn.session
      → Unread g.L.Link.state before l.session;
}
