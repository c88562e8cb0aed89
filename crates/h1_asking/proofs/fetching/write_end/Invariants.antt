use Rattle.std.proofs.Common.{◌≡◌, ℕ, List, Option}
use Rattle.h1_client.specs.ClientView.{request_of}
use Rattle.h1_client.specs.Words.{RequestView}
use Rattle.h1_asking.specs.Reading.{Unread}
use Rattle.h1_asking.specs.Writing.{HasPut, bytes_behind, writer_behind}
use Rattle.h1_asking.proofs.EndLemmas.{PutsEnd}
use Rattle.h1_asking.proofs.fetching.write_end.Given as goal

abbrev pub invariant-loop : goal.invariant-loop
invariant-loop g l = record {
  request : request_of l.session ≡ request_of l.fn.session;
  settings : l.session.settings ≡ l.fn.session.settings;
  puts : (before : Option (List ℕ)) (request : RequestView) (body : Option (List ℕ))
      → HasPut g.L.Link.state before request (writer_behind request body) (bytes_behind request body)
      l.fn.session
      → PutsEnd g.L.Link.state before request body l.session.transfer.link
      l.session.transfer.outgoing;
  unread : (before : Option (List ℕ)) → Unread g.L.Link.state before l.fn.session
      → Unread g.L.Link.state before l.session;
}
