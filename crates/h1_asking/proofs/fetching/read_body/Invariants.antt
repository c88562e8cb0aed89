use Rattle.std.proofs.Common.{◌≡◌, ℕ, List, [], Option, Some}
use Rattle.h1_client.specs.ClientView.{request_of, response_of}
use Rattle.h1_client.specs.Words.{RequestView, ResponseView}
use Rattle.h1_asking.specs.Reading.{ReadsSoFar, count_of}
use Rattle.h1_asking.proofs.fetching.read_body.Given as goal

abbrev pub invariant-loop : goal.invariant-loop
invariant-loop g l = record {
  request : request_of l.session ≡ request_of l.fn.session;
  settings : l.session.settings ≡ l.fn.session.settings;
  response : response_of l.session ≡ response_of l.fn.session;
  wrote : (g.L.Link.state l.session.transfer.link).written
      ≡ (g.L.Link.state l.fn.session.transfer.link).written;
  reads : (before : Option (List ℕ)) (request : RequestView) (said : ResponseView)
      → request_of l.fn.session ≡ Some request → response_of l.fn.session ≡ Some said
      → ReadsSoFar g.L.Link.state before request said [] l.fn.session.transfer
      → (payload : List ℕ) × ReadsSoFar g.L.Link.state before request said payload l.session.transfer
      × (l.length ≡ count_of payload);
}
