use Rattle.std.proofs.Common.{refl, ap, ◌∙◌}
use Rattle.h1_link.specs.AcceptorState.{after_hand_back}
use Rattle.h1_serving.specs.Peer.{clock_of}
use Rattle.h1_serve.proofs.listening.answer_next.Goals as goal

pub returns-clause-answer : goal.returns-clause-answer
returns-clause-answer g c = record {
  peer = record {
    answer = c.serve_echo-answer.result.0;
    left = g.A.Link.Link.state c.serve_echo-answer.result.1;
    began = clock_of g.T.Clock.moment g.T.Clock.asked c.args.clock.now;
    ended = clock_of g.T.Clock.moment g.T.Clock.asked c.serve_echo-answer.new.clock;
  };
  is = refl;
  served = record {
    start = c.in_ok-link.link;
    fresh = c.in_ok-link.ensures.fresh;
    behind = c.serve_echo-answer.result.1;
    left = refl;
    answered = c.serve_echo-answer.ensures.answer;
  };
  began = refl;
  ended = refl;
  accepted = c.hand_back.ensures.state
      ∙ ap (λ s. after_hand_back s (g.A.Link.Link.state c.serve_echo-answer.result.1))
      c.in_ok-link.ensures.state;
}
