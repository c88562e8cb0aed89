-- A whole head is used or refused, and else none is used.
use Rattle.h1_client.proofs.ReadLemmas.{takes_stopped}
use Rattle.h1_client.proofs.answered.Answered.judge.Goals as goal

pub returns-in-Stopped-clause-takes : goal.returns-in-Stopped-clause-takes
returns-in-Stopped-clause-takes g c =
    takes_stopped c.args.tolerant c.args.transfer.now c.args.self.now c.stop.new.self c.args.request.now
    c.args.found.now c.args.read c.in-Stopped.stop c.stop.result c.in-Stopped.is c.stop.ensures.answer
    c.requires.looked c.stop.ensures.rest
