use Rattle.std.proofs.Common.{◌≡◌, None, rules}
use Rattle.h1_client.specs.ClientView.{response_of}
use Rattle.h1_asking.proofs.ReadLemmas.{heads_on}
use Rattle.h1_asking.proofs.StillLemmas.{head_wrote}
use Rattle.h1_asking.proofs.turns.read_response.Goals as goal

pub returns-clause-reads : goal.returns-clause-reads
returns-clause-reads g c before request asked far =
    let none : response_of c.args.session.now ≡ None = search rules in
    heads_on g.L.Link.state before request c.args.now c.args.session.now
    c.poll_read_response.new.self c.poll_read_response.result _ c.poll_read_response.ensures.again
    c.poll_read_response.ensures.reads asked none far

pub returns-clause-wrote : goal.returns-clause-wrote
returns-clause-wrote g c =
    head_wrote g.L.Link.state c.args.now c.args.session.now c.poll_read_response.new.self
    c.poll_read_response.result _ c.poll_read_response.ensures.again c.poll_read_response.ensures.reads
