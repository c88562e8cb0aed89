use Rattle.h1_serve.specs.ListenPeer.{IsPeer}
use Rattle.h1_serve.proofs.EndsLemmas.{zero_is_done, two_is_words, three_is_script, four_is_source, five_is_sink, eight_is_acceptor}
use Rattle.h1_serve.proofs.laws.statuses_have_causes.Goals as goal

pub returns-clause-done : goal.returns-clause-done
returns-clause-done g c = zero_is_done (IsPeer g.L.Link.state g.L.Link.same_plan)

pub returns-clause-words : goal.returns-clause-words
returns-clause-words g c = two_is_words (IsPeer g.L.Link.state g.L.Link.same_plan)

pub returns-clause-script : goal.returns-clause-script
returns-clause-script g c = three_is_script (IsPeer g.L.Link.state g.L.Link.same_plan)

pub returns-clause-source : goal.returns-clause-source
returns-clause-source g c = four_is_source (IsPeer g.L.Link.state g.L.Link.same_plan)

pub returns-clause-sink : goal.returns-clause-sink
returns-clause-sink g c = five_is_sink (IsPeer g.L.Link.state g.L.Link.same_plan)

pub returns-clause-acceptor : goal.returns-clause-acceptor
returns-clause-acceptor g c = eight_is_acceptor (IsPeer g.L.Link.state g.L.Link.same_plan)
