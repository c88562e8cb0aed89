-- Every end is one of a connection that served all.
use Rattle.h1_transcript.proofs.ServedLemmas.{served}
use Rattle.h1_app.proofs.laws.valid_input_is_served.Goals as goal

pub returns : goal.returns
returns g c = λ app filters. served (record { gives = g.SV.ServeHttp.gives app; filters = filters })
