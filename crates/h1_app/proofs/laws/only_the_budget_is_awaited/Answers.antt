-- Each wait but that for the budget is one that the poll didn't meet.
use Rattle.h1_app.proofs.WaitingLemmas.{only_budget}
use Rattle.h1_app.proofs.laws.only_the_budget_is_awaited.Goals as goal

pub returns : goal.returns
returns g c = λ filters before from to what cause reads writes pended.
    only_budget g.SV.ServeHttp.begins g.SV.ServeHttp.pends before
    (g.L.Link.state from.session.link) (g.L.Link.state to.session.link)
    from to what cause.1 reads writes pended
