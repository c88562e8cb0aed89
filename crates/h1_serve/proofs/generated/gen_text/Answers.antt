use Rattle.std.proofs.Common.{arith}
use Rattle.h1_serving.proofs.WholeLemmas.{if_ok}
use Rattle.h1_serve.proofs.GeneratedLemmas.{told_of, gen_text_of}
use Rattle.h1_serve.proofs.generated.gen_text.Goals as goal

pub served_text-requires-clause-small : goal.served_text-requires-clause-small
served_text-requires-clause-small c =
    let told =
    told_of c.args.count c.in_ok-connection.connection c.in_ok-connection.ensures.ok in
    omega (arith, told.few, c.requires)

pub served_text-requires-clause-few : goal.served_text-requires-clause-few
served_text-requires-clause-few c =
    let many = c.in_ok-connection.ensures.ok.many in
    omega (arith, many, c.requires)

pub returns : goal.returns
returns c =
    let served = c.in_ok-connection.connection in
    if_ok c.served_text.result _ _
    (λ text told. gen_text_of c.args.count served text c.in_ok-connection.ensures.ok told)
    c.served_text.ensures
