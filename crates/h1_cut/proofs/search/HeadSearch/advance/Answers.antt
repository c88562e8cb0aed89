use Rattle.h1_cut.proofs.SearchLemmas.{advanced, cut_without_limit}
use Rattle.h1_cut.proofs.search.HeadSearch.advance.Goals as goal

pub returns-clause-exact : goal.returns-clause-exact
returns-clause-exact g c =
    cut_without_limit c.advance_within.result c.args.bytes.now _ c.len.ensures c.advance_within.ensures.exact

pub returns-clause-advanced : goal.returns-clause-advanced
returns-clause-advanced g c =
    let w = c.advance_within.ensures in
    let finds = cut_without_limit c.advance_within.result c.args.bytes.now _ c.len.ensures w.exact in
    advanced c.advance_within.result _ _ c.args.bytes.now _ _ _ c.len.ensures finds w.looked w.at w.steps
