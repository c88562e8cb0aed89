use Rattle.std.proofs.Common.{ℕ, min, ap, ◌∙◌}
use Rattle.h1_cut.proofs.SearchLemmas.{finds_behind, finds_within, front_is, looked_on}
use Rattle.h1_cut.proofs.search.HeadSearch.advance_within.Goals as goal

pub returns-clause-exact : goal.returns-clause-exact
returns-clause-exact g c =
    let limit = c.args.limit in
    let bytes = c.args.bytes.now in
    let is = front_is limit _ bytes _ c.front.ensures
    (c.min.ensures ∙ ap (λ (n : ℕ). min limit n) c.len.ensures) in
    let behind = finds_behind limit c.args.self.now c.look.new.self bytes _ c.requires is c.look.ensures.kept in
    finds_within limit c.look.new.self bytes _ c.look.result is behind c.look.ensures.found

pub returns-clause-looked : goal.returns-clause-looked
returns-clause-looked g c =
    let limit = c.args.limit in
    let bytes = c.args.bytes.now in
    let is = front_is limit _ bytes _ c.front.ensures
    (c.min.ensures ∙ ap (λ (n : ℕ). min limit n) c.len.ensures) in
    let behind = finds_behind limit c.args.self.now c.look.new.self bytes _ c.requires is c.look.ensures.kept in
    let finds = finds_within limit c.look.new.self bytes _ c.look.result is behind c.look.ensures.found in
    looked_on limit c.look.result c.look.new.self bytes _ is behind finds c.look.ensures.at c.look.ensures.within
