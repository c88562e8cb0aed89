use Rattle.std.proofs.Common.{arith}
use Rattle.std.proofs.lemmas.List.{with_items_is}
use Rattle.h1_modules.proofs.context.HttpModuleCtx.response_body_filter.Goals as goal

pub returns-clause-part : goal.returns-clause-part
returns-clause-part g c =
    let call = c.filter_response_body in
    let e = with_items_is c.self.inside.modules call.new.modules (omega arith) in
    rw (e, ← c.self.view_is, ← c.deref_mut.ensures.value) call.ensures.part
