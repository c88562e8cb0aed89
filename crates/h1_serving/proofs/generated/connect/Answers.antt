use Rattle.std.proofs.Common.{◌≡◌, Some, ap, refl, true, ◌∙◌}
use Rattle.h1_serving.specs.Whole.{gen_terms}
use Rattle.h1_transcript.specs.declared.history.History.TheVariants.{Forgotten}
use Rattle.h1_app.specs.View.{terms_of}
use Rattle.h1_serving.proofs.WholeLemmas.{ready_of, fed_link, ok_of}
use Rattle.h1_serving.proofs.generated.connect.Goals as goal

pub returns-clause-ok : goal.returns-clause-ok
returns-clause-ok c =
    let made = c.new-2.ensures in
    let set = c.default.result in
    let unset : terms_of (Some (record set { history = Forgotten })) true ≡ gen_terms =
    rw (c.default.ensures.0, c.default.ensures.2) refl in
    let plain = ap (λ s. terms_of s.server_options true) c.in_ok-server.ensures.ok ∙ unset in
    let link =
    fed_link c.args.count _ _ _ _ c.in_ok-bytes.bytes.items c.new-link.ensures
    c.as_slice.ensures.value c.in_ok-bytes.ensures.ok c.in_ok-give.ensures.ok c.end.ensures in
    ok_of c.new-2.result _ _ _
    (λ view fresh accounted. ready_of c.args.count _ _ _ view
    plain link fresh accounted)
    made.fresh made.accounted
