use Rattle.std.proofs.Common.{◌++◌, ap, ◌∙◌}
use Rattle.h1_fetch.specs.ScriptState.{state_of}
use Rattle.h1_fetch.proofs.PlayLemmas.{goes_first, goes_last, goes_next}
use Rattle.h1_fetch.proofs.scripted.report_of.Goals as goal

pub loop-line-init : goal.loop-line-init
loop-line-init c =
    goes_first c.args.lines.now _ c.new-text.result c.begin-scripted.ensures c.new-text.ensures

pub loop-line-preserved : goal.loop-line-preserved
loop-line-preserved c =
    goes_next c.args.lines.now c.loop-line.line-index c.line-item.result
    (state_of c.loop-line.scripted) (state_of c.obey.new.scripted) c.loop-line.text c.obey.new.text
    c.loop-line-test.true c.line-item.is c.loop-line.invariant c.in_ok-obey.ensures

pub returns : goal.returns
returns c =
    goes_last c.args.lines.now (state_of c.loop-line.scripted) c.loop-line.line-index c.loop-line.text
    _ c.push.new.self c.loop-line.invariant c.loop-line-test.false c.in_ok-rest.ensures
    (c.in_ok-push.ensures.ok ∙ ap (λ words. c.loop-line.text ++ words) c.as_slice.ensures)
