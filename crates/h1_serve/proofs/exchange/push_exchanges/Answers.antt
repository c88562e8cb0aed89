use Rattle.std.proofs.Common.{◌∙◌, ap, ◌++◌}
use Rattle.h1_serve.proofs.ExchangeLemmas.{more_lines}
use Rattle.h1_serve.proofs.exchange.push_exchanges.Goals as goal

pub loop-entry-preserved : goal.loop-entry-preserved
loop-entry-preserved c =
    more_lines c.args.exchanges.now c.loop-entry.entry-index c.entry-item.result
    c.args.text.now c.loop-entry.text c.push.new.self
    c.loop-entry-test.true c.entry-item.is c.loop-entry.invariant
    (c.in_ok-push.ensures.ok
    ∙ ap (λ words. c.loop-entry.text ++ words) (c.as_slice.ensures ∙ c.in_ok-lines.ensures))
