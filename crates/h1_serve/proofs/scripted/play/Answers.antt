use Rattle.h1_transcript.specs.declared.history.Holding.{Holding}
use Rattle.std.proofs.Common.{◌≡◌, ◌∙◌, Some, subst, ap}
use Rattle.h1_link.specs.MemState.{MemState}
use Rattle.h1_serve.proofs.LineLemmas.{goes_first, goes_next, goes_last, whole_text, next_in_time}
use Rattle.h1_serve.proofs.KeptLemmas.{history_last, kept_last}
use Rattle.h1_serve.proofs.scripted.play.Goals as goal

pub obey-requires : goal.obey-requires
obey-requires c =
    next_in_time c.args.commands.now c.loop-command.command-index c.command-item.result
    c.loop-command.scripted c.loop-command.text
    c.loop-command-test.true c.command-item.is c.loop-command.invariant

pub loop-command-preserved : goal.loop-command-preserved
loop-command-preserved c =
    goes_next c.args.commands.now c.loop-command.command-index c.command-item.result
    c.loop-command.scripted c.obey.new.scripted c.loop-command.text c.obey.new.text
    c.loop-command-test.true c.command-item.is c.loop-command.invariant c.in_ok-obey.ensures

pub loop-command-init : goal.loop-command-init
loop-command-init c =
    goes_first c.args.commands.now c.args.scripted.now c.new-text.result
    c.requires.order c.requires.running c.requires.state c.new-text.ensures

pub all_exchanges-exchanges-requires : goal.all_exchanges-exchanges-requires
all_exchanges-exchanges-requires c =
    ap (λ (h : Holding). h.history) c.transcript.ensures.holding
    ∙ history_last c.args.commands.now c.loop-command.scripted c.loop-command.command-index
    c.loop-command.text c.loop-command.invariant c.loop-command-test.false

pub push_exchanges-requires : goal.push_exchanges-requires
push_exchanges-requires c =
    kept_last c.args.commands.now c.loop-command.scripted c.loop-command.command-index
    c.loop-command.text _ c.loop-command.invariant c.loop-command-test.false
    (c.all_exchanges-exchanges.ensures ∙ c.transcript.ensures.entries)

pub returns : goal.returns
returns c =
    let Written : MemState → Type 0 = λ link. link.state.written ≡ Some c.written.result.now in
    goes_last c.args.commands.now c.loop-command.scripted c.loop-command.command-index
    c.loop-command.text c.written.result.now c.push_written.new.text
    c.loop-command.invariant c.loop-command-test.false (subst Written c.link.ensures c.written.ensures)
    (whole_text c.loop-command.text c.push_exchanges.new.text c.push_written.new.text _ _ c.written.result.now
    c.in_ok-push_exchanges.ensures (c.all_exchanges-exchanges.ensures ∙ c.transcript.ensures.entries)
    c.in_ok-push_written.ensures)
