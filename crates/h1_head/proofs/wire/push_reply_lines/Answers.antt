use Rattle.std.proofs.Common.{[], ◌∷◌, sym, ◌∙◌}
use Rattle.h1_head.specs.Wire.{keep_option}
use Rattle.h1_head.proofs.OwnLineLemmas.{date_printed, missing_printed}
use Rattle.h1_head.proofs.wire.push_reply_lines.Goals as goal

pub loop-name-preserved-then-is_same_name : goal.loop-name-preserved-then-is_same_name
loop-name-preserved-then-is_same_name c =
    date_printed c.args.date.now (keep_option c.args.keep) c.loop-name.out
    c.push_once.new.out
    _ c.loop-name.dated c.loop-name.connected (c.in-Some.name.now, c.in-Some.value.now)
    c.loop-name.name-iterator c.next.new.self c.in-Some.ensures.steps
    (sym c.is_same_name.ensures ∙ c.if-is_same_name.true) c.in_ok-push_once.ensures.ok
    c.loop-name.invariant

pub returns-clause-ok : goal.returns-clause-ok
returns-clause-ok c =
    missing_printed c.args.date.now (keep_option c.args.keep) c.loop-name.out
    (13 ∷ 10 ∷ []) c.push_end.new.out _ c.loop-name.dated c.loop-name.connected
    c.loop-name.name-iterator c.in-None.ensures.steps.0 c.in_ok-push_end.ensures.ok
    c.loop-name.invariant
