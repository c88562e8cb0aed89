-- What was taken tells the step.
use Rattle.h1_transfer.proofs.TakeLemmas.{takes_none, takes_past, takes_taken}
use Rattle.h1_transfer.proofs.taking.take.Goals as goal

pub returns-in-Ok : goal.returns-in-Ok
returns-in-Ok c = takes_taken c.args.received.now.items c.take_payload.new.received.items
    c.args.reader.now c.take_payload.new.reader _ c.args.kept.now c.take_payload.new.self
    c.judge.result c.in-Ok.ensures.0 c.in-Ok.ensures.1 c.judge.ensures

pub returns-in-ContentTooLarge : goal.returns-in-ContentTooLarge
returns-in-ContentTooLarge c = takes_past c.args.received.now.items c.take_payload.new.received.items
    c.args.reader.now c.take_payload.new.reader c.args.kept.now c.take_payload.new.self
    c.in-Err.error c.in-Err.ensures c.in-ContentTooLarge.is

pub returns-in_default : goal.returns-in_default
returns-in_default c = takes_none c.args.received.now.items c.take_payload.new.received.items
    c.args.reader.now c.take_payload.new.reader c.args.kept.now c.take_payload.new.self
    c.in-Err.error c.in-Err.ensures c.in_default.not-ContentTooLarge
