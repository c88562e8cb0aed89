use Rattle.std.proofs.Common.{ap, sym, ◌∙◌}
use Rattle.h1_words.specs.declared.command.Command.TheVariants as command
use Rattle.h1_serve.proofs.LineLemmas.{on_ok, shuts_line, made_line}
use Rattle.h1_serve.proofs.LinkLineLemmas.{gives_line, ends_line, room_line, block_line, read_fault_line, write_fault_line}
use Rattle.h1_serve.proofs.scripted.obey.Goals as goal

pub returns-in-Give : goal.returns-in-Give
returns-in-Give c =
    on_ok c.give.result _ _ (λ link place may running.
    gives_line place c.args.scripted.now c.give.new.connection c.args.command.now c.as_slice.result.now c.args.text.now
    (c.in-Give.is ∙ ap command.Give (sym c.as_slice.ensures))
    c.give.ensures.rest link c.give.ensures.accounted may running) c.give.ensures.link

pub returns-in-End : goal.returns-in-End
returns-in-End c = λ place may running.
    ends_line place c.args.scripted.now c.say_end.new.connection c.args.command.now c.args.text.now
    c.in-End.is c.say_end.ensures.rest c.say_end.ensures.link c.say_end.ensures.accounted may running

pub returns-in-Room : goal.returns-in-Room
returns-in-Room c = λ place may running.
    room_line place c.args.scripted.now c.set_room.new.connection c.args.command.now _ c.args.text.now
    c.in-Room.is c.set_room.ensures.rest c.set_room.ensures.link c.set_room.ensures.accounted running

pub returns-in-Block : goal.returns-in-Block
returns-in-Block c = λ place may running.
    block_line place c.args.scripted.now c.set_block.new.connection c.args.command.now c.args.text.now
    c.in-Block.is c.set_block.ensures.rest c.set_block.ensures.link c.set_block.ensures.accounted running

pub returns-in-FaultRead : goal.returns-in-FaultRead
returns-in-FaultRead c = λ place may running.
    read_fault_line place c.args.scripted.now c.plan_read_fault.new.connection c.args.command.now c.args.text.now
    c.in-FaultRead.is c.plan_read_fault.ensures.rest c.plan_read_fault.ensures.link
    c.plan_read_fault.ensures.accounted running

pub returns-in-FaultWrite : goal.returns-in-FaultWrite
returns-in-FaultWrite c = λ place may running.
    write_fault_line place c.args.scripted.now c.plan_write_fault.new.connection c.args.command.now c.args.text.now
    c.in-FaultWrite.is c.plan_write_fault.ensures.rest c.plan_write_fault.ensures.link
    c.plan_write_fault.ensures.accounted running

pub returns-in-Shutdown : goal.returns-in-Shutdown
returns-in-Shutdown c = λ place may running.
    shuts_line place c.args.scripted.now c.args.command.now c.args.text.now c.in-Shutdown.is running

pub returns-in-Limit : goal.returns-in-Limit
returns-in-Limit c = λ place may running.
    made_line place c.args.scripted.now c.args.command.now c.args.text.now c.in-Limit.is running
