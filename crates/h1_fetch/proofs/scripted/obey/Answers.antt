use Rattle.h1_fetch.specs.ScriptState.{state_of}
use Rattle.h1_fetch.proofs.PlayLemmas.{ask_line, field_line, finish_line, link_line, on_ok, poll_line, send_line}
use Rattle.h1_fetch.proofs.scripted.obey.Goals as goal

pub returns-in-Poll : goal.returns-in-Poll
returns-in-Poll c =
    on_ok c.poll.result _ _ (λ polled. poll_line (state_of c.args.scripted.now)
    (state_of c.poll.new.scripted) c.args.line.now _ c.args.text.now c.poll.new.text c.in-Poll.is
    polled) c.poll.ensures

pub returns-in-Link : goal.returns-in-Link
returns-in-Link c =
    on_ok c.set_link_all.result _ _ (λ so. link_line (state_of c.args.scripted.now)
    c.set_link_all.new.session c.args.line.now _ c.args.text.now c.in-Link.is so) c.set_link_all.ensures

pub returns-in-Ask : goal.returns-in-Ask
returns-in-Ask c =
    on_ok c.ask_for.result _ _ (λ so. ask_line (state_of c.args.scripted.now) c.ask_for.new.head
    c.args.line.now _ _ c.args.text.now c.in-Ask.is so) c.ask_for.ensures

pub returns-in-Field : goal.returns-in-Field
returns-in-Field c =
    on_ok c.add_field.result _ _ (λ so. field_line (state_of c.args.scripted.now) c.add_field.new.head
    c.args.line.now _ _ c.args.text.now c.in-Field.is so) c.add_field.ensures

pub returns-in-Send : goal.returns-in-Send
returns-in-Send c =
    on_ok c.push_piece.result _ _ (λ so. send_line (state_of c.args.scripted.now)
    c.push_piece.new.pieces.items c.args.line.now _ c.args.text.now c.in-Send.is so)
    c.push_piece.ensures

pub returns-in-Finish : goal.returns-in-Finish
returns-in-Finish c =
    finish_line (state_of c.args.scripted.now) c.args.line.now c.args.text.now c.in-Finish.is
