use Rattle.std.proofs.Common.{◌≡◌, ap, ◌∙◌, subst, sym}
use Rattle.h1_words.specs.Script.{script_of, commands, faulty_at}
use Rattle.h1_serve.specs.Input.{ReadsScript}
use Rattle.h1_serve.specs.Report.{IsTextOf}
use Rattle.h1_serve.proofs.OrderLemmas.{commands_in_order, commands_few}
use Rattle.h1_serve.proofs.StatusLemmas.{reported, refused}
use Rattle.h1_serve.proofs.command.run_script.Goals as goal

pub report_of-requires-clause-order : goal.report_of-requires-clause-order
report_of-requires-clause-order g c =
    commands_in_order c.deref.result.now c.commands.result.now
    (c.in-Ok-parse_script.ensures ∙ ap commands (sym c.commands.ensures))

pub report_of-requires-clause-few : goal.report_of-requires-clause-few
report_of-requires-clause-few g c =
    commands_few c.deref.result.now c.commands.result.now
    (c.in-Ok-parse_script.ensures ∙ ap commands (sym c.commands.ensures))

pub returns-in-Ok-report_of : goal.returns-in-Ok-report_of
returns-in-Ok-report_of g c =
    let read =
    subst (ReadsScript (g.S.Source.state c.args.source.now) (g.S.Source.state c.read_script.new.source))
    (sym c.deref.ensures.value) c.in-Ok.ensures.ok in
    let is : script_of c.deref.result.now ≡ commands c.commands.result.now =
    c.in-Ok-parse_script.ensures ∙ ap commands (sym c.commands.ensures) in
    reported _ _ _ _ c.deref.result.now c.commands.result.now c.as_slice.result.now _ _ read is
    (subst (IsTextOf c.commands.result.now) (sym c.as_slice.ensures) c.in-Ok-report_of.ensures)
    c.write_whole.ensures c.status_of.ensures

pub returns-in-Ok-fault_line : goal.returns-in-Ok-fault_line
returns-in-Ok-fault_line g c =
    let read =
    subst (ReadsScript (g.S.Source.state c.args.source.now) (g.S.Source.state c.read_script.new.source))
    (sym c.deref.ensures.value) c.in-Ok.ensures.ok in
    let faulty : script_of c.deref.result.now ≡ faulty_at c.in-Err-Line.number =
    rw c.in-Err-Line.field-0-is at c.in-Err-Line.ensures in
    refused _ _ _ _ c.deref.result.now c.in-Err-Line.number c.as_slice-in-Ok-fault_line.result.now _ _ read faulty
    (c.as_slice-in-Ok-fault_line.ensures ∙ c.in-Ok-fault_line.ensures)
    c.write_whole-in-Ok-fault_line.ensures c.status_of-in-Ok-fault_line.ensures
