use Rattle.std.proofs.Common.{subst, sym, ◌∙◌}
use Rattle.h1_fetch.specs.Input.{ReadsScript}
use Rattle.h1_fetch.specs.Playing.{IsTextOf}
use Rattle.h1_fetch.proofs.StatusLemmas.{reported, refused}
use Rattle.h1_fetch.proofs.command.run_script.Goals as goal

pub returns-in-Ok-report_of : goal.returns-in-Ok-report_of
returns-in-Ok-report_of g c =
    let read =
    subst (ReadsScript (g.S.Source.state c.args.source.now) (g.S.Source.state c.read_script.new.source))
    (sym c.deref.ensures.value) c.in-Ok.ensures.ok in
    reported _ _ _ _ c.deref.result.now _ c.as_slice-in-Ok-report_of.result.now _ _ read
    (subst (IsTextOf _) (sym c.as_slice-in-Ok-report_of.ensures) c.in-Ok-report_of.ensures)
    c.write_whole.ensures c.status_of.ensures

pub returns-in-Ok-fault_line : goal.returns-in-Ok-fault_line
returns-in-Ok-fault_line g c =
    let read =
    subst (ReadsScript (g.S.Source.state c.args.source.now) (g.S.Source.state c.read_script.new.source))
    (sym c.deref.ensures.value) c.in-Ok.ensures.ok in
    refused _ _ _ _ c.deref.result.now c.in-Err-Line.number c.as_slice-in-Ok-fault_line.result.now _ _ read
    (c.as_slice-in-Ok-fault_line.ensures ∙ c.in-Ok-fault_line.ensures)
    c.write_whole-in-Ok-fault_line.ensures c.status_of-in-Ok-fault_line.ensures
