use Rattle.h1_serve.proofs.ModuleLemmas.{adds_no_more, adds_one_more}
use Rattle.h1_serve.proofs.scripted.server_for.Goals as goal
use Rattle.h1_serve.proofs.scripted.server_for.Goals.{in-Some+in_ok-add_module, in_default}

pub loop-command-preserved : goal.loop-command-preserved
loop-command-preserved c =
    let all = c.args.commands.now in
    let i = c.loop-command.command-index in
    let key = c.loop-command.key in
    let made = c.loop-command.server.modules in
    elim c.match-marking_of.branch [
      | in-Some+in_ok-add_module w ↦
          rw (w.server-is, w.in_ok-add_module.ensures.ok, w.key-is) (record {
            limit = c.loop-command.invariant.limit;
            holding = c.loop-command.invariant.holding;
            adds = adds_one_more all i c.command-item.result key made w.in-Some.marking
                w.new.result w.new.ensures c.loop-command-test.true c.command-item.is w.in-Some.ensures c.loop-command.invariant.adds;
          })
      | in_default w ↦
          rw (w.server-is, w.key-is) (record {
            limit = c.loop-command.invariant.limit;
            holding = c.loop-command.invariant.holding;
            adds = adds_no_more all i c.command-item.result key made
                c.loop-command-test.true c.command-item.is w.in_default.ensures c.loop-command.invariant.adds;
          })
    ]
