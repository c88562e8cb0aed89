use Rattle.std.proofs.Common.{◌≡◌, ◌++◌, false}
use Rattle.h1_fields.specs.Lines.{print_lines}
use Rattle.h1_head.specs.Wire.{keep_option}
use Rattle.h1_head.proofs.OwnLineLemmas.{own_left}
use Rattle.h1_head.proofs.wire.push_reply_lines.Given as goal

abbrev pub invariant-loop-name : goal.invariant-loop-name
invariant-loop-name l =
    l.out
    ++ print_lines (own_left l.date (keep_option l.keep) l.dated l.connected l.name-iterator)
    ≡ l.fn.out ++ print_lines (own_left l.date (keep_option l.keep) false false l.fields)
