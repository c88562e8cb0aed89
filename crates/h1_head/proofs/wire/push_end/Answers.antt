use Rattle.std.proofs.Common.{◌++◌, ap, ◌∙◌}
use Rattle.h1_head.proofs.OwnLineLemmas.{kept_printed}
use Rattle.h1_head.proofs.wire.push_end.Goals as goal

pub returns-in-false-false-true-clause-ok : goal.returns-in-false-false-true-clause-ok
returns-in-false-false-true-clause-ok c =
    rw (c.in-false-false-true.is-0, c.in-false-false-true.is-1, c.in-false-false-true.is-2)
    (kept_printed c.args.out.now c.push.new.self c.args.date.now
    (c.in_ok-push.ensures.ok
    ∙ ap (λ end. c.args.out.now ++ end) c.kept_end.ensures))
