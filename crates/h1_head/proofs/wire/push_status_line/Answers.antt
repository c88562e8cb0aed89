use Rattle.std.proofs.Common.{◌++◌, sym, ap, ◌∙◌}
use Rattle.h1_head.proofs.wire.push_status_line.Goals as goal

pub returns-then-is_plain_ok-clause-ok : goal.returns-then-is_plain_ok-clause-ok
returns-then-is_plain_ok-clause-ok c =
    c.in_ok-push.ensures.ok
    ∙ ap (λ line. c.args.out.now ++ line)
    (sym (c.is_plain_ok.ensures c.if-is_plain_ok.true))
