use Rattle.std.proofs.Common.{◌≡◌, ◌≢◌, ◌-◌, ◌+◌, count_by, length, take, drop, sym, ◌∙◌, arith}
use Rattle.std.proofs.lemmas.Grind.{common_steps}
use Rattle.h1_escape.specs.Escape.{is_illegal}
use Rattle.h1_escape.proofs.EscapeLemmas.{esc_none, esc_some}
use Rattle.h1_escape.proofs.escape.escape_head.Goals as goal

pub returns-then-illegal_count-eq0-clause-ok : goal.returns-then-illegal_count-eq0-clause-ok
returns-then-illegal_count-eq0-clause-ok c =
    let head = c.args.head.now in
    let start = c.in-Some.start in
    let len = c.in-Some-target_len.len in
    let line : take (length head - start) (drop start head) ≡ drop start head =
    grind (arith, common_steps) in
    let ends = rw line at (sym c.in-Some-target_len.ensures.exact) in
    let none : count_by is_illegal (take len (drop start head)) ≡ 0 =
    rw (← line) (sym c.illegal_count.ensures ∙ c.if-illegal_count-eq0.true) in
    sym (esc_none head start len (sym c.in-Some.ensures.exact) ends none)

pub returns-clause-ok : goal.returns-clause-ok
returns-clause-ok c =
    let head = c.args.head.now in
    let start = c.in-Some.start in
    let len = c.in-Some-target_len.len in
    let line : take (length head - start) (drop start head) ≡ drop start head =
    grind (arith, common_steps) in
    let rest : take (length head - (start + len)) (drop (start + len) head)
    ≡ drop (start + len) head =
    grind (arith, common_steps) in
    let ends = rw line at (sym c.in-Some-target_len.ensures.exact) in
    let some : count_by is_illegal (take len (drop start head)) ≢ 0 =
    rw (← line) (λ zero. c.if-illegal_count-eq0.false (c.illegal_count.ensures ∙ zero)) in
    let whole = esc_some head start len (sym c.in-Some.ensures.exact) ends some in
    rw (c.in_ok-escaped.ensures, line, rest) (sym whole)
