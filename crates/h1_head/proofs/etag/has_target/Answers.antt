-- Where one entry isn't the target, the entries that are left decide.
use Rattle.std.proofs.Common.{◌≡◌, ◌-◌, ◌+◌, ◌==◌, suc, length, true, false, sym, ap, ◌∙◌, subst, arith}
use Rattle.h1_head.specs.Etag.{behind, has_target, next_entry, without_weak}
use Rattle.h1_head.proofs.EtagLemmas.{entry_ended, entry_passed}
use Rattle.h1_head.proofs.etag.has_target.Goals as goal

pub returns-then-is_empty : goal.returns-then-is_empty
returns-then-is_empty c =
    let left : c.args.entries - c.loop.counter ≡ suc (c.args.entries - (c.loop.counter + 1)) =
    omega (arith, c.loop-test.true) in
    let none : (length (next_entry (behind c.args.target.now c.loop.rest.now)) == 0) ≡ true =
    rw (← c.behind.ensures, ← c.next_entry-next.ensures) (sym c.is_empty.ensures ∙ c.if-is_empty.true) in
    let ended = entry_ended (c.args.entries - (c.loop.counter + 1)) c.args.target.now c.loop.rest.now
    (sym c.is_target.ensures ∙ c.if-is_target.false) none in
    sym ended ∙ subst (λ n. has_target n c.args.target.now c.loop.rest.now
    ≡ has_target c.args.entries c.args.target.now c.args.list.now) left c.loop.invariant

pub loop-preserved : goal.loop-preserved
loop-preserved c =
    let left : c.args.entries - c.loop.counter ≡ suc (c.args.entries - (c.loop.counter + 1)) =
    omega (arith, c.loop-test.true) in
    let some : (length (next_entry (behind c.args.target.now c.loop.rest.now)) == 0) ≡ false =
    rw (← c.behind.ensures, ← c.next_entry-next.ensures) (sym c.is_empty.ensures ∙ c.if-is_empty.false) in
    let passed = entry_passed (c.args.entries - (c.loop.counter + 1)) c.args.target.now c.loop.rest.now
    (sym c.is_target.ensures ∙ c.if-is_target.false) some in
    let next : c.without_weak-rest.result.now
    ≡ without_weak (next_entry (behind c.args.target.now c.loop.rest.now)) =
    c.without_weak-rest.ensures
    ∙ ap without_weak (c.next_entry-next.ensures ∙ ap next_entry c.behind.ensures) in
    subst (λ rest. has_target (c.args.entries - (c.loop.counter + 1)) c.args.target.now rest
    ≡ has_target c.args.entries c.args.target.now c.args.list.now) (sym next)
    (sym passed ∙ subst (λ n. has_target n c.args.target.now c.loop.rest.now
    ≡ has_target c.args.entries c.args.target.now c.args.list.now) left c.loop.invariant)
