use Rattle.std.proofs.Common.{◌≡◌, ◌<◌, ◌+◌, ◌++◌, suc, length, take, drop, sym, ap, ◌∙◌, arith}
use Rattle.h1_fields.proofs.SearchLemmas.{removed_here, fit_removed}
use Rattle.h1_fields.proofs.span.remove_named.Goals as goal

pub loop-at-preserved-then-is_named : goal.loop-at-preserved-then-is_named
loop-at-preserved-then-is_named c =
    let before = c.loop-at.invariant in
    let at = c.loop-at.at in
    let spans = c.loop-at.spans.items in
    let next : suc at ≡ at + 1 = omega arith in
    let parts : c.remove.new.self.items ≡ take at spans ++ drop (at + 1) spans =
    c.remove.ensures.items ∙ ap (λ n. take at spans ++ drop n spans) next in
    let within : at < length spans = omega arith in
    record {
      start = before.start;
      at = omega (arith, before.at);
      fit = fit_removed _ _ _ at parts before.fit;
      lines =
          removed_here _ _ _ _ _ _ within parts
          (rw c.as_slice.ensures at (sym c.is_named.ensures ∙ c.if-is_named.true)) ∙ before.lines;
    }
