use Rattle.std.proofs.Common.{ap, ◌++◌, ◌∷◌, [], ◌∙◌}
use Rattle.std.proofs.lemmas.Result.{MatchResult-from_err}
use Rattle.h1_fields.specs.Spans.{lines_of}
use Rattle.h1_fields.proofs.SpanLemmas.{lines_kept, lines_added}
use Rattle.h1_fields.proofs.KindLemmas.{known_kept, known_added}
use Rattle.h1_fields.proofs.block.Block.append.Goals as goal

pub returns-in_err-span-clause-same : goal.returns-in_err-span-clause-same
returns-in_err-span-clause-same c =
    MatchResult-from_err _ _ _ c.from_residual.ensures.0
    (λ _. lines_kept _ _ _ c.write.ensures.kept c.self.invariant.0 ∙ c.self.view_is)

pub returns-in_err-push-clause-same : goal.returns-in_err-push-clause-same
returns-in_err-push-clause-same c =
    MatchResult-from_err _ _ _ c.from_residual-in_err-push.ensures.0
    (λ _. ap (λ lines. lines_of c.write.new.text lines.items) c.in_err-push.ensures.err
    ∙ lines_kept _ _ _ c.write.ensures.kept c.self.invariant.0 ∙ c.self.view_is)

pub invariant_of-self : goal.invariant_of-self
invariant_of-self c = known_kept _ _ _ _ c.write.ensures.kept c.self.invariant

pub invariant_of-self-in_err-push : goal.invariant_of-self-in_err-push
invariant_of-self-in_err-push c =
    rw c.in_err-push.ensures.err (known_kept _ _ _ _ c.write.ensures.kept c.self.invariant)

pub invariant_of-self-2 : goal.invariant_of-self-2
invariant_of-self-2 c =
    known_added _ _ _ _ _ _ _ _ _ _ c.write.ensures.kept c.self.invariant c.in_ok-span.ensures.ok
    c.in_ok-push.ensures.ok c.note.ensures c.len-at.ensures.value

pub returns-clause-ok : goal.returns-clause-ok
returns-clause-ok c =
    lines_added _ _ _ _ _ _ _ c.write.ensures.kept c.self.invariant.0 c.in_ok-span.ensures.ok
    c.in_ok-push.ensures.ok
    ∙ ap (λ lines. lines ++ (c.args.name.now, c.args.value.now) ∷ []) c.self.view_is
