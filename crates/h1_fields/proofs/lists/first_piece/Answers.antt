use Rattle.std.proofs.Common.{◌≡◌, false, rules, get_or}
use Rattle.std.proofs.lemmas.List.Elements.{All-more}
use Rattle.h1_fields.specs.ListParts.{is_comma}
use Rattle.h1_fields.proofs.PieceLemmas.{piece_before, piece_whole}
use Rattle.h1_fields.proofs.lists.first_piece.Goals as goal

pub returns-then-byte-eq44 : goal.returns-then-byte-eq44
returns-then-byte-eq44 c =
    piece_before _ _ c.loop-at-test.true c.loop-at.invariant c.if-byte-eq44.true

pub loop-at-preserved : goal.loop-at-preserved
loop-at-preserved c =
    let other : is_comma (get_or c.args.value.now c.loop-at.at 0) ≡ false = search rules in
    All-more (λ b. is_comma b ≡ false) _ _ 0 c.loop-at-test.true c.loop-at.invariant other

pub returns : goal.returns
returns c = piece_whole _ _ c.loop-at-test.false c.loop-at.invariant
