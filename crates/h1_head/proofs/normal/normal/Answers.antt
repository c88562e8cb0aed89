use Rattle.std.proofs.Common.{◌≡◌, ◌∷◌, ◌++◌, [], false, true, rules}
use Rattle.std.specs.List.{join_with_byte}
use Rattle.h1_cut.specs.Lines.{is_empty}
use Rattle.h1_head.specs.Normal.{normal_fields, parts_at}
use Rattle.h1_head.proofs.ResponseStepLemmas.{pushed_empty, pushed_status}
use Rattle.h1_head.proofs.normal.normal.Goals as goal

pub returns-then-not-is_empty_line-clause-ok : goal.returns-then-not-is_empty_line-clause-ok
returns-then-not-is_empty_line-clause-ok c =
    let out = c.lines.out.items in
    let left = c.lines.left.now in
    let line = c.around.result.0.now in
    let behind = c.in-Some.behind.now in
    let parts : parts_at 10 left ≡ line ∷ parts_at 10 behind = search rules in
    let other : is_empty line ≡ false = search rules in
    let one : c.extend_from_slice.new.self.items ≡ out ++ line = search rules in
    let two : c.push.new.self.items ≡ c.extend_from_slice.new.self.items ++ 10 ∷ [] =
    search rules in
    let three : c.push_fields.new.out.items
    ≡ c.push.new.self.items ++ join_with_byte 10 (normal_fields (parts_at 10 behind)) =
    search rules in
    pushed_status left line behind out _ _ _ _ c.lines.invariant parts other one two three

pub lines-preserved : goal.lines-preserved
lines-preserved c =
    let out = c.lines.out.items in
    let left = c.lines.left.now in
    let line = c.around.result.0.now in
    let behind = c.in-Some.behind.now in
    let parts : parts_at 10 left ≡ line ∷ parts_at 10 behind = search rules in
    let empty : is_empty line ≡ true = search rules in
    let one : c.extend_from_slice.new.self.items ≡ out ++ line = search rules in
    let two : c.push.new.self.items ≡ c.extend_from_slice.new.self.items ++ 10 ∷ [] =
    search rules in
    pushed_empty left line behind out _ _ _ c.lines.invariant parts empty one two
