use Rattle.std.proofs.Common.{◌≡◌, ◌∷◌, ◌++◌, [], false, option_map, rules}
use Rattle.h1_head.specs.Normal.{is_continuation, tight}
use Rattle.h1_head.specs.Pieces.{parts_behind}
use Rattle.h1_head.proofs.ResponseStepLemmas.{pushed_line}
use Rattle.h1_head.proofs.normal.push_fields.Goals as goal

pub loop-behind-preserved : goal.loop-behind-preserved
loop-behind-preserved c =
    let out = c.loop-behind.out.items in
    let line = c.loop-behind.line.items in
    let next = c.around-in-Some.result.0.now in
    let rest = parts_behind 10 (option_map (λ b. b.now) c.loop-behind.behind) in
    let lines = parts_behind 10 (option_map (λ b. b.now) c.around-in-Some.result.1) in
    let parts : rest ≡ next ∷ lines = rw c.in-Some.is c.around-in-Some.ensures.parts in
    let begins : is_continuation next ≡ false = search rules in
    let pushed : c.push_tight.new.out.items ≡ out ++ tight line = search rules in
    let ended : c.push.new.self.items ≡ c.push_tight.new.out.items ++ 10 ∷ [] = search rules in
    let new : c.extend_from_slice-else-is_continuation.new.self.items ≡ next = search rules in
    pushed_line out line next _ _ _ _ rest lines c.loop-behind.invariant parts begins pushed ended
    new
