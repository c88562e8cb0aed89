use Rattle.std.proofs.Common.{◌≡◌, ◌∷◌, ◌++◌, [], rules}
use Rattle.h1_head.specs.Normal.{parts_at, without_end_ows}
use Rattle.h1_head.proofs.ResponseStepLemmas.{pushed_tight}
use Rattle.h1_head.proofs.normal.push_tight.Goals as goal

pub returns-clause-ok : goal.returns-clause-ok
returns-clause-ok c =
    let out = c.args.out.now.items in
    let name = c.around.result.0.now in
    let value = c.in-Some.value.now in
    let parts : parts_at 58 c.args.line.now ≡ name ∷ parts_at 58 value = search rules in
    let one : c.extend_from_slice-2.new.self.items ≡ out ++ without_end_ows name = search rules in
    let two : c.push.new.self.items ≡ c.extend_from_slice-2.new.self.items ++ 58 ∷ [] =
    search rules in
    let three : c.extend_from_slice-3.new.self.items ≡ c.push.new.self.items ++ value =
    search rules in
    pushed_tight c.args.line.now name value out _ _ _ parts one two three
