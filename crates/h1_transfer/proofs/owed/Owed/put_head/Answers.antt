-- Nothing of a part of a body is left behind the head.
use Rattle.std.proofs.Common.{◌≡◌, ℕ, List, [], ◌∷◌, ◌++◌, drop, ◌∙◌, append-nil}
use Rattle.h1_transfer.proofs.owed.Owed.put_head.Goals as goal

nothing_behind : (front rest : List ℕ) → front ++ rest ≡ [] → rest ≡ []
nothing_behind [] rest none = none
nothing_behind (byte ∷ front) rest none = absurd cc

pub returns : goal.returns
returns c =
    let owed = c.self.inside in
    let none = nothing_behind (drop owed.sent owed.head) owed.wire (c.self.view_is ∙ c.requires) in
    rw none (append-nil c.args.head)
