use Rattle.std.proofs.Common.{ap, take, ◌∙◌, ℕ}
use Rattle.h1_cut.specs.Cut.{cut}
use Rattle.h1_cut.proofs.CutLemmas.{cut_min}
use Rattle.h1_cut.proofs.cut.cut_within.Goals as goal

pub returns : goal.returns
returns c =
    cut_min c.args.limit c.args.bytes.now c.cut_of.result
    (c.cut_of.ensures ∙ ap (λ (n : ℕ). cut (take n c.args.bytes.now)) c.min.ensures)
