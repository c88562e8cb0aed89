use Rattle.h1_cut.proofs.LineLemmas.{cut-by_lines}
use Rattle.h1_cut.proofs.laws.cut_is_by_lines.Goals as goal

pub returns : goal.returns
returns c = cut-by_lines
