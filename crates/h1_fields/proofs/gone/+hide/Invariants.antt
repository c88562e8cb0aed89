use Rattle.std.proofs.Common.{length}
use Rattle.h1_fields.proofs.gone.+hide.Given as goal

abbrev pub decreases-hide : goal.decreases-hide
decreases-hide l = length l.spans.now
