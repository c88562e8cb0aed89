-- What the checks of a request may leave out.
use Rattle.std.proofs.Common.{◌≡◌, List, codes, refl}
use Rattle.h1_fields.specs.Names.{same_name}
use Rattle.h1_fields.specs.Codings.{has_coding_line}
use Rattle.h1_fields.specs.Lines.{Line, without}
use Rattle.h1_fields.proofs.LineLemmas.{has_line_same, values-without_other}

-- Transfer-Encoding stays where Content-Length goes
pub coding_stays : (lines : List Line)
    → has_coding_line (without (codes "Content-Length") lines) ≡ has_coding_line lines
unfolding same_name
coding_stays lines =
    has_line_same (codes "Transfer-Encoding") (without (codes "Content-Length") lines) lines
    (values-without_other (codes "Content-Length") (codes "Transfer-Encoding") lines refl)
