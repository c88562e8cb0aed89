use Rattle.std.proofs.Common.{codes}
use Rattle.h1_fields.specs.ListParts.{parts_of}
use Rattle.h1_fields.proofs.LengthLemmas.{length_only, length_all, absent_only, absent_all}
use Rattle.h1_fields.proofs.laws.content_length_is.Goals as goal

pub returns-clause-number : goal.returns-clause-number
returns-clause-number c =
    λ lines n.
    let parts = parts_of (codes "Content-Length") lines in
    (length_only n parts, length_all n parts)

pub returns-clause-absent : goal.returns-clause-absent
returns-clause-absent c =
    λ lines. (absent_only (codes "Content-Length") lines, absent_all (codes "Content-Length") lines)
