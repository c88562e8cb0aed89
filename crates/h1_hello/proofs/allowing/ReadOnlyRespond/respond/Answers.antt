use Rattle.std.proofs.Common.{codes, refl, sym, subst}
use Rattle.h1_transcript.specs.Lawful.{IsLawful}
use Rattle.h1_app.specs.LawfulHeads.{line_keeps}
use Rattle.h1_hello.proofs.allowing.ReadOnlyRespond.respond.Goals as goal

pub returns-in_ok-append_header-clause-ok : goal.returns-in_ok-append_header-clause-ok
returns-in_ok-append_header-clause-ok c =
    subst IsLawful (sym c.in_ok-append_header.ensures.ok)
    (line_keeps (codes "allow") (codes "GET, HEAD") refl _ c.in_ok-reply.ensures.lawful)

pub returns-in_ok-append_header-clause-lawful : goal.returns-in_ok-append_header-clause-lawful
returns-in_ok-append_header-clause-lawful c =
    subst IsLawful (sym c.in_ok-append_header.ensures.ok)
    (line_keeps (codes "allow") (codes "GET, HEAD") refl _ c.in_ok-reply.ensures.lawful)
