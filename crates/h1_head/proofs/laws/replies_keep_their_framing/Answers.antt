use Rattle.std.proofs.Common.{ap, codes}
use Rattle.h1_fields.specs.ListParts.{list_parts}
use Rattle.h1_fields.specs.ContentLength.{agreed}
use Rattle.h1_fields.specs.Codings.{without_empty}
use Rattle.h1_fields.specs.declared.content_length.ContentLength.TheVariants.{Absent}
use Rattle.h1_fields.proofs.LineLemmas.{has_line_same}
use Rattle.h1_head.proofs.ReplyLemmas.{reply_date, reply_connection, reply_values, reply_lengths, reply_codings}
use Rattle.h1_head.proofs.laws.replies_keep_their_framing.Goals as goal

pub returns-clause-date : goal.returns-clause-date
returns-clause-date c = reply_date

pub returns-clause-connection : goal.returns-clause-connection
returns-clause-connection c = reply_connection

pub returns-clause-others : goal.returns-clause-others
returns-clause-others c = reply_values

pub returns-clause-length : goal.returns-clause-length
returns-clause-length c =
    λ view date keep. ap (λ values. agreed Absent (list_parts values))
    (reply_lengths view date keep)

pub returns-clause-codings : goal.returns-clause-codings
returns-clause-codings c =
    λ view date keep. ap (λ values. without_empty (list_parts values))
    (reply_codings view date keep)

pub returns-clause-coded : goal.returns-clause-coded
returns-clause-coded c =
    λ view date keep. has_line_same (codes "Transfer-Encoding") _ _ (reply_codings view date keep)
