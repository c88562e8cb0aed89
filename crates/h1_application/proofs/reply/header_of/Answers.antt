use Rattle.std.proofs.Common.{arith}
use Rattle.h1_application.proofs.ReplyLemmas.{counted_lawful, unstated_lawful}
use Rattle.h1_application.proofs.reply.header_of.Goals as goal

pub returns-then-has_no_length-clause-lawful : goal.returns-then-has_no_length-clause-lawful
returns-then-has_no_length-clause-lawful c =
    unstated_lawful c.args.status c.in_ok-header.header c.in_ok-header.ensures.ok c.requires

pub returns-clause-lawful : goal.returns-clause-lawful
returns-clause-lawful c =
    counted_lawful c.args.status c.args.length c.in_ok-header.header
    c.append_content_length.new.self c.in_ok-header.ensures.ok
    c.in_ok-append_content_length.ensures.ok c.requires (omega arith)
