use Rattle.std.proofs.Common.{arith, length-append}
use Rattle.h1_escape.proofs.EscapeLemmas.{length-escaped}
use Rattle.h1_escape.proofs.escape.escaped_len.Goals as goal

pub returns : goal.returns
returns c =
    let more = length-escaped c.args.target.now in
    rw (length-append, length-append) (omega arith)
