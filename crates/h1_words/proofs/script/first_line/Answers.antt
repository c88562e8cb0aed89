use Rattle.std.proofs.Common.{rules}
use Rattle.std.proofs.lemmas.List.{take_rest}
use Rattle.h1_words.proofs.LineLemmas.{lines_with_feed}
use Rattle.h1_words.proofs.script.first_line.Goals as goal

pub returns-in-Some-clause-cut : goal.returns-in-Some-clause-cut
returns-in-Some-clause-cut c =
    rw take_rest (lines_with_feed c.args.bytes.now c.in-Some.at (search rules))
