use Rattle.std.proofs.Common.{string_bytes}
use Rattle.h1_words.proofs.WordsLemmas.{many_words}
use Rattle.h1_words.proofs.words.parse_words.Goals as goal

pub returns-in_default-5-clause-task : goal.returns-in_default-5-clause-task
returns-in_default-5-clause-task c =
    many_words string_bytes c.args.words.now c.in_default.len_at_least
