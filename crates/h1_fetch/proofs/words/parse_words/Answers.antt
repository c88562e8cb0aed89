use Rattle.std.proofs.Common.{string_bytes, arith}
use Rattle.h1_fetch.proofs.WordsLemmas.{many_words, three_words, two_words}
use Rattle.h1_fetch.proofs.words.parse_words.Goals as goal

pub returns-in-len2 : goal.returns-in-len2
returns-in-len2 c =
    two_words string_bytes c.args.words.now (omega (arith, c.in-len2.len_at_least))
    (omega (arith, c.in-len2.len_below))

pub returns-in-len3 : goal.returns-in-len3
returns-in-len3 c =
    three_words string_bytes c.args.words.now (omega (arith, c.in-len3.len_at_least))
    (omega (arith, c.in-len3.len_below))

pub returns-in_default : goal.returns-in_default
returns-in_default c = many_words string_bytes c.args.words.now c.in_default.len_at_least
