use Rattle.h1_words.proofs.NumberLemmas.{number_only, number_all}
use Rattle.h1_words.proofs.laws.numbers_are_decimal.Goals as goal

pub returns : goal.returns
returns c = record { only = number_only; all = number_all }
