use Rattle.h1_generator.proofs.ValidLemmas.{valid, many}
use Rattle.h1_generator.proofs.laws.generated_input_is_valid.Goals as goal

pub returns : goal.returns
returns c = record { valid = valid; count = many }
