use Rattle.h1_authority.proofs.GrammarLemmas.{grammar_only, grammar_all}
use Rattle.h1_authority.proofs.laws.parsed_authorities_follow_the_grammar.Goals as goal

pub returns : goal.returns
returns c = record { only = grammar_only; all = grammar_all }
