use Rattle.std.proofs.Common.{◌≢◌, rules}
use Rattle.h1_head.specs.declared.response_grammar.Parsed.TheVariants.{NoHead}
use Rattle.h1_head.proofs.ResponseGrammarLemmas.{parsed_normal}
use Rattle.h1_head.proofs.response_head.parse_normal.Goals as goal

pub returns-in_default : goal.returns-in_default
returns-in_default c =
    let other : c.in_ok-parsed.parsed ≢ NoHead = search rules in
    record {
      ok =
          parsed_normal c.args.head.now c.parse_head.new.header c.in_ok-parsed.parsed other
          c.in_ok-parsed.ensures.ok;
      err = tt;
    }
