use Rattle.std.proofs.Common.{◌≤◌, rules}
use Rattle.h1_head.specs.ResponseVerdict.{response_at}
use Rattle.h1_head.proofs.ResponseGrammarLemmas.{code_faulty, parsed_is}
use Rattle.h1_head.proofs.response_grammar.put_head.Goals as goal

pub returns-then-head-lt100-clause-ok : goal.returns-then-head-lt100-clause-ok
returns-then-head-lt100-clause-ok c =
    let said = response_at c.args.bytes.now c.args.spans.now c.args.head in
    (said, c.requires.says, code_faulty c.args.head.code c.if-head-lt100.true)

pub returns-clause-ok : goal.returns-clause-ok
returns-clause-ok c =
    let low : 100 ≤ c.args.head.code = search rules in
    parsed_is c.args.bytes.now c.args.spans.now c.args.head c.put_read.new.self c.requires low
    (rw (c.of-phrase.ensures, c.as_slice.ensures) at c.in_ok-put_read.ensures.ok)
