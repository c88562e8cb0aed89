use Rattle.h1_head.proofs.TokenLemmas.{token_test}
use Rattle.h1_head.proofs.request_grammar.put_request.Goals as goal

pub put_read-requires-clause-token : goal.put_read-requires-clause-token
put_read-requires-clause-token c =
    let at = c.requires.parsed.1 in
    rw (c.of-method.ensures, c.as_slice-text.ensures, at.method) (token_test _ at.reads.0.method)
