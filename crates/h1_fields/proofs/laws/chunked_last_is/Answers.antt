use Rattle.h1_fields.specs.Codings.{codings}
use Rattle.h1_fields.proofs.CodingLemmas.{chunked_only, chunked_all}
use Rattle.h1_fields.proofs.laws.chunked_last_is.Goals as goal

pub returns : goal.returns
returns c = λ lines. (chunked_only (codings lines), chunked_all (codings lines))
