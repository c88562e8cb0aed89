use Rattle.h1_body.proofs.LawLemmas.{no_prefix}
use Rattle.h1_body.proofs.chunk_laws.no_chunked_body_begins_another.Goals as goal

pub returns : goal.returns
returns c = no_prefix
