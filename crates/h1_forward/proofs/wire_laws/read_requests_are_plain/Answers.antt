use Rattle.h1_forward.proofs.ReadPlainLemmas.{read_plain}
use Rattle.h1_forward.proofs.wire_laws.read_requests_are_plain.Goals as goal

pub returns : goal.returns
returns c = read_plain
