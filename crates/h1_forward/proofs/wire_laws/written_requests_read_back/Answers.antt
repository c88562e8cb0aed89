use Rattle.h1_forward.proofs.WireLemmas.{has_bytes, reads_alone, reads_back}
use Rattle.h1_forward.proofs.wire_laws.written_requests_read_back.Goals as goal

pub returns : goal.returns
returns c = record { written = has_bytes; read = reads_back; alone = reads_alone }
