use Rattle.h1_forward.proofs.ForwardLemmas.{forwarded_alone, forwarded_reads}
use Rattle.h1_forward.proofs.forward_laws.forwarded_requests_read_back.Goals as goal

pub returns : goal.returns
returns c = record { read = forwarded_reads; alone = forwarded_alone }
