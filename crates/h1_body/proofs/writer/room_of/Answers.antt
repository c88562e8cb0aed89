use Rattle.h1_body.proofs.WireLemmas.{taken_whole}
use Rattle.h1_body.proofs.writer.room_of.Goals as goal

pub returns-in-Chunked : goal.returns-in-Chunked
returns-in-Chunked c =
    λ payload short. taken_whole c.args.framing c.args.written payload c.in-Chunked.is short
