-- A head that was read is there to be copied.
use Rattle.h1_client.proofs.ReadLemmas.{read_there}
use Rattle.h1_client.proofs.v1.HttpSession.poll_read_resp_header_parts.Goals as goal

pub copy_of-requires : goal.copy_of-requires
copy_of-requires g c =
    let there = read_there g.L.Link.state c.args.now c.args.self.now c.poll_read_response-told.new.self _
    c.poll_read_response-told.result _ c.poll_read_response-told.ensures.again
    c.poll_read_response-told.ensures.reads in
    rw (← c.self.view_is) at there

pub returns : goal.returns
returns g c = record {
  told = c.poll_read_response-told.result;
  head = c.poll_read_response-told.ensures;
  copies = rw (← c.self.view_is) c.copy_of.ensures;
}
