-- A head that was read is told as a task.
use Rattle.h1_client.proofs.v1.HttpSession.poll_read_head_task.Goals as goal

pub returns : goal.returns
returns g c = record {
  told = c.poll_read_resp_header_parts-told.result;
  copy = c.poll_read_resp_header_parts-told.ensures;
  answer = rw (← c.ends_with_head.ensures) c.head_task.ensures;
}
