-- A part that was read is told as a task.
use Rattle.h1_client.proofs.v1.HttpSession.poll_read_body_task.Goals as goal

pub returns : goal.returns
returns g c = record {
  told = c.poll_read_body_bytes-told.result;
  part = c.poll_read_body_bytes-told.ensures;
  answer = rw (← c.was_upgraded-upgraded.ensures, ← c.is_body_done-done.ensures) c.body_task.ensures;
}
