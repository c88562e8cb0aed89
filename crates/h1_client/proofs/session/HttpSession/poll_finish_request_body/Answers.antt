-- What the session of HTTP/1 told, without its number.
use Rattle.h1_client.proofs.session.HttpSession.poll_finish_request_body.Goals as goal

pub returns : goal.returns
returns g c = (c.write_end.result, c.write_end.ensures, c.plain.ensures)
