-- What the session of HTTP/1 told, without its number.
use Rattle.h1_client.proofs.session.HttpSession.poll_read_response_header.Goals as goal

pub returns : goal.returns
returns g c = (c.read_header.result, c.read_header.ensures, c.plain.ensures)
