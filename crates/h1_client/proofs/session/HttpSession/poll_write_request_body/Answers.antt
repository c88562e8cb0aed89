-- What the session of HTTP/1 told, without its number.
use Rattle.h1_client.proofs.session.HttpSession.poll_write_request_body.Goals as goal

pub returns : goal.returns
returns g c = (c.write_piece.result, c.write_piece.ensures, c.plain.ensures)
