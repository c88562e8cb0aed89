use Rattle.h1_body.proofs.WrittenLemmas.{one_piece, pieces_are_read}
use Rattle.h1_body.proofs.writing_laws.written_bodies_are_read_back.Goals as goal

pub returns-clause-one : goal.returns-clause-one
returns-clause-one c = one_piece

pub returns-clause-pieces : goal.returns-clause-pieces
returns-clause-pieces c = pieces_are_read
