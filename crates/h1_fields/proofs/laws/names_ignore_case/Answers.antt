use Rattle.h1_fields.proofs.NameLemmas.{same_name_decides}
use Rattle.h1_fields.proofs.laws.names_ignore_case.Goals as goal

pub returns : goal.returns
returns c = same_name_decides
