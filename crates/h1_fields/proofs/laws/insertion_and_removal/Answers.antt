use Rattle.h1_fields.proofs.LineLemmas.{values-with_line, values-with_line_other, values-without, values-without_other, has_line_is}
use Rattle.h1_fields.proofs.laws.insertion_and_removal.Goals as goal

pub returns-clause-inserted : goal.returns-clause-inserted
returns-clause-inserted c = values-with_line

pub returns-clause-beside_inserted : goal.returns-clause-beside_inserted
returns-clause-beside_inserted c = values-with_line_other

pub returns-clause-removed : goal.returns-clause-removed
returns-clause-removed c = values-without

pub returns-clause-beside_removed : goal.returns-clause-beside_removed
returns-clause-beside_removed c = values-without_other

pub returns-clause-found : goal.returns-clause-found
returns-clause-found c = has_line_is
