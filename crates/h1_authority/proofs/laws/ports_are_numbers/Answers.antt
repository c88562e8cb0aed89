use Rattle.h1_authority.proofs.PortLemmas.{port_only, port_all}
use Rattle.h1_authority.proofs.laws.ports_are_numbers.Goals as goal

pub returns : goal.returns
returns c = record { only = port_only; all = port_all }
