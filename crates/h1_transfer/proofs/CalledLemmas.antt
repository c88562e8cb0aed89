-- Lemmas on calls of a link, one after the other.
use Rattle.std.proofs.Common.{◌≡◌, Bool, true, false, refl, ◌∙◌, arith}
use Rattle.h1_transfer.specs.Words.{LinkState}
use Rattle.h1_transfer.proofs.Words.{Called, no_fault}
use Rattle.h1_transfer.specs.Calls.{CallsFew, FaultsBy, Fault, read_fault, write_fault}

pub called_itself : (s : LinkState) → Called s s true no_fault
called_itself s = record { others = refl; faults = (refl, refl); shut = refl }

few_on : (a b c : LinkState) (done : Bool) → b.others ≡ a.others → CallsFew b c done → CallsFew a c done
few_on a b c true before after = after ∙ before
few_on a b c false before after = omega (arith, before, after)

faults_on : (a b c : LinkState) (fault : Fault) → FaultsBy a b no_fault → FaultsBy b c fault → FaultsBy a c fault
faults_on a b c no_fault before after = (after.0 ∙ before.0, after.1 ∙ before.1)
faults_on a b c read_fault before after = after ∙ before.1
faults_on a b c write_fault before after = after ∙ before.0

-- calls that only moved bytes, and after them one that came to this answer
pub called_on : (a b c : LinkState) (done : Bool) (fault : Fault) → Called a b true no_fault → Called b c done fault
    → Called a c done fault
called_on a b c done fault before after = record {
  others = few_on a b c done before.others after.others;
  faults = faults_on a b c fault before.faults after.faults;
  shut = after.shut ∙ before.shut;
}

-- a call that is done made few calls that moved no byte
pub called_undone : (a b : LinkState) (done : Bool) (fault : Fault) → Called a b done fault → Called a b false fault
called_undone a b done fault calls = record {
  others = undone done calls.others;
  faults = calls.faults;
  shut = calls.shut;
} where
  undone : (done : Bool) → CallsFew a b done → CallsFew a b false
  undone true few = omega (arith, few)
  undone false few = few
