-- Lemmas on what is there or isn't.
use Rattle.std.proofs.Common.{◌≡◌, Option, Some, None, IfNone, IfSome, refl, subst}

-- what holds in any case holds where nothing is there
pub if_none : {A : Type 0} (o : Option A) (P : Type 0) → P → IfNone o P
if_none None P holds = holds
if_none (Some x) P holds = tt

-- an option that is nothing is None
pub is_nothing : {A : Type 0} (o : Option A) → ((x : A) → o ≡ Some x → ⊥) → o ≡ None
is_nothing None not_some = refl
is_nothing (Some x) not_some = absurd (not_some x refl)

-- what holds of what is there
pub if_some : {A : Type 0} (o : Option A) (P : A → Type 0) (x : A) → o ≡ Some x → P x → IfSome o P
if_some None P x is holds = tt
if_some (Some y) P x is holds = let same : x ≡ y = cc in subst P same holds

-- what holds where nothing is there gives what follows from it
pub if_none_on : {A : Type 0} (o : Option A) (P Q : Type 0) → (P → Q) → IfNone o P → IfNone o Q
if_none_on None P Q on holds = on holds
if_none_on (Some x) P Q on holds = tt
