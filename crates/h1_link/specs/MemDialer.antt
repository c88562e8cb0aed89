-- What contracts see of a dialer in memory.
use Rattle.std.specs.Prelude.{◌≡◌, ℕ, List, [], ◌∷◌, ◌++◌}
use Rattle.std.proofs.Common.{refl, sym, ap, ◌∙◌, append_assoc}
use Rattle.h1_link.specs.LinkState.{LinkState}
use Rattle.h1_link.specs.DialerState.{DialerState, HandsOutFresh}
use Rattle.h1_link.specs.declared.dialer.DialStep.{DialStep}
use Rattle.h1_link.specs.declared.dialer.DialStep.TheVariants.{Failed}

pub record MemDialerState (L : Type 0) : Type 0 where
  -- what every dialer has
  pub state : DialerState
  -- what it still answers, in order
  pub planned : List (DialStep L)

abbrev pub mem_dialer_of : {L : Type 0} → ℕ → ℕ → List (DialStep L) → MemDialerState L
mem_dialer_of faults waits planned = record {
  state = record { dial_faults = faults; dial_waits = waits };
  planned = planned;
}

-- each link that is planned is fresh
abbrev pub AllFresh : {L : Type 0} → (L → LinkState) → List (DialStep L) → Type 0
AllFresh state [] = Unit {0}
AllFresh state (step ∷ steps) = HandsOutFresh state step × AllFresh state steps

-- one step more after fresh ones
pub AllFresh-push : {L : Type 0} (state : L → LinkState) (steps : List (DialStep L)) (step : DialStep L)
    → AllFresh state steps → HandsOutFresh state step → AllFresh state (steps ++ step ∷ [])
AllFresh-push state [] step all one = (one, tt)
AllFresh-push state (x ∷ steps) step all one = (all.0, AllFresh-push state steps step all.1 one)

-- the first planned step, or Failed after the last
abbrev pub dial_answer : {L : Type 0} → List (DialStep L) → DialStep L
dial_answer [] = Failed
dial_answer (step ∷ steps) = step

abbrev pub dials_left : {L : Type 0} → List (DialStep L) → List (DialStep L)
dials_left [] = []
dials_left (step ∷ steps) = steps

-- between two moments the dialer's owner planned nothing: only answered steps are gone
pub record SameDials {L : Type 0} (old new : MemDialerState L) : Type 0 where
  pub answered : List (DialStep L)
  pub planned : old.planned ≡ answered ++ new.planned

pub dials_itself : {L : Type 0} (dialer : MemDialerState L) → SameDials dialer dialer
dials_itself dialer = record { answered = []; planned = refl }

pub dials_on : {L : Type 0} (a b c : MemDialerState L) → SameDials a b → SameDials b c → SameDials a c
dials_on a b c first second = record {
  answered = first.answered ++ second.answered;
  planned = first.planned ∙ ap (λ steps. first.answered ++ steps) second.planned
      ∙ sym (append_assoc first.answered second.answered c.planned);
}
