-- How often a dialer of links failed and wasn't ready, and what it hands out.
use Rattle.std.specs.Prelude.{ℕ}
use Rattle.h1_link.specs.Counts.{raised}
use Rattle.h1_link.specs.LinkState.{LinkState, IsFresh}
use Rattle.h1_link.specs.declared.dialer.DialStep.{DialStep}
use Rattle.h1_link.specs.declared.dialer.DialStep.TheVariants.{Connected, NotReady, Failed, NoMemory}

pub record DialerState : Type 0 where
  -- the dials that failed; the dials that weren't ready
  pub dial_faults : ℕ
  pub dial_waits : ℕ

abbrev pub after_dial : {L : Type 0} → DialerState → DialStep L → DialerState
after_dial s (Connected link) = s
after_dial s NotReady = record s { dial_waits = raised s.dial_waits 1 }
after_dial s Failed = record s { dial_faults = raised s.dial_faults 1 }
after_dial s NoMemory = s

-- a link that is handed out is fresh
abbrev pub HandsOutFresh : {L : Type 0} → (L → LinkState) → DialStep L → Type 0
HandsOutFresh state (Connected link) = IsFresh (state link)
HandsOutFresh state NotReady = Unit {0}
HandsOutFresh state Failed = Unit {0}
HandsOutFresh state NoMemory = Unit {0}
