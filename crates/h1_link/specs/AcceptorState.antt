-- What an acceptor of links holds, failed at, handed out and took back.
use Rattle.std.specs.Prelude.{ℕ, Bool, true, false, List, [], ◌∷◌, ◌++◌, Option, Some, None}
use Rattle.h1_link.specs.Counts.{raised}
use Rattle.h1_link.specs.LinkState.{LinkState, IsFresh}

pub record AcceptorState : Type 0 where
  -- the port that is held
  pub port : Option ℕ
  -- the binds and accepts that failed
  pub accept_faults : ℕ
  -- the links that were handed out
  pub accepted : ℕ
  -- the links that were handed back, as they were then, in order
  pub handed_back : List LinkState

-- an acceptor before its first call
abbrev pub new_acceptor : AcceptorState
new_acceptor = record { port = None; accept_faults = 0; accepted = 0; handed_back = [] }

-- a bind of this port, which says whether it was done
abbrev pub after_bind : AcceptorState → ℕ → Bool → AcceptorState
after_bind s port true = record s { port = Some port }
after_bind s port false = record s { accept_faults = raised s.accept_faults 1 }

-- an accept; no link is a fault
abbrev pub after_accept : {L : Type 0} → AcceptorState → Option L → AcceptorState
after_accept s None = record s { accept_faults = raised s.accept_faults 1 }
after_accept s (Some link) = record s { accepted = raised s.accepted 1 }

-- a link in this state is handed back
abbrev pub after_hand_back : AcceptorState → LinkState → AcceptorState
after_hand_back s link = record s { handed_back = s.handed_back ++ link ∷ [] }

-- a link that is accepted is fresh
abbrev pub AcceptsFresh : {L : Type 0} → (L → LinkState) → Option L → Type 0
AcceptsFresh state None = Unit {0}
AcceptsFresh state (Some link) = IsFresh (state link)
