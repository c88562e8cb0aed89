-- What contracts see of an acceptor in memory.
use Rattle.std.specs.Prelude.{List, [], ◌∷◌, ◌++◌, Bool, false}
use Rattle.std.specs.List.{AllByRecursion}
use Rattle.h1_link.specs.AcceptorState.{AcceptorState, new_acceptor}
use Rattle.h1_link.specs.LinkState.{IsFresh}
use Rattle.h1_link.specs.MemState.{MemState}

pub record MemAcceptorState : Type 0 where
  -- what every acceptor has
  pub state : AcceptorState
  -- the links that it still hands out, in order
  pub planned : List MemState
  -- the next bind fails
  pub bind_fault : Bool

-- an acceptor with no link to hand out
abbrev pub new_mem_acceptor : MemAcceptorState
new_mem_acceptor = record { state = new_acceptor; planned = []; bind_fault = false }

-- each of these links is fresh
abbrev pub AreFresh : List MemState → Type 0
AreFresh links = AllByRecursion (λ link. IsFresh link.state) links

-- one fresh link more after fresh ones
pub AreFresh-push : (links : List MemState) (link : MemState) → AreFresh links
    → IsFresh link.state → AreFresh (links ++ link ∷ [])
AreFresh-push [] link all one = (one, tt)
AreFresh-push (x ∷ links) link all one = (all.0, AreFresh-push links link all.1 one)
