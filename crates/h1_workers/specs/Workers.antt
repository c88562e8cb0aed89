-- What a thread answers of the peers that it serves, one after another.
use Rattle.std.specs.Prelude.{◌≡◌, ℕ, List, [], ◌∷◌, ◌++◌, Some, None, Result, Ok, Err}
use Rattle.h1_error.specs.Memory.{no_memory}
use Rattle.h1_error.specs.declared.error.Error.{Error}
use Rattle.h1_error.specs.declared.progress.Progress.{Progress}
use Rattle.h1_link.specs.AcceptorState.{AcceptorState, after_accept}
use Rattle.h1_link.specs.ClockState.{ClockState}
use Rattle.h1_link.specs.LinkState.{LinkState, IsFresh}
use Rattle.h1_transcript.specs.Begun.{Terms}
use Rattle.h1_transcript.specs.Rules.{Rules}
use Rattle.h1_serving.specs.Peer.{Closed, IsServedBy}
use Rattle.h1_workers.specs.declared.door.Next.{Next}
use Rattle.h1_workers.specs.declared.door.Next.TheVariants as next

-- what a peer's connection stands for: the clock before and behind it, its link when it was
-- accepted and when it was handed back, and what is told of it
abbrev pub Stands : Type 0 → Type 1
Stands L = ClockState → ClockState → L → L → Result Progress Error → Type 0

-- A connection of this server was served by one call, and this is its answer; or there was no
-- memory to serve the peer, and its link was flushed and shut down as it was.
abbrev pub IsAnsweredBy : {L A J : Type 0} → (A → Rules) → (L → LinkState) → (L → L → Type 0)
    → (J → ℕ) → A → Terms → Stands L
IsAnsweredBy rules state same_plan pends server terms began ended start left (Ok answer) =
    IsServedBy rules state same_plan pends server terms began ended start left answer
IsAnsweredBy rules state same_plan pends server terms began ended start left (Err error) =
    (error ≡ no_memory) × (ended ≡ began) × Closed (state start) (state left)

-- what one peer is answered, whose link was fresh when it was accepted
pub record Answers {L : Type 0} (state : L → LinkState) (stands : Stands L)
    (began ended : ClockState) (answer : Result Progress Error) : Type 0 where
  pub start : L
  pub fresh : IsFresh (state start)
  pub left : L
  pub stands_so : stands began ended start left answer

-- The peers are answered one after another from one state of a clock to another: where it stood
-- behind one it stands before the next, so it is asked by their connections alone.
abbrev pub InTurn : {L : Type 0} → (L → LinkState) → Stands L → ClockState
    → List (Result Progress Error) → ClockState → Type 0
InTurn state stands before [] now = now ≡ before
InTurn state stands before (answer ∷ more) now = (ended : ClockState)
    × Answers state stands before ended answer × InTurn state stands ended more now

-- one peer more was answered, and this is told behind what was told before
pub record Tells {L : Type 0} (state : L → LinkState) (stands : Stands L)
    (began ended : ClockState) (before now : List (Result Progress Error)) : Type 0 where
  pub answer : Result Progress Error
  pub told : now ≡ before ++ answer ∷ []
  pub answers : Answers state stands began ended answer

-- a link that was taken is fresh
abbrev pub IsFreshNext : {L : Type 0} → (L → LinkState) → Next L → Type 0
IsFreshNext state (next.Link taken) = IsFresh (state taken.link)
IsFreshNext state next.Failed = Unit {0}
IsFreshNext state next.Over = Unit {0}

-- the acceptor was asked once, and this came of it
abbrev pub IsNext : {L : Type 0} → AcceptorState → AcceptorState → Next L → Type 0
IsNext before now (next.Link taken) = now ≡ after_accept before (Some taken.link)
IsNext {L} before now next.Failed = now ≡ after_accept {L = L} before None
IsNext before now next.Over = ⊥

-- one thread's answers, from this state of its clock on
abbrev pub AnswersFrom : {L : Type 0} → (L → LinkState) → Stands L → ClockState
    → List (Result Progress Error) → Type 0
AnswersFrom state stands began answers =
    (ended : ClockState) × InTurn state stands began answers ended
