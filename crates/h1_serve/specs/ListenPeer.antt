-- A peer of `listen`: its link was fresh, it was served over it, and the link was handed back.
use Rattle.std.specs.Prelude.{◌≡◌, ◌⊎◌, List, [], ◌∷◌, map, true, Some}
use Rattle.std.specs.List.{AllByRecursion}
use Rattle.h1_error.specs.Memory.{no_memory}
use Rattle.h1_error.specs.declared.progress.End.TheVariants.{Failed}
use Rattle.h1_error.specs.declared.progress.Progress.{Progress}
use Rattle.h1_error.specs.declared.progress.Progress.TheVariants.{Ready}
use Rattle.h1_link.specs.ClockState.{ClockState}
use Rattle.h1_link.specs.LinkState.{LinkState, IsFresh}
use Rattle.h1_transcript.specs.Rules.{plain}
use Rattle.h1_transcript.specs.Agrees.{Agrees}
use Rattle.h1_transcript.specs.Begun.{Terms}
use Rattle.h1_transcript.specs.declared.history.History.TheVariants.{Forgotten}
use Rattle.h1_echo.specs.Echo.{EchoGives}
use Rattle.h1_app.specs.Accounted.{Accounted}
use Rattle.h1_app.specs.View.{entries, unlimited}
use Rattle.h1_serving.specs.Peer.{Closed}
use Rattle.h1_serving.specs.Served.{EchoedView, IsUnpolled, KeptInCall, LeavesByPolls, BeganInCall, AnswersFor, AnswersInTime}
use Rattle.h1_serving.specs.declared.serving.TheConstants.{MOST_POLLS}
use Rattle.h1_serve.specs.declared.listening.TheConstants.{REQUEST_LIMIT}

-- so many requests may follow the first, and no exchange is kept
abbrev pub listen_terms : Terms
listen_terms = record { limit = Some REQUEST_LIMIT; holding = unlimited Forgotten true }

-- what is told of a peer: what its connection answered, its link when it was handed back, and the
-- clock before and behind
pub record Peer : Type 0 where
  pub answer : Progress
  pub left : LinkState
  pub began : ClockState
  pub ended : ClockState

-- A connection of the echo application was made over the link `start` and served by one call, and
-- then its link was flushed and shut down, which left it as `left`. Each clause of `serve_link`
-- holds, with the state of `start` as the one since which bytes count: what the call leaves, that
-- what was read and replied to agrees with what the link gave and took, and that this is its
-- answer, which has its cause.
pub record IsServed {L : Type 0} (state : L → LinkState) (same_plan : L → L → Type 0)
    (began ended : ClockState) (start left : L) (answer : Progress) : Type 0 where
  pub made : EchoedView L
  pub served : EchoedView L
  pub over : made.session.link ≡ start
  pub unpolled : IsUnpolled made
  pub terms : served.terms ≡ listen_terms
  pub kept : KeptInCall same_plan began.moment ended.moment made served
  pub leaves : LeavesByPolls MOST_POLLS began.asked ended.asked (state start)
      (state served.session.link) (entries served) served.end answer
  pub accounted : Accounted state (state start) served.session served.done served.last
  pub agrees : Agrees (plain EchoGives) listen_terms (state start) (state served.session.link)
      (entries served)
  pub in_call : AllByRecursion (BeganInCall began.moment ended.moment (state start)
      (state served.session.link)) (entries served)
  pub cause : AnswersFor state MOST_POLLS (state start) (state start) served answer
  pub timely : AnswersInTime state began.moment ended.moment made served answer
  pub closed : Closed (state served.session.link) (state left)

-- There was no memory to serve the peer: its link was flushed and shut down as it was.
pub record IsTurnedAway {L : Type 0} (state : L → LinkState) (began ended : ClockState)
    (start left : L) (answer : Progress) : Type 0 where
  pub is : answer ≡ Ready (Failed no_memory)
  pub clock : ended ≡ began
  pub closed : Closed (state start) (state left)

-- what comes of a peer
abbrev pub IsAnswered : {L : Type 0} → (L → LinkState) → (L → L → Type 0) → ClockState → ClockState
    → L → L → Progress → Type 0
IsAnswered state same_plan began ended start left answer =
    IsServed state same_plan began ended start left answer
    ⊎ IsTurnedAway state began ended start left answer

-- the peer is behind a link that was fresh when it was accepted, and that was handed back so
pub record IsPeer {L : Type 0} (state : L → LinkState) (same_plan : L → L → Type 0) (peer : Peer)
    : Type 0 where
  pub start : L
  pub fresh : IsFresh (state start)
  pub behind : L
  pub left : peer.left ≡ state behind
  pub answered : IsAnswered state same_plan peer.began peer.ended start behind peer.answer

-- The peers are served one after another from one state of the clock to another: where it stood
-- behind one it stands before the next, so it is asked by their connections alone.
abbrev pub InTurn : ClockState → List Peer → ClockState → Type 0
InTurn before [] now = now ≡ before
InTurn before (peer ∷ more) now = (peer.began ≡ before) × InTurn peer.ended more now

-- what they are answered, and how their links were handed back
abbrev pub answers_of : List Peer → List Progress
answers_of peers = map (λ peer. peer.answer) peers

abbrev pub links_of : List Peer → List LinkState
links_of peers = map (λ peer. peer.left) peers
