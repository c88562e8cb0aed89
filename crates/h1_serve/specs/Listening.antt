-- What `listen` leaves: peers that were served one after another, each told in a line.
use Rattle.std.specs.Prelude.{◌≡◌, ◌⊎◌, ℕ, ◌+◌, ◌≤◌, List, [], ◌∷◌, ◌++◌, length, codes, true, false, Some}
use Rattle.std.specs.Fmt.{decimal}
use Rattle.std.specs.List.{AllByRecursion}
use Rattle.h1_error.specs.declared.progress.Progress.{Progress}
use Rattle.h1_link.specs.AcceptorState.{AcceptorState, after_bind, after_hand_back}
use Rattle.h1_link.specs.ClockState.{ClockState}
use Rattle.h1_link.specs.Counts.{raised, Rose}
use Rattle.h1_link.specs.LinkState.{LinkState}
use Rattle.h1_link.specs.SinkState.{SinkState}
use Rattle.h1_words.specs.Report.{answer_text}
use Rattle.h1_serve.specs.declared.status.Status.{Status}
use Rattle.h1_serve.specs.declared.status.Status.TheVariants as status
use Rattle.h1_serve.specs.ListenPeer.{Peer, InTurn, answers_of, links_of}
use Rattle.h1_serve.specs.Output.{Took, Wrote}

-- connection I: ANSWER
abbrev pub listen_line : ℕ → Progress → List ℕ
listen_line number answer =
    codes "connection " ++ decimal number ++ codes ": " ++ answer_text answer ++ (10 ∷ [])

-- the lines of these answers in order, the first of them with this number
abbrev pub listen_lines : ℕ → List Progress → List ℕ
listen_lines number [] = []
listen_lines number (answer ∷ more) = listen_line number answer ++ listen_lines (number + 1) more

-- So many links were accepted, one after another, and so many calls of the acceptor failed. The
-- peer behind each link was served, and the link was handed back. The sink took the lines of their
-- answers in order and nothing else, and flushed them.
pub record Serves (is_peer : Peer → Type 0) (count failed : ℕ) (sink sink' : SinkState)
    (net net' : AcceptorState) (clock clock' : ClockState) : Type 0 where
  pub peers : List Peer
  pub many : length peers ≡ count
  pub all : AllByRecursion is_peer peers
  pub in_turn : InTurn clock peers clock'
  pub took : Took sink sink' (listen_lines 0 (answers_of peers))
  pub flushed : 1 ≤ count → sink'.flushed ≡ true
  pub accepted : net'.accepted ≡ raised net.accepted count
  pub handed_back : net'.handed_back ≡ net.handed_back ++ links_of peers
  pub faults : net'.accept_faults ≡ raised net.accept_faults failed

-- The acceptor handed out at most so many links, each of which was handed back to it. No count of
-- it fell, and it holds the port that it held.
pub record Accepts (most : ℕ) (before now : AcceptorState) : Type 0 where
  pub links : List LinkState
  pub few : length links ≤ most
  pub accepted : now.accepted ≡ raised before.accepted (length links)
  pub handed_back : now.handed_back ≡ before.handed_back ++ links
  pub faults : before.accept_faults ≤ now.accept_faults
  pub port : now.port ≡ before.port

-- this port was bound and then at most so many links were accepted, or it could not be bound
abbrev pub Listens : ℕ → ℕ → AcceptorState → AcceptorState → Type 0
Listens port most before now = Accepts most (after_bind before port true) now
    ⊎ (now ≡ after_bind before port false)

-- the clock doesn't go back, and its count doesn't fall
abbrev pub GoesOn : ClockState → ClockState → Type 0
GoesOn before now = (before.moment ≤ now.moment) × (before.asked ≤ now.asked)

-- The cause of each status of the task `listen` with this port and count. Where the acceptor
-- failed, the lines of the connections before are written.
abbrev pub ListenCause : (Peer → Type 0) → ℕ → ℕ → SinkState → SinkState
    → AcceptorState → AcceptorState → ClockState → ClockState → Status → Type 0
ListenCause is_peer port count sink sink' net net' clock clock' status.Done =
    (net'.port ≡ Some port) × Serves is_peer count 0 sink sink' net net' clock clock'
ListenCause is_peer port count sink sink' net net' clock clock' status.Words = ⊥
ListenCause is_peer port count sink sink' net net' clock clock' status.Script = ⊥
ListenCause is_peer port count sink sink' net net' clock clock' status.Source = ⊥
ListenCause is_peer port count sink sink' net net' clock clock' status.Sink =
    Rose sink.faults sink'.faults
ListenCause is_peer port count sink sink' net net' clock clock' status.Memory = Unit {0}
ListenCause is_peer port count sink sink' net net' clock clock' status.Acceptor =
    (served : ℕ) × (served ≤ count) × Serves is_peer served 1 sink sink' net net' clock clock'

-- one link was accepted and handed back, and its peer was answered so
pub record AnswersOne (is_peer : Peer → Type 0) (net net' : AcceptorState)
    (clock clock' : ClockState) (answer : Progress) : Type 0 where
  pub peer : Peer
  pub is : peer.answer ≡ answer
  pub served : is_peer peer
  pub began : peer.began ≡ clock
  pub ended : peer.ended ≡ clock'
  pub accepted : net' ≡ after_hand_back (record net { accepted = raised net.accepted 1 }) peer.left

-- and the sink took the line of its peer and flushed it
pub record ServesOne (is_peer : Peer → Type 0) (number : ℕ) (sink sink' : SinkState)
    (net net' : AcceptorState) (clock clock' : ClockState) : Type 0 where
  pub answer : Progress
  pub answers : AnswersOne is_peer net net' clock clock' answer
  pub wrote : Wrote sink sink' (listen_line number answer)

-- no peer came: the acceptor failed
abbrev pub AnswersNone : AcceptorState → AcceptorState → ClockState → ClockState → Type 0
AnswersNone net net' clock clock' =
    (net' ≡ record net { accept_faults = raised net.accept_faults 1 }) × (clock' ≡ clock)

-- why the next peer has no line
abbrev pub StopCause : SinkState → SinkState → AcceptorState → AcceptorState → ClockState
    → ClockState → Status → Type 0
StopCause sink sink' net net' clock clock' status.Sink = Rose sink.faults sink'.faults
StopCause sink sink' net net' clock clock' status.Memory = Unit {0}
StopCause sink sink' net net' clock clock' status.Acceptor =
    (sink' ≡ sink) × AnswersNone net net' clock clock'
StopCause sink sink' net net' clock clock' status.Done = ⊥
StopCause sink sink' net net' clock clock' status.Words = ⊥
StopCause sink sink' net net' clock clock' status.Script = ⊥
StopCause sink sink' net net' clock clock' status.Source = ⊥
