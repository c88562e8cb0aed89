-- What `get` tells: a line for each response, and one of the links.
use Rattle.std.specs.Prelude.{◌≡◌, ◌<◌, ℕ, ◌+◌, List, [], ◌∷◌, ◌++◌, length, codes, Bool, true, false, not}
use Rattle.std.specs.Fmt.{decimal}
use Rattle.h1_error.specs.declared.error.Error.{Error}
use Rattle.h1_error.specs.declared.progress.End.TheVariants as end
use Rattle.h1_link.specs.Counts.{Rose}
use Rattle.h1_link.specs.DialerState.{DialerState}
use Rattle.h1_link.specs.LinkState.{LinkState}
use Rattle.h1_link.specs.SinkState.{SinkState}
use Rattle.h1_words.specs.Report.{end_text}
use Rattle.h1_client.specs.declared.settings.Peer.{Peer}
use Rattle.h1_asking.specs.Fetching.{Fetches, FetchFault}
use Rattle.h1_fetch.specs.Request.{Request}
use Rattle.h1_fetch.specs.Output.{Took, Wrote, WriteCause}
use Rattle.h1_asking.specs.declared.fetching.Fault.{Fault}
use Rattle.h1_asking.specs.declared.fetching.Fault.TheVariants as fault
use Rattle.h1_asking.specs.declared.fetching.Fetched.{Fetched}
use Rattle.h1_fetch.specs.declared.output.Written.{Written}
use Rattle.h1_fetch.specs.declared.status.Status.{Status}
use Rattle.h1_fetch.specs.declared.status.Status.TheVariants as status

-- the server at this port of this machine
abbrev pub peer_at : ℕ → Peer
peer_at port = record { key = port; allow_h1_response_invalid_content_length = false }

abbrev pub link_text : Bool → List ℕ
link_text true = codes " reused"
link_text false = codes " new"

-- response I: STATUS N reused, or new
abbrev pub response_line : ℕ → Fetched → List ℕ
response_line number fetched =
    codes "response " ++ decimal number ++ codes ": " ++ decimal fetched.status ++ codes " "
    ++ decimal fetched.length ++ link_text fetched.is_reused ++ (10 ∷ [])

-- the lines of what came, in order, the first of them with this number
abbrev pub response_lines : ℕ → List Fetched → List ℕ
response_lines number [] = []
response_lines number (fetched ∷ more) =
    response_line number fetched ++ response_lines (number + 1) more

abbrev pub one_if : Bool → ℕ
one_if true = 1
one_if false = 0

-- how many came over links that had served before, and how many over new ones
abbrev pub reused_of : List Fetched → ℕ
reused_of [] = 0
reused_of (fetched ∷ more) = one_if fetched.is_reused + reused_of more

abbrev pub dialled_of : List Fetched → ℕ
dialled_of [] = 0
dialled_of (fetched ∷ more) = one_if (not fetched.is_reused) + dialled_of more

-- dialled N, reused N
abbrev pub links_line : ℕ → ℕ → List ℕ
links_line dialled reused =
    codes "dialled " ++ decimal dialled ++ codes ", reused " ++ decimal reused ++ (10 ∷ [])

-- response I: failed K TEXT
abbrev pub no_response_line : ℕ → Error → List ℕ
no_response_line number error =
    codes "response " ++ decimal number ++ codes ": " ++ end_text (end.Failed error) ++ (10 ∷ [])

-- this came for the requests, one after another: each begins with the dialer as the one before left it
abbrev pub Came : {L D : Type 0} → (L → LinkState) → (D → DialerState) → Peer → Request → D
    → List Fetched → D → Type 0
Came state dials peer request before [] now = now ≡ before
Came {L} {D} state dials peer request before (fetched ∷ more) now =
    (between : D) × Fetches state dials peer request.head request.body before between fetched
    × Came state dials peer request between more now

-- so many responses came, and the sink took the lines of them and nothing else, and flushed them
pub record Gets {L D : Type 0} (state : L → LinkState) (dials : D → DialerState) (peer : Peer)
    (request : Request) (count : ℕ) (sink sink' : SinkState) (dialer dialer' : D) : Type 0 where
  pub all : List Fetched
  pub many : length all ≡ count
  pub came : Came state dials peer request dialer all dialer'
  pub took : Took sink sink' (response_lines 0 all)
  pub flushed : 0 < count → sink'.flushed ≡ true

-- and the line of the links, and flushed all
pub record GetsAll {L D : Type 0} (state : L → LinkState) (dials : D → DialerState) (peer : Peer)
    (request : Request) (count : ℕ) (sink sink' : SinkState) (dialer dialer' : D) : Type 0 where
  pub all : List Fetched
  pub many : length all ≡ count
  pub came : Came state dials peer request dialer all dialer'
  pub wrote : Wrote sink sink'
      (response_lines 0 all ++ links_line (dialled_of all) (reused_of all))

-- for the request behind so many there is no response, and its line was written as messages
pub record Stops {L D : Type 0} (state : L → LinkState) (dials : D → DialerState) (peer : Peer)
    (request : Request) (count : ℕ) (sink sink' messages messages' : SinkState)
    (dialer dialer' : D) (error : Error) (why : Fault) : Type 0 where
  pub number : ℕ
  pub few : number < count
  pub between : D
  pub before : Gets state dials peer request number sink sink' dialer between
  pub fault : FetchFault state dials peer between dialer' why
  pub written : Written
  pub told : WriteCause messages messages' (no_response_line number error) written

-- the cause of each status of the task `get`, with this request and this count
abbrev pub GetCause : {L D : Type 0} → (L → LinkState) → (D → DialerState) → Peer → Request → ℕ
    → SinkState → SinkState → SinkState → SinkState → D → D → Status → Type 0
GetCause state dials peer request count sink sink' messages messages' dialer dialer' status.Done =
    GetsAll state dials peer request count sink sink' dialer dialer' × (messages' ≡ messages)
GetCause state dials peer request count sink sink' messages messages' dialer dialer' status.Words = ⊥
GetCause state dials peer request count sink sink' messages messages' dialer dialer' status.Script = ⊥
GetCause state dials peer request count sink sink' messages messages' dialer dialer' status.Source = ⊥
GetCause state dials peer request count sink sink' messages messages' dialer dialer' status.Sink =
    Rose sink.faults sink'.faults
GetCause state dials peer request count sink sink' messages messages' dialer dialer' status.Memory =
    Unit {0}
GetCause state dials peer request count sink sink' messages messages' dialer dialer' status.Response =
    (error : Error) × Stops state dials peer request count sink sink' messages messages' dialer dialer'
    error (fault.Response error)
GetCause state dials peer request count sink sink' messages messages' dialer dialer' status.Server =
    (error : Error) × Stops state dials peer request count sink sink' messages messages' dialer dialer'
    error (fault.Server error)
