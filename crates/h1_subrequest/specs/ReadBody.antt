-- What a read of a subrequest's body answers, and how far the body is read then.
use Rattle.std.specs.Prelude.{◌≡◌, ℕ, ◌⊎◌, Bool, true, false, List, [], ◌∷◌, length, take, Option, Some, None, Result, Ok, Err, ◌==◌, nat_lt, if◌then◌else◌}
use Rattle.h1_subrequest.specs.Words.{Body, Done, Error, ErrorType, Failed, Header, HttpTask, ParseState, Pending, Poll, Ready, TaskKind, Trailer, UpgradedBody}
use Rattle.h1_error.specs.declared.error.ErrorType.TheVariants.{ConnectionClosed, PrematureBodyEnd, UnexpectedTask}
use Rattle.h1_error.specs.declared.error.TaskKind.TheVariants as of
use Rattle.h1_subrequest.specs.declared.parse_state.ParseState.TheVariants as parse
use Rattle.h1_subrequest.specs.Reading.{reads, reads_end}

-- a piece of payload, or None where no more comes
abbrev pub Answer : Type 0
Answer = Result (Option (List ℕ)) Error

abbrev pub refused : ErrorType → Answer
refused cause = Err (record { kind = cause; retry = false })

-- it isn't known yet how the body ends
abbrev pub is_unset : ParseState → Bool
is_unset parse.ToStart = true
is_unset state = false

-- the body goes on
abbrev pub is_live : ParseState → Bool
is_live (parse.Partial count left) = true
is_live (parse.UntilClose count) = true
is_live state = false

-- a body of stated length goes on
abbrev pub is_partial : ParseState → Bool
is_partial (parse.Partial count left) = true
is_partial state = false

-- a body goes on that its sender's end ends
abbrev pub is_until_close : ParseState → Bool
is_until_close (parse.UntilClose count) = true
is_until_close state = false

abbrev pub is_over : ParseState → Bool
is_over (parse.Complete count) = true
is_over (parse.Done count) = true
is_over state = false

-- the body was read to its end and has no byte
abbrev pub is_empty : ParseState → Bool
is_empty (parse.Complete count) = count == 0
is_empty state = false

abbrev pub kind_of : HttpTask → TaskKind
kind_of (Header header end) = of.Header
kind_of (Body piece end) = of.Body
kind_of (UpgradedBody piece end) = of.UpgradedBody
kind_of (Trailer fields) = of.Trailer
kind_of Done = of.Done
kind_of (Failed error) = of.Failed

-- What is left of the length is handed out. A body that ends before it is refused.
abbrev pub part_answer : ℕ → Option (List ℕ) → Bool → Answer
part_answer left None end = refused ConnectionClosed
part_answer left (Some piece) end =
    if nat_lt (length piece) left
    then (if end then refused PrematureBodyEnd else Ok (Some piece))
    else Ok (Some (take left piece))

abbrev pub body_answer : ParseState → Option (List ℕ) → Bool → Answer
body_answer (parse.Partial count left) piece end = part_answer left piece end
body_answer state piece end = Ok piece

-- what a task gives to a body that goes on
abbrev pub answer : ParseState → HttpTask → Answer
answer state (Body piece end) = body_answer state piece end
answer state task = refused (UnexpectedTask (kind_of task))

-- what the sender's end gives to it
abbrev pub end_answer : ParseState → Answer
end_answer (parse.Partial count left) = refused ConnectionClosed
end_answer state = Ok None

-- A task was taken, by which the reader moved and answered. Or the sender had ended. Or no task was
-- there, and the read is to be repeated.
abbrev pub ReadLive : {R : Type 0} → (R → List HttpTask → R → Type 0) → Type 0 → Type 0
    → R → R → ParseState → ParseState → Poll Answer → Type 0
ReadLive takes empty ended rx rx' state state' result =
    ((task : HttpTask) × takes rx (task ∷ []) rx' × (state' ≡ reads state task)
    × (result ≡ Ready (answer state task)))
    ⊎ (ended × takes rx [] rx' × (state' ≡ reads_end state) × (result ≡ Ready (end_answer state)))
    ⊎ (empty × takes rx [] rx' × (state' ≡ state) × (result ≡ Pending))

-- A body that is over gives nothing, and takes nothing.
abbrev pub ReadBy : {R : Type 0} → (R → List HttpTask → R → Type 0) → Type 0 → Type 0
    → R → R → ParseState → ParseState → Poll Answer → Type 0
ReadBy takes empty ended rx rx' state state' result =
    ((is_live state ≡ true) × ReadLive takes empty ended rx rx' state state' result)
    ⊎ ((is_live state ≡ false) × (rx' ≡ rx) × (state' ≡ state) × (result ≡ Ready (Ok None)))
