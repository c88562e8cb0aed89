-- The calls of a session, each where it has its turn.
use Rattle.std.specs.Prelude.{◌≡◌, ℕ, Bool, true, false, ◌&&◌, not, is_some, List, Option, Some, None, Result, Ok, Err, if◌then◌else◌}
use Rattle.h1_client.specs.Calls.{EndWrite, HeadReading, HeadWrite, PieceWrite}
use Rattle.h1_client.specs.ClientView.{ClientView, request_of, response_of}
use Rattle.h1_client.specs.ReadingBody.{PartCall}
use Rattle.h1_client.specs.Words.{Poll, Pending, Ready, Error, LinkState, RequestView, Step, Free, Head, Piece, Finish}

abbrev pub is_free : Step → Bool
is_free Free = true
is_free Head = false
is_free (Piece count) = false
is_free Finish = false

abbrev pub is_head : Step → Bool
is_head Free = false
is_head Head = true
is_head (Piece count) = false
is_head Finish = false

-- a head is handed in before a request is begun, and only its own call goes on
abbrev pub is_ask_step : Bool → Bool → Step → Bool
is_ask_step is_new begun step = if is_new then not begun && is_free step else is_head step

-- a piece is handed in where no write is in progress, and only its own call goes on
abbrev pub is_piece_step : Bool → Step → Bool
is_piece_step is_new Free = is_new
is_piece_step is_new Head = false
is_piece_step is_new (Piece count) = not is_new
is_piece_step is_new Finish = false

-- the end is begun where no write is in progress, and only its own call goes on
abbrev pub is_end_step : Step → Bool
is_end_step Free = true
is_end_step Head = false
is_end_step (Piece count) = false
is_end_step Finish = true

-- when each call has its turn: one that writes the head, a piece or the end of the request, and one
-- that reads the head of a response or a part of its body
abbrev pub may_ask : {L : Type 0} → Option RequestView → ClientView L → Bool
may_ask head s =
    is_ask_step (is_some head) (is_some (request_of s)) s.transfer.outgoing.step

abbrev pub may_write : {L : Type 0} → Option (List ℕ) → ClientView L → Bool
may_write piece s =
    is_some (request_of s) && is_piece_step (is_some piece) s.transfer.outgoing.step

abbrev pub may_finish : {L : Type 0} → ClientView L → Bool
may_finish s = is_some (request_of s) && is_end_step s.transfer.outgoing.step

abbrev pub may_read_head : {L : Type 0} → ClientView L → Bool
may_read_head s = is_some (request_of s) && not (is_some (response_of s))

abbrev pub may_read_body : {L : Type 0} → ClientView L → Bool
may_read_body s = is_some (request_of s) && is_some (response_of s)

-- a call is made exactly where it has its turn
abbrev pub MadeOr : Bool → Type 0 → Type 0 → Type 0
MadeOr true Made Idle = Made
MadeOr false Made Idle = Idle

-- elsewhere it is pending, and nothing is done
abbrev pub IsIdle : {L T : Type 0} → ClientView L → ClientView L → Poll T → Type 0
IsIdle old new outcome = (outcome ≡ Pending) × (new ≡ old)

-- the head of the request is handed in, or goes on; out of its turn it stays with its caller
abbrev pub AskTurn : {L : Type 0} → (L → LinkState) → (L → L → Type 0) → ℕ → ClientView L
    → ClientView L → Option RequestView → Option RequestView → Poll (Result ℕ Error) → Type 0
AskTurn state same_plan now old new head kept outcome = MadeOr (may_ask head old)
    (HeadWrite state same_plan now old new head kept outcome)
    (IsIdle old new outcome × (kept ≡ head))

-- a piece of its body, in the same way
abbrev pub PieceTurn : {L : Type 0} → (L → LinkState) → (L → L → Type 0) → ℕ → ClientView L
    → ClientView L → Option (List ℕ) → Option (List ℕ) → Poll (Result (Option ℕ) Error) → Type 0
PieceTurn state same_plan now old new piece kept outcome = MadeOr (may_write piece old)
    (PieceWrite state same_plan now old new piece kept outcome)
    (IsIdle old new outcome × (kept ≡ piece))

-- the end of its body
abbrev pub EndTurn : {L : Type 0} → (L → LinkState) → (L → L → Type 0) → ClientView L
    → ClientView L → Poll (Result (Option ℕ) Error) → Type 0
EndTurn state same_plan old new outcome = MadeOr (may_finish old)
    (EndWrite state same_plan old new outcome) (IsIdle old new outcome)

-- the head of a response
abbrev pub HeadTurn : {L : Type 0} → (L → LinkState) → (L → L → Type 0) → ℕ → ClientView L
    → ClientView L → Poll (Result ℕ Error) → Type 0
HeadTurn state same_plan now old new outcome = MadeOr (may_read_head old)
    (HeadReading state same_plan now old new outcome) (IsIdle old new outcome)

-- a part of the final response's body
abbrev pub PartTurn : {L : Type 0} → (L → LinkState) → (L → L → Type 0) → ℕ → ClientView L
    → ClientView L → Poll (Result (Option (List ℕ)) Error) → Type 0
PartTurn state same_plan now old new outcome = MadeOr (may_read_body old)
    (PartCall state same_plan now old new outcome) (IsIdle old new outcome)

-- a head is to be handed in, or its session took it up
abbrev pub IsHandedOver : RequestView → Option RequestView → Option RequestView → Type 0
IsHandedOver request (Some head) taken = (head ≡ request) × (taken ≡ None)
IsHandedOver request None taken = taken ≡ Some request

-- a call that is done left nothing to be handed in
abbrev pub IsAnsweredEmpty : {T : Type 0} → Poll (Result T Error) → Option RequestView → Type 0
IsAnsweredEmpty (Ready (Ok value)) kept = kept ≡ None
IsAnsweredEmpty (Ready (Err error)) kept = Unit {0}
IsAnsweredEmpty Pending kept = Unit {0}
