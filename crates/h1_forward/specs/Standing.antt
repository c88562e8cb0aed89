-- Where a client's session stands, as a test.
use Rattle.std.specs.Prelude.{ℕ, Bool, true, false, ◌&&◌, ◌||◌, not, is_some, Option, Some, None, if◌then◌else◌}
use Rattle.h1_transfer.specs.declared.outgoing.Step.{Step}
use Rattle.h1_transfer.specs.declared.outgoing.Step.TheVariants as step
use Rattle.h1_client.specs.ClientView.{ClientView, request_of}
use Rattle.h1_forward.specs.Forwarding.{ForwardView}
use Rattle.h1_forward.specs.declared.forward.Stage.{Stage}
use Rattle.h1_forward.specs.declared.forward.Stage.TheVariants.{Head, Body, End, Done}

abbrev pub is_free : Step → Bool
is_free step.Free = true
is_free step.Head = false
is_free (step.Piece count) = false
is_free step.Finish = false

-- a head is written
abbrev pub is_head : Step → Bool
is_head step.Free = false
is_head step.Head = true
is_head (step.Piece count) = false
is_head step.Finish = false

-- a head is handed in before a request is begun, or goes on
abbrev pub is_head_step : Bool → Bool → Step → Bool
is_head_step new begun step = if new then not begun && is_free step else begun && is_head step

-- a piece is handed in where no write is in progress, or goes on
abbrev pub is_piece_step : Bool → Step → Bool
is_piece_step new step.Free = new
is_piece_step new step.Head = false
is_piece_step new (step.Piece count) = not new
is_piece_step new step.Finish = false

-- the end is begun where no write is in progress, or goes on
abbrev pub is_end_step : Step → Bool
is_end_step step.Free = true
is_end_step step.Head = false
is_end_step (step.Piece count) = false
is_end_step step.Finish = true

-- the client stands where this stage goes on
abbrev pub is_at : {L : Type 0} → ForwardView → ClientView L → Bool
is_at f s = at f.stage where
  at : Stage → Bool
  at Head = is_head_step (is_some f.head) (is_some (request_of s)) s.transfer.outgoing.step
      && is_some f.body
  at Body = is_some (request_of s) && is_piece_step (is_some f.body) s.transfer.outgoing.step
  at End = is_some (request_of s) && is_end_step s.transfer.outgoing.step
  at Done = true
