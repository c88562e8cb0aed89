-- What steps and polls leave of the link beside the bytes that moved: the counts of faults, and the
-- mark that it was shut.
use Rattle.std.specs.Prelude.{◌≡◌, ◌⊎◌, ℕ, Bool, true, Option, Some}
use Rattle.h1_app.specs.View.{View}
use Rattle.h1_app.specs.Words.{Error, ErrorType, End, LinkState, Entry, OfLast}
use Rattle.h1_error.specs.declared.error.ErrorType.TheVariants as kind
use Rattle.h1_error.specs.declared.progress.End.TheVariants as end

-- the last exchange notes that reading its request's body met a fault of the link
abbrev pub NotesFault : Option Entry → Type 0
NotesFault last =
    OfLast last (λ e. (error : Error) × (e.body_error ≡ Some error) × (error.kind ≡ kind.ReadError))

-- the count of failed writes stays but where the connection ends with such a failure
abbrev pub WritesHeldBy : ℕ → ℕ → ErrorType → Type 0
WritesHeldBy before now kind.WriteError = Unit {0}
WritesHeldBy before now _ = now ≡ before

abbrev pub WritesHeld : ℕ → ℕ → Option End → Type 0
WritesHeld before now (Some (end.Failed error)) = WritesHeldBy before now error.kind
WritesHeld before now _ = now ≡ before

-- the count of failed reads stays but where the connection ends with such a failure, or where the
-- last exchange notes it
abbrev pub ReadsHeldBy : ℕ → ℕ → Option Entry → ErrorType → Type 0
ReadsHeldBy before now last kind.ReadError = Unit {0}
ReadsHeldBy before now last _ = (now ≡ before) ⊎ NotesFault last

abbrev pub ReadsHeld : ℕ → ℕ → Option Entry → Option End → Type 0
ReadsHeld before now last (Some (end.Failed error)) = ReadsHeldBy before now last error.kind
ReadsHeld before now last _ = (now ≡ before) ⊎ NotesFault last

-- the link is shut exactly where the connection ends since it isn't kept, and behind its last
-- flush; `before` tells whether it was
abbrev pub ShutBy : Bool → LinkState → Option End → Type 0
ShutBy before now (Some end.NotKept) = (now.shut ≡ true) × (now.shut_at ≡ now.flushed)
ShutBy before now _ = now.shut ≡ before

-- `last` is the last exchange then, and `reason` the end, where one came
pub record Leaves (before now : LinkState) (last : Option Entry)
    (reason : Option End) : Type 0 where
  pub writes : WritesHeld before.write_faults now.write_faults reason
  pub reads : ReadsHeld before.read_faults now.read_faults last reason
  pub shut : ShutBy before.shut now reason

-- what a connection leaves of its link on the way from one view to the other
pub record LeavesOn {L C A J : Type 0} (state : L → LinkState)
    (from to : View L C A J) : Type 0 where
  pub leaves : Leaves (state from.session.link) (state to.session.link) to.last to.end
  -- what the last exchange notes stays noted
  pub noted : NotesFault from.last → NotesFault to.last
