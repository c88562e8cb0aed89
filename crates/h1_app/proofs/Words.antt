-- The names of this crate's specs that its proofs speak in.
pub use Rattle.h1_app.specs.Accounted.{Accounted, ReadAhead, ReadEntry, ReadHead, ReadSo, SettledSo, StoodSo, StoppedSo, StopsBody, StopsWith, WroteSo, coming}
pub use Rattle.h1_app.specs.Asking.{AsksAs, GivesAsked, IsAskedOf, noted}
pub use Rattle.h1_app.specs.Causes.{Cause, PendedBy, PendedNew, PendedOn, WaitCause}
pub use Rattle.h1_app.specs.Draining.{CalledForReuse, LastMayGoOn, ReusesAs, ShutUnless, StandsDrained}
pub use Rattle.h1_app.specs.Joins.{IsDoneIn, IsRestarted, JoinsNext}
pub use Rattle.h1_app.specs.Leaves.{Leaves, LeavesOn, NotesFault, ReadsHeld, ReadsHeldBy, ShutBy, WritesHeld, WritesHeldBy}
pub use Rattle.h1_app.specs.Outcome.{JobPends, OutcomeCause, WaitsOn}
pub use Rattle.h1_app.specs.Pace.{ahead, place, rank}
pub use Rattle.h1_app.specs.Answering.{IsAnswering, IsAwaiting, IsUnwritten, lent}
pub use Rattle.h1_app.specs.Replied.{IsBodied, IsDraining, IsFinishing, IsHeaded, IsReplied, MayGoOn, filled, fresh}
pub use Rattle.h1_app.specs.Sound.{IfAwaiting, IsKept, Sound, SoundStage}
pub use Rattle.h1_app.specs.Filtering.{Chain, FiltersStay, ModulesStand, SameFiltered, behind_body, behind_header, behind_request, bytes_of, chain, filters_of, is_empty, rules_of, rules_with, value_of}
pub use Rattle.h1_app.specs.FilterSteps.{FilterReady, SoundWith, SteppedWith}
pub use Rattle.h1_app.specs.Beginning.{BegunAs, IsNewEntry, IsPieceOf, failure_of}
pub use Rattle.h1_app.specs.Step.{Continues, JobFrom, MovesWithin, StepReady, StepRefuses, Stepped, SteppedBy}
pub use Rattle.h1_app.specs.Turn.{Gone, JobNew, LeavesBy, TurnCause, Turned, one_where, outcome_end, still_calls, stops, waiting_for}
pub use Rattle.h1_app.specs.View.{Served, View, entries, limit_of, served_by, terms_of, view_of}
pub use Rattle.h1_app.specs.Waits.{FewReadsNotReady, OthersFew, still}
pub use Rattle.h1_app.specs.Replying.{NotesBody, NotesHeader, StandsAfter, going}
