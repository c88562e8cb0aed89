-- How often reads of a connection were not ready, and how many of its link calls moved no byte.
use Rattle.std.specs.Prelude.{ℕ, ◌+◌, ◌≤◌, List}
use Rattle.h1_app.specs.Words.{LinkState, Entry, Stage, Outcome, replies}
use Rattle.h1_app.specs.declared.exchange.Stage.TheVariants as stage
use Rattle.h1_app.specs.declared.exchange.Outcome.TheVariants as outcome

-- Reads that were not ready: at most one for each reply that was made, since the application may
-- have met one and replied all the same, and one more where the connection waits or ends.
abbrev pub FewReadsNotReady : LinkState → LinkState → List Entry → List Entry → Outcome → Type 0
FewReadsNotReady old now before behind outcome.Done =
    now.read_waits + replies before ≤ old.read_waits + replies behind
FewReadsNotReady old now before behind _ =
    now.read_waits + replies before ≤ old.read_waits + replies behind + 1

-- How many link calls of an exchange that goes on may have moved no byte before this stage: the
-- application's read, the flush after the header, and the flush after the body.
abbrev pub still : {J : Type 0} → Stage J → ℕ
still stage.Head = 0
still (stage.Answer job) = 0
still stage.TakeHeader = 1
still stage.Header = 1
still stage.TakeBody = 2
still stage.Body = 2
still stage.Finish = 2
still stage.Drain = 3
still stage.Next = 3

-- Link calls that moved no byte: those of the stages that are over, and one more where the
-- connection waits or ends.
abbrev pub OthersFew : {J : Type 0} → LinkState → LinkState → Stage J → Stage J → Outcome → Type 0
OthersFew old now from to outcome.Done = now.others + still from ≤ old.others + still to
OthersFew old now from to _ = now.others ≤ old.others + 1
