-- What passes of the tasks that a subrequest puts, and how far its body is written behind each.
use Rattle.std.specs.Prelude.{ℕ, ◌+◌, ◌-◌, Bool, ◌||◌, ◌==◌, not, List, length, take, Option, Some, None, min, nat_lt, if◌then◌else◌}
use Rattle.h1_body.specs.declared.framing.Framing.TheVariants as framed
use Rattle.h1_subrequest.specs.Words.{Framing, HttpTask, Body, Done, Header, UpgradedBody, BodyMode, Passing, Drops, Passes, RequestView, ResponseView, is_interim, out}
use Rattle.h1_subrequest.specs.declared.body_mode.BodyMode.TheVariants as mode
use Rattle.h1_subrequest.specs.Reading.{counted}
use Rattle.h1_subrequest.specs.Upgrade.{completes}

-- The framing of a response sets its writer. Without a length the sender's end ends the body.
abbrev pub mode_of : Framing → BodyMode
mode_of (framed.Counted n) = mode.ContentLength n 0
mode_of framed.Chunked = mode.UntilClose 0
mode_of framed.UntilClose = mode.UntilClose 0

-- a final header, behind which the body comes
abbrev pub is_final : ResponseView → Bool
is_final header = not (is_interim header.status || header.status == 101)

-- A 101 that completes the upgrade and a final header set the mode, and no other header does.
abbrev pub header_mode : RequestView → ResponseView → BodyMode → BodyMode
header_mode request header writer =
    if completes request header then mode.UntilClose 0
    else (if is_final header then mode_of (out request.method header) else writer)

-- what passes of a piece of payload, if it isn't dropped, and the mode behind it
abbrev pub cut : BodyMode → List ℕ → Option (List ℕ × BodyMode)
cut mode.ToSelect piece = None
cut (mode.ContentLength n count) piece =
    if nat_lt count n
    then Some (
      take (n - count) piece,
      mode.ContentLength n (count + min (n - count) (length piece)),
    )
    else None
cut (mode.UntilClose count) piece = Some (piece, mode.UntilClose (counted count (length piece)))
cut (mode.Complete count) piece = None

-- the piece in a task, or the task dropped
abbrev pub carried : BodyMode → (List ℕ → HttpTask) → Option (List ℕ × BodyMode) → Passing
carried writer task None = Drops writer
carried writer task (Some cut) = Passes (task cut.0) cut.1

abbrev pub body_passing : BodyMode → List ℕ → (List ℕ → HttpTask) → Passing
body_passing writer piece task = carried writer task (cut writer piece)

-- An end with fewer bytes than the length is dropped and completes the mode.
abbrev pub done_passing : BodyMode → Passing
done_passing mode.ToSelect = Drops mode.ToSelect
done_passing (mode.ContentLength n count) =
    if nat_lt count n then Drops (mode.Complete count) else Passes Done (mode.Complete count)
done_passing (mode.UntilClose count) = Passes Done (mode.Complete count)
done_passing (mode.Complete count) = Drops (mode.Complete count)

-- `answered` says that a final header or a 101 was put before
abbrev pub passing : RequestView → Bool → BodyMode → HttpTask → Passing
passing request answered writer (Header header end) =
    if answered then Drops writer
    else Passes (Header header end) (header_mode request header writer)
passing request answered writer (Body (Some piece) end) =
    body_passing writer piece (λ part. Body (Some part) end)
passing request answered writer (UpgradedBody (Some piece) end) =
    body_passing writer piece (λ part. UpgradedBody (Some part) end)
passing request answered writer Done = done_passing writer
passing request answered writer task = Passes task writer
