-- How far the body of a subrequest's request is read, behind each task that its reader takes.
use Rattle.std.specs.Prelude.{ℕ, ◌+◌, ◌-◌, ◌^◌, ◌==◌, Bool, List, length, Option, Some, None, min, nat_lt, if◌then◌else◌}
use Rattle.h1_body.specs.declared.framing.Framing.TheVariants as framed
use Rattle.h1_subrequest.specs.Words.{Framing, HttpTask, Body, ParseState}
use Rattle.h1_subrequest.specs.declared.parse_state.ParseState.TheVariants as parse

-- a count that stands still at its type's end
abbrev pub counted : ℕ → ℕ → ℕ
counted count by = min (count + by) (2 ^ 64 - 1)

-- a body of stated length
abbrev pub counted_reader : ℕ → ParseState
counted_reader n = if n == 0 then parse.Complete 0 else parse.Partial 0 n

-- The request's framing sets its reader. Chunks end where the sender does.
abbrev pub reader_of : Framing → ParseState
reader_of (framed.Counted n) = counted_reader n
reader_of framed.Chunked = parse.UntilClose 0
reader_of framed.UntilClose = parse.UntilClose 0

-- Of a piece no more is counted than what is left of the length. Without it, or where it ends the
-- body too early, the body is done.
abbrev pub reads_part : ℕ → ℕ → Option (List ℕ) → Bool → ParseState
reads_part count left None end = parse.Done count
reads_part count left (Some piece) end =
    if nat_lt (length piece) left
    then (if end then parse.Done (counted count (length piece))
    else parse.Partial (counted count (length piece)) (left - length piece))
    else parse.Complete (counted count left)

abbrev pub reads_on : ℕ → Option (List ℕ) → Bool → ParseState
reads_on count None end = parse.Complete count
reads_on count (Some piece) end =
    if end then parse.Complete (counted count (length piece))
    else parse.UntilClose (counted count (length piece))

-- behind a task that was taken
abbrev pub reads : ParseState → HttpTask → ParseState
reads (parse.Partial count left) (Body piece end) = reads_part count left piece end
reads (parse.UntilClose count) (Body piece end) = reads_on count piece end
reads reader task = reader

-- where the sender was closed and no task was left
abbrev pub reads_end : ParseState → ParseState
reads_end (parse.Partial count left) = parse.Done count
reads_end (parse.UntilClose count) = parse.Complete count
reads_end reader = reader

-- a change of protocol begins a body that the sender's end ends
abbrev pub converted : ParseState → ParseState
converted (parse.UntilClose count) = parse.UntilClose count
converted reader = parse.UntilClose 0

-- the end of the response behind a change of protocol is the end of the request's body
abbrev pub finished : ParseState → ParseState
finished (parse.Complete count) = parse.Complete count
finished (parse.Done count) = parse.Done count
finished reader = parse.Complete 0

-- how many bytes of payload were counted
abbrev pub count_of : ParseState → ℕ
count_of parse.ToStart = 0
count_of (parse.Complete count) = count
count_of (parse.Partial count left) = count
count_of (parse.Done count) = count
count_of (parse.UntilClose count) = count
