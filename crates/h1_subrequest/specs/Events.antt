-- The events of a subrequest and its handle, and what each leaves, in any order of the two sides.
use Rattle.std.specs.Prelude.{Bool, true, false, List, [], ◌∷◌, ◌++◌, if◌then◌else◌}
use Rattle.h1_subrequest.specs.Words.{BodyMode, Direction, Done, Drops, Header, HttpTask, ParseState, Passes, Passing, RequestView, SubEvent, Close, Gone, Put, Take, ToHandle, ToSubrequest, framing, is_four}
use Rattle.h1_subrequest.specs.declared.body_mode.BodyMode.TheVariants as mode
use Rattle.h1_subrequest.specs.Reading.{converted, finished, reader_of, reads, reads_end}
use Rattle.h1_subrequest.specs.Upgrade.{completes, is_answered, is_upgraded}
use Rattle.h1_subrequest.specs.Writing.{passing}

-- the tasks of one direction, and the close words of its sender and of its receiver
pub record DirectionView : Type 0 where
  pub put : List HttpTask
  pub taken : List HttpTask
  pub queue : List HttpTask
  pub closed : Bool
  pub gone : Bool

-- both directions, the reader of the subrequest and its writer
pub record SubView : Type 0 where
  pub to_subrequest : DirectionView
  pub to_handle : DirectionView
  pub reader : ParseState
  pub writer : BodyMode

abbrev pub no_tasks : DirectionView
no_tasks = record { put = []; taken = []; queue = []; closed = false; gone = false }

abbrev pub enqueued : DirectionView → HttpTask → DirectionView
enqueued way task = record way { put = way.put ++ task ∷ []; queue = way.queue ++ task ∷ [] }

-- a task is put where fewer than four are there
abbrev pub put_on : DirectionView → HttpTask → DirectionView
put_on way task = if is_four way.queue then way else enqueued way task

-- behind a take from this queue
abbrev pub taken_from : DirectionView → List HttpTask → DirectionView
taken_from way [] = way
taken_from way (task ∷ queue) = record way { taken = way.taken ++ task ∷ []; queue = queue }

-- The reader moves by the task in front. Where there is none it ends with its sender.
abbrev pub read_from : ParseState → Bool → List HttpTask → ParseState
read_from reader closed [] = if closed then reads_end reader else reader
read_from reader closed (task ∷ queue) = reads reader task

-- A 101 that completes the upgrade, and a Done behind one, move the reader.
abbrev pub reader_behind : RequestView → Bool → HttpTask → ParseState → ParseState
reader_behind request upgraded (Header header end) reader =
    if completes request header then converted reader else reader
reader_behind request upgraded Done reader = if upgraded then finished reader else reader
reader_behind request upgraded task reader = reader

-- a task that passes is put
abbrev pub put_passed : RequestView → SubView → HttpTask → BodyMode → SubView
put_passed request s task writer = record s {
  to_handle = enqueued s.to_handle task;
  reader = reader_behind request (is_upgraded request s.to_handle.put) task s.reader;
  writer = writer;
}

-- A task that is dropped moves the mode alone. One that passes is put where fewer than four tasks
-- are there, and else changes nothing.
abbrev pub passed : RequestView → SubView → Passing → SubView
passed request s (Drops writer) = record s { writer = writer }
passed request s (Passes task writer) =
    if is_four s.to_handle.queue then s else put_passed request s task writer

abbrev pub sub_step : RequestView → SubView → SubEvent → SubView
sub_step request s (Put ToSubrequest task) =
    record s { to_subrequest = put_on s.to_subrequest task }
sub_step request s (Put ToHandle task) =
    passed request s (passing request (is_answered s.to_handle.put) s.writer task)
sub_step request s (Take ToSubrequest) = record s {
  to_subrequest = taken_from s.to_subrequest s.to_subrequest.queue;
  reader = read_from s.reader s.to_subrequest.closed s.to_subrequest.queue;
}
sub_step request s (Take ToHandle) =
    record s { to_handle = taken_from s.to_handle s.to_handle.queue }
sub_step request s (Close ToSubrequest) =
    record s { to_subrequest = record s.to_subrequest { closed = true } }
sub_step request s (Close ToHandle) =
    record s { to_handle = record s.to_handle { closed = true } }
sub_step request s (Gone ToSubrequest) =
    record s { to_subrequest = record s.to_subrequest { gone = true } }
sub_step request s (Gone ToHandle) =
    record s { to_handle = record s.to_handle { gone = true } }

-- before any event
abbrev pub sub_start : RequestView → SubView
sub_start request = record {
  to_subrequest = no_tasks;
  to_handle = no_tasks;
  reader = reader_of (framing request);
  writer = mode.ToSelect;
}

abbrev pub sub_steps : RequestView → SubView → List SubEvent → SubView
sub_steps request s [] = s
sub_steps request s (event ∷ events) = sub_steps request (sub_step request s event) events

-- behind these events, in order
abbrev pub sub_run : RequestView → List SubEvent → SubView
sub_run request events = sub_steps request (sub_start request) events

-- a core, with the request that it is of
pub record CoreView : Type 0 where
  pub request : RequestView
  pub state : SubView

-- the tasks of a direction
abbrev pub tasks_of : SubView → Direction → DirectionView
tasks_of s ToSubrequest = s.to_subrequest
tasks_of s ToHandle = s.to_handle
