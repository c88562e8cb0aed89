-- What holds of a subrequest and its handle behind every list of events.
use Rattle.std.specs.Prelude.{◌≡◌, ℕ, ◌+◌, ◌≤◌, false, List, [], ◌∷◌, ◌++◌, length, Option, Some, None, IfSome, if◌then◌else◌}
use Rattle.h1_body.specs.declared.framing.Framing.TheVariants as framed
use Rattle.h1_subrequest.specs.Words.{Body, BodyMode, Done, Framing, Header, HttpTask, RequestView, UpgradedBody, framing}
use Rattle.h1_subrequest.specs.declared.body_mode.BodyMode.TheVariants as mode
use Rattle.h1_subrequest.specs.Events.{DirectionView, SubView}
use Rattle.h1_subrequest.specs.Reading.{count_of}
use Rattle.h1_subrequest.specs.Upgrade.{is_last, is_upgraded}
use Rattle.h1_subrequest.specs.Writing.{header_mode}

-- how many bytes of payload a task has
abbrev pub payload_in : HttpTask → ℕ
payload_in (Body (Some piece) end) = length piece
payload_in (UpgradedBody (Some piece) end) = length piece
payload_in task = 0

abbrev pub payload : List HttpTask → ℕ
payload [] = 0
payload (task ∷ tasks) = payload_in task + payload tasks

abbrev pub end_in : HttpTask → ℕ
end_in Done = 1
end_in task = 0

-- how often Done is among the tasks
abbrev pub ends : List HttpTask → ℕ
ends [] = 0
ends (task ∷ tasks) = end_in task + ends tasks

abbrev pub length_in : BodyMode → Option ℕ
length_in (mode.ContentLength n count) = Some n
length_in writer = None

abbrev pub limit_by : RequestView → HttpTask → Option ℕ → Option ℕ
limit_by request (Header header end) behind =
    if is_last header then length_in (header_mode request header mode.ToSelect) else behind
limit_by request task behind = behind

-- the length that the first final header, or a 101 in its place, sets for the writer
abbrev pub limit : RequestView → List HttpTask → Option ℕ
limit request [] = None
limit request (task ∷ tasks) = limit_by request task (limit request tasks)

abbrev pub stated : Framing → Option ℕ
stated (framed.Counted n) = Some n
stated framed.Chunked = None
stated framed.UntilClose = None

-- the length that the request declares
abbrev pub declared : RequestView → Option ℕ
declared request = stated (framing request)

-- what was taken is the front of what was put, and the queue, of at most four tasks, is the rest
pub record KeepsOrder (way : DirectionView) : Type 0 where
  pub order : way.taken ++ way.queue ≡ way.put
  pub room : length way.queue ≤ 4

pub record HoldsTogether (request : RequestView) (s : SubView) : Type 0 where
  pub to_subrequest : KeepsOrder s.to_subrequest
  pub to_handle : KeepsOrder s.to_handle
  -- no more payload is put than the header of the response states
  pub length : IfSome (limit request s.to_handle.put) (λ n. payload s.to_handle.put ≤ n)
  -- the response ends once
  pub once : ends s.to_handle.put ≤ 1
  -- no more is counted as read than was taken
  pub read : count_of s.reader ≤ payload s.to_subrequest.taken
  -- nor, without a change of protocol, more than the request declares
  pub declares : is_upgraded request s.to_handle.put ≡ false
      → IfSome (declared request) (λ n. count_of s.reader ≤ n)
