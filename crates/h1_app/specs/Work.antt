-- What a connection does that may wait for its link only so long. All times are milliseconds.
use Rattle.std.specs.Prelude.{◌≡◌, ℕ, ◌==◌, Option, Some, None, if◌then◌else◌}
use Rattle.h1_app.specs.Words.{Entry, Outgoing, SessionView, Stage}
use Rattle.h1_app.specs.declared.exchange.Stage.TheVariants as stage
use Rattle.h1_server.specs.Times.{piece_limit}
use Rattle.h1_server.specs.declared.times.Times.{Times}
use Rattle.h1_transfer.specs.ReadWaits.{no_wait, rest_since}
use Rattle.h1_transfer.specs.declared.since.Since.{Since}

-- what a connection does, and since when it waits with it, where it waits
pub data Work : Type 0 where
  -- it reads a head
  reads_head : Option ℕ → Work
  -- it reads what is left of a request's body after its reply, with these times
  drains : Times → Since → Work
  -- it writes a piece of a reply's body, which may wait so long
  writes_piece : Option ℕ → Option ℕ → Work
  -- its application runs, or it does what has no limit
  untimed : Work

-- since when a read of what is left waits: what a read of a part noted is another's
abbrev pub rest_waits : Since → Since
rest_waits since = record { read = rest_since since; drain = since.drain }

-- how long the write of the piece that was handed in may wait
abbrev pub handed_limit : Times → Outgoing → Option ℕ
handed_limit times reply = piece_limit times reply.handed

-- What a connection does at a stage of the exchange that is last. The times are those that the
-- exchange's application left set; a body that is taken up next hasn't waited.
abbrev pub work_at : {L C J : Type 0} → Stage J → Option Entry → SessionView L C → Work
work_at at last session = by at last session.reply session.body.since where
  by : {J : Type 0} → Stage J → Option Entry → Outgoing → Since → Work
  by stage.Head last reply since = reads_head since.read
  by stage.TakeBody (Some e) reply since = writes_piece (handed_limit e.left.times reply) None
  by stage.Body (Some e) reply since =
      writes_piece (handed_limit e.left.times reply) reply.write_since
  by stage.Drain (Some e) reply since = drains e.left.times (rest_waits since)
  by _ last reply since = untimed

-- the limits of work on the exchange that is last are those of the times that its application left
-- set; no other work has any but a head's
abbrev pub HasTimesLeft : Option Entry → Work → Type 0
HasTimesLeft last (reads_head since) = Unit {0}
HasTimesLeft (Some e) (drains times since) = times ≡ e.left.times
HasTimesLeft (Some e) (writes_piece limit since) =
    (len : ℕ) × (limit ≡ piece_limit e.left.times len)
HasTimesLeft None (drains times since) = ⊥
HasTimesLeft None (writes_piece limit since) = ⊥
HasTimesLeft last untimed = Unit {0}

-- what was done where so many exchanges were before the last, and still may be where so many are
abbrev pub work_on : ℕ → ℕ → Work → Work
work_on before now work = if before == now then work else untimed

-- since when a head is waited for
abbrev pub head_since : Work → Option ℕ
head_since (reads_head since) = since
head_since _ = None

-- since when what is left of a body is waited for
abbrev pub drain_since : Work → Since
drain_since (drains times since) = since
drain_since _ = no_wait

-- since when the write of a piece waits
abbrev pub piece_since : Work → Option ℕ
piece_since (writes_piece limit since) = since
piece_since _ = None

-- no wait is noted
abbrev pub IsUnwaited : Work → Type 0
IsUnwaited (reads_head since) = since ≡ None
IsUnwaited (drains times since) = since ≡ no_wait
IsUnwaited (writes_piece limit since) = since ≡ None
IsUnwaited untimed = Unit {0}
