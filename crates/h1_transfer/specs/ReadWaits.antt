-- Since when the reading of a message waits. All times are milliseconds.
use Rattle.std.specs.Prelude.{◌≡◌, ℕ, Bool, ◌||◌, false, Option, Some, None}
use Rattle.h1_transfer.specs.Deadline.{Wait, Noted, start_of, left_of, is_over, since_behind, noted_since}
use Rattle.h1_transfer.specs.declared.deadline.Deadline.{Deadline}
use Rattle.h1_transfer.specs.declared.deadline.Went.{Went}
use Rattle.h1_transfer.specs.declared.deadline.Went.TheVariants as w
use Rattle.h1_transfer.specs.declared.reading_body.BodyRead.{BodyRead}
use Rattle.h1_transfer.specs.declared.reading_body.BodyRead.TheVariants as b
use Rattle.h1_transfer.specs.declared.reading_body.BodyStop.{BodyStop}
use Rattle.h1_transfer.specs.declared.reading_body.BodyStop.TheVariants as stop
use Rattle.h1_transfer.specs.declared.since.DrainLimits.{DrainLimits}
use Rattle.h1_transfer.specs.declared.since.Since.{Since}

-- nothing waits
abbrev pub no_wait : Since
no_wait = record { read = None; drain = None }

-- since when a read of a part of the body waits: what a read of the rest noted is another's
abbrev pub part_since : Since → Option ℕ
part_since since = by since.drain since.read where
  by : Option ℕ → Option ℕ → Option ℕ
  by None read = read
  by (Some first) read = None

-- since when a read of the rest waits: what a read of a part noted is another's
abbrev pub rest_since : Since → Option ℕ
rest_since since = by since.drain since.read where
  by : Option ℕ → Option ℕ → Option ℕ
  by None read = None
  by (Some first) read = read

abbrev pub part_wait : Deadline → Bool → Since → Wait
part_wait deadline moved since =
    record { deadline = deadline; moved = moved; since = part_since since }

abbrev pub rest_wait : DrainLimits → Bool → Since → Wait
rest_wait limits moved since = record {
  deadline = record { moment = limits.moment; limit = limits.read };
  moved = moved;
  since = rest_since since;
}

-- the wait for all of the rest, which goes on whatever bytes are read
abbrev pub total_wait : DrainLimits → Since → Wait
total_wait limits since = record {
  deadline = record { moment = limits.moment; limit = limits.total };
  moved = false;
  since = since.drain;
}

-- one of both limits is reached for a read of the rest that waits
abbrev pub is_drain_over : DrainLimits → Bool → Since → Bool
is_drain_over limits moved since =
    is_over (rest_wait limits moved since) || is_over (total_wait limits since)

-- behind a read of a part
abbrev pub part_behind : Went → Deadline → Bool → Since → Since
part_behind went deadline moved since =
    record { read = since_behind went (part_wait deadline moved since); drain = None }

-- behind a read of the rest
abbrev pub rest_behind : Went → DrainLimits → Bool → Since → Since
rest_behind went limits moved since = record {
  read = since_behind went (rest_wait limits moved since);
  drain = since_behind went (total_wait limits since);
}

-- how a read of a body went that stopped so
abbrev pub went_until : BodyStop → Went
went_until stop.Done = w.Done
went_until stop.NotReady = w.Waited
went_until _ = w.Stopped

-- how a read of a part of a body went that came to this
abbrev pub went_with : BodyRead → Went
went_with (b.Piece bytes) = w.Done
went_with (b.Stopped stop) = went_until stop

-- a read of the rest waited and noted it, and a limit is reached, or none is
pub record DrainWaited (link_waited : Type 0) (limits : DrainLimits) (moved : Bool)
    (old new : Since) (late : Bool) : Type 0 where
  pub link : link_waited
  pub read : new.read ≡ Some (start_of (rest_wait limits moved old))
  pub drain : new.drain ≡ Some (start_of (total_wait limits old))
  pub judged : is_drain_over limits moved old ≡ late

-- what is noted of a read of a part
abbrev pub noted_part : Type 0 → Deadline → Bool → Since → Since → Noted
noted_part link_waited deadline moved old new =
    noted_since link_waited (part_wait deadline moved old) new.read

-- what is noted of a read of the rest
abbrev pub noted_rest : Type 0 → DrainLimits → Bool → Since → Since → Noted
noted_rest link_waited limits moved old new = record {
  ended = new ≡ no_wait;
  waited = DrainWaited link_waited limits moved old new;
  stopped = new ≡ record { read = left_of (rest_wait limits moved old); drain = old.drain };
}
