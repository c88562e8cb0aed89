-- Since when the work of a connection waits that is served by one call: since moments of the call.
use Rattle.std.proofs.Common.{ℕ, ◌≤◌, ◌⊎◌, inl, inr, Bool, true, false, ◌==◌, Option, Some, None, IfSome, length, sym, subst, if◌then◌else◌}
use Rattle.h1_link.specs.LinkState.{LinkState}
use Rattle.h1_error.specs.declared.progress.Waiting.{Waiting}
use Rattle.h1_error.specs.declared.progress.Progress.TheVariants as progress
use Rattle.h1_transfer.specs.Deadline.{Wait, start_of, left_of}
use Rattle.h1_transfer.specs.declared.since.Since.{Since}
use Rattle.h1_server.specs.Times.{drain_limits}
use Rattle.h1_transfer.specs.ReadWaits.{rest_since, rest_wait, total_wait}
use Rattle.h1_app.specs.Timely.{IsTimely, head_wait, noted_of, wait_at, work_before}
use Rattle.h1_app.specs.View.{View, work_of}
use Rattle.h1_app.specs.Work.{Work, reads_head, drains, writes_piece, untimed, work_on, head_since, drain_since, piece_since}
use Rattle.h1_serving.specs.Served.{WaitsFrom}

-- no moment before this one
abbrev From : ℕ → Option ℕ → Type 0
From first since = IfSome since (λ at. first ≤ at)

start_from : (first : ℕ) (wait : Wait) → first ≤ wait.deadline.moment → From first wait.since
    → first ≤ start_of wait
start_from first wait high from = by wait.moved wait.since from where
  by : (moved : Bool) (since : Option ℕ) → From first since
      → first ≤ start_of (record { deadline = wait.deadline; moved = moved; since = since })
  by true since h = high
  by false None h = high
  by false (Some before) h = h

left_from : (first : ℕ) (wait : Wait) → From first wait.since → From first (left_of wait)
left_from first wait from = by wait.moved where
  by : (moved : Bool)
      → From first (left_of (record { deadline = wait.deadline; moved = moved; since = wait.since }))
  by true = tt
  by false = from

head_from : (first : ℕ) (work : Work) → WaitsFrom first work → From first (head_since work)
head_from first (reads_head since) h = h
head_from first (drains times since) h = tt
head_from first (writes_piece limit since) h = tt
head_from first untimed h = tt

piece_from : (first : ℕ) (work : Work) → WaitsFrom first work → From first (piece_since work)
piece_from first (reads_head since) h = tt
piece_from first (drains times since) h = tt
piece_from first (writes_piece limit since) h = h
piece_from first untimed h = tt

abbrev BothFrom : ℕ → Since → Type 0
BothFrom first since = From first since.read × From first since.drain

drain_from : (first : ℕ) (work : Work) → WaitsFrom first work → BothFrom first (drain_since work)
drain_from first (reads_head since) h = (tt, tt)
drain_from first (drains times since) h = h
drain_from first (writes_piece limit since) h = (tt, tt)
drain_from first untimed h = (tt, tt)

rest_from : (first : ℕ) (since : Since) → BothFrom first since → From first (rest_since since)
rest_from first since h = by since.drain since.read h.0 where
  by : (drain read : Option ℕ) → From first read
      → From first (rest_since (record { read = read; drain = drain }))
  by None read h = tt
  by (Some began) read h = h

on_from : (first before now : ℕ) (work : Work) → WaitsFrom first work
    → WaitsFrom first (work_on before now work)
on_from first before now work h = by (before == now) where
  by : (same : Bool) → WaitsFrom first (if same then work else untimed)
  by true = h
  by false = tt

-- work that goes on waits since a moment of the call
noted_from : (first now : ℕ) (moved : Bool) (old new : LinkState) (before work : Work)
    (spent : Type 0) → first ≤ now → WaitsFrom first before
    → (noted_of now moved old new before work).waited false
    ⊎ (spent × (noted_of now moved old new before work).stopped)
    → WaitsFrom first work
noted_from first now moved old new before (reads_head since) spent high from (inl waited) =
    subst (From first) (sym waited.noted)
    (start_from first (head_wait now moved before) high (head_from first before from))
noted_from first now moved old new before (reads_head since) spent high from (inr stopped) =
    subst (From first) (sym stopped.1)
    (left_from first (head_wait now moved before) (head_from first before from))
noted_from first now moved old new before (drains times since) spent high from (inl waited) = (
  subst (From first) (sym waited.read)
      (start_from first (rest_wait (drain_limits times now) moved (drain_since before)) high
      (rest_from first (drain_since before) (drain_from first before from))),
  subst (From first) (sym waited.drain)
      (start_from first (total_wait (drain_limits times now) (drain_since before)) high
      (drain_from first before from).1),
)
noted_from first now moved old new before (drains times since) spent high from (inr stopped) =
    subst (BothFrom first) (sym stopped.1) (
      left_from first (rest_wait (drain_limits times now) moved (drain_since before))
          (rest_from first (drain_since before) (drain_from first before from)),
      (drain_from first before from).1,
    )
noted_from first now moved old new before (writes_piece limit since) spent high from (inl waited) =
    subst (From first) (sym waited.noted)
    (start_from first (wait_at now limit moved (piece_since before)) high
    (piece_from first before from))
noted_from first now moved old new before (writes_piece limit since) spent high from (inr stopped) =
    subst (From first) (sym stopped.1)
    (left_from first (wait_at now limit moved (piece_since before)) (piece_from first before from))
noted_from first now moved old new before untimed spent high from h = tt

-- a poll that waits leaves the connection waiting since a moment of the call
pub waits_on : {L C A J : Type 0} (state : L → LinkState) (first now : ℕ) (from to : View L C A J)
    (what : Waiting) → first ≤ now → WaitsFrom first (work_of from)
    → IsTimely state now from to (progress.Pending what) → WaitsFrom first (work_of to)
waits_on state first now from to what high waits timely =
    noted_from first now timely.moved (state from.session.link) (state to.session.link)
    (work_before from to) (work_of to) _ high
    (on_from first (length from.done) (length to.done) (work_of from) waits) timely.waits
