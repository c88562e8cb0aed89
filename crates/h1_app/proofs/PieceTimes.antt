-- How long the write of a part of a reply waits: a piece of its body has a limit, and nothing else.
use Rattle.std.proofs.Common.{◌≡◌, ℕ, ◌≤◌, ◌⊎◌, nat_lt, Bool, true, false, List, Option, Some, None, IsSome, Result, Ok, Err, refl, sym, ◌∙◌, ap, subst, arith}
use Rattle.h1_app.specs.Words.{Poll, Ready, Pending, Error, ErrorType, HeaderAnswer, IsRefused, LinkState, Outcome, Outgoing, Rose, SessionView, Stage, Step, Entry, WritesPiece, allowance}
use Rattle.h1_error.specs.declared.error.ErrorType.TheVariants as kind
use Rattle.h1_error.specs.declared.progress.Waiting.TheVariants as waiting
use Rattle.h1_server.specs.Times.{piece_limit}
use Rattle.h1_transfer.specs.BodyWrites.{piece_len}
use Rattle.h1_transfer.specs.Deadline.{IsTimed, Noted, Wait, is_over, is_timeout, noted_since}
use Rattle.h1_transfer.specs.PieceWrites.{PieceTaking}
use Rattle.h1_transfer.specs.declared.outgoing.Step.TheVariants as step
use Rattle.h1_application.proofs.ReadLemmas.{budget_none}
use Rattle.h1_app.proofs.TimelyLemmas.{call_moved, fails_anyhow, told_late, told_waits, untimed_waits}
use Rattle.h1_app.proofs.Words.{MovesWithin, StandsAfter, rank}
use Rattle.h1_app.specs.Timely.{FailsInTime, HasMoved, IsLate, StepsInTime, wait_at}
use Rattle.h1_app.specs.Work.{handed_limit, piece_since, work_at, writes_piece}
use Rattle.h1_app.specs.declared.exchange.Stage.TheVariants as stage

-- a part that was refused, as any write is, tells of no time
pub refused_untimed : (before now : LinkState) (new : Outgoing) (at : Step) (error : Error)
    (k : ErrorType) → IsRefused before now new at error k → is_timeout k ≡ false
refused_untimed before now new at error kind.WriteError refused = refl
refused_untimed before now new at error kind.NoMemory refused = refl
refused_untimed before now new at error _ refused = absurd refused

-- a header has no limit
pub header_in_time : {L C J : Type 0} (state : L → LinkState) (now : ℕ) (from to : Stage J)
    (old new : SessionView L C) (first : Option Entry) (last : Entry) (left : ℕ)
    (answer : Poll (Result (Unit {0}) Error)) (result : Outcome) → MovesWithin state old new
    → rank {J = J} stage.Header ≤ rank from
    → HeaderAnswer (state old.link) (state new.link) new.reply left answer
    → StandsAfter answer stage.Header stage.TakeBody from to result
    → StepsInTime state now from to old new first (Some last) result
header_in_time state now from to old new first last left Pending result moves on told stands =
    rw (stands.0, stands.1)
    (untimed_waits state now from stage.Header old new first (Some last) moves on waiting.Write refl)
header_in_time state now from to old new first last left (Ready (Ok done)) result moves on told stands =
    rw (stands.0, stands.1) refl
header_in_time state now from to old new first last left (Ready (Err error)) result moves on told stands =
    rw (stands.0, stands.1) (fails_anyhow state now from from old new first (Some last) moves
    (omega arith) error (refused_untimed (state old.link) (state new.link) new.reply step.Head error error.kind told.0))

-- the length of the piece is noted
piece_handed : (old new : Outgoing) (taking : List ℕ) (piece : Option (List ℕ))
    → PieceTaking old new taking piece → new.handed ≡ piece_len old piece
piece_handed old new taking None takes = takes.1.handed
piece_handed old new taking (Some piece) takes = takes.3

module _ {L C : Type 0} (state : L → LinkState) (now : ℕ) (old new : SessionView L C)
    (piece kept : Option (List ℕ)) (answer : Poll (Result (Option ℕ) Error))
    (w : WritesPiece state now old new piece kept answer) (some : IsSome old.budget) (last : Entry)
    (times : last.left.times ≡ old.settings.times) where
  abbrev moved : Bool
  moved = nat_lt w.left (allowance old.budget)

  counted : HasMoved moved (state old.link) (state new.link)
  counted = call_moved (state old.link) (state new.link) _ w.writes.sent.piece
      (allowance old.budget) w.left w.writes.sent.moved

  -- the wait of a piece that goes on since this moment
  abbrev waits_since : Option ℕ → Wait
  waits_since since = wait_at now (handed_limit last.left.times new.reply) moved since

  abbrev noted : Option ℕ → Noted
  noted since = noted_since (Rose (state old.link).write_waits (state new.link).write_waits)
      (waits_since since) new.reply.write_since

  limit_same : handed_limit last.left.times new.reply
      ≡ piece_limit old.settings.times (piece_len old.reply piece)
  limit_same = ap (λ t. piece_limit t new.reply.handed) times
      ∙ ap (λ len. piece_limit old.settings.times len)
      (piece_handed old.reply new.reply w.taking piece w.takes)

  told : IsTimed (noted old.reply.write_since) w.left answer
  told = subst (λ (limit : Option ℕ). IsTimed
      (noted_since (Rose (state old.link).write_waits (state new.link).write_waits)
      (wait_at now limit moved old.reply.write_since) new.reply.write_since) w.left answer)
      (sym limit_same) w.timed

  -- a piece waits for its limit, which its work before may have begun to
  pub piece_in_time : {J : Type 0} (from to : Stage J) (first : Option Entry) (result : Outcome)
      → piece_since (work_at from first old) ≡ old.reply.write_since
      → (since : Option ℕ)
      → work_at from (Some last) new ≡ writes_piece (handed_limit last.left.times new.reply) since
      → rank {J = J} stage.Body ≤ rank from
      → StandsAfter answer stage.Body stage.Finish from to result
      → StepsInTime state now from to old new first (Some last) result
  piece_in_time from to first result began since works on stands = by answer told stands where
    by : (answer : Poll (Result (Option ℕ) Error))
        → IsTimed (noted old.reply.write_since) w.left answer
        → StandsAfter answer stage.Body stage.Finish from to result
        → StepsInTime state now from to old new first (Some last) result
    by Pending timed stands = rw (stands.0, stands.1) (
      on,
      record {
        moved = moved;
        counted = counted;
        waits = subst (λ since. (noted since).waited false
            ⊎ ((new.budget ≡ Some 0) × (noted since).stopped)) (sym began)
            (told_waits (noted old.reply.write_since) w.left (new.budget ≡ Some 0)
            (budget_none old.budget new.budget w.left some w.writes.budget) timed);
      },
    )
    by (Ready (Ok count)) timed stands = rw (stands.0, stands.1) tt
    by (Ready (Err error)) timed stands = rw (stands.0, stands.1) (
      omega arith,
      record {
        moved = moved;
        counted = counted;
        ends = subst (λ work. FailsInTime (IsLate now moved (work_at from first old) work
            (Some last) error) error.kind) (sym works)
            (subst (λ since. FailsInTime (is_over (waits_since since) ≡ true) error.kind)
            (sym began) (told_late (noted old.reply.write_since)
            (is_over (waits_since old.reply.write_since) ≡ true) (λ waited. waited.judged)
            error.kind timed));
      },
    )
