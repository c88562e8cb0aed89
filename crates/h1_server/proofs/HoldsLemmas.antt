-- What came of a transfer came of the session that holds it.
use Rattle.std.proofs.Common.{◌≡◌, ℕ, List, Option, Some, None, IfNone, Result, ap}
use Rattle.h1_server.specs.Words.{Poll, Error, LinkState, TransferView}
use Rattle.h1_transfer.proofs.OptionLemmas.{if_none_on}
use Rattle.h1_transfer.specs.TransferView.{itself}
use Rattle.h1_transfer.specs.Writes as writes
use Rattle.h1_transfer.specs.PieceWrites as pieces
use Rattle.h1_transfer.specs.EndWrites as ends
use Rattle.h1_transfer.specs.Payload as payloads
use Rattle.h1_server.proofs.Words.{DrainsBody, SessionView, session}
use Rattle.h1_server.specs.Payload.{ReadsPayload}
use Rattle.h1_server.specs.SessionView.{noting}
use Rattle.h1_server.specs.Writes.{Writes, WritesPiece, WritesEnd, EndCall}
use Rattle.h1_server.specs.Times.{body_deadline, drain_limits, piece_deadline}
use Rattle.h1_transfer.specs.declared.deadline.Deadline.{Deadline}

module _ {L C : Type 0} (state : L → LinkState) (old : SessionView L C) (new : TransferView L) where
  pub writes_in : (taking : List ℕ) (left : ℕ) → writes.Writes state itself (session.transfer old) new taking left
      → Writes state old (session.put old new) taking left
  writes_in taking left w = record {
    sent = w.sent;
    budget = w.budget;
    rest = ap (session.put old) w.rest;
    counted = w.counted;
  }

  pub piece_in : (now : ℕ) (deadline : Deadline) (piece kept : Option (List ℕ))
      (outcome : Poll (Result (Option ℕ) Error)) → deadline ≡ piece_deadline old.settings.times now old.reply piece
      → IfNone old.reply.refused
      (pieces.WritesPiece state itself deadline (session.transfer old) new piece kept outcome)
      → IfNone old.reply.refused (WritesPiece state now old (session.put old new) piece kept outcome)
  piece_in now deadline piece kept outcome is = if_none_on old.reply.refused _ _ (λ w. record {
    taking = w.taking;
    left = w.left;
    writes = writes_in w.taking w.left w.writes;
    takes = w.takes;
    out = w.out;
    answer = w.answer;
    timed = rw is at w.timed;
  })

  end_in : (stage : ends.EndStage) (outcome : Poll (Result (Option ℕ) Error))
      → ends.WritesEnd state itself (session.transfer old) new stage outcome
      → WritesEnd state old (session.put old new) stage outcome
  end_in stage outcome w = record {
    taking = w.taking;
    left = w.left;
    writes = writes_in w.taking w.left w.writes;
    takes = w.takes;
    answer = w.answer;
  }

  end_by : (outcome : Poll (Result (Option ℕ) Error)) (stage : Option ends.EndStage)
      → ends.EndCall state itself (session.transfer old) new outcome stage
      → EndCall state old (session.put old new) outcome stage
  end_by outcome None w = record { same = ap (session.put old) w.same; answer = w.answer }
  end_by outcome (Some ends.falls_short) w = record { ends = ap (session.put old) w.ends; answer = w.answer }
  end_by outcome (Some ends.starts) w = end_in ends.starts outcome w
  end_by outcome (Some ends.goes_on) w = end_in ends.goes_on outcome w

  pub end_call_in : (outcome : Poll (Result (Option ℕ) Error))
      → IfNone old.reply.refused
      (ends.EndCall state itself (session.transfer old) new outcome (ends.stage_of old.reply))
      → IfNone old.reply.refused (EndCall state old (session.put old new) outcome (ends.stage_of old.reply))
  end_call_in outcome = if_none_on old.reply.refused _ _ (end_by outcome (ends.stage_of old.reply))

  pub payload_in : (now : ℕ) (limit : Option ℕ) (outcome : Poll (Result (Option (List ℕ)) Error))
      → IfNone old.body.refused
      (payloads.ReadsPayload state itself (body_deadline old.settings.times now) (session.transfer old) new outcome)
      → IfNone old.body.refused
      (ReadsPayload state now old (record (session.put old new) { read_limit = limit }) outcome)
  payload_in now limit outcome = if_none_on old.body.refused _ _ (λ r. record {
    payload = r.payload;
    left = r.left;
    parsed = r.parsed;
    reads = r.reads;
    budget = r.budget;
    rest = ap ((noting limit).put old) r.rest;
    few = r.few;
    answer = r.answer;
    timed = r.timed;
    undrained = r.undrained;
  })

  pub drains_in : (now : ℕ) (outcome : Poll (Result (Unit {0}) Error))
      → IfNone old.body.refused
      (payloads.DrainsBody state itself (drain_limits old.settings.times now) (session.transfer old) new outcome)
      → IfNone old.body.refused (DrainsBody state now old (session.put old new) outcome)
  drains_in now outcome = if_none_on old.body.refused _ _ (λ d. record {
    payload = d.payload;
    left = d.left;
    parsed = d.parsed;
    reads = d.reads;
    budget = d.budget;
    rest = ap (session.put old) d.rest;
    few = d.few;
    answer = d.answer;
    timed = d.timed;
  })
