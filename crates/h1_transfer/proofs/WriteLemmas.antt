-- Lemmas on the calls that write a message.
use Rattle.std.proofs.Common.{◌≡◌, ℕ, ◌+◌, ◌-◌, ◌^◌, min, nat_lt, List, [], ◌++◌, length, Option, Some, None, option_map, Result, Ok, Err, refl, sym, ap, ◌∙◌, append-nil, length-append, arith}
use Rattle.h1_transfer.specs.Words.{Poll, Ready, Pending, Error, LinkState, piece_bytes, end_bytes, EndTaken, Delivery, Step, Outgoing, Piece, Finish}
use Rattle.h1_transfer.proofs.Words.{TransferView, itself, PieceAnswer, DeliveryAnswer, sent_after, with_count}
use Rattle.h1_transfer.specs.TransferView.{Settled}
use Rattle.h1_transfer.specs.Writes.{Writes, IsSameBody, IsSameMessage, Delivers}
use Rattle.h1_transfer.specs.Budget.{allowance}
use Rattle.h1_transfer.specs.Moved.{Sent}
use Rattle.h1_transfer.specs.Deadline.{IsTimed}
use Rattle.h1_transfer.specs.declared.deadline.Deadline.{Deadline}
use Rattle.h1_transfer.specs.PieceWrites.{WritesPiece, PieceTaking, noted_piece}
use Rattle.h1_transfer.specs.EndWrites.{EndCall, EndAnswer, EndStage, EndTaking, WritesEnd, starts, goes_on, falls_short, stage_of}
use Rattle.h1_transfer.specs.BodyWrites.{IsPieceStep, IsTakenUp, TakesUpPiece, TakesUpEnd, piece_count}
use Rattle.h1_transfer.specs.declared.writing_body.EndTaken.TheVariants as e
use Rattle.h1_transfer.specs.declared.delivering.Delivery.TheVariants as delivery

-- what is counted is what was sent
counted_sent : (sent : ℕ) (before owed piece : List ℕ) → before ≡ piece ++ owed
    → sent_after sent before owed ≡ min (sent + length piece) (2 ^ 64 - 1)
counted_sent sent before owed piece is =
    let len : length before ≡ length piece + length owed = ap (λ bytes. length bytes) is ∙ length-append piece owed in
    omega arith

-- a call that took up bytes behind those that were owed, and then sent
writes_taken : {L : Type 0} (state : L → LinkState) (old new : TransferView L) (taken : Outgoing) (taking : List ℕ)
    (left : ℕ) → taken.owed ≡ old.outgoing.owed ++ taking → taken.sent ≡ old.outgoing.sent
    → Sent (state old.link) (state new.link) taken.owed new.outgoing.owed (allowance old.budget) left
    → new.budget ≡ option_map (λ _. left) old.budget
    → new ≡ record old { link = new.link; outgoing = new.outgoing; budget = new.budget }
    → new.outgoing.sent ≡ sent_after taken.sent taken.owed new.outgoing.owed
    → Writes state itself old new taking left
writes_taken state old new taken taking left owes same sent budget rest counted = record {
  sent = record {
    piece = sent.piece;
    moved = sent.moved;
    bytes = sym owes ∙ sent.bytes;
    within = sent.within;
    unread = sent.unread;
  };
  budget = budget;
  rest = rest;
  counted = counted ∙ counted_sent taken.sent taken.owed new.outgoing.owed sent.piece sent.bytes
      ∙ ap (λ n. min (n + length sent.piece) (2 ^ 64 - 1)) same;
}

-- a call that took up bytes behind those that were owed, and then delivered
pub written : {L : Type 0} (state : L → LinkState) (how : Delivery) (old new : TransferView L) (taken : Outgoing)
    (taking : List ℕ) (step : Step) (outcome : Poll (Result (Unit {0}) Error))
    → taken.owed ≡ old.outgoing.owed ++ taking → IsTakenUp old.outgoing taken step → old.outgoing.refused ≡ None
    → (d : Delivers state how (record old { outgoing = taken }) new outcome)
    → Writes state itself old new taking d.left
    × DeliveryAnswer how None (state old.link) (state new.link) new.outgoing step d.left outcome
written state how old new taken taking step outcome owes up none d = (
  writes_taken state old new taken taking d.left owes up.sent d.sent d.budget d.rest d.counted,
  rw (up.step, up.refused ∙ none) at d.answer,
)

-- the count of a piece whose call goes on
count_on : (outgoing : Outgoing) (count : Option ℕ) → outgoing.step ≡ Piece count → piece_count outgoing None ≡ count
count_on outgoing count at = ap (λ (step : Step). piece_count (record outgoing { step = step }) None) at

-- what a body call takes up before it delivers
piece_taken : (old taken new : Outgoing) (piece : Option (List ℕ)) → TakesUpPiece old taken piece
    → IsPieceStep piece old.step → Settled old → old.refused ≡ None → IsSameBody taken new
    → (taking : List ℕ) × PieceTaking old new taking piece × (taken.owed ≡ old.owed ++ taking)
    × IsTakenUp old taken (Piece (piece_count old piece))
piece_taken old taken new None is free settled none same = (
  [],
  (refl, rw is at same),
  rw is (sym (append-nil old.owed)),
  rw is (record {
    step = free.1 ∙ ap Piece (sym (count_on old free.0 free.1));
    refused = refl;
    sent = refl;
    write_since = refl;
  }),
)
piece_taken old taken new (Some piece) is free settled none same =
    let kept = rw is at same in (
      piece_bytes old.writer piece,
      (refl, kept.headed, kept.writer, kept.handed),
      rw (is, settled.free free none) refl,
      rw is (record { step = refl; refused = refl; sent = refl; write_since = refl }),
    )

-- what a piece that is being written comes to, behind what its call took up
pub taken_piece : (old taken : Outgoing) (count : Option ℕ) (piece : Option (List ℕ)) → count ≡ piece_count old piece
    → TakesUpPiece old taken piece → IsPieceStep piece old.step → taken.step ≡ Piece count
taken_piece old taken count None counts is free =
    rw (is, counts) (free.1 ∙ ap Piece (sym (count_on old free.0 free.1)))
taken_piece old taken count (Some piece) counts is free = rw (is, counts) refl

-- what is taken up doesn't touch the refusal
pub taken_unrefused : (old taken : Outgoing) (piece : Option (List ℕ)) → TakesUpPiece old taken piece
    → old.refused ≡ None → taken.refused ≡ None
taken_unrefused old taken None is none = rw is none
taken_unrefused old taken (Some piece) is none = rw is none

-- a body call that wrote
pub piece_written : {L : Type 0} (state : L → LinkState) (deadline : Deadline) (old new : TransferView L)
    (taken : Outgoing) (count : Option ℕ) (left : ℕ) (outcome : Poll (Result (Option ℕ) Error))
    (piece kept : Option (List ℕ))
    → kept ≡ None → count ≡ piece_count old.outgoing piece → TakesUpPiece old.outgoing taken piece
    → IsPieceStep piece old.outgoing.step → Settled old.outgoing → old.outgoing.refused ≡ None
    → Sent (state old.link) (state new.link) taken.owed new.outgoing.owed (allowance old.budget) left
    → new.budget ≡ option_map (λ _. left) old.budget
    → new ≡ record old { link = new.link; outgoing = new.outgoing; budget = new.budget }
    → IsSameBody taken new.outgoing × (new.outgoing.sent ≡ sent_after taken.sent taken.owed new.outgoing.owed)
    → PieceAnswer (state old.link) (state new.link) new.outgoing count left outcome
    → IsTimed (noted_piece (state old.link) (state new.link) taken new.outgoing deadline
    (nat_lt left (allowance old.budget))) left outcome
    → WritesPiece state itself deadline old new piece kept outcome
piece_written state deadline old new taken count left outcome piece kept out counts takes free settled none sent
    budget rest same answer timed =
    let up = piece_taken old.outgoing taken new.outgoing piece takes free settled none same.0 in
    record {
      taking = up.0;
      left = left;
      writes = writes_taken state old new taken up.0 left up.2 up.3.sent sent budget rest same.1;
      takes = up.1;
      out = out;
      answer = rw counts at answer;
      timed = rw up.3.write_since at timed;
    }

-- what a call at the end of the body takes up before it delivers
end_taken : (old taken new : Outgoing) (end : EndTaken) → (end ≡ e.Nothing → ⊥) → TakesUpEnd old taken (Ok end)
    → Settled old → old.refused ≡ None → IsSameMessage taken new
    → (stage : EndStage) × (taking : List ℕ) × (stage_of old ≡ Some stage) × EndTaking old new taking stage
    × (taken.owed ≡ old.owed ++ taking) × IsTakenUp old taken Finish × (taken.writer.written ≡ old.writer.written)
end_taken old taken new e.Nothing some is settled none same = absurd (some refl)
end_taken old taken new e.GoesOn some is settled none same = (
  goes_on,
  [],
  rw is.1 refl,
  (refl, rw is.0 at same),
  rw is.0 (sym (append-nil old.owed)),
  rw is.0 (record { step = is.1; refused = refl; sent = refl; write_since = refl }),
  rw is.0 refl,
)
end_taken old taken new e.Starts some is settled none same =
    let kept = rw is.3 at same in (
      starts,
      end_bytes old.writer,
      rw (is.0, is.1, is.2) refl,
      (refl, kept.headed, kept.writer, kept.handed, kept.write_since),
      rw (is.3, settled.free is.0 none) refl,
      rw is.3 (record { step = refl; refused = refl; sent = refl; write_since = refl }),
      rw is.3 refl,
    )

end_answer : (before now : LinkState) (old new : Outgoing) (count left : ℕ) (outcome : Poll (Result (Unit {0}) Error))
    → count ≡ old.writer.written → DeliveryAnswer delivery.Flushed None before now new Finish left outcome
    → EndAnswer before now old new left (with_count outcome (Some count))
end_answer before now old new count left (Ready (Ok done)) counts h = (h.0, ap Some counts, h.1)
end_answer before now old new count left (Ready (Err error)) counts h = h
end_answer before now old new count left Pending counts h = h.0

end_call : {L : Type 0} (state : L → LinkState) (old new : TransferView L) (outcome : Poll (Result (Option ℕ) Error))
    (stage : EndStage) → WritesEnd state itself old new stage outcome
    → EndCall state itself old new outcome (Some stage)
end_call state old new outcome starts w = w
end_call state old new outcome goes_on w = w
end_call state old new outcome falls_short w = absurd w.takes

-- a call that wrote the end of a body
pub end_written : {L : Type 0} (state : L → LinkState) (old new : TransferView L) (taken : Outgoing) (count : ℕ)
    (outcome : Poll (Result (Unit {0}) Error)) (end : EndTaken)
    → (end ≡ e.Nothing → ⊥) → TakesUpEnd old.outgoing taken (Ok end) → count ≡ taken.writer.written
    → Settled old.outgoing → old.outgoing.refused ≡ None
    → Delivers state delivery.Flushed (record old { outgoing = taken }) new outcome
    → EndCall state itself old new (with_count outcome (Some count)) (stage_of old.outgoing)
end_written state old new taken count outcome end some takes counts settled none d =
    let up = end_taken old.outgoing taken new.outgoing end some takes settled none d.same in
    let wrote = written state delivery.Flushed old new taken up.1 Finish outcome up.4 up.5 none d in
    rw up.2 (end_call state old new _ up.0 (record {
      taking = up.1;
      left = d.left;
      writes = wrote.0;
      takes = up.3;
      answer = end_answer _ _ old.outgoing new.outgoing count d.left outcome (counts ∙ up.6) wrote.1;
    }))

-- a body that is short as it ends
pub short_end : {L : Type 0} (state : L → LinkState) (old : TransferView L) (taken : Outgoing) (error : Error)
    → TakesUpEnd old.outgoing taken (Err error)
    → EndCall state itself old (record old { outgoing = taken }) (Ready (Err error)) (stage_of old.outgoing)
short_end state old taken error takes =
    let at : stage_of old.outgoing ≡ Some falls_short = rw (takes.0, takes.1, takes.2) refl in
    rw (at, takes.3, takes.4) (record { ends = refl; answer = refl })
