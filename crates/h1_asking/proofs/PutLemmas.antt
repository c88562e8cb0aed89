-- What the calls that write a head and a piece put, by the bytes that their link takes.
use Rattle.std.proofs.Common.{◌≡◌, inl, inr, ℕ, Bool, true, false, List, [], ◌++◌, Option, Some, None, IfSome, IfNone, Result, Ok, Err, refl, sym, ap, ◌∙◌, subst, append-nil, append_assoc}
use Rattle.std.specs.Io.KnownBytes.{append_known}
use Rattle.h1_link.proofs.Laters.{append_known-on}
use Rattle.h1_body.specs.Writer.{after_piece, piece_bytes}
use Rattle.h1_transfer.specs.PieceWrites.{PieceAnswer, PieceTaking, WritesPiece}
use Rattle.h1_transfer.specs.Writing.{DeliveryAnswer}
use Rattle.h1_transfer.specs.declared.delivering.Delivery.TheVariants.{Flushed}
use Rattle.h1_client.specs.Asking.{AsksBy, AsksWith, SendsHead, StaysAsIs, ask_answer, is_late, taken_up}
use Rattle.h1_client.specs.Calls.{HeadWrite, PieceWrite}
use Rattle.h1_client.specs.ClientView.{ClientView, call_begun, write_refusal}
use Rattle.h1_client.specs.Settings.{write_deadline}
use Rattle.h1_client.specs.Words.{Poll, Pending, Ready, Error, Deadline, LinkState, TransferView, RequestView, Outgoing, Step, Free, begun, framing, itself, request_bytes}
use Rattle.h1_asking.specs.Turns.{AskTurn, IsIdle, MadeOr, PieceTurn, may_ask, may_write}
use Rattle.h1_asking.specs.Writing.{HasPut, Puts, bytes_behind, writer_behind}

-- a head is to be handed in, or it was put
abbrev pub PutsHead : {L : Type 0} → (L → LinkState) → Option (List ℕ) → RequestView
    → Option RequestView → L → Outgoing → Type 0
PutsHead state before request (Some head) link out =
    (head ≡ request) × ((state link).written ≡ before)
PutsHead state before request None link out =
    Puts state before request (begun (framing request)) [] link out

-- the body is to be handed in, or it was put
abbrev pub PutsBody : {L : Type 0} → (L → LinkState) → Option (List ℕ) → RequestView
    → Option (List ℕ) → Option (List ℕ) → L → Outgoing → Type 0
PutsBody state before request body (Some piece) link out =
    (body ≡ Some piece) × Puts state before request (begun (framing request)) [] link out
PutsBody state before request body None link out =
    Puts state before request (writer_behind request body) (bytes_behind request body) link out

-- what is put by a call with this answer: of the head
abbrev pub AskedBy : {L : Type 0} → (L → LinkState) → Option (List ℕ) → RequestView
    → Option RequestView → L → Outgoing → Poll (Result ℕ Error) → Type 0
AskedBy state before request kept link out (Ready (Ok count)) =
    Puts state before request (begun (framing request)) [] link out × (out.step ≡ Free)
AskedBy state before request kept link out (Ready (Err error)) = Unit {0}
AskedBy state before request kept link out Pending = PutsHead state before request kept link out

-- and of the body
abbrev pub WroteBy : {L : Type 0} → (L → LinkState) → Option (List ℕ) → RequestView
    → Option (List ℕ) → Option (List ℕ) → L → Outgoing → Poll (Result (Option ℕ) Error) → Type 0
WroteBy state before request body kept link out (Ready (Ok count)) =
    Puts state before request (writer_behind request body) (bytes_behind request body) link out
    × (out.step ≡ Free)
WroteBy state before request body kept link out (Ready (Err error)) = Unit {0}
WroteBy state before request body kept link out Pending =
    PutsBody state before request body kept link out

-- what was put stays so where the link took a front of what was owed
pub put_goes : (before written written' : Option (List ℕ)) (bytes owed owed' piece : List ℕ)
    → append_known written owed ≡ append_known before bytes
    → written' ≡ append_known written piece → owed ≡ piece ++ owed'
    → append_known written' owed' ≡ append_known before bytes
put_goes before written written' bytes owed owed' piece is wrote parts =
    ap (λ known. append_known known owed') wrote ∙ append_known-on written piece owed'
    ∙ ap (append_known written) (sym parts) ∙ is

-- and where more was taken up besides
pub put_on : (before written written' : Option (List ℕ)) (bytes taking owed owed' piece : List ℕ)
    → append_known written owed ≡ append_known before bytes
    → written' ≡ append_known written piece → owed ++ taking ≡ piece ++ owed'
    → append_known written' owed' ≡ append_known before (bytes ++ taking)
put_on before written written' bytes taking owed owed' piece is wrote parts =
    put_goes before written written' (bytes ++ taking) (owed ++ taking) owed' piece
    (sym (append_known-on written owed taking) ∙ ap (λ known. append_known known taking) is
    ∙ append_known-on before bytes taking) wrote parts

-- and where none was
pub put_still : (before written written' : Option (List ℕ)) (bytes taking owed owed' piece : List ℕ)
    → append_known written owed ≡ append_known before bytes
    → written' ≡ append_known written piece → owed ++ taking ≡ piece ++ owed' → taking ≡ []
    → append_known written' owed' ≡ append_known before bytes
put_still before written written' bytes taking owed owed' piece is wrote parts none =
    put_goes before written written' bytes owed owed' piece is wrote
    (sym (append-nil owed) ∙ ap (λ more. owed ++ more) (sym none) ∙ parts)

-- no write is in progress behind a call that is done
abbrev IsFreeBy : Outgoing → Poll (Result ℕ Error) → Type 0
IsFreeBy out (Ready (Ok count)) = out.step ≡ Free
IsFreeBy out (Ready (Err error)) = Unit {0}
IsFreeBy out Pending = Unit {0}

answers_free : (was : Option Error) (before now : LinkState) (out : Outgoing) (step : Step) (left : ℕ)
    (late : Bool) (count : ℕ) (told : Poll (Result (Unit {0}) Error)) (outcome : Poll (Result ℕ Error))
    → outcome ≡ ask_answer late count told
    → DeliveryAnswer Flushed was before now out step left told → IsFreeBy out outcome
answers_free was before now out step left true count told outcome is answer = rw is tt
answers_free was before now out step left false count (Ready (Ok done)) outcome is answer =
    rw is answer.0.free
answers_free was before now out step left false count (Ready (Err error)) outcome is answer = rw is tt
answers_free was before now out step left false count Pending outcome is answer = rw is tt

sends_free : {L : Type 0} (state : L → LinkState) (now : ℕ) (old new : ClientView L)
    (outcome : Poll (Result ℕ Error)) → SendsHead state now old new outcome
    → IsFreeBy new.transfer.outgoing outcome
sends_free state now old new outcome sends =
    answers_free old.transfer.outgoing.refused (state old.transfer.link) (state new.transfer.link)
    new.transfer.outgoing old.transfer.outgoing.step sends.delivers.left
    (is_late old.asked sends.told sends.left (write_deadline old.settings now)) old.asked.length
    sends.told outcome sends.judges.answer sends.delivers.answer

-- a head that was put stays so while it is sent
sends_put : {L : Type 0} (state : L → LinkState) (before : Option (List ℕ)) (request : RequestView)
    (now : ℕ) (old new : ClientView L) (outcome : Poll (Result ℕ Error))
    → SendsHead state now old new outcome
    → Puts state before request (begun (framing request)) [] old.transfer.link old.transfer.outgoing
    → Puts state before request (begun (framing request)) [] new.transfer.link new.transfer.outgoing
sends_put state before request now old new outcome sends puts = record {
  front = puts.front;
  head = puts.head;
  writer_is = sends.delivers.same.writer ∙ puts.writer_is;
  put = put_goes before (state old.transfer.link).written (state new.transfer.link).written
      (puts.front ++ []) old.transfer.outgoing.owed new.transfer.outgoing.owed
      sends.delivers.sent.piece puts.put sends.delivers.sent.moved.written sends.delivers.sent.bytes;
}

asked_by : {L : Type 0} (state : L → LinkState) (before : Option (List ℕ)) (request : RequestView)
    (kept : Option RequestView) (link : L) (out : Outgoing) (outcome : Poll (Result ℕ Error))
    → kept ≡ None → Puts state before request (begun (framing request)) [] link out
    → IsFreeBy out outcome → AskedBy state before request kept link out outcome
asked_by state before request kept link out (Ready (Ok count)) none puts free = (puts, free)
asked_by state before request kept link out (Ready (Err error)) none puts free = tt
asked_by state before request kept link out Pending none puts free = rw none puts

-- a head with these bytes is put, or it has none
with_put : {L : Type 0} (state : L → LinkState) (before : Option (List ℕ)) (request : RequestView)
    (now : ℕ) (old new : ClientView L) (head : RequestView) (kept : Option RequestView)
    (bytes : Option (List ℕ)) (outcome : Poll (Result ℕ Error))
    → AsksWith state now old new head kept bytes outcome → request_bytes head ≡ bytes
    → (head ≡ request) × ((state old.transfer.link).written ≡ before)
    → AskedBy state before request kept new.transfer.link new.transfer.outgoing outcome
with_put state before request now old new head kept None outcome asks are puts = rw asks.0 tt
with_put state before request now old new head kept (Some bytes) outcome asks are puts =
    let start = taken_up (call_begun old) head bytes in
    asked_by state before request kept new.transfer.link new.transfer.outgoing outcome asks.0
    (sends_put state before request now start new outcome asks.1 (record {
      front = bytes;
      head = subst (λ h. request_bytes h ≡ Some bytes) puts.0 are;
      writer_is = ap (λ h. begun (framing h)) puts.0;
      put = ap (λ known. append_known known bytes) puts.1
          ∙ ap (append_known before) (sym (append-nil bytes));
    })) (sends_free state now start new outcome asks.1)

asks_put : {L : Type 0} (state : L → LinkState) (before : Option (List ℕ)) (request : RequestView)
    (now : ℕ) (old new : ClientView L) (head kept : Option RequestView)
    (outcome : Poll (Result ℕ Error)) (refused : Option Error)
    → IfSome refused (λ error. (outcome ≡ Ready (Err error)) × StaysAsIs old new head kept)
    → IfNone refused (AsksBy state now old new head kept outcome)
    → PutsHead state before request head old.transfer.link old.transfer.outgoing
    → AskedBy state before request kept new.transfer.link new.transfer.outgoing outcome
asks_put state before request now old new head kept outcome (Some error) again asks puts =
    rw again.0 tt
asks_put state before request now old new None kept outcome None again asks puts =
    asked_by state before request kept new.transfer.link new.transfer.outgoing outcome asks.0
    (sends_put state before request now (call_begun old) new outcome asks.1 puts)
    (sends_free state now (call_begun old) new outcome asks.1)
asks_put state before request now old new (Some head) kept outcome None again asks puts = elim asks [
  | inl starves ↦ rw starves.0 tt
  | inr writes ↦
      with_put state before request now old new head kept (request_bytes head) outcome writes refl puts
]

turned_head : {L : Type 0} (state : L → LinkState) (same_plan : L → L → Type 0)
    (before : Option (List ℕ)) (request : RequestView) (now : ℕ) (old new : ClientView L)
    (head kept : Option RequestView) (outcome : Poll (Result ℕ Error)) (may : Bool)
    → MadeOr may (HeadWrite state same_plan now old new head kept outcome)
    (IsIdle old new outcome × (kept ≡ head))
    → PutsHead state before request head old.transfer.link old.transfer.outgoing
    → AskedBy state before request kept new.transfer.link new.transfer.outgoing outcome
turned_head state same_plan before request now old new head kept outcome true call puts =
    asks_put state before request now old new head kept outcome (write_refusal old) call.again call.asks
    puts
turned_head {L} state same_plan before request now old new head kept outcome false idle puts =
    rw idle.0.0 (subst (λ k. PutsHead state before request k new.transfer.link new.transfer.outgoing)
    (sym idle.1) (subst (λ (s : ClientView L). PutsHead state before request head s.transfer.link
    s.transfer.outgoing) (sym idle.0.1) puts))

-- a call that writes the head of a request, where it has its turn
pub asked_put : {L : Type 0} (state : L → LinkState) (same_plan : L → L → Type 0)
    (before : Option (List ℕ)) (request : RequestView) (now : ℕ) (old new : ClientView L)
    (head kept : Option RequestView) (outcome : Poll (Result ℕ Error))
    → AskTurn state same_plan now old new head kept outcome
    → PutsHead state before request head old.transfer.link old.transfer.outgoing
    → AskedBy state before request kept new.transfer.link new.transfer.outgoing outcome
asked_put state same_plan before request now old new head kept outcome turn puts =
    turned_head state same_plan before request now old new head kept outcome (may_ask head old) turn puts

-- one that is done
pub asked_ok : {L : Type 0} (state : L → LinkState) (same_plan : L → L → Type 0)
    (before : Option (List ℕ)) (request : RequestView) (now : ℕ) (old new : ClientView L)
    (head kept : Option RequestView) (told : Result ℕ Error) (count : ℕ)
    → AskTurn state same_plan now old new head kept (Ready told)
    → PutsHead state before request head old.transfer.link old.transfer.outgoing → told ≡ Ok count
    → HasPut state before request (begun (framing request)) [] new
asked_ok state same_plan before request now old new head kept told count turn puts is =
    subst (λ t. AskedBy state before request kept new.transfer.link new.transfer.outgoing (Ready t)) is
    (asked_put state same_plan before request now old new head kept (Ready told) turn puts)

-- what a call takes up of the body is put
takes_put : {L : Type 0} (state : L → LinkState) (before : Option (List ℕ)) (request : RequestView)
    (body piece : Option (List ℕ)) (link link' : L) (out out' : Outgoing) (taking sent : List ℕ)
    → PieceTaking out out' taking piece
    → (state link').written ≡ append_known (state link).written sent
    → out.owed ++ taking ≡ sent ++ out'.owed
    → PutsBody state before request body piece link out
    → Puts state before request (writer_behind request body) (bytes_behind request body) link' out'
takes_put state before request body None link link' out out' taking sent takes wrote parts puts =
    record {
      front = puts.front;
      head = puts.head;
      writer_is = takes.1.writer ∙ puts.writer_is;
      put = put_still before (state link).written (state link').written
          (puts.front ++ bytes_behind request body) taking out.owed out'.owed sent puts.put wrote parts
          takes.0;
    }
takes_put state before request body (Some piece) link link' out out' taking sent takes wrote parts puts =
    let first = puts.1 in
    subst (λ b. Puts state before request (writer_behind request b) (bytes_behind request b) link' out')
    (sym puts.0) (record {
      front = first.front;
      head = first.head;
      writer_is = takes.2 ∙ ap (λ w. after_piece w piece) first.writer_is;
      put = put_on before (state link).written (state link').written (first.front ++ []) taking
          out.owed out'.owed sent first.put wrote parts
          ∙ ap (append_known before) (append_assoc first.front [] taking
          ∙ ap (λ bytes. first.front ++ bytes) (takes.0
          ∙ ap (λ w. piece_bytes w piece) first.writer_is));
    })

wrote_by : {L : Type 0} (state : L → LinkState) (before : Option (List ℕ)) (request : RequestView)
    (body kept : Option (List ℕ)) (link : L) (out : Outgoing) (first then : LinkState)
    (count : Option ℕ) (left : ℕ) (outcome : Poll (Result (Option ℕ) Error)) → kept ≡ None
    → Puts state before request (writer_behind request body) (bytes_behind request body) link out
    → PieceAnswer first then out count left outcome
    → WroteBy state before request body kept link out outcome
wrote_by state before request body kept link out first then count left (Ready (Ok told)) none puts
    answer = (puts, answer.0.free)
wrote_by state before request body kept link out first then count left (Ready (Err error)) none puts
    answer = tt
wrote_by state before request body kept link out first then count left Pending none puts answer =
    rw none puts

writes_put : {L : Type 0} (state : L → LinkState) (before : Option (List ℕ)) (request : RequestView)
    (body piece kept : Option (List ℕ)) (deadline : Deadline) (start new : TransferView L)
    (outcome : Poll (Result (Option ℕ) Error)) (refused : Option Error)
    → IfSome refused (λ error. (outcome ≡ Ready (Err error)) × (new ≡ start) × (kept ≡ piece))
    → IfNone refused (WritesPiece state itself deadline start new piece kept outcome)
    → PutsBody state before request body piece start.link start.outgoing
    → WroteBy state before request body kept new.link new.outgoing outcome
writes_put state before request body piece kept deadline start new outcome (Some error) again writes
    puts = rw again.0 tt
writes_put state before request body piece kept deadline start new outcome None again writes puts =
    let sent = writes.writes.sent in
    wrote_by state before request body kept new.link new.outgoing _ _ _ writes.left outcome writes.out
    (takes_put state before request body piece start.link new.link start.outgoing new.outgoing
    writes.taking sent.piece writes.takes sent.moved.written sent.bytes puts) writes.answer

turned_piece : {L : Type 0} (state : L → LinkState) (same_plan : L → L → Type 0)
    (before : Option (List ℕ)) (request : RequestView) (body : Option (List ℕ)) (now : ℕ)
    (old new : ClientView L) (piece kept : Option (List ℕ))
    (outcome : Poll (Result (Option ℕ) Error)) (may : Bool)
    → MadeOr may (PieceWrite state same_plan now old new piece kept outcome)
    (IsIdle old new outcome × (kept ≡ piece))
    → PutsBody state before request body piece old.transfer.link old.transfer.outgoing
    → WroteBy state before request body kept new.transfer.link new.transfer.outgoing outcome
turned_piece state same_plan before request body now old new piece kept outcome true call puts =
    writes_put state before request body piece kept (write_deadline old.settings now)
    (call_begun old).transfer new.transfer outcome old.transfer.outgoing.refused call.again call.writes
    puts
turned_piece {L} state same_plan before request body now old new piece kept outcome false idle puts =
    rw idle.0.0 (subst (λ k. PutsBody state before request body k new.transfer.link
    new.transfer.outgoing) (sym idle.1) (subst (λ (s : ClientView L). PutsBody state before request
    body piece s.transfer.link s.transfer.outgoing) (sym idle.0.1) puts))

-- a call that writes a piece of the body, where it has its turn
pub wrote_put : {L : Type 0} (state : L → LinkState) (same_plan : L → L → Type 0)
    (before : Option (List ℕ)) (request : RequestView) (body : Option (List ℕ)) (now : ℕ)
    (old new : ClientView L) (piece kept : Option (List ℕ))
    (outcome : Poll (Result (Option ℕ) Error))
    → PieceTurn state same_plan now old new piece kept outcome
    → PutsBody state before request body piece old.transfer.link old.transfer.outgoing
    → WroteBy state before request body kept new.transfer.link new.transfer.outgoing outcome
wrote_put state same_plan before request body now old new piece kept outcome turn puts =
    turned_piece state same_plan before request body now old new piece kept outcome
    (may_write piece old) turn puts

-- one that is done
pub wrote_ok : {L : Type 0} (state : L → LinkState) (same_plan : L → L → Type 0)
    (before : Option (List ℕ)) (request : RequestView) (body : Option (List ℕ)) (now : ℕ)
    (old new : ClientView L) (piece kept : Option (List ℕ)) (told : Result (Option ℕ) Error)
    (count : Option ℕ) → PieceTurn state same_plan now old new piece kept (Ready told)
    → PutsBody state before request body piece old.transfer.link old.transfer.outgoing
    → told ≡ Ok count
    → HasPut state before request (writer_behind request body) (bytes_behind request body) new
wrote_ok state same_plan before request body now old new piece kept told count turn puts is =
    subst (λ t. WroteBy state before request body kept new.transfer.link new.transfer.outgoing
    (Ready t)) is
    (wrote_put state same_plan before request body now old new piece kept (Ready told) turn puts)

-- a body that wasn't handed in yet
pub body_to_put : {L : Type 0} (state : L → LinkState) (before : Option (List ℕ))
    (request : RequestView) (body : Option (List ℕ)) (link : L) (out : Outgoing)
    → Puts state before request (begun (framing request)) [] link out
    → PutsBody state before request body body link out
body_to_put state before request None link out puts = puts
body_to_put state before request (Some body) link out puts = (refl, puts)

-- nothing is put of no body
pub no_body_put : {L : Type 0} (state : L → LinkState) (before : Option (List ℕ))
    (request : RequestView) (body : Option (List ℕ)) (link : L) (out : Outgoing) → body ≡ None
    → Puts state before request (begun (framing request)) [] link out
    → Puts state before request (writer_behind request body) (bytes_behind request body) link out
no_body_put state before request body link out none puts =
    subst (λ b. Puts state before request (writer_behind request b) (bytes_behind request b) link out)
    (sym none) puts
