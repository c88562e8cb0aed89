-- Each call of a session keeps what holds of it.
use Rattle.std.proofs.Common.{◌≡◌, ℕ, ◌-◌, ◌≤◌, ◌==◌, ◌&&◌, List, [], ◌++◌, length, Bool, true, false, not, Option, Some, None, is_some, is_none, IsSome, IfSome, IfNone, Result, Ok, Err, refl, sym, ap, ◌∙◌, append-nil, append_assoc, subst}
use Rattle.std.proofs.lemmas.Bool.{false≢true, not-true}
use Rattle.h1_body.specs.declared.chunking.TheConstants.{CHUNK_LIMIT}
use Rattle.h1_transfer.specs.Budget.{allowance}
use Rattle.h1_transfer.specs.Calls.{Called, Fault}
use Rattle.h1_transfer.proofs.CalledLemmas.{called_undone}
use Rattle.h1_transfer.specs.EndWrites.{EndCall, end_stage, ended_short, stage_of}
use Rattle.h1_transfer.specs.Payload.{ReadsPayload}
use Rattle.h1_transfer.specs.PieceWrites.{PieceTaking, WritesPiece}
use Rattle.h1_transfer.specs.ReplyFraming.{is_begun}
use Rattle.h1_transfer.specs.TransferView.{IsNewTransfer}
use Rattle.h1_transfer.specs.Writes.{Delivers, Writes}
use Rattle.h1_transfer.specs.declared.delivering.Delivery.{Delivery}
use Rattle.h1_client.specs.Words.{Poll, Error, Deadline, Framing, WriterView, framing, is_short, until_close, itself, HeadSearch, HasLooked, MAX_HEADER_SIZE, RequestView, ResponseView, LinkState, Outgoing, Step, Free, Head, Piece, Finish, TransferView}
use Rattle.h1_client.specs.Asking.{TakesUp}
use Rattle.h1_client.specs.ClientView.{ClientView, is_spent}
use Rattle.h1_client.specs.Holds.{Holds}
use Rattle.h1_client.specs.Keeping.{keep_by, keep_of}
use Rattle.h1_client.specs.Responses.{final_of}
use Rattle.h1_client.specs.Reusing.{is_at_end, is_exchanged, is_free, is_nothing, is_on, is_reusable, is_sent}
use Rattle.h1_client.specs.Served.{IsServed}
use Rattle.h1_client.specs.Sound.{Exchanging, Sound, StaysHttp}
use Rattle.h1_client.specs.Written.{WritesSoFar, is_written}
use Rattle.h1_client.specs.declared.answered.Answered.{Answered}
use Rattle.h1_client.specs.declared.asked.Asked.{Asked}
use Rattle.h1_client.specs.declared.keeping.Keepalive.{Keepalive}
use Rattle.h1_client.specs.declared.keeping.Keepalive.TheVariants.{Off, On}
use Rattle.h1_client.specs.declared.settings.Settings.{Settings}
use Rattle.h1_client.proofs.HoldsLemmas.{holds_moves, holds_takes}
use Rattle.h1_client.proofs.ExchangeLemmas.{head_of_and, no_bytes}
use Rattle.h1_client.proofs.SoundLemmas.{sound_new, sound_takes, sound_keeps, sound_sends, sound_reads, sound_ends}
use Rattle.h1_client.proofs.WrittenLemmas.{writes_piece, writes_end, writes_short}

-- what holds of a session with this transfer
abbrev pub SoundOf : {L : Type 0} → (L → LinkState) → TransferView L → HeadSearch
    → Option RequestView → Option ResponseView → Keepalive → Type 0
SoundOf state t looking request final k =
    Sound (state t.link) t.received looking request final t.body.reader t.outgoing k

-- the write in progress goes on
pub sound_delivers : {L : Type 0} (state : L → LinkState) (how : Delivery) (old new : TransferView L)
    (looking : HeadSearch) (request : Option RequestView) (final : Option ResponseView)
    (k : Keepalive) (outcome : Poll (Result (Unit {0}) Error))
    → SoundOf state old looking request final k → Delivers state how old new outcome
    → SoundOf state new looking request final k
sound_delivers {L} state how old new looking request final k outcome sound delivers =
    let received : new.received ≡ old.received = ap (λ (t : TransferView L). t.received) delivers.rest in
    let same : new.body ≡ old.body = ap (λ (t : TransferView L). t.body) delivers.rest in
    rw (received, same) (sound_sends (state old.link) (state new.link) old.received looking request final
    old.body.reader old.outgoing new.outgoing k (allowance old.budget) delivers.left sound delivers.sent
    delivers.same.writer)

-- what is handed in is taken up, or all stays
pub sound_asks : {L : Type 0} (state : L → LinkState) (old new : TransferView L) (looking : HeadSearch)
    (was now : Asked) (final : Option ResponseView) (k : Keepalive) (head kept : Option RequestView)
    (result : Result (Unit {0}) Error)
    → SoundOf state old looking was.request final k
    → ((h : RequestView) → head ≡ Some h → was.request ≡ None)
    → TakesUp old new was now head kept result → SoundOf state new looking now.request final k
sound_asks state old new looking was now final k None kept (Ok done) sound at takes =
    rw (takes.0, takes.1) sound
sound_asks state old new looking was now final k None kept (Err error) sound at takes = absurd takes
sound_asks state old new looking was now final k (Some head) kept (Err error) sound at takes =
    rw (takes.0, takes.1) sound
sound_asks {L} state old new looking was now final k (Some head) kept (Ok done) sound at takes =
    let is = takes.0.transfer in
    let link : new.link ≡ old.link = ap (λ (t : TransferView L). t.link) is in
    let received : new.received ≡ old.received = ap (λ (t : TransferView L). t.received) is in
    let same : new.body ≡ old.body = ap (λ (t : TransferView L). t.body) is in
    let request : now.request ≡ Some head = ap (λ (a : Asked). a.request) takes.0.asked in
    let fresh = subst (λ r. SoundOf state old looking r final k) (at head refl) sound in
    rw (link, received, same, request)
    (sound_takes (state old.link) old.received looking final old.body.reader old.outgoing new.outgoing k head
    takes.0.bytes fresh takes.0.settled takes.0.are takes.0.fits
    (ap (λ (t : TransferView L). t.outgoing.owed) is) (ap (λ (t : TransferView L). t.outgoing.writer) is))

-- what is taken up and what goes out of it, while the exchange goes on
exchange_writes : {L : Type 0} (state : L → LinkState) (old new : TransferView L)
    (request : RequestView) (final : Option ResponseView) (taking : List ℕ) (left : ℕ)
    → Exchanging (state old.link) old.received (Some request) final old.body.reader old.outgoing
    → Writes state itself old new taking left
    → ((front rest : List ℕ) → WritesSoFar (framing request) old.outgoing.writer rest
    → WritesSoFar (framing request) new.outgoing.writer (rest ++ taking))
    → Exchanging (state new.link) old.received (Some request) final old.body.reader new.outgoing
exchange_writes {L} state old new request final taking left was writes goes =
    let asks = was.asks in
    record {
      asked = was.asked ++ taking;
      used = was.used;
      holds = subst
          (λ bytes. Holds (state new.link) new.outgoing.owed bytes (was.asked ++ taking) was.used)
          (append-nil old.received)
          (holds_moves (state old.link) (state new.link) new.outgoing.owed old.received
          (was.asked ++ taking) was.used writes.sent.piece [] (allowance old.budget - left)
          writes.sent.moved
          (rw writes.sent.bytes at (holds_takes (state old.link) old.outgoing.owed old.received
          was.asked was.used taking was.holds)));
      asks = record {
        front = asks.front;
        rest = asks.rest ++ taking;
        parts = ap (λ bytes. bytes ++ taking) asks.parts
            ∙ append_assoc asks.front asks.rest taking;
        head = asks.head;
        body = goes asks.front asks.rest asks.body;
      };
      answers = was.answers;
    }

-- what is taken up and what goes out of it; the framing stays
sound_writes : {L : Type 0} (state : L → LinkState) (old new : TransferView L) (looking : HeadSearch)
    (request : RequestView) (final : Option ResponseView) (k : Keepalive) (taking : List ℕ) (left : ℕ)
    → SoundOf state old looking (Some request) final k → Writes state itself old new taking left
    → new.outgoing.writer.framing ≡ old.outgoing.writer.framing
    → ((front rest : List ℕ) → WritesSoFar (framing request) old.outgoing.writer rest
    → WritesSoFar (framing request) new.outgoing.writer (rest ++ taking))
    → SoundOf state new looking (Some request) final k
sound_writes {L} state old new looking request final k taking left sound writes framed goes =
    let received : new.received ≡ old.received = ap (λ (t : TransferView L). t.received) writes.rest in
    let same : new.body ≡ old.body = ap (λ (t : TransferView L). t.body) writes.rest in
    let alike : until_close old.outgoing.writer.framing ≡ until_close new.outgoing.writer.framing =
    ap (λ (f : Option Framing). until_close f) (sym framed) in
    rw (received, same) (record {
      http = λ off. exchange_writes state old new request final taking left (sound.http (alike ∙ off))
          writes goes;
      changed = λ on. sound.changed (alike ∙ on);
      searched = sound.searched;
      stays = sound.stays;
    })

same_body : (request : RequestView) (old new : Outgoing) (taking : List ℕ) → taking ≡ []
    → new.writer ≡ old.writer → (front rest : List ℕ)
    → WritesSoFar (framing request) old.writer rest
    → WritesSoFar (framing request) new.writer (rest ++ taking)
same_body request old new taking none same front rest so_far =
    rw (none, same) (subst (λ bytes. WritesSoFar (framing request) old.writer bytes)
    (sym (append-nil rest)) so_far)

piece_goes : (request : RequestView) (old new : Outgoing) (taking : List ℕ)
    (piece : Option (List ℕ)) → IfSome piece (λ piece. length piece ≤ CHUNK_LIMIT)
    → PieceTaking old new taking piece → (front rest : List ℕ)
    → WritesSoFar (framing request) old.writer rest
    → WritesSoFar (framing request) new.writer (rest ++ taking)
piece_goes request old new taking None within takes front rest so_far =
    same_body request old new taking takes.0 takes.1.writer front rest so_far
piece_goes request old new taking (Some piece) within takes front rest so_far =
    rw (takes.0, takes.2) (writes_piece (framing request) old.writer rest piece within so_far)

piece_framed : (old new : Outgoing) (taking : List ℕ) (piece : Option (List ℕ))
    → PieceTaking old new taking piece → new.writer.framing ≡ old.writer.framing
piece_framed old new taking None takes = ap (λ (w : WriterView). w.framing) takes.1.writer
piece_framed old new taking (Some piece) takes = ap (λ (w : WriterView). w.framing) takes.2

-- a call that writes a piece of the body
pub sound_pieces : {L : Type 0} (state : L → LinkState) (old new : TransferView L)
    (looking : HeadSearch) (request : Option RequestView) (final : Option ResponseView)
    (k : Keepalive) (deadline : Deadline) (piece kept : Option (List ℕ)) (refused : Option Error)
    (outcome : Poll (Result (Option ℕ) Error)) (Told : Error → Type 0) (Kept : Type 0)
    → SoundOf state old looking request final k → IsSome request
    → IfSome piece (λ piece. length piece ≤ CHUNK_LIMIT)
    → IfSome refused (λ error. Told error × (new ≡ old) × Kept)
    → IfNone refused (WritesPiece state itself deadline old new piece kept outcome)
    → SoundOf state new looking request final k
sound_pieces state old new looking None final k deadline piece kept refused outcome Told Kept sound begun within again writes =
    absurd (false≢true begun)
sound_pieces state old new looking (Some request) final k deadline piece kept (Some error) outcome Told Kept sound begun within again writes =
    rw again.1 sound
sound_pieces state old new looking (Some request) final k deadline piece kept None outcome Told Kept sound begun within again writes =
    sound_writes state old new looking request final k writes.taking writes.left sound writes.writes
    (piece_framed old.outgoing new.outgoing writes.taking piece writes.takes)
    (piece_goes request old.outgoing new.outgoing writes.taking piece within writes.takes)

-- the body ends short of its length
exchange_short : {L : Type 0} (state : L → LinkState) (old : TransferView L)
    (request : RequestView) (final : Option ResponseView)
    → is_short old.outgoing.writer ≡ true
    → Exchanging (state old.link) old.received (Some request) final old.body.reader old.outgoing
    → Exchanging (state old.link) old.received (Some request) final old.body.reader
    (ended_short old.outgoing)
exchange_short state old request final short was =
    let asks = was.asks in
    record {
      asked = was.asked;
      used = was.used;
      holds = was.holds;
      asks = record {
        front = asks.front;
        rest = asks.rest;
        parts = asks.parts;
        head = asks.head;
        body = writes_short (framing request) old.outgoing.writer asks.rest short asks.body;
      };
      answers = was.answers;
    }

end_goes : {L : Type 0} (state : L → LinkState) (old new : TransferView L) (looking : HeadSearch)
    (request : RequestView) (final : Option ResponseView) (k : Keepalive)
    (outcome : Poll (Result (Option ℕ) Error)) (step : Step) (begun short : Bool)
    → SoundOf state old looking (Some request) final k
    → begun ≡ is_begun old.outgoing.writer → short ≡ is_short old.outgoing.writer
    → EndCall state itself old new outcome (end_stage step begun short)
    → SoundOf state new looking (Some request) final k
end_goes state old new looking request final k outcome Free true true sound begins shorts call =
    rw call.ends (record {
      http = λ off. exchange_short state old request final (sym shorts) (sound.http off);
      changed = sound.changed;
      searched = sound.searched;
      stays = sound.stays;
    })
end_goes state old new looking request final k outcome Free true false sound begins shorts call =
    let going : old.outgoing.writer.ended ≡ false = not-true old.outgoing.writer.ended
    (head_of_and (is_some old.outgoing.writer.framing) (not old.outgoing.writer.ended) (sym begins)).1 in
    sound_writes state old new looking request final k call.taking call.left sound call.writes
    (ap (λ (w : WriterView). w.framing) call.takes.2)
    (λ front rest so_far. rw (call.takes.0, call.takes.2)
    (writes_end (framing request) old.outgoing.writer rest going so_far))
end_goes state old new looking request final k outcome Free false short sound begins shorts call =
    rw call.same sound
end_goes state old new looking request final k outcome Finish begun short sound begins shorts call =
    sound_writes state old new looking request final k call.taking call.left sound call.writes
    (ap (λ (w : WriterView). w.framing) call.takes.1.writer)
    (same_body request old.outgoing new.outgoing call.taking call.takes.0 call.takes.1.writer)
end_goes state old new looking request final k outcome Head begun short sound begins shorts call =
    rw call.same sound
end_goes state old new looking request final k outcome (Piece count) begun short sound begins shorts call =
    rw call.same sound

-- a call that writes the end of the body
pub sound_finish : {L : Type 0} (state : L → LinkState) (old new : TransferView L)
    (looking : HeadSearch) (request : Option RequestView) (final : Option ResponseView)
    (k : Keepalive) (refused : Option Error) (outcome : Poll (Result (Option ℕ) Error))
    (Told : Error → Type 0)
    → SoundOf state old looking request final k → IsSome request
    → IfSome refused (λ error. Told error × (new ≡ old))
    → IfNone refused (EndCall state itself old new outcome (stage_of old.outgoing))
    → SoundOf state new looking request final k
sound_finish state old new looking None final k refused outcome Told sound begun again writes =
    absurd (false≢true begun)
sound_finish state old new looking (Some request) final k (Some error) outcome Told sound begun again writes =
    rw again.1 sound
sound_finish state old new looking (Some request) final k None outcome Told sound begun again writes =
    end_goes state old new looking request final k outcome old.outgoing.step
    (is_begun old.outgoing.writer) (is_short old.outgoing.writer) sound refl refl writes

-- a call that reads a part of the body
pub sound_payload : {L : Type 0} (state : L → LinkState) (old new : TransferView L)
    (looking : HeadSearch) (request : Option RequestView) (final : Option ResponseView)
    (k : Keepalive) (deadline : Deadline) (refused : Option Error)
    (outcome : Poll (Result (Option (List ℕ)) Error)) (Told : Error → Type 0)
    → SoundOf state old looking request final k → IsSome request → IsSome final
    → IfSome refused (λ error. Told error × (new ≡ old))
    → IfNone refused (ReadsPayload state itself deadline old new outcome)
    → SoundOf state new looking request final k
sound_payload state old new looking request final k deadline (Some error) outcome Told sound begun read again reads =
    rw again.1 sound
sound_payload {L} state old new looking request final k deadline None outcome Told sound begun read again reads =
    let out : new.outgoing ≡ old.outgoing = ap (λ (t : TransferView L). t.outgoing) reads.rest in
    rw out (sound_reads (state old.link) (state new.link) old.received new.received looking request final
    old.body.reader new.body.reader old.outgoing k old.body.kept new.body.kept (allowance old.budget)
    reads.left reads.payload sound begun read reads.reads)

-- a session over a link that served whole exchanges
pub sound_start : {L : Type 0} (state : L → LinkState) (t : TransferView L) (asked : Asked)
    (answered : Answered) (link : L)
    → IsServed (state link) → IsNewTransfer link t → asked.request ≡ None → answered.last ≡ None
    → HasLooked MAX_HEADER_SIZE answered.search []
    → SoundOf state t answered.search asked.request (final_of answered.last) Off
sound_start {L} state t asked answered link served new unasked unanswered looked =
    let over : t.link ≡ link = ap (λ (t : TransferView L). t.link) new.is in
    let received : t.received ≡ [] = ap (λ (t : TransferView L). t.received) new.is in
    let owed : t.outgoing.owed ≡ [] = ap (λ (t : TransferView L). t.outgoing.owed) new.is in
    let unbegun : t.outgoing.writer.framing ≡ None =
    ap (λ (t : TransferView L). t.outgoing.writer.framing) new.is in
    rw (over, received, unasked, unanswered)
    (sound_new (state link) answered.search t.body.reader t.outgoing served looked owed unbegun)

-- a call begins
pub sound_begun : {L : Type 0} (state : L → LinkState) (old start : TransferView L)
    (looking : HeadSearch) (request : Option RequestView) (final : Option ResponseView) (k : Keepalive)
    (budget : Option ℕ)
    → SoundOf state old looking request final k → start ≡ record old { budget = budget }
    → SoundOf state start looking request final k
sound_begun state old start looking request final k budget sound is = rw is sound

-- the link of a call that begins goes by the same plan
pub plan_begun : {L : Type 0} (same_plan : L → L → Type 0) (old start new : TransferView L)
    (budget : Option ℕ)
    → start ≡ record old { budget = budget } → same_plan start.link new.link
    → same_plan old.link new.link
plan_begun {L} same_plan old start new budget is plan =
    subst (λ l. same_plan l new.link) (ap (λ (t : TransferView L). t.link) is) plan

-- what a call did to its link beside moving bytes, with the fault that its answer tells
pub called_begun : {L : Type 0} (state : L → LinkState) (old start new : TransferView L)
    (budget : Option ℕ) (done : Bool) (fault told : Fault)
    → start ≡ record old { budget = budget }
    → Called (state start.link) (state new.link) done fault → told ≡ fault
    → Called (state old.link) (state new.link) false told
called_begun {L} state old start new budget done fault told is calls same =
    rw same (subst (λ l. Called (state l) (state new.link) false fault)
    (ap (λ (t : TransferView L). t.link) is)
    (called_undone (state start.link) (state new.link) done fault calls))

-- a call notes whether its budget is spent
pub notes_spent : {T : Type 0} (answer : Poll T) (left budget : Option ℕ) (spent : Bool)
    → spent ≡ is_spent answer left → left ≡ budget → spent ≡ is_spent answer budget
notes_spent answer left budget spent is same = is ∙ ap (λ b. is_spent answer b) same

-- nothing moves over the link
pub sound_lent : {L : Type 0} (state : L → LinkState) (old new : TransferView L)
    (looking : HeadSearch) (request : Option RequestView) (final : Option ResponseView) (k : Keepalive)
    → SoundOf state old looking request final k → new ≡ record old { link = new.link }
    → (state new.link).given ≡ (state old.link).given → (state new.link).written ≡ (state old.link).written
    → SoundOf state new looking request final k
sound_lent {L} state old new looking request final k sound is given written =
    let received : new.received ≡ old.received = ap (λ (t : TransferView L). t.received) is in
    let out : new.outgoing ≡ old.outgoing = ap (λ (t : TransferView L). t.outgoing) is in
    let same : new.body ≡ old.body = ap (λ (t : TransferView L). t.body) is in
    rw (received, out, same) (sound_keeps (state old.link) (state new.link) old.received looking request
    final old.body.reader old.outgoing k sound given written)

stays_any : (k : Keepalive) (said : ResponseView) → (said.status == 101) ≡ false
    → StaysHttp k (Some said)
stays_any Off said is = tt
stays_any (On deadline) said is = is

stays_by : (request : RequestView) (said : ResponseView) (overread switched : Bool)
    → (said.status == 101) ≡ switched → StaysHttp (keep_by request said overread) (Some said)
stays_by request said overread true is = rw is tt
stays_by request said overread false is = stays_any (keep_by request said overread) said is

-- what is kept by what both sides said goes on with HTTP
stays_http : (request : Option RequestView) (final : Option ResponseView) (overread : Bool)
    → StaysHttp (keep_of request final overread) final
stays_http None final overread = tt
stays_http (Some request) None overread = tt
stays_http (Some request) (Some said) overread = stays_by request said overread (said.status == 101) refl

-- keep-alive is set by what both sides said of it
pub sound_respects : {L : Type 0} (state : L → LinkState) (t : TransferView L) (looking : HeadSearch)
    (request : Option RequestView) (final : Option ResponseView) (k : Keepalive) (overread : Bool)
    → SoundOf state t looking request final k
    → SoundOf state t looking request final (keep_of request final overread)
sound_respects state t looking request final k overread sound = record {
  http = sound.http;
  changed = sound.changed;
  searched = sound.searched;
  stays = stays_http request final overread;
}

-- the link of a session that may be used again
pub sound_reuse : {L : Type 0} (state : L → LinkState) (t : TransferView L) (asked : Asked)
    (answered : Answered) (k : Keepalive) (settings : Settings) (payload_read : ℕ) (spent : Bool)
    → SoundOf state t answered.search asked.request (final_of answered.last) k
    → true ≡ is_reusable (record {
      transfer = t;
      asked = asked;
      answered = answered;
      keepalive = k;
      settings = settings;
      payload_read = payload_read;
      spent = spent;
    })
    → IsServed (state t.link)
sound_reuse {L} state t asked answered k settings payload_read spent sound is =
    let s : ClientView L = record {
      transfer = t;
      asked = asked;
      answered = answered;
      keepalive = k;
      settings = settings;
      payload_read = payload_read;
      spent = spent;
    } in
    let both = head_of_and (is_on k) (is_exchanged s) (sym is) in
    sound_ends (state t.link) t.received answered.search asked.request (final_of answered.last)
    t.body.reader t.outgoing k sound both.0 both.1

none_of : {T : Type 0} (told : Option T) → is_none told ≡ true → told ≡ None
none_of None is = refl
none_of (Some value) is = absurd (false≢true is)

-- nothing is received of a session that may be used again
pub unreceived : {L : Type 0} (t : TransferView L) (asked : Asked) (answered : Answered)
    (k : Keepalive) (settings : Settings) (payload_read : ℕ) (spent : Bool)
    → is_reusable (record {
      transfer = t;
      asked = asked;
      answered = answered;
      keepalive = k;
      settings = settings;
      payload_read = payload_read;
      spent = spent;
    }) ≡ true
    → t.received ≡ []
unreceived {L} t asked answered k settings payload_read spent is =
    let s : ClientView L = record {
      transfer = t;
      asked = asked;
      answered = answered;
      keepalive = k;
      settings = settings;
      payload_read = payload_read;
      spent = spent;
    } in
    let both = is_some asked.request && is_some (final_of answered.last) in
    let read = is_at_end t.body.reader in
    let whole = (head_of_and (is_on k) (is_exchanged s) is).1 in
    no_bytes t.received
    (head_of_and (both && is_sent t.outgoing && read) (is_nothing t.received) whole).1

-- no write of a session that may be used again was refused
pub unrefused : {L : Type 0} (t : TransferView L) (asked : Asked) (answered : Answered)
    (k : Keepalive) (settings : Settings) (payload_read : ℕ) (spent : Bool)
    → is_reusable (record {
      transfer = t;
      asked = asked;
      answered = answered;
      keepalive = k;
      settings = settings;
      payload_read = payload_read;
      spent = spent;
    }) ≡ true
    → t.outgoing.refused ≡ None
unrefused {L} t asked answered k settings payload_read spent is =
    let s : ClientView L = record {
      transfer = t;
      asked = asked;
      answered = answered;
      keepalive = k;
      settings = settings;
      payload_read = payload_read;
      spent = spent;
    } in
    let out = t.outgoing in
    let both = is_some asked.request && is_some (final_of answered.last) in
    let read = is_at_end t.body.reader in
    let whole = (head_of_and (is_on k) (is_exchanged s) is).1 in
    let first = (head_of_and (both && is_sent out && read) (is_nothing t.received) whole).0 in
    let second = (head_of_and (both && is_sent out) read first).0 in
    let sent = (head_of_and both (is_sent out) second).1 in
    let written = (head_of_and (is_free out.step && is_none out.refused && is_nothing out.owed)
    (is_written out.writer) sent).0 in
    let owed = (head_of_and (is_free out.step && is_none out.refused) (is_nothing out.owed) written).0 in
    none_of out.refused (head_of_and (is_free out.step) (is_none out.refused) owed).1
