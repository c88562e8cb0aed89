-- A connection's transcript agrees with what its link gave and took.
use Rattle.std.proofs.Common.{◌≡◌, ℕ, ◌+◌, ◌-◌, ◌^◌, min, drop, ap, append-nil, List, [], ◌∷◌, ◌++◌, length, false, option_to_list, Option, Some, None, IfSome, refl, sym, ◌∙◌, append_assoc, subst, ◌<◌}
use Rattle.h1_app.specs.Words.{Rules, Terms, AllByRecursion, End, Error, ErrorType, LinkState, Body, whole, unfinished, broken, ahead, body, reads, HasRead, framing, SessionView, Reply, Entry, Stage, StoodAs, ReadBehind, WroteBehind, AfterRead, AfterWrote, DoneBehind, FlushedBy, render, IsAllowed, payload_in}
use Rattle.h1_application.specs.Application.{Runs}
use Rattle.h1_error.specs.declared.error.ErrorType.TheVariants as kind
use Rattle.h1_body.specs.Body.{payload_of}
use Rattle.h1_body.proofs.ReadLemmas.{read_is}
use Rattle.h1_body.proofs.PayloadLemmas.{payload_ahead}
use Rattle.h1_transcript.specs.Agrees.{Agrees, AreOf, AreReplies, AreDone, RefusalOf}
use Rattle.h1_app.proofs.Words.{Accounted, ReadEntry, ReadSo, WroteSo, StoppedSo, StoodSo, StopsBody, StopsWith, coming, Sound, IsKept}
use Rattle.h1_transcript.specs.Stream.{Message, Begins, BehindBody}
use Rattle.h1_transcript.proofs.BehindLemmas.{broken_stays, told_map}
use Rattle.h1_app.proofs.StoodLemmas.{stood_as}

nothing_behind : (b : Body) (none : List Message) → none ≡ []
    → BehindBody b (λ k. Unit {0}) (none ≡ [])
nothing_behind (whole payload n) none is = tt
nothing_behind (unfinished payload) none is = is
nothing_behind (broken payload) none is = is

replied_as : {L C : Type 0} (session : SessionView L C) (e : Entry) (used : List ℕ)
    (reply : Option Reply)
    → IfSome reply (λ reply. StoodSo e.how e session.body)
    → HasRead (framing e.head) used e.body session.body.reader → IfSome reply
    (λ reply. StoodAs e.how e
    (ahead e.body (length used) (reads session.body.reader session.received)))
replied_as session e used None stood read = tt
replied_as session e used (Some reply) stood read = stood_as e.how e used session.received session.body read stood

-- why the body can't be read on is what its bytes say
refused_as : {L C : Type 0} (state : L → LinkState) (session : SessionView L C) (e : Entry)
    (used : List ℕ) (k : ErrorType)
    → StopsBody state session (payload_in e) k → HasRead (framing e.head) used e.body session.body.reader
    → RefusalOf (state session.link) e
    (ahead e.body (length used) (reads session.body.reader session.received)) k
refused_as state session e used kind.InvalidBody stops read =
    let f = framing e.head in
    let all : body f used ≡ broken e.body =
    read_is f used e.body session.body.reader read ∙ ap (ahead e.body (length used)) stops
    ∙ ap broken (append-nil e.body) in
    sym (read.read session.received) ∙ broken_stays f used session.received e.body all
refused_as state session e used kind.ConnectionClosed stops read = (
  ap (λ xs. ahead e.body (length used) (reads session.body.reader xs)) stops.1.0
      ∙ ap (ahead e.body (length used)) stops.1.1 ∙ ap unfinished (append-nil e.body),
  stops.0,
)
refused_as state session e used kind.ReadError stops read =
    ap (λ xs. ahead e.body (length used) (reads session.body.reader xs)) stops.0
    ∙ ap (ahead e.body (length used)) stops.1 ∙ ap unfinished (append-nil e.body)
refused_as state session e used kind.ReadTimedout stops read =
    ap (λ xs. ahead e.body (length used) (reads session.body.reader xs)) stops.0
    ∙ ap (ahead e.body (length used)) stops.1 ∙ ap unfinished (append-nil e.body)
refused_as state session e used kind.ContentTooLarge stops read =
    subst (λ bytes. e.holding.limit < length bytes)
    (sym (payload_ahead e.body (length used) (reads session.body.reader session.received))) stops
refused_as state session e used kind.NoMemory stops read = tt
refused_as state session e used _ stops read = absurd stops

refusal_as : {L C : Type 0} (state : L → LinkState) (session : SessionView L C) (e : Entry)
    (used : List ℕ) (refused : Option Error)
    → IfSome refused (StopsWith state session (payload_in e))
    → HasRead (framing e.head) used e.body session.body.reader → IfSome refused
    (λ error. RefusalOf (state session.link) e
    (ahead e.body (length used) (reads session.body.reader session.received)) error.kind
    × (error.retry ≡ false))
refusal_as state session e used None stops read = tt
refusal_as state session e used (Some error) stops read =
    (refused_as state session e used error.kind stops.0 read, stops.1)

-- the bytes begin with the request of the exchange
one_request : {L C : Type 0} (state : L → LinkState) (since : List ℕ) (session : SessionView L C)
    (e : Entry)
    → IfSome e.body_error (StopsWith state session (payload_in e)) → ReadEntry since e session
    → (requests : List Message) × Begins since requests
    × AreOf (state session.link) (e ∷ []) requests
one_request state since session e stopped h =
    let read = reads session.body.reader session.received in
    let body = ahead e.body (length h.used) read in
    let m : Message = record { head = e.head; both = e.both; body = body } in (
      m ∷ [],
      (h.n, h.head, rw h.bytes (h.decoded.read session.received), nothing_behind body [] refl),
      (
        refl,
        refl,
        (payload_of read, payload_ahead e.body (length h.used) read),
        record {
          refused = refusal_as state session e h.used e.body_error stopped h.decoded;
          replied = replied_as session e h.used e.reply h.stood h.decoded;
        },
      ),
    )

-- the bytes written are a front of the reply
one_reply : {L C : Type 0} (since : List ℕ) (session : SessionView L C) (e : Entry)
    → IsKept session e
    → WroteSo since session (Some e) → session.reply.sent ≡ min (length since) (2 ^ 64 - 1)
    → AreReplies since (e ∷ [])
one_reply since session e kept h sent =
    let left = coming e.sent_body session.reply.writer in
    ((session.reply.owed ++ left, sym h ∙ append_assoc since session.reply.owed left), kept ∙ sent)

-- one exchange more before those that agree
front_of : (now : LinkState) (e : Entry) (k : ℕ) (more : List Entry) (requests : List Message)
    → e.body_error ≡ None → IfSome e.reply (λ reply. StoodAs e.how e (whole e.body k))
    → AreOf now more requests → AreOf now (e ∷ more)
    (record { head = e.head; both = e.both; body = whole e.body k } ∷ requests)
front_of now e k [] [] unrefused stood h =
    (refl, refl, ([], sym (append-nil e.body)), record { refused = rw unrefused tt; replied = stood })
front_of now e k [] (m ∷ requests) unrefused stood h = absurd h
front_of now e k (f ∷ more) [] unrefused stood h = absurd h
front_of now e k (f ∷ more) (m ∷ requests) unrefused stood h =
    (refl, refl, (k, refl), record { refused = rw unrefused tt; replied = stood }, h)

-- the requests of the exchanges that ended, before those of the rest
read_agrees : (now : LinkState) (done behind : List Entry) (since rest : List ℕ)
    → ReadBehind since done rest
    → (requests : List Message) × Begins rest requests × AreOf now behind requests
    → (requests : List Message) × Begins since requests × AreOf now (done ++ behind) requests
read_agrees now [] behind since rest h last = (last.0, rw h last.1, last.2)
read_agrees now (e ∷ more) behind since rest h last =
    let next = read_agrees now more behind (drop h.2 (drop h.0 since)) rest h.6 last in (
      record { head = e.head; both = e.both; body = whole e.body h.2 } ∷ next.0,
      (h.0, h.1, h.3, next.1),
      front_of now e h.2 (more ++ behind) next.0 h.4 h.5 next.2,
    )

-- their replies, before those of the rest
wrote_agrees : (done behind : List Entry) (since rest : List ℕ) → WroteBehind since done rest
    → AreReplies rest behind → AreReplies since (done ++ behind)
wrote_agrees [] behind since rest h last = rw h last
wrote_agrees (e ∷ more) behind since rest h last =
    on (more ++ behind) (wrote_agrees more behind h.0 rest h.3 last)
  where
    on : (entries : List Entry) → AreReplies h.0 entries → AreReplies since (e ∷ entries)
    on [] none =
        let all : since ≡ render e = h.1 ∙ ap (λ xs. render e ++ xs) none ∙ append-nil (render e) in
        (([], sym all ∙ sym (append-nil since)), h.2 ∙ ap (λ xs. min (length xs) (2 ^ 64 - 1)) (sym all))
    on (f ∷ entries) replies = (h.0, h.1, h.2, replies)

-- the exchanges that ended are done
done_agrees : (flushed : ℕ → Type 0) (total : ℕ) (done : List Entry) (last : Option Entry)
    → DoneBehind flushed total done → AreDone flushed total (done ++ option_to_list last)
done_agrees flushed total [] None h = tt
done_agrees flushed total [] (Some e) h = tt
done_agrees flushed total (e ∷ []) None h = tt
done_agrees flushed total (e ∷ []) (Some f) h = (h.0, tt)
done_agrees flushed total (e ∷ f ∷ more) last h = (h.0, done_agrees flushed (total + e.written) (f ∷ more) last h.1)

allowed_all : (rules : Rules) (done : List Entry) (last : Option Entry)
    → AllByRecursion (IsAllowed rules) done
    → IfSome last (IsAllowed rules) → AllByRecursion (IsAllowed rules) (done ++ option_to_list last)
allowed_all rules [] None ended h = tt
allowed_all rules [] (Some e) ended h = (h, tt)
allowed_all rules (e ∷ more) last ended h = (ended.0, allowed_all rules more last ended.1 h)

-- the last exchange agrees with what was read after the others
last_read : {L C : Type 0} (state : L → LinkState) (rest : List ℕ) (session : SessionView L C)
    (last : Option Entry)
    → StoppedSo state session last → ReadSo rest session last
    → (requests : List Message) × Begins rest requests
    × AreOf (state session.link) (option_to_list last) requests
last_read state rest session None stopped h = ([], tt, tt)
last_read state rest session (Some e) stopped h = one_request state rest session e stopped h

last_wrote : {L C : Type 0} (rest : List ℕ) (session : SessionView L C) (last : Option Entry)
    → IfSome last (IsKept session)
    → WroteSo rest session last → session.reply.sent ≡ min (length rest) (2 ^ 64 - 1)
    → AreReplies rest (option_to_list last)
last_wrote rest session None kept h sent = h.0
last_wrote rest session (Some e) kept h sent = one_reply rest session e kept h sent

-- a sound connection's transcript agrees
pub agrees_sound : {L C J : Type 0} (rules : Rules)
    (runs : Runs J) (terms : Terms)
    (state : L → LinkState)
    (session : SessionView L C) (done : List Entry) (last : Option Entry) (at : Stage J)
    (end : Option End) (before : LinkState)
    → Sound rules runs terms session done last at end → Accounted state before session done last
    → Agrees rules terms before (state session.link) (done ++ option_to_list last)
agrees_sound rules runs terms state session done last at end before sound s = record {
  read = told_map before.given (state session.link).given (AfterRead done (λ rest. ReadSo rest session last)) _
      (λ since h. read_agrees (state session.link) done (option_to_list last) since h.0 h.1
      (last_read state h.0 session last s.stopped h.2)) s.read;
  allowed = allowed_all rules done last sound.ended sound.allowed;
  begun = sound.begun;
  written = told_map before.written (state session.link).written
      (AfterWrote done (λ rest. WroteSo rest session last × (session.reply.sent ≡ min (length rest) (2 ^ 64 - 1)))) _
      (λ since h. wrote_agrees done (option_to_list last) since h.0 h.1
      (last_wrote h.0 session last sound.kept h.2.0 h.2.1)) s.wrote;
  done = done_agrees (FlushedBy before (state session.link)) 0 done last s.flushed;
}
