-- An exchange that is whole joins those that ended.
use Rattle.std.proofs.Common.{◌≡◌, ℕ, ◌+◌, ◌-◌, ◌^◌, min, List, [], ◌∷◌, ◌++◌, length, drop, Bool, false, Option, Some, None, IfSome, IsSome, refl, sym, ◌∙◌, ap, subst, append-nil, arith}
use Rattle.std.proofs.lemmas.Bool.{false≢true}
use Rattle.h1_app.specs.Words.{LinkState, HeadAt, ResponseView, whole, ahead, framing, HasRead, body, reads, Framing, BodyReader, SessionView, BodyState, Reply, Entry, ReadBehind, WroteBehind, AfterRead, AfterWrote, DoneBehind, FlushedBy, StoodAs, written_of, render}
use Rattle.h1_body.proofs.ReadLemmas.{read_is}
use Rattle.h1_transcript.specs.Behind.{IsDoneAt}
use Rattle.h1_app.proofs.Words.{IsDoneIn, IsRestarted, Accounted, ReadEntry, ReadSo, WroteSo, StoodSo}
use Rattle.h1_transcript.proofs.BehindLemmas.{told_map, whole_stays}
use Rattle.h1_app.proofs.StoodLemmas.{stood_as}

-- a request that was read whole, after the others
pub read_join : (done : List Entry) (since rest : List ℕ) (e : Entry) (n k : ℕ)
    → ReadBehind since done rest
    → HeadAt rest n e.head e.both → body (framing e.head) (drop n rest) ≡ whole e.body k
    → e.body_error ≡ None → IfSome e.reply (λ reply. StoodAs e.how e (whole e.body k))
    → ReadBehind since (done ++ e ∷ []) (drop k (drop n rest))
read_join [] since rest e n k h head is unrefused stood = rw h (n, head, k, is, unrefused, stood, refl)
read_join (f ∷ more) since rest e n k h head is unrefused stood =
    (h.0, h.1, h.2, h.3, h.4, h.5, read_join more (drop h.2 (drop h.0 since)) rest e n k h.6 head is unrefused stood)

-- a reply that was written whole, after the others
pub wrote_join : (done : List Entry) (since later : List ℕ) (e : Entry)
    → WroteBehind since done (render e ++ later)
    → e.written ≡ min (length (render e)) (2 ^ 64 - 1) → WroteBehind since (done ++ e ∷ []) later
wrote_join [] since later e h count = (later, h, count, refl)
wrote_join (f ∷ more) since later e h count = (h.0, h.1, h.2, wrote_join more h.0 later e h.3 count)

pub written_join : (done : List Entry) (e : Entry)
    → written_of (done ++ e ∷ []) ≡ written_of done + e.written
written_join [] e = omega arith
written_join (f ∷ more) e = let rest = written_join more e in omega (arith, rest)

pub done_join : (flushed : ℕ → Type 0) (total : ℕ) (done : List Entry) (e : Entry)
    → DoneBehind flushed total done → IsDoneAt flushed (total + (written_of done + e.written)) e
    → DoneBehind flushed total (done ++ e ∷ [])
done_join flushed total [] e h is =
    let same : total + (0 + e.written) ≡ total + e.written = omega arith in
    (subst (λ n. IsDoneAt flushed n e) same is, tt)
done_join flushed total (f ∷ more) e h is =
    let same : total + (f.written + written_of more + e.written)
    ≡ total + f.written + (written_of more + e.written) = omega arith in
    (h.0, done_join flushed (total + f.written) more e h.1 (subst (λ n. IsDoneAt flushed n e) same is))

-- a body of which nothing is to come stays whole, whatever stands after it
body_ended : (f : Framing) (used received payload : List ℕ) (reader : BodyReader)
    → HasRead f used payload reader
    → reads reader [] ≡ whole [] 0 → body f (used ++ received) ≡ whole payload (length used)
body_ended f used received payload reader read is =
    let all : body f used ≡ whole payload (length used) =
    read_is f used payload reader read ∙ ap (ahead payload (length used)) is ∙ whole_is (append-nil payload) in
    whole_stays f used received payload (length used) all
  where
    whole_is : {payload : List ℕ} {used : ℕ} → payload ++ [] ≡ payload
        → whole (payload ++ []) (used + 0) ≡ whole payload used
    whole_is {payload} {used} is =
        let same : used + 0 ≡ used = omega arith in
        ap (λ xs. whole xs (used + 0)) is ∙ ap (whole payload) same

stood_ended : (e : Entry) (used received : List ℕ) (now : BodyState) (reply : Option Reply)
    → HasRead (framing e.head) used e.body now.reader
    → reads now.reader [] ≡ whole [] 0 → IfSome reply (λ reply. StoodSo e.how e now)
    → IfSome reply (λ reply. StoodAs e.how e (whole e.body (length used)))
stood_ended e used received now None read is h = tt
stood_ended e used received now (Some reply) read is h =
    subst (λ b. StoodAs e.how e b)
    (sym (read.read received) ∙ body_ended (framing e.head) used received e.body now.reader read is)
    (stood_as e.how e used received now read h)

-- what is read after a request that was read whole is what is received
pub read_past : {L C : Type 0} (session : SessionView L C) (done : List Entry) (e : Entry)
    (since : List ℕ) → reads session.body.reader [] ≡ whole [] 0 → e.body_error ≡ None
    → AfterRead done (λ rest. ReadEntry rest e session) since
    → AfterRead (done ++ e ∷ []) (λ rest. rest ≡ session.received) since
read_past session done e since ended unrefused h =
    let p = h.2 in
    let all : body (framing e.head) (drop p.n h.0) ≡ whole e.body (length p.used) =
    ap (body (framing e.head)) p.bytes
    ∙ body_ended (framing e.head) p.used session.received e.body session.body.reader p.decoded ended
    in (
      drop (length p.used) (drop p.n h.0),
      read_join done since h.0 e p.n (length p.used) h.1 p.head all unrefused
          (stood_ended e p.used session.received session.body e.reply p.decoded ended p.stood),
      ap (drop (length p.used)) p.bytes ∙ behind p.used session.received,
    )
  where
    behind : (front rest : List ℕ) → drop (length front) (front ++ rest) ≡ rest
    behind [] rest = refl
    behind (b ∷ front) rest = behind front rest

wrote_ended : {L C : Type 0} (old new : SessionView L C) (done : List Entry) (e : Entry)
    (since : List ℕ)
    → IsDoneIn old e → IsRestarted old new → AfterWrote done (λ rest. WroteSo rest old (Some e)
    × (old.reply.sent ≡ min (length rest) (2 ^ 64 - 1))) since
    → AfterWrote (done ++ e ∷ []) (λ rest. WroteSo rest new None
    × (new.reply.sent ≡ min (length rest) (2 ^ 64 - 1))) since
wrote_ended old new done e since ended again h =
    let all : h.0 ≡ render e =
    sym (ap (λ xs. h.0 ++ old.reply.owed ++ xs) ended.nothing ∙ append-nil (h.0 ++ old.reply.owed)
    ∙ ap (λ xs. h.0 ++ xs) ended.owed ∙ append-nil h.0) ∙ h.2.0 in
    let count : e.written ≡ min (length (render e)) (2 ^ 64 - 1) =
    ended.written ∙ h.2.1 ∙ ap (λ xs. min (length xs) (2 ^ 64 - 1)) all in (
      [],
      wrote_join done since [] e
          (subst (λ xs. WroteBehind since done xs) (all ∙ sym (append-nil (render e))) h.1) count,
      ((refl, again.owed), rw again.sent refl),
    )

-- a reply of which nothing is owed was flushed
flushed_ended : (sent : Option ResponseView) (owed : Bool) (P : Type 0) → IsSome sent → owed ≡ false
    → IfSome sent (λ head. owed ≡ false → P) → P
flushed_ended None owed P some none h = absurd (false≢true some)
flushed_ended (Some head) owed P some none h = h none

-- an exchange that is whole joins those that ended
pub accounted_joined : {L C : Type 0} (state : L → LinkState) (before : LinkState)
    (old new : SessionView L C) (done : List Entry) (e : Entry)
    → IsDoneIn old e → IsRestarted old new
    → Accounted state before old done (Some e) → Accounted state before new (done ++ e ∷ []) None
accounted_joined state before old new done e ended again s = rw again.link (record {
  later = s.later;
  read = told_map before.given (state old.link).given (AfterRead done (λ rest. ReadEntry rest e old))
      (AfterRead (done ++ e ∷ []) (λ rest. ReadSo rest new None))
      (λ since h. let past = read_past old done e since ended.read ended.unrefused h in
      (past.0, past.1, rw again.request (past.2 ∙ sym again.received))) s.read;
  wrote = told_map before.written (state old.link).written
      (AfterWrote done (λ rest. WroteSo rest old (Some e) × (old.reply.sent ≡ min (length rest) (2 ^ 64 - 1))))
      (AfterWrote (done ++ e ∷ []) (λ rest. WroteSo rest new None × (new.reply.sent ≡ min (length rest) (2 ^ 64 - 1))))
      (λ since h. wrote_ended old new done e since ended again h) s.wrote;
  stopped = tt;
  flushed = done_join (FlushedBy before (state old.link)) 0 done e s.flushed (record {
    sent_head = ended.sent_head;
    sent_body = ended.sent_body;
    flushed_so =
        let flushed = flushed_ended e.sent_head e.owed
        (FlushedBy before (state old.link) (written_of done + e.written))
        ended.sent_head ended.flushed s.settled in
        omega (arith, flushed);
    long = ended.long;
    keep = ended.keep;
    closes = ended.closes;
  });
  settled = tt;
  out = omega (arith, s.out, again.sent, ended.written, written_join done e);
})
