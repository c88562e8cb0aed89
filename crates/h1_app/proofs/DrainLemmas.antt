-- What the rest of a request's body comes to after its reply, and why a connection isn't kept.
use Rattle.std.proofs.Common.{◌≡◌, ℕ, ◌+◌, ◌-◌, ◌<◌, ◌≤◌, ◌⊎◌, inl, inr, zero, suc, List, [], ◌∷◌, ◌++◌, length, take, slice_range, Bool, true, false, Option, Some, None, IfSome, IsSome, Result, Ok, Err, option_map, refl, sym, ◌∙◌, ap, subst, append-nil, arith, ◌&&◌}
use Rattle.h1_app.specs.Words.{Poll, Ready, Pending, Error, LinkState, Rose, Body, whole, unfinished, broken, ahead, chunked, reads, read_as, Chunking, BodyReader, Reading, Decoded, Lacks, Moved, is_whole, ReusesBy, keeps_alive, may_go_on, is_replied, SessionView, allowance, BodyState, Entry, How, Open, Whole, Failed, payload_of, Payload, grown, payload_in}
use Rattle.std.proofs.lemmas.Bool.{false≢true}
use Rattle.h1_link.specs.Steps.{after_shutdown}
use Rattle.h1_link.proofs.Laters.{later_shutdown}
use Rattle.h1_body.specs.declared.chunking.Chunking.TheVariants as place
use Rattle.h1_body.specs.declared.reader.Reading.TheVariants as reading
use Rattle.h1_body.proofs.CountedLemmas.{counted_has, counted_lacks}
use Rattle.h1_body.proofs.RunLemmas.{ahead_none}
use Rattle.h1_error.specs.declared.error.ErrorType.{ErrorType}
use Rattle.h1_error.specs.declared.error.ErrorType.TheVariants as kind
use Rattle.h1_transfer.specs.BodyAnswers.{RefusesBody}
use Rattle.h1_transfer.specs.Decoding.{MayStarve, noted_of}
use Rattle.h1_body.specs.Body as bodies
use Rattle.h1_body.proofs.PayloadLemmas.{payload_ahead}
use Rattle.h1_transcript.specs.Entry.{gathering_of}
use Rattle.h1_server.specs.Payload.{DrainsBody, DrainAnswer}
use Rattle.h1_server.specs.Persistence.{may_follow}
use Rattle.h1_server.specs.Reuse.{ReuseAnswer}
use Rattle.h1_transfer.proofs.MovedLemmas.{moved_itself}
use Rattle.h1_application.proofs.ReadLemmas.{budget_itself, budget_none, budget_spent, within_itself, within_spent}
use Rattle.h1_app.proofs.Words.{ReusesAs, StoodSo, lent}

-- a chunked body at its end takes no byte
chunks_end : (s : Chunking) (bytes : List ℕ) → is_whole (chunked s []) ≡ true
    → chunked s bytes ≡ whole [] 0
chunks_end place.Done [] h = refl
chunks_end place.Done (b ∷ bytes) h = refl
chunks_end s bytes h = absurd (false≢true h)

-- nor does any other
pub reading_end : (r : Reading) (bytes : List ℕ) → is_whole (read_as r []) ≡ true
    → read_as r bytes ≡ whole [] 0
reading_end (reading.Counted zero) bytes h = counted_has 0 bytes (omega arith)
reading_end (reading.Counted (suc n)) bytes h =
    absurd (false≢true (sym (ap is_whole (counted_lacks (suc n) [] (omega arith))) ∙ h))
reading_end (reading.Chunked s) bytes h = chunks_end s bytes h
reading_end reading.UntilClose bytes h = absurd (false≢true h)
reading_end reading.Ended bytes h = refl

nothing_in_front : (front rest : List ℕ) → front ++ rest ≡ [] → front ≡ []
nothing_in_front [] rest h = refl
nothing_in_front (b ∷ front) rest h = absurd (cc)

-- a reader at the end of its body gives no payload more, and stays there
pub decoded_end : (old new : BodyReader) (used payload : List ℕ) → Decoded old new used payload
    → is_whole (reads old []) ≡ true → (payload ≡ []) × (is_whole (reads new []) ≡ true)
decoded_end old new used payload d h =
    parts (reads new []) (sym (d.reads []) ∙ reading_end old.reading (used ++ []) h)
  where
    parts : (b : Body) → ahead payload (length used) b ≡ whole [] 0
        → (payload ≡ []) × (is_whole b ≡ true)
    parts (whole xs n) e = let front : payload ++ xs ≡ [] = cc in (nothing_in_front payload xs front, refl)
    parts (unfinished xs) e = absurd (cc)
    parts (broken xs) e = absurd (cc)

-- where a body is at its end no run of payload comes next, so no memory is wanted for one
never_starves : (before now : LinkState) (reader : BodyReader) (received : List ℕ)
    → is_whole (reads reader []) ≡ true → MayStarve before now None reader received → ⊥
never_starves before now reader received ended starves = elim starves [
  | inl lacks ↦ false≢true (sym (ap is_whole lacks.1.1) ∙ ended)
  | inr next ↦
      let fed = next.1.fed in
      let run = slice_range received fed.payload.start fed.payload.end in
      let behind = reads next.1.behind [] in
      let none : run ≡ [] = nothing_in_front run (bodies.payload_of behind)
      (sym (payload_ahead run fed.used behind) ∙ ap bodies.payload_of (sym (next.1.feeds.reads [])
      ∙ reading_end reader.reading (take fed.used received ++ []) ended)) in
      omega (arith, next.2, ap length next.1.is, ap length none)
]

-- how the body stood at the reply stays as the rest of it is read
pub stood_on : (how : How) (e : Entry) (old new : BodyState) (used payload : List ℕ)
    → Decoded old.reader new.reader used payload → StoodSo how e old
    → StoodSo how (record e { body = e.body ++ payload }) new
stood_on Whole e old new used payload d h =
    let ends = decoded_end old.reader new.reader used payload d h.2 in (
      h.0,
      h.1 ∙ sym (ap (λ xs. length (e.body ++ xs)) ends.0 ∙ ap length (append-nil e.body)),
      ends.1,
    )
stood_on Open e old new used payload d h = h
stood_on Failed e old new used payload d h = h

-- What a call for the link's reuse did with the session and the exchange: what it read of the body
-- joins the payload.
pub record Reused {L C : Type 0} (state : L → LinkState) (old new : SessionView L C) (e f : Entry) : Type 0 where
  pub piece : List ℕ
  pub used : List ℕ
  pub payload : List ℕ
  pub spent : ℕ
  pub moved : Moved (state old.link) (state new.link) piece [] spent
  pub budget : new.budget ≡ option_map (λ left. left - spent) old.budget
  pub within : IfSome old.budget (λ left. spent ≤ left)
  pub bytes : old.received ++ piece ≡ used ++ new.received
  pub decoded : Decoded old.body.reader new.body.reader used payload
  pub entry : f ≡ record e { body = e.body ++ payload }
  pub request : new.request ≡ old.request
  pub reply : new.reply ≡ old.reply
  pub keep : new.keep ≡ old.keep
  pub settings : new.settings ≡ old.settings
  pub context : new.context ≡ old.context
  pub kept : new.body.kept ≡ None
  pub waits : new.body.waits ≡ old.body.waits
  pub few : (state new.link).read_waits ≤ (state old.link).read_waits + 1

-- the session after the drain, from which the payload was taken
abbrev pub taken_from : {L C : Type 0} → SessionView L C → Bool → SessionView L C
taken_from drained reusable = record drained { reusable = reusable; body = record drained.body { kept = None } }

-- a shutdown moves no byte
moved_shut : (s : LinkState) → Moved s (after_shutdown s) [] [] 0
moved_shut s =
    let same = moved_itself s in
    record {
      given = same.given;
      written = same.written;
      rose = same.rose;
      most = same.most;
      enough = same.enough;
      free = same.free;
      out = same.out;
      later = later_shutdown s;
    }

-- a link that is shut: nothing was read
reused_shut : {L C : Type 0} (state : L → LinkState) (old behind new : SessionView L C)
    (e f : Entry)
    → state behind.link ≡ after_shutdown (state old.link)
    → behind ≡ record (lent old (payload_in e)) { link = behind.link; reusable = false }
    → new ≡ record behind { body = record behind.body { kept = None } }
    → f ≡ record e { body = payload_of behind }
    → Reused state old new e f
reused_shut {L} {C} state old behind new e f shut is session entry =
    let shape : new ≡ record (taken_from old false) { link = behind.link } =
    session ∙ ap (λ (x : SessionView L C). record x { body = record x.body { kept = None } }) is in
    let made : Reused state old (record (taken_from old false) { link = behind.link }) e f = record {
      piece = [];
      used = [];
      payload = [];
      spent = 0;
      moved = subst (λ s. Moved (state old.link) s [] [] 0) (sym shut) (moved_shut (state old.link));
      budget = budget_itself old.budget;
      within = within_itself old.budget;
      bytes = append-nil old.received;
      decoded = record { reads = λ more. sym (ahead_none (reads old.body.reader more)) };
      entry = entry ∙ ap (λ xs. record e { body = xs })
          (ap (λ (x : SessionView L C). payload_of x) is ∙ sym (append-nil e.body));
      request = refl;
      reply = refl;
      keep = refl;
      settings = refl;
      context = refl;
      kept = refl;
      waits = refl;
      few = let same = ap (λ (s : LinkState). s.read_waits) shut in omega (arith, same);
    } in
    subst (λ (x : SessionView L C). Reused state old x e f) (sym shape) made

-- the session after a drain of a link that is kept
pub drained_shape : {L C : Type 0} (drained behind new : SessionView L C)
    → behind ≡ record drained { reusable = behind.reusable }
    → new ≡ record behind { body = record behind.body { kept = None } }
    → new ≡ taken_from drained behind.reusable
drained_shape {L} {C} drained behind new is session =
    session ∙ ap (λ (x : SessionView L C). record x { body = record x.body { kept = None } }) is

-- one that is kept: the rest of the body was read
reused_drained : {L C : Type 0} (state : L → LinkState) (now : ℕ) (old drained behind new : SessionView L C)
    (e f : Entry) (outcome : Poll (Result (Unit {0}) Error))
    → DrainsBody state now (lent old (payload_in e)) drained outcome
    → behind ≡ record drained { reusable = behind.reusable }
    → new ≡ record behind { body = record behind.body { kept = None } }
    → f ≡ record e { body = payload_of behind }
    → Reused state old new e f
reused_drained {L} {C} state now old drained behind new e f outcome d is session entry =
    let made : Reused state old (taken_from drained behind.reusable) e f = record {
      piece = d.reads.received.piece;
      used = d.reads.used;
      payload = d.payload;
      spent = allowance old.budget - d.left;
      moved = d.reads.received.moved;
      budget = budget_spent old.budget drained.budget d.left d.reads.received.within d.budget;
      within = within_spent old.budget d.left;
      bytes = sym d.reads.received.bytes;
      decoded = d.reads.decoded;
      entry = entry ∙ ap (λ xs. record e { body = xs })
          (ap (λ (x : SessionView L C). payload_of x) is ∙ ap noted_of d.reads.keeps_payload);
      request = ap (λ (s : SessionView L C). s.request) d.rest;
      reply = ap (λ (s : SessionView L C). s.reply) d.rest;
      keep = ap (λ (s : SessionView L C). s.keep) d.rest;
      settings = ap (λ (s : SessionView L C). s.settings) d.rest;
      context = ap (λ (s : SessionView L C). s.context) d.rest;
      kept = refl;
      waits = ap (λ (s : SessionView L C). s.body.waits) d.rest;
      few = d.few;
    } in
    subst (λ (x : SessionView L C). Reused state old x e f) (sym (drained_shape drained behind new is session)) made

-- the call, whatever it answered
pub reused : {L C : Type 0} (state : L → LinkState) (now : ℕ) (old new : SessionView L C) (e f : Entry)
    (answer : Poll (Result Bool Error)) → ReusesAs state now old new e f answer
    → Reused state old new e f
reused {L} {C} state now old new e f answer h = by_alive (keeps_alive old) h.reuses
  where
    by_alive : (t : Bool) → ReusesBy state now (lent old (payload_in e)) h.behind answer t
        → Reused state old new e f
    by_alive true r = reused_drained state now old r.0 h.behind new e f r.1 r.2 r.3 h.session h.entry
    by_alive false r = reused_shut state old h.behind new e f r.1 r.2 h.session h.entry

-- bytes were received after the request where none may be
pub record HasMore {L C : Type 0} (new : SessionView L C) : Type 0 where
  pub read : reads new.body.reader [] ≡ whole [] 0
  pub pipelining : new.settings.pipelining ≡ false
  pub more : 0 < length new.received

-- what the call for reuse answered, by how the session stands after it
abbrev pub Answered : {L C : Type 0} → (L → LinkState) → SessionView L C → SessionView L C → Payload
    → Poll (Result Bool Error) → Type 0
Answered state old new payload (Ready (Ok true)) =
    (keeps_alive old ≡ true) × (reads new.body.reader [] ≡ whole [] 0) × (new.body.refused ≡ None)
    × (new.reusable ≡ true) × ((state new.link).read_waits ≡ (state old.link).read_waits)
    × (may_follow new.settings.pipelining new.received ≡ true)
Answered state old new payload (Ready (Ok false)) =
    (keeps_alive new ≡ keeps_alive old) × ((keeps_alive old ≡ false) ⊎ ((keeps_alive old ≡ true) × HasMore new))
Answered state old new payload (Ready (Err error)) = (keeps_alive old ≡ true)
    × RefusesBody (state old.link) (state new.link) (Some payload) new.body.reader new.received
    error.kind × (error.retry ≡ false)
Answered state old new payload Pending =
    (keeps_alive old ≡ true) × Lacks new.body.reader new.received × (new.body.refused ≡ None)
    × (Rose (state old.link).read_waits (state new.link).read_waits ⊎ (new.budget ≡ Some 0))

alive_same : {L C : Type 0} (a b : SessionView L C) → b.settings ≡ a.settings
    → b.request ≡ a.request → b.reply ≡ a.reply
    → b.keep ≡ a.keep → b.body.refused ≡ a.body.refused → keeps_alive b ≡ keeps_alive a
alive_same a b settings request reply keep refused =
    rw (settings, request, reply, keep, refused) refl

-- with pipelining off nothing may follow
not_followed : (pipelining : Bool) (received : List ℕ) → may_follow pipelining received ≡ false
    → (pipelining ≡ false) × (0 < length received)
not_followed true received h = absurd (false≢true (sym h))
not_followed false [] h = absurd (false≢true (sym h))
not_followed false (b ∷ received) h = (refl, omega arith)

answered_kept : {L C : Type 0} (state : L → LinkState) (now : ℕ) (old drained : SessionView L C)
    (payload : Payload) (reusable : Bool) (outcome : Poll (Result (Unit {0}) Error))
    (answer : Poll (Result Bool Error)) → keeps_alive old ≡ true → IsSome old.budget → old.body.refused ≡ None
    → (d : DrainsBody state now (lent old payload) drained outcome)
    → ReuseAnswer (record drained { reusable = reusable }) outcome answer
    → Answered state old (taken_from drained reusable) (grown d.payload payload) answer
answered_kept {L} {C} state now old drained payload reusable outcome answer alive some unrefused d a =
    by_outcome outcome d.answer a
  where
    why : Rose (state old.link).read_waits (state drained.link).read_waits ⊎ (d.left ≡ 0)
        → Rose (state old.link).read_waits (state drained.link).read_waits
        ⊎ (drained.budget ≡ Some 0)
    why (inl rose) = inl rose
    why (inr none) = inr (budget_none old.budget drained.budget d.left some d.budget none)

    by_reusable : (t : Bool) → reads drained.body.reader [] ≡ whole [] 0
        → drained.body.refused ≡ None
        → (state drained.link).read_waits ≡ (state old.link).read_waits
        → t ≡ may_follow drained.settings.pipelining drained.received
        → Answered state old (taken_from drained t) (grown d.payload payload) (Ready (Ok t))
    by_reusable true read none still may = (alive, read, none, refl, still, sym may)
    by_reusable false read none still may =
        let follows = not_followed drained.settings.pipelining drained.received (sym may) in (
          alive_same old drained (ap (λ (s : SessionView L C). s.settings) d.rest)
              (ap (λ (s : SessionView L C). s.request) d.rest)
              (ap (λ (s : SessionView L C). s.reply) d.rest)
              (ap (λ (s : SessionView L C). s.keep) d.rest) (none ∙ sym unrefused),
          inr (alive, record { read = read; pipelining = follows.0; more = follows.1 }),
        )

    by_outcome : (o : Poll (Result (Unit {0}) Error))
        → DrainAnswer state (lent old payload) drained d.left o
        → ReuseAnswer (record drained { reusable = reusable }) o answer
        → Answered state old (taken_from drained reusable) (grown d.payload payload) answer
    by_outcome (Ready (Ok done)) h a =
        subst (λ x. Answered state old (taken_from drained reusable) (grown d.payload payload) x) (sym a.1)
        (by_reusable reusable h.0 h.1 h.2 a.0)
    by_outcome (Ready (Err error)) h a =
        subst (λ x. Answered state old (taken_from drained reusable) (grown d.payload payload) x) (sym a.1)
        (alive, rw d.reads.keeps_payload at h.1, h.2)
    by_outcome Pending h a =
        subst (λ x. Answered state old (taken_from drained reusable) (grown d.payload payload) x) (sym a.1) (alive, h.0, h.1, why h.2)

pub answered : {L C : Type 0} (state : L → LinkState) (now : ℕ) (old new : SessionView L C) (e f : Entry)
    (answer : Poll (Result Bool Error))
    → IsSome old.budget → old.body.refused ≡ None → ReusesAs state now old new e f answer
    → Answered state old new (payload_in f) answer
answered {L} {C} state now old new e f answer some unrefused h = by_alive (keeps_alive old) refl h.reuses
  where
    by_alive : (t : Bool) → keeps_alive old ≡ t → ReusesBy state now (lent old (payload_in e)) h.behind answer t
        → Answered state old new (payload_in f) answer
    by_alive true alive r =
        let read : payload_in f ≡ grown r.2.payload (payload_in e) =
        ap payload_in h.entry ∙ ap (λ kept. record (payload_in e) { bytes = noted_of kept })
        (ap (λ (x : SessionView L C). x.body.kept) r.3 ∙ r.2.reads.keeps_payload) in
        let kept = answered_kept state now old r.0 (payload_in e) h.behind.reusable r.1 answer alive some unrefused r.2
        (subst (λ (x : SessionView L C). ReuseAnswer x r.1 answer) r.3 r.4) in
        subst (λ payload. Answered state old new payload answer) (sym read)
        (subst (λ (x : SessionView L C). Answered state old x (grown r.2.payload (payload_in e)) answer)
        (sym (drained_shape r.0 h.behind new r.3 h.session)) kept)
    by_alive false alive r =
        let same : keeps_alive new ≡ keeps_alive old =
        ap (λ (x : SessionView L C). keeps_alive x) h.session ∙ ap (λ (x : SessionView L C). keeps_alive x) r.2 in
        subst (λ x. Answered state old new (payload_in f) x) (sym r.0) (same, inl alive)

-- after a whole reply the connection goes on where it persists
pub alive_replied : (alive replied : Bool) → replied ≡ true → (alive && replied) ≡ alive
alive_replied true replied is = is
alive_replied false replied is = refl

-- the session is lent the payload, asked, and gives the payload back
pub reuses_as : {L C : Type 0} (state : L → LinkState) (now : ℕ) (old asked behind new : SessionView L C)
    (e : Entry) (payload : List ℕ) (answer : Poll (Result Bool Error))
    → is_replied old.reply ≡ true → asked ≡ lent old (payload_in e)
    → ReusesBy state now asked behind answer (may_go_on asked)
    → new ≡ record behind { body = record behind.body { kept = None } }
    → length payload ≤ e.holding.limit
    → payload ≡ payload_of behind → ReusesAs state now old new e (record e { body = payload }) answer
reuses_as {L} {C} state now old asked behind new e payload answer replied lent_is reuses session within is = record {
  behind = behind;
  reuses = subst (λ t. ReusesBy state now (lent old (payload_in e)) behind answer t)
      (alive_replied (keeps_alive old) (is_replied old.reply) replied)
      (subst (λ (x : SessionView L C). ReusesBy state now x behind answer (may_go_on x)) lent_is reuses);
  session = session;
  entry = ap (λ xs. record e { body = xs }) is;
  within = within;
}

-- a call that reads the rest of a body does the same with a session that is lent a payload
drains_lent : {L C : Type 0} (state : L → LinkState) (now : ℕ) (old drained : SessionView L C)
    (payload : Payload) (outcome : Poll (Result (Unit {0}) Error))
    → old.body.kept ≡ None → (d : DrainsBody state now old drained outcome)
    → (MayStarve (state old.link) (state drained.link) None drained.body.reader drained.received → ⊥)
    → DrainsBody state now (lent old payload) (lent drained (grown d.payload payload)) outcome
drains_lent {L} {C} state now old drained payload outcome none d never = record {
  payload = d.payload;
  left = d.left;
  parsed = d.parsed;
  reads = record {
    used = d.reads.used;
    received = d.reads.received;
    decoded = d.reads.decoded;
    keeps_payload = refl;
  };
  budget = d.budget;
  rest = ap (λ (s : SessionView L C). lent s (grown d.payload payload)) d.rest;
  few = d.few;
  answer = by_outcome outcome d.answer;
  timed = d.timed;
}
  where
    -- a body of which no payload is kept isn't refused for its length
    refused : (k : ErrorType)
        → RefusesBody (state old.link) (state drained.link) None drained.body.reader drained.received k
        → RefusesBody (state old.link) (state drained.link) (Some (grown d.payload payload))
        drained.body.reader drained.received k
    refused kind.InvalidBody h = h
    refused kind.ConnectionClosed h = h
    refused kind.ReadError h = h
    refused kind.ReadTimedout h = h
    refused kind.ContentTooLarge h = absurd h
    refused kind.NoMemory h = absurd (never h)
    refused _ h = absurd h

    by_outcome : (o : Poll (Result (Unit {0}) Error)) → DrainAnswer state old drained d.left o
        → DrainAnswer state (lent old payload) (lent drained (grown d.payload payload)) d.left o
    by_outcome (Ready (Ok done)) h = h
    by_outcome (Ready (Err error)) h =
        let unkept = d.reads.keeps_payload ∙ ap (option_map (grown d.payload)) none in
        (h.0, refused error.kind (rw unkept at h.1), h.2)
    by_outcome Pending h = h

-- of a body that was read to its end nothing is read, so nothing has to be lent
pub reuses_read : {L C : Type 0} (state : L → LinkState) (now : ℕ) (old new : SessionView L C) (e : Entry)
    (answer : Poll (Result Bool Error)) → is_replied old.reply ≡ true → old.body.kept ≡ None
    → length e.body ≤ e.holding.limit
    → is_whole (reads old.body.reader []) ≡ true → ReusesBy state now old new answer (may_go_on old)
    → ReusesAs state now old new e e answer
reuses_read {L} {C} state now old new e answer replied none bound read reuses =
    by_alive (keeps_alive old) refl (subst (λ t. ReusesBy state now old new answer t)
    (alive_replied (keeps_alive old) (is_replied old.reply) replied) reuses)
  where
    back : (kept : Option Payload) → new.body.kept ≡ kept → kept ≡ None
        → new ≡ record new { body = record new.body { kept = None } }
    back kept is nothing =
        ap (λ (k : Option Payload). record new { body = record new.body { kept = k } })
        (is ∙ nothing)

    asked : (payload : Payload) (outcome : Poll (Result (Unit {0}) Error))
        → ReuseAnswer new outcome answer → ReuseAnswer (lent new payload) outcome answer
    asked payload (Ready (Ok done)) h = h
    asked payload (Ready (Err error)) h = h
    asked payload Pending h = h

    by_alive : (t : Bool) → keeps_alive old ≡ t → ReusesBy state now old new answer t
        → ReusesAs state now old new e e answer
    by_alive true is r =
        let all = grown r.2.payload (payload_in e) in
        let ends = decoded_end old.body.reader r.0.body.reader r.2.reads.used r.2.payload
        r.2.reads.decoded read in
        record {
          behind = lent new all;
          reuses = subst (λ t. ReusesBy state now (lent old (payload_in e)) (lent new all) answer t) (sym is) (
            lent r.0 all,
            r.1,
            drains_lent state now old r.0 (payload_in e) r.1 none r.2
                (never_starves (state old.link) (state r.0.link) r.0.body.reader r.0.received ends.1),
            ap (λ (s : SessionView L C). lent s all) r.3,
            asked all r.1 r.4,
          );
          session = back r.0.body.kept (ap (λ (s : SessionView L C). s.body.kept) r.3)
              (r.2.reads.keeps_payload
              ∙ ap (option_map (grown r.2.payload)) none);
          entry = ap (λ xs. record e { body = xs })
              (sym (ap (λ xs. e.body ++ xs) ends.0 ∙ append-nil e.body));
          within = bound;
        }
    by_alive false is r = record {
      behind = lent new (payload_in e);
      reuses = subst (λ t. ReusesBy state now (lent old (payload_in e)) (lent new (payload_in e)) answer t) (sym is)
          (r.0, r.1, ap (λ (s : SessionView L C). lent s (payload_in e)) r.2);
      session = back old.body.kept (ap (λ (s : SessionView L C). s.body.kept) r.2) none;
      entry = refl;
      within = bound;
    }

-- the payload that was lent comes back as it is held
pub reused_gathering : {L C : Type 0} (state : L → LinkState) (now : ℕ) (old asked behind : SessionView L C)
    (e : Entry) (answer : Poll (Result Bool Error)) (alive : Bool) → asked ≡ lent old (payload_in e)
    → ReusesBy state now asked behind answer alive
    → IfSome behind.body.kept (λ payload. payload.gathering ≡ gathering_of e.holding)
reused_gathering {L} {C} state now old asked behind e answer alive is reuses =
    by alive (subst (λ (x : SessionView L C). ReusesBy state now x behind answer alive) is reuses)
  where
    by : (alive : Bool) → ReusesBy state now (lent old (payload_in e)) behind answer alive
        → IfSome behind.body.kept (λ payload. payload.gathering ≡ gathering_of e.holding)
    by true r = rw (ap (λ (x : SessionView L C). x.body.kept) r.3, r.2.reads.keeps_payload) refl
    by false r = rw (ap (λ (x : SessionView L C). x.body.kept) r.2) refl
