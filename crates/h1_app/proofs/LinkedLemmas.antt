-- What was read and written since, where a connection is new or its link was used by others.
use Rattle.std.proofs.Common.{◌≡◌, ℕ, ◌-◌, ◌^◌, min, List, [], ◌++◌, length, Option, Some, None, refl, sym, ◌∙◌, ap, subst, append-nil, arith}
use Rattle.h1_app.specs.Words.{LinkState, SessionView, Settings, Entry, AfterRead, AfterWrote, IfTold, payload_in}
use Rattle.h1_link.specs.Later.{KeepsBytes}
use Rattle.h1_link.proofs.Laters.{keeps_itself, later_itself, later_keeps, append_known-nil}
use Rattle.h1_server.specs.SessionView.{IsNewSession}
use Rattle.h1_app.proofs.Words.{Accounted, ReadSo, WroteSo, StoppedSo}
use Rattle.h1_app.proofs.AccountedLemmas.{accounted_read, settled_on, stopped_on}

told_new : (known : Option (List ℕ)) (P : List ℕ → Type 0) → P [] → IfTold known known P
told_new None P p = tt
told_new (Some bytes) P p = ([], sym (append-nil bytes), p)

new_read : {L C : Type 0} (link : L) (session : SessionView L C) → IsNewSession link session
    → ReadSo [] session None
new_read link session is = rw (is.request, is.received) refl

-- nothing was read or written over a link since the session over it was made
pub accounted_new : {L C : Type 0} (state : L → LinkState) (link : L) (session : SessionView L C)
    (done : List Entry) (last : Option Entry)
    → IsNewSession link session → done ≡ [] → last ≡ None
    → Accounted state (state link) session done last
accounted_new state link session done last is nothing none = rw (nothing, none, is.link) (record {
  later = later_itself (state link);
  read = told_new (state link).given (AfterRead [] (λ rest. ReadSo rest session None))
      ([], refl, new_read link session is);
  wrote = told_new (state link).written
      (AfterWrote [] (λ rest. WroteSo rest session None × (session.reply.sent ≡ min (length rest) (2 ^ 64 - 1))))
      ([], refl, ((refl, ap (λ r. r.owed) is.reply), rw is.reply refl));
  stopped = tt;
  flushed = tt;
  settled = tt;
  out = let none : session.reply.sent ≡ 0 = ap (λ r. r.sent) is.reply in omega (arith, none);
})

read_as : {L C : Type 0} (old new : SessionView L C) (last : Option Entry) (since : List ℕ)
    → new.received ≡ old.received → new.request ≡ old.request → new.body ≡ old.body
    → ReadSo since old last → ReadSo since new last
read_as old new None since received request body h = rw (received, request) h
read_as old new (Some e) since received request body h = record {
  n = h.n;
  used = h.used;
  head = h.head;
  bytes = h.bytes ∙ ap (λ xs. h.used ++ xs) (sym received);
  decoded = rw body h.decoded;
  stood = rw body h.stood;
}

wrote_as : {L C : Type 0} (old new : SessionView L C) (last : Option Entry) (since : List ℕ)
    → new.reply ≡ old.reply → WroteSo since old last → WroteSo since new last
wrote_as old new None since reply h = rw reply h
wrote_as old new (Some e) since reply h = rw reply h

-- the link was used, and no byte of it moved
pub accounted_linked : {L C : Type 0} (state : L → LinkState) (old new : SessionView L C)
    (last : Option Entry) (before : LinkState) (done : List Entry)
    → KeepsBytes (state old.link) (state new.link) → new.received ≡ old.received
    → new.request ≡ old.request → new.body ≡ old.body → new.reply ≡ old.reply
    → Accounted state before old done last → Accounted state before new done last
accounted_linked state old new last before done kept received request body reply s =
    let later = later_keeps (state old.link) (state new.link) kept in
    accounted_read state old new last last [] before done later
    (kept.given ∙ sym (append_known-nil _)) (kept.written ∙ sym (append_known-nil _)) reply
    (λ rest h. subst (λ xs. ReadSo xs new last) (sym (append-nil rest))
    (read_as old new last rest received request body h))
    (λ rest h. wrote_as old new last rest reply h) (stays last s.stopped)
    (settled_on before (state old.link) (state new.link) done last later.flushed s.settled) s
  where
    stays : (last : Option Entry) → StoppedSo state old last → StoppedSo state new last
    stays None h = tt
    stays (Some e) h = stopped_on state old new (payload_in e) e.body_error body received
        (later_keeps (state old.link) (state new.link) kept) h

-- a poll's budget is no part of it
pub accounted_budget : {L C : Type 0} (state : L → LinkState) (old new : SessionView L C)
    (budget : Option ℕ) (last : Option Entry) (before : LinkState) (done : List Entry)
    → new ≡ record old { budget = budget } → Accounted state before old done last
    → Accounted state before new done last
accounted_budget {L} {C} state old new budget last before done is s =
    let set : SessionView L C = record old { budget = budget } in
    rw is (accounted_linked state old set last before done (keeps_itself (state old.link)) refl refl refl refl s)

-- nothing was read or written since a session was made and set
pub accounted_made : {L C : Type 0} (state : L → LinkState) (link : L)
    (fresh session : SessionView L C) (settings : Settings) (done : List Entry)
    (last : Option Entry)
    → IsNewSession link fresh → session ≡ record fresh { settings = settings } → done ≡ []
    → last ≡ None → Accounted state (state link) session done last
accounted_made {L} {C} state link fresh session settings done last is set nothing none =
    let start : Accounted state (state link) fresh done last =
    accounted_new state link fresh done last is nothing none in
    let made : SessionView L C = record fresh { settings = settings } in
    rw set (accounted_linked state fresh made last (state link) done
    (keeps_itself (state fresh.link)) refl refl refl refl start)
