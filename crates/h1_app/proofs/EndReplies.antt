-- How a connection stands once its reply is written, and why it ends.
use Rattle.std.proofs.Common.{Option, None, ◌≡◌, ℕ, ◌+◌, ◌-◌, ◌^◌, ◌<◌, ◌⊎◌, inl, inr, min, List, [], ◌∷◌, ◌++◌, length, take, Bool, true, false, cond, nat_lt, nat_le, Some, refl, sym, ◌∙◌, ap, subst, append-nil, length-take, arith, codes}
use Rattle.std.proofs.lemmas.Bool.{false≢true, ltb-true, lt-ltb}
use Rattle.std.proofs.lemmas.Option.{none-some}
use Rattle.h1_app.specs.Words.{AllByRecursion, Error, ErrorType, LinkState, ResponseView, Body, whole, unfinished, broken, ahead, chunked, body, reads, read_as, framing, out, begun, after_piece, end_bytes, is_head, Framing, Counted, Chunked, UntilClose, Chunking, Reading, Lacks, SessionView, Reply, Entry, WroteBehind, AfterRead, AfterWrote, FlushedBy, written_of, FailureCause, EndCause, IsComplete, IsWrittenShort, LastStands, render, is_short, shown, IfTold, OfLast, IsWrittenSoFar, IsPast, payload_in}
use Rattle.h1_error.specs.declared.error.ErrorType.TheVariants as kind
use Rattle.h1_error.specs.declared.progress.End.TheVariants as end
use Rattle.h1_fields.specs.Lines.{Line}
use Rattle.h1_fields.specs.ListParts.{parts_of}
use Rattle.h1_fields.specs.Codings.{is_chunked_last}
use Rattle.h1_fields.specs.ContentLength.{content_length, IsNumber}
use Rattle.h1_fields.specs.declared.content_length.ContentLength.{ContentLength}
use Rattle.h1_fields.specs.declared.content_length.ContentLength.TheVariants as stated
use Rattle.h1_fields.proofs.LengthLemmas.{length_only}
use Rattle.h1_body.specs.Framing.{by_length, by_fields, has_no_body}
use Rattle.h1_body.specs.Writer.{lacks}
use Rattle.h1_body.specs.declared.chunking.Chunking.TheVariants as place
use Rattle.h1_body.specs.declared.reader.Reading.TheVariants as reading
use Rattle.h1_body.specs.Body.{payload_of}
use Rattle.h1_body.proofs.PayloadLemmas.{payload_ahead}
use Rattle.h1_transcript.specs.Ends.{EndsBody, LastAfter, LastGoesPast}
use Rattle.h1_app.proofs.Words.{Accounted, IsBodied, ReadEntry, WroteSo, coming, StopsBody, StopsWith}
use Rattle.h1_app.proofs.ReplyLemmas.{at_some}
use Rattle.h1_transcript.proofs.BehindLemmas.{told_map, read_map}

-- a chunked body that is broken stays so
chunks_broken : (s : Chunking) (bytes : List ℕ) → chunked s [] ≡ broken []
    → chunked s bytes ≡ broken []
chunks_broken place.Broken [] h = refl
chunks_broken place.Broken (b ∷ bytes) h = refl
chunks_broken s bytes h = absurd (cc)

not_broken : (test : Bool) (n : ℕ) → cond test (whole [] n) (unfinished []) ≡ broken [] → ⊥
not_broken true n h = cc
not_broken false n h = cc

-- a body that is broken stays so
reading_broken : (r : Reading) (bytes : List ℕ) → read_as r [] ≡ broken []
    → read_as r bytes ≡ broken []
reading_broken (reading.Counted left) bytes h = absurd (counted left h)
  where
    counted : (left : ℕ) → read_as (reading.Counted left) [] ≡ broken [] → ⊥
    counted left h = elim (nat_le left 0) as
        (λ t. cond t (whole (take left []) left) (unfinished []) ≡ broken [] → ⊥) [
          | true ↦ λ e. cc
          | false ↦ λ e. cc
        ] h
reading_broken (reading.Chunked s) bytes h = chunks_broken s bytes h
reading_broken reading.UntilClose bytes h = absurd (cc)
reading_broken reading.Ended bytes h = absurd (cc)

-- how the last request's body stands after the requests of the exchanges that ended
module _ {L C : Type 0} (state : L → LinkState) (before : LinkState) (done : List Entry)
    (session : SessionView L C) (e : Entry) (s : Accounted state before session done (Some e)) where
  stands : (b stand : Body) → reads session.body.reader session.received ≡ b
      → ((used : ℕ) → ahead e.body used b ≡ stand)
      → IfTold before.given (state session.link).given (λ since. LastAfter since done e stand)
  stands b stand is so = read_map done before.given (state session.link).given
      (λ rest. ReadEntry rest e session) (λ rest. LastStands rest e stand)
      (λ rest r. record {
        n = r.n;
        head = r.head;
        body = ap (λ xs. body (framing e.head) xs) r.bytes ∙ r.decoded.read session.received
            ∙ ap (λ b. ahead e.body (length r.used) b) is ∙ so (length r.used);
      }) s.read

  pub stands_broken : reads session.body.reader [] ≡ broken []
      → IfTold before.given (state session.link).given (λ since. LastAfter since done e (broken e.body))
  stands_broken h = stands (broken []) (broken e.body)
      (reading_broken session.body.reader.reading session.received h)
      (λ used. ap (λ xs. broken xs) (append-nil e.body))

  -- it lacks more where nothing of it is left among the received bytes
  pub stands_unfinished : Lacks session.body.reader session.received
      → IfTold before.given (state session.link).given (λ since. LastAfter since done e (unfinished e.body))
  stands_unfinished h = stands (unfinished []) (unfinished e.body)
      (ap (λ xs. reads session.body.reader xs) h.0 ∙ h.1)
      (λ used. ap (λ xs. unfinished xs) (append-nil e.body))

  -- the body is too large where what is received goes on past the limit
  pub goes_past : IsPast e.holding.limit e.body (reads session.body.reader session.received)
      → IfTold before.given (state session.link).given (AfterRead done (λ rest. LastGoesPast rest e))
  goes_past past = read_map done before.given (state session.link).given
      (λ rest. ReadEntry rest e session) (λ rest. LastGoesPast rest e)
      (λ rest r. record {
        n = r.n;
        head = r.head;
        body = subst (λ bytes. e.holding.limit < length bytes)
            (sym (ap payload_of (ap (λ xs. body (framing e.head) xs) r.bytes ∙ r.decoded.read session.received)
            ∙ payload_ahead e.body (length r.used) (reads session.body.reader session.received))) past;
      }) s.read

-- an error of the request's body ends the connection for its own cause
stop_cause : {L C : Type 0} (state : L → LinkState) (before old : LinkState) (done : List Entry)
    (session : SessionView L C) (e : Entry) (error : Error) (k : ErrorType)
    → Accounted state before session done (Some e)
    → EndsBody before (state session.link) done e error → StopsBody state session (payload_in e) k
    → FailureCause before old (state session.link) done (Some e) error k
stop_cause state before old done session e error kind.InvalidBody s ends h =
    (inl ends, stands_broken state before done session e s h)
stop_cause state before old done session e error kind.ConnectionClosed s ends h =
    (h.0, inr (inl ends, stands_unfinished state before done session e s h.1))
stop_cause state before old done session e error kind.ReadError s ends h =
    inr (inl ends, stands_unfinished state before done session e s h)
stop_cause state before old done session e error kind.ReadTimedout s ends h =
    inr (inl ends, stands_unfinished state before done session e s h)
stop_cause state before old done session e error kind.ContentTooLarge s ends h =
    (inl ends, goes_past state before done session e s h)
stop_cause state before old done session e error kind.NoMemory s ends h = tt
stop_cause state before old done session e error _ s ends h = absurd h

pub stopped_cause : {L C : Type 0} (state : L → LinkState) (before old : LinkState)
    (done : List Entry) (session : SessionView L C) (e : Entry) (error : Error)
    → Accounted state before session done (Some e) → e.body_error ≡ Some error
    → IsComplete before (state session.link) done e
    ⊎ IsWrittenShort before (state session.link) done e
    → EndCause before old (state session.link) done (Some e) (end.Failed error)
stopped_cause state before old done session e error s is replied =
    let stops = at_some (StopsWith state session (payload_in e)) e.body_error error is s.stopped in (
      stops.1,
      stop_cause state before old done session e error error.kind s
          (record { is = is; replied = replied }) stops.0,
    )

-- all of the reply is written
written_whole : {L C : Type 0} (since : List ℕ) (session : SessionView L C) (e : Entry)
    → session.reply.owed ≡ [] → coming e.sent_body session.reply.writer ≡ []
    → WroteSo since session (Some e) → since ≡ render e
written_whole since session e none nothing h =
    sym (ap (λ xs. since ++ session.reply.owed ++ xs) nothing
    ∙ append-nil (since ++ session.reply.owed) ∙ ap (λ xs. since ++ xs) none
    ∙ append-nil since) ∙ h

told_so_far : {L C : Type 0} (state : L → LinkState) (before : LinkState) (done : List Entry)
    (session : SessionView L C) (e : Entry)
    → Accounted state before session done (Some e) → session.reply.owed ≡ []
    → coming e.sent_body session.reply.writer ≡ []
    → IfTold before.written (state session.link).written
    (λ since. WroteBehind since done (render e))
told_so_far state before done session e s none nothing =
    told_map before.written (state session.link).written
    (AfterWrote done (λ rest. WroteSo rest session (Some e) ×
    (session.reply.sent ≡ min (length rest) (2 ^ 64 - 1))))
    (λ since. WroteBehind since done (render e))
    (λ since h. subst (λ xs. WroteBehind since done xs)
    (written_whole h.0 session e none nothing h.2.0) h.1) s.wrote

pub told_whole : {L C : Type 0} (state : L → LinkState) (before : LinkState) (done : List Entry)
    (session : SessionView L C) (e : Entry) (sent : List ℕ)
    → Accounted state before session done (Some e) → session.reply.owed ≡ []
    → e.sent_body ≡ Some sent → end_bytes session.reply.writer ≡ []
    → IfTold before.written (state session.link).written
    (λ since. WroteBehind since done (render e))
told_whole state before done session e sent s none is ended =
    told_so_far state before done session e s none
    (ap (λ x. coming x session.reply.writer) is ∙ ended)

-- before its body is taken up, that is all that was
pub written_so_far : {L C : Type 0} (state : L → LinkState) (before : LinkState)
    (done : List Entry) (session : SessionView L C) (last : Option Entry)
    → Accounted state before session done last → session.reply.owed ≡ []
    → OfLast last (λ e. e.sent_body ≡ None)
    → IsWrittenSoFar before (state session.link) done last
written_so_far state before done session None s none unsent = absurd unsent
written_so_far state before done session (Some e) s none unsent =
    told_so_far state before done session e s none
    (ap (λ x. coming x session.reply.writer) unsent)

-- a reply that is written whole was flushed, where nothing of it is owed
pub complete : {L C : Type 0} (state : L → LinkState) (before : LinkState) (done : List Entry)
    (session : SessionView L C) (e : Entry) (head : ResponseView) (sent : List ℕ)
    → e.owed ≡ false → Accounted state before session done (Some e) → session.reply.owed ≡ []
    → end_bytes session.reply.writer ≡ [] → e.sent_head ≡ Some head → e.sent_body ≡ Some sent
    → IsComplete before (state session.link) done e
complete state before done session e head sent unowed s none ended headed is =
    let settled = at_some (λ (head : ResponseView). e.owed ≡ false
    → FlushedBy before (state session.link) (written_of done + e.written)) e.sent_head head headed
    s.settled in
    record {
      sent_head = λ p. none-some head (sym p ∙ headed);
      sent_body = λ p. none-some sent (sym p ∙ is);
      written = told_whole state before done session e sent s none is ended;
      flushed = settled unowed;
      unowed = unowed;
    }

-- a stated length is below 2 ^ 64
length_limit : (lines : List Line) (n : ℕ) → content_length lines ≡ stated.Number n → n < 2 ^ 64
length_limit lines n h =
    let all : (0 < length (parts_of (codes "Content-Length") lines)) × AllByRecursion (IsNumber n)
    (parts_of (codes "Content-Length") lines) =
    length_only n (parts_of (codes "Content-Length") lines) h in
    first (parts_of (codes "Content-Length") lines) all.0 all.1
  where
    first : (parts : List (List ℕ)) → 0 < length parts → AllByRecursion (IsNumber n) parts
        → n < 2 ^ 64
    first [] some all = omega arith
    first (part ∷ parts) some all = all.0.2

counted_same : (m n : ℕ) → Counted m ≡ Counted n → m ≡ n
counted_same m n h = cc

by_length_limit : (lines : List Line) (stands : ContentLength) (n : ℕ)
    → content_length lines ≡ stands → by_length UntilClose stands ≡ Counted n → n < 2 ^ 64
by_length_limit lines (stated.Number m) n is h = let same : m ≡ n = counted_same m n h in subst
    (λ k. k < 2 ^ 64) same (length_limit lines m is)
by_length_limit lines stated.Absent n is h = absurd (cc)
by_length_limit lines stated.Bad n is h = absurd (cc)

one_of : (test : Bool) (x y : Framing) (n : ℕ) → (x ≡ Counted n → n < 2 ^ 64)
    → (y ≡ Counted n → n < 2 ^ 64) → cond test x y ≡ Counted n → n < 2 ^ 64
one_of true x y n a b h = a h
one_of false x y n a b h = b h

pub out_limit : (method : List ℕ) (head : ResponseView) (n : ℕ) → out method head ≡ Counted n
    → n < 2 ^ 64
out_limit method head n h =
    one_of (has_no_body (is_head method) head.status) (Counted 0) (by_fields UntilClose head.fields) n
    (λ e. let none : 0 ≡ n = counted_same 0 n e in omega arith)
    (λ e. one_of (is_chunked_last head.fields) Chunked
    (by_length UntilClose (content_length head.fields)) n
    (λ x. absurd (chunked_is x)) (λ x. by_length_limit head.fields (content_length head.fields) n
    refl x) e) h
  where
    chunked_is : Chunked ≡ Counted n → ⊥
    chunked_is x = cc

-- two tests are one where each tells the other
same_test : (a b n : ℕ) → (a < n → b < n) → (b < n → a < n) → nat_lt a n ≡ nat_lt b n
same_test a b n to from = by_tests (nat_lt a n) (nat_lt b n) refl refl
  where
    by_tests : (s t : Bool) → nat_lt a n ≡ s → nat_lt b n ≡ t → nat_lt a n ≡ nat_lt b n
    by_tests true true p q = p ∙ sym q
    by_tests false false p q = p ∙ sym q
    by_tests true false p q =
        absurd (false≢true (sym q ∙ lt-ltb b n (to (ltb-true a n p))))
    by_tests false true p q =
        absurd (false≢true (sym p ∙ lt-ltb a n (from (ltb-true b n q))))

-- the exchange is short exactly where its writer is
pub short_as : (e : Entry) (sent : Reply) → e.sent_head ≡ Some sent.header → IsBodied e sent
    → is_short e ≡ lacks (Some (out e.head.method sent.header))
    (after_piece (begun (out e.head.method sent.header)) sent.body).written
short_as e sent headed bodied = by_framing (out e.head.method sent.header) refl
  where
    same : length (shown e.reply bodied.0) ≡ length sent.body
    same = ap length (sym bodied.2)

    by_framing : (f : Framing) → out e.head.method sent.header ≡ f
        → is_short e ≡ lacks (Some f) (after_piece (begun f) sent.body).written
    by_framing (Counted n) counted =
        let limit = out_limit e.head.method sent.header n counted in
        rw (headed, bodied.1, counted)
        (same_test (length (shown e.reply bodied.0))
        (min (0 + length (take (n - 0) sent.body)) (2 ^ 64 - 1)) n
        (λ less. omega (arith, length-take (n - 0) sent.body, less, same, limit))
        (λ less. omega (arith, length-take (n - 0) sent.body, less, same, limit)))
    by_framing Chunked framed = rw (headed, bodied.1, framed) refl
    by_framing UntilClose framed = rw (headed, bodied.1, framed) refl
