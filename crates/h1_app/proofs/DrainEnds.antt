-- What a step that drains a request's body leaves, and why it waits or ends.
use Rattle.std.proofs.Common.{◌≡◌, ◌≤◌, ℕ, ◌<◌, ◌⊎◌, inl, inr, List, [], ◌∷◌, ◌++◌, length, take, Bool, true, false, ◌&&◌, not, Option, Some, None, Ok, is_none, refl, sym, ◌∙◌, ap, subst, length-append, arith}
use Rattle.std.proofs.lemmas.Bool.{false≢true, and_parts, not-true, not-false}
use Rattle.std.proofs.lemmas.Option.{IfSome_then, same_Some}
use Rattle.std.proofs.lemmas.List.{take-append-le}
use Rattle.h1_app.specs.Words.{Rules, Ready, Error, ErrorType, LinkState, ResponseView, wish, whole, out, reads, end_bytes, Framing, Counted, Chunked, UntilClose, Lacks, has_reuses, keeps_alive, may_follow, SessionView, Outgoing, Settings, Reply, Stage, Entry, How, Open, Whole, Failed, IsLawful, AfterRead, is_until_close, FailureCause, IsComplete, LacksSo, IsAllowed, IsDated, given_to, is_short, may_keep, Grows, IfTold, payload_in}
use Rattle.h1_application.specs.Application.{Runs}
use Rattle.h1_error.specs.declared.error.ErrorType.TheVariants as kind
use Rattle.h1_body.specs.Reader as reader
use Rattle.h1_body.specs.Writer.{until_close}
use Rattle.h1_server.specs.Persistence.{stays_open, grants}
use Rattle.h1_app.specs.declared.exchange.Stage.TheVariants as at
use Rattle.h1_transcript.specs.Ends.{IsDone}
use Rattle.h1_app.proofs.Words.{Accounted, ReadEntry, coming, SoundStage, IsDraining, MayGoOn, IsKept, MovesWithin}
use Rattle.h1_transcript.proofs.BehindLemmas.{told_map}
use Rattle.h1_app.proofs.AccountedLemmas.{accounted_read, entry_on, settled_on}
use Rattle.h1_app.proofs.JoinLemmas.{read_past}
use Rattle.h1_transcript.proofs.GrowthLemmas.{dated_same, refused_same, replied_same, stays_itself, stays_with_itself}
use Rattle.h1_app.proofs.EndReplies.{complete, stands_broken, stands_unfinished, goes_past}
use Rattle.h1_app.proofs.DrainLemmas.{Reused, HasMore, Answered, stood_on}
use Rattle.h1_app.proofs.ReplyLemmas.{at_some}
use Rattle.h1_transfer.specs.BodyAnswers.{RefusesBody}
use Rattle.h1_transfer.proofs.TakeLemmas.{past_body}

-- the drain's stage, taken apart
pub at_drain : {L C J : Type 0} (runs : Runs J)
    (session : SessionView L C) (last : Option Entry) (stage : Stage J) (e : Entry)
    → stage ≡ at.Drain → last ≡ Some e → SoundStage runs session last stage → IsDraining e session
at_drain runs session last stage e is some sound =
    let h : SoundStage runs session last at.Drain = subst (λ s. SoundStage runs session last s) is sound in
    subst (λ x. IsDraining x session) (same_Some h.0 e (sym h.1 ∙ some)) h.2

-- the payload is no part of the flag
keep_same : (e : Entry) (payload : List ℕ) → may_keep (record e { body = payload }) ≡ may_keep e
keep_same e payload = by_how e.how refl
  where
    by_how : (h : How) → e.how ≡ h → may_keep (record e { body = payload }) ≡ may_keep e
    by_how Whole is = rw is refl
    by_how Open is = rw is refl
    by_how Failed is = rw is refl

-- what the application was given stays before the payload
allowed_more : (rules : Rules) (e : Entry) (payload : List ℕ) → IsAllowed rules e
    → length (e.body ++ payload) ≤ e.holding.limit
    → IsAllowed rules (record e { body = e.body ++ payload })
allowed_more rules e payload a within =
    let front : take e.handed (e.body ++ payload) ≡ take e.handed e.body =
    take-append-le e.handed e.body payload a.handed in
    record {
      filtered = a.filtered;
      reply = IfSome_then e.reply a.reply
          (λ reply h. (
            h.0,
            h.1,
            subst (λ xs. rules.gives (record (given_to e h.0) { handed = xs }) reply)
                (sym front) h.2,
          ));
      sent_head = IfSome_then e.sent_head a.sent_head (λ header h. (
        h.0,
        h.1,
        h.2,
        h.3,
        record {
          date = h.4.date;
          limit = h.4.limit;
          keep = h.4.keep ∙ sym (keep_same e (e.body ++ payload));
        },
      ));
      sent_body = a.sent_body;
      handed = let both = length-append e.body payload in omega (arith, a.handed, both);
      bound = within;
      reuses = a.reuses;
      owed = a.owed;
      limit = a.limit;
    }

-- the payload says nothing of the reply's length, nor of its end
short_same : (e : Entry) (payload : List ℕ) (head : ResponseView) (sent : List ℕ)
    → e.sent_head ≡ Some head → e.sent_body ≡ Some sent
    → is_short (record e { body = payload }) ≡ is_short e
short_same e payload head sent headed is = by_framing (out e.head.method head) refl
  where
    by_framing : (f : Framing) → out e.head.method head ≡ f
        → is_short (record e { body = payload }) ≡ is_short e
    by_framing (Counted n) framed = rw (headed, is, framed) refl
    by_framing Chunked framed = rw (headed, is, framed) refl
    by_framing UntilClose framed = rw (headed, is, framed) refl

closes_same : (e : Entry) (payload : List ℕ) (head : ResponseView) → e.sent_head ≡ Some head
    → is_until_close (record e { body = payload }) ≡ is_until_close e
closes_same e payload head headed = rw headed refl

ends_is : (f : Framing) → reader.is_until_close f ≡ until_close (Some f)
ends_is (Counted n) = refl
ends_is Chunked = refl
ends_is UntilClose = refl

-- a reply that was taken up says by its flag and its framing whether the connection goes on
open_is : (keep : Bool) (reply : Outgoing) → reply.headed ≡ true
    → stays_open keep reply ≡ (keep && not (until_close reply.writer.framing))
open_is keep reply headed = rw headed refl

until_close_is : {L C : Type 0} (e : Entry) (session : SessionView L C) → IsDraining e session
    → is_until_close e ≡ until_close session.reply.writer.framing
until_close_is e session d = rw (d.sent_head, d.framing) (ends_is (out e.head.method d.sent.header))

-- a connection that is kept said so, and its reply doesn't end with the link
kept_open : {L C : Type 0} (e : Entry) (session : SessionView L C)
    → IsDraining e session → keeps_alive session ≡ true
    → (e.keep ≡ true) × (is_until_close e ≡ false)
kept_open e session d alive =
    let both = and_parts session.keep (not (until_close session.reply.writer.framing))
    (sym (open_is session.keep session.reply d.headed) ∙ (and_parts (not session.settings.keep_off
    && has_reuses session.settings.reuses && grants session.request
    && is_none session.body.refused) (stays_open session.keep session.reply) alive).1) in (
      d.keep ∙ both.0,
      until_close_is e session d ∙ not-true (until_close session.reply.writer.framing) both.1,
    )

-- and one that isn't said that, or its reply does
not_open : {L C : Type 0} (rules : Rules) (e : Entry)
    (session : SessionView L C) → IsAllowed rules e → IsDraining e session
    → keeps_alive session ≡ false → (e.keep ≡ false) ⊎ (is_until_close e ≡ true)
not_open {L} {C} rules e session a d dead = by_keep e.keep refl
  where
    dated : IsDated e
    dated =
        let sent = at_some (λ header. (reply : Reply) × (e.reply ≡ Some reply)
        × (rules.filters.header e.head reply ≡ Ok header) × IsLawful header × IsDated e)
        e.sent_head d.sent.header d.sent_head a.sent_head in
        sent.4

    granted : wish e.head e.both ≡ true → grants session.request ≡ true
    granted wished = rw d.is (d.wish ∙ wished)

    alive_is : (a b c d e : Bool) → a ≡ true → b ≡ true → c ≡ true → d ≡ true
        → (a && b && c && d && e) ≡ e
    alive_is a b c d e p q r s = rw (p, q, r, s) refl

    by_keep : (keep : Bool) → e.keep ≡ keep → (e.keep ≡ false) ⊎ (is_until_close e ≡ true)
    by_keep false is = inl is
    by_keep true is =
        let may : may_keep e ≡ true = sym dated.keep ∙ is in
        let wishes = and_parts (wish e.head e.both && not e.left.keep_off)
        (has_reuses e.left.reuses) (and_parts (wish e.head e.both && not e.left.keep_off
        && has_reuses e.left.reuses) _ may).0 in
        let open_so = and_parts (wish e.head e.both) (not e.left.keep_off) wishes.0 in
        let on : not session.settings.keep_off ≡ true =
        ap (λ (x : Settings). not x.keep_off) (sym d.left) ∙ open_so.1 in
        let some : has_reuses session.settings.reuses ≡ true =
        ap (λ (x : Settings). has_reuses x.reuses) (sym d.left) ∙ wishes.1 in
        let alive : keeps_alive session ≡ stays_open session.keep session.reply =
        alive_is (not session.settings.keep_off) (has_reuses session.settings.reuses)
        (grants session.request) (is_none session.body.refused)
        (stays_open session.keep session.reply) on some (granted open_so.0) (ap is_none d.body) in
        let closed : not (until_close session.reply.writer.framing) ≡ false =
        ap (λ keep. keep && not (until_close session.reply.writer.framing)) (sym is ∙ d.keep)
        ∙ sym (open_is session.keep session.reply d.headed) ∙ sym alive ∙ dead in
        inr (until_close_is e session d
        ∙ not-false (until_close session.reply.writer.framing) closed)

module _ {L C : Type 0} (state : L → LinkState) (old new : SessionView L C) (e f : Entry)
    (d : IsDraining e old) (r : Reused state old new e f) where
  -- what was moved
  pub drain_moves : MovesWithin state old new
  drain_moves = record {
    read = r.piece;
    wrote = [];
    spent = r.spent;
    moved = r.moved;
    budget = r.budget;
    within = r.within;
    context = r.context;
  }

  -- what was given and taken goes on
  pub drain_accounted : (before : LinkState) (done : List Entry)
      → Accounted state before old done (Some e) → Accounted state before new done (Some f)
  drain_accounted before done s =
      let g : Entry = record e { body = e.body ++ r.payload } in
      subst (λ (x : Entry). Accounted state before new done (Some x)) (sym r.entry)
      (accounted_read state old new (Some e) (Some g) r.piece before done r.moved.later r.moved.given
      r.moved.written r.reply
      (λ rest p. entry_on old new e g r.piece r.used r.payload rest refl refl refl r.bytes r.decoded
      (λ front read was. IfSome_then e.reply was
      (λ reply stood. stood_on e.how e old.body new.body r.used r.payload r.decoded stood)) p)
      (λ rest h. rw r.reply h) (rw d.unrefused tt)
      (settled_on before (state old.link) (state new.link) done (Some g) r.moved.later.flushed
      s.settled) s)

  -- the exchange grows by what was read
  pub drain_grows : (now : ℕ) → Grows now (state old.link) (state new.link) e f
  drain_grows now =
      let g : Entry = record e { body = e.body ++ r.payload } in
      subst (λ (x : Entry). Grows now (state old.link) (state new.link) e x) (sym r.entry) (record {
        holding = refl;
        head = refl;
        both = refl;
        filtered = stays_itself e.filtered;
        body = (r.payload, refl);
        handed = omega arith;
        body_error = stays_itself e.body_error;
        refused = refused_same (state old.link) (state new.link) e.body_error;
        read_limit = stays_with_itself e.body_error e.read_limit;
        reply = stays_itself e.reply;
        replied = replied_same e.reply e g refl refl refl refl;
        sent_head = stays_itself e.sent_head;
        dated = dated_same now e.sent_head e g refl refl refl refl refl;
        sent_body = stays_itself e.sent_body;
        written = omega arith;
        began = refl;
      })

  pub drain_kept : IsKept new f
  drain_kept =
      ap (λ (x : Entry). x.written) r.entry ∙ d.written ∙ sym (ap (λ (x : Outgoing). x.sent) r.reply)

  pub drain_allowed : (rules : Rules) → length f.body ≤ e.holding.limit → IsAllowed rules e
      → IsAllowed rules f
  drain_allowed rules within a = subst (λ (x : Entry). IsAllowed rules x) (sym r.entry)
      (allowed_more rules e r.payload a
      (subst (λ (x : Entry). length x.body ≤ e.holding.limit) r.entry within))

  -- the exchange may still be drained
  pub draining_on : new.body.refused ≡ None → IsDraining f new
  draining_on unrefused = subst (λ (x : Entry). IsDraining x new) (sym r.entry) (record {
    request = d.request;
    is = r.request ∙ d.is;
    wish = d.wish;
    reply = d.reply;
    replied = d.replied;
    left = d.left ∙ sym r.settings;
    sent = d.sent;
    sent_head = d.sent_head;
    sent_body = d.sent_body;
    headed = rw r.reply d.headed;
    keep = d.keep ∙ sym r.keep;
    framing = rw r.reply d.framing;
    whole = rw r.reply d.whole;
    nothing = rw r.reply d.nothing;
    free = rw r.reply d.free;
    reply_owed = rw r.reply d.reply_owed;
    owed = d.owed;
    unrefused = d.unrefused;
    body = unrefused;
    kept = r.kept;
    waits = r.waits ∙ d.waits;
    written = rw r.reply d.written;
    limit = d.limit;
    long = short_same e (e.body ++ r.payload) d.sent.header d.sent_body.0 d.sent_head d.sent_body.1
        ∙ d.long;
  })

  unrefused_still : f.body_error ≡ None
  unrefused_still = ap (λ (x : Entry). x.body_error) r.entry ∙ d.unrefused

  -- the reply is complete after the drain
  drain_complete : (before : LinkState) (done : List Entry)
      → Accounted state before new done (Some f) → IsComplete before (state new.link) done f
  drain_complete before done s =
      let nothing : end_bytes old.reply.writer ≡ [] =
      ap (λ sent. coming sent old.reply.writer) (sym d.sent_body.1) ∙ d.nothing in
      complete state before done new f d.sent.header d.sent_body.0
      (ap (λ (x : Entry). x.owed) r.entry ∙ d.owed) s
      (ap (λ (x : Outgoing). x.owed) r.reply ∙ d.reply_owed)
      (ap (λ (x : Outgoing). end_bytes x.writer) r.reply ∙ nothing)
      (ap (λ (x : Entry). x.sent_head) r.entry ∙ d.sent_head)
      (ap (λ (x : Entry). x.sent_body) r.entry ∙ d.sent_body.1)

  drain_long : is_short f ≡ false
  drain_long = ap is_short r.entry
      ∙ short_same e (e.body ++ r.payload) d.sent.header d.sent_body.0 d.sent_head d.sent_body.1
      ∙ d.long

  drain_closes : is_until_close f ≡ is_until_close e
  drain_closes = ap is_until_close r.entry
      ∙ closes_same e (e.body ++ r.payload) d.sent.header d.sent_head

  -- and where the link is kept, the connection is kept after it
  drain_done : (before : LinkState) (done : List Entry) → keeps_alive old ≡ true
      → Accounted state before new done (Some f) → IsDone before (state new.link) done f
  drain_done before done alive s =
      let open_so = kept_open e old d alive in
      record {
        complete = drain_complete before done s;
        long = drain_long;
        keep = ap (λ (x : Entry). x.keep) r.entry ∙ open_so.0;
        closes = drain_closes ∙ open_so.1;
      }

  -- why a drain waits
  pub drain_waits : (before : LinkState) (done : List Entry) → keeps_alive old ≡ true
      → Lacks new.body.reader new.received
      → Accounted state before new done (Some f) → LacksSo before (state new.link) done (Some f)
  drain_waits before done alive lacks s =
      (inr (drain_done before done alive s), stands_unfinished state before done new f s lacks)

  -- why it fails
  pub drain_fails : (before : LinkState) (done : List Entry) (error : Error) (k : ErrorType)
      → keeps_alive old ≡ true
      → RefusesBody (state old.link) (state new.link) (Some (payload_in f)) new.body.reader new.received k
      → Accounted state before new done (Some f)
      → FailureCause before (state old.link) (state new.link) done (Some f) error k
  drain_fails before done error kind.InvalidBody alive h s =
      (inr (drain_done before done alive s, unrefused_still, tt), stands_broken state before done new f s h)
  drain_fails before done error kind.ConnectionClosed alive h s = (
    h.0,
    inr (inr (drain_done before done alive s, unrefused_still, tt), stands_unfinished state before done new f s h.1),
  )
  drain_fails before done error kind.ReadError alive h s = inr (
    inr (drain_done before done alive s, unrefused_still, h.0),
    stands_unfinished state before done new f s h.1,
  )
  drain_fails before done error kind.ReadTimedout alive h s = inr (
    inr (drain_done before done alive s, unrefused_still, h.0),
    stands_unfinished state before done new f s h.1,
  )
  drain_fails before done error kind.ContentTooLarge alive h s = (
    inr (drain_done before done alive s, unrefused_still, tt),
    goes_past state before done new f s
        (past_body (payload_in f) new.body.reader new.received h),
  )
  drain_fails before done error kind.NoMemory alive h s = tt
  drain_fails before done error _ alive h s = absurd h

  -- why a link that is kept isn't handed on
  pub drain_overread : (before : LinkState) (done : List Entry) → keeps_alive old ≡ true
      → HasMore new → Accounted state before new done (Some f)
      → IsDone before (state new.link) done f × (f.left.pipelining ≡ false)
      × IfTold before.given (state new.link).given
      (AfterRead (done ++ f ∷ []) (λ rest. 0 < length rest))
  drain_overread before done alive more s =
      let left : f.left ≡ new.settings = ap (λ (x : Entry). x.left) r.entry ∙ d.left ∙ sym r.settings in (
        drain_done before done alive s,
        ap (λ (x : Settings). x.pipelining) left ∙ more.pipelining,
        told_map before.given (state new.link).given (AfterRead done (λ rest. ReadEntry rest f new))
            (AfterRead (done ++ f ∷ []) (λ rest. 0 < length rest)) (λ since h.
            let past = read_past new done f since more.read unrefused_still h in
            (past.0, past.1, subst (λ xs. 0 < length xs) (sym past.2) more.more)) s.read,
      )

  -- why a link that isn't kept is shut
  pub drain_shut : (before : LinkState) (done : List Entry) (rules : Rules)
      → IsAllowed rules e → keeps_alive old ≡ false → Accounted state before new done (Some f)
      → IsComplete before (state new.link) done f × (is_short f ≡ false) × (f.body_error ≡ None)
      × ((f.keep ≡ false) ⊎ (is_until_close f ≡ true))
  drain_shut before done rules a dead s = (
    drain_complete before done s,
    drain_long,
    unrefused_still,
    elim (not_open rules e old a d dead) [
      | inl off ↦ inl (ap (λ (x : Entry). x.keep) r.entry ∙ off)
      | inr closes ↦ inr (drain_closes ∙ closes)
    ],
  )

  -- the exchange is over
  pub drain_over : keeps_alive old ≡ true → reads new.body.reader [] ≡ whole [] 0
      → new.reusable ≡ true → may_follow new.settings.pipelining new.received ≡ true
      → MayGoOn f new
  drain_over alive read reusable follow =
      let open_so = kept_open e old d alive in
      record {
        read = read;
        keep = ap (λ (x : Entry). x.keep) r.entry ∙ open_so.0;
        closes = drain_closes ∙ open_so.1;
        reusable = reusable;
        alone = follow;
      }

-- bytes were received after the request, where the link is kept and isn't handed on
pub drain_more : {L C : Type 0} (state : L → LinkState) (old new : SessionView L C) (e f : Entry)
    → Answered state old new (payload_in f) (Ready (Ok false)) → keeps_alive new ≡ true → HasMore new
drain_more state old new e f a alive = elim a.1 [
  | inl dead ↦ absurd (false≢true (sym (a.0 ∙ dead) ∙ alive))
  | inr more ↦ more.1
]
