-- The reply's header is taken up, with the date and the flag of the poll.
use Rattle.std.proofs.Common.{Bool, IfNone, IfSome, IsSome, List, None, Ok, Option, Result, Some, [], ap, append-nil, arith, false, is_none, length, length-append, not, refl, subst, sym, true, ℕ, ◌&&◌, ◌++◌, ◌+◌, ◌/◌, ◌<◌, ◌||◌, ◌∙◌, ◌∷◌, ◌≡◌}
use Rattle.h1_app.specs.Words.{Rules, Body, Entry, Error, HeaderCall, HeaderWrite, IsAllowed, IsDateAt, IsLawful, LinkState, Poll, Reply, Request, ResponseView, SessionView, Stage, WritesHeader, YEAR_10000, begun, broken, has_reuses, head_bytes, how_stands, is_passed_over, is_whole, may_keep, reads, render_parts, reply_head, unfinished, whole, wish}
use Rattle.h1_fields.specs.Lines.{print_lines}
use Rattle.h1_head.specs.Wire.{print_status_line}
use Rattle.h1_server.specs.Persistence.{keep_flag}
use Rattle.h1_body.specs.Framing.{out_to}
use Rattle.httpdate.proofs.Theorems.{unix_secs_injective}
use Rattle.h1_app.proofs.PartLemmas.{Part, WritesPart, replying}
use Rattle.h1_app.proofs.ReplyLemmas.{ahead_wrote, at_none, at_some}
use Rattle.h1_transcript.proofs.GrowthLemmas.{stays_itself}
use Rattle.h1_server.specs.Replies.{kept_by}
use Rattle.h1_app.proofs.Words.{IsHeaded, IsReplied, IsUnwritten, NotesHeader, coming, fresh, ahead}
use Rattle.h1_app.specs.declared.exchange.Stage.TheVariants as at

-- what an exchange notes of a header that is taken up
abbrev pub taken_up : {L C : Type 0} → Entry → ResponseView → ℕ → List ℕ → SessionView L C → Part
taken_up e header now text session =
    record {
      head = Some header;
      body = e.sent_body;
      date = now / 1000;
      text = text;
      keep = session.keep;
      owed = true;
      written = session.reply.sent;
    }

-- a header that was taken up is noted
pub header_noted : (headed keep : Bool) (sent : ResponseView) (now written : ℕ) (date : List ℕ)
    (old new : Entry) → headed ≡ true → IsDateAt (now / 1000) date
    → new ≡ record old {
      sent_head = Some sent;
      date = now / 1000;
      date_text = date;
      keep = keep;
      owed = true;
      written = written;
    } → NotesHeader (kept_by (Some sent) headed) sent now keep written old new
header_noted headed keep sent now written date old new is dated noted =
    rw (is, noted) (dated, refl)

-- and so is the reply's own
pub own_header_noted : (headed keep : Bool) (reply : Option Reply) (now written : ℕ)
    (date : List ℕ) (old new : Entry) → headed ≡ true → IsDateAt (now / 1000) date
    → IfSome reply (λ reply. new ≡ record old {
      sent_head = Some reply.header;
      date = now / 1000;
      date_text = date;
      keep = keep;
      owed = true;
      written = written;
    }) → IfSome reply (λ reply.
    NotesHeader (kept_by (Some reply.header) headed) reply.header now keep written old new)
own_header_noted headed keep None now written date old new is dated noted = tt
own_header_noted headed keep (Some reply) now written date old new is dated noted =
    header_noted headed keep reply.header now written date old new is dated noted

-- the call with the header handed in
pub taking_header : {L C : Type 0} (state : L → LinkState) (old new : SessionView L C)
    (request : Request) (sent : ResponseView) (kept : Option ResponseView) (now : ℕ)
    (outcome : Poll (Result (Unit {0}) Error))
    → old.request ≡ Some request → IsUnwritten old.reply
    → IfNone old.reply.refused (IfSome old.request
    (λ request. HeaderCall state old new request (Some sent) kept now outcome
    (is_passed_over (Some sent) old.reply.headed)))
    → HeaderWrite state old new request (Some sent) kept now outcome
taking_header state old new request sent kept now outcome asked unwritten call =
    subst (λ (passed : Bool). HeaderCall state old new request (Some sent) kept now outcome passed)
    unwritten.headed
    (at_some (λ request. HeaderCall state old new request (Some sent) kept now outcome
    (is_passed_over (Some sent) old.reply.headed)) old.request request asked
    (at_none _ old.reply.refused unwritten.refused call))

-- a second has one text
same_date : (secs : ℕ) (text other : List ℕ) → IsDateAt secs text → IsDateAt secs other
    → text ≡ other
same_date secs text other one two =
    let same : one.0.parts ≡ two.0.parts = unix_secs_injective one.0 two.0 (one.1 ∙ sym two.1) in
    (rw same at one.2) ∙ sym two.2

-- a head that is alone
parts_headed : (method : List ℕ) (r : Option Reply) (b : Option (List ℕ)) (date old_date : List ℕ)
    (keep old_keep : Bool) (h : Option ResponseView) (sent : ResponseView)
    → b ≡ None → h ≡ None → render_parts method r b date keep (Some sent)
    ≡ render_parts method r b old_date old_keep h ++ head_bytes (reply_head sent date keep)
parts_headed method r b date old_date keep old_keep h sent none no_head = rw (none, no_head)
    (append-nil (head_bytes (reply_head sent date keep)))

and_true : (b : Bool) → (b && true) ≡ b
and_true true = refl
and_true false = refl

and_false : (b : Bool) → (b && false) ≡ false
and_false true = refl
and_false false = refl

-- what the flag asks of the request's body, by how the body stood when the reply was made
pub keeps_as : (e : Entry) (stands : Body) (refused : Option Error)
    → e.how ≡ how_stands stands refused
    → (wish e.head e.both && not e.left.keep_off && has_reuses e.left.reuses
    && ((is_whole stands && is_none refused) || (not e.left.closing && is_none refused)))
    ≡ may_keep e
keeps_as e (whole payload used) None how = rw how refl
keeps_as e (unfinished payload) None how = rw (how, and_true (not e.left.closing)) refl
keeps_as e (broken payload) None how = rw (how, and_true (not e.left.closing)) refl
keeps_as e stands (Some error) how =
    rw (how, and_false (is_whole stands), and_false (not e.left.closing)) refl

-- the flag of the header is the one that the exchange may have
keep_flag_is : {L C : Type 0} (e : Entry) (session : SessionView L C) (request : Request)
    (reply : Reply) → IsReplied e session request reply
    → keep_flag request.wish session.settings session.body ≡ may_keep e
keep_flag_is e session request reply r =
    ap (λ w. keep_flag w session.settings session.body) r.asked.wish
    ∙ ap (λ s. keep_flag (wish e.head e.both) s session.body) (sym r.left)
    ∙ keeps_as e (reads session.body.reader []) session.body.refused r.how

-- a head has bytes
some_head : (view : ResponseView) → 0 < length (head_bytes view)
some_head view =
    let all : length (head_bytes view)
    ≡ length (print_status_line view ++ print_lines view.fields) + 2 =
    length-append (print_status_line view ++ print_lines view.fields) (13 ∷ 10 ∷ []) in
    omega (arith, all)

-- where nothing is owed any more, what was taken up was written
all_written : (owed taking piece next : List ℕ) → owed ++ taking ≡ piece ++ next → next ≡ []
    → 0 < length taking → 0 < length piece
all_written owed taking piece next bytes none some =
    let all : length (owed ++ taking) ≡ length (piece ++ next) = ap length bytes in
    let no : length next ≡ 0 = ap length none in
    omega (arith, all, no, some, length-append owed taking, length-append piece next)

module _ {L C : Type 0} (state : L → LinkState) (now : ℕ) (old new : SessionView L C) (e : Entry)
    (request : Request) (reply sent : Reply) (outcome : Poll (Result (Unit {0}) Error))
    (text : List ℕ)
    (replied : IsReplied e old request reply)
    (w : WritesHeader state old new request (Some sent.header) now outcome) where
  -- the header is the part that is written
  pub header_part : IsDateAt (now / 1000) text → e.sent_head ≡ None → e.sent_body ≡ None
      → WritesPart state now old new w.taking w.left e
      (taken_up e sent.header now text new)
  header_part dated no_head no_body =
      let bytes : w.taking ≡ head_bytes (reply_head sent.header text new.keep) =
      w.takes.bytes
      ∙ ap (λ x. head_bytes (reply_head sent.header x
      (keep_flag request.wish old.settings old.body)))
      (same_date (now / 1000) w.takes.date text w.takes.is_date dated)
      ∙ ap (λ x. head_bytes (reply_head sent.header text x))
      (sym (ap (λ s. s.keep) w.writes.rest)) in
      record {
        request = request;
        reply = reply;
        replied = replied;
        flag = keep_flag request.wish old.settings old.body;
        writes = w.writes;
        counted = refl;
        extra = head_bytes (reply_head sent.header text new.keep);
        bytes = ap (λ x. w.taking ++ coming x new.reply.writer) no_body ∙ append-nil w.taking
            ∙ bytes ∙ ap (λ x. coming x old.reply.writer
            ++ head_bytes (reply_head sent.header text new.keep)) (sym no_body);
        renders = parts_headed e.head.method e.reply e.sent_body text e.date_text new.keep
            e.keep e.sent_head sent.header no_body no_head;
        head = rw no_head tt;
        body = stays_itself e.sent_body;
        dated = rw no_head refl;
      }

  -- the exchange is allowed with the header that the filters make of the application's
  pub header_allowed : (rules : Rules)
      → IsDateAt (now / 1000) text → now < YEAR_10000 → IsAllowed rules e
      → rules.filters.header e.head reply ≡ Ok sent.header → IsLawful sent.header
      → IsAllowed rules (replying e (taken_up e sent.header now text new))
  header_allowed rules dated moment a made lawful = record {
    filtered = a.filtered;
    reply = a.reply;
    sent_head = (
      reply,
      replied.is,
      made,
      lawful,
      record {
        date = dated;
        limit = omega arith;
        keep = ap (λ s. s.keep) w.writes.rest ∙ keep_flag_is e old request reply replied;
      },
    );
    sent_body = a.sent_body;
    handed = a.handed;
    bound = a.bound;
    reuses = a.reuses;
    owed = λ owed. refl;
    limit = a.limit;
  }

  -- the header is noted where no write was refused
  pub headed_noted : new.reply.refused ≡ None
      → IsHeaded (replying e (taken_up e sent.header now text new)) new sent
  headed_noted refused = record {
    sent_head = refl;
    headed = w.takes.headed;
    keep = refl;
    refused = refused;
    owed = refl;
  }

  -- the body's writer begins
  pub header_begins : new.reply.writer ≡ fresh e sent
  header_begins = w.takes.writer
      ∙ ap (λ head_only. begun (out_to head_only sent.header)) replied.asked.head_only

  -- a header that is written spends of the budget
  pub header_ahead : {J : Type 0} (from : Stage J) → IsSome old.budget → new.reply.owed ≡ []
      → from ≡ at.TakeHeader
      → ahead {J = J} new.budget at.TakeBody < ahead old.budget from
  header_ahead {J} from some none is =
      let wrote : 0 < length w.writes.sent.piece =
      all_written old.reply.owed w.taking w.writes.sent.piece new.reply.owed w.writes.sent.bytes
      none
      (subst (λ xs. 0 < length xs) (sym w.takes.bytes)
      (some_head (reply_head sent.header w.takes.date
      (keep_flag request.wish old.settings old.body)))) in
      subst (λ s. ahead {J = J} new.budget at.TakeBody < ahead old.budget s) (sym is)
      (ahead_wrote {J = J} state old new (keep_flag request.wish old.settings old.body) w.taking
      w.left at.TakeHeader at.TakeBody some w.writes wrote (omega arith))
