-- A call that writes a part of a reply, and what its exchange notes of it.
use Rattle.std.proofs.Common.{Bool, IfSome, List, None, Option, Some, [], ap, append-nil, append_assoc, arith, length, length-append, min, refl, sym, ℕ, ◌++◌, ◌+◌, ◌-◌, ◌^◌, ◌∙◌, ◌≡◌}
use Rattle.h1_app.specs.Words.{BodyState, Entry, Failed, Grows, How, LinkState, Moved, Open, Reply, Request, ResponseView, RoseBy, SessionView, Stays, Whole, Writes, allowance, render, written_of, payload_in}
use Rattle.h1_link.proofs.Laters.{later_on}
use Rattle.h1_transcript.proofs.BehindLemmas.{flushed_on, read_same, wrote_on}
use Rattle.h1_transcript.proofs.GrowthLemmas.{dated_same, refused_same, replied_same, stays_itself, stays_with_itself}
use Rattle.h1_transcript.specs.Growth.{DatedAt}
use Rattle.h1_app.proofs.AccountedLemmas.{stopped_on}
use Rattle.h1_app.proofs.Words.{Accounted, IsReplied, ReadSo, SettledSo, StoodSo, WroteSo, coming}

-- what an exchange notes of its reply
pub record Part : Type 0 where
  pub head : Option ResponseView
  pub body : Option (List ℕ)
  pub date : ℕ
  pub text : List ℕ
  pub keep : Bool
  pub owed : Bool
  pub written : ℕ

-- an exchange with another reply
abbrev pub replying : Entry → Part → Entry
replying e p =
    record e {
      sent_head = p.head;
      sent_body = p.body;
      date = p.date;
      date_text = p.text;
      keep = p.keep;
      owed = p.owed;
      written = p.written;
    }

-- the same reply, of which more is written
abbrev pub more_of : Entry → Bool → ℕ → Part
more_of e owed written =
    record {
      head = e.sent_head;
      body = e.sent_body;
      date = e.date;
      text = e.date_text;
      keep = e.keep;
      owed = owed;
      written = written;
    }

-- a call writes a part of the reply, and the exchange notes it
pub record WritesPart {L C : Type 0} (state : L → LinkState) (now : ℕ) (old new : SessionView L C)
    (taking : List ℕ) (left : ℕ) (e : Entry) (p : Part) : Type 0 where
  pub request : Request
  pub reply : Reply
  pub replied : IsReplied e old request reply
  -- the flag of the header is noted as it is taken up
  pub flag : Bool
  pub writes : Writes state (record old { keep = flag }) new taking left
  pub counted : p.written ≡ new.reply.sent
  -- the reply grows by what is taken up
  pub extra : List ℕ
  pub bytes : taking ++ coming p.body new.reply.writer
      ≡ coming e.sent_body old.reply.writer ++ extra
  pub renders : render (replying e p) ≡ render e ++ extra
  -- what was taken up before stays
  pub head : Stays e.sent_head p.head
  pub body : Stays e.sent_body p.body
  pub dated : DatedAt now e.sent_head e (replying e p)

-- how the body stood when the application replied stays
stood_so : (reply : Option Reply) (how : How) (e : Entry) (p : Part) (body : BodyState)
    → IfSome reply (λ reply. StoodSo how e body)
    → IfSome reply (λ reply. StoodSo how (replying e p) body)
stood_so None how e p body h = tt
stood_so (Some reply) Whole e p body h = h
stood_so (Some reply) Open e p body h = h
stood_so (Some reply) Failed e p body h = h

-- bytes that were owed, or are taken up, are written in front
pub join : (since piece owed next taking before behind whole extra : List ℕ)
    → owed ++ taking ≡ piece ++ next → taking ++ behind ≡ before ++ extra
    → since ++ owed ++ before ≡ whole → since ++ piece ++ next ++ behind ≡ whole ++ extra
join since piece owed next taking before behind whole extra moved takes is =
    append_assoc (since ++ piece) next behind ∙ append_assoc since piece (next ++ behind)
    ∙ ap (λ xs. since ++ xs) (sym (append_assoc piece next behind) ∙ ap (λ xs. xs ++ behind)
    (sym moved)
    ∙ append_assoc owed taking behind ∙ ap (λ xs. owed ++ xs) takes ∙ sym
    (append_assoc owed before extra))
    ∙ sym (append_assoc since (owed ++ before) extra) ∙ ap (λ xs. xs ++ extra)
    (sym (append_assoc since owed before) ∙ is)

-- the count of what was written goes on
count_on : (old new by all more : ℕ) → new ≡ min (old + by) (2 ^ 64 - 1)
    → old ≡ min all (2 ^ 64 - 1) → more ≡ all + by → new ≡ min more (2 ^ 64 - 1)
count_on old new by all more counted is e = omega arith

rose_on : (front old new by before mid now : ℕ) → new ≡ min (old + by) (2 ^ 64 - 1)
    → RoseBy (front + old) before mid → RoseBy by mid now → RoseBy (front + new) before now
rose_on front old new by before mid now counted one two = omega arith

-- a call that writes a part goes on with what was read and written since
pub part_accounted : {L C : Type 0} (state : L → LinkState) (now : ℕ) (before : LinkState)
    (done : List Entry) (old new : SessionView L C) (taking : List ℕ) (left : ℕ) (e : Entry)
    (p : Part)
    → WritesPart state now old new taking left e p
    → (RoseBy (written_of done + new.reply.sent) before.bytes_out (state new.link).bytes_out
    → SettledSo before (state new.link) done (Some (replying e p)))
    → Accounted state before old done (Some e)
    → Accounted state before new done (Some (replying e p))
part_accounted {L} {C} state now before done old new taking left e p part settled s =
    let w : Writes state (record old { keep = part.flag }) new taking left = part.writes in
    let f : Entry = replying e p in
    let moved : Moved (state old.link) (state new.link) [] w.sent.piece
    (allowance old.budget - left) = w.sent.moved in
    let rose : RoseBy (written_of done + new.reply.sent) before.bytes_out
    (state new.link).bytes_out =
    rose_on (written_of done) old.reply.sent new.reply.sent (length w.sent.piece) before.bytes_out
    (state old.link).bytes_out (state new.link).bytes_out w.counted s.out moved.out in
    record {
      later = later_on before (state old.link) (state new.link) s.later moved.later;
      read = read_same done before.given (state old.link).given (state new.link).given
          (λ rest. ReadSo rest old (Some e)) (λ rest. ReadSo rest new (Some f))
          moved.given (λ rest h. record {
            n = h.n;
            used = h.used;
            head = h.head;
            bytes = h.bytes ∙ ap
                (λ xs. h.used ++ xs) (sym (ap (λ s. s.received) w.rest));
            decoded = rw (ap (λ s. s.body) w.rest) h.decoded;
            stood = rw (ap (λ s. s.body) w.rest)
                (stood_so e.reply e.how e p old.body h.stood);
          }) s.read;
      wrote = wrote_on done before.written (state old.link).written (state new.link).written
          w.sent.piece
          (λ rest. WroteSo rest old (Some e)
          × (old.reply.sent ≡ min (length rest) (2 ^ 64 - 1)))
          (λ rest. WroteSo rest new (Some f)
          × (new.reply.sent ≡ min (length rest) (2 ^ 64 - 1)))
          moved.written
          (λ rest h. (
            join rest w.sent.piece old.reply.owed new.reply.owed taking
                (coming e.sent_body old.reply.writer) (coming p.body new.reply.writer) (render e)
                part.extra w.sent.bytes part.bytes h.0 ∙ sym part.renders,
            count_on old.reply.sent new.reply.sent (length w.sent.piece) (length rest) _ w.counted
                h.1 (length-append rest w.sent.piece),
          )) s.wrote;
      stopped = stopped_on state old new (payload_in e) e.body_error (ap (λ s. s.body) w.rest)
          (ap (λ s. s.received) w.rest) moved.later s.stopped;
      flushed = flushed_on before (state old.link) (state new.link) 0 done moved.later.flushed
          s.flushed;
      settled = settled rose;
      out = rose;
    }

-- an exchange grows by its reply
pub part_grows : {L C : Type 0} (state : L → LinkState) (now : ℕ) (old new : SessionView L C)
    (taking : List ℕ) (left : ℕ) (e : Entry) (p : Part)
    → WritesPart state now old new taking left e p
    → Grows now (state old.link) (state new.link) e (replying e p)
part_grows state now old new taking left e p w = record {
  holding = refl;
  head = refl;
  both = refl;
  filtered = stays_itself e.filtered;
  body = ([], sym (append-nil e.body));
  handed = omega arith;
  body_error = stays_itself e.body_error;
  refused = refused_same (state old.link) (state new.link) e.body_error;
  read_limit = stays_with_itself e.body_error e.read_limit;
  reply = stays_itself e.reply;
  replied = replied_same e.reply e _ refl refl refl refl;
  sent_head = w.head;
  dated = w.dated;
  sent_body = w.body;
  written = omega
      (arith, w.writes.counted, w.counted, w.replied.asked.written, w.replied.asked.limit);
  began = refl;
}

-- a reply that is being written stays the application's
pub part_replied : {L C : Type 0} (state : L → LinkState) (now : ℕ) (old new : SessionView L C)
    (taking : List ℕ) (left : ℕ) (e : Entry) (p : Part) (request : Request) (reply : Reply)
    → WritesPart state now old new taking left e p → IsReplied e old request reply
    → IsReplied (replying e p) new request reply
part_replied state now old new taking left e p request reply w r =
    let rest = w.writes.rest in
    record {
      asked = record {
        is = (ap (λ s. s.request) rest) ∙ r.asked.is;
        filtered = r.asked.filtered;
        head_only = r.asked.head_only;
        both = r.asked.both;
        wish = r.asked.wish;
        reuses = rw (ap (λ s. s.settings) rest) r.asked.reuses;
        body_error = rw (ap (λ s. s.body) rest) r.asked.body_error;
        read_limit = r.asked.read_limit ∙ sym (ap (λ s. s.read_limit) rest);
        handed = r.asked.handed;
        kept = rw (ap (λ s. s.body) rest) r.asked.kept;
        waits = rw (ap (λ s. s.body) rest) r.asked.waits;
        undrained = rw (ap (λ s. s.body) rest) r.asked.undrained;
        written = w.counted;
        limit = omega (arith, w.writes.counted, w.counted);
      };
      is = r.is;
      how = rw (ap (λ s. s.body) rest) r.how;
      left = r.left ∙ sym (ap (λ s. s.settings) rest);
    }

-- a call that takes up no more of the reply than it shows already
pub more_part : {L C : Type 0} (state : L → LinkState) (now : ℕ) (old new : SessionView L C)
    (e : Entry) (owed : Bool) (written : ℕ) (request : Request) (reply : Reply) (taking : List ℕ)
    (left : ℕ)
    → IsReplied e old request reply → Writes state old new taking left
    → taking ++ coming e.sent_body new.reply.writer ≡ coming e.sent_body old.reply.writer
    → written ≡ new.reply.sent → WritesPart state now old new taking left e (more_of e owed written)
more_part state now old new e owed written request reply taking left replied w bytes count =
    record {
      request = request;
      reply = reply;
      replied = replied;
      flag = old.keep;
      writes = w;
      counted = count;
      extra = [];
      bytes = bytes ∙ sym (append-nil (coming e.sent_body old.reply.writer));
      renders = sym (append-nil (render e));
      head = stays_itself e.sent_head;
      body = stays_itself e.sent_body;
      dated = dated_same now e.sent_head e _ refl refl refl refl refl;
    }
