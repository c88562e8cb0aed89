-- The reply's body is taken up.
use Rattle.std.proofs.Common.{Bool, List, None, Option, Some, [], ap, append-nil, arith, false, is_some, min, not, option_map, refl, sym, take, true, ℕ, ◌++◌, ◌+◌, ◌-◌, ◌<◌, ◌^◌, ◌∙◌, ◌≡◌}
use Rattle.std.proofs.Math.Seq.{take-nil}
use Rattle.std.proofs.lemmas.Bool.{false≢true}
use Rattle.h1_app.specs.Words.{Entry, Framing, LinkState, Reply, Request, ResponseView, SessionView, WriterView, Writes, after_piece, allowance, begun, end_bytes, head_bytes, out, render_parts, reply_head}
use Rattle.h1_body.specs.Writer.{body_bytes, piece_bytes}
use Rattle.h1_transfer.proofs.MovedLemmas.{moved_itself}
use Rattle.h1_app.proofs.PartLemmas.{WritesPart, more_of}
use Rattle.h1_transcript.proofs.GrowthLemmas.{dated_same, stays_itself}
use Rattle.h1_app.proofs.Words.{IsPieceOf, IsReplied, coming, filled, fresh, going}
use Rattle.h1_body.specs.declared.framing.Framing.TheVariants as framing

-- one piece and the end are the whole body
one_piece : (f : Framing) (payload : List ℕ)
    → piece_bytes (begun f) payload ++ end_bytes (after_piece (begun f) payload) ≡ body_bytes f
    payload
one_piece (framing.Counted n) payload =
    let same : n - 0 ≡ n = omega arith in
    append-nil (take (n - 0) payload) ∙ ap (λ k. take k payload) same
one_piece framing.Chunked payload = refl
one_piece framing.UntilClose payload = append-nil payload

-- an empty piece leaves the writer as it was
no_piece : (f : Framing) → after_piece (begun f) [] ≡ begun f
no_piece (framing.Counted n) = rw take-nil refl
no_piece framing.Chunked = refl
no_piece framing.UntilClose = refl

no_piece_bytes : (f : Framing) → piece_bytes (begun f) [] ≡ []
no_piece_bytes (framing.Counted n) = take-nil (n - 0)
no_piece_bytes framing.Chunked = refl
no_piece_bytes framing.UntilClose = refl

-- the body stands after the head
parts_bodied : (method : List ℕ) (r : Option Reply) (b : Option (List ℕ)) (date : List ℕ)
    (keep : Bool) (h : Option ResponseView) (reply : Reply) (bytes : List ℕ)
    (header : ResponseView)
    → r ≡ Some reply → b ≡ None → h ≡ Some header
    → render_parts method r (Some bytes) date keep h ≡ render_parts method r b date keep h
    ++ body_bytes (out method header) (going reply bytes)
parts_bodied method r b date keep h reply bytes header is none headed =
    let head : List ℕ = head_bytes (reply_head header date keep) in
    let all : head ++ body_bytes (out method header) (going reply bytes)
    ≡ (head ++ []) ++ body_bytes (out method header) (going reply bytes) =
    ap (λ xs. xs ++ body_bytes (out method header) (going reply bytes)) (sym (append-nil head)) in
    rw (is, none, headed) all

-- a body of which this is noted is taken up as one piece of what goes out, or as none where that is
-- empty
pub body_part : {L C : Type 0} (state : L → LinkState) (now : ℕ) (old new : SessionView L C)
    (e : Entry) (request : Request) (reply sent : Reply) (bytes taking : List ℕ) (left written : ℕ)
    → IsReplied e old request reply → e.sent_head ≡ Some sent.header → e.sent_body ≡ None
    → sent.body ≡ going reply bytes → Writes state old new taking left
    → taking ≡ piece_bytes (fresh e sent) sent.body → new.reply.writer ≡ filled e sent
    → written ≡ new.reply.sent → WritesPart state now old new taking left e
    (record (more_of e e.owed written) { body = Some bytes })
body_part state now old new e request reply sent bytes taking left written replied headed none goes
    w takes writer count =
    let f : Framing = out e.head.method sent.header in
    record {
      request = request;
      reply = reply;
      replied = replied;
      flag = old.keep;
      writes = w;
      counted = count;
      extra = body_bytes f (going reply bytes);
      bytes = ap (λ xs. xs ++ end_bytes new.reply.writer) takes
          ∙ ap (λ x. piece_bytes (begun f) sent.body ++ end_bytes x) writer
          ∙ one_piece f sent.body
          ∙ ap (λ xs. body_bytes f xs) goes
          ∙ ap (λ x. coming x old.reply.writer ++ body_bytes f (going reply bytes)) (sym none);
      renders = parts_bodied e.head.method e.reply e.sent_body e.date_text e.keep e.sent_head reply
          bytes sent.header replied.is none headed;
      head = stays_itself e.sent_head;
      body = rw none tt;
      dated = dated_same now e.sent_head e _ refl refl refl refl refl;
    }

-- a call that wrote nothing, and at most ended the body
pub writes_nothing : {L C : Type 0} (state : L → LinkState) (session : SessionView L C)
    (writer : WriterView) → session.reply.sent < 2 ^ 64
    → Writes state session (record session { reply = record session.reply { writer = writer } }) []
    (allowance session.budget)
writes_nothing state session writer limit = record {
  sent = record {
    piece = [];
    moved = let spent : allowance session.budget - allowance session.budget ≡ 0 = omega arith in
        rw spent (moved_itself (state session.link));
    bytes = append-nil session.reply.owed;
    within = omega arith;
    unread = refl;
  };
  budget = same session.budget;
  rest = refl;
  counted = none session.reply.sent limit;
}
  where
    same : (budget : Option ℕ) → budget ≡ option_map (λ _. allowance budget) budget
    same None = refl
    same (Some left) = refl

    none : (sent : ℕ) → sent < 2 ^ 64 → sent ≡ min (sent + 0) (2 ^ 64 - 1)
    none sent limit = omega arith

-- where nothing goes out, it is taken up with no call
pub empty_part : {L C : Type 0} (state : L → LinkState) (now : ℕ) (session : SessionView L C)
    (e : Entry) (request : Request) (reply sent : Reply) (bytes : List ℕ)
    → IsReplied e session request reply → e.sent_head ≡ Some sent.header → e.sent_body ≡ None
    → sent.body ≡ going reply bytes → session.reply.writer ≡ fresh e sent → sent.body ≡ []
    → WritesPart state now session session [] (allowance session.budget) e
    (record (more_of e e.owed e.written) { body = Some bytes })
    × (session.reply.writer ≡ filled e sent)
empty_part state now session e request reply sent bytes replied headed none goes writer empty =
    let filled_is : session.reply.writer ≡ filled e sent =
    writer ∙ sym (ap (λ xs. after_piece (fresh e sent) xs) empty
    ∙ no_piece (out e.head.method sent.header)) in (
      body_part state now session session e request reply sent bytes [] (allowance session.budget)
          e.written replied headed none goes
          (writes_nothing state session session.reply.writer
          (omega (arith, replied.asked.written, replied.asked.limit)))
          (sym (ap (λ xs. piece_bytes (fresh e sent) xs) empty
          ∙ no_piece_bytes (out e.head.method sent.header)))
          filled_is replied.asked.written,
      filled_is,
    )

-- an empty body is no piece
pub empty_body : (body : List ℕ) (piece : Option (List ℕ)) (none : Bool) → IsPieceOf body piece
    → is_some piece ≡ not none → none ≡ true → body ≡ []
empty_body body None none h is true_is = h
empty_body body (Some piece) none h is true_is = absurd (false≢true (ap not (sym true_is) ∙ sym is))

-- and a body with bytes is one
pub some_body : (body : List ℕ) (piece : Option (List ℕ)) (none : Bool) → IsPieceOf body piece
    → is_some piece ≡ not none → none ≡ false → piece ≡ Some body
some_body body None none h is false_is = absurd (false≢true (is ∙ ap not false_is))
some_body body (Some piece) none h is false_is = ap Some h.0
