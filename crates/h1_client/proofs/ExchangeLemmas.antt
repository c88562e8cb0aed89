-- Each step of a session keeps what the bytes of its exchange are.
use Rattle.std.proofs.Common.{◌≡◌, ℕ, ◌+◌, ◌-◌, List, [], ◌∷◌, ◌++◌, length, take, drop, Bool, true, false, ◌&&◌, ◌==◌, Option, Some, None, is_some, is_none, refl, sym, ap, ◌∙◌, append-nil, append_assoc, length-append, take-append-drop, subst, arith}
use Rattle.std.proofs.lemmas.Bool.{false≢true, eqb-true}
use Rattle.h1_body.proofs.RunLemmas.{ahead-ahead, ahead_none}
use Rattle.h1_body.specs.Payload.{Payload}
use Rattle.h1_transfer.specs.Moved.{Received, Sent}
use Rattle.h1_transfer.specs.Decoding.{ReadsBody}
use Rattle.h1_client.specs.Words.{Body, whole, unfinished, broken, ahead, Framing, framing, body, reads, BodyReader, WriterView, begun, RequestView, ResponseView, request_bytes, LinkState, IsAccepted, is_interim, Outgoing}
use Rattle.h1_client.specs.Exchanges.{AreInterim, IsInterim, IsRequest, IsAnswer}
use Rattle.h1_client.specs.Holds.{Holds}
use Rattle.h1_client.specs.Responses.{framing_to}
use Rattle.h1_client.specs.Reusing.{is_at_end, is_free, is_nothing, is_sent, is_whole}
use Rattle.h1_client.specs.Served.{IsServed}
use Rattle.h1_client.specs.Sound.{Exchanging, AsksSoFar, Asks, AnswersSoFar, Answers}
use Rattle.h1_client.specs.Written.{FitsRequest, WritesSoFar, is_written}
use Rattle.h1_client.proofs.HoldsLemmas.{holds_begin, holds_moves, holds_takes, holds_uses, holds_ends}
use Rattle.h1_client.proofs.WrittenLemmas.{writes_none, writes_whole}

-- nothing is asked or answered yet
pub exchange_new : (s : LinkState) (reader : BodyReader) (out : Outgoing)
    → IsServed s → out.owed ≡ [] → Exchanging s [] None None reader out
exchange_new s reader out served nothing = record {
  asked = [];
  used = [];
  holds = rw nothing (holds_begin s served);
  asks = refl;
  answers = (refl, refl);
}

-- a head is taken up
pub exchange_takes : (s : LinkState) (received : List ℕ)
    (final : Option ResponseView) (reader : BodyReader) (out behind : Outgoing)
    (head : RequestView) (bytes : List ℕ)
    → Exchanging s received None final reader out → out.owed ≡ [] → request_bytes head ≡ Some bytes
    → FitsRequest (framing head) → behind.owed ≡ bytes → behind.writer ≡ begun (framing head)
    → Exchanging s received (Some head) final reader behind
exchange_takes s received final reader out behind head bytes was empty wire fits owed writer =
    let answers = was.answers in
    let holds : Holds s bytes received bytes [] =
    rw (empty, was.asks, answers.0)
    at (holds_takes s out.owed received was.asked was.used bytes was.holds) in
    let begins : Asks (Some head) behind.writer bytes = record {
      front = bytes;
      rest = [];
      parts = sym (append-nil bytes);
      head = wire;
      body = subst (λ w. WritesSoFar (framing head) w []) (sym writer)
          (writes_none (framing head) fits);
    } in
    let none : Answers (Some head) final reader [] =
    subst (λ f. Answers (Some head) f reader []) (sym answers.1) ([], refl) in
    record {
      asked = bytes;
      used = [];
      holds = subst (λ o. Holds s o received bytes []) (sym owed) holds;
      asks = begins;
      answers = none;
    }

-- nothing moves over the link
pub exchange_keeps : (s t : LinkState) (received : List ℕ)
    (request : Option RequestView) (final : Option ResponseView) (reader : BodyReader)
    (out : Outgoing)
    → Exchanging s received request final reader out → t.given ≡ s.given → t.written ≡ s.written
    → Exchanging t received request final reader out
exchange_keeps s t received request final reader out was given written = record {
  asked = was.asked;
  used = was.used;
  holds = rw (given, written) was.holds;
  asks = was.asks;
  answers = was.answers;
}

-- what is owed goes out
pub exchange_sends : (s t : LinkState) (received : List ℕ)
    (request : Option RequestView) (final : Option ResponseView) (reader : BodyReader)
    (out behind : Outgoing) (budget left : ℕ)
    → Exchanging s received request final reader out → Sent s t out.owed behind.owed budget left
    → behind.writer ≡ out.writer → Exchanging t received request final reader behind
exchange_sends s t received request final reader out behind budget left was sent writer = record {
  asked = was.asked;
  used = was.used;
  holds = subst (λ bytes. Holds t behind.owed bytes was.asked was.used) (append-nil received)
      (holds_moves s t behind.owed received was.asked was.used sent.piece [] (budget - left)
      sent.moved (rw sent.bytes at was.holds));
  asks = subst (λ w. Asks request w was.asked) (sym writer) was.asks;
  answers = was.answers;
}

-- the link gave bytes, and the search for a head looked at them
pub exchange_receives : (s t : LinkState) (received new : List ℕ)
    (request : Option RequestView) (reader : BodyReader) (out : Outgoing)
    (budget left : ℕ)
    → Exchanging s received request None reader out → Received s t received new budget left
    → Exchanging t new request None reader out
exchange_receives s t received new request reader out budget left was moves = record {
  asked = was.asked;
  used = was.used;
  holds = subst (λ bytes. Holds t out.owed bytes was.asked was.used) (sym moves.bytes)
      (holds_moves s t out.owed received was.asked was.used [] moves.piece (budget - left)
      moves.moved was.holds);
  asks = was.asks;
  answers = was.answers;
}

interim_on : (heads : List (List ℕ)) (bytes h : List ℕ) → AreInterim heads bytes → IsInterim h
    → AreInterim (heads ++ h ∷ []) (bytes ++ h)
interim_on [] bytes h are is = (is, [], ap (λ front. front ++ h) are ∙ sym (append-nil h), refl)
interim_on (x ∷ heads) bytes h are is = (
  are.0,
  are.1 ++ h,
  ap (λ front. front ++ h) are.2 ∙ append_assoc x are.1 h,
  interim_on heads are.1 h are.3 is,
)

-- an interim head is used
pub exchange_interim : (s : LinkState) (received : List ℕ)
    (request : RequestView) (reader next : BodyReader) (out : Outgoing)
    (said : ResponseView) (n : ℕ)
    → Exchanging s received (Some request) None reader out → IsAccepted (take n received) said
    → is_interim said.status ≡ true
    → Exchanging s (drop n received) (Some request) None next out
exchange_interim s received request reader next out said n was is interim = record {
  asked = was.asked;
  used = was.used ++ take n received;
  holds = holds_uses s out.owed (drop n received) was.asked was.used (take n received)
      (subst (λ bytes. Holds s out.owed bytes was.asked was.used)
      (sym (take-append-drop n received)) was.holds);
  asks = was.asks;
  answers = (
    was.answers.0 ++ take n received ∷ [],
    interim_on was.answers.0 was.used (take n received) was.answers.1 (said, is, interim),
  );
}

-- the final head is used, and its body begins
pub exchange_heads : (s : LinkState) (received : List ℕ)
    (request : RequestView) (reader next : BodyReader) (out : Outgoing)
    (said : ResponseView) (n : ℕ)
    → Exchanging s received (Some request) None reader out → IsAccepted (take n received) said
    → is_interim said.status ≡ false
    → ((rest : List ℕ) → reads next rest ≡ body (framing_to request said) rest)
    → Exchanging s (drop n received) (Some request) (Some said) next out
exchange_heads s received request reader next out said n was is final begins = record {
  asked = was.asked;
  used = was.used ++ take n received;
  holds = holds_uses s out.owed (drop n received) was.asked was.used (take n received)
      (subst (λ bytes. Holds s out.owed bytes was.asked was.used)
      (sym (take-append-drop n received)) was.holds);
  asks = was.asks;
  answers = record {
    heads = was.answers.0;
    interim = was.used;
    front = take n received;
    rest = [];
    parts = ap (λ bytes. was.used ++ bytes) (sym (append-nil (take n received)));
    before = was.answers.1;
    head = is;
    final = final;
    payload = [];
    reads_on = λ more. sym (begins more) ∙ sym (ahead_none (reads next more));
  };
}

reads_further : (f : Framing) (reader next : BodyReader) (rest used front payload : List ℕ)
    → ((more : List ℕ) → body f (rest ++ more) ≡ ahead front (length rest) (reads reader more))
    → ((more : List ℕ) → reads reader (used ++ more) ≡ ahead payload (length used) (reads next more))
    → (more : List ℕ) → body f ((rest ++ used) ++ more)
    ≡ ahead (front ++ payload) (length (rest ++ used)) (reads next more)
reads_further f reader next rest used front payload first second more =
    ap (λ bytes. body f bytes) (append_assoc rest used more) ∙ first (used ++ more)
    ∙ ap (λ b. ahead front (length rest) b) (second more)
    ∙ ahead-ahead front payload (length rest) (length used) (reads next more)
    ∙ ap (λ n. ahead (front ++ payload) n (reads next more)) (sym (length-append rest used))

-- a part of the body is used
pub exchange_reads : (s t : LinkState) (received new : List ℕ)
    (request : Option RequestView) (final : Option ResponseView) (reader next : BodyReader)
    (out : Outgoing) (kept keeps : Option Payload) (budget left : ℕ)
    (payload : List ℕ)
    → Exchanging s received request final reader out → is_some request ≡ true → is_some final ≡ true
    → ReadsBody s t received new reader next kept keeps budget left payload
    → Exchanging t new request final next out
exchange_reads s t received new None final reader next out kept keeps budget left payload was begun read moves =
    absurd (false≢true begun)
exchange_reads s t received new (Some request) None reader next out kept keeps budget left payload was begun read moves =
    absurd (false≢true read)
exchange_reads s t received new (Some request) (Some said) reader next out kept keeps budget left payload was begun read moves =
    let so_far = was.answers in
    let came = moves.received in
    let holds : Holds t out.owed (moves.used ++ new) was.asked was.used =
    subst (λ bytes. Holds t out.owed bytes was.asked was.used) (sym came.bytes)
    (holds_moves s t out.owed received was.asked was.used [] came.piece (budget - left)
    came.moved was.holds) in
    record {
      asked = was.asked;
      used = was.used ++ moves.used;
      holds = holds_uses t out.owed new was.asked was.used moves.used holds;
      asks = was.asks;
      answers = record {
        heads = so_far.heads;
        interim = so_far.interim;
        front = so_far.front;
        rest = so_far.rest ++ moves.used;
        parts = ap (λ bytes. bytes ++ moves.used) so_far.parts
            ∙ append_assoc so_far.interim (so_far.front ++ so_far.rest) moves.used
            ∙ ap (λ bytes. so_far.interim ++ bytes) (append_assoc so_far.front so_far.rest moves.used);
        before = so_far.before;
        head = so_far.head;
        final = so_far.final;
        payload = so_far.payload ++ payload;
        reads_on = reads_further (framing_to request said) reader next so_far.rest moves.used
            so_far.payload payload so_far.reads_on moves.decoded.reads;
      };
    }

pub head_of_and : (a b : Bool) → (a && b) ≡ true → (a ≡ true) × (b ≡ true)
head_of_and true true is = (refl, refl)
head_of_and true false is = absurd (false≢true is)
head_of_and false b is = absurd (false≢true is)

pub no_bytes : (bytes : List ℕ) → is_nothing bytes ≡ true → bytes ≡ []
no_bytes [] is = refl
no_bytes (b ∷ bytes) is = absurd (false≢true is)

whole_now : (b : Body) → is_whole b ≡ true → b ≡ whole [] 0
whole_now (whole payload n) is =
    let both = head_of_and (is_nothing payload) (n == 0) is in
    let zero_is : n ≡ 0 = eqb-true n 0 both.1 in
    rw (no_bytes payload both.0, zero_is) refl
whole_now (unfinished payload) is = absurd (false≢true is)
whole_now (broken payload) is = absurd (false≢true is)

asked_whole : (request : RequestView) (writer : WriterView) (bytes : List ℕ)
    → AsksSoFar request writer bytes → is_written writer ≡ true → IsRequest request bytes
asked_whole request writer bytes asks done =
    let all = writes_whole (framing request) writer asks.rest done asks.body in
    record {
      front = asks.front;
      rest = asks.rest;
      parts = asks.parts;
      head = asks.head;
      payload = all.0;
      whole_body = all.1;
    }

answered_whole : (request : RequestView) (said : ResponseView) (reader : BodyReader) (bytes : List ℕ)
    → AnswersSoFar request said reader bytes → reads reader [] ≡ whole [] 0
    → (said.status == 101) ≡ false → IsAnswer request bytes
answered_whole request said reader bytes so_far ended http = record {
  heads = so_far.heads;
  interim = so_far.interim;
  last = so_far.front ++ so_far.rest;
  parts = so_far.parts;
  before = so_far.before;
  said = said;
  response = record {
    front = so_far.front;
    rest = so_far.rest;
    parts = refl;
    head = so_far.head;
    payload = so_far.payload;
    whole_body =
        let none : length so_far.rest + 0 ≡ length so_far.rest = omega arith in
        ap (λ bytes. body (framing_to request said) bytes) (sym (append-nil so_far.rest))
        ∙ so_far.reads_on []
        ∙ ap (λ b. ahead so_far.payload (length so_far.rest) b) ended
        ∙ ap (λ n. whole (so_far.payload ++ []) n) none
        ∙ ap (λ payload. whole payload (length so_far.rest)) (append-nil so_far.payload);
  };
  final = so_far.final;
  stays = http;
}

-- the whole exchange is behind the others
pub exchange_ends : (s : LinkState) (received : List ℕ) (request : RequestView) (said : ResponseView)
    (reader : BodyReader) (out : Outgoing)
    → Exchanging s received (Some request) (Some said) reader out → (said.status == 101) ≡ false
    → (is_sent out && is_at_end reader && is_nothing received) ≡ true → IsServed s
exchange_ends s received request said reader out was http is =
    let b = head_of_and (is_sent out && is_at_end reader) (is_nothing received) is in
    let a = head_of_and (is_sent out) (is_at_end reader) b.0 in
    let d = head_of_and (is_free out.step && is_none out.refused && is_nothing out.owed) (is_written out.writer) a.0 in
    let c = head_of_and (is_free out.step && is_none out.refused) (is_nothing out.owed) d.0 in
    let owed : out.owed ≡ [] = no_bytes out.owed c.1 in
    let empty : received ≡ [] = no_bytes received b.1 in
    let ended : reads reader [] ≡ whole [] 0 = whole_now (reads reader []) a.1 in
    holds_ends s (record { head = request; request = was.asked; response = was.used })
    (record {
      asks = asked_whole request out.writer was.asked was.asks d.1;
      answers = answered_whole request said reader was.used was.answers ended http;
    })
    (rw (owed, empty) at was.holds)
