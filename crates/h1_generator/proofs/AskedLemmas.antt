-- The exchanges over bytes that are made are for the requests that are made.
use Rattle.h1_words.specs.declared.words.TheConstants.{MOST_GENERATED}
use Rattle.h1_generator.specs.Messages.{message_of, messages}
use Rattle.std.specs.List.{AllByRecursion}
use Rattle.h1_transcript.specs.Complete.{Fits}
use Rattle.std.proofs.Common.{◌≡◌, ℕ, zero, suc, ◌+◌, ◌<◌, ◌≤◌, ◌^◌, ◌%◌, List, [], ◌∷◌, ◌++◌, length, drop, sym, ◌∙◌, ap, subst, arith, length-append, false, Option, Some, None, IfSome, IsSome, map}
use Rattle.std.proofs.lemmas.List.{length-replicate, drop-append-le}
use Rattle.h1_link.specs.LinkState.{LinkState}
use Rattle.h1_head.specs.RequestHead.{HeadAt}
use Rattle.h1_head.specs.Views.{RequestView}
use Rattle.h1_head.proofs.RequestHeadLemmas.{HeadAt-append, HeadAt-unique}
use Rattle.h1_body.specs.Body.{Body, whole, payload_of}
use Rattle.h1_body.specs.Framing.{framing}
use Rattle.h1_body.specs.Laws.{GrowsTo}
use Rattle.h1_body.specs.Reader.{body}
use Rattle.h1_body.specs.Writer.{body_bytes}
use Rattle.h1_body.proofs.LawLemmas.{bodies_grow}
use Rattle.h1_transcript.specs.Agrees.{AreOf}
use Rattle.h1_transcript.specs.Stream.{Message, Begins, BehindBody}
use Rattle.h1_transcript.specs.Entry.{Entry}
use Rattle.h1_transcript.specs.declared.entry.How.TheVariants.{Failed}
use Rattle.h1_transcript.specs.declared.reply.Reply.{Reply}
use Rattle.h1_transcript.specs.Behind.{StoodAs}
use Rattle.h1_transcript.proofs.BehindLemmas.{whole_stays, whole_within}
use Rattle.h1_transcript.proofs.CompleteLemmas.{no_head, payload_within}
use Rattle.h1_generator.specs.Generated.{form_of, asked, asked_as, head_of, print_head, print_asked, generated_from, asked_from}
use Rattle.h1_generator.specs.declared.generator.Form.{Form}
use Rattle.h1_generator.specs.declared.generator.Form.TheVariants.{Plain, Counted, Chunked}
use Rattle.h1_generator.proofs.ValidLemmas.{front_of}

-- The exchange is for the request with this number. Its body was refused where the application
-- replied to one that failed.
pub record IsAskedBy (number : ℕ) (e : Entry) : Type 0 where
  pub head : e.head ≡ head_of (asked number)
  pub both : e.both ≡ false
  pub body : length e.body < 7
  pub stood : IfSome e.reply (λ reply. e.how ≡ Failed → IsSome e.body_error)

-- the exchanges are for requests from this number on, of which there are so many
abbrev pub AreAskedFrom : ℕ → ℕ → List Entry → Type 0
AreAskedFrom number count [] = Unit {0}
AreAskedFrom number zero (e ∷ more) = ⊥
AreAskedFrom number (suc count) (e ∷ more) =
    IsAskedBy number e × AreAskedFrom (number + 1) count more

stood_so : (e : Entry) (body : Body) (reply : Option Reply)
    → IfSome reply (λ reply. StoodAs e.how e body)
    → IfSome reply (λ reply. e.how ≡ Failed → IsSome e.body_error)
stood_so e body None h = tt
stood_so e body (Some reply) h = λ failed. subst (λ how. StoodAs how e body) failed h

-- a request has few bytes of payload
pub few_bytes : (form : Form) (number size : ℕ) → size < 7
    → length (asked_as form number size).payload < 7
few_bytes Plain number size few = omega arith
few_bytes Counted number size few = omega (arith, length-replicate {A = ℕ} size 97)
few_bytes Chunked number size few = omega (arith, length-replicate {A = ℕ} size 98)

few_from : (count number limit : ℕ) → number + count < 2 ^ 64 → 7 ≤ limit
    → AllByRecursion (Fits limit) (map message_of (asked_from number count))
few_from zero number limit small roomy = tt
few_from (suc count) number limit small roomy = (
  (let few = few_bytes (form_of number) number (number % 7) (omega arith) in omega (arith, few, roomy)),
  few_from count (number + 1) limit (omega (arith, small)) roomy,
)

-- each request that is made fits
pub all_fit : (count limit : ℕ) → count ≤ MOST_GENERATED → 7 ≤ limit
    → AllByRecursion (Fits limit) (messages count)
all_fit count limit few roomy = few_from count 1 limit (omega arith) roomy

-- the first request that begins in a front of the bytes is the first that was made, and more of its
-- payload may follow
record First (number : ℕ) (since rest all : List ℕ) (m : Message) (n : ℕ) : Type 0 where
  head : m.head ≡ head_of (asked number)
  both : m.both ≡ false
  payload : length (payload_of m.body) < 7
  split : drop n (since ++ all) ≡ drop n since ++ all
  read : body (framing m.head) (drop n since ++ all)
      ≡ whole (asked number).payload
      (length (body_bytes (asked number).framing (asked number).payload))
  behind : drop (length (body_bytes (asked number).framing (asked number).payload))
      (drop n since ++ all) ≡ rest

first_of : (number : ℕ) (since rest all : List ℕ) (m : Message) (n : ℕ) → number < 2 ^ 64
    → HeadAt since n m.head m.both → body (framing m.head) (drop n since) ≡ m.body
    → since ++ all ≡ print_asked (asked number) ++ rest → First number since rest all m n
first_of number since rest all m n small at is same =
    let a = asked number in
    let front = front_of (form_of number) number (number % 7) rest small (omega arith) in
    let here : HeadAt (print_asked a ++ rest) n m.head m.both =
    subst (λ xs. HeadAt xs n m.head m.both) same (HeadAt-append since all n m.head m.both at) in
    let one =
    HeadAt-unique (print_asked a ++ rest) n (length (print_head a)) m.head
    (head_of a) m.both false here front.head in
    let split : drop n (since ++ all) ≡ drop n since ++ all =
    drop-append-le n since all at.cuts.within in
    let after : drop n since ++ all ≡ drop (length (print_head a)) (print_asked a ++ rest) =
    sym split ∙ ap (drop n) same ∙ ap (λ k. drop k (print_asked a ++ rest)) one.0 in
    let read : body (framing m.head) (drop n since ++ all)
    ≡ whole a.payload (length (body_bytes a.framing a.payload)) =
    ap (body (framing m.head)) after
    ∙ ap (λ (h : RequestView). body (framing h)
    (drop (length (print_head a)) (print_asked a ++ rest))) one.1 ∙ front.read in
    let grown : GrowsTo m.body (body (framing m.head) (drop n since ++ all)) =
    subst (λ b. GrowsTo b (body (framing m.head) (drop n since ++ all))) is
    (bodies_grow (framing m.head) (drop n since) all) in
    let within = payload_within m.body (body (framing m.head) (drop n since ++ all)) grown in
    let whole_len : length (payload_of (body (framing m.head) (drop n since ++ all)))
    ≡ length a.payload = ap (λ b. length (payload_of b)) read in
    record {
      head = one.1;
      both = one.2;
      payload =
          omega (
            arith,
            within,
            whole_len,
            few_bytes (form_of number) number (number % 7)
                (omega arith),
          );
      split = split;
      read = read;
      behind = ap (drop (length (body_bytes a.framing a.payload))) after ∙ front.behind;
    }

same_use : {front other : List ℕ} {i k : ℕ} → whole front i ≡ whole other k → i ≡ k
same_use e = cc

-- no request begins in no bytes
none_begins : (since all : List ℕ) (n : ℕ) (m : Message) → since ++ all ≡ []
    → HeadAt since n m.head m.both → ⊥
none_begins since all n m none at =
    no_head (since ++ all) n m.head m.both none (HeadAt-append since all n m.head m.both at)

-- the exchanges that read a front of these bytes are for these requests
pub asked_for : (now : LinkState) (transcript : List Entry) (read : List Message) (count number : ℕ)
    (since all : List ℕ)
    → number + count < 2 ^ 64 → Begins since read → AreOf now transcript read
    → since ++ all ≡ generated_from number count → AreAskedFrom number count transcript
asked_for now [] read count number since all small b a same = tt
asked_for now (e ∷ []) [] count number since all small b a same = absurd a
asked_for now (e ∷ f ∷ later) [] count number since all small b a same = absurd a
asked_for now (e ∷ []) (m ∷ n ∷ more) count number since all small b a same = absurd a
asked_for now (e ∷ []) (m ∷ []) zero number since all small b a same =
    none_begins since all b.0 m same b.1
asked_for now (e ∷ []) (m ∷ []) (suc count) number since all small b a same =
    let first =
    first_of number since (generated_from (number + 1) count) all m b.0
    (omega (arith, small)) b.1 b.2 same in
    let part = ap length a.2.1 in (
      record {
        head = a.0 ∙ first.head;
        both = a.1 ∙ first.both;
        body = omega (arith, part, first.payload, length-append e.body a.2.0);
        stood = stood_so e m.body e.reply a.3.replied;
      },
      tt,
    )
asked_for now (e ∷ f ∷ later) (m ∷ more) zero number since all small b a same =
    absurd (none_begins since all b.0 m same b.1)
asked_for now (e ∷ f ∷ later) (m ∷ more) (suc count) number since all small b a same =
    let rest = generated_from (number + 1) count in
    let first = first_of number since rest all m b.0 (omega (arith, small)) b.1 b.2 same in
    let used = a.2.0 in
    let read : body (framing m.head) (drop b.0 since) ≡ whole e.body used = b.2 ∙ a.2.1 in
    let stays = whole_stays (framing m.head) (drop b.0 since) all e.body used read in
    let one = same_use (sym stays ∙ first.read) in
    let within = whole_within (framing m.head) (drop b.0 since) e.body used read in
    let behind : BehindBody (whole e.body used) (λ k. Begins (drop k (drop b.0 since)) more)
    (more ≡ []) =
    subst (λ x. BehindBody x (λ k. Begins (drop k (drop b.0 since)) more) (more ≡ [])) a.2.1 b.3 in
    let next : drop used (drop b.0 since) ++ all ≡ rest =
    sym (drop-append-le used (drop b.0 since) all within)
    ∙ ap (λ k. drop k (drop b.0 since ++ all)) one ∙ first.behind in
    let part : length (payload_of m.body) ≡ length e.body =
    ap (λ b. length (payload_of b)) a.2.1 in (
      record {
        head = a.0 ∙ first.head;
        both = a.1 ∙ first.both;
        body = omega (arith, part, first.payload);
        stood = stood_so e m.body e.reply a.3.replied;
      },
      asked_for now (f ∷ later) more count (number + 1) (drop used (drop b.0 since)) all
          (omega (arith, small)) behind a.4 next,
    )
