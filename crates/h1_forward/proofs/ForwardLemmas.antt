-- A request that is written again begins the bytes, and nothing else does.
use Rattle.std.proofs.Common.{◌≡◌, ℕ, Bool, false, List, [], ◌∷◌, ◌++◌, length, drop, refl, sym, ap, ◌∙◌, subst, arith, append_assoc}
use Rattle.std.proofs.lemmas.List.{drop_at}
use Rattle.h1_body.specs.Body.{Body, whole}
use Rattle.h1_body.specs.Framing.{framing}
use Rattle.h1_body.specs.Reader.{body}
use Rattle.h1_body.specs.Writer.{begun}
use Rattle.h1_head.specs.RequestFault.{first_fault}
use Rattle.h1_head.specs.RequestHead.{HeadAt}
use Rattle.h1_head.specs.Views.{RequestView}
use Rattle.h1_head.proofs.RequestHeadLemmas.{HeadAt-not_begun, HeadAt-not_refused, HeadAt-unique, RefusedAt-some}
use Rattle.h1_transcript.specs.Stream.{BehindBody, EndsAs, Message, Parses, Tail, empty, begun as begun_tail, stuck, refused}
use Rattle.h1_forward.specs.Plain.{ReadsBack}
use Rattle.h1_forward.specs.Forwarded.{IsReadFrom, IsShortEnough, IsWrittenAs, message}
use Rattle.h1_forward.specs.WrittenBody.{AreChunks, body_from, payload_of}
use Rattle.h1_forward.proofs.BodyLemmas.{body_back, framing_fits}
use Rattle.h1_forward.proofs.ReadPlainLemmas.{read_plain}
use Rattle.h1_forward.proofs.WireLemmas.{reads_back}

-- the bytes begin with this message, and so many bytes of them are its head and its body
record Front (bytes more : List ℕ) (m : Message) (payload : List ℕ) : Type 0 where
  n : ℕ
  k : ℕ
  head : HeadAt (bytes ++ more) n m.head m.both
  whole_body : m.body ≡ whole payload k
  reads : body (framing m.head) (drop n (bytes ++ more)) ≡ m.body
  left : drop k (drop n (bytes ++ more)) ≡ more

abbrev body_bytes : RequestView → List (List ℕ) → List ℕ
body_bytes request pieces = body_from (begun (framing request)) pieces

abbrev message_of : RequestView → List (List ℕ) → Message
message_of request pieces =
    message request (payload_of pieces) (length (body_bytes request pieces))

front_of : (source bytes more : List ℕ) (request : RequestView) (pieces : List (List ℕ))
    → IsReadFrom source request (payload_of pieces) → AreChunks pieces
    → (written : IsWrittenAs request pieces bytes) → IsShortEnough written
    → Front bytes more (message_of request pieces) (payload_of pieces)
front_of source bytes more request pieces is small written short =
    let plain = read_plain source is.used request is.both is.head in
    let back : ReadsBack written.front request =
    subst (λ (r : RequestView). ReadsBack written.front r) plain.told
    (reads_back request written.front plain.plain (ap first_fault plain.told ∙ plain.sound) written.head
    short) in
    let rest = body_bytes request pieces in
    let split : bytes ++ more ≡ written.front ++ (rest ++ more) =
    ap (λ xs. xs ++ more) written.parts ∙ append_assoc written.front rest more in
    let behind : drop (length written.front) (bytes ++ more) ≡ rest ++ more =
    ap (drop (length written.front)) split
    ∙ drop_at written.front (rest ++ more) (length written.front) refl in
    record {
      n = length written.front;
      k = length rest;
      head = subst (λ (xs : List ℕ). HeadAt xs (length written.front) request false) (sym split)
          (back.head (rest ++ more));
      whole_body = refl;
      reads = ap (body (framing request)) behind
          ∙ body_back (framing request) (drop is.used source) is.count pieces more
          (framing_fits request) small is.whole_body;
      left = ap (drop (length rest)) behind ∙ drop_at rest more (length rest) refl;
    }

begins : (bytes more : List ℕ) (m : Message) (payload : List ℕ) (requests : List Message)
    (tail : Tail) → Front bytes more m payload → Parses more requests tail
    → Parses (bytes ++ more) (m ∷ requests) tail
begins bytes more m payload requests tail front parses = (
  front.n,
  front.head,
  front.reads,
  subst (λ (b : Body). BehindBody b
      (λ j. Parses (drop j (drop front.n (bytes ++ more))) requests tail)
      ((requests ≡ []) × (tail ≡ stuck))) (sym front.whole_body)
      (subst (λ (xs : List ℕ). Parses xs requests tail) (sym front.left) parses),
)

-- bytes with a head at their front don't end as ones that no request begins
not_ended : (bytes : List ℕ) (n : ℕ) (request : RequestView) (both : Bool) (tail : Tail)
    → HeadAt bytes n request both → EndsAs bytes tail → ⊥
not_ended bytes n request both empty at ends =
    let none : length bytes ≡ 0 = ap length ends in
    let some = at.cuts.some in
    let within = at.cuts.within in
    omega arith
not_ended bytes n request both begun_tail at ends = HeadAt-not_begun bytes n request both at ends.0
not_ended bytes n request both stuck at ends = ends
not_ended bytes n request both (refused fault) at ends =
    HeadAt-not_refused bytes n request both fault at ends

only : (bytes more : List ℕ) (m : Message) (payload : List ℕ) (all : List Message) (tail : Tail)
    → Front bytes more m payload → Parses (bytes ++ more) all tail
    → (requests : List Message) × (all ≡ m ∷ requests) × Parses more requests tail
only bytes more m payload [] tail front parses =
    absurd (not_ended (bytes ++ more) front.n m.head m.both tail front.head parses)
only bytes more m payload (x ∷ requests) tail front parses =
    let same = HeadAt-unique (bytes ++ more) parses.0 front.n x.head m.head x.both m.both parses.1
    front.head in
    let bodies : x.body ≡ m.body =
    sym parses.2
    ∙ ap (λ r. body (framing r) (drop parses.0 (bytes ++ more))) same.1
    ∙ ap (λ j. body (framing m.head) (drop j (bytes ++ more))) same.0
    ∙ front.reads in
    let behind : Parses (drop front.k (drop parses.0 (bytes ++ more))) requests tail =
    subst (λ (b : Body). BehindBody b
    (λ j. Parses (drop j (drop parses.0 (bytes ++ more))) requests tail)
    ((requests ≡ []) × (tail ≡ stuck))) (bodies ∙ front.whole_body) parses.3 in (
      requests,
      λ i. record { head = same.1 i; both = same.2 i; body = bodies i } ∷ requests,
      subst (λ (xs : List ℕ). Parses xs requests tail)
          (ap (λ j. drop front.k (drop j (bytes ++ more))) same.0 ∙ front.left) behind,
    )

pub forwarded_reads : (source bytes more : List ℕ) (request : RequestView)
    (pieces : List (List ℕ)) (requests : List Message) (tail : Tail)
    → IsReadFrom source request (payload_of pieces) → AreChunks pieces
    → (written : IsWrittenAs request pieces bytes) → IsShortEnough written → Parses more requests tail
    → Parses (bytes ++ more) (message_of request pieces ∷ requests) tail
forwarded_reads source bytes more request pieces requests tail is small written short parses =
    begins bytes more (message_of request pieces) (payload_of pieces) requests tail
    (front_of source bytes more request pieces is small written short) parses

pub forwarded_alone : (source bytes more : List ℕ) (request : RequestView)
    (pieces : List (List ℕ)) (all : List Message) (tail : Tail)
    → IsReadFrom source request (payload_of pieces) → AreChunks pieces
    → (written : IsWrittenAs request pieces bytes) → IsShortEnough written → Parses (bytes ++ more) all tail
    → (requests : List Message) × (all ≡ message_of request pieces ∷ requests)
    × Parses more requests tail
forwarded_alone source bytes more request pieces all tail is small written short parses =
    only bytes more (message_of request pieces) (payload_of pieces) all tail
    (front_of source bytes more request pieces is small written short) parses

-- no bytes are no request, and end as nothing
pub nothing_ends : (requests : List Message) (tail : Tail) → Parses [] requests tail
    → (requests ≡ []) × (tail ≡ empty)
nothing_ends [] empty parses = (refl, refl)
nothing_ends [] begun_tail parses = let some = parses.1 in absurd (omega arith)
nothing_ends [] stuck parses = absurd parses
nothing_ends [] (refused fault) parses =
    let some = RefusedAt-some [] fault parses in absurd (omega arith)
nothing_ends (m ∷ requests) tail parses =
    let some = parses.1.cuts.some in
    let within = parses.1.cuts.within in
    absurd (omega arith)
