-- Bytes that are whole requests alone: what is read of them, and what is left.
use Rattle.std.proofs.Common.{◌≡◌, ℕ, ◌<◌, ◌≤◌, List, [], ◌∷◌, ◌++◌, length, drop, Bool, true, Option, Some, refl, sym, ◌∙◌, ap, subst, append-nil, length-append, arith}
use Rattle.h1_transcript.specs.Words.{AllByRecursion, HeadFault, LinkState, RequestView, HeadAt, RefusedAt, wish, Body, whole, unfinished, broken, payload_of, framing, body, Entry, GrowsTo}
use Rattle.std.proofs.lemmas.List.{append_cancel_left, drop-append-le}
use Rattle.h1_head.proofs.RequestHeadLemmas.{HeadAt-append, HeadAt-unique, HeadAt-not_refused, HeadAt-not_begun, RefusedAt-append, RefusedAt-some}
use Rattle.h1_transcript.proofs.Words.{AreOf, ReadBehind, LastStands, AreServed, IfTold, Message, Begins, EndsAs, Parses, empty, begun}
use Rattle.h1_body.proofs.LawLemmas.{bodies_grow}
use Rattle.h1_transcript.specs.Complete.{Fits, IsWished}
use Rattle.h1_transcript.specs.Ends.{LastGoesPast}
use Rattle.h1_transcript.proofs.BehindLemmas.{broken_stays, whole_within, whole_stays}
use Rattle.h1_transcript.specs.Stream.{BehindBody, stuck}

-- what is told of bytes holds of those that came
pub told_of : (before now : Option (List ℕ)) (front since : List ℕ) (P : List ℕ → Type 0)
    → before ≡ Some front → now ≡ Some (front ++ since) → IfTold before now P → P since
told_of before now front since P first last h =
    let told : IfTold (Some front) (Some (front ++ since)) P =
    subst (λ x. IfTold x (Some (front ++ since)) P) first (subst (λ x. IfTold before x P) last h) in
    subst P (sym (append_cancel_left front since told.0 told.1)) told.2

-- no head begins no bytes
pub no_head : (bytes : List ℕ) (n : ℕ) (head : RequestView) (both : Bool) → bytes ≡ []
    → HeadAt bytes n head both → ⊥
no_head bytes n head both none h =
    let len : length bytes ≡ 0 = ap length none in
    omega (arith, len, h.cuts.some, h.cuts.within)

-- where only whole requests follow, this body is whole
whole_of : (b : Body) (more : List Message) (Q : ℕ → Type 0)
    → BehindBody b Q ((more ≡ []) × (empty ≡ stuck))
    → (payload : List ℕ) × (k : ℕ) × (b ≡ whole payload k) × Q k
whole_of (whole payload k) more Q h = (payload, k, refl, h)
whole_of (unfinished payload) more Q h = let clash : empty ≡ stuck = h.1 in absurd cc
whole_of (broken payload) more Q h = let clash : empty ≡ stuck = h.1 in absurd cc

-- the first request has this head, a whole body, and only whole requests after it
record First (bytes rest : List ℕ) (n : ℕ) (head : RequestView) (both : Bool) (requests : List Message) : Type 0 where
  m : Message
  more : List Message
  payload : List ℕ
  k : ℕ
  requests_is : requests ≡ m ∷ more
  head_is : head ≡ m.head
  both_is : both ≡ m.both
  body_is : m.body ≡ whole payload k
  body_at : body (framing head) (drop n bytes ++ rest) ≡ whole payload k
  parses : Parses (drop k (drop n bytes ++ rest)) more empty

-- a head at a front of the bytes is that of the first request
first_of : (bytes rest : List ℕ) (n : ℕ) (head : RequestView) (both : Bool)
    (requests : List Message) → HeadAt bytes n head both
    → Parses (bytes ++ rest) requests empty → First bytes rest n head both requests
first_of bytes rest n head both [] h p =
    absurd (no_head (bytes ++ rest) n head both p (HeadAt-append bytes rest n head both h))
first_of bytes rest n head both (m ∷ more) h p =
    let same = HeadAt-unique (bytes ++ rest) n p.0 head m.head both m.both
    (HeadAt-append bytes rest n head both h) p.1 in
    let front : drop p.0 (bytes ++ rest) ≡ drop n bytes ++ rest =
    ap (λ i. drop i (bytes ++ rest)) (sym same.0) ∙ drop-append-le n bytes rest h.cuts.within in
    let found = whole_of m.body more (λ k. Parses (drop k (drop p.0 (bytes ++ rest))) more empty) p.3 in
    record {
      m = m;
      more = more;
      payload = found.0;
      k = found.1;
      requests_is = refl;
      head_is = same.1;
      both_is = same.2;
      body_is = found.2;
      body_at = ap (body (framing head)) (sym front)
          ∙ ap (λ r. body (framing r) (drop p.0 (bytes ++ rest))) same.1
          ∙ p.2 ∙ found.2;
      parses = subst (λ xs. Parses (drop found.1 xs) more empty) front found.3;
    }

-- the first request is this one, which was read whole, and what is left after it
record Next (bytes rest : List ℕ) (n : ℕ) (head : RequestView) (both : Bool)
    (payload : List ℕ) (k : ℕ) (requests : List Message) : Type 0 where
  m : Message
  more : List Message
  requests_is : requests ≡ m ∷ more
  head_is : head ≡ m.head
  both_is : both ≡ m.both
  payload_is : payload ≡ payload_of m.body
  parses : Parses (drop k (drop n bytes) ++ rest) more empty

next_of : (bytes rest : List ℕ) (n : ℕ) (head : RequestView) (both : Bool) (payload : List ℕ)
    (k : ℕ) (requests : List Message)
    → HeadAt bytes n head both → body (framing head) (drop n bytes) ≡ whole payload k
    → Parses (bytes ++ rest) requests empty → Next bytes rest n head both payload k requests
next_of bytes rest n head both payload k requests h is p =
    let f = first_of bytes rest n head both requests h p in
    let one : whole f.payload f.k ≡ whole payload k =
    sym f.body_at ∙ whole_stays (framing head) (drop n bytes) rest payload k is in
    let within : k ≤ length (drop n bytes) = whole_within (framing head) (drop n bytes) payload k is in
    let same : f.k ≡ k = cc in
    let behind : drop f.k (drop n bytes ++ rest) ≡ drop k (drop n bytes) ++ rest =
    ap (λ i. drop i (drop n bytes ++ rest)) same ∙ drop-append-le k (drop n bytes) rest within in
    record {
      m = f.m;
      more = f.more;
      requests_is = f.requests_is;
      head_is = f.head_is;
      both_is = f.both_is;
      payload_is = sym (ap payload_of (f.body_is ∙ one));
      parses = subst (λ xs. Parses xs f.more empty) behind f.parses;
    }

none_served : (requests : List Message) → requests ≡ [] → AreServed [] requests
none_served [] none = tt
none_served (m ∷ more) none = absurd cc

-- after the exchanges that ended the bytes are the requests that are left; where none is left, all
-- were served
pub left_of : (done : List Entry) (since behind rest : List ℕ) (requests : List Message)
    → ReadBehind since done behind → Parses (since ++ rest) requests empty
    → (left : List Message) × Parses (behind ++ rest) left empty
    × (left ≡ [] → AreServed done requests)
    × ((P : Message → Type 0) → AllByRecursion P requests → AllByRecursion P left)
left_of [] since behind rest requests h p =
    (requests, subst (λ xs. Parses (xs ++ rest) requests empty) h p, none_served requests, λ P all. all)
left_of (e ∷ later) since behind rest requests h p =
    let f = next_of since rest h.0 e.head e.both e.body h.2 requests h.1 h.3 p in
    let next = left_of later (drop h.2 (drop h.0 since)) behind rest f.more h.6 f.parses in (
      next.0,
      next.1,
      λ none. subst (AreServed (e ∷ later)) (sym f.requests_is) (f.head_is, f.both_is, f.payload_is, next.2 none),
      λ P all. next.3 P (rw f.requests_is at all).1,
    )

-- no bytes are no requests
pub none_left : (bytes : List ℕ) (left : List Message) → bytes ≡ [] → Parses bytes left empty
    → left ≡ []
none_left bytes [] none p = refl
none_left bytes (m ∷ more) none p = absurd (no_head bytes p.0 m.head m.both none p.1)

-- a front of whole requests is not refused
pub not_refused : (behind rest : List ℕ) (left : List Message) (fault : HeadFault)
    → Parses (behind ++ rest) left empty → RefusedAt behind fault → ⊥
not_refused behind rest [] fault p x =
    let len : length (behind ++ rest) ≡ 0 = ap length p in
    omega (arith, len, length-append behind rest, RefusedAt-some behind fault x)
not_refused behind rest (m ∷ more) fault p x =
    HeadAt-not_refused (behind ++ rest) p.0 m.head m.both fault p.1 (RefusedAt-append behind rest fault x)

-- whole requests don't end inside a head
pub not_begun : (behind : List ℕ) (left : List Message) → Parses behind left empty
    → EndsAs behind begun → ⊥
not_begun behind [] p x = let len : length behind ≡ 0 = ap length p in omega (arith, len, x.1)
not_begun behind (m ∷ more) p x = HeadAt-not_begun behind p.0 m.head m.both p.1 x.0

-- nor inside a body
pub not_cut : (behind : List ℕ) (left : List Message) (e : Entry) → Parses behind left empty
    → LastStands behind e (unfinished e.body) → ⊥
not_cut behind left e p x =
    let f = first_of behind [] x.n e.head e.both left x.head
    (subst (λ xs. Parses xs left empty) (sym (append-nil behind)) p) in
    let clash : unfinished e.body ≡ whole f.payload f.k =
    sym x.body ∙ ap (body (framing e.head)) (sym (append-nil (drop x.n behind))) ∙ f.body_at in
    absurd cc

-- and no body of a front of them is broken
-- payload only grows as more bytes come
pub payload_within : (some all : Body) → GrowsTo some all
    → length (payload_of some) ≤ length (payload_of all)
payload_within (whole payload n) all h = let same = ap payload_of h in omega (arith, ap length same)
payload_within (unfinished payload) all h = omega (arith, ap length h.1, length-append payload h.0)
payload_within (broken payload) all h = let same = ap payload_of h in omega (arith, ap length same)

-- no body is too large where all fit
pub not_past : (behind rest : List ℕ) (left : List Message) (e : Entry)
    → Parses (behind ++ rest) left empty → LastGoesPast behind e
    → AllByRecursion (Fits e.holding.limit) left → ⊥
not_past behind rest left e p x fits =
    let f = first_of behind rest x.n e.head e.both left x.head p in
    let grown = payload_within (body (framing e.head) (drop x.n behind)) (body (framing e.head) (drop x.n behind ++ rest))
    (bodies_grow (framing e.head) (drop x.n behind) rest) in
    let all = ap (λ b. length (payload_of b)) (f.body_at ∙ sym f.body_is) in
    let fit = (rw f.requests_is at fits).0 in
    omega (arith, x.body, grown, all, fit)

pub not_broken : (behind rest : List ℕ) (left : List Message) (e : Entry)
    → Parses (behind ++ rest) left empty → LastStands behind e (broken e.body) → ⊥
not_broken behind rest left e p x =
    let f = first_of behind rest x.n e.head e.both left x.head p in
    let clash : broken e.body ≡ whole f.payload f.k =
    sym (broken_stays (framing e.head) (drop x.n behind) rest e.body x.body) ∙ f.body_at in absurd cc

-- the first of several exchanges is that of the first request, which is whole
record Front (now : LinkState) (d : Entry) (behind : List Entry) (requests : List Message) : Type 0 where
  m : Message
  more : List Message
  used : ℕ
  requests_is : requests ≡ m ∷ more
  body_is : m.body ≡ whole d.body used
  others : AreOf now behind more

front_first : (now : LinkState) (d : Entry) (later : List Entry) (e : Entry)
    (requests : List Message)
    → AreOf now (d ∷ later ++ e ∷ []) requests → Front now d (later ++ e ∷ []) requests
front_first now d [] e [] h = absurd h
front_first now d [] e (m ∷ more) h =
    record { m = m; more = more; used = h.2.0; requests_is = refl; body_is = h.2.1; others = h.4 }
front_first now d (g ∷ later) e [] h = absurd h
front_first now d (g ∷ later) e (m ∷ more) h =
    record { m = m; more = more; used = h.2.0; requests_is = refl; body_is = h.2.1; others = h.4 }

-- The last exchange is that of a request whose wish is that of all of them, and there are more
-- requests than exchanges before it.
pub last_wished : (now : LinkState) (done : List Entry) (e : Entry) (since rest : List ℕ)
    (read requests : List Message)
    → Begins since read → AreOf now (done ++ e ∷ []) read → Parses (since ++ rest) requests empty
    → AllByRecursion IsWished requests
    → (wish e.head e.both ≡ true) × (length done < length requests)
last_wished now [] e since rest [] requests b a p w = absurd a
last_wished now [] e since rest (m ∷ n ∷ more) requests b a p w = absurd a
last_wished now [] e since rest (m ∷ []) requests b a p w =
    let f = first_of since rest b.0 m.head m.both requests b.1 p in
    let wishes : AllByRecursion IsWished (f.m ∷ f.more) = subst (AllByRecursion IsWished) f.requests_is w in
    let len : length requests ≡ length (f.m ∷ f.more) = ap length f.requests_is in (
      ap (λ head. wish head e.both) (a.0 ∙ f.head_is) ∙ ap (wish f.m.head) (a.1 ∙ f.both_is) ∙ wishes.0,
      omega (arith, len),
    )
last_wished now (d ∷ later) e since rest read requests b a p w =
    let q = front_first now d later e read a in
    let begins : Begins since (q.m ∷ q.more) = subst (Begins since) q.requests_is b in
    let behind : BehindBody (whole d.body q.used) (λ k. Begins (drop k (drop begins.0 since)) q.more) (q.more ≡ []) =
    subst (λ x. BehindBody x (λ k. Begins (drop k (drop begins.0 since)) q.more) (q.more ≡ [])) q.body_is begins.3 in
    let f = next_of since rest begins.0 q.m.head q.m.both d.body q.used requests begins.1 (begins.2 ∙ q.body_is) p in
    let wishes : AllByRecursion IsWished (f.m ∷ f.more) = subst (AllByRecursion IsWished) f.requests_is w in
    let next = last_wished now later e (drop q.used (drop begins.0 since)) rest q.more f.more
    behind q.others f.parses wishes.1 in
    let len : length requests ≡ length (f.m ∷ f.more) = ap length f.requests_is in
    (next.0, omega (arith, next.1, len))
