-- Lemmas on exchanges that ended, each done: what was read settles what was written.
use Rattle.std.proofs.Common.{◌≡◌, ◌≢◌, ℕ, ◌+◌, ◌≤◌, List, [], ◌∷◌, ◌++◌, length, take, drop, true, false, Option, Some, None, IfSome, IsSome, refl, sym, ap, subst, ◌∙◌, arith}
use Rattle.std.specs.Prelude.{Result, Ok}
use Rattle.std.specs.List.{AllByRecursion}
use Rattle.std.proofs.lemmas.List.{take_all}
use Rattle.std.proofs.lemmas.List.Concat.{flat_map-cons}
use Rattle.h1_error.specs.declared.error.Error.{Error}
use Rattle.h1_head.specs.Views.{RequestView, ResponseView}
use Rattle.h1_head.specs.Date.{IsDateAt}
use Rattle.h1_head.proofs.DateLemmas.{date_unique}
use Rattle.h1_head.proofs.RequestHeadLemmas.{HeadAt-unique}
use Rattle.h1_body.specs.Body.{Body, whole, payload_of}
use Rattle.h1_body.specs.Framing.{framing}
use Rattle.h1_body.specs.Reader.{body}
use Rattle.h1_transcript.specs.declared.reply.Reply.{Reply}
use Rattle.h1_transcript.specs.Entry.{Entry}
use Rattle.h1_transcript.specs.declared.entry.How.{How}
use Rattle.h1_transcript.specs.declared.entry.How.TheVariants.{Open, Whole, Failed}
use Rattle.h1_transcript.specs.Behind.{StoodAs, ReadBehind, WroteBehind, DoneBehind}
use Rattle.h1_echo.specs.Echo.{EchoGives, echo_reply}
use Rattle.h1_transcript.specs.Exchange.{render, render_parts, given_to, IsAllowed}
use Rattle.h1_transcript.specs.Rules.{Filters, Rules}
use Rattle.h1_transcript.proofs.CompleteLemmas.{no_head}
use Rattle.h1_serve.specs.ExchangeText.{request_line, field_lines, body_line, exchange_lines, exchanges_lines}

-- a reply's header that was taken up has this second
abbrev pub IsDatedBy : ℕ → Entry → Type 0
IsDatedBy secs e = IfSome e.sent_head (λ header. e.date ≡ secs)

-- what is sent where these filters run for the echo application
abbrev pub echoed : Filters → Rules
echoed filters = record { gives = EchoGives; filters = filters }

-- the bytes are the requests of these exchanges, which ended, and nothing after them
pub record AreEnded (filters : Filters) (secs : ℕ) (since : List ℕ) (flushed : ℕ → Type 0)
    (total : ℕ) (done : List Entry) : Type 0 where
  pub read : ReadBehind since done []
  pub allowed : AllByRecursion (IsAllowed (echoed filters)) done
  pub dated : AllByRecursion (IsDatedBy secs) done
  pub ended : DoneBehind flushed total done

-- the same requests with the same replies
abbrev pub AreAlike : List Entry → List Entry → Type 0
AreAlike [] [] = Unit {0}
AreAlike [] (f ∷ later) = ⊥
AreAlike (e ∷ more) [] = ⊥
AreAlike (e ∷ more) (f ∷ later) =
    (e.head ≡ f.head) × (e.body ≡ f.body) × (render e ≡ render f) × AreAlike more later

some_none : (o : Option Error) → o ≡ None → IsSome o → ⊥
some_none None none some = cc
some_none (Some error) none some = cc

some_of : {T : Type 0} (o : Option T) (P : T → Type 0) → IsSome o → IfSome o P
    → (x : T) × (o ≡ Some x) × P x
some_of None P some h = absurd (let never : false ≡ true = some in cc)
some_of (Some x) P some h = (x, refl, h)

at_some : {T : Type 0} (o : Option T) (x : T) (P : T → Type 0) → o ≡ Some x → IfSome o P → P x
at_some o x P is h = subst (λ o. IfSome o P) is h

-- the application was handed all of a body that was not refused
all_handed : (how : How) (e : Entry) (b : Body) → how ≢ Open → e.body_error ≡ None → StoodAs how e b
    → e.handed ≡ length e.body
all_handed Whole e b read none stood = stood.1
all_handed Open e b read none stood = absurd (read refl)
all_handed Failed e b read none stood = absurd (some_none e.body_error none stood)

-- so its reply is that to the whole body
reply_is : (e : Entry) (head : RequestView) (reply : Reply) (k : ℕ) → e.body_error ≡ None
    → StoodAs e.how e (whole e.body k)
    → EchoGives (given_to e head) reply → reply ≡ echo_reply head e.body None
reply_is e head reply k none stood gives =
    let count = all_handed e.how e (whole e.body k) gives.read none stood in
    let within : length e.body ≤ e.handed = omega (arith, count) in
    let handed : take e.handed e.body ≡ e.body = take_all e.handed e.body within in
    gives.is ∙ ap (λ xs. echo_reply head xs e.body_error) handed ∙ ap (echo_reply head e.body) none

-- the bytes of that reply, which keeps the connection, with this date, where this is sent of it
abbrev kept_bytes : List ℕ → Reply → List ℕ → ResponseView → List ℕ → List ℕ
kept_bytes method reply sent header date =
    render_parts method (Some reply) (Some sent) date true (Some header)

-- what the filters made of the request and of that reply to it
record IsRendered (filters : Filters) (secs : ℕ) (e : Entry) : Type 0 where
  head : RequestView
  request : filters.request e.head ≡ Ok head
  header : ResponseView
  header_is : filters.header e.head (echo_reply head e.body None) ≡ Ok header
  sent : List ℕ
  sent_is : filters.body e.head (echo_reply head e.body None) ≡ Ok sent
  is : render e
      ≡ kept_bytes e.head.method (echo_reply head e.body None) sent header e.date_text
  date : IsDateAt secs e.date_text

rendered : (filters : Filters) (secs : ℕ) (since : List ℕ) (flushed : ℕ → Type 0) (total : ℕ)
    (e : Entry) (more : List Entry)
    → AreEnded filters secs since flushed total (e ∷ more) → IsRendered filters secs e
rendered filters secs since flushed total e more h =
    let allowed : IsAllowed (echoed filters) e = h.allowed.0 in
    let header = some_of e.sent_head _ h.ended.0.sent_head allowed.sent_head in
    let sent = some_of e.sent_body _ h.ended.0.sent_body allowed.sent_body in
    let reply = header.2.0 in
    let replied : e.reply ≡ Some reply = header.2.1 in
    let again : e.reply ≡ Some sent.2.0 = sent.2.1 in
    let one : sent.2.0 ≡ reply = cc (replied, again) in
    let gives = at_some e.reply reply _ replied allowed.reply in
    let head = gives.0 in
    let stood = at_some e.reply reply _ replied h.read.5 in
    let is : reply ≡ echo_reply head e.body None =
    reply_is e head reply h.read.2 h.read.4 stood gives.2 in
    let made = echo_reply head e.body None in
    let reply_at : e.reply ≡ Some made = replied ∙ ap Some is in
    let dated : e.date ≡ secs = at_some e.sent_head header.0 _ header.1 h.dated.0 in
    record {
      head = head;
      request = at_some e.filtered head _ gives.1 allowed.filtered;
      header = header.0;
      header_is = ap (filters.header e.head) (sym is) ∙ header.2.2;
      sent = sent.0;
      sent_is = ap (filters.body e.head) (sym (one ∙ is)) ∙ sent.2.2;
      is = ap (λ o. render_parts e.head.method o e.sent_body e.date_text e.keep e.sent_head) reply_at
          ∙ ap (λ o. render_parts e.head.method (Some made) o e.date_text e.keep e.sent_head) sent.1
          ∙ ap (λ keep. render_parts e.head.method (Some made) (Some sent.0) e.date_text keep e.sent_head)
          h.ended.0.keep
          ∙ ap (render_parts e.head.method (Some made) (Some sent.0) e.date_text true) header.1;
      date = subst (λ n. IsDateAt n e.date_text) dated header.2.4.date;
    }

same_ok : {T : Type 0} (r : Result T ℕ) (x y : T) → r ≡ Ok x → r ≡ Ok y → x ≡ y
same_ok r x y e f = cc

-- the filters make the same of the same request and body
same_bytes : (filters : Filters) (secs : ℕ) (e f : Entry)
    → IsRendered filters secs e → IsRendered filters secs f → e.head ≡ f.head → e.body ≡ f.body
    → render e ≡ render f
same_bytes filters secs e f x y head body =
    let given : x.head ≡ y.head =
    same_ok (filters.request f.head) x.head y.head (ap filters.request (sym head) ∙ x.request) y.request in
    let made : echo_reply x.head e.body None ≡ echo_reply y.head f.body None =
    ap (λ v. echo_reply v e.body None) given ∙ ap (λ xs. echo_reply y.head xs None) body in
    let reply = echo_reply y.head f.body None in
    let header : x.header ≡ y.header =
    same_ok (filters.header f.head reply) x.header y.header
    (ap (λ v. filters.header v reply) (sym head) ∙ ap (filters.header e.head) (sym made) ∙ x.header_is) y.header_is in
    let sent : x.sent ≡ y.sent =
    same_ok (filters.body f.head reply) x.sent y.sent
    (ap (λ v. filters.body v reply) (sym head) ∙ ap (filters.body e.head) (sym made) ∙ x.sent_is) y.sent_is in
    let date = date_unique secs e.date_text f.date_text x.date y.date in
    x.is ∙ ap (λ (v : RequestView). kept_bytes v.method (echo_reply x.head e.body None) x.sent x.header e.date_text) head
    ∙ ap (λ r. kept_bytes f.head.method r x.sent x.header e.date_text) made
    ∙ ap (λ xs. kept_bytes f.head.method reply xs x.header e.date_text) sent
    ∙ ap (λ v. kept_bytes f.head.method reply y.sent v e.date_text) header
    ∙ ap (kept_bytes f.head.method reply y.sent y.header) date ∙ sym y.is

same_payload : {front other : List ℕ} {i k : ℕ} → whole front i ≡ whole other k → front ≡ other
same_payload e = ap payload_of e

same_use : {front other : List ℕ} {i k : ℕ} → whole front i ≡ whole other k → i ≡ k
same_use e = cc

-- the first exchanges of the same bytes are alike, and the same bytes are left after them
record Firsts (since : List ℕ) (e f : Entry) (more later : List Entry)
    (x : ReadBehind since (e ∷ more) []) (y : ReadBehind since (f ∷ later) []) : Type 0 where
  head : e.head ≡ f.head
  payload : e.body ≡ f.body
  behind : drop y.2 (drop y.0 since) ≡ drop x.2 (drop x.0 since)

firsts : (since : List ℕ) (e f : Entry) (more later : List Entry)
    (x : ReadBehind since (e ∷ more) []) (y : ReadBehind since (f ∷ later) [])
    → Firsts since e f more later x y
firsts since e f more later x y =
    let same = HeadAt-unique since x.0 y.0 e.head f.head e.both f.both x.1 y.1 in
    let bodies : whole e.body x.2 ≡ whole f.body y.2 =
    sym x.3 ∙ ap (λ i. body (framing e.head) (drop i since)) same.0
    ∙ ap (λ (h : RequestView). body (framing h) (drop y.0 since)) same.1 ∙ y.3 in
    record {
      head = same.1;
      payload = same_payload bodies;
      behind =
          ap (λ i. drop y.2 (drop i since)) (sym same.0) ∙ ap (λ i. drop i (drop x.0 since)) (sym (same_use bodies));
    }

behind_first : (filters : Filters) (secs : ℕ) (since : List ℕ) (flushed : ℕ → Type 0) (total : ℕ)
    (e : Entry) (more : List Entry)
    → (h : AreEnded filters secs since flushed total (e ∷ more))
    → AreEnded filters secs (drop h.read.2 (drop h.read.0 since)) flushed (total + e.written) more
behind_first filters secs since flushed total e more h =
    record { read = h.read.6; allowed = h.allowed.1; dated = h.dated.1; ended = h.ended.1 }

-- exchanges that ended with the same bytes are alike
pub alike : (filters : Filters) (secs : ℕ) (since : List ℕ) (flushed other : ℕ → Type 0)
    (total count : ℕ) (a b : List Entry)
    → AreEnded filters secs since flushed total a → AreEnded filters secs since other count b
    → AreAlike a b
alike filters secs since flushed other total count [] [] x y = tt
alike filters secs since flushed other total count [] (f ∷ later) x y =
    absurd (no_head since y.read.0 f.head f.both x.read y.read.1)
alike filters secs since flushed other total count (e ∷ more) [] x y =
    absurd (no_head since x.read.0 e.head e.both y.read x.read.1)
alike filters secs since flushed other total count (e ∷ more) (f ∷ later) x y =
    let same = firsts since e f more later x.read y.read in
    let one = rendered filters secs since flushed total e more x in
    let two = rendered filters secs since other count f later y in
    let left = subst (λ xs. AreEnded filters secs xs other (count + f.written) later) same.behind
    (behind_first filters secs since other count f later y) in (
      same.head,
      same.payload,
      same_bytes filters secs e f one two same.head same.payload,
      alike filters secs (drop x.read.2 (drop x.read.0 since)) flushed other (total + e.written)
          (count + f.written) more later (behind_first filters secs since flushed total e more x) left,
    )

-- their lines are the same
pub alike_lines : (a b : List Entry) → AreAlike a b → exchanges_lines a ≡ exchanges_lines b
alike_lines [] [] h = refl
alike_lines [] (f ∷ later) h = absurd h
alike_lines (e ∷ more) [] h = absurd h
alike_lines (e ∷ more) (f ∷ later) h =
    let first : exchange_lines e ≡ exchange_lines f =
    ap (λ (v : RequestView). request_line v ++ field_lines v.fields ++ body_line e.body) h.0
    ∙ ap (λ xs. request_line f.head ++ field_lines f.head.fields ++ body_line xs) h.1 in
    flat_map-cons exchange_lines e more ∙ ap (λ xs. xs ++ exchanges_lines more) first
    ∙ ap (λ xs. exchange_lines f ++ xs) (alike_lines more later h.3) ∙ sym (flat_map-cons exchange_lines f later)

-- and what was written is the same
pub alike_written : (a b : List Entry) (one other : List ℕ) → AreAlike a b → WroteBehind one a []
    → WroteBehind other b [] → one ≡ other
alike_written [] [] one other h x y = x ∙ sym y
alike_written [] (f ∷ later) one other h x y = absurd h
alike_written (e ∷ more) [] one other h x y = absurd h
alike_written (e ∷ more) (f ∷ later) one other h x y =
    x.1 ∙ ap (λ xs. xs ++ x.0) h.2 ∙ ap (λ xs. render f ++ xs) (alike_written more later x.0 y.0 h.3 x.3 y.3) ∙ sym y.1
