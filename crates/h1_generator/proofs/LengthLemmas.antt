-- How many bytes move at most on a connection over bytes that are made.
use Rattle.std.proofs.Common.{◌≡◌, ℕ, zero, suc, ◌+◌, ◌-◌, ◌*◌, ◌<◌, ◌≤◌, ◌^◌, ◌%◌, List, [], ◌∷◌, ◌++◌, length, take, replicate, get_or, Bool, true, false, option_to_list, Option, Some, None, IfSome, refl, sym, ◌∙◌, ap, subst, codes, decimal, arith, length-append, nat_le, ◌&&◌}
use Rattle.std.specs.List.{AllByRecursion, list_all}
use Rattle.std.proofs.lemmas.Bool.Decides.{nat_tests}
use Rattle.std.proofs.lemmas.List.{length-replicate, length-take, length-take-le}
use Rattle.std.proofs.lemmas.Fmt.{length-decimal-le}
use Rattle.httpdate.specs.Text.{day_name, month_name, two_digits, four_digits, time_of_day, imf_fixdate}
use Rattle.httpdate.specs.declared.parts.Parts.{Parts}
use Rattle.h1_error.specs.declared.error.Error.{Error}
use Rattle.h1_link.specs.LinkState.{LinkState}
use Rattle.h1_fields.specs.Names.{same_name}
use Rattle.h1_head.specs.Views.{RequestView, ResponseView}
use Rattle.h1_head.specs.Wire.{head_bytes, reply_head, keep_option, print_status_line}
use Rattle.h1_fields.specs.Lines.{print_line}
use Rattle.h1_body.specs.Written.{chunk_bytes, last_chunk}
use Rattle.h1_body.specs.Framing.{out}
use Rattle.h1_body.specs.Writer.{body_bytes}
use Rattle.h1_body.specs.declared.framing.Framing.TheVariants as as_framing
use Rattle.h1_transcript.specs.declared.reply.Reply.{Reply}
use Rattle.h1_transcript.specs.Entry.{Entry}
use Rattle.h1_transcript.specs.Agrees.{AreReplies}
use Rattle.h1_transcript.specs.Exchange.{render, render_body, shown, IsDated, given_to}
use Rattle.h1_transcript.specs.Lawful.{IsLawful}
use Rattle.h1_transcript.specs.Told.{ToldGrowth}
use Rattle.h1_transcript.proofs.CompleteLemmas.{told_of}
use Rattle.h1_echo.specs.Echo.{EchoGives, echo_body, echo_reply}
use Rattle.h1_generator.specs.Generated.{form_of, asked, asked_as, print_head, print_asked, generated, generated_from}
use Rattle.h1_generator.specs.declared.generator.Form.{Form}
use Rattle.h1_generator.specs.declared.generator.Form.TheVariants.{Plain, Counted, Chunked}
use Rattle.h1_generator.proofs.AskedLemmas.{AreAskedFrom}
use Rattle.h1_generator.proofs.EchoLemmas.{IsPlainHead, plain_head, fields_are, out_is, shown_same}
use Rattle.h1_generator.proofs.EndLemmas.{IsKnown, Known, Over, asked_of, known_of, at_some, body_of}
use Rattle.h1_generator.proofs.HeadLemmas.{reads_back}
use Rattle.h1_generator.proofs.TextLemmas.{chunk_run}

both : (a b : Bool) → (a && b) ≡ true → (a ≡ true) × (b ≡ true)
both true true h = (refl, refl)
both true false h = cc
both false b h = cc

-- a name of a list of short ones is short
short_name : (names : List (List ℕ)) (k : ℕ)
    → list_all (λ name. nat_le (length name) 3) names ≡ true
    → length (get_or names k []) ≤ 3
short_name [] k h = omega arith
short_name (name ∷ names) zero h = let test =
    (both (nat_le (length name) 3) (list_all (λ name. nat_le (length name) 3) names) h).0 in grind
    (arith, nat_tests)
short_name (name ∷ names) (suc k) h =
    short_name names k
    (both (nat_le (length name) 3) (list_all (λ name. nat_le (length name) 3) names) h).1

short_day : (wday : ℕ) → length (day_name wday) ≤ 3
short_day wday =
    short_name
    (codes "Mon" ∷ codes "Tue" ∷ codes "Wed" ∷ codes "Thu" ∷ codes "Fri" ∷ codes "Sat" ∷ codes "Sun" ∷ [])
    (wday - 1) refl

short_month : (mon : ℕ) → length (month_name mon) ≤ 3
short_month mon =
    short_name (codes "Jan" ∷ codes "Feb" ∷ codes "Mar" ∷ codes "Apr" ∷ codes "May" ∷ codes "Jun"
    ∷ codes "Jul" ∷ codes "Aug" ∷ codes "Sep" ∷ codes "Oct" ∷ codes "Nov" ∷ codes "Dec" ∷ [])
    (mon - 1) refl

date_len : (d n m y t : List ℕ)
    → length (d ++ codes ", " ++ n ++ codes " " ++ m ++ codes " " ++ y ++ codes " " ++ t
    ++ codes " GMT")
    ≡ length d + length n + length m + length y + length t + 9
date_len d n m y t = simp length-append (omega arith)

short_date : (p : Parts) → length (imf_fixdate p) ≤ 40
short_date p =
    let year : length (four_digits p.year) ≡ 4 = refl in
    let time : length (time_of_day p) ≡ 8 = refl in
    let day : length (two_digits p.day) ≡ 2 = refl in
    omega (
      arith,
      date_len (day_name p.wday) (two_digits p.day) (month_name p.mon)
          (four_digits p.year) (time_of_day p),
      short_day p.wday,
      short_month p.mon,
      year,
      time,
      day,
    )

line_len : (name value : List ℕ)
    → length (name ++ codes ": " ++ value ++ (13 ∷ 10 ∷ [])) ≡ length name + length value + 4
line_len name value = simp length-append (omega arith)

head_len : (s a b c : List ℕ)
    → length (s ++ (a ++ (b ++ (c ++ []))) ++ (13 ∷ 10 ∷ []))
    ≡ length s + length a + length b + length c + 2
head_len s a b c = simp length-append (omega arith)

-- the head of a reply of one field is short
short_head : (header : ResponseView) (text date : List ℕ) (keep : Bool)
    → length (print_status_line header) ≤ 60
    → header.fields ≡ (codes "content-length", text) ∷ [] → length text ≤ 20 → length date ≤ 40
    → length (head_bytes (reply_head header date keep)) ≤ 300
unfolding same_name
short_head header text date keep line is few dated = rw is (by keep) where
  by : (keep : Bool)
      → length (print_status_line header
      ++ (print_line (codes "content-length", text) ++ (print_line (codes "Date", date)
      ++ (print_line (codes "Connection", keep_option keep) ++ []))) ++ (13 ∷ 10 ∷ [])) ≤ 300
  by true =
      omega (
        arith,
        head_len (print_status_line header) (print_line (codes "content-length", text))
            (print_line (codes "Date", date)) (print_line (codes "Connection", keep_option true)),
        line_len (codes "content-length") text,
        line_len (codes "Date") date,
      )
  by false =
      omega (
        arith,
        head_len (print_status_line header) (print_line (codes "content-length", text))
            (print_line (codes "Date", date)) (print_line (codes "Connection", keep_option false)),
        line_len (codes "content-length") text,
        line_len (codes "Date") date,
      )

chunk_len : (d e r : List ℕ) → length (d ++ e ++ r ++ e) ≡ length d + length e + length r + length e
chunk_len d e r = simp length-append (omega arith)

chunk_few : (size : ℕ) → size < 7 → length (chunk_bytes (replicate size 98)) ≤ 40
chunk_few zero few = omega arith
chunk_few (suc n) few =
    let text = decimal (suc n) in
    omega (
      arith,
      ap length (chunk_run (suc n) (omega arith) few),
      chunk_len text (13 ∷ 10 ∷ [])
          (replicate (suc n) 98),
      length-replicate {A = ℕ} (suc n) 98,
      length-decimal-le 20 (suc n) (omega arith) (omega arith)
          (omega arith),
    )

-- a request has few bytes
few_of : (form : Form) (number size : ℕ) → number < 2 ^ 64 → size < 7
    → length (print_asked (asked_as form number size)) ≤ 1100
few_of Plain number size small few =
    let a = asked_as Plain number size in
    omega (
      arith,
      (reads_back Plain number size small few).short,
      length-append (print_head a)
          (body_bytes a.framing a.payload),
    )
few_of Counted number size small few =
    let a = asked_as Counted number size in
    omega (
      arith,
      (reads_back Counted number size small few).short,
      length-append (print_head a)
          (body_bytes a.framing a.payload),
      length-take-le size a.payload,
      length-replicate
          {A = ℕ} size 97,
    )
few_of Chunked number size small few =
    let a = asked_as Chunked number size in
    omega (
      arith,
      (reads_back Chunked number size small few).short,
      length-append (print_head a)
          (body_bytes a.framing a.payload),
      length-append
          (chunk_bytes (replicate size 98)) last_chunk,
      chunk_few size few,
    )

given_few : (count number : ℕ) → number + count < 2 ^ 64
    → length (generated_from number count) ≤ 1100 * count
given_few zero number small = omega arith
given_few (suc count) number small =
    let rest = generated_from (number + 1) count in
    omega (
      arith,
      few_of (form_of number) number (number % 7) (omega (arith, small))
          (omega arith),
      given_few count (number + 1) (omega (arith, small)),
      length-append
          (print_asked (asked number)) rest,
    )

-- there are no more exchanges than requests
as_many : (number count : ℕ) (es : List Entry) → AreAskedFrom number count es → length es ≤ count
as_many number count [] h = omega arith
as_many number zero (e ∷ more) h = absurd h
as_many number (suc count) (e ∷ more) h = omega (arith, as_many (number + 1) count more h.1)

written_few : (es : List Entry) (since : List ℕ) → AllByRecursion (λ e. length (render e) ≤ 500) es
    → AreReplies since es → length since ≤ 500 * length es
written_few [] since few h = omega (arith, ap length h)
written_few (e ∷ []) since few h = omega (arith, few.0, ap length h.0.1, length-append since h.0.0)
written_few (e ∷ f ∷ more) since few h =
    omega (
      arith,
      few.0,
      ap length h.1,
      length-append (render e) h.0,
      written_few
          (f ∷ more) h.0 few.1 h.3,
    )

-- a header that the echo application replies with has one field, and a short status line
record IsShort (header : ResponseView) : Type 0 where
  text : List ℕ
  line : length (print_status_line header) ≤ 60
  fields : header.fields ≡ (codes "content-length", text) ∷ []
  few : length text ≤ 20

short_reply : (number : ℕ) (head : RequestView) (handed : List ℕ) (error : Option Error)
    → number < 2 ^ 64 → IsPlainHead number head
    → length (echo_reply head handed error).body < 1000
    → IsShort (echo_reply head handed error).header
short_reply number head handed None small is fits =
    let n = length (echo_body head handed) in
    record {
      text = decimal n;
      line = omega arith;
      fields = fields_are number head n small is;
      few = length-decimal-le 20 n (omega arith) (omega arith) (omega arith);
    }
short_reply number head handed (Some error) small is fits =
    record { text = codes "0"; line = omega arith; fields = refl; few = omega arith }

body_len : (m t h : List ℕ)
    → length (m ++ (32 ∷ []) ++ t ++ (10 ∷ []) ++ h) ≡ length m + length t + length h + 2
body_len m t h = simp length-append (omega arith)

short_body : (number : ℕ) (head : RequestView) (handed : List ℕ) (error : Option Error)
    → number < 2 ^ 64 → IsPlainHead number head
    → length handed < 7 → length (echo_reply head handed error).body ≤ 60
short_body number head handed None small is few =
    omega (
      arith,
      body_len head.method head.target handed,
      is.method,
      ap
          length is.target,
      length-decimal-le 20 number (omega arith) (omega arith) small,
    )
short_body number head handed (Some error) small is few = omega arith

short_sent : (n : ℕ) (reply : Reply) (sent : Option (List ℕ)) → length reply.body ≤ 60
    → IfSome sent (λ sent. sent ≡ reply.body)
    → length (render_body (as_framing.Counted n) (Some reply) sent) ≤ 60
short_sent n reply None few h = omega arith
short_sent n reply (Some sent) few h =
    let same : shown (Some reply) sent ≡ reply.body =
    ap (shown (Some reply)) h ∙ shown_same reply reply.body refl in
    let taken : take n (shown (Some reply) sent) ≡ take n reply.body = ap (take n) same in
    omega (arith, ap length taken, length-take n reply.body)

render_as : (number : ℕ) (e : Entry) → IsKnown number e → (head : Option ResponseView)
    → e.sent_head ≡ head
    → IfSome head (λ header. (reply : Reply) × (e.reply ≡ Some reply) × (header ≡ reply.header)
    × IsLawful header × IsDated e)
    → length (render e) ≤ 500
render_as number e k None none h = rw none (omega arith)
render_as number e k (Some header) some h =
    let reply = h.0 in
    let gives =
    (at_some e.reply reply (λ reply. (e.filtered ≡ Some e.head)
    × EchoGives (given_to e e.head) reply) h.1 k.allowed.reply).1 in
    let plain : IsPlainHead number e.head =
    subst (IsPlainHead number) (sym k.asked_by.head) (plain_head number) in
    let handed = take e.handed e.body in
    let made = echo_reply e.head handed e.body_error in
    let body_few : length made.body ≤ 60 =
    short_body number e.head handed e.body_error k.small plain
    (omega (arith, k.asked_by.body, length-take e.handed e.body)) in
    let short =
    short_reply number e.head handed e.body_error k.small plain (omega (arith, body_few)) in
    let short_h : IsShort header =
    subst IsShort (ap (λ (r : Reply). r.header) (sym gives.is) ∙ sym h.2) short in
    let reply_few : length reply.body ≤ 60 =
    subst (λ (r : Reply). length r.body ≤ 60) (sym gives.is) body_few in
    let counted =
    subst (λ (r : Reply). out e.head.method r.header ≡ as_framing.Counted (length r.body))
    (sym gives.is)
    (out_is number e.head handed e.body_error k.small plain (omega (arith, body_few))) in
    let counted_h : out e.head.method header ≡ as_framing.Counted (length reply.body) =
    ap (out e.head.method) h.2 ∙ counted in
    let dated = h.4.date in
    let date_few : length e.date_text ≤ 40 =
    omega (arith, ap length dated.2, short_date dated.0.parts) in
    let front =
    short_head header short_h.text e.date_text e.keep short_h.line short_h.fields short_h.few
    date_few in
    let sent =
    short_sent (length reply.body) reply e.sent_body reply_few
    (body_of e reply e.sent_body h.1 k.allowed.sent_body) in
    rw some (rw (counted_h, h.1) (omega (
      arith,
      front,
      sent,
      length-append (head_bytes (reply_head header e.date_text e.keep))
          (render_body (as_framing.Counted (length reply.body)) (Some reply) e.sent_body),
    )))

renders_few : (es : List Entry) → AllByRecursion Known es
    → AllByRecursion (λ e. length (render e) ≤ 500) es
renders_few [] h = tt
renders_few (e ∷ more) h =
    (render_as h.0.0 e h.0.1 e.sent_head refl h.0.1.allowed.sent_head, renders_few more h.1)

-- so many bytes don't move
pub never_spent : (count : ℕ) (before old now : LinkState) (done : List Entry) (last : Option Entry)
    (since : List ℕ)
    → Over count before old now done last → before.written ≡ Some [] → now.written ≡ Some since
    → ToldGrowth before.given now.given before.written now.written 64_000_000 → ⊥
never_spent count before old now done last since o first then grew =
    let transcript = done ++ option_to_list last in
    let written : length since ≤ 500 * length transcript =
    written_few transcript since
    (renders_few transcript (known_of count before old now done last o))
    (told_of before.written now.written [] since
    (λ since. AreReplies since transcript) first then o.agrees.written) in
    let many = as_many 1 count transcript (asked_of count before old now done last o) in
    let given = given_few count 1 (omega (arith, o.few)) in
    let front : length (generated count) ≡ length o.gave.since + length o.gave.rest =
    ap length o.gave.input_is ∙ length-append o.gave.since o.gave.rest in
    let told : ToldGrowth (Some o.gave.front) (Some (o.gave.front ++ o.gave.since)) (Some [])
    (Some since) 64_000_000 =
    subst (λ x. ToldGrowth (Some o.gave.front) (Some (o.gave.front ++ o.gave.since))
    (Some []) x 64_000_000) then
    (subst (λ x. ToldGrowth (Some o.gave.front)
    (Some (o.gave.front ++ o.gave.since)) x now.written 64_000_000) first
    (subst (λ x. ToldGrowth
    (Some o.gave.front) x before.written now.written 64_000_000) o.gave.now_is
    (subst (λ x. ToldGrowth x now.given before.written now.written 64_000_000) o.gave.before_is
    grew))) in
    omega (arith, o.few, length-append o.gave.front o.gave.since)
