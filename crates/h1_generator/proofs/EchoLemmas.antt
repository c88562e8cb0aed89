-- What the echo application replies to a request that is made.
use Rattle.std.proofs.Common.{◌≡◌, ℕ, ◌<◌, ◌≤◌, ◌^◌, ◌%◌, List, [], ◌∷◌, length, refl, ◌∙◌, ap, arith, codes, decimal, bytes_eq, nat_lt, false, Option, Some, None, IfSome, ◌==◌}
use Rattle.std.specs.Str.Parse.{AllDigits}
use Rattle.std.proofs.lemmas.Bool.{ne_eqb}
use Rattle.std.proofs.lemmas.Bool.Decides.{nat_tests}
use Rattle.std.proofs.lemmas.Fmt.{decimal_is_IsNumeral}
use Rattle.std.proofs.lemmas.Str.Parse.{digit_from_value}
use Rattle.httparse.specs.Grammar.{trim_ows}
use Rattle.h1_error.specs.declared.error.Error.{Error}
use Rattle.h1_fields.specs.Names.{same_name}
use Rattle.h1_head.specs.Views.{RequestView, ResponseView}
use Rattle.h1_body.specs.Framing.{out}
use Rattle.h1_body.specs.declared.framing.Framing.TheVariants as as_framing
use Rattle.h1_transcript.specs.Behind.{is_until_close}
use Rattle.h1_transcript.specs.Exchange.{shown, is_short}
use Rattle.h1_transcript.specs.declared.reply.Reply.{Reply}
use Rattle.h1_transcript.specs.Entry.{Entry}
use Rattle.h1_application.specs.LengthLine.{length_line}
use Rattle.h1_echo.specs.Echo.{echo_body, echo_fields, echo_reply, refused_reply}
use Rattle.h1_generator.specs.Generated.{form_of, asked, asked_as, head_of}
use Rattle.h1_generator.specs.declared.generator.Form.{Form}
use Rattle.h1_generator.specs.declared.generator.Form.TheVariants.{Plain, Counted, Chunked}

-- digits are no name
no_name : (ds : List ℕ) (x : ℕ) (more : List ℕ) → 0 < length ds → AllDigits 10 ds → 57 < x
    → bytes_eq (47 ∷ ds) (47 ∷ x ∷ more) ≡ false
no_name [] x more some all high = absurd (omega arith)
no_name (d ∷ ds) x more some all high =
    let range = digit_from_value d all.0 in
    let test : (d == x) ≡ false = ne_eqb d x (λ e. absurd (omega arith)) in
    rw test refl

other_target : (number x : ℕ) (more : List ℕ) → number < 2 ^ 64 → 57 < x
    → bytes_eq (47 ∷ decimal number) (47 ∷ x ∷ more) ≡ false
other_target number x more small high =
    let is = decimal_is_IsNumeral number small in
    no_name (decimal number) x more is.0.0 is.0.1 high

-- the head of a request that is made: its target is a number, and its method GET or POST
pub record IsPlainHead (number : ℕ) (head : RequestView) : Type 0 where
  pub target : head.target ≡ 47 ∷ decimal number
  pub method : length head.method ≤ 4
  pub shows : bytes_eq head.method (codes "HEAD") ≡ false

plain_as : (form : Form) (number size : ℕ)
    → IsPlainHead number (head_of (asked_as form number size))
plain_as Plain number size = record { target = refl; method = omega arith; shows = refl }
plain_as Counted number size = record { target = refl; method = omega arith; shows = refl }
plain_as Chunked number size = record { target = refl; method = omega arith; shows = refl }

pub plain_head : (number : ℕ) → IsPlainHead number (head_of (asked number))
plain_head number = plain_as (form_of number) number (number % 7)

-- so the reply states its length
pub fields_are : (number : ℕ) (head : RequestView) (n : ℕ) → number < 2 ^ 64
    → IsPlainHead number head
    → echo_fields head.target n ≡ (codes "content-length", decimal n) ∷ []
fields_are number head n small is =
    let until : bytes_eq head.target (codes "/until") ≡ false =
    ap (λ t. bytes_eq t (codes "/until")) is.target
    ∙ other_target number 117 (codes "ntil") small (omega arith) in
    let chunk : bytes_eq head.target (codes "/chunk") ≡ false =
    ap (λ t. bytes_eq t (codes "/chunk")) is.target
    ∙ other_target number 99 (codes "hunk") small (omega arith) in
    let short : bytes_eq head.target (codes "/short") ≡ false =
    ap (λ t. bytes_eq t (codes "/short")) is.target
    ∙ other_target number 115 (codes "hort") small (omega arith) in
    rw (until, chunk, short) refl

-- and pipelining goes on
pub pipelines : (number : ℕ) (head : RequestView) → number < 2 ^ 64 → IsPlainHead number head
    → bytes_eq head.target (codes "/nopipe") ≡ false
pipelines number head small is =
    ap (λ t. bytes_eq t (codes "/nopipe")) is.target
    ∙ other_target number 110 (codes "opipe") small (omega arith)

-- a reply whose one field is a length has this length
counted_out : (method : List ℕ) (header : ResponseView) (n : ℕ)
    → bytes_eq method (codes "HEAD") ≡ false
    → header.status ≡ 200 → header.fields ≡ (codes "content-length", decimal n) ∷ [] → n < 2 ^ 64
    → out method header ≡ as_framing.Counted n
unfolding same_name
counted_out method header n shows status fields small =
    rw (status, shows, fields) (rw (length_line n small) refl)

refused_out : (method : List ℕ) → bytes_eq method (codes "HEAD") ≡ false
    → out method refused_reply.header ≡ as_framing.Counted 0
unfolding same_name trim_ows
refused_out method shows = rw shows refl

-- the reply states the length of its body
pub out_is : (number : ℕ) (head : RequestView) (handed : List ℕ) (error : Option Error)
    → number < 2 ^ 64
    → IsPlainHead number head → length (echo_reply head handed error).body < 2 ^ 63
    → out head.method (echo_reply head handed error).header
    ≡ as_framing.Counted (length (echo_reply head handed error).body)
out_is number head handed None small is fits =
    counted_out head.method (echo_reply head handed None).header
    (length (echo_body head handed)) is.shows refl
    (fields_are number head (length (echo_body head handed)) small is) (omega arith)
out_is number head handed (Some error) small is fits = refused_out head.method is.shows

pub shown_same : (reply : Reply) (body : List ℕ) → reply.body ≡ body
    → shown (Some reply) body ≡ body
shown_same reply [] is = rw is refl
shown_same reply (b ∷ body) is = rw is refl

never_below : (n : ℕ) → nat_lt n n ≡ false
never_below n = grind (arith, nat_tests)

-- so it isn't short
pub never_short : (e : Entry) (reply : Reply) (head : Option ResponseView) (sent : Option (List ℕ))
    → e.sent_head ≡ head → e.sent_body ≡ sent
    → IfSome head (λ header. (e.reply ≡ Some reply) × (header ≡ reply.header))
    → IfSome sent (λ sent. sent ≡ reply.body)
    → out e.head.method reply.header ≡ as_framing.Counted (length reply.body) → is_short e ≡ false
never_short e reply None sent head_is sent_is h b counted = rw head_is refl
never_short e reply (Some header) None head_is sent_is h b counted = rw (head_is, sent_is) refl
never_short e reply (Some header) (Some sent) head_is sent_is h b counted =
    rw (head_is, sent_is)
    (rw (h.1, counted)
    (rw h.0 (rw b (rw (shown_same reply reply.body refl) (never_below (length reply.body))))))

-- and its end isn't that of the link
pub never_closes : (e : Entry) (reply : Reply) (head : Option ResponseView)
    → e.sent_head ≡ head → IfSome head (λ header. (e.reply ≡ Some reply) × (header ≡ reply.header))
    → out e.head.method reply.header ≡ as_framing.Counted (length reply.body)
    → is_until_close e ≡ false
never_closes e reply None head_is h counted = rw head_is refl
never_closes e reply (Some header) head_is h counted = rw head_is (rw (h.1, counted) refl)
