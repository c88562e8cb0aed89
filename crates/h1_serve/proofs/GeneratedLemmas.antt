-- Lemmas on the numbers that `gen N` tells.
use Rattle.std.proofs.Common.{◌≡◌, ℕ, zero, suc, ◌+◌, ◌*◌, ◌<◌, ◌≤◌, ◌%◌, ◌-◌, ◌^◌, min, List, [], ◌∷◌, ◌++◌, length, map, option_to_list, Option, Some, refl, sym, ap, subst, ◌∙◌, arith, append-nil, length-append, codes}
use Rattle.std.proofs.lemmas.List.{length-replicate}
use Rattle.std.proofs.lemmas.List.Concat.{flat_map-cons}
use Rattle.h1_error.specs.declared.progress.End.{End}
use Rattle.h1_error.specs.declared.progress.End.TheVariants as end
use Rattle.h1_error.specs.declared.progress.Progress.TheVariants as progress
use Rattle.h1_words.specs.Report.{answer_text}
use Rattle.h1_body.specs.Body.{payload_of}
use Rattle.h1_transcript.specs.Complete.{AreServed}
use Rattle.h1_transcript.specs.Stream.{Message}
use Rattle.h1_transcript.specs.Entries.{bodies}
use Rattle.h1_transcript.specs.Entry.{Entry}
use Rattle.h1_app.specs.View.{entries}
use Rattle.h1_generator.specs.Generated.{asked_as, asked, asked_from, form_of}
use Rattle.h1_generator.specs.Messages.{message_of, messages}
use Rattle.h1_generator.specs.declared.generator.Form.{Form}
use Rattle.h1_generator.specs.declared.generator.Form.TheVariants.{Plain, Counted, Chunked}
use Rattle.h1_link.specs.MemState.{MemState}
use Rattle.h1_serving.specs.Served.{EchoedView}
use Rattle.h1_serving.specs.Whole.{IsServedWhole}
use Rattle.h1_serve.specs.Generated.{payloads, count_line, gen_lines, TellsServed, IsGenText}

-- the bodies of exchanges that are these requests are their payloads
same_bodies : (done : List Entry) (requests : List Message) → AreServed done requests
    → bodies done ≡ payloads requests
same_bodies [] [] h = refl
same_bodies [] (m ∷ more) h = absurd h
same_bodies (e ∷ later) [] h = absurd h
same_bodies (e ∷ later) (m ∷ more) h =
    flat_map-cons (λ (x : Entry). x.body) e later ∙ ap (λ xs. xs ++ bodies later) h.2
    ∙ ap (λ xs. payload_of m.body ++ xs) (same_bodies later more h.3)
    ∙ sym (flat_map-cons (λ (x : Message). payload_of x.body) m more)

-- a request that is made has fewer than seven bytes of payload
short_payload : (form : Form) (number size : ℕ) → size < 7
    → length (asked_as form number size).payload < 7
short_payload Plain number size few = omega arith
short_payload Counted number size few = omega (arith, length-replicate {A = ℕ} size 97)
short_payload Chunked number size few = omega (arith, length-replicate {A = ℕ} size 98)

few_payloads : (count number : ℕ)
    → length (payloads (map message_of (asked_from number count))) ≤ 6 * count
few_payloads zero number = omega arith
few_payloads (suc count) number =
    let first = (asked number).payload in
    let short : length first < 7 =
    short_payload (form_of number) number (number % 7) (omega arith) in
    let later = map message_of (asked_from (number + 1) count) in
    let rest : length (payloads later) ≤ 6 * count = few_payloads count (number + 1) in
    let split : length (payloads (message_of (asked number) ∷ later))
    ≡ length first + length (payloads later) =
    ap length (flat_map-cons (λ (x : Message). payload_of x.body) (message_of (asked number)) later)
    ∙ length-append first (payloads later) in
    omega (arith, split, short, rest)

-- what is told of a connection that served all
pub record ToldOf (count : ℕ) (served : EchoedView MemState) : Type 0 where
  pub bodies_are : bodies (entries served) ≡ payloads (messages count)
  pub few : length (bodies (entries served)) ≤ 6 * count

pub told_of : (count : ℕ) (served : EchoedView MemState) → IsServedWhole count served → ToldOf count served
told_of count served whole =
    let all : entries served ≡ served.done =
    ap (λ o. served.done ++ option_to_list o) whole.complete.none ∙ append-nil served.done in
    let same : bodies (entries served) ≡ payloads (messages count) =
    ap bodies all ∙ same_bodies served.done (messages count) whole.served_all in
    record {
      bodies_are = same;
      few = subst (λ xs. length xs ≤ 6 * count) (sym same) (few_payloads count 1);
    }

-- the text of a connection that served all is that of its number
pub gen_text_of : (count : ℕ) (served : EchoedView MemState) (text : List ℕ) → IsServedWhole count served
    → TellsServed served text → IsGenText count text
gen_text_of count served text whole tells =
    let told = told_of count served whole in
    record {
      served = served;
      whole = whole;
      written = tells.written;
      told = tells.told;
      is = tells.is
          ∙ ap (λ n. gen_lines n (length (bodies (entries served))) (length tells.written))
          whole.many
          ∙ ap (λ xs. gen_lines count (length xs) (length tells.written)) told.bodies_are;
    }

-- four lines, one after the other
abbrev lines : ℕ → ℕ → ℕ → End → List ℕ
lines requests body written reason =
    count_line (codes "requests ") requests ++ count_line (codes "body bytes ") body
    ++ count_line (codes "written ") written ++ answer_text (progress.Ready reason) ++ (10 ∷ [])

-- the lines as they are added
pub record Adds (requests body written : ℕ) (reason : End) (text : List ℕ) : Type 0 where
  pub none : List ℕ
  pub one : List ℕ
  pub two : List ℕ
  pub three : List ℕ
  pub four : List ℕ
  pub none_is : none ≡ []
  pub one_is : one ≡ none ++ count_line (codes "requests ") requests
  pub two_is : two ≡ one ++ count_line (codes "body bytes ") body
  pub three_is : three ≡ two ++ count_line (codes "written ") written
  pub four_is : four ≡ three ++ answer_text (progress.Ready reason)
  pub text_is : text ≡ four ++ (10 ∷ [])

added : (requests body written : ℕ) (reason : End) (text : List ℕ)
    → Adds requests body written reason text → text ≡ lines requests body written reason
added requests body written reason text h =
    let first = count_line (codes "requests ") requests in
    let second = count_line (codes "body bytes ") body in
    let third = count_line (codes "written ") written in
    let fourth = answer_text (progress.Ready reason) in
    let one : h.one ≡ first = h.one_is ∙ ap (λ xs. xs ++ first) h.none_is in
    let two : h.two ≡ first ++ second = h.two_is ∙ ap (λ xs. xs ++ second) one in
    let three : h.three ≡ (first ++ second) ++ third = h.three_is ∙ ap (λ xs. xs ++ third) two in
    let four : h.four ≡ ((first ++ second) ++ third) ++ fourth =
    h.four_is ∙ ap (λ xs. xs ++ fourth) three in
    h.text_is ∙ ap (λ xs. xs ++ (10 ∷ [])) four

is_finished : (reason : End) (met : Option End) → Some reason ≡ met → met ≡ Some end.Finished
    → reason ≡ end.Finished
is_finished reason met is finished = cc

-- so they tell of the connection whose values they are
pub tells_of : (served : EchoedView MemState) (kept : List Entry) (requests body : ℕ) (reason : End)
    (written text : List ℕ)
    → kept ≡ entries served → requests ≡ min (length kept) (2 ^ 64 - 1)
    → body ≡ min (length (bodies kept)) (2 ^ 64 - 1)
    → length (entries served) < 2 ^ 64 → length (bodies (entries served)) < 2 ^ 64
    → Some reason ≡ served.end → served.end ≡ Some end.Finished
    → served.session.link.state.written ≡ Some written
    → Adds requests body (length written) reason text → TellsServed served text
tells_of served kept requests body reason written text same many paid few small is done told adds =
    let w = length written in
    let ended : reason ≡ end.Finished = is_finished reason served.end is done in
    let counted : requests ≡ length (entries served) =
    omega (arith, many, ap length same, few) in
    let measured : body ≡ length (bodies (entries served)) =
    omega (arith, paid, ap (λ es. length (bodies es)) same, small) in
    record {
      written = written;
      told = told;
      is = added requests body w reason text adds
          ∙ ap (λ r. lines requests body w r) ended
          ∙ ap (λ n. lines n body w end.Finished) counted
          ∙ ap (λ n. lines (length (entries served)) n w end.Finished) measured;
    }
