-- What a head of the grammar says can stand in a response.
use Rattle.std.proofs.Common.{◌≡◌, ◌≢◌, ℕ, ◌<◌, ◌≤◌, ◌-◌, true, false, Some, None, List, [], ◌++◌, length, map, take, drop, refl, sym, ap, ◌∙◌, arith, subst, nat_le, rules, tests, inl, inr, Option}
use Rattle.std.proofs.lemmas.List.{length-drop, nil_from_length}
use Rattle.httparse.specs.Grammar.{print_response, reason_phrase, status_code}
use Rattle.httparse.specs.Spans.{IsResponseOf, IsResponseWithin, header_bytes, name_and_value, span_bytes}
use Rattle.httparse.specs.declared.spans.HeaderSpan.{HeaderSpan}
use Rattle.httparse.specs.declared.spans.ResponseSpans.{ResponseSpans}
use Rattle.httparse.proofs.GrammarLemmas.{response_unique}
use Rattle.h1_cut.specs.Limit.{CutsAt}
use Rattle.h1_head.specs.Faults.{status_fault}
use Rattle.h1_error.specs.declared.head_fault.HeadFault.{HeadFault}
use Rattle.h1_error.specs.declared.head_fault.HeadFault.TheVariants.{BadStatus}
use Rattle.h1_head.specs.declared.limits.TheConstants.{MAX_HEADER_SIZE, MAX_HEADERS}
use Rattle.h1_head.specs.Views.{ResponseView}
use Rattle.h1_head.specs.declared.response_head.ResponseHead.{ResponseHead}
use Rattle.h1_head.specs.declared.response_grammar.Parsed.{Parsed}
use Rattle.h1_head.specs.declared.response_grammar.Parsed.TheVariants.{Faulty, Head, NoHead}
use Rattle.h1_head.specs.Normal.{normal}
use Rattle.h1_head.specs.ResponseGrammar.{HasNoHead, IsHead}
use Rattle.h1_head.specs.ResponseVerdict.{IsHeadAt, IsJudged, IsParsedAs, IsSettledAs, response_at, told}
use Rattle.h1_head.specs.ResponseHead.{IsFoundIn}
use Rattle.h1_head.proofs.FrontLemmas.{few_lines, read_same}
use Rattle.h1_head.proofs.NormalLemmas.{normal_of_grammar}

-- bytes behind a head are no part of it
pub longer_head : (bytes : List ℕ) (spans : List HeaderSpan) (head : ResponseSpans)
    → IsResponseOf bytes spans head → head.len < length bytes → HasNoHead bytes
longer_head bytes spans head parsed more spelled whole =
    let same =
    response_unique bytes spelled parsed.0 [] (drop head.len bytes) whole.reads parsed.1.reads in
    let none : 0 ≡ length bytes - head.len = ap length same.1 ∙ length-drop head.len bytes in
    omega arith

-- where the parser finds a head to the last byte, the bytes are one
pub whole_head : (bytes : List ℕ) (spans : List HeaderSpan) (head : ResponseSpans)
    → IsResponseWithin bytes spans head → IsResponseOf bytes spans head
    → length bytes ≤ head.len → length spans ≤ MAX_HEADERS → IsHeadAt bytes spans head
whole_head bytes spans head within parsed all few =
    let h = parsed.0 in
    let at = parsed.1 in
    let none : drop head.len bytes ≡ [] =
    nil_from_length _ (omega (arith, length-drop head.len bytes)) in
    let lines = few_lines bytes spans head.headers h.fields at.fields in
    record {
      within = within;
      parsed = parsed;
      says = (
        h,
        record {
          reads = (at.reads.0, at.reads.1 ∙ ap (λ rest. print_response h ++ rest) none);
          few = omega arith;
        },
        read_same (status_code h) head.code h.minor head.version (reason_phrase h.reason)
            (span_bytes bytes head.reason) (map name_and_value h.fields)
            (map (header_bytes bytes) (take head.headers spans)) (sym at.code) (sym at.version)
            (sym at.reason) (sym at.fields),
      );
    }

-- a status code of three digits has a fault where it is below 100
pub code_sound : (code : ℕ) → 100 ≤ code → code < 1000 → status_fault code ≡ None
code_sound code low high =
    let least : nat_le 100 code ≡ true = search (rules, tests) in
    let most : nat_le code 999 ≡ true = search (rules, tests) in
    rw (least, most) refl

pub code_faulty : (code : ℕ) → code < 100 → status_fault code ≡ Some BadStatus
code_faulty code low = let least : nat_le 100 code ≡ false = search (rules, tests) in rw least refl

-- what a head says has no fault
pub parsed_is : (bytes : List ℕ) (spans : List HeaderSpan) (head : ResponseSpans)
    (response : ResponseView) → IsHeadAt bytes spans head → 100 ≤ head.code
    → response ≡ response_at bytes spans head → IsParsedAs bytes response Head
parsed_is bytes spans head response is low same = (
  subst (λ (r : ResponseView). IsHead bytes r) (sym same) is.says,
  ap (λ (r : ResponseView). status_fault r.status) same
      ∙ code_sound head.code low is.within.code,
)

-- what the grammar makes of bytes that are a head as they came, it makes of their normal form
pub parsed_normal : (bytes : List ℕ) (response : ResponseView) (parsed : Parsed)
    → parsed ≢ NoHead → IsParsedAs bytes response parsed
    → IsParsedAs (normal bytes) response parsed
parsed_normal bytes response Head other (says, sound) =
    let same = normal_of_grammar bytes says.0 says.1.reads in
    (subst (λ (b : List ℕ). IsHead b response) (sym same) says, sound)
parsed_normal bytes response (Faulty fault) other (said, says, faulty) =
    let same = normal_of_grammar bytes says.0 says.1.reads in
    (said, subst (λ (b : List ℕ). IsHead b said) (sym same) says, faulty)
parsed_normal bytes response NoHead other none = absurd (other refl)

-- what the grammar makes of bytes that are a head, it makes of their normal form
pub front_normal : (bytes : List ℕ) (spans : List HeaderSpan) (head : ResponseSpans)
    (response : ResponseView) (parsed : Parsed) → IsHeadAt bytes spans head
    → IsParsedAs bytes response parsed → IsParsedAs (normal bytes) response parsed
front_normal bytes spans head response parsed is said =
    parsed_normal bytes response parsed
    (λ none. no_head (subst (IsParsedAs bytes response) none said)) said
  where
    no_head : HasNoHead bytes → ⊥
    no_head none = none is.says.0 is.says.1

-- what becomes of bytes that are a head, or none
pub settled_is : (bytes : List ℕ) (said : ResponseView) (head : ResponseHead) (parsed : Parsed)
    (fault : Option HeadFault) → IsParsedAs (normal bytes) said parsed
    → IsSettledAs said head.header parsed fault → head.raw ≡ bytes → IsJudged bytes head fault
settled_is bytes said head Head fault (says, sound) (none, is) raw =
    subst (IsJudged bytes head) (sym none)
    (record { said = said; says = says; sound = sound; response_is = is }, raw)
settled_is bytes said head (Faulty why) fault (other, says, faulty) is raw =
    subst (IsJudged bytes head) (sym is)
    (inr (record { said = other; says = says; faulty = faulty }))
settled_is bytes said head NoHead fault none is raw =
    subst (IsJudged bytes head) (sym is) (inl (none, refl))

-- what is known of a head that takes so many of the bytes
pub found_told : (bytes : List ℕ) (head : ResponseHead) (fault : Option HeadFault) (n : ℕ)
    → CutsAt MAX_HEADER_SIZE bytes n → IsJudged (take n bytes) head fault
    → IsFoundIn bytes head (told fault n)
found_told bytes head None n cuts (accepted, raw) =
    (record { cuts = cuts; accepted = accepted }, raw)
found_told bytes head (Some fault) n cuts refused = record { cause = inl (n, cuts, refused) }
