-- The input that is made is valid.
use Rattle.std.proofs.Common.{◌≡◌, ℕ, zero, suc, ◌+◌, ◌<◌, ◌≤◌, ◌^◌, ◌%◌, List, [], ◌∷◌, ◌++◌, length, drop, map, replicate, refl, sym, ◌∙◌, ap, subst, arith, append_assoc, false}
use Rattle.std.specs.List.{AllByRecursion}
use Rattle.std.proofs.lemmas.List.{length-replicate, length-map}
use Rattle.h1_body.specs.Body.{whole}
use Rattle.h1_body.specs.Framing.{framing}
use Rattle.h1_body.specs.Reader.{body}
use Rattle.h1_body.specs.Writer.{body_bytes}
use Rattle.h1_body.specs.declared.framing.Framing.TheVariants as as_framing
use Rattle.h1_head.specs.RequestHead.{HeadAt}
use Rattle.h1_head.proofs.RequestHeadLemmas.{HeadAt-append}
use Rattle.h1_transcript.specs.Complete.{IsValid, IsWished}
use Rattle.h1_transcript.specs.Stream.{Parses, empty}
use Rattle.h1_generator.specs.Generated.{Asked, form_of, asked, asked_as, asked_from, head_of, print_head, print_asked, generated, generated_from}
use Rattle.h1_generator.specs.Messages.{message_of, messages}
use Rattle.h1_generator.specs.declared.generator.Form.{Form}
use Rattle.h1_generator.specs.declared.generator.Form.TheVariants.{Plain, Counted, Chunked}
use Rattle.h1_words.specs.declared.words.TheConstants.{MOST_GENERATED}
use Rattle.h1_generator.proofs.BodyLemmas.{counted_is_read, chunk_is_read}
use Rattle.h1_generator.proofs.HeadLemmas.{reads_back}

-- what follows a head that is made is its body, whole
body_back : (form : Form) (number size : ℕ) (rest : List ℕ) → size < 7
    → body (asked_as form number size).framing
    (body_bytes (asked_as form number size).framing (asked_as form number size).payload ++ rest)
    ≡ whole (asked_as form number size).payload
    (length (body_bytes (asked_as form number size).framing
    (asked_as form number size).payload))
body_back Plain number size rest few = counted_is_read [] rest
body_back Counted number size rest few =
    let run = replicate size 97 in
    subst (λ n. body (as_framing.Counted n) (body_bytes (as_framing.Counted n) run ++ rest)
    ≡ whole run (length (body_bytes (as_framing.Counted n) run)))
    (length-replicate size 97) (counted_is_read run rest)
body_back Chunked number size rest few =
    chunk_is_read (replicate size 98) rest (omega (arith, length-replicate {A = ℕ} size 98))

drop_front : (front rest : List ℕ) → drop (length front) (front ++ rest) ≡ rest
drop_front [] rest = refl
drop_front (b ∷ front) rest = drop_front front rest

-- the first of the requests, and what stands after it
pub record Front (a : Asked) (rest : List ℕ) : Type 0 where
  pub head : HeadAt (print_asked a ++ rest) (length (print_head a)) (head_of a) false
  pub read : body (framing (head_of a)) (drop (length (print_head a)) (print_asked a ++ rest))
      ≡ whole a.payload (length (body_bytes a.framing a.payload))
  pub behind : drop (length (body_bytes a.framing a.payload))
      (drop (length (print_head a)) (print_asked a ++ rest)) ≡ rest

pub front_of : (form : Form) (number size : ℕ) (rest : List ℕ) → number < 2 ^ 64 → size < 7
    → Front (asked_as form number size) rest
front_of form number size rest small few =
    let a = asked_as form number size in
    let back = reads_back form number size small few in
    let bytes = body_bytes a.framing a.payload in
    let joined : print_asked a ++ rest ≡ print_head a ++ (bytes ++ rest) =
    append_assoc (print_head a) bytes rest in
    let after : drop (length (print_head a)) (print_asked a ++ rest) ≡ bytes ++ rest =
    ap (drop (length (print_head a))) joined ∙ drop_front (print_head a) (bytes ++ rest) in
    record {
      head = subst (λ xs. HeadAt xs (length (print_head a)) (head_of a) false) (sym joined)
          (HeadAt-append (print_head a) (bytes ++ rest) (length (print_head a))
          (head_of a) false back.head);
      read = ap (body (framing (head_of a))) after ∙ ap (λ f. body f (bytes ++ rest)) back.framed
          ∙ body_back form number size rest few;
      behind = ap (drop (length bytes)) after ∙ drop_front bytes rest;
    }

parses_from : (count number : ℕ) → number + count < 2 ^ 64
    → Parses (generated_from number count) (map message_of (asked_from number count)) empty
parses_from zero number small = refl
parses_from (suc count) number small =
    let rest = generated_from (number + 1) count in
    let front =
    front_of (form_of number) number (number % 7) rest (omega (arith, small)) (omega arith) in (
      length (print_head (asked number)),
      front.head,
      front.read,
      subst (λ xs. Parses xs (map message_of (asked_from (number + 1) count)) empty)
          (sym front.behind) (parses_from count (number + 1) (omega (arith, small))),
    )

wished_from : (count number : ℕ) → number + count < 2 ^ 64
    → AllByRecursion IsWished (map message_of (asked_from number count))
wished_from zero number small = tt
wished_from (suc count) number small = (
  (reads_back (form_of number) number (number % 7) (omega (arith, small)) (omega arith)).wished,
  wished_from count (number + 1) (omega (arith, small)),
)

-- the requests that are made are valid input
pub valid : (count : ℕ) → count ≤ MOST_GENERATED → IsValid (generated count) (messages count)
valid count few =
    record {
      parses = parses_from count 1 (omega arith);
      wished = wished_from count 1 (omega arith);
    }

asked_many : (count number : ℕ) → length (asked_from number count) ≡ count
asked_many zero number = refl
asked_many (suc count) number = let more = asked_many count (number + 1) in omega arith

pub many : (count : ℕ) → length (messages count) ≡ count
many count = length-map (asked_from 1 count) message_of ∙ asked_many count 1
