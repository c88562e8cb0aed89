-- The heads that are made are read back (RFC 9112, sections 2.2, 3 and 5).
use Rattle.std.proofs.Common.{◌≡◌, ℕ, ◌+◌, ◌<◌, ◌≤◌, ◌^◌, List, [], ◌∷◌, ◌++◌, length, take, Bool, true, false, Some, None, inl, refl, sym, ◌∙◌, ap, codes, decimal, arith, append-nil, append_assoc, length-append, ◌==◌}
use Rattle.std.specs.List.{All, AllByRecursion, list_all}
use Rattle.std.proofs.lemmas.List.Elements.{All-from_recursion}
use Rattle.std.specs.Char.{digit_value}
use Rattle.std.specs.Str.Parse.{AllDigits}
use Rattle.std.proofs.Math.Seq.{take-length}
use Rattle.std.proofs.lemmas.Bool.{ne_eqb, lt-ltb}
use Rattle.std.proofs.lemmas.Fmt.{decimal_is_IsNumeral, length-decimal-le, IsAscii-from_digits}
use Rattle.std.proofs.lemmas.List.Sums.{AllPass-from_list_all}
use Rattle.std.proofs.lemmas.Str.{IsUtf8-from_ascii, IsAscii-append}
use Rattle.std.proofs.lemmas.Str.Ascii.{IsAscii-from_all}
use Rattle.std.proofs.lemmas.Str.Parse.{digit_from_value}
use Rattle.httparse.specs.Grammar.{is_token_byte, is_uri_byte, Field, IsField, RequestHead, IsRequestHead, print_request}
use Rattle.h1_cut.specs.Cut.{cut, cut_from}
use Rattle.h1_cut.specs.declared.line.LineSoFar.TheVariants.{Text}
use Rattle.h1_cut.proofs.CutLemmas.{cut_front}
use Rattle.h1_head.specs.RequestFault.{first_fault, is_both, settled}
use Rattle.h1_head.specs.RequestGrammar.{request_of}
use Rattle.h1_head.specs.RequestHead.{HeadAt}
use Rattle.h1_head.specs.Views.{RequestView}
use Rattle.h1_body.specs.Framing.{framing}
use Rattle.h1_head.specs.Wish.{wish}
use Rattle.h1_generator.specs.Generated.{Asked, asked_as, print_head, head_of}
use Rattle.h1_generator.specs.declared.generator.Form.TheVariants.{Plain, Counted, Chunked}
use Rattle.h1_generator.specs.declared.generator.Form.{Form}
use Rattle.h1_generator.proofs.SpelledLemmas.{spelled_as, get_token, post_token, length_field, coding_field, coding_is_field, Says, plain_says, chunked_says, counted_says}

-- a line goes on over bytes that don't end it
cut_text : (text rest : List ℕ) (at : ℕ) (begun : Bool) → AllByRecursion (λ b. 10 < b) text
    → cut_from at begun Text (text ++ rest) ≡ cut_from (at + length text) begun Text rest
cut_text [] rest at begun h =
    let same : at ≡ at + 0 = omega arith in ap (λ k. cut_from k begun Text rest) same
cut_text (b ∷ text) rest at begun h =
    let test : (b == 10) ≡ false = ne_eqb b 10 (λ e. absurd (omega arith)) in
    let same : at + 1 + length text ≡ at + length (b ∷ text) = omega arith in
    rw test (cut_text text rest (at + 1) begun h.1 ∙ ap (λ k. cut_from k begun Text rest) same)

-- no digit ends a line
no_end : (ds : List ℕ) → AllDigits 10 ds → AllByRecursion (λ b. 10 < b) ds
no_end [] h = tt
no_end (b ∷ ds) h = let range = digit_from_value b h.0 in (omega arith, no_end ds h.1)

-- a digit may stand in a target
is_digit_uri : (b : ℕ) → digit_value b < 10 → is_uri_byte b ≡ true
is_digit_uri b h =
    let range = digit_from_value b h in
    let del : (b == 127) ≡ false = ne_eqb b 127 (λ e. absurd (omega arith)) in
    rw (lt-ltb 32 b (omega arith), del) refl

digits_uri : (ds : List ℕ) → AllDigits 10 ds → list_all is_uri_byte ds ≡ true
digits_uri [] h = refl
digits_uri (b ∷ ds) h = rw (is_digit_uri b h.0, digits_uri ds h.1) refl

-- the digits of a number
record Digits (ds : List ℕ) : Type 0 where
  some : 0 < length ds
  all : AllDigits 10 ds
  few : length ds ≤ 20

digits_of_number : (n : ℕ) → n < 2 ^ 64 → Digits (decimal n)
digits_of_number n small =
    let is = decimal_is_IsNumeral n small in
    record {
      some = is.0.0;
      all = is.0.1;
      few = length-decimal-le 20 n (omega arith) (omega arith) small;
    }

-- a head that is cut at its end, spelled so and without fault is accepted
record Accepts (bytes : List ℕ) (spelled : RequestHead) (view : RequestView) : Type 0 where
  cut_is : cut bytes ≡ Some (length bytes)
  short : length bytes ≤ 1000
  spells : IsRequestHead spelled
  printed : bytes ≡ print_request spelled
  few : length spelled.fields ≤ 256
  says : request_of spelled ≡ view
  settles : settled view ≡ view
  sound : first_fault view ≡ None
  single : is_both view ≡ false

head_at : (bytes : List ℕ) (spelled : RequestHead) (view : RequestView)
    → Accepts bytes spelled view → HeadAt bytes (length bytes) view false
head_at bytes spelled view a =
    let front = cut_front bytes (length bytes) a.cut_is in
    let whole : take (length bytes) bytes ≡ bytes = take-length bytes in
    record {
      cuts = record {
        cut_is = a.cut_is;
        own = front.2;
        some = front.0;
        limited = omega (arith, a.short);
        within = front.1;
      };
      accepted = rw whole (record {
        raw = bytes;
        said = view;
        read_as =
            inl (
              spelled,
              record {
                reads = (
                  a.spells,
                  a.printed
                      ∙ sym (append-nil (print_request spelled)),
                );
                few = a.few;
              },
              refl,
            );
        says = (
          spelled,
          record {
            reads = (
              a.spells,
              a.printed
                  ∙ sym (append-nil (print_request spelled)),
            );
            few = a.few;
          },
          a.says,
        );
        sound = ap first_fault a.settles ∙ a.sound;
        request_is = sym a.settles;
        both_is = sym a.single;
      });
    }

is_asked : (method ds : List ℕ) (fields : List Field) → Digits ds → (0 < length method)
    → list_all is_token_byte method ≡ true → All IsField fields
    → IsRequestHead (spelled_as method ds fields)
is_asked method ds fields d some token each = record {
  method = (some, AllPass-from_list_all is_token_byte method token);
  target = (omega arith, AllPass-from_list_all is_uri_byte (47 ∷ ds) (digits_uri ds d.all));
  target_text =
      IsUtf8-from_ascii (47 ∷ ds)
      (IsAscii-append (47 ∷ []) ds (IsAscii-from_all (47 ∷ []) slash)
      (IsAscii-from_digits ds d.all));
  minor = omega arith;
  fields = each;
}
  where
    slash : All (λ b. b < 128) (47 ∷ [])
    slash = All-from_recursion (λ b. b < 128) (47 ∷ []) (omega arith, tt)

some_is : (m n : ℕ) → m ≡ n → Some m ≡ Some n
some_is m n h = ap Some h

abbrev plain_tail : List ℕ
plain_tail = codes " HTTP/1.1" ++ (13 ∷ 10 ∷ 13 ∷ 10 ∷ [])

plain_cut : (ds : List ℕ) → Digits ds
    → cut (codes "GET /" ++ (ds ++ plain_tail)) ≡ Some (length ds + 18)
plain_cut ds d =
    let here : cut_from (5 + length ds) false Text plain_tail ≡ Some (length ds + 18) =
    some_is _ _ (omega arith) in
    cut_text ds plain_tail 5 false (no_end ds d.all) ∙ here

-- a request that is made is read back: its head, how its body is framed, and that it wishes the
-- connection to be kept
pub record ReadsBack (a : Asked) : Type 0 where
  pub head : HeadAt (print_head a) (length (print_head a)) (head_of a) false
  pub framed : framing (head_of a) ≡ a.framing
  pub wished : wish (head_of a) false ≡ true
  pub short : length (print_head a) ≤ 1000

accepts : (a : Asked) (spelled : RequestHead) → cut (print_head a) ≡ Some (length (print_head a))
    → length (print_head a) ≤ 1000 → IsRequestHead spelled → print_head a ≡ print_request spelled
    → length spelled.fields ≤ 256 → Says spelled (head_of a) a.framing → ReadsBack a
accepts a spelled cuts short spells printed few says = record {
  head = head_at (print_head a) spelled (head_of a) (record {
    cut_is = cuts;
    short = short;
    spells = spells;
    printed = printed;
    few = few;
    says = says.says;
    settles = says.settles;
    sound = says.sound;
    single = says.single;
  });
  framed = says.framed_so;
  wished = says.wished;
  short = short;
}

no_field : All IsField []
no_field = All-from_recursion IsField [] tt

one_field : (f : Field) → IsField f → All IsField (f ∷ [])
one_field f is = All-from_recursion IsField (f ∷ []) (is, tt)

plain_bytes : (number size : ℕ)
    → print_head (asked_as Plain number size) ≡ codes "GET /" ++ (decimal number ++ plain_tail)
plain_bytes number size = simp append_assoc

plain_spelled : (number size : ℕ) → print_head (asked_as Plain number size)
    ≡ print_request (spelled_as (codes "GET") (decimal number) [])
unfolding print_request
plain_spelled number size = simp append_assoc

plain_back : (number size : ℕ) → number < 2 ^ 64 → ReadsBack (asked_as Plain number size)
plain_back number size small =
    let d = digits_of_number number small in
    let a = asked_as Plain number size in
    let long : length (print_head a) ≡ length (decimal number) + 18 =
    ap length (plain_bytes number size) ∙ simp length-append (omega arith) in
    accepts a (spelled_as (codes "GET") (decimal number) [])
    (ap cut (plain_bytes number size) ∙ plain_cut (decimal number) d ∙ ap Some (sym long))
    (omega (arith, d.few, long))
    (is_asked (codes "GET") (decimal number) [] d (omega arith) get_token no_field)
    (plain_spelled number size) (omega arith) (plain_says (decimal number))

-- the chunked form
abbrev chunked_tail : List ℕ
chunked_tail =
    codes " HTTP/1.1" ++ (13 ∷ 10 ∷ []) ++ codes "Transfer-Encoding: chunked"
    ++ (13 ∷ 10 ∷ 13 ∷ 10 ∷ [])

chunked_cut : (ds : List ℕ) → Digits ds
    → cut (codes "POST /" ++ (ds ++ chunked_tail)) ≡ Some (length ds + 47)
chunked_cut ds d =
    let here : cut_from (6 + length ds) false Text chunked_tail ≡ Some (length ds + 47) =
    some_is _ _ (omega arith) in
    cut_text ds chunked_tail 6 false (no_end ds d.all) ∙ here

regroup : (m p a h e n c s e2 : List ℕ)
    → m ++ (p ++ a) ++ h ++ e ++ (n ++ c ++ s ++ e ++ []) ++ e
    ≡ (m ++ p) ++ (a ++ (h ++ (e ++ (n ++ (c ++ (s ++ (e ++ e)))))))
regroup m p a h e n c s e2 = simp (append_assoc, append-nil)

chunked_bytes : (number size : ℕ)
    → print_head (asked_as Chunked number size) ≡ codes "POST /" ++ (decimal number ++ chunked_tail)
chunked_bytes number size =
    regroup (codes "POST") (32 ∷ 47 ∷ []) (decimal number) (codes " HTTP/1.1") (13 ∷ 10 ∷ [])
    (codes "Transfer-Encoding") (codes ": ") (codes "chunked") []

-- a head with one field line is spelled so
respell : (m t v e n c s : List ℕ)
    → m ++ t ++ v ++ e ++ (n ++ c ++ s ++ e ++ []) ++ e
    ≡ [] ++ m ++ t ++ v ++ e ++ (n ++ (c ++ s) ++ e ++ [] ++ e)
respell m t v e n c s = simp (append_assoc, append-nil)

chunked_spelled : (number size : ℕ) → print_head (asked_as Chunked number size)
    ≡ print_request (spelled_as (codes "POST") (decimal number) (coding_field ∷ []))
unfolding print_request
chunked_spelled number size =
    respell (codes "POST") (32 ∷ 47 ∷ decimal number) (codes " HTTP/1.1") (13 ∷ 10 ∷ [])
    (codes "Transfer-Encoding") (codes ": ") (codes "chunked")

chunked_back : (number size : ℕ) → number < 2 ^ 64 → ReadsBack (asked_as Chunked number size)
chunked_back number size small =
    let d = digits_of_number number small in
    let a = asked_as Chunked number size in
    let long : length (print_head a) ≡ length (decimal number) + 47 =
    ap length (chunked_bytes number size) ∙ simp length-append (omega arith) in
    accepts a (spelled_as (codes "POST") (decimal number) (coding_field ∷ []))
    (ap cut (chunked_bytes number size) ∙ chunked_cut (decimal number) d ∙ ap Some (sym long))
    (omega (arith, d.few, long))
    (is_asked (codes "POST") (decimal number) (coding_field ∷ []) d (omega arith) post_token
    (one_field coding_field coding_is_field))
    (chunked_spelled number size) (omega arith) (chunked_says (decimal number))

-- the form with a length
abbrev counted_middle : List ℕ
counted_middle = codes " HTTP/1.1" ++ (13 ∷ 10 ∷ []) ++ codes "Content-Length: "

counted_cut : (ds text : List ℕ) → Digits ds → AllDigits 10 text
    → cut (codes "POST /" ++ (ds ++ (counted_middle ++ (text ++ (13 ∷ 10 ∷ 13 ∷ 10 ∷ [])))))
    ≡ Some (length ds + length text + 37)
counted_cut ds text d all =
    let tail = text ++ (13 ∷ 10 ∷ 13 ∷ 10 ∷ []) in
    let last : cut_from (6 + length ds + 27 + length text) true Text (13 ∷ 10 ∷ 13 ∷ 10 ∷ [])
    ≡ Some (length ds + length text + 37) =
    some_is _ _ (omega arith) in
    let at : 6 + length ds + 1 + 1 + 1 + 1 + 1 + 1 + 1 + 1 + 1 + 1 + 1 + 1 + 1 + 1 + 1 + 1 + 1 + 1
    + 1 + 1 + 1 + 1 + 1 + 1 + 1 + 1 + 1 ≡ 6 + length ds + 27 = omega arith in
    cut_text ds (counted_middle ++ tail) 6 false (no_end ds d.all)
    ∙ ap (λ k. cut_from k true Text tail) at
    ∙ cut_text text (13 ∷ 10 ∷ 13 ∷ 10 ∷ []) (6 + length ds + 27) true (no_end text all) ∙ last

counted_bytes : (number size : ℕ) → print_head (asked_as Counted number size)
    ≡ codes "POST /"
    ++ (decimal number ++ (counted_middle ++ (decimal size ++ (13 ∷ 10 ∷ 13 ∷ 10 ∷ []))))
counted_bytes number size =
    regroup (codes "POST") (32 ∷ 47 ∷ []) (decimal number) (codes " HTTP/1.1") (13 ∷ 10 ∷ [])
    (codes "Content-Length") (codes ": ") (decimal size) []

counted_spelled : (number size : ℕ) → print_head (asked_as Counted number size)
    ≡ print_request (spelled_as (codes "POST") (decimal number) (length_field (decimal size) ∷ []))
unfolding print_request
counted_spelled number size =
    respell (codes "POST") (32 ∷ 47 ∷ decimal number) (codes " HTTP/1.1") (13 ∷ 10 ∷ [])
    (codes "Content-Length") (codes ": ") (decimal size)

counted_back : (number size : ℕ) → number < 2 ^ 64 → size < 7
    → ReadsBack (asked_as Counted number size)
counted_back number size small few =
    let d = digits_of_number number small in
    let s = digits_of_number size (omega arith) in
    let a = asked_as Counted number size in
    let says = counted_says (decimal number) size few in
    let long : length (print_head a) ≡ length (decimal number) + length (decimal size) + 37 =
    ap length (counted_bytes number size) ∙ simp length-append (omega arith) in
    accepts a (spelled_as (codes "POST") (decimal number) (length_field (decimal size) ∷ []))
    (ap cut (counted_bytes number size) ∙ counted_cut (decimal number) (decimal size) d s.all
    ∙ ap Some (sym long))
    (omega (arith, d.few, s.few, long))
    (is_asked (codes "POST") (decimal number) (length_field (decimal size) ∷ []) d
    (omega arith) post_token (one_field (length_field (decimal size)) says.field))
    (counted_spelled number size) (omega arith) says.read

-- so each request is read back
pub reads_back : (form : Form) (number size : ℕ) → number < 2 ^ 64 → size < 7
    → ReadsBack (asked_as form number size)
reads_back Plain number size small few = plain_back number size small
reads_back Counted number size small few = counted_back number size small few
reads_back Chunked number size small few = chunked_back number size small
