-- A head of the grammar is normal: no field line goes on with the one before it, and no white space
-- stands before a colon.
use Rattle.std.proofs.Common.{◌≡◌, ℕ, ◌+◌, ◌==◌, Bool, true, false, Option, Some, None, List, [], ◌∷◌, ◌++◌, get_or, map, reverse, All, IsTrue, refl, sym, ◌∙◌, ap, subst, arith, append_assoc, append-nil}
use Rattle.std.specs.Char.{is_ascii_digit}
use Rattle.std.specs.List.{flat_map, join_with_byte}
use Rattle.std.proofs.lemmas.Bool.{false≢true, ne_eqb}
use Rattle.std.proofs.lemmas.List.{reverse-reverse}
use Rattle.std.proofs.lemmas.List.Elements.{All-append, All-cons, All-head, All-nil, All-tail}
use Rattle.std.proofs.lemmas.List.Splits.{join_with_byte-slice_split, slice_split_at}
use Rattle.httparse.specs.Grammar.{is_token_byte, is_value_byte, skip_ows, AllPass, IsToken, LineEnd, crlf, lf, print_end, print_blank, print_version, print_reason, reason_phrase, print_section, Field, IsField, print_field, ResponseHead, IsResponseHead, print_response, ReadsResponse}
use Rattle.httparse.proofs.TrimLemmas.{AllPass-reverse}
use Rattle.h1_head.specs.Normal.{is_continuation, normal, normal_fields, normal_lines, parts_at, tight, tightened, unfolded, without_end_ows}

-- no byte is this one
abbrev Lacks : ℕ → List ℕ → Type 0
Lacks c bytes = All (λ b. (b == c) ≡ false) bytes

-- a byte that passes a test is none that fails it
pub other_byte : (test : ℕ → Bool) (b c : ℕ) → test c ≡ false → test b ≡ true → (b == c) ≡ false
other_byte test b c fails passes =
    ne_eqb b c
    (λ e. false≢true (sym fails ∙ subst (λ (x : ℕ). test x ≡ true) e passes))

lacks : (test : ℕ → Bool) (c : ℕ) (bytes : List ℕ) → test c ≡ false → AllPass test bytes
    → Lacks c bytes
lacks test c bytes fails pass = λ k d lt. other_byte test (get_or bytes k d) c fails (pass k d lt)

-- a line in a row of others

-- the CR of a line's end
abbrev cr_of : LineEnd → List ℕ
cr_of crlf = 13 ∷ []
cr_of lf = []

cr_lacks : (end : LineEnd) → Lacks 10 (cr_of end)
cr_lacks crlf = All-cons (λ b. (b == 10) ≡ false) 13 [] refl (All-nil (λ b. (b == 10) ≡ false))
cr_lacks lf = All-nil (λ b. (b == 10) ≡ false)

ends : (end : LineEnd) (rest : List ℕ) → print_end end ++ rest ≡ cr_of end ++ 10 ∷ rest
ends crlf rest = refl
ends lf rest = refl

-- a text without LF, and the end of its line
pub parts_line : (text : List ℕ) (end : LineEnd) (rest : List ℕ) → Lacks 10 text
    → parts_at 10 (text ++ (print_end end ++ rest)) ≡ (text ++ cr_of end) ∷ parts_at 10 rest
parts_line text end rest lack =
    ap (parts_at 10)
    (ap (λ more. text ++ more) (ends end rest) ∙ sym (append_assoc text (cr_of end) (10 ∷ rest)))
    ∙ slice_split_at (λ b. b == 10) (text ++ cr_of end) 10 rest
    (All-append (λ b. (b == 10) ≡ false) text (cr_of end) lack (cr_lacks end)) refl

-- lines to which nothing is done

record IsPlain (line : List ℕ) : Type 0 where
  starts : is_continuation line ≡ false
  stays : tight line ≡ line

unfolded_plain : (line : List ℕ) (lines : List (List ℕ)) → All IsPlain lines
    → unfolded line lines ≡ line ∷ lines
unfolded_plain line [] plain = refl
unfolded_plain line (next ∷ lines) plain =
    let first = All-head IsPlain next lines plain in
    let more = unfolded_plain next lines (All-tail IsPlain next lines plain) in
    rw (first.starts) (ap (λ rest. line ∷ rest) more)

tight_plain : (lines : List (List ℕ)) → All IsPlain lines → map tight lines ≡ lines
tight_plain [] plain = refl
tight_plain (line ∷ lines) plain =
    let first = All-head IsPlain line lines plain in
    let more = tight_plain lines (All-tail IsPlain line lines plain) in
    ap (λ rest. tight line ∷ rest) more ∙ ap (λ l. l ∷ lines) first.stays

fields_plain : (lines : List (List ℕ)) → All IsPlain lines → normal_fields lines ≡ lines
fields_plain [] plain = refl
fields_plain (line ∷ lines) plain =
    ap (map tight) (unfolded_plain line lines (All-tail IsPlain line lines plain))
    ∙ tight_plain (line ∷ lines) plain

-- the lines of fields

skip_none : (bytes : List ℕ) → AllPass is_token_byte bytes → skip_ows bytes ≡ bytes
unfolding is_token_byte
skip_none [] pass = refl
skip_none (b ∷ bytes) pass =
    let first : is_token_byte b ≡ true = All-head (λ x. IsTrue (is_token_byte x)) b bytes pass in
    let space = other_byte is_token_byte b 32 refl first in
    let tab = other_byte is_token_byte b 9 refl first in
    rw (space, tab) refl

name_stays : (name : List ℕ) → IsToken name → without_end_ows name ≡ name
name_stays name is =
    ap reverse (skip_none (reverse name) (AllPass-reverse is_token_byte name is.1))
    ∙ reverse-reverse name

name_starts : (name rest : List ℕ) → IsToken name → is_continuation (name ++ rest) ≡ false
unfolding is_token_byte
name_starts [] rest is = let some = is.0 in absurd (omega arith)
name_starts (b ∷ name) rest is =
    let first : is_token_byte b ≡ true = All-head (λ x. IsTrue (is_token_byte x)) b name is.1 in
    let space = other_byte is_token_byte b 32 refl first in
    let tab = other_byte is_token_byte b 9 refl first in
    rw (space, tab) refl

tightened_same : (name : List ℕ) (parts : List (List ℕ)) → without_end_ows name ≡ name
    → tightened (name ∷ parts) ≡ name ∷ parts
tightened_same name [] stays = refl
tightened_same name (value ∷ values) stays = ap (λ n. n ∷ value ∷ values) stays

-- a line whose name is a token
name_plain : (name rest : List ℕ) → IsToken name → IsPlain (name ++ 58 ∷ rest)
unfolding is_token_byte
name_plain name rest is =
    let lack : Lacks 58 name = lacks is_token_byte 58 name refl is.1 in
    let parts : parts_at 58 (name ++ 58 ∷ rest) ≡ name ∷ parts_at 58 rest =
    slice_split_at (λ b. b == 58) name 58 rest lack refl in
    record {
      starts = name_starts name (58 ∷ rest) is;
      stays =
          ap (join_with_byte 58)
          (ap tightened parts ∙ tightened_same name (parts_at 58 rest) (name_stays name is)
          ∙ sym parts)
          ∙ join_with_byte-slice_split 58 (name ++ 58 ∷ rest);
    }

cr_plain : (end : LineEnd) → IsPlain (cr_of end)
cr_plain crlf = record { starts = refl; stays = refl }
cr_plain lf = record { starts = refl; stays = refl }

field_lacks : (f : Field) → IsField f → Lacks 10 (f.name ++ 58 ∷ f.raw)
unfolding is_token_byte
field_lacks f is =
    All-append (λ b. (b == 10) ≡ false) f.name (58 ∷ f.raw)
    (lacks is_token_byte 10 f.name refl is.name.1)
    (All-cons (λ b. (b == 10) ≡ false) 58 f.raw refl (lacks is_value_byte 10 f.raw refl is.raw))

section_plain : (fields : List Field) (last : LineEnd) → All IsField fields
    → All IsPlain (parts_at 10 (flat_map print_field fields ++ print_end last))
section_plain [] last are =
    let parts : parts_at 10 (print_end last) ≡ cr_of last ∷ [] ∷ [] =
    ap (parts_at 10) (sym (append-nil (print_end last)))
    ∙ parts_line [] last [] (All-nil (λ b. (b == 10) ≡ false)) in
    subst (All IsPlain) (sym parts)
    (All-cons IsPlain (cr_of last) ([] ∷ []) (cr_plain last)
    (All-cons IsPlain [] [] (cr_plain lf) (All-nil IsPlain)))
section_plain (f ∷ fields) last are =
    let is = All-head IsField f fields are in
    let more = flat_map print_field fields ++ print_end last in
    let split : flat_map print_field (f ∷ fields) ++ print_end last
    ≡ (f.name ++ 58 ∷ f.raw) ++ (print_end f.end ++ more) =
    append_assoc (print_field f) (flat_map print_field fields) (print_end last)
    ∙ append_assoc (f.name ++ 58 ∷ f.raw) (print_end f.end) more in
    let line : (f.name ++ 58 ∷ f.raw) ++ cr_of f.end ≡ f.name ++ 58 ∷ (f.raw ++ cr_of f.end) =
    append_assoc f.name (58 ∷ f.raw) (cr_of f.end) in
    let parts =
    ap (parts_at 10) split ∙ parts_line (f.name ++ 58 ∷ f.raw) f.end more (field_lacks f is)
    ∙ ap (λ l. l ∷ parts_at 10 more) line in
    subst (All IsPlain) (sym parts)
    (All-cons IsPlain (f.name ++ 58 ∷ (f.raw ++ cr_of f.end)) (parts_at 10 more)
    (name_plain f.name (f.raw ++ cr_of f.end) is.name)
    (section_plain fields last (All-tail IsField f fields are)))

-- the lines of a head

blank_lines : (blank : List LineEnd) (rest : List ℕ)
    → normal_lines (parts_at 10 rest) ≡ parts_at 10 rest
    → normal_lines (parts_at 10 (print_blank blank ++ rest)) ≡ parts_at 10 (print_blank blank ++ rest)
blank_lines [] rest same = same
blank_lines (end ∷ ends) rest same =
    let more = print_blank ends ++ rest in
    let parts : parts_at 10 (print_blank (end ∷ ends) ++ rest) ≡ cr_of end ∷ parts_at 10 more =
    ap (parts_at 10) (append_assoc (print_end end) (print_blank ends) rest)
    ∙ parts_line [] end more (All-nil (λ b. (b == 10) ≡ false)) in
    ap normal_lines parts ∙ empty end (parts_at 10 more) (blank_lines ends rest same) ∙ sym parts
  where
    empty : (end : LineEnd) (lines : List (List ℕ)) → normal_lines lines ≡ lines
        → normal_lines (cr_of end ∷ lines) ≡ cr_of end ∷ lines
    empty crlf lines same = ap (λ l. (13 ∷ []) ∷ l) same
    empty lf lines same = ap (λ l. [] ∷ l) same

-- the status line, without its end
abbrev status_line : ResponseHead → List ℕ
status_line h = print_version h.minor ++ 32 ∷ h.digits ++ print_reason h.reason

reason_lacks : (reason : Option (List ℕ)) → AllPass is_value_byte (reason_phrase reason)
    → Lacks 10 (print_reason reason)
reason_lacks None pass = All-nil (λ b. (b == 10) ≡ false)
reason_lacks (Some phrase) pass =
    All-cons (λ b. (b == 10) ≡ false) 32 phrase refl (lacks is_value_byte 10 phrase refl pass)

version_lacks : (minor : ℕ) → Lacks 10 (print_version minor)
version_lacks minor =
    let digit : (48 + minor == 10) ≡ false = ne_eqb (48 + minor) 10 (λ e. absurd (omega arith)) in
    let P = λ (b : ℕ). (b == 10) ≡ false in
    let one = (48 + minor) ∷ [] in
    All-cons P 72 (84 ∷ 84 ∷ 80 ∷ 47 ∷ 49 ∷ 46 ∷ one) refl
    (All-cons P 84 (84 ∷ 80 ∷ 47 ∷ 49 ∷ 46 ∷ one) refl
    (All-cons P 84 (80 ∷ 47 ∷ 49 ∷ 46 ∷ one) refl (All-cons P 80 (47 ∷ 49 ∷ 46 ∷ one) refl
    (All-cons P 47 (49 ∷ 46 ∷ one) refl (All-cons P 49 (46 ∷ one) refl
    (All-cons P 46 one refl (All-cons P (48 + minor) [] digit (All-nil P))))))))

status_lacks : (h : ResponseHead) → IsResponseHead h → Lacks 10 (status_line h)
status_lacks h is =
    let P = λ (b : ℕ). (b == 10) ≡ false in
    All-append P (print_version h.minor ++ 32 ∷ h.digits) (print_reason h.reason)
    (All-append P (print_version h.minor) (32 ∷ h.digits) (version_lacks h.minor)
    (All-cons P 32 h.digits refl (lacks is_ascii_digit 10 h.digits refl is.digits.1)))
    (reason_lacks h.reason is.reason)

regroup : (a b c d e f : List ℕ) → ((((a ++ b) ++ c) ++ d) ++ e) ++ f ≡ a ++ (((b ++ c) ++ d) ++ (e ++ f))
regroup a b c d e f =
    append_assoc (((a ++ b) ++ c) ++ d) e f
    ∙ ap (λ x. x ++ (e ++ f)) (ap (λ x. x ++ d) (append_assoc a b c) ∙ append_assoc a (b ++ c) d)
    ∙ append_assoc a ((b ++ c) ++ d) (e ++ f)

pieces : (h : ResponseHead) → print_response h
    ≡ print_blank h.blank ++ (status_line h ++ (print_end h.line_end ++ print_section h.fields h.last))
unfolding print_response
pieces h =
    regroup (print_blank h.blank) (print_version h.minor) (32 ∷ h.digits) (print_reason h.reason)
    (print_end h.line_end) (print_section h.fields h.last)

status_normal : (h : ResponseHead) (lines : List (List ℕ)) → normal_fields lines ≡ lines
    → normal_lines ((status_line h ++ cr_of h.line_end) ∷ lines)
    ≡ (status_line h ++ cr_of h.line_end) ∷ lines
status_normal h lines same = ap (λ l. (status_line h ++ cr_of h.line_end) ∷ l) same

head_normal : (h : ResponseHead) → IsResponseHead h → normal (print_response h) ≡ print_response h
head_normal h is =
    let section = print_section h.fields h.last in
    let parts = parts_line (status_line h) h.line_end section (status_lacks h is) in
    let fields = fields_plain (parts_at 10 section) (section_plain h.fields h.last is.fields) in
    let same =
    blank_lines h.blank (status_line h ++ (print_end h.line_end ++ section))
    (ap normal_lines parts ∙ status_normal h (parts_at 10 section) fields ∙ sym parts) in
    let all = ap (parts_at 10) (pieces h) in
    ap (join_with_byte 10) (ap normal_lines all ∙ same ∙ sym all)
    ∙ join_with_byte-slice_split 10 (print_response h)

-- bytes that are a head of the grammar are their own normal form
pub normal_of_grammar : (bytes : List ℕ) (h : ResponseHead) → ReadsResponse bytes h []
    → normal bytes ≡ bytes
normal_of_grammar bytes h reads =
    let is : bytes ≡ print_response h = reads.1 ∙ append-nil (print_response h) in
    ap normal is ∙ head_normal h reads.0 ∙ sym is
