-- Where the grammar of a head is complete, the head ends.
use Rattle.std.proofs.Common.{◌≡◌, ℕ, ◌+◌, ◌==◌, Bool, true, false, Option, Some, None, List, [], ◌∷◌, ◌++◌, length, All, IsTrue, refl, sym, ◌∙◌, ap, subst, arith, length-append, append_assoc}
use Rattle.std.specs.Char.{is_ascii_digit}
use Rattle.std.specs.List.{flat_map}
use Rattle.std.proofs.lemmas.Bool.{false≢true, ne_eqb}
use Rattle.std.proofs.lemmas.List.Elements.{All-head, All-tail}
use Rattle.httparse.specs.Grammar.{is_token_byte, is_uri_byte, is_value_byte, AllPass, IsToken, LineEnd, crlf, lf, print_end, print_blank, print_version, print_section, Field, IsField, print_field, RequestHead, IsRequestHead, print_request, ReadsRequest, print_reason, reason_phrase, ResponseHead, IsResponseHead, print_response, ReadsResponse}
use Rattle.h1_cut.specs.declared.line.LineSoFar.{LineSoFar}
use Rattle.h1_cut.specs.declared.line.LineSoFar.TheVariants.{Nothing, Cr, Text}
use Rattle.h1_cut.specs.Cut.{cut, cut_from}

-- how far a cut is: whether a line that isn't empty came, and what is there of the next; or its end
data Stand : Type 0 where
  on : Bool → LineSoFar → Stand
  ended : Stand

-- what it finds from an offset in the bytes that follow
abbrev finds : Stand → ℕ → List ℕ → Option ℕ
finds (on begun line) at rest = cut_from at begun line rest
finds ended at rest = Some at

-- these bytes bring it from one stand to another
record Goes (before : Stand) (bytes : List ℕ) (after : Stand) : Type 0 where
  go : (at : ℕ) (rest : List ℕ)
      → finds before at (bytes ++ rest) ≡ finds after (at + length bytes) rest

goes_on : {before middle after : Stand} {front bytes : List ℕ} → Goes before front middle
    → Goes middle bytes after → Goes before (front ++ bytes) after
goes_on {before} {middle} {after} {front} {bytes} first second = record {
  go = λ at rest.
      let same : at + length front + length bytes ≡ at + length (front ++ bytes) =
      omega (arith, length-append front bytes) in
      ap (finds before at) (append_assoc front bytes rest) ∙ first.go at (bytes ++ rest)
      ∙ second.go (at + length front) rest ∙ ap (λ k. finds after k rest) same;
}

none_at : {stand : Stand} → Goes stand [] stand
none_at {stand} = record {
  go = λ at rest. let same : at ≡ at + 0 = omega arith in ap (λ k. finds stand k rest) same;
}

-- one byte more in front
one_more : {before middle after : Stand} {b : ℕ} {bytes : List ℕ}
    → ((at : ℕ) (rest : List ℕ) → finds before at (b ∷ rest) ≡ finds middle (at + 1) rest)
    → Goes middle bytes after → Goes before (b ∷ bytes) after
one_more {before} {middle} {after} {b} {bytes} step more = record {
  go = λ at rest.
      let same : at + 1 + length bytes ≡ at + length (b ∷ bytes) = omega arith in
      step at (bytes ++ rest) ∙ more.go (at + 1) rest ∙ ap (λ k. finds after k rest) same;
}

-- one byte of a line that isn't empty
text_byte : {begun : Bool} {after : Stand} {bytes : List ℕ} (b : ℕ) → (b == 10) ≡ false
    → Goes (on begun Text) bytes after → Goes (on begun Text) (b ∷ bytes) after
text_byte b none = one_more (λ at rest. rw none refl)

-- a byte that passes a test is none that fails it
other_byte : (test : ℕ → Bool) (b c : ℕ) → test c ≡ false → test b ≡ true → (b == c) ≡ false
other_byte test b c fails passes =
    ne_eqb b c
    (λ e. false≢true (sym fails ∙ subst (λ (x : ℕ). test x ≡ true) e passes))

text : {begun : Bool} (test : ℕ → Bool) (bytes : List ℕ) → test 10 ≡ false → AllPass test bytes
    → Goes (on begun Text) bytes (on begun Text)
text test [] fails pass = none_at
text test (b ∷ bytes) fails pass =
    text_byte b (other_byte test b 10 fails (All-head (λ x. IsTrue (test x)) b bytes pass))
    (text test bytes fails (All-tail (λ x. IsTrue (test x)) b bytes pass))

-- a line that begins with a token isn't empty
token : {begun : Bool} (bytes : List ℕ) → IsToken bytes
    → Goes (on begun Nothing) bytes (on begun Text)
unfolding is_token_byte
token [] is = let some = is.0 in absurd (omega arith)
token (b ∷ bytes) is =
    let first : is_token_byte b ≡ true = All-head (λ x. IsTrue (is_token_byte x)) b bytes is.1 in
    let lf = other_byte is_token_byte b 10 refl first in
    let cr = other_byte is_token_byte b 13 refl first in
    one_more (λ at rest. rw (lf, cr) refl)
    (text is_token_byte bytes refl (All-tail (λ x. IsTrue (is_token_byte x)) b bytes is.1))

-- the end of a line: LF, or CR in front of it
line_end : {before after : Stand} (middle : Stand) (end : LineEnd)
    → ((at : ℕ) (rest : List ℕ) → finds before at (13 ∷ rest) ≡ finds middle (at + 1) rest)
    → ((at : ℕ) (rest : List ℕ) → finds middle at (10 ∷ rest) ≡ finds after (at + 1) rest)
    → ((at : ℕ) (rest : List ℕ) → finds before at (10 ∷ rest) ≡ finds after (at + 1) rest)
    → Goes before (print_end end) after
line_end middle crlf cr last alone = one_more cr (one_more last none_at)
line_end middle lf cr last alone = one_more alone none_at

text_end : {begun : Bool} (end : LineEnd) → Goes (on begun Text) (print_end end) (on true Nothing)
text_end {begun} end =
    line_end (on begun Text) end (λ at rest. refl) (λ at rest. refl) (λ at rest. refl)

blank_end : (end : LineEnd) → Goes (on false Nothing) (print_end end) (on false Nothing)
blank_end end =
    line_end (on false Cr) end (λ at rest. refl) (λ at rest. refl) (λ at rest. refl)

-- the empty line behind a line that isn't empty
last_end : (end : LineEnd) → Goes (on true Nothing) (print_end end) ended
last_end end =
    line_end (on true Cr) end (λ at rest. refl) (λ at rest. refl) (λ at rest. refl)

blanks : (ends : List LineEnd) → Goes (on false Nothing) (print_blank ends) (on false Nothing)
blanks [] = none_at
blanks (end ∷ ends) = goes_on (blank_end end) (blanks ends)

field : (f : Field) → IsField f → Goes (on true Nothing) (print_field f) (on true Nothing)
field f is =
    goes_on
    (goes_on (token f.name is.name) (text_byte 58 refl (text is_value_byte f.raw refl is.raw)))
    (text_end f.end)

field_lines : (fields : List Field) → All IsField fields
    → Goes (on true Nothing) (flat_map print_field fields) (on true Nothing)
field_lines [] are = none_at
field_lines (f ∷ fields) are =
    goes_on (field f (All-head IsField f fields are))
    (field_lines fields (All-tail IsField f fields are))

-- the lines of fields, and the empty line that ends them
section : (fields : List Field) (last : LineEnd) → All IsField fields
    → Goes (on true Nothing) (print_section fields last) ended
section fields last are = goes_on (field_lines fields are) (last_end last)

-- a version, behind its first byte
abbrev version_tail : ℕ → List ℕ
version_tail minor = 84 ∷ 84 ∷ 80 ∷ 47 ∷ 49 ∷ 46 ∷ (48 + minor) ∷ []

tail_goes : {begun : Bool} (minor : ℕ)
    → Goes (on begun Text) (version_tail minor) (on begun Text)
tail_goes minor =
    let digit : (48 + minor == 10) ≡ false = ne_eqb (48 + minor) 10 (λ e. absurd (omega arith)) in
    text_byte 84 refl (text_byte 84 refl (text_byte 80 refl (text_byte 47 refl (text_byte 49 refl
    (text_byte 46 refl (text_byte (48 + minor) digit none_at))))))

version : {begun : Bool} (minor : ℕ)
    → Goes (on begun Text) (print_version minor) (on begun Text)
version minor = text_byte 72 refl (tail_goes minor)

-- a version at the beginning of a line
first_version : {begun : Bool} (minor : ℕ)
    → Goes (on begun Nothing) (print_version minor) (on begun Text)
first_version minor = one_more (λ at rest. refl) (tail_goes minor)

head_goes : (h : RequestHead) → IsRequestHead h → Goes (on false Nothing) (print_request h) ended
unfolding print_request
head_goes h is =
    goes_on
    (goes_on
    (goes_on
    (goes_on (goes_on (blanks h.blank) (token h.method is.method))
    (text_byte 32 refl (text is_uri_byte h.target refl is.target.1)))
    (text_byte 32 refl (version h.minor)))
    (text_end h.line_end))
    (section h.fields h.last is.fields)

reason : {begun : Bool} (phrase : Option (List ℕ)) → AllPass is_value_byte (reason_phrase phrase)
    → Goes (on begun Text) (print_reason phrase) (on begun Text)
reason None pass = none_at
reason (Some phrase) pass = text_byte 32 refl (text is_value_byte phrase refl pass)

response_goes : (h : ResponseHead) → IsResponseHead h
    → Goes (on false Nothing) (print_response h) ended
unfolding print_response
response_goes h is =
    goes_on
    (goes_on
    (goes_on
    (goes_on (goes_on (blanks h.blank) (first_version h.minor))
    (text_byte 32 refl (text is_ascii_digit h.digits refl is.digits.1)))
    (reason h.reason is.reason))
    (text_end h.line_end))
    (section h.fields h.last is.fields)

-- bytes that begin with a request's head of the grammar are cut where it ends
pub cut_of_grammar : (bytes rest : List ℕ) (h : RequestHead) → ReadsRequest bytes h rest
    → cut bytes ≡ Some (length (print_request h))
cut_of_grammar bytes rest h reads =
    let same : 0 + length (print_request h) ≡ length (print_request h) = omega arith in
    ap cut reads.1 ∙ (head_goes h reads.0).go 0 rest ∙ ap Some same

-- the same of a response's
pub cut_of_response : (bytes rest : List ℕ) (h : ResponseHead) → ReadsResponse bytes h rest
    → cut bytes ≡ Some (length (print_response h))
cut_of_response bytes rest h reads =
    let same : 0 + length (print_response h) ≡ length (print_response h) = omega arith in
    ap cut reads.1 ∙ (response_goes h reads.0).go 0 rest ∙ ap Some same
