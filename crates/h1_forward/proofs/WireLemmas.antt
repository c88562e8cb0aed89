-- The bytes of a request that the grammar admits as it stands are a head, which says that request.
use Rattle.std.proofs.Common.{◌≡◌, ℕ, zero, suc, ◌≤◌, Bool, true, false, All, IsTrue, Some, None, IsSome, List, [], ◌∷◌, ◌++◌, length, take, map, refl, sym, ap, ◌∙◌, subst, inl, arith, append_assoc, append-nil}
use Rattle.std.specs.List.{flat_map}
use Rattle.std.specs.Prelude.{option_map}
use Rattle.std.proofs.lemmas.List.{length-map, take_at}
use Rattle.std.proofs.lemmas.List.Elements.{All-cons, All-head, All-tail, All-map, All-weaker}
use Rattle.std.proofs.lemmas.Bool.Decides.{nat_tests}
use Rattle.httparse.specs.Grammar as grammar
use Rattle.httparse.specs.Grammar.{AllPass, IsToken, LineEnd, crlf, Field, IsField, print_field, print_end, print_version, RequestHead, IsRequestHead, ReadsRequest, is_uri_byte, is_value_byte, trim_ows}
use Rattle.httparse.specs.Spans.{name_and_value}
use Rattle.httparse.proofs.GrammarLemmas.{cons-append}
use Rattle.h1_cut.specs.Cut.{cut}
use Rattle.h1_cut.specs.Limit.{CutsAt}
use Rattle.h1_cut.proofs.CutLemmas.{cut_front}
use Rattle.h1_fields.specs.Lines.{Line, print_line, print_lines}
use Rattle.h1_head.specs.declared.limits.TheConstants.{MAX_HEADER_SIZE}
use Rattle.h1_head.specs.RequestFault.{first_fault, is_both, settled}
use Rattle.h1_head.specs.RequestGrammar.{IsHeadOf, request_of}
use Rattle.h1_head.specs.RequestHead.{HeadAt, IsAccepted}
use Rattle.h1_head.specs.Versions.{minor_version, version_name}
use Rattle.h1_head.specs.Views.{RequestView}
use Rattle.h1_head.specs.Wire.{has_forbidden_byte, is_forbidden_byte, print_request, request_bytes}
use Rattle.h1_head.proofs.HeadEndLemmas.{cut_of_grammar}
use Rattle.h1_head.proofs.RequestHeadLemmas.{HeadAt-append, HeadAt-unique}
use Rattle.h1_forward.specs.Plain.{IsPlain, IsPlainLine, ReadsBack, on_wire}

-- the line as it is written, with one space after the colon
abbrev spelled_line : Line → Field
spelled_line line = record { name = line.0; raw = 32 ∷ line.1; end = crlf }

-- the head as it is written
abbrev pub spelled : RequestView → ℕ → RequestHead
spelled request minor = record {
  blank = [];
  method = request.method;
  target = request.target;
  minor = minor;
  line_end = crlf;
  fields = map spelled_line request.fields;
  last = crlf;
}

line_spelled : (line : Line) → print_line line ≡ print_field (spelled_line line)
line_spelled line =
    ap (λ bytes. bytes ++ (13 ∷ 10 ∷ [])) (append_assoc line.0 (58 ∷ 32 ∷ []) line.1)

lines_spelled : (lines : List Line) → print_lines lines ≡ flat_map print_field (map spelled_line lines)
lines_spelled [] = refl
lines_spelled (line ∷ lines) =
    ap (λ first. first ++ print_lines lines) (line_spelled line)
    ∙ ap (λ rest. print_field (spelled_line line) ++ rest) (lines_spelled lines)

regroup : (m t v e ls : List ℕ)
    → (m ++ (32 ∷ []) ++ t ++ (32 ∷ []) ++ v ++ e) ++ ls ++ e
    ≡ m ++ 32 ∷ t ++ 32 ∷ v ++ e ++ (ls ++ e)
regroup m t v e ls = simp (append_assoc, cons-append)

-- the bytes that are written are those of the head as the grammar prints it
pub written_as : (request : RequestView) (minor : ℕ)
    → print_request request (print_version minor) ≡ grammar.print_request (spelled request minor)
unfolding grammar.print_request
written_as request minor =
    regroup request.method request.target (print_version minor) (13 ∷ 10 ∷ [])
    (print_lines request.fields)
    ∙ ap (λ lines. request.method ++ 32 ∷ request.target ++ 32 ∷ print_version minor
    ++ (13 ∷ 10 ∷ []) ++ (lines ++ (13 ∷ 10 ∷ [])))
    (lines_spelled request.fields)

-- no byte of a target of the grammar ends it
not_forbidden : (b : ℕ) → is_uri_byte b ≡ true → is_forbidden_byte b ≡ false
not_forbidden b is = grind (arith, nat_tests)

none_forbidden : (target : List ℕ) → AllPass is_uri_byte target → has_forbidden_byte target ≡ false
none_forbidden [] pass = refl
none_forbidden (b ∷ bytes) pass =
    let first : is_forbidden_byte b ≡ false =
    not_forbidden b (All-head (λ x. IsTrue (is_uri_byte x)) b bytes pass) in
    rw first (none_forbidden bytes (All-tail (λ x. IsTrue (is_uri_byte x)) b bytes pass))

name_of_minor : (minor : ℕ) → minor ≤ 1 → version_name (minor_version minor) ≡ Some (print_version minor)
name_of_minor zero small = refl
name_of_minor (suc zero) small = refl
name_of_minor (suc (suc n)) small = absurd (omega arith)

-- the bytes of such a request
pub bytes_are : (request : RequestView) (plain : IsPlain request)
    → request_bytes request ≡ Some (grammar.print_request (spelled request plain.version.0))
bytes_are request plain =
    let clean : has_forbidden_byte request.target ≡ false =
    none_forbidden request.target plain.target.visible in
    let named : version_name request.version ≡ Some (print_version plain.version.0) =
    ap version_name plain.version.2 ∙ name_of_minor plain.version.0 plain.version.1 in
    rw clean
    (ap (option_map (print_request request)) named
    ∙ ap Some (written_as request plain.version.0))

field_is : (line : Line) → IsPlainLine line → IsField (spelled_line line)
field_is line plain = record {
  name = plain.name;
  raw = All-cons (λ b. IsTrue (is_value_byte b)) 32 line.1 refl plain.value;
}

fields_are : (lines : List Line) → All IsPlainLine lines → All IsField (map spelled_line lines)
fields_are lines plain =
    All-map IsField spelled_line lines
    (All-weaker IsPlainLine (λ line. IsField (spelled_line line)) field_is lines plain)

-- a space before a value isn't part of it
space_goes : (value : List ℕ) → trim_ows (32 ∷ value) ≡ trim_ows value
unfolding trim_ows
space_goes value = refl

-- the lines say what was written
lines_said : (lines : List Line) → All IsPlainLine lines → map name_and_value (map spelled_line lines) ≡ lines
lines_said [] plain = refl
lines_said (line ∷ lines) plain =
    let first = All-head IsPlainLine line lines plain in
    let value : trim_ows (32 ∷ line.1) ≡ line.1 = space_goes line.1 ∙ first.trimmed in
    ap (λ v. (line.0, v) ∷ map name_and_value (map spelled_line lines)) value
    ∙ ap (λ rest. line ∷ rest) (lines_said lines (All-tail IsPlainLine line lines plain))

-- the head as it is written is one of the grammar
pub spelled_is : (request : RequestView) (plain : IsPlain request)
    → IsRequestHead (spelled request plain.version.0)
spelled_is request plain = record {
  method = plain.method;
  target = (plain.target.some, plain.target.visible);
  target_text = plain.target.text;
  minor = plain.version.1;
  fields = fields_are request.fields plain.lines;
}

says : (request : RequestView) (plain : IsPlain request)
    → request_of (spelled request plain.version.0) ≡ on_wire request
says request plain =
    ap (λ lines. record (on_wire request) { version = minor_version plain.version.0; fields = lines })
    (lines_said request.fields plain.lines)
    ∙ ap (λ version. record (on_wire request) { version = version }) (sym plain.version.2)

head_of : (request : RequestView) (plain : IsPlain request)
    → IsHeadOf (grammar.print_request (spelled request plain.version.0)) (spelled request plain.version.0)
head_of request plain =
    let bytes = grammar.print_request (spelled request plain.version.0) in
    let same : length (map spelled_line request.fields) ≡ length request.fields =
    length-map request.fields spelled_line in
    let few = plain.few in
    record {
      reads = (spelled_is request plain, sym (append-nil bytes));
      few = omega arith;
    }

-- nothing goes where at most one of Content-Length and Transfer-Encoding is there
settles : (request : RequestView) → is_both request ≡ false → settled request ≡ request
settles request one = rw one refl

-- these bytes are accepted as this request
accepted : (request : RequestView) (plain : IsPlain request) → first_fault (on_wire request) ≡ None
    → IsAccepted (grammar.print_request (spelled request plain.version.0)) (on_wire request) false
accepted request plain sound =
    let bytes = grammar.print_request (spelled request plain.version.0) in
    let head = head_of request plain in
    let whole : settled (on_wire request) ≡ on_wire request =
    settles (on_wire request) plain.one_length in
    record {
      raw = bytes;
      said = on_wire request;
      read_as = inl (spelled request plain.version.0, head, refl);
      says = (spelled request plain.version.0, head, says request plain);
      sound = ap first_fault whole ∙ sound;
      request_is = sym whole;
      both_is = sym plain.one_length;
    }

cuts_all : (bytes : List ℕ) → cut bytes ≡ Some (length bytes) → length bytes ≤ MAX_HEADER_SIZE
    → CutsAt MAX_HEADER_SIZE bytes (length bytes)
cuts_all bytes is limited =
    let front = cut_front bytes (length bytes) is in
    record { cut_is = is; own = front.2; some = front.0; limited = limited; within = front.1 }

all_of : (bytes : List ℕ) → take (length bytes) bytes ≡ bytes
all_of bytes = ap (take (length bytes)) (sym (append-nil bytes)) ∙ take_at bytes [] (length bytes) refl

reads_printed : (request : RequestView) (plain : IsPlain request)
    → first_fault (on_wire request) ≡ None
    → length (grammar.print_request (spelled request plain.version.0)) ≤ MAX_HEADER_SIZE
    → ReadsBack (grammar.print_request (spelled request plain.version.0)) (on_wire request)
reads_printed request plain sound limited =
    let bytes = grammar.print_request (spelled request plain.version.0) in
    let head = head_of request plain in
    let is = cut_of_grammar bytes [] (spelled request plain.version.0) head.reads in
    let at : HeadAt bytes (length bytes) (on_wire request) false = record {
      cuts = cuts_all bytes is limited;
      accepted = subst (λ (own : List ℕ). IsAccepted own (on_wire request) false) (sym (all_of bytes))
          (accepted request plain sound);
    } in
    record {
      head = λ more. HeadAt-append bytes more (length bytes) (on_wire request) false at;
      raw = inl (spelled request plain.version.0, head, refl);
    }

some_same : (one other : List ℕ) → Some one ≡ Some other → one ≡ other
some_same one other same = cc

pub has_bytes : (request : RequestView) → IsPlain request → IsSome (request_bytes request)
has_bytes request plain = rw (bytes_are request plain) refl

-- a request that is written is read back
pub reads_back : (request : RequestView) (bytes : List ℕ) → IsPlain request
    → first_fault (on_wire request) ≡ None → request_bytes request ≡ Some bytes
    → length bytes ≤ MAX_HEADER_SIZE → ReadsBack bytes (on_wire request)
reads_back request bytes plain sound are limited =
    let same = some_same _ _ (sym (bytes_are request plain) ∙ are) in
    subst (λ (own : List ℕ). ReadsBack own (on_wire request)) same
    (reads_printed request plain sound
    (subst (λ (own : List ℕ). length own ≤ MAX_HEADER_SIZE) (sym same) limited))

-- and as no other request
pub reads_alone : (request other : RequestView) (bytes more : List ℕ) (n : ℕ) (both : Bool)
    → ReadsBack bytes request → HeadAt (bytes ++ more) n other both
    → (n ≡ length bytes) × (other ≡ request) × (both ≡ false)
reads_alone request other bytes more n both back at =
    HeadAt-unique (bytes ++ more) n (length bytes) other request both false at (back.head more)
