-- What a head at the front of the bytes says is what its own bytes say.
use Rattle.std.proofs.Common.{◌≡◌, ℕ, ◌≤◌, List, [], ◌∷◌, ◌++◌, length, take, drop, map, All, Some, refl, sym, ◌∙◌, ap, arith, append-nil}
use Rattle.std.proofs.lemmas.Grind.{common_steps}
use Rattle.std.proofs.lemmas.List.{length-take}
use Rattle.std.proofs.lemmas.List.Elements.{All-head, All-tail}
use Rattle.bytes.proofs.Ranges.{slice_range_front}
use Rattle.httparse.specs.Grammar.{Field, RequestHead, ResponseHead, print_request, print_response, reason_phrase, status_code}
use Rattle.httparse.specs.declared.spans.Span.{Span}
use Rattle.httparse.specs.declared.spans.HeaderSpan.{HeaderSpan}
use Rattle.httparse.specs.declared.spans.RequestSpans.{RequestSpans}
use Rattle.httparse.specs.declared.spans.ResponseSpans.{ResponseSpans}
use Rattle.httparse.specs.Spans.{IsHeaderWithin, IsRequestOf, IsRequestWithin, IsResponseOf, IsResponseWithin, IsWithin, header_bytes, name_and_value, span_bytes}
use Rattle.h1_fields.specs.Lines.{Line}
use Rattle.h1_cut.specs.Cut.{cut}
use Rattle.h1_cut.proofs.CutLemmas.{cut_front}
use Rattle.h1_head.specs.declared.limits.TheConstants.{MAX_HEADER_SIZE, MAX_HEADERS}
use Rattle.h1_head.specs.RequestSpans.{IsFrontAt}
use Rattle.h1_head.specs.ResponseGrammar.{response_read}
use Rattle.h1_head.specs.ResponseVerdict as response
use Rattle.h1_head.proofs.HeadEndLemmas.{cut_of_grammar, cut_of_response}

span_front : (bytes : List ℕ) (n : ℕ) (s : Span) → IsWithin n s
    → span_bytes (take n bytes) s ≡ span_bytes bytes s
span_front bytes n s within = slice_range_front (take n bytes) bytes s.start s.end n refl within.1

lines_front : (bytes : List ℕ) (n : ℕ) (spans : List HeaderSpan) → All (IsHeaderWithin n) spans
    → map (header_bytes (take n bytes)) spans ≡ map (header_bytes bytes) spans
lines_front bytes n [] all = refl
lines_front bytes n (h ∷ spans) all =
    let first = All-head (IsHeaderWithin n) h spans all in
    let name = span_front bytes n h.name first.0 in
    let value = span_front bytes n h.value first.1 in
    let more = lines_front bytes n spans (All-tail (IsHeaderWithin n) h spans all) in
    cc

-- the lines are as many as the spans that are theirs
pub few_lines : (bytes : List ℕ) (spans : List HeaderSpan) (count : ℕ) (fields : List Field)
    → map (header_bytes bytes) (take count spans) ≡ map name_and_value fields
    → length fields ≤ length spans
few_lines bytes spans count fields same = grind (arith, common_steps)

-- the bytes of a head, without those behind it
own_bytes : (bytes front : List ℕ) (n : ℕ) → bytes ≡ front ++ drop n bytes → n ≡ length front
    → take n bytes ≡ front
own_bytes bytes front n split long = rw (long, split) (grind (arith, common_steps))

none_behind : (bytes : List ℕ) (n : ℕ) → drop n (take n bytes) ≡ []
none_behind bytes n = grind (arith, common_steps)

-- where the parser finds a head, the front of the bytes is one
pub front_at : (bytes : List ℕ) (spans : List HeaderSpan) (head : RequestSpans)
    → IsRequestWithin bytes spans head → IsRequestOf bytes spans head
    → length spans ≤ MAX_HEADERS → head.len ≤ MAX_HEADER_SIZE → IsFrontAt bytes spans head
front_at bytes spans head within parsed few short =
    let h = parsed.0 in
    let at = parsed.1 in
    let own = take head.len bytes in
    let is : cut bytes ≡ Some head.len =
    cut_of_grammar bytes (drop head.len bytes) h at.reads ∙ ap Some (sym at.len) in
    let cuts = cut_front bytes head.len is in
    let bare : own ≡ print_request h ++ [] =
    own_bytes bytes (print_request h) head.len at.reads.1 at.len
    ∙ sym (append-nil (print_request h)) in
    let method = span_front bytes head.len head.method within.method ∙ at.method in
    let path = span_front bytes head.len head.path within.path ∙ at.path in
    let fields =
    lines_front bytes head.len (take head.headers spans) within.section.headers_fit ∙ at.fields in
    let version = at.version in
    let lines = few_lines bytes spans head.headers h.fields at.fields in
    let long : head.len ≤ length own = omega (arith, length-take head.len bytes, cuts.1) in
    record {
      cuts = record { cut_is = is; own = cuts.2; some = cuts.0; limited = short; within = cuts.1 };
      front = record {
        within = record {
          method = within.method;
          path = within.path;
          version = within.version;
          section = record {
            len_fits = long;
            count_fits = within.section.count_fits;
            headers_fit = within.section.headers_fit;
          };
        };
        parsed = (
          h,
          record {
            reads = (
              at.reads.0,
              bare ∙ ap (λ rest. print_request h ++ rest) (sym (none_behind bytes head.len)),
            );
            len = at.len;
            method = method;
            path = path;
            version = version;
            fields = fields;
          },
        );
        says = (h, record { reads = (at.reads.0, bare); few = omega arith }, cc);
      };
    }

pub read_same : (a b : ℕ) (c d : ℕ) (e f : List ℕ) (g h : List Line) → a ≡ b → c ≡ d → e ≡ f → g ≡ h
    → response_read a c e g ≡ response_read b d f h
read_same a b c d e f g h p q r s = λ i. response_read (p i) (q i) (r i) (s i)

-- the same for a response
pub response_front_at : (bytes : List ℕ) (spans : List HeaderSpan) (head : ResponseSpans)
    → IsResponseWithin bytes spans head → IsResponseOf bytes spans head
    → length spans ≤ MAX_HEADERS → head.len ≤ MAX_HEADER_SIZE
    → response.IsFrontAt bytes spans head
response_front_at bytes spans head within parsed few short =
    let h = parsed.0 in
    let at = parsed.1 in
    let own = take head.len bytes in
    let is : cut bytes ≡ Some head.len =
    cut_of_response bytes (drop head.len bytes) h at.reads ∙ ap Some (sym at.len) in
    let cuts = cut_front bytes head.len is in
    let bare : own ≡ print_response h ++ [] =
    own_bytes bytes (print_response h) head.len at.reads.1 at.len
    ∙ sym (append-nil (print_response h)) in
    let phrase = span_front bytes head.len head.reason within.reason ∙ at.reason in
    let fields =
    lines_front bytes head.len (take head.headers spans) within.section.headers_fit ∙ at.fields in
    let lines = few_lines bytes spans head.headers h.fields at.fields in
    let long : head.len ≤ length own = omega (arith, length-take head.len bytes, cuts.1) in
    record {
      cuts = record { cut_is = is; own = cuts.2; some = cuts.0; limited = short; within = cuts.1 };
      front = record {
        within = record {
          version = within.version;
          code = within.code;
          reason = within.reason;
          section = record {
            len_fits = long;
            count_fits = within.section.count_fits;
            headers_fit = within.section.headers_fit;
          };
        };
        parsed = (
          h,
          record {
            reads = (
              at.reads.0,
              bare ∙ ap (λ rest. print_response h ++ rest) (sym (none_behind bytes head.len)),
            );
            len = at.len;
            version = at.version;
            code = at.code;
            reason = phrase;
            fields = fields;
          },
        );
        says = (
          h,
          record { reads = (at.reads.0, bare); few = omega arith },
          read_same (status_code h) head.code h.minor head.version (reason_phrase h.reason)
              (span_bytes own head.reason) (map name_and_value h.fields)
              (map (header_bytes own) (take head.headers spans)) (sym at.code) (sym at.version)
              (sym phrase) (sym fields),
        );
      };
    }
