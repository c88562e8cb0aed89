-- A byte of a chunk before what completes a body from the next place.
use Rattle.std.proofs.Common.{◌≡◌, ℕ, ◌+◌, ◌-◌, ◌*◌, ◌/◌, ◌<◌, ◌≤◌, List, [], ◌∷◌, ◌++◌, refl, sym, ap, subst, ◌∙◌, append_assoc, zero-add, arith, length-append, inl, inr, ◌⊎◌, ◌≢◌, true, false, Bool, ◌&&◌, ◌==◌, nat_lt, nat_le, cond, Some, None}
use Rattle.std.proofs.lemmas.Bool.Decides.{nat_tests, eqb_tells}
use Rattle.std.proofs.lemmas.Bool.{cases_lt, false≢true}
use Rattle.std.specs.List.{flat_map}
use Rattle.std.specs.Str.Parse.{digits_value_after}
use Rattle.std.specs.Char.{digit_value}
use Rattle.h1_body.specs.Chunks.{step, at_byte, behind_size, is_text}
use Rattle.h1_body.specs.ChunkedBody.{SizeLine, crlf, print_extension, print_size_line, print_chunk, print_trailer, IsSizeLine}
use Rattle.h1_body.specs.declared.chunking.Chunking.{Chunking}
use Rattle.h1_body.specs.declared.chunking.Chunking.TheVariants.{Start, Size, Extension, SizeLf, Data, DataCr, DataLf, Trailers, Broken}
use Rattle.h1_body.specs.declared.chunking.TheConstants.{SIZE_LINE_LIMIT, CHUNK_LIMIT, TRAILERS_LIMIT}
use Rattle.h1_body.proofs.GrammarRuns.{both_parts}
use Rattle.h1_body.proofs.Completing.{Complete, EndsData, EndsChunks, EndsSize, EndsExtension, Completes}

-- one of two ways
pub either : (t : Bool) (a b : Chunking) (bytes payload : List ℕ)
    → Completes (cond t a b) bytes payload
    → ((t ≡ true) × Completes a bytes payload) ⊎ ((t ≡ false) × Completes b bytes payload)
either true a b bytes payload h = inl (refl, h)
either false a b bytes payload h = inr (refl, h)

-- the only way that does not break the body
pub only_way : (t : Bool) (a : Chunking) (bytes payload : List ℕ)
    → Completes (cond t a Broken) bytes payload → (t ≡ true) × Completes a bytes payload
only_way true a bytes payload h = (refl, h)
only_way false a bytes payload h = absurd h

pub expected : (c b : ℕ) (next : Chunking) (bytes payload : List ℕ)
    → Completes (at_byte c next b) bytes payload → (b ≡ c) × Completes next bytes payload
expected c b next bytes payload h =
    let way = only_way (b == c) next bytes payload h in
    elim (eqb_tells b c)
    [ inl same ↦ (same.1, way.1) | inr differ ↦ absurd (false≢true (sym differ.0 ∙ way.0)) ]

regroup_chunk : (l d c f r : List ℕ) → l ++ (d ++ (c ++ (f ++ r))) ≡ ((l ++ (d ++ c)) ++ f) ++ r
regroup_chunk l d c f r = simp append_assoc

regroup_line : (d x c r : List ℕ) → d ++ (x ++ (c ++ r)) ≡ (d ++ (x ++ c)) ++ r
regroup_line d x c r = simp append_assoc

pub cons_is : {b c : ℕ} {xs ys : List ℕ} → b ≡ c → xs ≡ ys → b ∷ xs ≡ c ∷ ys
cons_is {b} {c} {xs} {ys} e f = ap (λ x. x ∷ xs) e ∙ ap (λ zs. c ∷ zs) f

-- a size line in front
line_in_front : (size : ℕ) (line : SizeLine) (rest payload : List ℕ) → IsSizeLine size line
    → EndsChunks size rest payload → Complete (print_size_line line ++ rest) payload
line_in_front size line rest payload is behind =
    elim behind.which [
      | inl last ↦ record {
        body = record { chunks = []; last = line; trailers = last.1.trailers };
        valid = record {
          chunks = tt;
          last = subst (λ n. IsSizeLine n line) last.0 is;
          trailers =
              last.1.valid;
          short = last.1.short;
        };
        bytes_are = ap (λ bytes. print_size_line line ++ bytes) last.1.bytes_are;
        payload_is = last.2;
      }
      | inr chunk ↦
          let ends = chunk.1 in
          let tree = ends.complete.body in
          record {
            body = record {
              chunks =
                  record { line = line; content = ends.data_bytes } ∷ tree.chunks;
              last = tree.last;
              trailers = tree.trailers;
            };
            valid = record {
              chunks = (
                record {
                  line = subst (λ n. IsSizeLine n line) (sym ends.long) is;
                  some =
                      omega (arith, chunk.0, ends.long);
                },
                ends.complete.valid.chunks,
              );
              last = ends.complete.valid.last;
              trailers = ends.complete.valid.trailers;
              short = ends.complete.valid.short;
            };
            bytes_are =
                ap (λ bytes. print_size_line line ++ bytes)
                (ends.bytes_are ∙ ap (λ bytes. ends.data_bytes ++ (crlf ++ bytes))
                ends.complete.bytes_are)
                ∙ regroup_chunk (print_size_line line) ends.data_bytes crlf
                (flat_map print_chunk tree.chunks)
                (print_size_line tree.last ++ (flat_map print_trailer tree.trailers ++ crlf));
            payload_is = ends.payload_is
                ∙ ap (λ later. ends.data_bytes ++ later) ends.complete.payload_is;
          }
    ]

pub less : (m n : ℕ) → nat_lt m n ≡ true → m < n
less m n e = grind (arith, nat_tests)

pub at_most : (m n : ℕ) → nat_le m n ≡ true → m ≤ n
at_most m n e = grind (arith, nat_tests)

pub same_number : (m n : ℕ) → (m == n) ≡ true → m ≡ n
same_number m n e = grind (arith, nat_tests)

pub other_number : (m n : ℕ) → (m == n) ≡ false → m ≢ n
other_number m n e = λ same. grind (arith, nat_tests)

pub above_zero : (n : ℕ) → n ≢ 0 → 0 < n
above_zero n h = elim (cases_lt 0 n) [ inl some ↦ some | inr none ↦ absurd (h (omega arith)) ]

pub front_start : (b : ℕ) (bytes payload : List ℕ) → Completes (step Start b) bytes payload
    → Complete (b ∷ bytes) payload
front_start b bytes payload h =
    let way = only_way (nat_lt (digit_value b) 16) (Size 15 (digit_value b)) bytes payload h in
    let ends = way.1 in
    let hex : digit_value b < 16 = less (digit_value b) 16 way.0 in
    let line : SizeLine = record { digits = b ∷ ends.digits; extension = ends.extension } in
    let size = digits_value_after 16 (digit_value b) ends.digits in
    let tail = length-append (print_extension ends.extension) crlf in
    let all_long = length-append (b ∷ ends.digits) (print_extension ends.extension ++ crlf) in
    let is : IsSizeLine size line = record {
      some = omega arith;
      few = omega (arith, ends.few);
      digits = (hex, ends.hex);
      value = ap (λ n. digits_value_after 16 n ends.digits) (zero-add (digit_value b));
      limited = ends.small (omega arith);
      extension = ends.text;
      short = omega (arith, ends.short);
    } in
    subst (λ xs. Complete xs payload)
    (sym (ap (λ xs. b ∷ xs) ends.bytes_are
    ∙ regroup_line (b ∷ ends.digits) (print_extension ends.extension) crlf ends.rest))
    (line_in_front size line ends.rest payload is ends.behind)

-- a digit in front
front_digit : (left size b : ℕ) (bytes payload : List ℕ) → digit_value b < 16 → 0 < left
    → size ≤ CHUNK_LIMIT / 16
    → EndsSize (left - 1) (size * 16 + digit_value b) bytes payload
    → EndsSize left size (b ∷ bytes) payload
front_digit left size b bytes payload hex room small ends = record {
  digits = b ∷ ends.digits;
  extension = ends.extension;
  rest = ends.rest;
  hex = (hex, ends.hex);
  few = omega (arith, ends.few);
  small = λ _. ends.small (omega arith);
  text = ends.text;
  short = omega (arith, ends.short);
  bytes_are = ap (λ xs. b ∷ xs) ends.bytes_are;
  behind = ends.behind;
}

pub front_size : (left size b : ℕ) (bytes payload : List ℕ)
    → Completes (step (Size left size) b) bytes payload → EndsSize left size (b ∷ bytes) payload
front_size left size b bytes payload h =
    elim (either (nat_lt (digit_value b) 16) _ _ bytes payload h) [
      | inl digit ↦
          let way = only_way (nat_lt 0 left && nat_le size (CHUNK_LIMIT / 16))
          (Size (left - 1) (size * 16 + digit_value b)) bytes payload digit.1 in
          let tests = both_parts (nat_lt 0 left) (nat_le size (CHUNK_LIMIT / 16)) way.0 in
          front_digit left size b bytes payload (less (digit_value b) 16 digit.0)
          (less 0 left tests.0) (at_most size (CHUNK_LIMIT / 16) tests.1) way.1
      | inr no_digit ↦ elim
          (either (b == 59) (Extension (SIZE_LINE_LIMIT - 19 + left) size) _ bytes payload no_digit.1) [
            | inl semicolon ↦ record {
              digits = [];
              extension = Some semicolon.1.text;
              rest = semicolon.1.rest;
              hex = tt;
              few = omega arith;
              small = λ within. within;
              text = semicolon.1.is;
              short = omega (arith, semicolon.1.few);
              bytes_are = cons_is (same_number b 59 semicolon.0) semicolon.1.bytes_are;
              behind = semicolon.1.behind;
            }
            | inr other ↦
                let cr = expected 13 b (SizeLf size) bytes payload other.1 in
                record {
                  digits = [];
                  extension = None;
                  rest = cr.1.0;
                  hex = tt;
                  few = omega arith;
                  small = λ within. within;
                  text = tt;
                  short = omega arith;
                  bytes_are = cons_is cr.0 cr.1.1;
                  behind = cr.1.2;
                }
          ]
    ]

pub front_extension : (left size b : ℕ) (bytes payload : List ℕ)
    → Completes (step (Extension left size) b) bytes payload
    → EndsExtension left size (b ∷ bytes) payload
front_extension left size b bytes payload h =
    elim (either (b == 13) (SizeLf size) _ bytes payload h) [
      | inl cr ↦ record {
        text = [];
        rest = cr.1.0;
        is = tt;
        few = omega arith;
        bytes_are =
            cons_is (same_number b 13 cr.0) cr.1.1;
        behind = cr.1.2;
      }
      | inr other ↦
          let way = only_way (is_text b && nat_lt 0 left)
          (Extension (left - 1) size) bytes payload other.1 in
          let tests = both_parts (is_text b) (nat_lt 0 left) way.0 in
          let room : 0 < left = less 0 left tests.1 in
          record {
            text = b ∷ way.1.text;
            rest = way.1.rest;
            is = (tests.0, way.1.is);
            few =
                omega (arith, way.1.few);
            bytes_are = ap (λ xs. b ∷ xs) way.1.bytes_are;
            behind =
                way.1.behind;
          }
    ]

pub front_size_lf : (size b : ℕ) (bytes payload : List ℕ)
    → Completes (step (SizeLf size) b) bytes payload → Completes (SizeLf size) (b ∷ bytes) payload
front_size_lf size b bytes payload h =
    let lf = expected 10 b (behind_size size) bytes payload h in
    let behind : EndsChunks size bytes payload =
    elim (either (size == 0) (Trailers TRAILERS_LIMIT) (Data (size - 1)) bytes payload lf.1) [
      | inl none ↦ record { which = inl (same_number size 0 none.0, none.1.0, none.1.1) }
      | inr some ↦
          let positive : 0 < size = above_zero size (other_number size 0 some.0) in
          let same : size - 1 + 1 ≡ size = omega arith in
          record { which = inr (positive, subst (λ n. EndsData n bytes payload) same some.1) }
    ] in
    (bytes, cons_is lf.0 refl, behind)

pub front_data : (more b : ℕ) (bytes payload : List ℕ)
    → Completes (step (Data more) b) bytes payload → EndsData (more + 1) (b ∷ bytes) (b ∷ payload)
front_data more b bytes payload h =
    elim (either (more == 0) DataCr (Data (more - 1)) bytes payload h) [
      | inl last ↦
          let zero_more : more ≡ 0 = same_number more 0 last.0 in
          record {
            data_bytes = b ∷ [];
            rest = last.1.0;
            later = payload;
            long = omega arith;
            bytes_are = ap (λ xs. b ∷ xs) last.1.1;
            payload_is = refl;
            complete = last.1.2;
          }
      | inr goes ↦
          let positive : 0 < more = above_zero more (other_number more 0 goes.0) in
          let ends = goes.1 in
          record {
            data_bytes = b ∷ ends.data_bytes;
            rest = ends.rest;
            later = ends.later;
            long = omega (arith, ends.long);
            bytes_are = ap (λ xs. b ∷ xs) ends.bytes_are;
            payload_is = ap (λ xs. b ∷ xs) ends.payload_is;
            complete = ends.complete;
          }
    ]

pub front_data_cr : (b : ℕ) (bytes payload : List ℕ) → Completes (step DataCr b) bytes payload
    → Completes DataCr (b ∷ bytes) payload
front_data_cr b bytes payload h =
    let cr = expected 13 b DataLf bytes payload h in
    (cr.1.0, cons_is cr.0 cr.1.1, cr.1.2)

pub front_data_lf : (b : ℕ) (bytes payload : List ℕ) → Completes (step DataLf b) bytes payload
    → Completes DataLf (b ∷ bytes) payload
front_data_lf b bytes payload h =
    let lf = expected 10 b Start bytes payload h in
    (bytes, cons_is lf.0 refl, lf.1)
