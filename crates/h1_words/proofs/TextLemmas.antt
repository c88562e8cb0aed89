-- Texts that are read back as the bytes that they were written for.
use Rattle.std.proofs.Common.{◌≡◌, ℕ, ◌+◌, ◌*◌, ◌/◌, ◌%◌, ◌<◌, Bool, true, false, cond, List, [], ◌∷◌, ◌++◌, Some, refl, sym, ap, ◌∙◌, subst, arith, eqb, append_assoc}
use Rattle.std.specs.List.{list_all, AllByRecursion}
use Rattle.std.specs.Char.{digit_value, digit_char}
use Rattle.std.proofs.lemmas.Bool.{eqb-true, lt-ltb, and_from, cond_both}
use Rattle.std.proofs.lemmas.Bool.Decides.{nat_tests}
use Rattle.std.proofs.lemmas.List.{append-nil}
use Rattle.std.proofs.lemmas.List.Folds.{list_all-append}
use Rattle.std.proofs.lemmas.Str.{digit_value-digit_char}
use Rattle.h1_words.specs.ByteText.{is_printable, escape, text_of_bytes, unescape_plain, unescape_backslash, hex_byte, unescape, yielded, may_end, bytes_from, bytes_of_text}
use Rattle.h1_words.specs.declared.unescape.Unescaping.{Unescaping}
use Rattle.h1_words.specs.declared.unescape.Unescaping.TheVariants.{Start, Byte}

-- no escape is begun
abbrev IsPlain : Unescaping → Type 0
IsPlain state = ((b : ℕ) → unescape state b ≡ unescape_plain b) × (may_end state ≡ true)

-- after a state and some bytes, a text reads as one byte more
abbrev ReadsAs : Unescaping → List ℕ → List ℕ → ℕ → Type 0
ReadsAs state front text b = (rest : List ℕ) →
    bytes_from state front (text ++ rest) ≡ bytes_from (Byte b) (front ++ b ∷ []) rest

reads_plain : (state : Unescaping) → IsPlain state → (front : List ℕ) (b : ℕ) →
    unescape_plain b ≡ Byte b → ReadsAs state front (b ∷ []) b
reads_plain state plain front b e rest =
    let P : Unescaping → Type 0 =
    λ s. bytes_from s (front ++ yielded s) rest ≡ bytes_from (Byte b) (front ++ b ∷ []) rest in
    subst P (sym (plain.0 b ∙ e)) refl

reads_short : (state : Unescaping) → IsPlain state → (front : List ℕ) (c b : ℕ) →
    unescape_backslash c ≡ Byte b → ReadsAs state front (92 ∷ c ∷ []) b
reads_short state plain front c b e rest =
    let P : Unescaping → Type 0 =
    λ s. bytes_from s (front ++ yielded s) (c ∷ rest) ≡ bytes_from (Byte b) (front ++ b ∷ [])
    rest in
    let Q : Unescaping → Type 0 =
    λ s. bytes_from s ((front ++ []) ++ yielded s) rest ≡ bytes_from (Byte b) (front ++ b ∷ [])
    rest in
    subst P (sym (plain.0 92))
    (subst Q (sym e) (ap (λ l. bytes_from (Byte b) (l ++ b ∷ []) rest) (append-nil front)))

reads_hex : (state : Unescaping) → IsPlain state → (front : List ℕ) (high low b : ℕ) →
    hex_byte high low ≡ Byte b → ReadsAs state front (92 ∷ 120 ∷ high ∷ low ∷ []) b
reads_hex state plain front high low b e rest =
    let P : Unescaping → Type 0 =
    λ s. bytes_from s (front ++ yielded s) (120 ∷ high ∷ low ∷ rest) ≡ bytes_from (Byte b)
    (front ++ b ∷ []) rest in
    let Q : Unescaping → Type 0 =
    λ s. bytes_from s ((((front ++ []) ++ []) ++ []) ++ yielded s) rest ≡ bytes_from (Byte b)
    (front ++ b ∷ []) rest in
    let same : ((front ++ []) ++ []) ++ [] ≡ front = append-nil _ ∙
    (append-nil _ ∙ append-nil front) in
    subst P (sym (plain.0 92))
    (subst Q (sym e) (ap (λ l. bytes_from (Byte b) (l ++ b ∷ []) rest) same))

reads_named : (t : Bool) (state : Unescaping) → IsPlain state →
    (front : List ℕ) (b n c : ℕ) (more : List ℕ) → eqb b n ≡ t → unescape_backslash c ≡ Byte n →
    (eqb b n ≡ false → ReadsAs state front more b) →
    ReadsAs state front (cond t (92 ∷ c ∷ []) more) b
reads_named true state plain front b n c more test e other =
    let P : ℕ → Type 0 = λ m. ReadsAs state front (92 ∷ c ∷ []) m in
    subst P (sym (eqb-true b n test)) (reads_short state plain front c n e)
reads_named false state plain front b n c more test e other = other test

two_digits : (b : ℕ) → b < 256 → hex_byte (digit_char (b / 16)) (digit_char (b % 16)) ≡ Byte b
two_digits b small =
    let high : digit_value (digit_char (b / 16)) ≡ b / 16 =
    digit_value-digit_char (b / 16) (omega arith) in
    let low : digit_value (digit_char (b % 16)) ≡ b % 16 =
    digit_value-digit_char (b % 16) (omega arith) in
    let whole : (b / 16) * 16 + b % 16 ≡ b = omega arith in
    rw (high, low, lt-ltb (b / 16) 16 (omega arith), lt-ltb (b % 16) 16 (omega arith))
    (ap (λ n. Byte n) whole)

reads_other : (t : Bool) (state : Unescaping) → IsPlain state → (front : List ℕ) (b : ℕ) →
    b < 256 → eqb b 92 ≡ false → is_printable b ≡ t →
    ReadsAs state front (cond t (b ∷ [])
    (92 ∷ 120 ∷ digit_char (b / 16) ∷ digit_char (b % 16) ∷ [])) b
reads_other true state plain front b small named test =
    reads_plain state plain front b (rw (named, test) refl)
reads_other false state plain front b small named test =
    reads_hex state plain front _ _ b (two_digits b small)

reads_escape : (state : Unescaping) → IsPlain state → (front : List ℕ) (b : ℕ) → b < 256 →
    ReadsAs state front (escape b) b
reads_escape state plain front b small =
    reads_named _ state plain front b 13 114 _ refl refl (λ _.
    reads_named _ state plain front b 10 110 _ refl refl (λ _.
    reads_named _ state plain front b 92 92 _ refl refl (λ named.
    reads_other _ state plain front b small named refl)))

read_back : (state : Unescaping) → IsPlain state → (front bytes : List ℕ) →
    AllByRecursion (λ b. b < 256) bytes →
    bytes_from state front (text_of_bytes bytes) ≡ Some (front ++ bytes)
read_back state plain front [] small = rw (plain.1, append-nil front) refl
read_back state plain front (b ∷ bytes) small =
    reads_escape state plain front b small.0 (text_of_bytes bytes)
    ∙ (read_back (Byte b) (λ _. refl, refl) (front ++ b ∷ []) bytes small.1
    ∙ ap (λ l. Some l) (append_assoc front (b ∷ []) bytes))

-- the text of bytes reads as these bytes
pub text_reads_back : (bytes : List ℕ) → AllByRecursion (λ b. b < 256) bytes →
    bytes_of_text (text_of_bytes bytes) ≡ Some bytes
text_reads_back bytes small = read_back Start (λ _. refl, refl) [] bytes small

printable_digit : (d : ℕ) → d < 16 → is_printable (digit_char d) ≡ true
printable_digit d small = grind (arith, nat_tests)

printable_escape : (b : ℕ) → b < 256 → list_all is_printable (escape b) ≡ true
printable_escape b small =
    let P : List ℕ → Type 0 = λ l. list_all is_printable l ≡ true in
    let hex : List ℕ = 92 ∷ 120 ∷ digit_char (b / 16) ∷ digit_char (b % 16) ∷ [] in
    let unnamed : List ℕ = cond (is_printable b) (b ∷ []) hex in
    let behind_feed : List ℕ = cond (eqb b 92) (92 ∷ 92 ∷ []) unnamed in
    let behind_return : List ℕ = cond (eqb b 10) (92 ∷ 110 ∷ []) behind_feed in
    let high : is_printable (digit_char (b / 16)) ≡ true = printable_digit (b / 16) (omega arith) in
    let low : is_printable (digit_char (b % 16)) ≡ true = printable_digit (b % 16) (omega arith) in
    cond_both (eqb b 13) (92 ∷ 114 ∷ []) behind_return P (λ _. refl) (λ _.
    cond_both (eqb b 10) (92 ∷ 110 ∷ []) behind_feed P (λ _. refl) (λ _.
    cond_both (eqb b 92) (92 ∷ 92 ∷ []) unnamed P (λ _. refl) (λ _.
    cond_both (is_printable b) (b ∷ []) hex P (λ e. rw e refl) (λ _. rw (high, low) refl))))

-- the text of bytes is printable
pub text_is_printable : (bytes : List ℕ) → AllByRecursion (λ b. b < 256) bytes →
    list_all is_printable (text_of_bytes bytes) ≡ true
text_is_printable [] small = refl
text_is_printable (b ∷ bytes) small =
    list_all-append is_printable (escape b) (text_of_bytes bytes) ∙
    and_from _ _ (printable_escape b small.0) (text_is_printable bytes small.1)
