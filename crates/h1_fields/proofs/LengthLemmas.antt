-- What several Content-Length parts say together.
use Rattle.std.proofs.Common.{◌≡◌, ℕ, ◌<◌, ◌==◌, Bool, true, false, Option, Some, None, List, [], ◌∷◌, ◌++◌, length, map, refl, sym, ap, ◌∙◌, subst, arith}
use Rattle.std.specs.List.{AllByRecursion, slice_split}
use Rattle.std.proofs.lemmas.Bool.{eqb-true, eq-eqb, false_from_ne_true}
use Rattle.std.proofs.lemmas.List.Splits.{length-slice_split}
use Rattle.httparse.specs.Grammar.{trim_ows}
use Rattle.h1_fields.specs.declared.content_length.ContentLength.{ContentLength}
use Rattle.h1_fields.specs.declared.content_length.ContentLength.TheVariants.{Absent, Number, Bad}
use Rattle.h1_fields.specs.Lines.{Line, is_named, has_line, values_of}
use Rattle.h1_fields.specs.ListParts.{is_comma, value_parts, list_parts, parts_of}
use Rattle.h1_fields.specs.ContentLength.{number, agreed, IsNumber}
use Rattle.h1_fields.proofs.NumberLemmas.{number_only, number_all}

-- a fault stays
agreed_bad : (parts : List (List ℕ)) → agreed Bad parts ≡ Bad
agreed_bad [] = refl
agreed_bad (part ∷ parts) = agreed_bad parts

never_number : (n : ℕ) (parts : List (List ℕ)) → agreed Bad parts ≡ Number n → ⊥
never_number n parts says =
    let bad = agreed_bad parts in
    cc

-- one number was found before
numbers_only : (m n : ℕ) (parts : List (List ℕ)) → agreed (Number m) parts ≡ Number n
    → (m ≡ n) × AllByRecursion (IsNumber n) parts
numbers_only m n [] says =
    let same : m ≡ n = cc in
    (same, tt)
numbers_only m n (part ∷ parts) says = by_number (numbers_only m n parts) (number part) refl
  where
    Rest : Type 0
    Rest = agreed (Number m) parts ≡ Number n → (m ≡ n) × AllByRecursion (IsNumber n) parts

    by_test : Rest → (k : ℕ) (t : Bool) → number part ≡ Some k → (m == k) ≡ t
        → (m ≡ n) × AllByRecursion (IsNumber n) (part ∷ parts)
    by_test only k true read same =
        let later : agreed (Number m) parts ≡ Number n = rw (read, same) at says in
        let rest = only later in
        let value : number part ≡ Some n = read ∙ ap Some (sym (eqb-true m k same) ∙ rest.0) in
        (rest.0, (number_only n part value, rest.1))
    by_test only k false read same =
        let later : agreed Bad parts ≡ Number n = rw (read, same) at says in
        absurd (never_number n parts later)

    by_number : Rest → (o : Option ℕ) → number part ≡ o
        → (m ≡ n) × AllByRecursion (IsNumber n) (part ∷ parts)
    by_number only None read =
        let later : agreed Bad parts ≡ Number n = rw read at says in
        absurd (never_number n parts later)
    by_number only (Some k) read = by_test only k (m == k) read refl

numbers_all : (n : ℕ) (parts : List (List ℕ)) → AllByRecursion (IsNumber n) parts
    → agreed (Number n) parts ≡ Number n
numbers_all n [] all = refl
numbers_all n (part ∷ parts) all =
    let read = number_all n part all.0 in
    let same = eq-eqb n n refl in
    rw (read, same) (numbers_all n parts all.1)

-- at least one part, and each is this number
pub length_only : (n : ℕ) (parts : List (List ℕ)) → agreed Absent parts ≡ Number n
    → (0 < length parts) × AllByRecursion (IsNumber n) parts
length_only n [] says = absurd (let never : Absent ≡ Number n = says in cc)
length_only n (part ∷ parts) says = by_number (number part) refl
  where
    by_number : (o : Option ℕ) → number part ≡ o
        → (0 < length (part ∷ parts)) × AllByRecursion (IsNumber n) (part ∷ parts)
    by_number None read =
        let later : agreed Bad parts ≡ Number n = rw read at says in
        absurd (never_number n parts later)
    by_number (Some k) read =
        let later : agreed (Number k) parts ≡ Number n = rw read at says in
        let rest = numbers_only k n parts later in
        (omega arith, (number_only n part (read ∙ ap Some rest.0), rest.1))

pub length_all : (n : ℕ) (parts : List (List ℕ))
    → (0 < length parts) × AllByRecursion (IsNumber n) parts
    → agreed Absent parts ≡ Number n
length_all n [] all = absurd (omega (arith, all.0))
length_all n (part ∷ parts) all =
    let read = number_all n part all.1.0 in
    rw read (numbers_all n parts all.1.1)

-- a line was found before
never_absent : (found : ContentLength) (parts : List (List ℕ)) → (found ≡ Absent → ⊥)
    → agreed found parts ≡ Absent → ⊥
never_absent found [] some says = some says
never_absent Absent (part ∷ parts) some says = some refl
never_absent Bad (part ∷ parts) some says = never_absent Bad parts some says
never_absent (Number m) (part ∷ parts) some says =
    by_number (never_absent (Number m) parts some) (never_absent Bad parts (λ e. cc))
    (number part) refl
  where
    by_test : (agreed (Number m) parts ≡ Absent → ⊥) → (agreed Bad parts ≡ Absent → ⊥)
        → (k : ℕ) (t : Bool)
        → number part ≡ Some k → (m == k) ≡ t → ⊥
    by_test good bad k true read same = good (rw (read, same) at says)
    by_test good bad k false read same = bad (rw (read, same) at says)

    by_number : (agreed (Number m) parts ≡ Absent → ⊥) → (agreed Bad parts ≡ Absent → ⊥)
        → (o : Option ℕ)
        → number part ≡ o → ⊥
    by_number good bad None read = bad (rw read at says)
    by_number good bad (Some k) read = by_test good bad k (m == k) read refl

-- a value has at least one part
some_part : (value : List ℕ) (others : List (List ℕ))
    → (first : List ℕ) × (more : List (List ℕ)) × (value_parts value ++ others ≡ first ∷ more)
some_part value others = by_pieces (slice_split is_comma value) refl
  where
    by_pieces : (pieces : List (List ℕ)) → slice_split is_comma value ≡ pieces
        → (first : List ℕ) × (more : List (List ℕ)) × (value_parts value ++ others ≡ first ∷ more)
    by_pieces [] none = absurd (omega (arith, ap length none, length-slice_split is_comma value))
    by_pieces (piece ∷ pieces) are = (trim_ows piece, map trim_ows pieces ++ others, rw are refl)

-- a line of the name makes a part
part_of_line : (name : List ℕ) (lines : List Line) → has_line name lines ≡ true
    → (first : List ℕ) × (more : List (List ℕ)) × (parts_of name lines ≡ first ∷ more)
part_of_line name [] has = absurd (let never : false ≡ true = has in cc)
part_of_line name (line ∷ lines) has = by_test (part_of_line name lines) (is_named name line) refl
  where
    by_test : (has_line name lines ≡ true
        → (first : List ℕ) × (more : List (List ℕ)) × (parts_of name lines ≡ first ∷ more))
        → (t : Bool) → is_named name line ≡ t
        → (first : List ℕ) × (more : List (List ℕ)) × (parts_of name (line ∷ lines) ≡ first ∷ more)
    by_test later true named = rw named (some_part line.1 (list_parts (values_of name lines)))
    by_test later false named = rw named (later (rw named at has))

no_part : (name : List ℕ) (lines : List Line) → has_line name lines ≡ false
    → parts_of name lines ≡ []
no_part name [] has = refl
no_part name (line ∷ lines) has = by_test (no_part name lines) (is_named name line) refl
  where
    by_test : (has_line name lines ≡ false → parts_of name lines ≡ []) → (t : Bool)
        → is_named name line ≡ t
        → parts_of name (line ∷ lines) ≡ []
    by_test later true named = absurd (let never : true ≡ false = rw named at has in cc)
    by_test later false named = rw named (later (rw named at has))

-- there is no line of the name exactly where nothing is stated
pub absent_only : (name : List ℕ) (lines : List Line)
    → agreed Absent (parts_of name lines) ≡ Absent → has_line name lines ≡ false
absent_only name lines says = false_from_ne_true _ never
  where
    never_first : (part : List ℕ) (parts : List (List ℕ)) → agreed Absent (part ∷ parts) ≡ Absent
        → ⊥
    never_first part parts says = by_number (number part) refl
      where
        by_number : (o : Option ℕ) → number part ≡ o → ⊥
        by_number None read = never_absent Bad parts (λ e. cc) (rw read at says)
        by_number (Some k) read = never_absent (Number k) parts (λ e. cc) (rw read at says)

    never : has_line name lines ≡ true → ⊥
    never has =
        let some = part_of_line name lines has in
        never_first some.0 some.1
        (subst (λ (parts : List (List ℕ)). agreed Absent parts ≡ Absent) some.2 says)

pub absent_all : (name : List ℕ) (lines : List Line) → has_line name lines ≡ false
    → agreed Absent (parts_of name lines) ≡ Absent
absent_all name lines has = rw (no_part name lines has) refl
