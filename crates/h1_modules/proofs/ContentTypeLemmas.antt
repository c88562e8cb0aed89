-- A content type that was renamed may stand in a field line.
use Rattle.std.proofs.Common.{◌≡◌, ℕ, zero, suc, ◌+◌, ◌-◌, Bool, true, false, ◌&&◌, List, [], ◌∷◌, ◌++◌, take, drop, map, refl, None, arith, codes}
use Rattle.std.specs.Char.{to_ascii_lowercase}
use Rattle.std.specs.List.{list_all}
use Rattle.std.proofs.lemmas.Bool.{false≢true}
use Rattle.std.proofs.lemmas.Bool.Decides.{nat_tests}
use Rattle.std.proofs.lemmas.List.Folds.{list_all-append}
use Rattle.bstr.specs.Find.{matches}
use Rattle.bstr.specs.Text.{part, replaced_at}
use Rattle.httparse.specs.Grammar.{is_token_byte}
use Rattle.h1_head.specs.Faults.{is_text_byte, is_text, line_fault}
use Rattle.h1_modules.specs.ContentType.{is_visible, is_visible_text, begins_in_any_case, grpc, grpc_web, is_grpc_web, is_grpc, as_grpc, as_grpc_web}

both : (s t : Bool) → (s && t) ≡ true → (s ≡ true) × (t ≡ true)
both true t h = (refl, h)
both false t h = absurd (false≢true h)

module _ (p : ℕ → Bool) where
  all_take : (n : ℕ) (xs : List ℕ) → list_all p xs ≡ true → list_all p (take n xs) ≡ true
  all_take zero xs h = refl
  all_take (suc n) [] h = refl
  all_take (suc n) (x ∷ xs) h =
      let parts = both (p x) (list_all p xs) h in rw parts.0 (all_take n xs parts.1)

  all_drop : (n : ℕ) (xs : List ℕ) → list_all p xs ≡ true → list_all p (drop n xs) ≡ true
  all_drop zero xs h = h
  all_drop (suc n) [] h = refl
  all_drop (suc n) (x ∷ xs) h = all_drop n xs (both (p x) (list_all p xs) h).1

  all_replaced : (hay : List ℕ) (m : ℕ) (other : List ℕ) (last : ℕ) (places : List ℕ)
      → list_all p hay ≡ true → list_all p other ≡ true
      → list_all p (replaced_at hay m other last places) ≡ true
  unfolding replaced_at
  all_replaced hay m other last [] h k = all_drop last hay h
  all_replaced hay m other last (place ∷ places) h k =
      rw (
        list_all-append p (part last place hay) (other ++ replaced_at hay m other (place + m) places),
        all_take (place - last) (drop last hay) (all_drop last hay h),
        list_all-append p other (replaced_at hay m other (place + m) places),
        k,
      )
      (all_replaced hay m other (place + m) places h k)

-- visible bytes may stand in a value, also in lower case
text_byte : (b : ℕ) → is_visible b ≡ true → is_text_byte b ≡ true
text_byte b h = grind (arith, nat_tests)

lower_text_byte : (b : ℕ) → is_visible b ≡ true → is_text_byte (to_ascii_lowercase b) ≡ true
lower_text_byte b h = grind (arith, nat_tests)

text_from_visible : (value : List ℕ) → is_visible_text value ≡ true → is_text value ≡ true
text_from_visible [] h = refl
text_from_visible (b ∷ value) h =
    let parts = both (is_visible b) (is_visible_text value) h in
    rw (text_byte b parts.0) (text_from_visible value parts.1)

lower_text : (value : List ℕ) → is_visible_text value ≡ true
    → is_text (map to_ascii_lowercase value) ≡ true
lower_text [] h = refl
lower_text (b ∷ value) h =
    let parts = both (is_visible b) (is_visible_text value) h in
    rw (lower_text_byte b parts.0) (lower_text value parts.1)

type_fits : (value : List ℕ) → is_text value ≡ true → line_fault (codes "content-type") value ≡ None
unfolding is_token_byte
type_fits value text = rw text refl

-- the request's type as one of gRPC is a value
pub grpc_fits : (value : List ℕ) → is_grpc_web value ≡ true
    → line_fault (codes "content-type") (as_grpc value) ≡ None
grpc_fits value is =
    let visible = (both (is_visible_text value) (begins_in_any_case grpc_web value) is).0 in
    let low = map to_ascii_lowercase value in
    type_fits (as_grpc value)
    (all_replaced is_text_byte low 20 grpc 0 (matches low grpc_web 0) (lower_text value visible) refl)

-- the response's type as one of gRPC-web is a value
pub grpc_web_fits : (value : List ℕ) → is_grpc value ≡ true
    → line_fault (codes "content-type") (as_grpc_web value) ≡ None
grpc_web_fits value is =
    let visible = (both (is_visible_text value) _ is).0 in
    type_fits (as_grpc_web value)
    (all_replaced is_text_byte value 16 grpc_web 0 (matches value grpc 0) (text_from_visible value visible) refl)

pub chunked_fits : line_fault (codes "transfer-encoding") (codes "chunked") ≡ None
unfolding is_token_byte
chunked_fits = refl
