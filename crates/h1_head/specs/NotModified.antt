-- When what a client holds still stands (RFC 9110, section 13), and the reply that says so
-- (section 15.4.5).
use Rattle.std.specs.Prelude.{◌≡◌, ℕ, Bool, true, false, ◌||◌, ◌==◌, nat_le, List, codes, bytes_eq, Option, None, Some}
use Rattle.std.specs.List.{list_any}
use Rattle.h1_fields.specs.Lines.{first_value, has_line, values_of, without}
use Rattle.h1_head.specs.Views.{RequestView, ResponseView}
use Rattle.h1_head.specs.ValueDates.{IsSecondOf}
use Rattle.h1_head.specs.Etag.{matches_weakly}

-- one of these lists has the tag of the response, if it has one
abbrev pub matches_any : List (List ℕ) → Option (List ℕ) → Bool
matches_any lists None = false
matches_any lists (Some tag) = list_any (λ list. matches_weakly list tag) lists

-- both dates are there, and this one isn't before the other
abbrev pub is_not_before : Option ℕ → Option ℕ → Bool
is_not_before None last = false
is_not_before (Some since) None = false
is_not_before (Some since) (Some last) = nat_le last since

abbrev pub is_get_or_head : List ℕ → Bool
is_get_or_head method = bytes_eq method (codes "GET") || bytes_eq method (codes "HEAD")

-- the dates decide, where the request asks for what GET gives
abbrev pub DatesDecide : Bool → RequestView → ResponseView → Bool → Type 0
DatesDecide false req resp answer = answer ≡ false
DatesDecide true req resp answer = (since last : Option ℕ)
    × IsSecondOf (first_value (codes "If-Modified-Since") req.fields) since
    × IsSecondOf (first_value (codes "Last-Modified") resp.fields) last
    × (answer ≡ is_not_before since last)

-- where the request names tags they alone decide, and else its date does
abbrev pub LinesDecide : Bool → RequestView → ResponseView → Bool → Type 0
LinesDecide true req resp answer =
    answer ≡ matches_any (values_of (codes "If-None-Match") req.fields)
    (first_value (codes "ETag") resp.fields)
LinesDecide false req resp answer = DatesDecide (is_get_or_head req.method) req resp answer

-- a reply of status 200 alone needn't be sent
abbrev pub StatusDecides : Bool → RequestView → ResponseView → Bool → Type 0
StatusDecides true req resp answer =
    LinesDecide (has_line (codes "If-None-Match") req.fields) req resp answer
StatusDecides false req resp answer = answer ≡ false

-- whether a reply needn't be sent
abbrev pub IsNotModified : RequestView → ResponseView → Bool → Type 0
IsNotModified req resp answer = StatusDecides (resp.status == 200) req resp answer

-- the reply 304, without the lines that tell of its body
abbrev pub as_304 : ResponseView → ResponseView
as_304 resp =
    record resp {
      status = 304;
      fields = without (codes "Accept-Ranges")
          (without (codes "Content-Encoding")
          (without (codes "Transfer-Encoding")
          (without (codes "Content-Type") (without (codes "Content-Length") resp.fields))));
    }
