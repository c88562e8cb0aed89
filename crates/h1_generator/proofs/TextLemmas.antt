-- The bytes of requests as they are put together.
use Rattle.std.proofs.Common.{◌≡◌, ℕ, zero, suc, ◌+◌, ◌-◌, ◌<◌, ◌≤◌, List, [], ◌∷◌, ◌++◌, take, refl, sym, ◌∙◌, ap, codes, decimal, arith, append_assoc, append-nil, replicate}
use Rattle.std.proofs.Math.Seq.{take-length}
use Rattle.std.proofs.lemmas.Fmt.{decimal_digit}
use Rattle.std.proofs.lemmas.List.{length-replicate}
use Rattle.h1_body.specs.Written.{chunk_bytes, size_digits}
use Rattle.h1_generator.specs.Generated.{asked, asked_as, print_asked, generated_from}
use Rattle.h1_generator.specs.declared.generator.Form.TheVariants.{Counted}

-- so many bytes are what a body of this length takes of them
pub take_run : (n b : ℕ) → take n (replicate n b) ≡ replicate n b
take_run n b =
    ap (λ k. take k (replicate n b)) (sym (length-replicate n b)) ∙ take-length (replicate n b)

-- a chunk of few bytes has one digit
chunk_with : (n : ℕ) → 0 < n → n < 7 → chunk_bytes (replicate n 98)
    ≡ (48 + n) ∷ 13 ∷ 10 ∷ [] ++ replicate n 98 ++ (13 ∷ 10 ∷ [])
unfolding size_digits
chunk_with zero some few = absurd (omega arith)
chunk_with (suc zero) some few = refl
chunk_with (suc (suc zero)) some few = refl
chunk_with (suc (suc (suc zero))) some few = refl
chunk_with (suc (suc (suc (suc zero)))) some few = refl
chunk_with (suc (suc (suc (suc (suc zero))))) some few = refl
chunk_with (suc (suc (suc (suc (suc (suc zero)))))) some few = refl
chunk_with (suc (suc (suc (suc (suc (suc (suc n))))))) some few = absurd (omega arith)

pub chunk_run : (n : ℕ) → 0 < n → n < 7
    → chunk_bytes (replicate n 98) ≡ decimal n ++ (13 ∷ 10 ∷ []) ++ replicate n 98 ++ (13 ∷ 10 ∷ [])
chunk_run n some few =
    chunk_with n some few
    ∙ ap (λ ds. ds ++ (13 ∷ 10 ∷ []) ++ replicate n 98 ++ (13 ∷ 10 ∷ []))
    (sym (decimal_digit n (omega arith)))

-- a request with a length, piece by piece
regroup : (m p a h e n c s r : List ℕ)
    → m ++ (p ++ a) ++ h ++ e ++ (n ++ c ++ s ++ e ++ []) ++ e ++ r
    ≡ ((m ++ p) ++ a ++ (h ++ e ++ n ++ c)) ++ s ++ (e ++ e) ++ r
regroup m p a h e n c s r = simp (append_assoc, append-nil)

pub counted_text : (number size : ℕ) → print_asked (asked_as Counted number size)
    ≡ (codes "POST /" ++ decimal number
    ++ (codes " HTTP/1.1" ++ 13 ∷ 10 ∷ [] ++ codes "Content-Length: "))
    ++ decimal size ++ (13 ∷ 10 ∷ 13 ∷ 10 ∷ []) ++ replicate size 97
counted_text number size =
    rw (take_run size 97)
    (regroup (codes "POST") (32 ∷ 47 ∷ []) (decimal number) (codes " HTTP/1.1") (13 ∷ 10 ∷ [])
    (codes "Content-Length") (codes ": ") (decimal size) (replicate size 97))

-- the next request is put after those before it
pub more_from : (number count : ℕ) (bytes all : List ℕ) → number ≤ count
    → bytes ++ generated_from number (count + 1 - number) ≡ all
    → (bytes ++ print_asked (asked number))
    ++ generated_from (number + 1) (count + 1 - (number + 1)) ≡ all
more_from number count bytes all more h =
    let next : count + 1 - number ≡ suc (count + 1 - (number + 1)) = omega arith in
    append_assoc bytes (print_asked (asked number))
    (generated_from (number + 1) (count + 1 - (number + 1)))
    ∙ ap (λ k. bytes ++ generated_from number k) (sym next) ∙ h
