-- What the calls of a closure give holds of its jobs and its results, place by place.
use Rattle.std.proofs.Common.{◌≡◌, ℕ, ◌<◌, List, [], ◌∷◌, length, slice_index_or, IfOk, Result, Ok, Err, sym, subst, ◌∙◌, arith}
use Rattle.std.specs.List.{AllZip}
use Rattle.std.specs.Fork.{GivesJobs}
use Prim.Native.Nat.{suc}
use denote.Param.Members.{Shared}

zip_at : {A B : Type 0} (R : A → B → Type 0) (xs : List A) (ys : List B)
    → length ys ≡ length xs
    → ((i : ℕ) (d : B) → i < length xs
    → (x : A) × ((e : A) → slice_index_or xs i e ≡ x) × R x (slice_index_or ys i d))
    → AllZip R xs ys
zip_at R [] [] long at = tt
zip_at R [] (y ∷ ys) long at =
    let no : ⊥ = omega (arith, long) in
    absurd no
zip_at R (x ∷ xs) [] long at =
    let no : ⊥ = omega (arith, long) in
    absurd no
zip_at {A} {B} R (x ∷ xs) (y ∷ ys) long at =
    let first = at 0 y (omega arith) in (
      subst (λ (a : A). R a y) (sym (first.1 x)) first.2,
      zip_at R xs ys (omega (arith, long)) (λ i d lt. at (suc i) d (omega (arith, lt))),
    )

-- the results, where there are any
pub ok_zip : {A B F V E : Type 0} (items : V → List B) (len : V → ℕ)
    (whole : (v : V) → length (items v) ≡ len v) (g : Shared F (A × Unit {0}) B) (f : F)
    (R : A → B → Type 0) (xs : List A) (many : ℕ) (result : Result V E)
    → length xs ≡ many → IfOk result (λ v. len v ≡ many)
    → IfOk result (λ v. GivesJobs g f xs (items v))
    → ((x : A) (y : B) → g.post f (x, tt) y → R x y)
    → IfOk result (λ v. AllZip R xs (items v))
ok_zip items len whole g f R xs many (Ok v) is long each says =
    zip_at R xs (items v) (whole v ∙ long ∙ sym is)
    (λ i d lt. let job = (each i d lt).1 in (job.job, job.job_is, says job.job _ job.call.met))
ok_zip items len whole g f R xs many (Err error) is long each says = tt
