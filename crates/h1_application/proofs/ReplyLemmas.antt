-- A reply that states its length once is lawful.
use Rattle.std.proofs.Common.{◌≡◌, ℕ, ◌<◌, ◌≤◌, ◌^◌, [], ◌∷◌, ◌++◌, codes, decimal, inl, inr, refl, sym, ◌∙◌, ap, subst}
use Rattle.h1_head.specs.Response.{new_response}
use Rattle.h1_head.specs.Views.{ResponseView}
use Rattle.h1_transcript.specs.Lawful.{IsLawful}
use Rattle.h1_application.specs.LengthLine.{counted}

-- one that states none is lawful
pub unstated_lawful : (status : ℕ) (header : ResponseView) → header ≡ new_response status
    → (200 ≤ status) × (status ≤ 999) → IsLawful header
unstated_lawful status header new final =
    subst IsLawful (sym new) (record {
      final = final.0;
      status = final.1;
      version = refl;
      framing = inl (record { no_length = refl; no_coding = refl });
    })

pub counted_lawful : (status n : ℕ) (header made : ResponseView) → header ≡ new_response status
    → made ≡ record header { fields = header.fields ++ (codes "content-length", decimal n) ∷ [] }
    → (200 ≤ status) × (status ≤ 999) → n < 2 ^ 64 → IsLawful made
counted_lawful status n header made new is final small =
    subst IsLawful
    (sym (is ∙ ap (λ (h : ResponseView). record h
    { fields = h.fields ++ (codes "content-length", decimal n) ∷ [] }) new))
    (record {
      final = final.0;
      status = final.1;
      version = refl;
      framing = inr (inl (counted (record (new_response status)
          { fields = (codes "content-length", decimal n) ∷ [] }) n refl small));
    })
