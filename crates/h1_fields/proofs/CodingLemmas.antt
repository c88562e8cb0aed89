-- The last transfer coding.
use Rattle.std.proofs.Common.{◌≡◌, ℕ, ◌⊎◌, Bool, true, false, List, [], ◌∷◌, ◌++◌, inl, inr, refl, ap, codes}
use Rattle.h1_fields.specs.Names.{same_name}
use Rattle.h1_fields.specs.Codings.{ends_chunked, EndsInChunked}

-- the last is `chunked`, or there is none and the one before was
ends_only : (found : Bool) (codings : List (List ℕ)) → ends_chunked found codings ≡ true
    → ((codings ≡ []) × (found ≡ true)) ⊎ EndsInChunked codings
ends_only found [] ends = inl (refl, ends)
ends_only found (coding ∷ more) ends =
    by_rest (ends_only (same_name (codes "chunked") coding) more ends)
  where
    by_rest : ((more ≡ []) × (same_name (codes "chunked") coding ≡ true)) ⊎ EndsInChunked more
        → ((coding ∷ more ≡ []) × (found ≡ true)) ⊎ EndsInChunked (coding ∷ more)
    by_rest (inl last) =
        inr (record {
          before = [];
          last = coding;
          are = ap (λ rest. coding ∷ rest) last.0;
          chunked = last.1;
        })
    by_rest (inr rest) =
        inr (record {
          before = coding ∷ rest.before;
          last = rest.last;
          are = ap (λ all. coding ∷ all) rest.are;
          chunked = rest.chunked;
        })

pub chunked_only : (codings : List (List ℕ)) → ends_chunked false codings ≡ true
    → EndsInChunked codings
chunked_only codings ends = by_end (ends_only false codings ends)
  where
    by_end : ((codings ≡ []) × (false ≡ true)) ⊎ EndsInChunked codings → EndsInChunked codings
    by_end (inl never) = absurd (let no : false ≡ true = never.1 in cc)
    by_end (inr ends) = ends

ends_all : (found : Bool) (before : List (List ℕ)) (last : List ℕ)
    → same_name (codes "chunked") last ≡ true
    → ends_chunked found (before ++ last ∷ []) ≡ true
ends_all found [] last chunked = chunked
ends_all found (coding ∷ before) last chunked =
    ends_all (same_name (codes "chunked") coding) before last chunked

pub chunked_all : (codings : List (List ℕ)) → EndsInChunked codings
    → ends_chunked false codings ≡ true
chunked_all codings ends = rw ends.are (ends_all false ends.before ends.last ends.chunked)
