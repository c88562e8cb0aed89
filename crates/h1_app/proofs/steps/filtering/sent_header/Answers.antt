use Rattle.std.proofs.Common.{◌≡◌, ◌==◌, ℕ, List, [], ◌∷◌, length, refl, sym, rules, arith}
use Rattle.std.proofs.lemmas.Bool.{ne_eqb}
use Rattle.h1_app.proofs.Words.{is_empty}
use Rattle.h1_app.proofs.steps.filtering.sent_header.Goals as goal

empty_as : (bytes : List ℕ) → is_empty bytes ≡ (length bytes == 0)
empty_as [] = refl
empty_as (b ∷ bytes) = sym (ne_eqb (length (b ∷ bytes)) 0 (λ e. absurd (omega (arith, e))))

-- the error of the filters is told as it came
pub returns-in_err-filter_header-clause-err : goal.returns-in_err-filter_header-clause-err
returns-in_err-filter_header-clause-err g c =
    rw (
      ← c.in-Some.ensures,
      ← c.in_ok-header.ensures.ok,
      empty_as c.in-Some.reply.now.body,
      ← c.is_empty-then-not-is_empty.ensures,
    ) (search rules)
