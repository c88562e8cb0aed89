-- Modules whose filters leave a lawful header lawful, under which the replies of an application stay
-- lawful.
use Rattle.std.specs.Prelude.{ℕ, Bool, List, Result, Ok, Err, IfOk}
use Rattle.std.proofs.Common.{subst}
use Rattle.h1_modules.specs.Filters.{on_ok}
use Rattle.h1_modules.specs.Keeping.{Leaves}
use Rattle.h1_modules.specs.Outcome.{Outcome}
use Rattle.h1_app.specs.Words.{RequestView, ResponseView, Given, Reply, IsLawful, LawfulReplies, LawfulRules}
use Rattle.h1_app.specs.Filtering.{Chain, is_empty, behind_request, behind_header, rules_with, value_of}

-- the filters of a header, behind those of a request
header_keeps : {M : Type 0} (filter : List M → ResponseView → Outcome (List M) ResponseView ℕ)
    (header : ResponseView)
    → ((modules : List M) → Leaves IsLawful (filter modules header))
    → (asked : Outcome (List M) RequestView ℕ)
    → Leaves IsLawful (on_ok asked (λ asked. filter asked.0 header))
header_keeps filter header keep (Ok asked) = keep asked.0
header_keeps filter header keep (Err number) = tt

without_modules : {M : Type 0} (outcome : Outcome (List M) ResponseView ℕ) → Leaves IsLawful outcome
    → IfOk (value_of outcome) IsLawful
without_modules (Ok after) lawful = lawful
without_modules (Err number) lawful = tt

-- the filters of a chain whose lists of modules leave a lawful header lawful
pub chain_lawful : {M : Type 0} (gives : Given → Reply → Type 0) → LawfulReplies gives
    → (modules : Chain M)
    → ((end : Bool) (list : List M) (header : ResponseView) → IsLawful header
    → Leaves IsLawful (modules.header end list header))
    → LawfulRules (rules_with gives modules)
chain_lawful gives lawful modules keep given reply h head header made =
    subst (λ (left : Result ResponseView ℕ). IfOk left IsLawful) made
    (without_modules (behind_header modules head reply)
    (header_keeps (modules.header (is_empty reply.body)) reply.header
    (λ list. keep (is_empty reply.body) list reply.header (lawful given reply h))
    (behind_request modules head)))
