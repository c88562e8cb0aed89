-- Without modules nothing is changed and nothing refused.
use Rattle.std.specs.Prelude.{◌≡◌, ℕ, List, [], ◌∷◌, map, Some, Result, Ok, Err, refl}
use Rattle.std.proofs.Common.{ap, sym, ◌∙◌, subst}
use Rattle.h1_modules.specs.Filters.{run}
use Rattle.h1_modules.specs.Outcome.{Outcome}
use Rattle.h1_modules.specs.declared.no_modules.NoModules.{NoModules}
use Rattle.h1_transcript.specs.Lawful.{IsLawful, LawfulReplies}
use Rattle.h1_app.specs.Words.{RequestView, Given, Reply, ArePlain, LawfulRules}
use Rattle.h1_app.specs.Filtering.{Chain, chain, behind_request, behind_header, behind_body, value_of, bytes_of, filters_of, rules_with}

-- a filter that changes nothing
abbrev pub same_filter : {A : Type 0} → NoModules → A → Outcome NoModules A ℕ
same_filter none value = Ok (none, value)

-- such filters of a list of modules leave the modules and the value
run_same : {A : Type 0} (modules : List NoModules) (value : A)
    → run same_filter modules value ≡ Ok (modules, value)
run_same [] value = refl
run_same (m ∷ modules) value = rw (run_same modules value) refl

-- the chain of servers without modules
abbrev pub no_chain : List NoModules → Chain NoModules
no_chain builders =
    chain (λ none. none) same_filter (λ end. same_filter) (λ end. same_filter) builders

module _ (builders : List NoModules) where
  heads : (head : RequestView)
      → behind_request (no_chain builders) head ≡ Ok ((no_chain builders).begins, head)
  heads head = run_same (map (λ none. none) builders) head

  headers : (head : RequestView) (reply : Reply)
      → behind_header (no_chain builders) head reply ≡ Ok ((no_chain builders).begins, reply.header)
  headers head reply = rw (heads head) (run_same (map (λ none. none) builders) reply.header)

  bodies : (head : RequestView) (reply : Reply)
      → behind_body (no_chain builders) head reply ≡ Ok ((no_chain builders).begins, Some reply.body)
  bodies head reply =
      rw (headers head reply) (run_same (map (λ none. none) builders) (Some reply.body))

  pub none_plain : ArePlain (filters_of (no_chain builders))
  none_plain = record {
    request = λ head. ap value_of (heads head);
    header = λ head reply. ap value_of (headers head reply);
    body = λ head reply. ap bytes_of (bodies head reply);
  }

-- what a filter made, or this where it refused
abbrev inside : {V : Type 0} → V → Result V ℕ → V
inside other (Ok value) = value
inside other (Err n) = other

pub none_lawful : (gives : Given → Reply → Type 0) → LawfulReplies gives → (builders : List NoModules)
    → LawfulRules (rules_with gives (no_chain builders))
none_lawful gives lawful builders given reply h head header made =
    subst IsLawful (ap (inside header) (sym ((none_plain builders).header head reply) ∙ made))
    (lawful given reply h)
