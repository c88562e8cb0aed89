-- Each header that was sent is stamped.
use Rattle.std.proofs.Common.{◌≡◌, ℕ, List, [], ◌∷◌, codes, Option, Some, None, IfSome, Result, Ok, Err, refl, ◌∙◌, ap, subst, true}
use Rattle.std.specs.List.{All, AllByRecursion}
use Rattle.std.proofs.lemmas.List.Elements.{All-from_recursion}
use Rattle.h1_head.specs.Views.{RequestView, ResponseView}
use Rattle.h1_transcript.specs.declared.reply.Reply.{Reply}
use Rattle.h1_transcript.specs.Entry.{Entry}
use Rattle.h1_transcript.specs.Exchange.{IsAllowed, given_to}
use Rattle.h1_greeting.specs.Greeting.{Greeting, greeting}
use Rattle.h1_greeting.specs.Stamped.{stamped, stamped_greeting}

-- the reply is the greeting, before its header is stamped
replied : (e : Entry) (reply : Reply) → e.reply ≡ Some reply → IsAllowed stamped_greeting e
    → reply ≡ greeting
replied e reply is allowed =
    (subst (λ (o : Option Reply). IfSome o (λ reply. (filtered : RequestView)
    × (e.filtered ≡ Some filtered) × Greeting (given_to e filtered) reply)) is allowed.reply).2.is

-- the outcome of the filters of a header
abbrev outcome : ResponseView → Result ResponseView ℕ
outcome header = Ok header

outcome_is : (made header : ResponseView) → outcome made ≡ Ok header → header ≡ made
outcome_is made header h = cc

-- each header that was sent is that of the greeting, stamped
pub all_stamped : (entries : List Entry) → AllByRecursion (IsAllowed stamped_greeting) entries
    → All (λ e. IfSome e.sent_head (λ header. header ≡ stamped greeting.header)) entries
all_stamped entries allowed = All-from_recursion _ entries (each entries allowed)
  where
    of_head : (head : Option ResponseView) (P : ResponseView → Type 0)
        → ((header : ResponseView) → P header → header ≡ stamped greeting.header)
        → IfSome head P → IfSome head (λ header. header ≡ stamped greeting.header)
    of_head None P is h = tt
    of_head (Some header) P is h = is header h

    each : (entries : List Entry) → AllByRecursion (IsAllowed stamped_greeting) entries
        → AllByRecursion (λ e. IfSome e.sent_head (λ header. header ≡ stamped greeting.header))
        entries
    each [] h = tt
    each (e ∷ more) h = (
      of_head e.sent_head _
          (λ header sent. outcome_is (stamped sent.0.header) header sent.2
          ∙ ap (λ (reply : Reply). stamped reply.header) (replied e sent.0 sent.1 h.0))
          h.0.sent_head,
      each more h.1,
    )
