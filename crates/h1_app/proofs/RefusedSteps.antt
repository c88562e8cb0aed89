-- Steps in which the filters make nothing of a reply: one refuses it, or there is no memory.
use Rattle.std.proofs.Common.{[], ◌≡◌, ℕ, ◌⊎◌, inl, inr, Bool, None, Some, Result, Ok, Err, ap, refl, false, arith}
use Rattle.h1_modules.specs.Outcome.{ErrsBy, refused_by}
use Rattle.h1_transcript.specs.Refusals.{IsReplyRefusedBy}
use Rattle.h1_transfer.specs.Deadline.{is_timeout}
use Rattle.h1_app.specs.Words.{Entry, Error, Exchange, LinkState, Outcome, Reply, Rules, no_memory}
use Rattle.h1_application.specs.Application.{Runs}
use Rattle.h1_app.proofs.StepLemmas.{AllowedReady, kept_stepped}
use Rattle.h1_app.proofs.TimelyLemmas.{fails_anyhow}
use Rattle.h1_app.proofs.Words.{OutcomeCause, StepRefuses, Stepped}
use Rattle.h1_error.specs.declared.progress.End.TheVariants as end
use Rattle.h1_app.specs.declared.exchange.Outcome.TheVariants as outcome

-- what erred refused with a number, or there is no memory
pub erred_by : {V : Type 0} (made : Result V ℕ) (error : Error) → ErrsBy refused_by made error
    → ((n : ℕ) × (made ≡ Err n) × (error ≡ refused_by n)) ⊎ (error ≡ no_memory)
erred_by (Ok after) error h = inr h
erred_by (Err n) error (inl refused) = inl (n, refl, refused)
erred_by (Err n) error (inr memory) = inr memory

-- the connection ends with the refusal, and the exchange stays as it is
pub refused_stepped : {L C J : Type 0} (state : L → LinkState) (pends : J → ℕ) (rules : Rules)
    (runs : Runs J) (now : ℕ) (shutdown : Bool)
    (x y : Exchange L J C) (result : Outcome) → AllowedReady rules runs now x → (e : Entry)
    → x.transcript.last ≡ Some e → y.transcript.last ≡ Some e → y.session ≡ x.session
    → y.stage ≡ x.stage → (reply : Reply) → e.reply ≡ Some reply → e.sent_body ≡ None
    → y.session.reply.owed ≡ []
    → (error : Error) → result ≡ outcome.Ends (end.Failed error)
    → ((n : ℕ) × IsReplyRefusedBy rules.filters e reply n × (error ≡ refused_by n))
    ⊎ (error ≡ no_memory)
    → Stepped state pends rules runs now shutdown x y result
refused_stepped state pends rules runs now shutdown x y result ready e was is same stays
    reply replied unsent unowed error ends why =
    kept_stepped state pends rules runs now shutdown x y e result ready was is same
    (λ moves. rw (ends, stays) (fails_anyhow state now x.stage x.stage x.session y.session
    x.transcript.last (Some e) moves (omega arith) error (untimed why)))
    (rw ends (caused why))
  where
    Why : Type 0
    Why = ((n : ℕ) × IsReplyRefusedBy rules.filters e reply n × (error ≡ refused_by n))
        ⊎ (error ≡ no_memory)

    untimed : Why → is_timeout error.kind ≡ false
    untimed (inl refused) = rw refused.2 refl
    untimed (inr memory) = rw memory refl

    caused : Why → OutcomeCause state pends runs x.session y.session (Some e) x.stage y.stage
        (outcome.Ends (end.Failed error))
        ⊎ StepRefuses rules.filters y.session (Some e) (outcome.Ends (end.Failed error))
    caused (inl refused) = inr (
      (
        ap (λ (x : Error). x.retry) refused.2,
        (refused.0, ap (λ (x : Error). x.kind) refused.2, inr (reply, replied, unsent, refused.1)),
      ),
      unowed,
      unsent,
    )
    caused (inr memory) = inl (λ before done s. rw memory (refl, tt))
