-- What an application sets is no matter to what it reads.
use Rattle.std.proofs.Common.{◌≡◌, ◌∙◌, ℕ, ap, refl}
use Rattle.h1_application.specs.Words.{LinkState, SessionView, Settings}
use Rattle.h1_application.proofs.Words.{ReadsOnly}
use Rattle.h1_application.specs.Application.{ReadsInTime}
use Rattle.h1_application.proofs.ReadLemmas.{reads_itself}
use Rattle.h1_application.proofs.TimeLemmas.{in_time_itself, in_time_set}

-- what is set is no matter to what is read
pub only_settings : {L C : Type 0} (state : L → LinkState) (old new : SessionView L C)
    (settings : Settings) → settings.reuses ≡ old.settings.reuses
    → ReadsOnly state (record old { settings = settings }) new → ReadsOnly state old new
only_settings state old new settings same r = record {
  piece = r.piece;
  used = r.used;
  payload = r.payload;
  spent = r.spent;
  moved = r.moved;
  budget = r.budget;
  within = r.within;
  flushed = r.flushed;
  bytes = r.bytes;
  decoded = r.decoded;
  kept = r.kept;
  request = r.request;
  few = r.few;
  calls = r.calls;
  head_refused = r.head_refused;
  reuses = r.reuses ∙ same;
  reply = r.reply;
  keep = r.keep;
  reusable = r.reusable;
  context = r.context;
  refused = r.refused;
  undrained = r.undrained;
  waits = r.waits;
}

-- what is set twice is set once
pub set_twice : {L C : Type 0} (old once twice : SessionView L C) (first second : Settings)
    → once ≡ record old { settings = first } → twice ≡ record once { settings = second }
    → twice ≡ record old { settings = second }
set_twice {L} {C} old once twice first second is then = then ∙ ap (λ (s : SessionView L C).
    record s { settings = second }) is

-- a refusal reads nothing, and only sets what may be set
pub refusal_reads : {L C : Type 0} (state : L → LinkState) (old closing new : SessionView L C)
    (first second : Settings) → closing ≡ record old { settings = first }
    → new ≡ record closing { settings = second } → second.reuses ≡ old.settings.reuses
    → ReadsOnly state old new
refusal_reads {L} {C} state old closing new first second is then same =
    let set : SessionView L C = record old { settings = second } in
    rw (then, is) (only_settings state old set second same (reads_itself state set))

-- and notes no wait
pub refusal_in_time : {L C : Type 0} (state : L → LinkState) (now : ℕ)
    (old closing new : SessionView L C) (first second : Settings)
    → closing ≡ record old { settings = first } → new ≡ record closing { settings = second }
    → ReadsInTime state now old new
refusal_in_time {L} {C} state now old closing new first second is then =
    let set : SessionView L C = record old { settings = second } in
    rw (then, is) (in_time_set state now old set set refl (in_time_itself state now set))
