-- What a step that writes a part of a reply notes, and where its exchange stands then.
use Rattle.std.specs.Prelude.{◌≡◌, ℕ, ◌/◌, Bool, true, List, Option, Some, None, Result, Ok, Err}
use Rattle.h1_app.specs.Words.{Poll, Ready, Pending, Error, ResponseView, IsDateAt, Entry, Reply, Stage, Outcome, shown}
use Rattle.h1_app.specs.Beginning.{IsPieceOf}
use Rattle.h1_error.specs.declared.progress.Waiting.TheVariants as waiting
use Rattle.h1_error.specs.declared.progress.End.TheVariants as end
use Rattle.h1_app.specs.declared.exchange.Outcome.TheVariants as outcome

-- the part is owed, it is written, or the call failed
abbrev pub StandsAfter : {T J : Type 0} → Poll (Result T Error) → Stage J → Stage J → Stage J
    → Stage J → Outcome → Type 0
StandsAfter Pending owed later from to result = (to ≡ owed) × (result ≡ outcome.Waits waiting.Write)
StandsAfter (Ready (Ok value)) owed later from to result = (to ≡ later) × (result ≡ outcome.Done)
StandsAfter (Ready (Err error)) owed later from to result =
    (to ≡ from) × (result ≡ outcome.Ends (end.Failed error))

-- a header that was taken up is noted, with the date and the flag of its call; one that is handed
-- back is not
abbrev pub NotesHeader : Option ResponseView → ResponseView → ℕ → Bool → ℕ → Entry → Entry → Type 0
NotesHeader None sent now keep written old new = IsDateAt (now / 1000) new.date_text
    × (new ≡ record old {
      sent_head = Some sent;
      date = now / 1000;
      date_text = new.date_text;
      keep = keep;
      owed = true;
      written = written;
    })
NotesHeader (Some back) sent now keep written old new = new ≡ old

-- what goes of a reply's body: nothing where its own is empty
abbrev pub going : Reply → List ℕ → List ℕ
going reply sent = shown (Some reply) sent

-- what the filters made of the body is noted, and what goes of it is handed out, where it has bytes
pub record NotesBody (reply : Reply) (sent : List ℕ) (piece : Option (List ℕ))
    (old new : Entry) : Type 0 where
  pub entry : new ≡ record old { sent_body = Some sent }
  pub goes : IsPieceOf (going reply sent) piece
