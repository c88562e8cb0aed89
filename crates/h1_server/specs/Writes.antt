-- What each call that writes a part of a reply comes to, as the session sees it (RFC 9112, sections
-- 4 to 7).
use Rattle.std.specs.Prelude.{ℕ, List, Option, Result}
use Rattle.h1_server.specs.Words.{Poll, Error, LinkState}
use Rattle.h1_transfer.specs.Writes as writes
use Rattle.h1_transfer.specs.PieceWrites as pieces
use Rattle.h1_transfer.specs.EndWrites as ends
use Rattle.h1_server.specs.SessionView.{SessionView, session}
use Rattle.h1_server.specs.Times.{piece_deadline}

-- one call that writes
abbrev pub Writes : {L C : Type 0} → (L → LinkState) → SessionView L C → SessionView L C → List ℕ
    → ℕ → Type 0
Writes state old new taking left = writes.Writes state session old new taking left

-- one call at a moment that writes a piece of the body
abbrev pub WritesPiece : {L C : Type 0} → (L → LinkState) → ℕ → SessionView L C → SessionView L C
    → Option (List ℕ) → Option (List ℕ) → Poll (Result (Option ℕ) Error) → Type 0
WritesPiece state now old new piece kept outcome =
    pieces.WritesPiece state session (piece_deadline old.settings.times now old.reply piece) old new
    piece kept outcome

-- one call that writes the end of the body
abbrev pub WritesEnd : {L C : Type 0} → (L → LinkState) → SessionView L C → SessionView L C
    → ends.EndStage → Poll (Result (Option ℕ) Error) → Type 0
WritesEnd state old new stage outcome = ends.WritesEnd state session old new stage outcome

-- a body that ends short of its length
abbrev pub EndsShort : {L C : Type 0} → SessionView L C → SessionView L C
    → Poll (Result (Option ℕ) Error) → Type 0
EndsShort old new outcome = ends.EndsShort session old new outcome

-- one call at the end of the body
abbrev pub EndCall : {L C : Type 0} → (L → LinkState) → SessionView L C → SessionView L C
    → Poll (Result (Option ℕ) Error) → Option ends.EndStage → Type 0
EndCall state old new outcome stage = ends.EndCall state session old new outcome stage
