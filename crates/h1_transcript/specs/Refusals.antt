-- Where a filter of a module refuses, and when a connection whose modules may refuse ends.
use Rattle.std.specs.Prelude.{◌≡◌, ◌⊎◌, ℕ, List, [], false, Option, Some, None, IsSome, Err}
use Rattle.h1_error.specs.declared.error.ErrorType.TheVariants as kind
use Rattle.h1_error.specs.declared.progress.End.TheVariants as end
use Rattle.h1_transcript.specs.Words.{End, LinkState, Reply, Entry}
use Rattle.h1_transcript.specs.Behind.{WroteBehind}
use Rattle.h1_transcript.specs.Ends.{EndCause, OfLast}
use Rattle.h1_transcript.specs.Exchange.{render}
use Rattle.h1_transcript.specs.Rules.{Filters}
use Rattle.h1_transcript.specs.Told.{IfTold}

-- a filter of the reply refuses with this number: that of its header, or, once the header is sent,
-- that of its body
abbrev pub IsReplyRefusedBy : Filters → Entry → Reply → ℕ → Type 0
IsReplyRefusedBy filters e reply n =
    ((e.sent_head ≡ None) × (filters.header e.head reply ≡ Err n))
    ⊎ (IsSome e.sent_head × (filters.body e.head reply ≡ Err n))

-- a filter refuses with this number what the exchange has: the head of its request, of whose body
-- nothing was read then, or its reply
abbrev pub IsRefusedBy : Filters → Entry → ℕ → Type 0
IsRefusedBy filters e n =
    ((e.filtered ≡ None) × (e.body ≡ []) × (filters.request e.head ≡ Err n))
    ⊎ ((reply : Reply) × (e.reply ≡ Some reply) × (e.sent_body ≡ None)
    × IsReplyRefusedBy filters e reply n)

-- A filter refused in the last exchange. The error has its number, and isn't for a retry.
abbrev pub RefusesLast : Filters → Option Entry → End → Type 0
RefusesLast filters last (end.Failed error) = (error.retry ≡ false)
    × ((n : ℕ) × (error.kind ≡ kind.ModuleFailed n) × OfLast last (λ e. IsRefusedBy filters e n))
RefusesLast filters last _ = ⊥

-- what was taken up of the last reply was written whole, after those of the exchanges that ended
abbrev pub IsWrittenSoFar : LinkState → LinkState → List Entry → Option Entry → Type 0
IsWrittenSoFar before now done last = OfLast last (λ e. IfTold before.written now.written
    (λ since. WroteBehind since done (render e)))

-- when a connection with these filters ends: for a cause of its own, or for a refusal behind all
-- that was taken up
abbrev pub EndsBy : Filters → LinkState → LinkState → LinkState → List Entry → Option Entry → End
    → Type 0
EndsBy filters before old now done last reason =
    EndCause before old now done last reason
    ⊎ (RefusesLast filters last reason × IsWrittenSoFar before now done last)
