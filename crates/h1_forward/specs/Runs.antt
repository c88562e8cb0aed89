-- Steps that write a request, one behind another, until it is written whole.
use Rattle.std.specs.Prelude.{◌≡◌, ℕ, List, [], ◌∷◌, ◌++◌, Option, Some, Result, Ok, Err}
use Rattle.std.specs.Io.KnownBytes.{append_known}
use Rattle.futures.specs.declared.task.Poll.{Poll}
use Rattle.futures.specs.declared.task.Poll.TheVariants.{Pending, Ready}
use Rattle.h1_error.specs.declared.error.Error.{Error}
use Rattle.h1_head.specs.Views.{RequestView}
use Rattle.h1_link.specs.LinkState.{LinkState}
use Rattle.h1_client.specs.ClientView.{ClientView}
use Rattle.h1_transcript.specs.Stream.{Message, Parses, Tail, empty}
use Rattle.h1_forward.specs.Forwarded.{IsWrittenAs, message}
use Rattle.h1_forward.specs.Forwarding.{ForwardView, Forwards}
use Rattle.h1_forward.specs.declared.forward.Stage.{Stage}

-- the step didn't fail
abbrev pub Succeeds : Poll (Result Stage Error) → Type 0
Succeeds (Ready (Ok next)) = Unit {0}
Succeeds (Ready (Err error)) = ⊥
Succeeds Pending = Unit {0}

-- what other calls between two steps leave as it is: what is owed and how the body stands, and the
-- bytes that the link took. Calls that read the response are such.
pub record Rests {L : Type 0} (state : L → LinkState) (before now : ClientView L) : Type 0 where
  pub outgoing : now.transfer.outgoing ≡ before.transfer.outgoing
  pub written : (state now.transfer.link).written ≡ (state before.transfer.link).written

-- a step at each of these moments, none of which fails, and between them calls that write nothing
abbrev pub Runs : {L : Type 0} → (L → LinkState) → (L → L → Type 0) → List ℕ → ForwardView
    → ClientView L → ForwardView → ClientView L → Type 0
Runs state same_plan [] old before new behind = (new ≡ old) × (behind ≡ before)
Runs {L} state same_plan (now ∷ moments) old before new behind =
    (next : ForwardView) × (between : ClientView L) × (resumed : ClientView L)
    × (outcome : Poll (Result Stage Error))
    × Forwards state same_plan now old next before between outcome × Succeeds outcome
    × Rests state between resumed × Runs state same_plan moments next resumed new behind

-- the link took the bytes of the request with this payload, and no others
pub record TookRequest (before now : LinkState) (request : RequestView) (payload : List ℕ)
    : Type 0 where
  pub bytes : List ℕ
  pub are : IsWrittenAs request (payload ∷ []) bytes
  pub took : now.written ≡ append_known before.written bytes

-- What stands behind these bytes on a link that tells them is one request with this payload, and
-- nothing else, read in one way.
pub record IsForwarded (before : List ℕ) (told : Option (List ℕ)) (request : RequestView)
    (payload : List ℕ) : Type 0 where
  pub bytes : List ℕ
  pub took : told ≡ Some (before ++ bytes)
  pub count : ℕ
  pub read : Parses bytes (message request payload count ∷ []) empty
  pub alone : (all : List Message) (tail : Tail) → Parses bytes all tail
      → (all ≡ message request payload count ∷ []) × (tail ≡ empty)
