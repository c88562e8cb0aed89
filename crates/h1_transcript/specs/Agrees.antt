-- The transcript, the bytes given and the bytes written agree.
use Rattle.std.specs.Prelude.{◌≡◌, ℕ, ◌+◌, ◌-◌, ◌^◌, List, [], ◌∷◌, ◌++◌, length, min, true, false, IfSome}
use Rattle.h1_transcript.specs.Words.{AllByRecursion, LinkState, ErrorType, Body, whole, unfinished, broken, payload_of, Entry, SaysOfBody}
use Rattle.h1_transcript.specs.Ends.{IsTooLarge}
use Rattle.h1_transcript.specs.Rules.{Rules}
use Rattle.h1_transcript.specs.Begun.{AreBegun, Terms}
use Rattle.h1_transcript.specs.Behind.{StoodAs, IsDoneAt, FlushedBy}
use Rattle.h1_transcript.specs.Exchange.{render, IsAllowed}
use Rattle.h1_transcript.specs.Told.{IfTold}
use Rattle.h1_transcript.specs.Stream.{Message, Begins}

-- what an error of this kind says of a request's body
abbrev pub RefusalOf : LinkState → Entry → Body → ErrorType → Type 0
RefusalOf now e body kind = SaysOfBody (body ≡ broken e.body)
    ((body ≡ unfinished e.body) × (now.ended ≡ true)) (body ≡ unfinished e.body)
    (body ≡ unfinished e.body) (IsTooLarge e body) (Unit {0}) kind

-- the body's error, which isn't for a retry, and how the body stood when the application replied
pub record IsReadAs (now : LinkState) (e : Entry) (body : Body) : Type 0 where
  pub refused : IfSome e.body_error (λ error. RefusalOf now e body error.kind
      × (error.retry ≡ false))
  pub replied : IfSome e.reply (λ reply. StoodAs e.how e body)

-- The exchanges are those of these requests: each head is the request's, each body but the last is
-- the payload of its request, whole, and the last is a first part of it. Each was refused and
-- replied to as its body stood.
abbrev pub AreOf : LinkState → List Entry → List Message → Type 0
AreOf now [] [] = Unit {0}
AreOf now [] (m ∷ more) = ⊥
AreOf now (e ∷ more) [] = ⊥
AreOf now (e ∷ []) (m ∷ []) =
    (e.head ≡ m.head) × (e.both ≡ m.both) × ((rest : List ℕ) × (payload_of m.body ≡ e.body ++ rest))
    × IsReadAs now e m.body
AreOf now (e ∷ []) (m ∷ n ∷ more) = ⊥
AreOf now (e ∷ f ∷ later) (m ∷ more) =
    (e.head ≡ m.head) × (e.both ≡ m.both) × ((used : ℕ) × (m.body ≡ whole e.body used))
    × IsReadAs now e m.body × AreOf now (f ∷ later) more

-- the bytes are the replies in order: each whole, but the last perhaps cut
abbrev pub AreReplies : List ℕ → List Entry → Type 0
AreReplies since [] = since ≡ []
AreReplies since (e ∷ []) =
    ((rest : List ℕ) × (render e ≡ since ++ rest)) × (e.written ≡ min (length since) (2 ^ 64 - 1))
AreReplies since (e ∷ f ∷ more) =
    (rest : List ℕ) × (since ≡ render e ++ rest)
    × (e.written ≡ min (length (render e)) (2 ^ 64 - 1)) × AreReplies rest (f ∷ more)

-- each exchange but the last is done, and its reply flushed
abbrev pub AreDone : (ℕ → Type 0) → ℕ → List Entry → Type 0
AreDone flushed total [] = Unit {0}
AreDone flushed total (e ∷ []) = Unit {0}
AreDone flushed total (e ∷ f ∷ more) =
    IsDoneAt flushed (total + e.written) e × AreDone flushed (total + e.written) (f ∷ more)

-- The transcript of a connection whose link had the state `before` when it was made agrees with
-- what the link gave and took since. A link that doesn't tell its bytes is told nothing of.
pub record Agrees (rules : Rules) (terms : Terms) (before now : LinkState)
    (transcript : List Entry) : Type 0 where
  pub read : IfTold before.given now.given (λ since. (requests : List Message)
      × Begins since requests × AreOf now transcript requests)
  pub allowed : AllByRecursion (IsAllowed rules) transcript
  pub begun : AreBegun terms 0 false transcript
  pub written : IfTold before.written now.written (λ since. AreReplies since transcript)
  pub done : AreDone (FlushedBy before now) 0 transcript
