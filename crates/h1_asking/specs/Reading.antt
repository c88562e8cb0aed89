-- What a session reads of the responses to a request, by the bytes that its link gave (RFC 9112,
-- sections 4 and 6; RFC 9110, section 15.2).
use Rattle.std.specs.Prelude.{◌≡◌, ◌⊎◌, ◌^◌, ◌-◌, ℕ, min, List, [], ◌++◌, length, true, false, Option, Some, None, Result, Ok, Err}
use Rattle.std.specs.Io.KnownBytes.{append_known}
use Rattle.h1_body.specs.Reader.{is_until_close}
use Rattle.h1_client.specs.Words.{Poll, Pending, Ready, Error, RequestView, ResponseView, LinkState, TransferView, Framing, body, reads, ahead, whole, unfinished, IsAccepted, is_interim}
use Rattle.h1_client.specs.ClientView.{ClientView}
use Rattle.h1_client.specs.Exchanges.{AreInterim}
use Rattle.h1_client.specs.Responses.{framing_to}
use Rattle.h1_asking.specs.declared.fetching.Part.{Part}
use Rattle.h1_asking.specs.declared.fetching.Part.TheVariants as part

-- a session over a link that gave these bytes so far, of which none is received, and that read no head
pub record Unread {L : Type 0} (state : L → LinkState) (before : Option (List ℕ)) (s : ClientView L)
    : Type 0 where
  pub given : (state s.transfer.link).given ≡ before
  pub received : s.transfer.received ≡ []
  pub last : s.answered.last ≡ None

-- since then the link gave the heads of interim responses, and then what is received
pub record ReadsInterim {L : Type 0} (state : L → LinkState) (before : Option (List ℕ))
    (t : TransferView L) : Type 0 where
  pub heads : List (List ℕ)
  pub interim : List ℕ
  pub are : AreInterim heads interim
  pub gave : (state t.link).given ≡ append_known before (interim ++ t.received)

-- Since then the link gave the heads of interim responses, the head of the final one, so much of its
-- body, and then what is received. The payload of that part of the body is this.
pub record ReadsFinal {L : Type 0} (state : L → LinkState) (before : Option (List ℕ))
    (request : RequestView) (said : ResponseView) (payload : List ℕ) (t : TransferView L) : Type 0 where
  pub heads : List (List ℕ)
  pub interim : List ℕ
  pub front : List ℕ
  pub rest : List ℕ
  pub are : AreInterim heads interim
  pub head : IsAccepted front said
  pub final : is_interim said.status ≡ false
  pub gave : (state t.link).given
      ≡ append_known before (interim ++ (front ++ (rest ++ t.received)))
  pub reads_on : (more : List ℕ) → body (framing_to request said) (rest ++ more)
      ≡ ahead payload (length rest) (reads t.body.reader more)

-- and no read of the body was refused
abbrev pub ReadsSoFar : {L : Type 0} → (L → LinkState) → Option (List ℕ) → RequestView → ResponseView
    → List ℕ → TransferView L → Type 0
ReadsSoFar state before request said payload t =
    ReadsFinal state before request said payload t × (t.body.refused ≡ None)

-- a session that reads the heads of responses
abbrev pub ReadsHeads : {L : Type 0} → (L → LinkState) → Option (List ℕ) → RequestView
    → TransferView L → Option ResponseView → Type 0
ReadsHeads state before request t None = ReadsInterim state before t
ReadsHeads state before request t (Some said) = ReadsSoFar state before request said [] t

-- the bytes of a body are all of it: by its framing, or because the link ended behind them
abbrev pub IsWholeBody : Framing → List ℕ → List ℕ → List ℕ → LinkState → Type 0
IsWholeBody framing rest payload left now =
    (body framing rest ≡ whole payload (length rest))
    ⊎ ((is_until_close framing ≡ true) × (body framing rest ≡ unfinished payload)
    × (left ≡ []) × (now.ended ≡ true))

-- What a link gave between two moments: the heads of interim responses, a final response to the
-- request that says this and has this payload, and these bytes behind it.
pub record Gives (before now : LinkState) (request : RequestView) (said : ResponseView)
    (payload : List ℕ) : Type 0 where
  pub heads : List (List ℕ)
  pub interim : List ℕ
  pub front : List ℕ
  pub rest : List ℕ
  pub left : List ℕ
  pub are : AreInterim heads interim
  pub head : IsAccepted front said
  pub final : is_interim said.status ≡ false
  pub gave : now.given ≡ append_known before.given (interim ++ (front ++ (rest ++ left)))
  pub whole_body : IsWholeBody (framing_to request said) rest payload left now

-- the same of a session that read its final response whole
pub record ReadsWhole {L : Type 0} (state : L → LinkState) (before : Option (List ℕ))
    (request : RequestView) (said : ResponseView) (payload : List ℕ) (t : TransferView L) : Type 0 where
  pub reads : ReadsFinal state before request said payload t
  pub whole_body : IsWholeBody (framing_to request said) reads.rest payload t.received
      (state t.link)

-- what one call makes of a session that reads its final response, by its answer
abbrev pub ReadsOn : {L : Type 0} → (L → LinkState) → Option (List ℕ) → RequestView → ResponseView
    → List ℕ → TransferView L → Poll (Result (Option (List ℕ)) Error) → Type 0
ReadsOn state before request said payload t (Ready (Ok (Some piece))) =
    ReadsSoFar state before request said (payload ++ piece) t
ReadsOn state before request said payload t (Ready (Ok None)) =
    ReadsWhole state before request said payload t
ReadsOn state before request said payload t (Ready (Err error)) = Unit {0}
ReadsOn state before request said payload t Pending =
    ReadsSoFar state before request said payload t

-- how many bytes a payload has, up to the last value of a u64
abbrev pub count_of : List ℕ → ℕ
count_of payload = min (length payload) (2 ^ 64 - 1)

-- what one call makes of the count of a payload
abbrev pub Counts : {L : Type 0} → (L → LinkState) → Option (List ℕ) → RequestView → ResponseView
    → TransferView L → ℕ → Part → Type 0
Counts state before request said t count part.More =
    (payload : List ℕ) × ReadsSoFar state before request said payload t × (count ≡ count_of payload)
Counts state before request said t count part.End =
    (payload : List ℕ) × ReadsWhole state before request said payload t × (count ≡ count_of payload)
