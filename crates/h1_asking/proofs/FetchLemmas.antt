-- Lemmas on requests over sessions that the connector hands out.
use Rattle.std.proofs.Common.{◌≡◌, inl, inr, ℕ, ◌+◌, ◌-◌, ◌^◌, min, List, [], ◌++◌, length, length-append, Bool, true, false, Option, Some, None, is_some, Result, Ok, Err, IfOk, IfErr, refl, sym, ap, ◌∙◌, subst, arith}
use Rattle.std.proofs.Math.Numerals.{add-one}
use Rattle.std.proofs.lemmas.Bool.{false≢true}
use Rattle.std.specs.Option.{option_map}
use Rattle.h1_link.specs.DialerState.{DialerState}
use Rattle.h1_client.specs.Words.{Pending, Ready, Error, RequestView, ResponseView, LinkState, TransferView}
use Rattle.h1_client.specs.ClientView.{ClientView, IsNewSession, request_of}
use Rattle.h1_client.specs.Getting.{GetAnswer}
use Rattle.h1_client.specs.declared.settings.Peer.{Peer}
use Rattle.h1_client.specs.declared.settings.Settings.{Settings}
use Rattle.h1_asking.specs.Fetching.{AfterWaits, Connects, FetchFault, IsFaultOf, NoSession}
use Rattle.h1_asking.specs.Reading.{Gives, ReadsHeads, ReadsSoFar, ReadsWhole, Unread, count_of}
use Rattle.h1_asking.specs.declared.fetching.Fault.{Fault}
use Rattle.h1_asking.specs.declared.fetching.Fault.TheVariants as fault

-- a dial waited once more
pub waits_more : {L D : Type 0} (state : L → LinkState) (dials : D → DialerState) (peer : Peer)
    (n : ℕ) (before between now : D)
    → AfterWaits state dials peer n before between → GetAnswer state dials peer between now Pending
    → AfterWaits state dials peer (n + 1) before now
waits_more state dials peer n before between now waits answer =
    subst (λ m. AfterWaits state dials peer m before now) (sym (add-one n)) (between, waits, answer)

-- no dial waited any more
pub connects_ok : {L D : Type 0} (state : L → LinkState) (dials : D → DialerState) (peer : Peer)
    (n : ℕ) (before between now : D) (outcome : Result (ClientView L × Bool) Error)
    → AfterWaits state dials peer n before between
    → GetAnswer state dials peer between now (Ready outcome)
    → IfOk outcome (λ handed. Connects state dials peer before now (Ok handed))
connects_ok state dials peer n before between now (Ok handed) waits answer =
    record { waits = n; between = between; waited = waits; answer = answer }
connects_ok state dials peer n before between now (Err error) waits answer = tt

pub connects_err : {L D : Type 0} (state : L → LinkState) (dials : D → DialerState) (peer : Peer)
    (n : ℕ) (before between now : D) (outcome : Result (ClientView L × Bool) Error)
    → AfterWaits state dials peer n before between
    → GetAnswer state dials peer between now (Ready outcome)
    → IfErr outcome (NoSession state dials peer before now)
connects_err state dials peer n before between now (Ok handed) waits answer = tt
connects_err state dials peer n before between now (Err error) waits answer =
    inl (record { waits = n; between = between; waited = waits; answer = answer })

new_unread : {L : Type 0} (state : L → LinkState) (over : L) (said : Settings) (session : ClientView L)
    → IsNewSession over said session → Unread state (state session.transfer.link).given session
new_unread {L} state over said session new = record {
  given = refl;
  received = ap (λ (t : TransferView L). t.received) new.transfer.is;
  last = new.response;
}

-- a session that is handed out asked and read nothing
pub handed_unread : {L D : Type 0} (state : L → LinkState) (dials : D → DialerState) (peer : Peer)
    (between now : D) (session : ClientView L) (is_reused : Bool)
    → GetAnswer state dials peer between now (Ready (Ok (session, is_reused)))
    → (request_of session ≡ None) × Unread state (state session.transfer.link).given session
handed_unread state dials peer between now session true answer =
    (answer.0.0.request, new_unread state session.transfer.link _ session answer.0.0)
handed_unread state dials peer between now session false answer =
    (answer.0.0.request, new_unread state session.transfer.link _ session answer.0.0)

-- and it was made with the peer that it is asked for
pub handed_key : {L D : Type 0} (state : L → LinkState) (dials : D → DialerState) (peer : Peer)
    (between now : D) (session : ClientView L) (is_reused : Bool)
    → GetAnswer state dials peer between now (Ready (Ok (session, is_reused)))
    → session.settings.key ≡ Some peer.key
handed_key state dials peer between now session true answer =
    ap (λ (s : Settings). s.key) answer.0.0.settings
handed_key state dials peer between now session false answer =
    ap (λ (s : Settings). s.key) answer.0.0.settings

-- the settings of a session decide nothing here
pub unread_set : {L : Type 0} (state : L → LinkState) (before : Option (List ℕ))
    (old new : ClientView L) (said : Settings) → new ≡ record old { settings = said }
    → Unread state before old → Unread state before new
unread_set {L} state before old new said is unread = record {
  given = ap (λ (s : ClientView L). (state s.transfer.link).given) is ∙ unread.given;
  received = ap (λ (s : ClientView L). s.transfer.received) is ∙ unread.received;
  last = ap (λ (s : ClientView L). s.answered.last) is ∙ unread.last;
}

pub wrote_set : {L : Type 0} (state : L → LinkState) (old new : ClientView L) (said : Settings)
    → new ≡ record old { settings = said }
    → (state new.transfer.link).written ≡ (state old.transfer.link).written
wrote_set {L} state old new said is =
    ap (λ (s : ClientView L). (state s.transfer.link).written) is

pub key_set : {L : Type 0} (old new : ClientView L) (said : Settings)
    → new ≡ record old { settings = said } → said.key ≡ old.settings.key
    → new.settings.key ≡ old.settings.key
key_set {L} old new said is same = ap (λ (s : ClientView L). s.settings.key) is ∙ same

-- a session that read its final response whole
abbrev pub whole_gives : {L : Type 0} (state : L → LinkState) (before : LinkState) (request : RequestView)
    (said : ResponseView) (payload : List ℕ) (t : TransferView L)
    → ReadsWhole state before.given request said payload t
    → Gives before (state t.link) request said payload
whole_gives state before request said payload t is = record {
  heads = is.reads.heads;
  interim = is.reads.interim;
  front = is.reads.front;
  rest = is.reads.rest;
  left = t.received;
  are = is.reads.are;
  head = is.reads.head;
  final = is.reads.final;
  gave = is.reads.gave;
  whole_body = is.whole_body;
}

-- one piece more is counted
pub counts_on : (payload piece : List ℕ) (count after : ℕ) → count ≡ count_of payload
    → after ≡ min (count + length piece) (2 ^ 64 - 1) → after ≡ count_of (payload ++ piece)
counts_on payload piece count after is then =
    omega (arith, is, then, length-append payload piece)

-- the final head was read, where its status is told
pub final_from : {L : Type 0} (state : L → LinkState) (before : Option (List ℕ))
    (request : RequestView) (t : TransferView L) (final : Option ResponseView) (status : ℕ)
    → Some status ≡ option_map (λ said. said.status) final → ReadsHeads state before request t final
    → (said : ResponseView) × (final ≡ Some said) × ReadsSoFar state before request said [] t
    × (status ≡ said.status)
final_from state before request t None status is far = absurd (false≢true (sym (ap is_some is)))
final_from state before request t (Some said) status is far =
    let same : status ≡ said.status = cc in (said, refl, far, same)

-- why a request has no response, where there is no session
pub server_cause : {L D : Type 0} (state : L → LinkState) (dials : D → DialerState) (peer : Peer)
    (before now : D) (error : Error) (why : Fault)
    → NoSession state dials peer before now error → IsFaultOf fault.Server error why
    → FetchFault state dials peer before now why
server_cause state dials peer before now error why none is = elim is [
  | inl memory ↦ rw memory tt
  | inr other ↦ rw other.1 (other.0, none)
]

-- and where there is one
pub response_cause : {L D : Type 0} (state : L → LinkState) (dials : D → DialerState) (peer : Peer)
    (before now : D) (session : ClientView L) (is_reused : Bool) (error : Error) (why : Fault)
    → Connects state dials peer before now (Ok (session, is_reused))
    → IsFaultOf fault.Response error why → FetchFault state dials peer before now why
response_cause state dials peer before now session is_reused error why connects is = elim is [
  | inl memory ↦ rw memory tt
  | inr other ↦ rw other.1 (other.0, session, is_reused, connects)
]
