-- Each step of a session keeps what holds of it.
use Rattle.std.proofs.Common.{◌≡◌, ℕ, List, [], take, drop, Bool, true, false, ◌&&◌, ◌==◌, Option, Some, None, is_some, refl, sym, ap, ◌∙◌}
use Rattle.std.proofs.lemmas.Bool.{false≢true}
use Rattle.h1_body.specs.Payload.{Payload}
use Rattle.h1_transfer.specs.Moved.{Received, Sent}
use Rattle.h1_transfer.specs.Decoding.{ReadsBody}
use Rattle.h1_client.specs.Words.{Framing, Counted, Chunked, UntilClose, framing, body, reads, BodyReader, WriterView, begun, until_close, HeadSearch, HasLooked, MAX_HEADER_SIZE, RequestView, ResponseView, request_bytes, LinkState, IsAccepted, is_interim, Outgoing}
use Rattle.h1_client.specs.Responses.{framing_to, is_upgraded, wishes_upgrade}
use Rattle.h1_client.specs.Reusing.{is_at_end, is_nothing, is_on, is_sent}
use Rattle.h1_client.specs.Served.{IsServed}
use Rattle.h1_client.specs.Sound.{Sound, IsSearched, StaysHttp}
use Rattle.h1_client.specs.Written.{FitsRequest}
use Rattle.h1_client.specs.declared.keeping.Keepalive.{Keepalive}
use Rattle.h1_client.specs.declared.keeping.Keepalive.TheVariants.{Off, On}
use Rattle.h1_head.specs.Versions.{is_http_11}
use Rattle.h1_client.proofs.ExchangeLemmas.{exchange_new, exchange_takes, exchange_keeps, exchange_sends, exchange_receives, exchange_interim, exchange_heads, exchange_reads, exchange_ends, head_of_and}

-- the body of a request is framed by its head
goes : (f : Framing) → FitsRequest f → until_close (Some f) ≡ false
goes (Counted n) fits = refl
goes Chunked fits = refl
goes UntilClose fits = absurd fits

passes_alike : (writer other : WriterView) → writer ≡ other
    → until_close other.framing ≡ until_close writer.framing
passes_alike writer other same = ap (λ (w : WriterView). until_close w.framing) (sym same)

-- no body passes as it is before a request is begun
unasked : (passes : Bool) (final : Option ResponseView)
    → (passes ≡ true → (wishes_upgrade None && is_upgraded final) ≡ true) → passes ≡ false
unasked false final changed = refl
unasked true final changed = absurd (false≢true (changed refl))

-- nor before the final head is read
unanswered : (passes : Bool) (request : Option RequestView)
    → (passes ≡ true → (wishes_upgrade request && is_upgraded None) ≡ true) → passes ≡ false
unanswered false request changed = refl
unanswered true request changed =
    absurd (false≢true (head_of_and (wishes_upgrade request) false (changed refl)).1)

-- nothing is asked or answered yet
pub sound_new : (s : LinkState) (looking : HeadSearch) (reader : BodyReader) (out : Outgoing)
    → IsServed s → HasLooked MAX_HEADER_SIZE looking [] → out.owed ≡ [] → out.writer.framing ≡ None
    → Sound s [] looking None None reader out Off
sound_new s looking reader out served looked nothing unbegun = record {
  http = λ off. exchange_new s reader out served nothing;
  changed = λ on. absurd (false≢true (ap (λ (f : Option Framing). until_close f) (sym unbegun) ∙ on));
  searched = looked;
  stays = tt;
}

-- a head is taken up
pub sound_takes : (s : LinkState) (received : List ℕ) (looking : HeadSearch)
    (final : Option ResponseView) (reader : BodyReader) (out behind : Outgoing) (k : Keepalive)
    (head : RequestView) (bytes : List ℕ)
    → Sound s received looking None final reader out k → out.owed ≡ [] → request_bytes head ≡ Some bytes
    → FitsRequest (framing head) → behind.owed ≡ bytes → behind.writer ≡ begun (framing head)
    → Sound s received looking (Some head) final reader behind k
sound_takes s received looking final reader out behind k head bytes sound empty wire fits owed writer =
    let framed : until_close behind.writer.framing ≡ false =
    sym (passes_alike behind.writer (begun (framing head)) writer) ∙ goes (framing head) fits in
    record {
      http = λ off. exchange_takes s received final reader out behind head bytes
          (sound.http (unasked (until_close out.writer.framing) final sound.changed))
          empty wire fits owed writer;
      changed = λ on. absurd (false≢true (sym framed ∙ on));
      searched = sound.searched;
      stays = sound.stays;
    }

-- nothing moves over the link
pub sound_keeps : (s t : LinkState) (received : List ℕ) (looking : HeadSearch)
    (request : Option RequestView) (final : Option ResponseView) (reader : BodyReader)
    (out : Outgoing) (k : Keepalive)
    → Sound s received looking request final reader out k → t.given ≡ s.given → t.written ≡ s.written
    → Sound t received looking request final reader out k
sound_keeps s t received looking request final reader out k sound given written = record {
  http = λ off. exchange_keeps s t received request final reader out (sound.http off) given written;
  changed = sound.changed;
  searched = sound.searched;
  stays = sound.stays;
}

-- what is owed goes out
pub sound_sends : (s t : LinkState) (received : List ℕ) (looking : HeadSearch)
    (request : Option RequestView) (final : Option ResponseView) (reader : BodyReader)
    (out behind : Outgoing) (k : Keepalive) (budget left : ℕ)
    → Sound s received looking request final reader out k → Sent s t out.owed behind.owed budget left
    → behind.writer ≡ out.writer → Sound t received looking request final reader behind k
sound_sends s t received looking request final reader out behind k budget left sound sent writer =
    let alike = passes_alike behind.writer out.writer writer in
    record {
      http = λ off. exchange_sends s t received request final reader out behind budget left
          (sound.http (alike ∙ off)) sent writer;
      changed = λ on. sound.changed (alike ∙ on);
      searched = sound.searched;
      stays = sound.stays;
    }

-- the link gave bytes, and the search for a head looked at them
pub sound_receives : (s t : LinkState) (received new : List ℕ) (looking behind : HeadSearch)
    (request : Option RequestView) (reader : BodyReader) (out : Outgoing) (k : Keepalive)
    (budget left : ℕ)
    → Sound s received looking request None reader out k → Received s t received new budget left
    → HasLooked MAX_HEADER_SIZE behind new → Sound t new behind request None reader out k
sound_receives s t received new looking behind request reader out k budget left sound moves looked = record {
  http = λ off. exchange_receives s t received new request reader out budget left (sound.http off) moves;
  changed = sound.changed;
  searched = looked;
  stays = sound.stays;
}

-- an interim head is used
pub sound_interim : (s : LinkState) (received : List ℕ) (looking behind : HeadSearch)
    (request : RequestView) (reader next : BodyReader) (out : Outgoing) (k : Keepalive)
    (said : ResponseView) (n : ℕ)
    → Sound s received looking (Some request) None reader out k → IsAccepted (take n received) said
    → is_interim said.status ≡ true → HasLooked MAX_HEADER_SIZE behind (drop n received)
    → Sound s (drop n received) behind (Some request) None next out k
sound_interim s received looking behind request reader next out k said n sound is interim looked = record {
  http = λ off. exchange_interim s received request reader next out said n (sound.http off) is interim;
  changed = sound.changed;
  searched = looked;
  stays = sound.stays;
}

-- nothing is kept before the final head
unkept : (k : Keepalive) (said : ResponseView) → StaysHttp k None → StaysHttp k (Some said)
unkept Off said stays = tt
unkept (On deadline) said stays = absurd stays

-- the final head is used, and its body begins
pub sound_heads : (s : LinkState) (received : List ℕ) (looking behind : HeadSearch)
    (request : RequestView) (reader next : BodyReader) (out : Outgoing) (k : Keepalive)
    (said : ResponseView) (n : ℕ)
    → Sound s received looking (Some request) None reader out k → IsAccepted (take n received) said
    → is_interim said.status ≡ false
    → ((rest : List ℕ) → reads next rest ≡ body (framing_to request said) rest)
    → Sound s (drop n received) behind (Some request) (Some said) next out k
sound_heads s received looking behind request reader next out k said n sound is final begins =
    let off = unanswered (until_close out.writer.framing) (Some request) sound.changed in
    record {
      http = λ _. exchange_heads s received request reader next out said n (sound.http off) is final begins;
      changed = λ on. absurd (false≢true (sym off ∙ on));
      searched = tt;
      stays = unkept k said sound.stays;
    }

any_search : (final : Option ResponseView) (looking : HeadSearch) (received new : List ℕ)
    → is_some final ≡ true → IsSearched final looking received → IsSearched final looking new
any_search None looking received new read searched = absurd (false≢true read)
any_search (Some said) looking received new read searched = tt

-- a part of the body is used
pub sound_reads : (s t : LinkState) (received new : List ℕ) (looking : HeadSearch)
    (request : Option RequestView) (final : Option ResponseView) (reader next : BodyReader)
    (out : Outgoing) (k : Keepalive) (kept keeps : Option Payload) (budget left : ℕ)
    (payload : List ℕ)
    → Sound s received looking request final reader out k → is_some request ≡ true → is_some final ≡ true
    → ReadsBody s t received new reader next kept keeps budget left payload
    → Sound t new looking request final next out k
sound_reads s t received new looking request final reader next out k kept keeps budget left payload sound begun read moves = record {
  http = λ off. exchange_reads s t received new request final reader next out kept keeps budget left
      payload (sound.http off) begun read moves;
  changed = sound.changed;
  searched = any_search final looking received new read sound.searched;
  stays = sound.stays;
}

-- the request's body passes as it is from here on
pub sound_passes : (s : LinkState) (received : List ℕ) (looking : HeadSearch)
    (request : Option RequestView) (final : Option ResponseView) (reader next : BodyReader)
    (out behind : Outgoing) (k : Keepalive)
    → Sound s received looking request final reader out k
    → (wishes_upgrade request && is_upgraded final) ≡ true
    → until_close behind.writer.framing ≡ true
    → Sound s received looking request final next behind k
sound_passes s received looking request final reader next out behind k sound upgraded passes = record {
  http = λ off. absurd (false≢true (sym off ∙ passes));
  changed = λ on. upgraded;
  searched = sound.searched;
  stays = sound.stays;
}

-- a link that is kept goes on with HTTP
kept_http : (k : Keepalive) (said : ResponseView) → is_on k ≡ true → StaysHttp k (Some said)
    → (said.status == 101) ≡ false
kept_http Off said on stays = absurd (false≢true on)
kept_http (On deadline) said on stays = stays

-- no body passes as it is where the link goes on with HTTP
unchanged : (passes : Bool) (request : RequestView) (said : ResponseView) → (said.status == 101) ≡ false
    → (passes ≡ true → (wishes_upgrade (Some request) && is_upgraded (Some said)) ≡ true)
    → passes ≡ false
unchanged false request said http changed = refl
unchanged true request said http changed =
    let upgraded = head_of_and (wishes_upgrade (Some request)) (is_upgraded (Some said)) (changed refl) in
    let switched = head_of_and (said.status == 101) (is_http_11 said.version) upgraded.1 in
    absurd (false≢true (sym http ∙ switched.0))

-- the whole exchange is behind the others
pub sound_ends : (s : LinkState) (received : List ℕ) (looking : HeadSearch)
    (request : Option RequestView) (final : Option ResponseView) (reader : BodyReader)
    (out : Outgoing) (k : Keepalive)
    → Sound s received looking request final reader out k → is_on k ≡ true
    → (is_some request && is_some final && is_sent out && is_at_end reader && is_nothing received) ≡ true
    → IsServed s
sound_ends s received looking None final reader out k sound on is = absurd (false≢true is)
sound_ends s received looking (Some request) None reader out k sound on is = absurd (false≢true is)
sound_ends s received looking (Some request) (Some said) reader out k sound on is =
    let http = kept_http k said on sound.stays in
    exchange_ends s received request said reader out
    (sound.http (unchanged (until_close out.writer.framing) request said http sound.changed)) http is
