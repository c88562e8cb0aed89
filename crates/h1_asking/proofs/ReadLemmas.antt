-- What the calls that read responses make of the bytes that a link gave.
use Rattle.std.proofs.Common.{◌≡◌, inl, inr, ℕ, ◌+◌, List, [], ◌∷◌, ◌++◌, length, take, drop, Bool, true, false, Option, Some, None, IfSome, IfNone, Result, Ok, Err, refl, sym, ap, ◌∙◌, subst, append-nil, append_assoc, length-append, take-append-drop, arith}
use Rattle.std.specs.Io.KnownBytes.{append_known}
use Rattle.h1_error.specs.declared.error.ErrorType.TheVariants as kind
use Rattle.h1_link.proofs.Laters.{append_known-nil, append_known-on}
use Rattle.h1_body.proofs.RunLemmas.{ahead-ahead, ahead_none}
use Rattle.h1_body.specs.Reader.{is_until_close}
use Rattle.h1_transfer.specs.Heads.{ReadsHead}
use Rattle.h1_transfer.specs.BodyAnswers.{RefusesBody}
use Rattle.h1_transfer.specs.Decoding.{Lacks}
use Rattle.h1_transfer.specs.Payload.{ReadsPayload}
use Rattle.h1_transfer.specs.declared.reading_head.HeadRead.TheVariants as read
use Rattle.h1_client.specs.Words.{Poll, Pending, Ready, Error, ErrorType, Deadline, itself, HeadRead, NotYetAt, RefusedAt, RequestView, ResponseView, ResponseHead, LinkState, TransferView, Framing, Body, body, reads, ahead, whole, unfinished, is_interim, BodyReader}
use Rattle.h1_client.specs.ClientView.{ClientView, call_begun, request_of, response_of}
use Rattle.h1_client.specs.Exchanges.{AreInterim, IsInterim}
use Rattle.h1_client.specs.Reading.{IsPlaceOf, JudgesHead, LeavesHead, ReadsResponse, TakesHead, UsesHead}
use Rattle.h1_client.specs.ReadingBody.{ReadsPart, at_link_end, ends_with_link}
use Rattle.h1_client.specs.Responses.{final_of, framing_to, has_bad_length}
use Rattle.h1_client.specs.Settings.{read_deadline}
use Rattle.h1_client.specs.declared.answered.Answered.{Answered}
use Rattle.h1_asking.specs.Reading.{ReadsFinal, ReadsHeads, ReadsInterim, ReadsOn, ReadsSoFar, ReadsWhole, Unread}

-- a session that read no head
pub unread_heads : {L : Type 0} (state : L → LinkState) (before : Option (List ℕ)) (s : ClientView L)
    → Unread state before s → ReadsInterim state before s.transfer
unread_heads state before s unread = record {
  heads = [];
  interim = [];
  are = refl;
  gave = unread.given ∙ sym (append_known-nil before)
      ∙ ap (append_known before) (sym unread.received);
}

interim_on : (heads : List (List ℕ)) (bytes h : List ℕ) → AreInterim heads bytes → IsInterim h
    → AreInterim (heads ++ h ∷ []) (bytes ++ h)
interim_on [] bytes h are is = (is, [], ap (λ front. front ++ h) are ∙ sym (append-nil h), refl)
interim_on (x ∷ heads) bytes h are is = (
  are.0,
  are.1 ++ h,
  ap (λ front. front ++ h) are.2 ∙ append_assoc x are.1 h,
  interim_on heads are.1 h are.3 is,
)

-- the link gave more, which is received
receives_on : {L : Type 0} (state : L → LinkState) (before : Option (List ℕ))
    (old between : TransferView L) (piece : List ℕ)
    → (state between.link).given ≡ append_known (state old.link).given piece
    → between.received ≡ old.received ++ piece
    → ReadsInterim state before old → ReadsInterim state before between
receives_on state before old between piece given bytes far = record {
  heads = far.heads;
  interim = far.interim;
  are = far.are;
  gave = given ∙ ap (λ known. append_known known piece) far.gave
      ∙ append_known-on before (far.interim ++ old.received) piece
      ∙ ap (append_known before) (append_assoc far.interim old.received piece
      ∙ ap (λ bytes. far.interim ++ bytes) (sym bytes));
}

no_final : (head : ResponseHead) → is_interim head.header.status ≡ true → final_of (Some head) ≡ None
no_final head is = rw is refl

some_final : (head : ResponseHead) → is_interim head.header.status ≡ false
    → final_of (Some head) ≡ Some head.header
some_final head is = rw is refl

-- the used front of what was received, and the rest of it
splits : (front bytes left : List ℕ) (used : ℕ) → left ≡ drop used bytes
    → front ++ bytes ≡ front ++ (take used bytes ++ left)
splits front bytes left used is =
    ap (λ all. front ++ all) (sym (take-append-drop used bytes)
    ∙ ap (λ rest. take used bytes ++ rest) (sym is))

-- a head is used, which is interim or the final one
uses_on : {L : Type 0} (state : L → LinkState) (before : Option (List ℕ)) (request : RequestView)
    (between new : TransferView L) (was now : Answered) (head : ResponseHead) (used : ℕ)
    (interim : Bool)
    → ReadsInterim state before between → IsPlaceOf between.received used (Some head)
    → is_interim head.header.status ≡ interim → UsesHead between new was now request head used
    → ReadsHeads state before request new (final_of now.last)
uses_on {L} state before request between new was now head used true far at is uses =
    let link : new.link ≡ between.link = ap (λ (t : TransferView L). t.link) uses.transfer in
    let received : new.received ≡ drop used between.received =
    ap (λ (t : TransferView L). t.received) uses.transfer in
    let none : final_of now.last ≡ None =
    ap (λ (a : Answered). final_of a.last) uses.answered ∙ no_final head is in
    subst (λ final. ReadsHeads state before request new final) (sym none) (record {
      heads = far.heads ++ take used between.received ∷ [];
      interim = far.interim ++ take used between.received;
      are = interim_on far.heads far.interim (take used between.received) far.are
          (head.header, at.0.accepted, is);
      gave = ap (λ l. (state l).given) link ∙ far.gave
          ∙ ap (append_known before) (splits far.interim between.received new.received used received
          ∙ sym (append_assoc far.interim (take used between.received) new.received));
    })
uses_on {L} state before request between new was now head used false far at is uses =
    let link : new.link ≡ between.link = ap (λ (t : TransferView L). t.link) uses.transfer in
    let received : new.received ≡ drop used between.received =
    ap (λ (t : TransferView L). t.received) uses.transfer in
    let final : final_of now.last ≡ Some head.header =
    ap (λ (a : Answered). final_of a.last) uses.answered ∙ some_final head is in
    subst (λ final. ReadsHeads state before request new final) (sym final) (
      record {
        heads = far.heads;
        interim = far.interim;
        front = take used between.received;
        rest = [];
        are = far.are;
        head = at.0.accepted;
        final = is;
        gave = ap (λ l. (state l).given) link ∙ far.gave
            ∙ ap (append_known before) (splits far.interim between.received new.received used received);
        reads_on = λ more. sym (uses.begins more) ∙ sym (ahead_none (reads new.body.reader more));
      },
      ap (λ (t : TransferView L). t.body.refused) uses.transfer,
    )

-- no head is used
leaves_on : {L : Type 0} (state : L → LinkState) (before : Option (List ℕ)) (request : RequestView)
    (between new : TransferView L) (was now : Answered)
    → ReadsInterim state before between → final_of was.last ≡ None → LeavesHead between new was now
    → ReadsHeads state before request new (final_of now.last)
leaves_on {L} state before request between new was now far none leaves =
    let last : final_of now.last ≡ None =
    ap (λ (a : Answered). final_of a.last) leaves.answered ∙ none in
    subst (λ final. ReadsHeads state before request new final) (sym last)
    (subst (λ t. ReadsInterim state before t) (sym leaves.transfer) far)

judged_on : {L : Type 0} (state : L → LinkState) (before : Option (List ℕ)) (request : RequestView)
    (between new : TransferView L) (was now : Answered) (head : ResponseHead) (used : ℕ) (bad : Bool)
    (outcome : Poll (Result ℕ Error))
    → ReadsInterim state before between → final_of was.last ≡ None
    → IsPlaceOf between.received used (Some head)
    → JudgesHead between new was now request head used bad outcome
    → ReadsHeads state before request new (final_of now.last)
judged_on state before request between new was now head used true outcome far none at judges =
    leaves_on state before request between new was now far none judges.1
judged_on state before request between new was now head used false outcome far none at judges =
    uses_on state before request between new was now head used (is_interim head.header.status) far at refl
    judges.1

takes_on : {L : Type 0} (state : L → LinkState) (before : Option (List ℕ)) (tolerant : Bool)
    (request : RequestView) (old between new : TransferView L) (was now : Answered)
    (deadline : Deadline) (found : Option ResponseHead) (told : HeadRead)
    (outcome : Poll (Result ℕ Error))
    → ReadsInterim state before between → final_of was.last ≡ None
    → ReadsHead state IsPlaceOf RefusedAt NotYetAt deadline old between found told
    → TakesHead tolerant between new was now (Some request) found told outcome
    → ReadsHeads state before request new (final_of now.last)
takes_on state before tolerant request old between new was now deadline (Some head) (read.Whole used)
    outcome far none reads takes =
    judged_on state before request between new was now head used
    (has_bad_length tolerant head.header.fields) outcome far none reads.cause.0 takes
takes_on state before tolerant request old between new was now deadline None (read.Whole used)
    outcome far none reads takes = absurd takes
takes_on state before tolerant request old between new was now deadline (Some head)
    (read.Stopped stop) outcome far none reads takes =
    leaves_on state before request between new was now far none takes.1
takes_on state before tolerant request old between new was now deadline None (read.Stopped stop)
    outcome far none reads takes =
    leaves_on state before request between new was now far none takes.1

response_on : {L : Type 0} (state : L → LinkState) (before : Option (List ℕ)) (request : RequestView)
    (moment : ℕ) (old new : ClientView L) (outcome : Poll (Result ℕ Error))
    → ReadsResponse state moment old new outcome
    → request_of old ≡ Some request → response_of old ≡ None
    → ReadsInterim state before old.transfer
    → ReadsHeads state before request new.transfer (response_of new)
response_on {L} state before request moment old new outcome call asked none far =
    let received = call.reads.receives.received in
    takes_on state before old.settings.tolerant request (call_begun old).transfer call.between
    new.transfer old.answered new.answered _ call.found call.read outcome
    (receives_on state before (call_begun old).transfer call.between received.piece
    received.moved.given received.bytes (record {
      heads = far.heads;
      interim = far.interim;
      are = far.are;
      gave = far.gave;
    })) none call.reads (rw asked at call.takes)

-- a call that reads a head
pub heads_on : {L : Type 0} (state : L → LinkState) (before : Option (List ℕ)) (request : RequestView)
    (moment : ℕ) (old new : ClientView L) (outcome : Poll (Result ℕ Error)) (refused : Option Error)
    → IfSome refused (λ error. (outcome ≡ Ready (Err error))
    × (new ≡ record (call_begun old) { spent = new.spent }))
    → IfNone refused (ReadsResponse state moment old new outcome)
    → request_of old ≡ Some request → response_of old ≡ None
    → ReadsHeads state before request old.transfer (response_of old)
    → ReadsHeads state before request new.transfer (response_of new)
heads_on {L} state before request moment old new outcome (Some error) again call asked none far =
    let were : ReadsInterim state before old.transfer =
    subst (λ final. ReadsHeads state before request old.transfer final) none far in
    let same : response_of new ≡ None = ap (λ (s : ClientView L). response_of s) again.1 ∙ none in
    let given : (state new.transfer.link).given ≡ (state old.transfer.link).given =
    ap (λ (s : ClientView L). (state s.transfer.link).given) again.1 in
    let received : new.transfer.received ≡ old.transfer.received =
    ap (λ (s : ClientView L). s.transfer.received) again.1 in
    subst (λ final. ReadsHeads state before request new.transfer final) (sym same) (record {
      heads = were.heads;
      interim = were.interim;
      are = were.are;
      gave = given ∙ were.gave
          ∙ ap (λ bytes. append_known before (were.interim ++ bytes)) (sym received);
    })
heads_on state before request moment old new outcome None again call asked none far =
    response_on state before request moment old new outcome call asked none
    (subst (λ final. ReadsHeads state before request old.transfer final) none far)

reads_further : (f : Framing) (reader next : BodyReader) (rest used front payload : List ℕ)
    → ((more : List ℕ) → body f (rest ++ more) ≡ ahead front (length rest) (reads reader more))
    → ((more : List ℕ) → reads reader (used ++ more) ≡ ahead payload (length used) (reads next more))
    → (more : List ℕ) → body f ((rest ++ used) ++ more)
    ≡ ahead (front ++ payload) (length (rest ++ used)) (reads next more)
reads_further f reader next rest used front payload first second more =
    ap (λ bytes. body f bytes) (append_assoc rest used more) ∙ first (used ++ more)
    ∙ ap (λ b. ahead front (length rest) b) (second more)
    ∙ ahead-ahead front payload (length rest) (length used) (reads next more)
    ∙ ap (λ n. ahead (front ++ payload) n (reads next more)) (sym (length-append rest used))

-- the parts of what was received, once more of the body is used
parts_of : (interim front rest used old new piece : List ℕ) → old ++ piece ≡ used ++ new
    → (interim ++ (front ++ (rest ++ old))) ++ piece ≡ interim ++ (front ++ ((rest ++ used) ++ new))
parts_of interim front rest used old new piece is =
    append_assoc interim (front ++ (rest ++ old)) piece
    ∙ ap (λ bytes. interim ++ bytes) (append_assoc front (rest ++ old) piece
    ∙ ap (λ bytes. front ++ bytes) (append_assoc rest old piece
    ∙ ap (λ bytes. rest ++ bytes) is ∙ sym (append_assoc rest used new)))

-- a part of the body is used
final_on : {L : Type 0} (state : L → LinkState) (before : Option (List ℕ)) (request : RequestView)
    (said : ResponseView) (payload : List ℕ) (deadline : Deadline) (old new : TransferView L)
    (told : Poll (Result (Option (List ℕ)) Error))
    (call : ReadsPayload state itself deadline old new told)
    → ReadsFinal state before request said payload old
    → ReadsFinal state before request said (payload ++ call.payload) new
final_on state before request said payload deadline old new told call far =
    let part = call.reads in
    record {
      heads = far.heads;
      interim = far.interim;
      front = far.front;
      rest = far.rest ++ part.used;
      are = far.are;
      head = far.head;
      final = far.final;
      gave = part.received.moved.given
          ∙ ap (λ known. append_known known part.received.piece) far.gave
          ∙ append_known-on before (far.interim ++ (far.front ++ (far.rest ++ old.received)))
          part.received.piece
          ∙ ap (append_known before) (parts_of far.interim far.front far.rest part.used old.received
          new.received part.received.piece (sym part.received.bytes));
      reads_on = reads_further (framing_to request said) old.body.reader new.body.reader far.rest part.used
          payload call.payload far.reads_on part.decoded.reads;
    }

-- nothing was added to the payload
final_same : {L : Type 0} (state : L → LinkState) (before : Option (List ℕ)) (request : RequestView)
    (said : ResponseView) (payload none : List ℕ) (t : TransferView L) → none ≡ []
    → ReadsFinal state before request said (payload ++ none) t
    → ReadsFinal state before request said payload t
final_same state before request said payload none t is far =
    subst (λ p. ReadsFinal state before request said p t)
    (ap (λ more. payload ++ more) is ∙ append-nil payload) far

-- the body, by what its reader says of no more bytes
body_by : (f : Framing) (reader : BodyReader) (rest payload : List ℕ) (end : Body)
    → ((more : List ℕ) → body f (rest ++ more) ≡ ahead payload (length rest) (reads reader more))
    → reads reader [] ≡ end → body f rest ≡ ahead payload (length rest) end
body_by f reader rest payload end on is =
    ap (λ bytes. body f bytes) (sym (append-nil rest)) ∙ on []
    ∙ ap (λ b. ahead payload (length rest) b) is

whole_ahead : (payload : List ℕ) (n : ℕ) → ahead payload n (whole [] 0) ≡ whole payload n
whole_ahead payload n =
    let none : n + 0 ≡ n = omega arith in
    ap (λ m. whole (payload ++ []) m) none ∙ ap (λ p. whole p n) (append-nil payload)

cut_ahead : (payload : List ℕ) (n : ℕ) → ahead payload n (unfinished []) ≡ unfinished payload
cut_ahead payload n = ap unfinished (append-nil payload)

-- the body is at its end
final_whole : {L : Type 0} (state : L → LinkState) (before : Option (List ℕ)) (request : RequestView)
    (said : ResponseView) (payload : List ℕ) (t : TransferView L)
    → reads t.body.reader [] ≡ whole [] 0 → ReadsFinal state before request said payload t
    → ReadsWhole state before request said payload t
final_whole state before request said payload t ended far = record {
  reads = far;
  whole_body = inl (body_by (framing_to request said) t.body.reader far.rest payload (whole [] 0)
      far.reads_on ended ∙ whole_ahead payload (length far.rest));
}

-- the link is at its end, up to which the body goes
final_cut : {L : Type 0} (state : L → LinkState) (before : Option (List ℕ)) (request : RequestView)
    (said : ResponseView) (payload : List ℕ) (t : TransferView L)
    → is_until_close (framing_to request said) ≡ true → (state t.link).ended ≡ true
    → Lacks t.body.reader t.received → ReadsFinal state before request said payload t
    → ReadsWhole state before request said payload t
final_cut state before request said payload t until ended lacks far = record {
  reads = far;
  whole_body = inr (
    until,
    body_by (framing_to request said) t.body.reader far.rest payload (unfinished []) far.reads_on
        lacks.1 ∙ cut_ahead payload (length far.rest),
    lacks.0,
    ended,
  );
}

until_of : (request : RequestView) (said : ResponseView) (asked : Option RequestView)
    (final : Option ResponseView) → asked ≡ Some request → final ≡ Some said
    → ends_with_link asked final ≡ is_until_close (framing_to request said)
until_of request said asked final is are = rw (is, are) refl

-- what a refusal says of the body, whose error is answered as the end where the link is at its end
refused_on : {L : Type 0} (state : L → LinkState) (before : Option (List ℕ)) (request : RequestView)
    (said : ResponseView) (payload : List ℕ) (old new : TransferView L) (error : Error)
    (outcome : Poll (Result (Option (List ℕ)) Error)) (k : ErrorType) → error.kind ≡ k
    → is_until_close (framing_to request said) ≡ true
    → RefusesBody (state old.link) (state new.link) new.body.kept new.body.reader new.received k
    → ReadsFinal state before request said payload new
    → outcome ≡ at_link_end true (Ready (Err error))
    → ReadsOn state before request said payload new outcome
refused_on state before request said payload old new error outcome (kind.InvalidHTTPHeader x)
    is until refuses far answer =
    rw (rw is at answer) tt
refused_on state before request said payload old new error outcome kind.ConnectionClosed
    is until refuses far answer =
    rw (rw is at answer) (final_cut state before request said payload new until refuses.0 refuses.1 far)
refused_on state before request said payload old new error outcome kind.InvalidBody is until refuses far answer =
    rw (rw is at answer) tt
refused_on state before request said payload old new error outcome kind.ReadError is until refuses far answer =
    rw (rw is at answer) tt
refused_on state before request said payload old new error outcome kind.WriteError is until refuses far answer =
    rw (rw is at answer) tt
refused_on state before request said payload old new error outcome kind.ReadTimedout is until refuses far answer =
    rw (rw is at answer) tt
refused_on state before request said payload old new error outcome kind.WriteTimedout is until refuses far answer =
    rw (rw is at answer) tt
refused_on state before request said payload old new error outcome kind.PrematureBodyEnd
    is until refuses far answer =
    rw (rw is at answer) tt
refused_on state before request said payload old new error outcome (kind.ConnectError x)
    is until refuses far answer =
    rw (rw is at answer) tt
refused_on state before request said payload old new error outcome (kind.UnexpectedTask x)
    is until refuses far answer =
    rw (rw is at answer) tt
refused_on state before request said payload old new error outcome (kind.ModuleFailed x)
    is until refuses far answer =
    rw (rw is at answer) tt
refused_on state before request said payload old new error outcome (kind.TaskFailed x)
    is until refuses far answer =
    rw (rw is at answer) tt
refused_on state before request said payload old new error outcome kind.Duplicate is until refuses far answer =
    rw (rw is at answer) tt
refused_on state before request said payload old new error outcome kind.NoMemory is until refuses far answer =
    rw (rw is at answer) tt
refused_on state before request said payload old new error outcome kind.ContentTooLarge
    is until refuses far answer =
    rw (rw is at answer) tt

told_on : {L : Type 0} (state : L → LinkState) (before : Option (List ℕ)) (request : RequestView)
    (said : ResponseView) (payload : List ℕ) (deadline : Deadline) (old new : TransferView L)
    (ends : Bool) (told outcome : Poll (Result (Option (List ℕ)) Error))
    → ends ≡ is_until_close (framing_to request said) → outcome ≡ at_link_end ends told
    → ReadsPayload state itself deadline old new told
    → ReadsFinal state before request said payload old
    → ReadsOn state before request said payload new outcome
told_on state before request said payload deadline old new true (Ready (Ok (Some piece))) outcome
    until answer call far =
    rw answer (
      subst (λ p. ReadsFinal state before request said (payload ++ p) new) call.answer.0
          (final_on state before request said payload deadline old new (Ready (Ok (Some piece))) call far),
      call.answer.2,
    )
told_on state before request said payload deadline old new false (Ready (Ok (Some piece))) outcome
    until answer call far =
    rw answer (
      subst (λ p. ReadsFinal state before request said (payload ++ p) new) call.answer.0
          (final_on state before request said payload deadline old new (Ready (Ok (Some piece))) call far),
      call.answer.2,
    )
told_on state before request said payload deadline old new true (Ready (Ok None)) outcome
    until answer call far =
    rw answer (final_whole state before request said payload new call.answer.1
    (final_same state before request said payload call.payload new call.answer.0
    (final_on state before request said payload deadline old new (Ready (Ok None)) call far)))
told_on state before request said payload deadline old new false (Ready (Ok None)) outcome
    until answer call far =
    rw answer (final_whole state before request said payload new call.answer.1
    (final_same state before request said payload call.payload new call.answer.0
    (final_on state before request said payload deadline old new (Ready (Ok None)) call far)))
told_on state before request said payload deadline old new true (Ready (Err error)) outcome
    until answer call far =
    refused_on state before request said payload old new error outcome error.kind refl (sym until)
    call.answer.2
    (final_same state before request said payload call.payload new call.answer.0
    (final_on state before request said payload deadline old new (Ready (Err error)) call far)) answer
told_on state before request said payload deadline old new false (Ready (Err error)) outcome
    until answer call far = rw answer tt
told_on state before request said payload deadline old new true Pending outcome
    until answer call far =
    rw answer (
      final_same state before request said payload call.payload new call.answer.0
          (final_on state before request said payload deadline old new Pending call far),
      call.answer.2,
    )
told_on state before request said payload deadline old new false Pending outcome
    until answer call far =
    rw answer (
      final_same state before request said payload call.payload new call.answer.0
          (final_on state before request said payload deadline old new Pending call far),
      call.answer.2,
    )

-- a call that reads a part of the body
pub part_on : {L : Type 0} (state : L → LinkState) (before : Option (List ℕ)) (request : RequestView)
    (said : ResponseView) (payload : List ℕ) (moment : ℕ) (old new : ClientView L)
    (outcome : Poll (Result (Option (List ℕ)) Error))
    → ReadsPart state moment old new outcome
    → request_of old ≡ Some request → response_of old ≡ Some said
    → ReadsSoFar state before request said payload old.transfer
    → ReadsOn state before request said payload new.transfer outcome
part_on state before request said payload moment old new outcome call asked is far =
    told_on state before request said payload (read_deadline old.settings moment)
    (call_begun old).transfer new.transfer
    (ends_with_link (request_of old) (response_of old)) call.told outcome
    (until_of request said (request_of old) (response_of old) asked is) call.answer
    (subst (λ o. IfNone o (ReadsPayload state itself (read_deadline old.settings moment)
    (call_begun old).transfer new.transfer call.told)) far.1 call.reads) (record {
      heads = far.0.heads;
      interim = far.0.interim;
      front = far.0.front;
      rest = far.0.rest;
      are = far.0.are;
      head = far.0.head;
      final = far.0.final;
      gave = far.0.gave;
      reads_on = far.0.reads_on;
    })

-- the same by what was read of heads, which is none
pub unread_reads : {L : Type 0} (state : L → LinkState) (before : Option (List ℕ))
    (request : RequestView) (s : ClientView L) → Unread state before s
    → ReadsHeads state before request s.transfer (response_of s)
unread_reads state before request s unread =
    let none : response_of s ≡ None = ap final_of unread.last in
    subst (λ final. ReadsHeads state before request s.transfer final) (sym none)
    (unread_heads state before s unread)
