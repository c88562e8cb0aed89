-- What the calls that end the body of a request put, by the bytes that their link takes.
use Rattle.std.proofs.Common.{◌≡◌, ◌⊎◌, inl, inr, ℕ, ◌+◌, ◌-◌, ◌^◌, ◌≤◌, min, Bool, true, false, List, [], ◌++◌, length, take, Option, Some, None, IfSome, IfNone, Result, Ok, Err, refl, sym, ap, ◌∙◌, subst, append_assoc, arith}
use Rattle.std.proofs.Math.Seq.{take-nil}
use Rattle.std.proofs.lemmas.Bool.{false≢true, le-ltb, ltb-false}
use Rattle.std.proofs.lemmas.List.{length-take}
use Rattle.std.specs.Io.KnownBytes.{append_known}
use Rattle.h1_link.proofs.Laters.{append_known-nil}
use Rattle.h1_body.proofs.WrittenLemmas.{one_piece}
use Rattle.h1_body.specs.Writer.{after_piece, body_bytes, end_bytes, lacks}
use Rattle.h1_body.specs.declared.framing.Framing.TheVariants as framed
use Rattle.h1_transfer.specs.EndWrites.{EndAnswer, EndCall, WritesEnd, end_stage, goes_on, stage_of, starts}
use Rattle.h1_transfer.specs.ReplyFraming.{is_begun}
use Rattle.h1_client.specs.Calls.{EndWrite}
use Rattle.h1_client.specs.ClientView.{ClientView, call_begun}
use Rattle.h1_client.specs.Upgrading.{EndsWithRequest, ends_both}
use Rattle.h1_client.specs.Words.{Poll, Pending, Ready, Error, Framing, LinkState, TransferView, RequestView, Outgoing, Free, Finish, begun, framing, is_short, itself, request_bytes}
use Rattle.h1_asking.specs.Turns.{EndTurn, IsIdle, MadeOr, may_finish}
use Rattle.h1_asking.specs.Writing.{IsFlushed, IsPut, Puts, Takes, bytes_behind, payload_of, writer_behind}
use Rattle.h1_asking.proofs.PutLemmas.{put_on, put_still}

-- the end of the body was put, which isn't short, and is written or flushed
pub record PutsLast {L : Type 0} (state : L → LinkState) (before : Option (List ℕ))
    (request : RequestView) (body : Option (List ℕ)) (link : L) (out : Outgoing) : Type 0 where
  pub front : List ℕ
  pub head : request_bytes request ≡ Some front
  pub full : is_short (writer_behind request body) ≡ false
  pub put : IsPut state before
      (front ++ (bytes_behind request body ++ end_bytes (writer_behind request body))) link out
  pub ends : out.step ≡ Finish

-- the end is to be put, or it was
abbrev pub PutsEnd : {L : Type 0} → (L → LinkState) → Option (List ℕ) → RequestView
    → Option (List ℕ) → L → Outgoing → Type 0
PutsEnd state before request body link out =
    (Puts state before request (writer_behind request body) (bytes_behind request body) link out
    × (out.step ≡ Free)) ⊎ PutsLast state before request body link out

-- what is put by a call with this answer
abbrev pub EndedBy : {L : Type 0} → (L → LinkState) → Option (List ℕ) → RequestView
    → Option (List ℕ) → L → Outgoing → Poll (Result (Option ℕ) Error) → Type 0
EndedBy state before request body link out (Ready (Ok count)) =
    Takes before (state link).written request body × IsFlushed (state link)
EndedBy state before request body link out (Ready (Err error)) = Unit {0}
EndedBy state before request body link out Pending = PutsEnd state before request body link out

-- all that was put is taken where nothing is owed
put_taken : (before written : Option (List ℕ)) (bytes owed : List ℕ)
    → append_known written owed ≡ append_known before bytes → owed ≡ []
    → written ≡ append_known before bytes
put_taken before written bytes owed is none =
    sym (append_known-nil written) ∙ ap (append_known written) (sym none) ∙ is

no_piece : (f : Framing) → end_bytes (begun f) ≡ body_bytes f []
no_piece (framed.Counted n) = sym (take-nil n)
no_piece framed.Chunked = refl
no_piece framed.UntilClose = refl

-- one piece and the end are the whole body
all_bytes : (request : RequestView) (body : Option (List ℕ))
    → bytes_behind request body ++ end_bytes (writer_behind request body)
    ≡ body_bytes (framing request) (payload_of body)
all_bytes request None = no_piece (framing request)
all_bytes request (Some body) = one_piece (framing request) body

-- a payload of which enough was taken is long enough
enough_of : (f : Framing) (payload : List ℕ) → is_short (after_piece (begun f) payload) ≡ false
    → lacks (Some f) (length payload) ≡ false
enough_of (framed.Counted n) payload full =
    let most : n ≤ min (0 + length (take (n - 0) payload)) (2 ^ 64 - 1) =
    ltb-false (min (0 + length (take (n - 0) payload)) (2 ^ 64 - 1)) n full in
    le-ltb (length payload) n (omega (arith, most, length-take (n - 0) payload))
enough_of framed.Chunked payload full = refl
enough_of framed.UntilClose payload full = refl

enough : (request : RequestView) (body : Option (List ℕ))
    → is_short (writer_behind request body) ≡ false
    → lacks (Some (framing request)) (length (payload_of body)) ≡ false
enough request None full = full
enough request (Some body) full = enough_of (framing request) body full

-- the body is begun, and goes on
begun_behind : (request : RequestView) (body : Option (List ℕ))
    → is_begun (writer_behind request body) ≡ true
begun_behind request None = refl
begun_behind request (Some body) = refl

-- the end of the body was put by a call with this answer
end_answer : {L : Type 0} (state : L → LinkState) (before : Option (List ℕ)) (request : RequestView)
    (body : Option (List ℕ)) (link : L) (was out : Outgoing) (first : LinkState) (left : ℕ)
    (outcome : Poll (Result (Option ℕ) Error)) (front : List ℕ) → request_bytes request ≡ Some front
    → is_short (writer_behind request body) ≡ false
    → IsPut state before
    (front ++ (bytes_behind request body ++ end_bytes (writer_behind request body))) link out
    → EndAnswer first (state link) was out left outcome
    → EndedBy state before request body link out outcome
end_answer state before request body link was out first left (Ready (Ok count)) front head full put
    answer = (
      record {
        front = front;
        head = head;
        took = put_taken before (state link).written _ out.owed put answer.0.owed
            ∙ ap (λ rest. append_known before (front ++ rest)) (all_bytes request body);
        enough = enough request body full;
      },
      answer.2,
    )
end_answer state before request body link was out first left (Ready (Err error)) front head full put
    answer = tt
end_answer state before request body link was out first left Pending front head full put answer =
    inr (record { front = front; head = head; full = full; put = put; ends = answer.at_step })

begins_end : {L : Type 0} (state : L → LinkState) (before : Option (List ℕ)) (request : RequestView)
    (body : Option (List ℕ)) (start sent : TransferView L) (outcome : Poll (Result (Option ℕ) Error))
    → is_short start.outgoing.writer ≡ false
    → Puts state before request (writer_behind request body) (bytes_behind request body) start.link
    start.outgoing
    → WritesEnd state itself start sent starts outcome
    → EndedBy state before request body sent.link sent.outgoing outcome
begins_end state before request body start sent outcome full puts writes =
    let moved = writes.writes.sent in
    let rest = bytes_behind request body in
    end_answer state before request body sent.link start.outgoing sent.outgoing (state start.link)
    writes.left outcome puts.front puts.head (ap is_short (sym puts.writer_is) ∙ full)
    (put_on before (state start.link).written (state sent.link).written (puts.front ++ rest)
    writes.taking start.outgoing.owed sent.outgoing.owed moved.piece puts.put moved.moved.written
    moved.bytes
    ∙ ap (append_known before) (append_assoc puts.front rest writes.taking
    ∙ ap (λ end. puts.front ++ (rest ++ end)) (writes.takes.0 ∙ ap end_bytes puts.writer_is)))
    writes.answer

goes_end : {L : Type 0} (state : L → LinkState) (before : Option (List ℕ)) (request : RequestView)
    (body : Option (List ℕ)) (start sent : TransferView L) (outcome : Poll (Result (Option ℕ) Error))
    → PutsLast state before request body start.link start.outgoing
    → WritesEnd state itself start sent goes_on outcome
    → EndedBy state before request body sent.link sent.outgoing outcome
goes_end state before request body start sent outcome last writes =
    let moved = writes.writes.sent in
    end_answer state before request body sent.link start.outgoing sent.outgoing (state start.link)
    writes.left outcome last.front last.head last.full
    (put_still before (state start.link).written (state sent.link).written
    (last.front ++ (bytes_behind request body ++ end_bytes (writer_behind request body))) writes.taking
    start.outgoing.owed sent.outgoing.owed moved.piece last.put moved.moved.written moved.bytes
    writes.takes.0) writes.answer

free_end : {L : Type 0} (state : L → LinkState) (before : Option (List ℕ)) (request : RequestView)
    (body : Option (List ℕ)) (start sent : TransferView L) (outcome : Poll (Result (Option ℕ) Error))
    (has short : Bool) → has ≡ true → is_short start.outgoing.writer ≡ short
    → Puts state before request (writer_behind request body) (bytes_behind request body) start.link
    start.outgoing
    → EndCall state itself start sent outcome (end_stage Free has short)
    → EndedBy state before request body sent.link sent.outgoing outcome
free_end state before request body start sent outcome true true has short puts call = rw call.answer tt
free_end state before request body start sent outcome true false has short puts call =
    begins_end state before request body start sent outcome short puts call
free_end state before request body start sent outcome false short has is puts call =
    absurd (false≢true has)

ends_put : {L : Type 0} (state : L → LinkState) (before : Option (List ℕ)) (request : RequestView)
    (body : Option (List ℕ)) (start sent : TransferView L) (outcome : Poll (Result (Option ℕ) Error))
    (refused : Option Error)
    → IfSome refused (λ error. (outcome ≡ Ready (Err error)) × (sent ≡ start))
    → IfNone refused (EndCall state itself start sent outcome (stage_of start.outgoing))
    → PutsEnd state before request body start.link start.outgoing
    → EndedBy state before request body sent.link sent.outgoing outcome
ends_put state before request body start sent outcome (Some error) again call puts = rw again.0 tt
ends_put {L} state before request body start sent outcome None again call (inl puts) =
    free_end state before request body start sent outcome (is_begun start.outgoing.writer)
    (is_short start.outgoing.writer) (ap is_begun puts.0.writer_is ∙ begun_behind request body) refl
    puts.0 (subst (λ step. EndCall state itself start sent outcome
    (end_stage step (is_begun start.outgoing.writer) (is_short start.outgoing.writer))) puts.1 call)
ends_put {L} state before request body start sent outcome None again call (inr last) =
    goes_end state before request body start sent outcome last
    (subst (λ step. EndCall state itself start sent outcome
    (end_stage step (is_begun start.outgoing.writer) (is_short start.outgoing.writer))) last.ends call)

-- what becomes of the response's body moves no byte
same_message : {L : Type 0} (sent new : TransferView L) (both : Bool) → EndsWithRequest both sent new
    → (sent.link ≡ new.link) × (sent.outgoing ≡ new.outgoing)
same_message {L} sent new true ends = (
  ap (λ (t : TransferView L). t.link) (sym ends.rest),
  ap (λ (t : TransferView L). t.outgoing) (sym ends.rest),
)
same_message {L} sent new false ends = (
  ap (λ (t : TransferView L). t.link) (sym ends),
  ap (λ (t : TransferView L). t.outgoing) (sym ends),
)

turned_end : {L : Type 0} (state : L → LinkState) (same_plan : L → L → Type 0)
    (before : Option (List ℕ)) (request : RequestView) (body : Option (List ℕ))
    (old new : ClientView L) (outcome : Poll (Result (Option ℕ) Error)) (may : Bool)
    → MadeOr may (EndWrite state same_plan old new outcome) (IsIdle old new outcome)
    → PutsEnd state before request body old.transfer.link old.transfer.outgoing
    → EndedBy state before request body new.transfer.link new.transfer.outgoing outcome
turned_end {L} state same_plan before request body old new outcome true call puts =
    let ends = ends_put state before request body (call_begun old).transfer call.sent outcome
    old.transfer.outgoing.refused call.again call.writes puts in
    let same = same_message call.sent new.transfer (ends_both call.sent outcome) call.ends in
    subst (λ l. EndedBy state before request body l new.transfer.outgoing outcome) same.0
    (subst (λ out. EndedBy state before request body call.sent.link out outcome) same.1 ends)
turned_end {L} state same_plan before request body old new outcome false idle puts =
    rw idle.0 (subst (λ (s : ClientView L). PutsEnd state before request body s.transfer.link
    s.transfer.outgoing) (sym idle.1) puts)

-- a call that writes the end of the body, where it has its turn
pub ended_put : {L : Type 0} (state : L → LinkState) (same_plan : L → L → Type 0)
    (before : Option (List ℕ)) (request : RequestView) (body : Option (List ℕ))
    (old new : ClientView L) (outcome : Poll (Result (Option ℕ) Error))
    → EndTurn state same_plan old new outcome
    → PutsEnd state before request body old.transfer.link old.transfer.outgoing
    → EndedBy state before request body new.transfer.link new.transfer.outgoing outcome
ended_put state same_plan before request body old new outcome turn puts =
    turned_end state same_plan before request body old new outcome (may_finish old) turn puts

-- one that is done
pub ended_ok : {L : Type 0} (state : L → LinkState) (same_plan : L → L → Type 0)
    (before : Option (List ℕ)) (request : RequestView) (body : Option (List ℕ))
    (old new : ClientView L) (told : Result (Option ℕ) Error) (count : Option ℕ)
    → EndTurn state same_plan old new (Ready told)
    → PutsEnd state before request body old.transfer.link old.transfer.outgoing → told ≡ Ok count
    → Takes before (state new.transfer.link).written request body
    × IsFlushed (state new.transfer.link)
ended_ok state same_plan before request body old new told count turn puts is =
    subst (λ t. EndedBy state before request body new.transfer.link new.transfer.outgoing (Ready t)) is
    (ended_put state same_plan before request body old new (Ready told) turn puts)
