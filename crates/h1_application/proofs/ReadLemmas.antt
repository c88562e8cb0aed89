-- How an application's reading goes on from call to call.
use Rattle.std.proofs.Common.{◌≡◌, ℕ, ◌+◌, ◌-◌, ◌≤◌, ◌⊎◌, inl, inr, List, [], ◌++◌, length, Bool, true, false, Option, Some, None, IfSome, IfNone, IsSome, refl, sym, ap, ◌∙◌, subst, append-nil, append_assoc, length-append, arith}
use Rattle.std.specs.Bool.{then_some}
use Rattle.h1_body.specs.Payload.{Payload, grown}
use Rattle.h1_transfer.specs.Decoding.{held_of, noted_of}
use Rattle.h1_transfer.proofs.BodyLemmas.{kept_none, kept_on}
use Rattle.h1_transfer.proofs.CalledLemmas.{called_itself, called_on, called_undone}
use Rattle.std.proofs.lemmas.Bool.{false≢true}
use Rattle.std.specs.Prelude.{option_map, Result, Ok, Err}
use Rattle.h1_application.specs.Words.{Poll, Ready, Pending, Error, ErrorType, LinkState, Rose, reads, Called, read_fault_of_kind, no_fault, Decoded, BodyRefusal, SessionView}
use Rattle.h1_error.specs.declared.error.ErrorType.TheVariants as kind
use Rattle.h1_link.specs.Later.{Later}
use Rattle.h1_body.specs.declared.reader.BodyReader.{BodyReader}
use Rattle.h1_body.proofs.RunLemmas.{ahead-ahead, ahead_none}
use Rattle.h1_transfer.specs.Calls.{succeeds, read_fault_of}
use Rattle.h1_server.specs.Payload.{PayloadAnswer, ReadsPayload}
use Rattle.h1_transfer.specs.Payload.{refused_behind}
use Rattle.h1_transfer.specs.BodyAnswers.{IsReadSo}
use Rattle.h1_transfer.specs.Budget.{allowance}
use Rattle.h1_transfer.proofs.MovedLemmas.{moved_itself, moved_on}
use Rattle.h1_application.proofs.Words.{ReadsOnly, RefusedBy, WaitsBy}
use Rattle.h1_application.specs.Application.{fault_met, FailsRead, HoldsPayload, ReadsAtOnce, RefusesWith}

-- nothing of a budget was spent
pub budget_itself : (budget : Option ℕ) → budget ≡ option_map (λ left. left - 0) budget
budget_itself None = refl
budget_itself (Some left) = ap Some (omega arith)

pub budget_on : (a b c : Option ℕ) (spent more : ℕ) → b ≡ option_map (λ left. left - spent) a
    → c ≡ option_map (λ left. left - more) b
    → c ≡ option_map (λ left. left - (spent + more)) a
budget_on a b c spent more first second = second ∙ ap (option_map (λ left. left - more)) first ∙ twice a
  where
    twice : (a : Option ℕ)
        → option_map (λ left. left - more) (option_map (λ left. left - spent) a) ≡ option_map
        (λ left. left - (spent + more)) a
    twice None = refl
    twice (Some left) = ap Some (omega arith)

pub within_itself : (budget : Option ℕ) → IfSome budget (λ left. 0 ≤ left)
within_itself None = tt
within_itself (Some left) = omega arith

pub within_on : (a b : Option ℕ) (spent more : ℕ) → b ≡ option_map (λ left. left - spent) a
    → IfSome a (λ left. spent ≤ left) → IfSome b (λ left. more ≤ left)
    → IfSome a (λ left. spent + more ≤ left)
within_on None b spent more step first second = tt
within_on (Some left) b spent more step first second =
    let behind : more ≤ left - spent = subst (λ x. IfSome x (λ left. more ≤ left)) step second in
    omega arith

-- a budget of which so much is left
pub budget_spent : (old new : Option ℕ) (left : ℕ) → left ≤ allowance old
    → new ≡ option_map (λ _. left) old
    → new ≡ option_map (λ had. had - (allowance old - left)) old
budget_spent None new left within step = step
budget_spent (Some had) new left within step = step ∙ ap Some (omega arith)

pub within_spent : (old : Option ℕ) (left : ℕ) → IfSome old (λ had. allowance old - left ≤ had)
within_spent None left = tt
within_spent (Some had) left = omega arith

-- and one of which nothing is left
pub budget_none : (old new : Option ℕ) (left : ℕ) → IsSome old → new ≡ option_map (λ _. left) old
    → left ≡ 0 → new ≡ Some 0
budget_none None new left there step none = absurd (false≢true there)
budget_none (Some had) new left there step none = step ∙ ap Some none

-- a reading goes on after the one before
decoded_on : (a b c : BodyReader) (used more payload further : List ℕ) → Decoded a b used payload
    → Decoded b c more further
    → Decoded a c (used ++ more) (payload ++ further)
decoded_on a b c used more payload further first second = record {
  reads = λ rest.
      rw (
        append_assoc used more rest,
        first.reads (more ++ rest),
        second.reads rest,
        ahead-ahead payload further (length used) (length more) (reads c rest),
        length-append used more,
      ) refl;
}

-- a call of the session that fails says why
fails_read : {L C : Type 0} (state : L → LinkState) (old new : SessionView L C) (k : ErrorType)
    → BodyRefusal state old new k → FailsRead state old new k
fails_read state old new kind.NoMemory h = elim h [
  | inl lacks ↦ inl lacks.1
  | inr next ↦ inr next
]
fails_read state old new _ h = h

-- the causes of refusals and waits go on
refusal_on : {L C : Type 0} (state : L → LinkState) (a b c : SessionView L C) (k : ErrorType)
    → Later (state a.link) (state b.link)
    → FailsRead state b c k → FailsRead state a c k
refusal_on state a b c kind.InvalidBody later h = h
refusal_on state a b c kind.ConnectionClosed later h = h
refusal_on state a b c kind.ReadError later h = (let counts = later.counts in omega (arith, h.0), h.1)
refusal_on state a b c kind.ReadTimedout later h = (let counts = later.counts in omega (arith, h.0), h.1)
refusal_on state a b c kind.ContentTooLarge later h = h
refusal_on state a b c kind.NoMemory later h = h
refusal_on state a b c _ later h = absurd h

refused_on : {L C : Type 0} (state : L → LinkState) (a b c : SessionView L C)
    (refused : Option Error) → Later (state a.link) (state b.link)
    → b.body.refused ≡ refused → RefusedBy state a b refused → RefusedBy state b c refused
    → RefusedBy state a c refused
refused_on state a b c (Some error) later is first second =
    (second.0, second.1 ∙ first.1, second.2 ∙ first.2, second.3 ∙ first.3)
refused_on state a b c None later is first second = on c.body.refused second
  where
    on : (o : Option Error) → IfSome o (RefusesWith state b c) → IfSome o (RefusesWith state a c)
    on None h = tt
    on (Some error) h = (refusal_on state a b c error.kind later h.0, h.1)

waits_on : {L C : Type 0} (state : L → LinkState) (a b c : SessionView L C) (waits : Bool)
    → (state b.link).read_waits ≡ (state a.link).read_waits
    → WaitsBy state b c waits → WaitsBy state a c waits
waits_on state a b c false same h = h ∙ same
waits_on state a b c true same h =
    (h.0, subst (λ n. Rose n (state c.link).read_waits ⊎ (c.budget ≡ Some 0)) same h.1)

refused_itself : {L C : Type 0} (state : L → LinkState) (s : SessionView L C)
    (refused : Option Error) → s.body.refused ≡ refused → RefusedBy state s s refused
refused_itself state s (Some error) is = (is, refl, refl, refl)
refused_itself state s None is = rw is tt

met_itself : (refused : Option Error) → fault_met refused refused ≡ no_fault
met_itself None = refl
met_itself (Some error) = refl

-- reading nothing
pub reads_itself : {L C : Type 0} (state : L → LinkState) (s : SessionView L C)
    → ReadsOnly state s s
reads_itself state s = record {
  piece = [];
  used = [];
  payload = [];
  spent = 0;
  moved = moved_itself (state s.link);
  budget = budget_itself s.budget;
  within = within_itself s.budget;
  flushed = refl;
  few = omega arith;
  calls = called_undone (state s.link) (state s.link) true _
      (rw (met_itself s.body.refused) (called_itself (state s.link)));
  bytes = append-nil s.received;
  decoded = record { reads = λ more. sym (ahead_none (reads s.body.reader more)) };
  kept = kept_none s.body.kept;
  request = refl;
  head_refused = refl;
  reuses = refl;
  reply = refl;
  keep = refl;
  reusable = refl;
  context = refl;
  refused = refused_itself state s s.body.refused refl;
  undrained = λ none. none;
  waits = λ free. rw free refl;
}

-- what is read is held where payload was
pub holds_on : {L C : Type 0} (state : L → LinkState) (a b : SessionView L C) → ReadsOnly state a b
    → HoldsPayload a → HoldsPayload b
holds_on state a b reads holds = rw reads.kept (by a.body.kept holds) where
  by : (kept : Option Payload) → held_of kept ≡ Some (noted_of kept)
      → held_of (option_map (grown reads.payload) kept) ≡ Some (noted_of (option_map (grown reads.payload) kept))
  by None holds = absurd (never holds) where
    never : None ≡ Some (noted_of None) → ⊥
    never same = cc
  by (Some kept) holds = so kept.gathering.holds holds where
    so : (t : Bool) → then_some t kept.bytes ≡ Some kept.bytes
        → then_some t (kept.bytes ++ reads.payload) ≡ Some (kept.bytes ++ reads.payload)
    so true h = refl
    so false h = absurd (none h) where
      none : None ≡ Some kept.bytes → ⊥
      none same = cc

-- reading on, where no read was pending or refused before
pub reads_on : {L C : Type 0} (state : L → LinkState) (a b c : SessionView L C)
    → ReadsOnly state a b → ReadsAtOnce state a b → ReadsOnly state b c
    → ReadsOnly state a c
reads_on state a b c first free second = record {
  piece = first.piece ++ second.piece;
  used = first.used ++ second.used;
  payload = first.payload ++ second.payload;
  spent = first.spent + second.spent;
  moved = moved_on _ _ _ first.piece second.piece [] [] first.spent second.spent first.moved second.moved;
  budget = budget_on a.budget b.budget c.budget first.spent second.spent first.budget second.budget;
  within = within_on a.budget b.budget first.spent second.spent first.budget first.within second.within;
  flushed = second.flushed ∙ first.flushed;
  few = omega (arith, free.link_waits, second.few);
  calls = subst (λ r. Called (state a.link) (state c.link) false (fault_met r c.body.refused)) free.refused
      (called_on (state a.link) (state b.link) (state c.link) false (fault_met b.body.refused c.body.refused)
      free.calls second.calls);
  bytes = sym (append_assoc a.received first.piece second.piece) ∙ ap (λ xs. xs ++ second.piece) first.bytes
      ∙ append_assoc first.used b.received second.piece ∙ ap (λ xs. first.used ++ xs) second.bytes
      ∙ sym (append_assoc first.used second.used c.received);
  decoded = decoded_on a.body.reader b.body.reader c.body.reader first.used second.used
      first.payload second.payload first.decoded second.decoded;
  kept = kept_on a.body.kept b.body.kept c.body.kept first.payload second.payload first.kept second.kept;
  request = second.request ∙ first.request;
  head_refused = second.head_refused ∙ first.head_refused;
  reuses = second.reuses ∙ first.reuses;
  reply = second.reply ∙ first.reply;
  keep = second.keep ∙ first.keep;
  reusable = second.reusable ∙ first.reusable;
  context = second.context ∙ first.context;
  refused = refused_on state a b c a.body.refused first.moved.later free.refused first.refused
      (subst (RefusedBy state b c) free.refused second.refused);
  undrained = λ none. second.undrained (first.undrained none);
  waits = λ none. waits_on state a b c c.body.waits free.link_waits (second.waits (free.waits ∙ none));
}

-- what a call that reads says of refusals and waits
payload_refused : {L C : Type 0} (state : L → LinkState) (old new : SessionView L C)
    (payload : List ℕ) (left : ℕ) (outcome : Poll (Result (Option (List ℕ)) Error))
    → PayloadAnswer state old new payload left outcome
    → IfSome new.body.refused (RefusesWith state old new)
payload_refused state old new payload left (Ready (Ok (Some piece))) h = rw h.2 tt
payload_refused state old new payload left (Ready (Ok None)) h = rw h.2 tt
payload_refused state old new payload left (Ready (Err error)) h =
    subst (λ o. IfSome o (RefusesWith state old new)) (sym h.1)
    (behind new.body.kept error error.kind refl (fails_read state old new error.kind h.2, h.4))
  where
    behind : (kept : Option Payload) (error : Error) (k : ErrorType) → error.kind ≡ k
        → RefusesWith state old new error
        → IfSome (refused_behind kept error) (RefusesWith state old new)
    behind None error kind.NoMemory is h = rw is tt
    behind (Some bytes) error kind.NoMemory is h = rw is (rw is at h)
    behind kept error _ is h = rw is (rw is at h)
payload_refused state old new payload left Pending h = rw h.2 tt

payload_waits : {L C : Type 0} (state : L → LinkState) (old new : SessionView L C)
    (payload : List ℕ) (left : ℕ) (outcome : Poll (Result (Option (List ℕ)) Error))
    → IsSome old.budget → new.budget ≡ option_map (λ _. left) old.budget
    → PayloadAnswer state old new payload left outcome → old.body.waits ≡ false
    → WaitsBy state old new new.body.waits
payload_waits state old new payload left (Ready (Ok (Some piece))) there step h none =
    rw (h.3.waits, none) h.3.link_waits
payload_waits state old new payload left (Ready (Ok None)) there step h none = rw (h.3.waits, none) h.3.link_waits
payload_waits state old new payload left (Ready (Err error)) there step h none = by error.kind h.2 h.3 where
  by : (k : ErrorType) → BodyRefusal state old new k
      → IsReadSo (state old.link) (state new.link) old.body.waits new.body k → WaitsBy state old new new.body.waits
  by kind.ReadTimedout why waits = rw waits (why.1, inl why.0)
  by _ why at_once = rw (at_once.waits, none) at_once.link_waits
payload_waits state old new payload left Pending there step h none =
    rw h.3 (h.1, why h.4)
  where
    why : Rose (state old.link).read_waits (state new.link).read_waits ⊎ (left ≡ 0)
        → Rose (state old.link).read_waits (state new.link).read_waits ⊎ (new.budget ≡ Some 0)
    why (inl rose) = inl rose
    why (inr spent) = inr (budget_none old.budget new.budget left there step spent)

-- a fault that the answer tells is the one that the refusal notes
refusal_fault : (kept : Option Payload) (error : Error) (k : ErrorType) → error.kind ≡ k
    → read_fault_of_kind error.kind ≡ fault_met None (refused_behind kept error)
refusal_fault None error kind.NoMemory is = rw is refl
refusal_fault (Some payload) error kind.NoMemory is = rw is refl
refusal_fault kept error _ is = rw is refl

payload_fault : {L C : Type 0} (state : L → LinkState) (old new : SessionView L C)
    (payload : List ℕ) (left : ℕ) (outcome : Poll (Result (Option (List ℕ)) Error))
    → PayloadAnswer state old new payload left outcome
    → read_fault_of outcome ≡ fault_met None new.body.refused
payload_fault state old new payload left (Ready (Ok (Some piece))) h = rw h.2 refl
payload_fault state old new payload left (Ready (Ok None)) h = rw h.2 refl
payload_fault state old new payload left (Ready (Err error)) h =
    rw h.1 (refusal_fault new.body.kept error error.kind refl)
payload_fault state old new payload left Pending h = rw h.2 refl

-- one call that reads
pub reads_payload : {L C : Type 0} (state : L → LinkState) (now : ℕ) (old new : SessionView L C)
    (outcome : Poll (Result (Option (List ℕ)) Error))
    → IsSome old.budget → old.body.refused ≡ None → ReadsPayload state now old new outcome
    → Called (state old.link) (state new.link) (succeeds outcome) (read_fault_of outcome)
    → ReadsOnly state old new
reads_payload state now old new outcome there none call calls = record {
  piece = call.reads.received.piece;
  used = call.reads.used;
  payload = call.payload;
  spent = allowance old.budget - call.left;
  moved = call.reads.received.moved;
  budget = budget_spent old.budget new.budget call.left call.reads.received.within call.budget;
  within = within_spent old.budget call.left;
  flushed = call.reads.received.flushed;
  bytes = sym call.reads.received.bytes;
  decoded = call.reads.decoded;
  kept = call.reads.keeps_payload;
  request = ap (λ s. s.request) call.rest;
  few = call.few;
  calls = rw none (subst (λ f. Called (state old.link) (state new.link) false f)
      (payload_fault state old new call.payload call.left outcome call.answer)
      (called_undone (state old.link) (state new.link) (succeeds outcome) (read_fault_of outcome) calls));
  head_refused = ap (λ s. s.refused) call.rest;
  reuses = ap (λ s. s.settings.reuses) call.rest;
  reply = ap (λ s. s.reply) call.rest;
  keep = ap (λ s. s.keep) call.rest;
  reusable = ap (λ s. s.reusable) call.rest;
  context = ap (λ s. s.context) call.rest;
  refused = rw none (payload_refused state old new call.payload call.left outcome call.answer);
  undrained = λ _. call.undrained;
  waits = payload_waits state old new call.payload call.left outcome there call.budget call.answer;
}

-- one call, which answers a refusal again
pub reads_call : {L C : Type 0} (state : L → LinkState) (now : ℕ) (old new : SessionView L C)
    (outcome : Poll (Result (Option (List ℕ)) Error))
    → IsSome old.budget
    → IfSome old.body.refused (λ error. (outcome ≡ Ready (Err error)) × (new ≡ old))
    → IfNone old.body.refused (ReadsPayload state now old new outcome)
    → Called (state old.link) (state new.link) (succeeds outcome) (read_fault_of outcome)
    → ReadsOnly state old new
reads_call {L} {C} state now old new outcome there again reads calls = by_refused old.body.refused refl again reads
  where
    by_refused : (o : Option Error) → old.body.refused ≡ o
        → IfSome o (λ error. (outcome ≡ Ready (Err error)) × (new ≡ old))
        → IfNone o (ReadsPayload state now old new outcome) → ReadsOnly state old new
    by_refused None is again reads = reads_payload state now old new outcome there is reads calls
    by_refused (Some error) is again reads = subst (ReadsOnly state old) (sym again.1) (reads_itself state old)
