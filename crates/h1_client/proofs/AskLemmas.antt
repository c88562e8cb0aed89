-- What writing the head of a request comes to.
use Rattle.std.proofs.Common.{◌≡◌, ℕ, List, Bool, true, false, Option, Some, None, option_map, Result, Ok, Err, refl, sym, ap, ◌∙◌, subst, inr}
use Rattle.std.proofs.lemmas.Bool.{false≢true}
use Rattle.std.proofs.lemmas.Option.{none-some}
use Rattle.h1_transfer.specs.Budget.{allowance}
use Rattle.h1_transfer.specs.Calls.{Called, write_fault_of}
use Rattle.h1_transfer.specs.Writes.{Delivers}
use Rattle.h1_transfer.specs.declared.delivering.Delivery.TheVariants.{Flushed}
use Rattle.h1_client.specs.Words.{Poll, Pending, Ready, Error, Deadline, HeadSearch, RequestView, ResponseView, LinkState, Step, TransferView}
use Rattle.h1_client.specs.Asking.{AsksBy, AsksWith, IsAskStep, JudgesAsk, SendsHead, TakesUp, ask_answer, is_late, owing, taken_up}
use Rattle.h1_client.specs.ClientView.{ClientView, call_begun}
use Rattle.h1_client.specs.Settings.{write_deadline}
use Rattle.h1_client.specs.declared.asked.Asked.{Asked}
use Rattle.h1_client.specs.declared.keeping.Keepalive.{Keepalive}
use Rattle.h1_client.proofs.CallLemmas.{SoundOf, sound_asks, sound_begun, sound_delivers}

-- what is owed goes out, behind what a session took up
sends : {L : Type 0} (state : L → LinkState) (moment : ℕ) (old : ClientView L) (new : TransferView L)
    (now : Asked) (told : Poll (Result (Unit {0}) Error)) (outcome : Poll (Result ℕ Error)) (spent : Bool)
    → old.transfer.budget ≡ Some 64 → Delivers state Flushed old.transfer new told
    → JudgesAsk old.asked now told (allowance new.budget) (write_deadline old.settings moment) outcome
    → SendsHead state moment old (record old { transfer = new; asked = now; spent = spent }) outcome
sends {L} state moment old new now told outcome spent begun delivers judges =
    let budget : new.budget ≡ Some delivers.left =
    delivers.budget ∙ ap (λ (b : Option ℕ). option_map (λ _. delivers.left) b) begun in
    let left : allowance new.budget ≡ delivers.left = ap (λ b. allowance b) budget in
    record {
      told = told;
      left = delivers.left;
      delivers = delivers;
      budget = budget;
      judges = subst (λ n. JudgesAsk old.asked now told n (write_deadline old.settings moment) outcome)
          left judges;
      rest = refl;
    }

-- what is owed goes out, where nothing was handed in, or a head was taken up
pub asks_by : {L : Type 0} (state : L → LinkState) (moment : ℕ) (old : ClientView L)
    (start taken new : TransferView L) (asked now : Asked) (head kept : Option RequestView)
    (told : Poll (Result (Unit {0}) Error)) (outcome : Poll (Result ℕ Error)) (spent : Bool)
    → start ≡ record old.transfer { budget = Some 64 }
    → TakesUp start taken old.asked asked head kept (Ok tt)
    → Delivers state Flushed taken new told
    → JudgesAsk asked now told (allowance new.budget) (write_deadline old.settings moment) outcome
    → AsksBy state moment old (record old { transfer = new; asked = now; spent = spent }) head kept outcome
asks_by {L} state moment old start taken new asked now None kept told outcome spent begins takes delivers judges =
    let is : taken ≡ (call_begun old).transfer = takes.0 ∙ begins in (
      takes.2,
      sends state moment (call_begun old) new now told outcome spent refl
          (subst (λ (t : TransferView L). Delivers state Flushed t new told) is delivers)
          (subst (λ (a : Asked). JudgesAsk a now told (allowance new.budget) (write_deadline old.settings moment) outcome)
          takes.1 judges),
    )
asks_by {L} state moment old start taken new asked now (Some head) kept told outcome spent begins takes delivers judges =
    let up = takes.0 in
    let is : taken ≡ (taken_up (call_begun old) head up.bytes).transfer = up.transfer
    ∙ ap (λ (t : TransferView L). record t { outgoing = owing t.outgoing up.bytes head }) begins in
    inr (subst
    (λ (b : Option (List ℕ)). AsksWith state moment old
    (record old { transfer = new; asked = now; spent = spent }) head kept b outcome)
    (sym up.are) (
      takes.1,
      sends state moment (taken_up (call_begun old) head up.bytes) new now told outcome spent refl
          (subst (λ (t : TransferView L). Delivers state Flushed t new told) is delivers)
          (subst (λ (a : Asked). JudgesAsk a now told (allowance new.budget) (write_deadline old.settings moment) outcome)
          up.asked judges),
    ))

fresh_for : (head request : Option RequestView) (step : Step) → IsAskStep head request step
    → (h : RequestView) → head ≡ Some h → request ≡ None
fresh_for None request step at h is = absurd (none-some h is)
fresh_for (Some head) request step at h is = at.0

-- a call that writes the head of a request keeps what holds of its session
pub asked_sound : {L : Type 0} (state : L → LinkState) (old start taken new : TransferView L)
    (looking : HeadSearch) (was asked now : Asked) (final : Option ResponseView) (k : Keepalive)
    (head kept : Option RequestView) (step : Step) (result : Result (Unit {0}) Error)
    (told : Poll (Result (Unit {0}) Error)) (left : ℕ) (deadline : Deadline)
    (outcome : Poll (Result ℕ Error)) (budget : Option ℕ)
    → SoundOf state old looking was.request final k → start ≡ record old { budget = budget }
    → IsAskStep head was.request step → TakesUp start taken was asked head kept result
    → Delivers state Flushed taken new told → JudgesAsk asked now told left deadline outcome
    → SoundOf state new looking now.request final k
asked_sound state old start taken new looking was asked now final k head kept step result told left deadline outcome budget sound begins at takes delivers judges =
    let request : now.request ≡ asked.request = ap (λ (a : Asked). a.request) judges.asked in
    rw request (sound_delivers state Flushed taken new looking asked.request final k told
    (sound_asks state start taken looking was asked final k head kept result
    (sound_begun state old start looking was.request final k budget sound begins)
    (fresh_for head was.request step at) takes) delivers)

-- a call that takes up the head and writes no byte keeps it too
pub taken_sound : {L : Type 0} (state : L → LinkState) (old start taken : TransferView L)
    (looking : HeadSearch) (was asked : Asked) (final : Option ResponseView) (k : Keepalive)
    (head kept : Option RequestView) (step : Step) (result : Result (Unit {0}) Error)
    (budget : Option ℕ)
    → SoundOf state old looking was.request final k → start ≡ record old { budget = budget }
    → IsAskStep head was.request step → TakesUp start taken was asked head kept result
    → SoundOf state taken looking asked.request final k
taken_sound state old start taken looking was asked final k head kept step result budget sound begins at takes =
    sound_asks state start taken looking was asked final k head kept result
    (sound_begun state old start looking was.request final k budget sound begins)
    (fresh_for head was.request step at) takes

-- a fault that the link's answer tells is the one that the call tells
fault_stays : (was : Asked) (told : Poll (Result (Unit {0}) Error)) (left : ℕ) (deadline : Deadline)
    (count : ℕ) (late : Bool) → is_late was told left deadline ≡ late
    → write_fault_of (ask_answer late count told) ≡ write_fault_of told
fault_stays was (Ready (Ok done)) left deadline count true is = absurd (false≢true is)
fault_stays was (Ready (Err error)) left deadline count true is = absurd (false≢true is)
fault_stays was Pending left deadline count true is = refl
fault_stays was (Ready (Ok done)) left deadline count false is = refl
fault_stays was (Ready (Err error)) left deadline count false is = refl
fault_stays was Pending left deadline count false is = refl

same_link : {L : Type 0} (start taken : TransferView L) (was asked : Asked)
    (head kept : Option RequestView) (result : Result (Unit {0}) Error)
    → TakesUp start taken was asked head kept result → taken.link ≡ start.link
same_link {L} start taken was asked None kept (Ok done) takes = ap (λ (t : TransferView L). t.link) takes.0
same_link start taken was asked None kept (Err error) takes = absurd takes
same_link {L} start taken was asked (Some head) kept (Ok done) takes =
    ap (λ (t : TransferView L). t.link) takes.0.transfer
same_link {L} start taken was asked (Some head) kept (Err error) takes =
    ap (λ (t : TransferView L). t.link) takes.0

-- what a call that writes the head of a request did to its link beside moving bytes
pub asked_called : {L : Type 0} (state : L → LinkState) (old start taken new : TransferView L)
    (was asked now : Asked) (head kept : Option RequestView) (result : Result (Unit {0}) Error)
    (told : Poll (Result (Unit {0}) Error)) (left : ℕ) (deadline : Deadline)
    (outcome : Poll (Result ℕ Error)) (budget : Option ℕ)
    → start ≡ record old { budget = budget } → TakesUp start taken was asked head kept result
    → Called (state taken.link) (state new.link) false (write_fault_of told)
    → JudgesAsk asked now told left deadline outcome
    → Called (state old.link) (state new.link) false (write_fault_of outcome)
asked_called {L} state old start taken new was asked now head kept result told left deadline outcome budget begins takes calls judges =
    let link : taken.link ≡ old.link = same_link start taken was asked head kept result takes
    ∙ ap (λ (t : TransferView L). t.link) begins in
    let fault : write_fault_of outcome ≡ write_fault_of told = ap (λ o. write_fault_of o) judges.answer
    ∙ fault_stays asked told left deadline asked.length (is_late asked told left deadline) refl in
    rw fault (subst (λ l. Called (state l) (state new.link) false (write_fault_of told)) link calls)
