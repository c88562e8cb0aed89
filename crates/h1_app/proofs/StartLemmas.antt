-- What becomes of a head that was read, and what that leaves of the link.
use Rattle.std.proofs.Common.{◌≡◌, ◌⊎◌, inl, inr, ℕ, List, [], true, Option, Some, None, IfSome, option_map, Result, Ok, Err, refl, sym, ◌∙◌, ap, subst, arith}
use Rattle.std.specs.Prelude.{IfOk, IfErr, OnOk}
use Rattle.std.proofs.lemmas.Option.{same_Some}
use Rattle.h1_error.specs.Memory.{no_memory}
use Rattle.h1_modules.specs.Outcome.{ErrsBy, refused_by}
use Rattle.h1_server.specs.Heads.{with_header}
use Rattle.h1_transcript.specs.Entries.{with_last}
use Rattle.h1_transfer.specs.Calls.{no_fault}
use Rattle.h1_app.specs.Beginning.{BegunFor, HeadFiltered, HeadRefused, IfLast, StandsBegun, StartedAs, with_filtered}
use Rattle.h1_app.specs.Words.{BeginsIn, Holding, Called, Error, LinkState, Request, RequestView, SessionView, Settings, Entry, Outcome, Stage, TranscriptView}
use Rattle.h1_application.specs.Application.{Runs}
use Rattle.h1_app.specs.declared.exchange.Stage.TheVariants as stage
use Rattle.h1_app.proofs.Words.{BegunAs, Chain, Continues, IsNewEntry, JobFrom, Leaves, OthersFew, behind_request, outcome_end}

-- an error of filters is want of memory, or it has the number with which one refuses
pub errs_by : {V : Type 0} (o : Result V ℕ) (error : Error) → ErrsBy refused_by o error
    → (error ≡ no_memory) ⊎ ((n : ℕ) × (error ≡ refused_by n) × (o ≡ Err n))
errs_by (Ok after) error is = inl is
errs_by (Err n) error (inl is) = inr (n, is, refl)
errs_by (Err n) error (inr is) = inl is

module _ {L C J M : Type 0} (begins : J → Type 0)
    (runs : Runs J) (chain : Chain M)
    (old new : SessionView L C) (modules : List M) (last : Option Entry) where
  -- the start of an application is no matter to the link
  started_link : (started : Result J Error)
      → StartedAs begins runs chain old new modules last started → new.link ≡ old.link
  started_link (Ok job) s = ap (λ (x : SessionView L C). x.link) s.2.begun.session
  started_link (Err error) (inl s) = ap (λ (x : SessionView L C). x.link) s.session
  started_link (Err error) (inr s) = ap (λ (x : SessionView L C). x.link) s.2.begun.session

  -- why no application is started
  started_errs : (error : Error) → StartedAs begins runs chain old new modules last (Err error)
      → (error ≡ no_memory) ⊎ ((n : ℕ) × (error ≡ refused_by n))
  started_errs error (inl s) = inl s.memory
  started_errs error (inr s) =
      elim (errs_by _ error s.2.why) [ inl is ↦ inl is | inr refused ↦ inr (refused.0, refused.1) ]

  -- the job began where one is there
  started_job : (pends : J → ℕ) (from to : Stage J) (result : Outcome) (started : Result J Error)
      → StartedAs begins runs chain old new modules last started → StandsBegun started to result
      → JobFrom begins pends from to
  started_job pends from to result (Ok job) s stands = rw stands.0 (inr s.2.fresh)
  started_job pends from to result (Err error) s stands = rw stands.0 tt

  started_leaves : (before now : LinkState) (to : Stage J) (result : Outcome)
      (started : Result J Error) → Called before now true no_fault
      → StartedAs begins runs chain old new modules last started → StandsBegun started to result
      → Leaves before now last (outcome_end result)
  started_leaves before now to result (Ok job) calls s stands =
      rw stands.1
      (record { writes = calls.faults.1; reads = inl calls.faults.0; shut = calls.shut })
  started_leaves before now to result (Err error) calls s stands = elim (started_errs error s) [
    | inl is ↦ rw (stands.1, is)
        (record { writes = calls.faults.1; reads = inl calls.faults.0; shut = calls.shut })
    | inr refused ↦ rw (stands.1, refused.1)
        (record { writes = calls.faults.1; reads = inl calls.faults.0; shut = calls.shut })
  ]

-- no link call moved no byte
stands_calm : {J : Type 0} (before now : LinkState) (from to : Stage J) (result : Outcome)
    (started : Result J Error) → from ≡ stage.Head → now.others ≡ before.others
    → StandsBegun started to result → OthersFew before now from to result
stands_calm before now from to result (Ok job) at calm stands =
    rw (stands.1, at, stands.0) (omega (arith, calm))
stands_calm before now from to result (Err error) at calm stands = rw stands.1 (omega (arith, calm))

-- a head was read, and an exchange begins or doesn't
module _ {L C J M : Type 0} (state : L → LinkState) (begins : J → Type 0)
    (runs : Runs J) (chain : Chain M)
    (old mid new : SessionView L C) (modules : List M) (last : Option Entry) (to : Stage J)
    (result : Outcome) (begun : BegunAs begins runs chain mid new modules last to result)
    (calls : Called (state old.link) (state mid.link) true no_fault) where
  same_link : new.link ≡ mid.link
  same_link = started_link begins runs chain mid new modules last begun.0 begun.1

  pub begun_continues : (same_plan : L → L → Type 0) (pends : J → ℕ) (from : Stage J)
      (before behind : TranscriptView) → from ≡ stage.Head → behind.done ≡ before.done
      → behind.holding ≡ before.holding
      → same_plan old.link mid.link
      → Continues state same_plan begins pends
      (record { session = old; transcript = before; stage = from })
      (record { session = new; transcript = behind; stage = to }) result
  begun_continues same_plan pends from before behind at done history plan = record {
    done = done;
    holding = history;
    plan = rw same_link plan;
    job = started_job begins runs chain mid new modules last pends from to result begun.0 begun.1
        begun.2;
    others = rw same_link (stands_calm (state old.link) (state mid.link) from to result begun.0 at
        calls.others begun.2);
  }

  pub begun_leaves : Leaves (state old.link) (state new.link) last (outcome_end result)
  begun_leaves =
      rw same_link (started_leaves begins runs chain mid new modules last (state old.link)
      (state mid.link) to result begun.0 calls begun.1 begun.2)

-- the head for the application is no part of what an exchange begins with
new_filtered : (request : Request) (settings : Settings) (e : Entry) (filtered : Option RequestView)
    → IsNewEntry request settings e → IsNewEntry request settings (record e { filtered = filtered })
new_filtered request settings e filtered is = record {
  head = is.head;
  both = is.both;
  body = is.body;
  handed = is.handed;
  body_error = is.body_error;
  read_limit = is.read_limit;
  reply = is.reply;
  sent_head = is.sent_head;
  sent_body = is.sent_body;
  date = is.date;
  date_text = is.date_text;
  keep = is.keep;
  written = is.written;
  how = is.how;
  owed = is.owed;
  began = is.began;
  left = is.left;
}

-- an exchange that began is kept as the connection keeps its exchanges, whatever its head becomes
pub kept_on : (holding : Holding) (old before : Option Entry) (e : Entry) (filtered : Option RequestView)
    → before ≡ Some e → BeginsIn holding old before
    → BeginsIn holding old (Some (record e { filtered = filtered }))
kept_on holding None before e filtered is kept = rw is at kept
kept_on holding (Some first) before e filtered is kept = tt

-- the exchange that is lent is the one that began
pub lent_new : (request : Request) (settings : Settings) (e : Entry) (last : Option Entry)
    → last ≡ Some e
    → IfLast last (λ e. IsNewEntry request settings e × (e.filtered ≡ Some request.header))
    → IsNewEntry request settings e
lent_new request settings e last is new =
    subst (λ x. IsNewEntry request settings x) (same_Some new.0 e (sym new.1 ∙ is)) new.2.0

-- the one that began is there for the filters
pub begun_for : (request : Request) (settings : Settings) (asked : Option Request)
    (last : Option Entry) → asked ≡ Some request
    → IfLast last (λ e. IsNewEntry request settings e × (e.filtered ≡ Some request.header))
    → BegunFor asked last
begun_for request settings asked last is new =
    record { request = request; e = new.0; is = is; goes_on = new.1; given = new.2.1 }

-- what the filters make of the head of an exchange that began
module _ {L C M : Type 0} (chain : Chain M) (old : SessionView L C) (modules : List M)
    (before : TranscriptView) (begun : BegunFor old.request before.last) where
  -- nothing, where there are none
  pub plain_head : (behind_request chain begun.request.header
      ≡ Ok (modules, begun.request.header)) → HeadFiltered chain old old modules before before
  plain_head plain = record {
    request = begun.request;
    e = begun.e;
    head = begun.request.header;
    is = begun.is;
    session = ap (λ (asked : Option Request). record old { request = asked }) begun.is;
    goes_on = begun.goes_on;
    noted = ap (λ (last : Option Entry). record before { last = last }) (begun.goes_on
        ∙ ap (λ (f : Option RequestView). Some (record begun.e { filtered = f })) begun.given);
    behind = plain;
  }

  with_its : (head : RequestView) → with_header old head ≡ with_filtered old begun.request head
  with_its head =
      ap (λ (asked : Option Request). record old {
        request = option_map (λ (r : Request). record r { header = head }) asked;
      }) begun.is

  -- what they make is noted, or nothing is
  module _ (e : Entry) (given head : RequestView) (f : Entry)
      (goes_on : before.last ≡ Some e)
      (lent : IfSome old.request (λ request. given ≡ request.header)) where
    same_head : given ≡ begun.request.header
    same_head = rw begun.is at lent

    pub filtered_head : {T : Type 0} (result : Result T Error) → OnOk result ((f ≡ record e { filtered = Some head })
        × (behind_request chain given ≡ Ok (modules, head)))
        → OnOk result (HeadFiltered chain old (with_header old head) modules before
        (with_last before f))
    filtered_head (Ok noted) done = record {
      request = begun.request;
      e = e;
      head = head;
      is = begun.is;
      session = with_its head;
      goes_on = goes_on;
      noted = rw done.0 refl;
      behind = rw same_head at done.1;
    }
    filtered_head (Err error) done = tt

    pub refused_head : {T : Type 0} (result : Result T Error) → IfErr result
        (λ error. (f ≡ record e { filtered = None }) × ErrsBy refused_by (behind_request chain given) error)
        → IfErr result (HeadRefused chain old (with_header old head) before
        (with_last before f))
    refused_head (Ok noted) why = tt
    refused_head (Err error) why = record {
      request = begun.request;
      e = e;
      head = head;
      is = begun.is;
      session = with_its head;
      goes_on = goes_on;
      noted = rw why.0 refl;
      why = rw same_head at why.1;
    }

-- the application was started for what the filters made of the head, or it was not
module _ {L C J M : Type 0} (begins : J → Type 0)
    (runs : Runs J) (chain : Chain M)
    (old new : SessionView L C) (modules : List M) (begun : TranscriptView) (asked : Request)
    (is : old.request ≡ Some asked)
    (fresh : IfLast begun.last (λ e. IsNewEntry asked old.settings e
    × (e.filtered ≡ Some asked.header))) where
  new_with : (request : Request) (e : Entry) (filtered : Option RequestView)
      → old.request ≡ Some request → begun.last ≡ Some e
      → IsNewEntry request old.settings (record e { filtered = filtered })
  new_with request e filtered same goes_on =
      new_filtered request old.settings e filtered
      (subst (λ r. IsNewEntry r old.settings e) (same_Some asked request (sym is ∙ same))
      (lent_new asked old.settings e begun.last goes_on fresh))

  pub started_as : (filtered after : TranscriptView) (job : Result J Error)
      → HeadFiltered chain old new modules begun filtered
      → IfOk job (λ job. (after ≡ filtered) × begins job
      × ((head : RequestView) (began : Settings) → runs job head began began [] None))
      → IfErr job (λ error. (error ≡ no_memory) × IfSome filtered.last
      (λ e. after ≡ with_last filtered (record e { filtered = None })))
      → StartedAs begins runs chain old new modules after.last job
  started_as filtered after (Ok job) h done why = (
    record h.e { filtered = Some h.head },
    ap (λ (t : TranscriptView). t.last) (done.0 ∙ h.noted),
    record {
      request = h.request;
      head = h.head;
      begun = record {
        is = h.is;
        session = h.session;
        entry = new_with h.request h.e (Some h.head) h.is h.goes_on;
      };
      filtered = refl;
      behind = h.behind;
      fresh = done.1;
      running = done.2 h.head old.settings;
    },
  )
  started_as filtered after (Err error) h done why =
      let gone = rw h.noted at why.1 in
      inr (
        record h.e { filtered = None },
        ap (λ (t : TranscriptView). t.last) gone,
        record {
          request = h.request;
          head = h.head;
          begun = record {
            is = h.is;
            session = h.session;
            entry = new_with h.request h.e None h.is h.goes_on;
          };
          filtered = refl;
          why = rw h.behind why.0;
        },
      )

  pub refused_as : (after : TranscriptView) (error : Error)
      → HeadRefused chain old new begun after error
      → StartedAs {J = J} begins runs chain old new modules after.last (Err error)
  refused_as after error h = inr (
    record h.e { filtered = None },
    ap (λ (t : TranscriptView). t.last) h.noted,
    record {
      request = h.request;
      head = h.head;
      begun = record {
        is = h.is;
        session = h.session;
        entry = new_with h.request h.e None h.is h.goes_on;
      };
      filtered = refl;
      why = h.why;
    },
  )
