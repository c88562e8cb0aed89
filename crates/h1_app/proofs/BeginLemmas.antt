-- Steps that begin an exchange.
use Rattle.std.proofs.Common.{◌≡◌, ◌⊎◌, inl, inr, ℕ, ◌+◌, ◌*◌, ◌<◌, ◌≤◌, List, [], ◌∷◌, Bool, true, false, Option, Some, None, IfOk, IfSome, OnOk, option_map, Result, Ok, Err, refl, sym, ◌∙◌, ap, subst, lit<, arith}
use Rattle.std.proofs.lemmas.Bool.{false≢true}
use Rattle.std.proofs.lemmas.Option.{same_Some}
use Rattle.h1_modules.specs.Outcome.{refused_by}
use Rattle.h1_transcript.specs.Entries.{new_entry, with_last}
use Rattle.h1_app.specs.Beginning.{IfLast, NotBegun, NotStarted, StandsBegun, StartedAs, StartedWith, kept_again, with_filtered}
use Rattle.h1_app.specs.Words.{Rules, Filters, IsRefusedBy, Given, Error, Ready, LinkState, no_memory, RequestView, body, reads, framing, SessionView, allowance, Request, Settings, Reply, Entry, Exchange, TranscriptView, Outgoing, Stage, Outcome, IsSetAlike, BeginsIn, IsAllowed, head_time, keepalive_set}
use Rattle.h1_application.specs.Application.{Runs}
use Rattle.h1_server.specs.declared.request.ReadRequest.TheVariants as read
use Rattle.h1_app.specs.declared.exchange.Stage.TheVariants as stage
use Rattle.h1_app.specs.declared.exchange.Outcome.TheVariants as outcome
use Rattle.h1_error.specs.declared.progress.End.TheVariants as end
use Rattle.h1_transfer.specs.Deadline.{is_timeout}
use Rattle.h1_app.specs.Timely.{StepsInTime}
use Rattle.h1_app.proofs.Words.{BegunAs, Chain, FewReadsNotReady, IsAwaiting, IsNewEntry, MovesWithin, OutcomeCause, SoundStage, StepRefuses, Stepped, SteppedWith, ahead, behind_request, filters_of, rules_with, value_of}
use Rattle.h1_server.specs.Keepalive.{wished}
use Rattle.h1_transcript.specs.Begun.{HasHeadTime}
use Rattle.h1_server.specs.Requests.{BeginsRequest}
use Rattle.h1_app.proofs.AccountedLemmas.{accounted_headed, accounted_begun, memory_ends, moves_received}
use Rattle.h1_app.proofs.BodyTimeLemmas.{body_begun, body_none}
use Rattle.h1_app.proofs.HeadLemmas.{AtHead, read_noted}
use Rattle.h1_app.proofs.StartLemmas.{errs_by}
use Rattle.h1_app.proofs.TimelyLemmas.{fails_anyhow}

-- an exchange that began is new
pub entry_begun : (request : Request) (settings : Settings) (old new : TranscriptView)
    (result : Result (Unit {0}) Error)
    → OnOk result
    (new ≡ with_last old (new_entry old.holding settings request.both request.header))
    → IfOk result (λ done. IfLast new.last
    (λ e. IsNewEntry request settings e × (e.filtered ≡ Some request.header)))
entry_begun request settings old new (Err error) is = tt
entry_begun request settings old new (Ok done) is = (
  new_entry old.holding settings request.both request.header,
  rw is refl,
  (
    record {
      head = refl;
      both = refl;
      body = refl;
      handed = refl;
      body_error = refl;
      read_limit = refl;
      reply = refl;
      sent_head = refl;
      sent_body = refl;
      date = refl;
      date_text = refl;
      keep = refl;
      written = refl;
      how = refl;
      owed = refl;
      began = refl;
      left = refl;
    },
    refl,
  ),
)

-- the application is started for what the filters made of the request that was read
begun_sound : {L C J : Type 0} (runs : Runs J)
    (old mid : SessionView L C) (settings : Settings) (e : Entry) (bytes : List ℕ)
    (request : Request) (n : ℕ) (head : RequestView) (job : J)
    → IsAwaiting old → mid.reply ≡ old.reply → BeginsRequest old mid bytes request n
    → IsNewEntry request settings e → e.filtered ≡ Some head
    → runs job head settings settings [] None → mid.read_limit ≡ None
    → SoundStage runs (with_filtered (record mid { settings = settings }) request head) (Some e)
    (stage.Answer job)
begun_sound runs old mid settings e bytes request n head job a reply b is filtered running limit = (
  e,
  refl,
  record {
    request = record request { header = head };
    asked = record {
      is = refl;
      filtered = filtered;
      head_only = rw is.head b.is.head_only;
      both = sym is.both;
      wish = rw (is.head, is.both) b.is.wishes;
      reuses = ap (λ (x : Settings). x.reuses) (sym is.began);
      body_error = rw (is.body_error, b.body) refl;
      read_limit = is.read_limit ∙ sym limit;
      handed = rw (is.handed, is.body) refl;
      kept = rw b.body a.kept;
      waits = rw b.body a.waits;
      undrained = rw b.body a.undrained;
      written = rw (is.written, reply) (sym a.unwritten.sent);
      limit = rw is.written (lit< tt);
    };
    unwritten = rw reply a.unwritten;
    reply = is.reply;
    sent_head = is.sent_head;
    sent_body = is.sent_body;
  },
  rw (is.began, is.body, limit) running,
)

-- with the exchange begun the way to its reply is shorter, and the budget didn't rise
less_ahead : {J : Type 0} (budget now : Option ℕ) (left : ℕ) (job : J) → left ≤ allowance budget
    → now ≡ option_map (λ _. left) budget
    → ahead now (stage.Answer job) < ahead {J = J} budget stage.Head
less_ahead None now left job le is = let lower : 2 < 3 = lit< tt in rw is lower
less_ahead (Some all) now left job le is =
    let within : left ≤ all = le in
    let lower : 10 * left + 2 < 10 * all + 3 = omega (arith, within) in
    rw is lower

-- the setting of keep-alive changes nothing else
pub set_alike : (settings : Settings) (seconds : Option ℕ)
    → IsSetAlike settings (keepalive_set settings seconds)
set_alike settings None = record { closing = refl; pipelining = refl; reuses = refl; times = refl }
set_alike settings (Some n) =
    record { closing = refl; pipelining = refl; reuses = refl; times = refl }

pub alike_on : (a b c : Settings) → IsSetAlike a b → IsSetAlike b c → IsSetAlike a c
alike_on a b c first second = record {
  closing = second.closing ∙ first.closing;
  pipelining = second.pipelining ∙ first.pipelining;
  reuses = second.reuses ∙ first.reuses;
  times = second.times ∙ first.times;
}

-- keep-alive is off where the connection shuts down
keeps_off : (shutdown : Bool) (settings : Settings)
    → (keepalive_set settings (head_time shutdown)).keep_off ≡ shutdown
keeps_off true settings = refl
keeps_off false settings = refl

-- and has the time for a head where it doesn't
keeps_time : (shutdown : Bool) (settings : Settings)
    → HasHeadTime (keepalive_set settings (head_time shutdown))
keeps_time true settings = refl
keeps_time false settings = refl

-- an exchange that begins is allowed, with what the filters made of its head
new_allowed : (rules : Rules) (request : Request) (settings : Settings) (e : Entry)
    → IsNewEntry request settings e
    → IfSome e.filtered (λ filtered. rules.filters.request e.head ≡ Ok filtered) → IsAllowed rules e
new_allowed rules request settings e is filtered = record {
  filtered = filtered;
  reply = rw is.reply tt;
  sent_head = rw is.sent_head tt;
  sent_body = rw is.sent_body tt;
  handed = rw (is.handed, is.body) (omega arith);
  bound = rw is.body (omega arith);
  reuses = ap (λ (x : Settings). x.reuses) (is.left ∙ sym is.began);
  owed = λ owed. absurd (false≢true (sym is.owed ∙ owed));
  limit = rw (is.body_error, is.read_limit) refl;
}

-- why no application was started for an exchange
abbrev WhyNone : Filters → Entry → Error → Type 0
WhyNone filters e error = (error ≡ no_memory)
    ⊎ ((n : ℕ) × (error ≡ refused_by n) × IsRefusedBy filters e n)

-- the filters refuse the head, or there is no memory
not_started : {L C M : Type 0} (chain : Chain M) (old new : SessionView L C) (e : Entry)
    (error : Error) → NotStarted chain old new e error → WhyNone (filters_of chain) e error
not_started chain old new e error s =
    elim (errs_by (behind_request chain s.request.header) error s.why) [
      | inl is ↦ inl is
      | inr refused ↦ inr (
        refused.0,
        refused.1,
        inl (s.filtered, s.begun.entry.body, rw (s.begun.entry.head, refused.2) refl),
      )
    ]

never_late : (filters : Filters) (e : Entry) (error : Error) → WhyNone filters e error
    → is_timeout error.kind ≡ false
never_late filters e error (inl is) = rw is refl
never_late filters e error (inr refused) = rw refused.1 refl

none_ends : {L C J : Type 0} (state : L → LinkState) (pends : J → ℕ)
    (runs : Runs J) (filters : Filters)
    (old new : SessionView L C) (e : Entry) (error : Error) (from to : Stage J)
    → WhyNone filters e error → new.reply.owed ≡ [] → e.sent_body ≡ None
    → OutcomeCause state pends runs old new (Some e) from to (outcome.Ends (end.Failed error))
    ⊎ StepRefuses filters new (Some e) (outcome.Ends (end.Failed error))
none_ends state pends runs filters old new e error from to (inl is) unowed unsent =
    inl (λ before done s. memory_ends before (state old.link) (state new.link) done (Some e)
    (end.Failed error) (ap (λ (x : Error). end.Failed x) is))
none_ends state pends runs filters old new e error from to (inr refused) unowed unsent =
    inr ((rw refused.1 refl, (refused.0, rw refused.1 refl, refused.2)), unowed, unsent)

-- a head was read, and keep-alive was set again behind it
module _ {L C J M : Type 0} (state : L → LinkState) (begins : J → Type 0) (pends : J → ℕ)
    (gives : Given → Reply → Type 0)
    (runs : Runs J) (chain : Chain M) (now : ℕ)
    (shutdown : Bool) (x : Exchange L J C) (mid : SessionView L C) (transcript : TranscriptView)
    (n : ℕ) (at : x.stage ≡ stage.Head)
    (h : AtHead state now x.session mid x.transcript.last (Ready (Ok (read.Head n))))
    (kept : BeginsIn x.transcript.holding x.transcript.last transcript.last) where
  abbrev again : SessionView L C
  again = kept_again shutdown mid

  abbrev behind : SessionView L C → Stage J → Exchange L J C
  behind session to = record { session = session; transcript = transcript; stage = to }

  reply_stays : mid.reply ≡ x.session.reply
  reply_stays = ap (λ s. s.reply) h.reads.rest

  received_moves : (new : SessionView L C) → new.link ≡ mid.link → new.budget ≡ mid.budget
      → new.context ≡ mid.context → MovesWithin state x.session new
  received_moves new link budget context =
      moves_received state x.session new h.reads.bytes h.reads.left
      (rw link h.reads.received) (budget ∙ h.reads.budget)
      (context ∙ ap (λ s. s.context) h.reads.rest)

  settings_alike : IsSetAlike x.session.settings again.settings
  settings_alike = alike_on x.session.settings mid.settings again.settings
      (rw h.reads.answer.2.settings
      (set_alike x.session.settings (wished h.reads.answer.0.wish)))
      (set_alike mid.settings (head_time shutdown))

  -- an exchange begins, and its application is started or not
  begins_stepped : (to : Stage J) (result : Outcome) (request : Request) (e : Entry)
      (head : RequestView) → transcript.last ≡ Some e → mid.request ≡ Some request
      → IsNewEntry request again.settings e
      → IfSome e.filtered (λ filtered. value_of (behind_request chain e.head) ≡ Ok filtered)
      → StepsInTime state now x.stage to x.session (with_filtered again request head)
      x.transcript.last (Some e) result
      → OutcomeCause state pends runs x.session (with_filtered again request head) (Some e) x.stage
      to result
      ⊎ StepRefuses (filters_of chain) (with_filtered again request head) (Some e) result
      → Stepped state pends (rules_with gives chain) runs now shutdown x
      (behind (with_filtered again request head) to) result
  begins_stepped to result request e head last asked entry filtered timely cause =
      let a = h.reads.answer in
      let new = with_filtered again request head in
      let same : a.0 ≡ request = same_Some a.0 request (sym a.1 ∙ asked) in
      let is : IsNewEntry a.0 again.settings e =
      subst (λ r. IsNewEntry r again.settings e) (sym same) entry in
      let reader : (rest : List ℕ)
      → reads mid.body.reader rest ≡ body (framing a.0.header) rest =
      λ rest. subst (λ f. reads mid.body.reader rest ≡ body f rest) a.2.is.framed
      (a.2.reader rest) in
      record {
        moves = received_moves new refl refl refl;
        accounted = λ before done. rw (h.alone, last) (λ s.
            accounted_begun state x.session new h.reads.bytes (allowance x.session.budget)
            h.reads.left before done h.reads.received reply_stays h.awaiting.request s a.2.used a.0
            again.settings e a.2.is.head a.2.received reader is);
        allowed = rw last (new_allowed (rules_with gives chain) request again.settings e entry
            filtered);
        kept = rw last (entry.written ∙ sym h.awaiting.unwritten.sent
            ∙ sym (ap (λ (r : Outgoing). r.sent) reply_stays));
        extends = rw (h.alone, last) (record {
          keep_off = ap (λ (s : Settings). s.keep_off) entry.began
              ∙ keeps_off shutdown mid.settings;
          dated = rw entry.sent_head tt;
          refused = rw entry.body_error tt;
        });
        begins_with = rw (h.alone, last, entry.began)
            (settings_alike, keeps_time shutdown mid.settings);
        begins_in = kept;
        reads_not_ready = rw (h.alone, last) (few result);
        body = rw (h.alone, last) (body_begun now x.session.body.since.read
            mid.body.since.read e (read_noted state now x.session mid x.transcript.last
            (Ready (Ok (read.Head n))) h) entry.body_error);
        timely = rw last timely;
        outcome = rw last cause;
      } where
        few : (result : Outcome)
            → FewReadsNotReady (state x.session.link) (state mid.link) [] (e ∷ []) result
        few outcome.Done = let unread = h.reads.answer.3 in omega (arith, unread)
        few (outcome.Waits what) = let unread = h.reads.answer.3 in omega (arith, unread)
        few (outcome.Ends reason) = let unread = h.reads.answer.3 in omega (arith, unread)

  started : (new : SessionView L C) (modules : List M) (e : Entry) (job : J)
      → transcript.last ≡ Some e → StartedWith begins runs chain again new modules e job
      → SteppedWith state pends gives runs chain now shutdown modules x
      (behind new (stage.Answer job)) outcome.Done
  started new modules e job last s =
      let entry = s.begun.entry in
      rw s.begun.session (record {
        stepped = begins_stepped (stage.Answer job) outcome.Done s.request e s.head last s.begun.is
            entry (rw (s.filtered, entry.head, s.behind) refl) tt
            (inl (rw at (
              begun_sound runs x.session mid again.settings e h.reads.bytes s.request n s.head job
                  h.awaiting reply_stays (begins_request s.request s.begun.is) entry s.filtered
                  s.running (ap (λ s. s.read_limit) h.reads.rest ∙ h.awaiting.read_limit),
              lit< tt,
              less_ahead x.session.budget mid.budget h.reads.left job h.reads.received.within
                  h.reads.budget,
            )));
        stand = rw (last, entry.sent_body, entry.sent_head, s.filtered, entry.head) s.behind;
      }) where
        begins_request : (request : Request) → mid.request ≡ Some request
            → BeginsRequest x.session mid h.reads.bytes request n
        begins_request request asked =
            let a = h.reads.answer in
            subst (λ r. BeginsRequest x.session mid h.reads.bytes r n)
            (same_Some a.0 request (sym a.1 ∙ asked)) a.2

  unstarted : (new : SessionView L C) (e : Entry) (error : Error) → transcript.last ≡ Some e
      → NotStarted chain again new e error
      → Stepped state pends (rules_with gives chain) runs now shutdown x (behind new stage.Head)
      (outcome.Ends (end.Failed error))
  unstarted new e error last s =
      let why = not_started chain again new e error s in
      let behind_it = with_filtered again s.request s.head in
      rw s.begun.session (begins_stepped stage.Head (outcome.Ends (end.Failed error)) s.request e
      s.head last s.begun.is s.begun.entry (rw s.filtered tt)
      (rw at (fails_anyhow {J = J} state now stage.Head stage.Head x.session behind_it
      x.transcript.last (Some e)
      (received_moves behind_it refl refl refl) (omega arith) error
      (never_late (filters_of chain) e error why)))
      (none_ends state pends runs (filters_of chain) x.session behind_it e error x.stage stage.Head
      why (ap (λ (r : Outgoing). r.owed) reply_stays ∙ h.awaiting.unwritten.owed)
      s.begun.entry.sent_body))

  -- there is no memory for an exchange
  unbegun : (new : SessionView L C) (error : Error) → NotBegun again new transcript.last error
      → Stepped state pends (rules_with gives chain) runs now shutdown x (behind new stage.Head)
      (outcome.Ends (end.Failed error))
  unbegun new error s =
      let a = h.reads.answer in
      let unread : (state mid.link).read_waits ≡ (state x.session.link).read_waits = a.3 in
      rw (s.session, s.memory) (record {
        moves = received_moves again refl refl refl;
        accounted = λ before done. rw (h.alone, s.none) (λ s.
            accounted_headed state x.session again h.reads.bytes (allowance x.session.budget)
            h.reads.left before done h.reads.received reply_stays h.awaiting.request s a.2.used a.0
            a.2.is.head a.2.is.wishes a.2.received a.1);
        allowed = rw s.none tt;
        kept = rw s.none tt;
        extends = rw (h.alone, s.none) tt;
        begins_with = rw (h.alone, s.none) settings_alike;
        begins_in = kept;
        reads_not_ready = rw (h.alone, s.none) (omega (arith, unread));
        body = rw (h.alone, s.none) (body_none now x.session.body.since.read mid.body.since.read
            (read_noted state now x.session mid x.transcript.last (Ready (Ok (read.Head n))) h));
        timely = rw at (fails_anyhow {J = J} state now stage.Head stage.Head x.session again
            x.transcript.last transcript.last (received_moves again refl refl refl) (omega arith) no_memory refl);
        outcome = inl (λ before done s. memory_ends before (state x.session.link) (state mid.link)
            done transcript.last (end.Failed no_memory) refl);
      })

  -- the exchange begins and its application is started; or a filter refuses, or there is no memory
  pub begun_stepped : (new : SessionView L C) (modules : List M) (to : Stage J) (result : Outcome)
      → BegunAs begins runs chain again new modules transcript.last to result
      → SteppedWith state pends gives runs chain now shutdown modules x (behind new to) result
  begun_stepped new modules to result begun = by begun.0 begun.1 begun.2 where
    by : (answer : Result J Error)
        → StartedAs begins runs chain again new modules transcript.last answer
        → StandsBegun answer to result
        → SteppedWith state pends gives runs chain now shutdown modules x (behind new to) result
    by (Ok job) s stands = rw (stands.0, stands.1) (started new modules s.0 job s.1 s.2)
    by (Err error) (inl s) stands =
        rw (stands.0, stands.1) (record { stepped = unbegun new error s; stand = tt })
    by (Err error) (inr s) stands =
        rw (stands.0, stands.1) (record { stepped = unstarted new s.0 error s.1 s.2; stand = tt })
