-- The steps that write the header of a reply, whole.
use Rattle.std.proofs.Common.{◌⊎◌, inl, inr, Bool, Err, IfNone, IfSome, IsSome, List, None, Ok, Option, Result, Some, [], ap, arith, false, refl, sym, true, ℕ, ◌||◌, ◌∙◌, ◌≡◌, ◌≤◌}
use Rattle.std.proofs.lemmas.Bool.{false≢true}
use Rattle.std.proofs.lemmas.Option.{none-some, same_Some}
use Rattle.h1_app.specs.Words.{Entry, Error, ErrorType, Exchange, FailureCause, Given, HeaderAnswer, HeaderCall, HeaderWrite, IsAllowed, IsLawful, LawfulRules, LinkState, Outcome, Outgoing, Poll, Pending, Ready, Reply, Request, RequestView, ResponseView, Rules, SessionView, WritesHeader, given_to, is_passed_over, no_memory}
use Rattle.h1_application.specs.Application.{Runs}
use Rattle.h1_error.specs.declared.head_fault.HeadFault.TheVariants.{UnsupportedVersion}
use Rattle.h1_head.specs.Versions.{is_http_1, is_http_10, is_http_11}
use Rattle.h1_modules.specs.Filters.{run}
use Rattle.h1_modules.specs.Outcome.{ErrsBy, Outcome as Made, refused_by}
use Rattle.h1_server.specs.HeaderWrites.{HeaderRefusal}
use Rattle.h1_transcript.specs.Refusals.{IsReplyRefusedBy}
use Rattle.h1_transfer.specs.Deadline.{is_timeout}
use Rattle.http.specs.declared.version.Http.{Http}
use Rattle.http.specs.declared.version.Http.TheVariants.{Http10, Http11}
use Rattle.http.specs.declared.version.Version.{Version}
use Rattle.h1_app.proofs.CallSteps.{AnswersCall, call_stepped, goes_on_stepped}
use Rattle.h1_app.proofs.FilterLemmas.{behind_asked}
use Rattle.h1_app.proofs.HeaderTaken.{headed_noted, header_ahead, header_allowed, header_begins, header_part, taken_up, taking_header}
use Rattle.h1_app.proofs.PartLemmas.{Part, part_replied, replying}
use Rattle.h1_app.proofs.PieceTimes.{header_in_time}
use Rattle.h1_app.proofs.RefusedSteps.{erred_by, refused_stepped}
use Rattle.h1_app.proofs.ReplyLemmas.{at_none, at_some}
use Rattle.h1_app.proofs.StepLemmas.{AllowedReady, allowed_ready, unchanged_stepped}
use Rattle.h1_app.proofs.TimelyLemmas.{fails_anyhow}
use Rattle.h1_app.proofs.Words.{Chain, FilterReady, ModulesStand, NotesHeader, SoundStage, StandsAfter, Stepped, SteppedWith, behind_header, filters_of, is_empty, outcome_end, rules_with}
use Rattle.h1_app.specs.declared.exchange.Stage.TheVariants as at
use Rattle.h1_error.specs.declared.error.ErrorType.TheVariants as kind
use Rattle.h1_error.specs.declared.progress.End.TheVariants as end
use Rattle.h1_app.specs.declared.exchange.Outcome.TheVariants as outcome
use Rattle.h1_transfer.specs.declared.outgoing.Step.TheVariants as step

header_answered : (before now : LinkState) (new : Outgoing) (left : ℕ)
    (answer : Poll (Result (Unit {0}) Error))
    → HeaderAnswer before now new left answer
    → AnswersCall before now new step.Head left false answer
header_answered before now new left Pending told = told.0
header_answered before now new left (Ready (Ok done)) told = told.0
header_answered before now new left (Ready (Err error)) told = (inl told.0, told.1)

-- nothing is handed in, and nothing back
none_back : {L C : Type 0} (state : L → LinkState) (old new : SessionView L C) (request : Request)
    (kept : Option ResponseView) (now : ℕ) (answer : Poll (Result (Unit {0}) Error))
    → HeaderWrite state old new request None kept now answer
    → WritesHeader state old new request None now answer
none_back state old new request None now answer w = w
none_back state old new request (Some header) now answer w = absurd (none-some header w.back)

-- a lawful reply has a version that may be written
one_is_written : (version : Version) → (is_http_10 version || is_http_11 version) ≡ true
    → is_http_1 version ≡ true
one_is_written version one = by_name version.0 refl one
  where
    by_name : (name : Http) → version.0 ≡ name
        → (is_http_10 version || is_http_11 version) ≡ true → is_http_1 version ≡ true
    by_name Http10 is one = rw is refl
    by_name Http11 is one = rw is refl
    by_name _ is one = absurd (false≢true (rw is at one))

-- a lawful header is handed back only where there is no memory
back_cause : (header : ResponseView) (before old now : LinkState) (done : List Entry)
    (last : Option Entry) (error : Error) (k : ErrorType)
    → IsLawful header → HeaderRefusal header k → FailureCause before old now done last error k
back_cause header before old now done last error (kind.InvalidHTTPHeader UnsupportedVersion) lawful
    refused =
    absurd (false≢true (sym refused ∙ one_is_written header.version lawful.version))
back_cause header before old now done last error kind.NoMemory lawful refused = tt
back_cause header before old now done last error _ lawful refused = absurd refused

-- and it tells of no time
back_untimed : (header : ResponseView) (k : ErrorType) → HeaderRefusal header k
    → is_timeout k ≡ false
back_untimed header (kind.InvalidHTTPHeader fault) refused = refl
back_untimed header kind.NoMemory refused = refl
back_untimed header _ refused = absurd refused

module _ {L C J : Type 0} (state : L → LinkState) (pends : J → ℕ) (rules : Rules)
    (runs : Runs J) (now : ℕ) (shutdown : Bool)
    (x y : Exchange L J C) (result : Outcome) (ready : AllowedReady rules runs now x) where
  -- the header goes on
  pub header_stepped : (kept : Option ResponseView) (answer : Poll (Result (Unit {0}) Error))
      (written : ℕ) (h : SoundStage runs x.session x.transcript.last at.Header)
      → x.stage ≡ at.Header
      → IfSome x.transcript.last
      (λ e. y.transcript.last ≡ Some (record e { written = written }))
      → IfNone x.session.reply.refused (IfSome x.session.request
      (λ request. HeaderCall state x.session y.session request None kept now answer false))
      → written ≡ y.session.reply.sent
      → StandsAfter answer at.Header at.TakeBody x.stage y.stage result
      → Stepped state pends rules runs now shutdown x y result
  header_stepped kept answer written h stage is call count stands =
      let e : Entry = h.0 in
      let f : Entry = record e { written = written } in
      let made : HeaderWrite state x.session y.session h.2 None kept now answer =
      at_some (λ request. HeaderCall state x.session y.session request None kept now answer false)
      x.session.request h.2 h.5.asked.is (at_none _ x.session.reply.refused h.6.refused call) in
      let w = none_back state x.session y.session h.2 kept now answer made in
      let begun = w.takes.1.writer ∙ h.8 in
      let same = w.takes.1 in
      let unwaited = same.write_since ∙ h.10 in
      goes_on_stepped state pends rules runs now shutdown x y result ready e h.1 false h.2 h.3 h.4
      w.taking w.left written step.Head answer at.Header at.TakeBody stage (omega arith)
      (omega arith) (rw h.1 at is) count h.5 h.6 w.writes
      (w.takes.0, record { headed = same.headed; writer = same.writer; handed = same.handed })
      (λ never. absurd (false≢true never))
      (header_answered (state x.session.link) (state y.session.link) y.session.reply w.left answer
      w.answer)
      (λ r headed at_step. (f, refl, h.2, h.3, h.4, r, headed, h.7, begun, at_step, unwaited))
      (λ r headed done. (
        f,
        refl,
        h.2,
        h.3,
        h.4,
        r,
        headed,
        h.7,
        begun,
        done.free,
        done.owed,
        unwaited,
      ))
      stands
      (λ moves. header_in_time state now x.stage y.stage x.session y.session x.transcript.last f
      w.left answer result moves (rw stage (omega arith)) w.answer stands)

  -- what the filters made of the header is taken up, or it is handed back
  taken_header_stepped : (sent : ResponseView) (kept : Option ResponseView)
      (answer : Poll (Result (Unit {0}) Error)) (keep : Bool) (written : ℕ) (f : Entry)
      (h : SoundStage runs x.session x.transcript.last at.TakeHeader)
      → x.stage ≡ at.TakeHeader → rules.filters.header h.0.head h.3 ≡ Ok sent → IsLawful sent
      → NotesHeader kept sent now keep written h.0 f
      → y.transcript.last ≡ Some f
      → HeaderWrite state x.session y.session h.2 (Some sent) kept now answer
      → keep ≡ y.session.keep → written ≡ y.session.reply.sent
      → StandsAfter answer at.Header at.TakeBody x.stage y.stage result
      → Stepped state pends rules runs now shutdown x y result
  taken_header_stepped sent (Some back) answer keep written f h stage made lawful notes is w keeps
      count stands =
      let ends = rw w.answer at stands in
      let back_is : sent ≡ back = same_Some sent back w.back in
      unchanged_stepped state pends rules runs now shutdown x y h.0 result ready h.1
      (is ∙ ap Some notes) w.same
      (λ moves. rw (ends.0, ends.1) (fails_anyhow state now x.stage x.stage x.session y.session
      x.transcript.last (Some h.0) moves (omega arith) w.error (back_untimed back w.error.kind w.cause)))
      (rw ends.1 (λ before done s. (
        w.retry,
        back_cause sent before (state x.session.link) (state y.session.link) done (Some h.0) w.error
            w.error.kind lawful (rw (sym back_is) at w.cause),
      )))
  taken_header_stepped sent None answer keep written f h stage made lawful notes is w keeps count
      stands =
      let text : List ℕ = f.date_text in
      let made_of : Reply = record { header = sent; body = h.3.body } in
      let p : Part = taken_up h.0 sent now text y.session in
      let g : Entry = replying h.0 p in
      let f_is : f ≡ g = rw (keeps, count) at notes.1 in
      let part = header_part state now x.session y.session h.0 h.2 h.3 made_of answer text h.4 w
      notes.0 h.6 h.7 in
      let r = part_replied state now x.session y.session w.taking w.left h.0 p h.2 h.3 part h.4 in
      let begun = header_begins state now x.session y.session h.0 h.2 h.3 made_of answer text h.4
      w in
      let noted = headed_noted state now x.session y.session h.0 h.2 h.3 made_of answer text h.4
      w in
      let unwaited = w.takes.write_since ∙ h.5.write_since in
      call_stepped state pends rules runs now shutdown x y result ready h.0 h.1 false p w.taking
      w.left step.Head answer at.Header at.TakeBody part (is ∙ ap Some f_is) refl
      (header_allowed state now x.session y.session h.0 h.2 h.3 made_of answer text h.4 w rules
      notes.0 ready.moment (at_some (IsAllowed rules) x.transcript.last h.0 h.1 ready.allowed) made
      lawful)
      (λ never. absurd (false≢true never))
      (header_answered (state x.session.link) (state y.session.link) y.session.reply w.left answer
      w.answer)
      (λ refused at_step.
      (g, refl, h.2, h.3, made_of, r, noted refused, h.7, begun, at_step, unwaited))
      (λ done. (
        (
          g,
          refl,
          h.2,
          h.3,
          made_of,
          r,
          noted done.refused,
          h.7,
          begun,
          done.free,
          done.owed,
          unwaited,
        ),
        rw stage (omega arith),
        header_ahead state now x.session y.session h.0 h.2 h.3 made_of answer text h.4 w x.stage
            ready.budget done.owed stage,
      ))
      stands
      (λ moves. header_in_time state now x.stage y.stage x.session y.session x.transcript.last g
      w.left answer result moves (rw stage (omega arith)) w.answer stands)

-- what holds where the connection goes on holds at an end too
if_none : {A : Type 0} (o : Option A) (P : Type 0) → P → IfNone o P
if_none None P h = h
if_none (Some end) P h = tt

-- without modules the reply's own header goes out
pub own_made : {M : Type 0} (filter : Bool → M → ResponseView → Made M ResponseView ℕ)
    (modules : List M) (reply : Option Reply) (header : ResponseView)
    → modules ≡ [] → IfSome reply (λ reply. header ≡ reply.header)
    → IfSome reply (λ reply. run (filter (is_empty reply.body)) modules reply.header
    ≡ Ok (modules, header))
own_made filter modules None header none is = tt
own_made filter modules (Some reply) header none is = rw (none, is) refl

-- and is noted
pub own_noted : (P : ResponseView → Type 0) (reply : Option Reply) (header : ResponseView)
    → IsSome reply → IfSome reply (λ reply. header ≡ reply.header)
    → IfSome reply (λ reply. P reply.header) → P header
own_noted P (Some reply) header some is noted = rw is noted
own_noted P None header some is noted = absurd (false≢true some)

-- the modules made this header of the reply's, and stand so behind it
abbrev pub Makes : {M : Type 0} → Chain M → List M → List M → Option Entry → ResponseView → Type 0
Makes chain modules after last sent = IfSome last (λ e. IfSome e.reply (λ reply.
    chain.header (is_empty reply.body) modules reply.header ≡ Ok (after, sent)))

module _ {L C J M : Type 0} (gives : Given → Reply → Type 0)
    (runs : Runs J) (chain : Chain M) (now : ℕ)
    (modules after : List M) (x : Exchange L J C)
    (ready : FilterReady gives runs chain now modules x)
    (h : SoundStage runs x.session x.transcript.last at.TakeHeader) where
  allowed_now : AllowedReady (rules_with gives chain) runs now x
  allowed_now = allowed_ready (rules_with gives chain) runs now x ready.ready ready.allowed

  -- the header goes through the modules as they stand
  behind : behind_header chain h.0.head h.3
      ≡ chain.header (is_empty h.3.body) modules h.3.header
  behind = behind_asked chain h.0 modules h.2.header h.3 (rw h.1 at ready.stand) h.4.asked.filtered
      h.6 h.7

  is_made : (sent : ResponseView) → Makes chain modules after x.transcript.last sent
      → behind_header chain h.0.head h.3 ≡ Ok (after, sent)
  is_made sent makes = behind
      ∙ at_some (λ reply. chain.header (is_empty reply.body) modules reply.header
      ≡ Ok (after, sent)) h.0.reply h.3 h.4.is (rw h.1 at makes)

  made_lawful : (sent : ResponseView) → LawfulRules (rules_with gives chain)
      → Makes chain modules after x.transcript.last sent → IsLawful sent
  made_lawful sent laws makes =
      let allowed =
      at_some (IsAllowed (rules_with gives chain)) x.transcript.last h.0 h.1 ready.allowed in
      let given = at_some (λ reply. (filtered : RequestView) × (h.0.filtered ≡ Some filtered)
      × gives (given_to h.0 filtered) reply) h.0.reply h.3 h.4.is allowed.reply in
      laws (given_to h.0 given.0) h.3 given.2 h.0.head sent (rw (is_made sent makes) refl)

  -- what they made is a final header
  pub made_final : (sent : ResponseView) → LawfulRules (rules_with gives chain)
      → Makes chain modules after x.transcript.last sent → 200 ≤ sent.status
  made_final sent laws makes = (made_lawful sent laws makes).final

  -- it is taken up, and the modules stand behind it
  pub filtered_header_stepped : (state : L → LinkState) (pends : J → ℕ) (shutdown : Bool)
      (y : Exchange L J C) (result : Outcome) (sent : ResponseView) (kept : Option ResponseView)
      (answer : Poll (Result (Unit {0}) Error)) (keep : Bool) (written : ℕ) (f : Entry)
      → x.stage ≡ at.TakeHeader → LawfulRules (rules_with gives chain)
      → Makes chain modules after x.transcript.last sent
      → IfSome x.transcript.last (λ e. NotesHeader kept sent now keep written e f)
      → y.transcript.last ≡ Some f
      → IfNone x.session.reply.refused (IfSome x.session.request
      (λ request. HeaderCall state x.session y.session request (Some sent) kept now answer
      (is_passed_over (Some sent) x.session.reply.headed)))
      → keep ≡ y.session.keep → written ≡ y.session.reply.sent
      → StandsAfter answer at.Header at.TakeBody x.stage y.stage result
      → SteppedWith state pends gives runs chain now shutdown after x y result
  filtered_header_stepped state pends shutdown y result sent kept answer keep written f stage laws
      makes notes is call keeps count stands =
      record {
        stepped = taken_header_stepped state pends (rules_with gives chain) runs now shutdown x y
            result allowed_now sent kept answer keep written f h stage
            (rw (is_made sent makes) refl) (made_lawful sent laws makes) noted is write keeps count
            stands;
        stand = by_kept kept write noted;
      }
    where
      noted : NotesHeader kept sent now keep written h.0 f
      noted = rw h.1 at notes

      write : HeaderWrite state x.session y.session h.2 (Some sent) kept now answer
      write = taking_header state x.session y.session h.2 sent kept now answer h.4.asked.is h.5 call

      by_kept : (kept : Option ResponseView)
          → HeaderWrite state x.session y.session h.2 (Some sent) kept now answer
          → NotesHeader kept sent now keep written h.0 f
          → IfNone (outcome_end result) (ModulesStand chain y.transcript.last after)
      by_kept (Some back) w noted = rw (rw w.answer at stands).1 tt
      by_kept None w noted =
          if_none (outcome_end result) (ModulesStand chain y.transcript.last after)
          (rw (is, noted.1, h.7, h.4.is) (is_made sent makes))

  -- a filter refuses the header, or there is no memory
  pub refused_header_stepped : (state : L → LinkState) (pends : J → ℕ) (shutdown : Bool)
      (y : Exchange L J C) (result : Outcome) (error : Error)
      → IfSome x.transcript.last (λ e. IfSome e.reply (λ reply. ErrsBy refused_by
      (chain.header (is_empty reply.body) modules reply.header) error))
      → y.transcript.last ≡ x.transcript.last → y.session ≡ x.session → y.stage ≡ x.stage
      → result ≡ outcome.Ends (end.Failed error)
      → SteppedWith state pends gives runs chain now shutdown after x y result
  refused_header_stepped state pends shutdown y result error told same session stage ends = record {
    stepped = refused_stepped state pends (rules_with gives chain) runs now shutdown x y result
        allowed_now h.0 h.1 (same ∙ h.1) session stage h.3 h.4.is h.7
        (ap (λ (s : SessionView L C). s.reply.owed) session ∙ h.5.owed) error ends
        (refusal (erred_by (chain.header (is_empty h.3.body) modules h.3.header) error
        (at_some (λ reply. ErrsBy refused_by
        (chain.header (is_empty reply.body) modules reply.header) error) h.0.reply h.3 h.4.is
        (rw h.1 at told))));
    stand = rw ends tt;
  } where
    refusal : ((n : ℕ) × (chain.header (is_empty h.3.body) modules h.3.header ≡ Err n)
        × (error ≡ refused_by n)) ⊎ (error ≡ no_memory)
        → ((n : ℕ) × IsReplyRefusedBy (filters_of chain) h.0 h.3 n × (error ≡ refused_by n))
        ⊎ (error ≡ no_memory)
    refusal (inl refused) =
        inl (refused.0, inl (h.6, rw (behind ∙ refused.1) refl), refused.2)
    refusal (inr memory) = inr memory
