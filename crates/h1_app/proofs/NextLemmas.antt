-- What becomes of a connection where its last exchange is over and the next head is awaited.
use Rattle.std.proofs.Common.{◌≡◌, ℕ, ◌+◌, ◌<◌, List, [], ◌∷◌, ◌++◌, length, Bool, true, false, Option, Some, None, refl, sym, ◌∙◌, ap, subst, append-nil, length-append, arith}
use Rattle.std.proofs.lemmas.Bool.{false≢true}
use Rattle.h1_app.specs.Words.{Filters, Terms, Given, Rules, End, LinkState, AwaitsNext, AfterRead, WithinRead, may_follow, one_less, BodyState, SessionView, Settings, Reply, Entry, Exchange, Stage, AreBegun, IfTold, IsNextSet, reuses_at, IsAllowed, Extends}
use Rattle.h1_application.specs.Application.{Runs}
use Rattle.h1_app.specs.declared.exchange.Stage.TheVariants as stage
use Rattle.h1_app.specs.declared.exchange.Outcome.TheVariants as outcome
use Rattle.h1_app.proofs.BodyTimeLemmas.{body_joined}
use Rattle.h1_app.proofs.Words.{Accounted, LastMayGoOn, JoinsNext, ReadSo, Turned, TurnCause, IsDoneIn, IsRestarted, Chain, Sound, SoundStage, SoundWith, rules_with, IsDraining, MayGoOn, IsUnwritten, View, view_of, ahead}
use Rattle.h1_app.specs.Timely.{StepsInTime}
use Rattle.h1_app.proofs.LeavesLemmas.{leaves_itself, never_noted}
use Rattle.h1_app.proofs.ReplyLemmas.{moves_none}
use Rattle.h1_transcript.proofs.AloneLemmas.{within_all}
use Rattle.h1_transcript.proofs.BehindLemmas.{told_map}
use Rattle.h1_transcript.proofs.GrowthLemmas.{extends_itself}
use Rattle.h1_app.proofs.JoinLemmas.{accounted_joined}
use Rattle.h1_app.proofs.TurnLemmas.{all_join, pipelining_last}
use Rattle.h1_transcript.proofs.ServedLemmas.{begun_last}

ended_is : {L C : Type 0} (session : SessionView L C) (e : Entry) → IsDraining e session
    → MayGoOn e session → IsDoneIn session e
ended_is session e d o = record {
  read = o.read;
  unrefused = d.unrefused;
  owed = d.reply_owed;
  nothing = d.nothing;
  written = d.written;
  flushed = d.owed;
  sent_head = rw d.sent_head refl;
  sent_body = rw d.sent_body.1 refl;
  long = d.long;
  keep = o.keep;
  closes = o.closes;
}

restarted_is : {L C : Type 0} (old new : SessionView L C) → AwaitsNext old new → IsRestarted old new
restarted_is old new a = record {
  link = ap (λ s. s.link) a.rest;
  received = ap (λ s. s.received) a.rest;
  request = ap (λ s. s.request) a.rest;
  owed = ap (λ s. s.reply.owed) a.rest;
  sent = ap (λ s. s.reply.sent) a.rest;
}

-- one request fewer may follow each request than the one before
one_fewer : (limit : Option ℕ) (i : ℕ) → one_less (reuses_at limit i) ≡ reuses_at limit (i + 1)
one_fewer None i = refl
one_fewer (Some limit) i = ap (λ (n : ℕ). Some n) (omega arith)

-- what is set for the next exchange is what the last one left, with one request fewer to follow
next_set : {L C : Type 0} (terms : Terms) (old new : SessionView L C) (done : List Entry)
    (e : Entry) → IsDraining e old
    → AwaitsNext old new → e.left.reuses ≡ e.began.reuses → AreBegun terms 0 false (done ++ e ∷ [])
    → IsNextSet terms (done ++ e ∷ []) new.settings
next_set terms old new done e d a reuses begun =
    let settings = ap (λ s. s.settings) a.rest in
    let left : old.settings.reuses ≡ reuses_at terms.limit (0 + length done) =
    ap (λ (s : Settings). s.reuses) (sym d.left) ∙ reuses ∙ begun_last terms 0 false done e begun in
    let more : 0 + length done + 1 ≡ length (done ++ e ∷ []) = omega (arith, length-append done (e ∷ [])) in
    record {
      closing = ap (λ (s : Settings). s.closing) settings;
      pipelining_is = ap (λ (s : Settings). s.pipelining) settings ∙ ap (λ (s : Settings). s.pipelining) (sym d.left)
          ∙ sym (pipelining_last false done e);
      reuses = ap (λ (s : Settings). s.reuses) settings ∙ ap one_less left
          ∙ one_fewer terms.limit (0 + length done) ∙ ap (reuses_at terms.limit) more;
      times = ap (λ (s : Settings). s.times) settings;
    }

-- the next head is awaited, and the connection is sound
sound_joined : {L C J : Type 0} (rules : Rules)
    (runs : Runs J) (terms : Terms)
    (old new : SessionView L C) (done : List Entry) (e : Entry)
    → Sound rules runs terms old done (Some e) stage.Next None
    → IsDraining e old → AwaitsNext old new
    → Sound rules runs terms new (done ++ e ∷ []) None stage.Head None
sound_joined rules runs terms old new done e s d a = record {
  ended = all_join (IsAllowed rules) done e s.ended s.allowed;
  allowed = tt;
  kept = tt;
  begun = subst (λ xs. AreBegun terms 0 false xs) (sym (append-nil (done ++ e ∷ []))) s.begun;
  stage = (
    refl,
    record {
      request = ap (λ s. s.request) a.rest;
      refused = ap (λ s. s.refused) a.rest;
      unwritten = subst IsUnwritten (sym (ap (λ s. s.reply) a.rest))
          (record { owed = refl; free = refl; headed = refl; refused = refl; sent = refl; write_since = refl });
      kept = ap (λ b. b.kept) a.body.rest;
      body_refused = ap (λ b. b.refused) a.body.rest;
      waits = ap (λ b. b.waits) a.body.rest;
      undrained = ap (λ (b : BodyState). b.since.drain) a.body.rest;
      times = ap (λ s. s.settings.times) a.rest;
      read_limit = ap (λ s. s.read_limit) a.rest;
    },
  );
  next = next_set terms old new done e d a s.allowed.reuses s.begun;
}

-- an exchange that left pipelining off was alone
alone_joined : {L C : Type 0} (old new : SessionView L C) (entries : List Entry) (e : Entry)
    (since : List ℕ) → IsDraining e old → MayGoOn e old → IsRestarted old new
    → e.left.pipelining ≡ false → AfterRead entries (λ rest. ReadSo rest new None) since
    → WithinRead since entries
alone_joined old new entries e since d o again off h =
    let nothing = again.received ∙ followed old.settings.pipelining old.received o.alone
    (ap (λ (s : Settings). s.pipelining) (sym d.left) ∙ off) in
    within_all since h.0 entries h.1 ((rw again.request at h.2) ∙ nothing)
  where
    followed : (pipelining : Bool) (received : List ℕ) → may_follow pipelining received ≡ true
        → pipelining ≡ false → received ≡ []
    followed true received may off = absurd (false≢true (sym off))
    followed false [] may off = refl
    followed false (b ∷ received) may off = absurd (false≢true may)

nearer : (old new : Option ℕ) (J : Type 0) → new ≡ old
    → ahead {J = J} new stage.Head < ahead {J = J} old stage.Next
nearer None new J is = rw is (omega arith)
nearer (Some left) new J is = rw is (omega arith)

-- what the step to the next exchange leaves
turned_joined : {L C A J : Type 0} (state : L → LinkState) (same_plan : L → L → Type 0)
    (now : ℕ) (shutdown : Bool) (from : View L C A J)
    (new : SessionView L C) (e : Entry)
    → same_plan from.session.link from.session.link → IsDraining e from.session
    → MayGoOn e from.session → AwaitsNext from.session new → Turned state same_plan now shutdown
    (record from { last = Some e; stage = stage.Next })
    (record from {
      session = new;
      done = from.done ++ e ∷ [];
      last = None;
      stage = stage.Head;
      end = None;
    }) false
turned_joined state same_plan now shutdown from new e plan d o a =
    let again = restarted_is from.session new a in
    let link = ap state again.link in
    let all = from.done ++ e ∷ [] in
    let joined : (since : LinkState) → Accounted state since from.session from.done (Some e)
    → Accounted state since new all None =
    λ since s. accounted_joined state since from.session new from.done e
    (ended_is from.session e d o) again s in
    record {
      gone = record {
        served = refl;
        terms = refl;
        plan = rw again.link plan;
        moves = moves_none state from.session new again.link (ap (λ s. s.budget) a.rest)
            (ap (λ s. s.context) a.rest);
        accounted = joined;
        alone = λ since s. (
          e ∷ [],
          refl,
          (
            λ off. told_map since.given (state from.session.link).given
                (AfterRead all (λ rest. ReadSo rest new None)) (λ xs. WithinRead xs all)
                (λ xs h. alone_joined from.session new all e xs d o again off h)
                (subst (λ at. IfTold since.given at.given
                (AfterRead all (λ rest. ReadSo rest new None))) link (joined since s).read),
            tt,
          ),
        );
        extends = subst (λ xs. Extends now shutdown (state from.session.link) (state new.link)
            all xs) (sym (append-nil all))
            (extends_itself now shutdown (state from.session.link) (state new.link) all);
        longer = omega (arith, length-append from.done (e ∷ []));
        body = body_joined now from.session.body.since.read new.body.since.read e
            (ap (λ (b : BodyState). b.since.read) a.body.rest) d.unrefused;
      };
      reads_not_ready = rw (again.link, append-nil all) (omega arith);
      others = rw again.link (omega (arith, length-append from.done (e ∷ [])));
      leaves = record {
        leaves = rw again.link (leaves_itself (state from.session.link) None);
        noted = λ met. absurd (never_noted e d.unrefused met);
      };
    }

-- the last exchange is over where the next one begins
pub over_next : {L C J : Type 0} (rules : Rules)
    (runs : Runs J) (terms : Terms)
    (session : SessionView L C) (done : List Entry) (last : Option Entry) (at : Stage J)
    → Sound rules runs terms session done last at None → at ≡ stage.Next → LastMayGoOn session last
over_next rules runs terms session done last at sound is = over_at sound.stage where
  over_at : SoundStage runs session last at → LastMayGoOn session last
  over_at h = rw is at h

sound_next : {L C J : Type 0} (rules : Rules)
    (runs : Runs J) (terms : Terms)
    (x y : Exchange L J C)
    → Sound rules runs terms x.session x.transcript.done x.transcript.last x.stage None
    → x.stage ≡ stage.Next → JoinsNext x y
    → Sound rules runs terms y.session y.transcript.done y.transcript.last y.stage None
sound_next rules runs terms x y s is h =
    let over = over_next rules runs terms x.session x.transcript.done x.transcript.last x.stage s is in
    rw (h.done, over.1, h.last, h.stage) (sound_joined rules runs terms x.session y.session
    x.transcript.done over.0 (rw (is, over.1) at s) over.2 h.awaits)

-- where no exchange is last, any modules may stand
pub sound_next_with : {L C J M : Type 0} (gives : Given → Reply → Type 0)
    (runs : Runs J) (chain : Chain M) (terms : Terms)
    (x y : Exchange L J C) (modules : List M) → SoundWith gives runs chain terms x modules None
    → x.stage ≡ stage.Next → JoinsNext x y → SoundWith gives runs chain terms y modules None
sound_next_with gives runs chain terms x y modules s is h = record {
  sound = sound_next (rules_with gives chain) runs terms x y s.sound is h;
  stand = rw h.last tt;
  holding = h.holding ∙ s.holding;
}

-- what the step to the next exchange leaves
pub turned_next : {L C A J : Type 0} (state : L → LinkState) (same_plan : L → L → Type 0)
    (now : ℕ) (shutdown : Bool) (served : A) (terms : Terms)
    (x y : Exchange L J C) (first : Option End)
    → same_plan x.session.link x.session.link → LastMayGoOn x.session x.transcript.last
    → x.stage ≡ stage.Next → JoinsNext x y
    → Turned state same_plan now shutdown (view_of served terms x first) (view_of served terms y None)
    false
turned_next state same_plan now shutdown served terms x y first plan over is h =
    rw (h.done, over.1, h.last, h.stage, is) (turned_joined state same_plan now shutdown
    (view_of served terms x first) y.session over.0 plan over.2 over.3 h.awaits)

-- and why it goes on
pub caused_next : {L C A J : Type 0} (filters : Filters) (state : L → LinkState)
    (begins : J → Type 0) (pends : J → ℕ)
    (served : A) (terms : Terms) (x y : Exchange L J C) (first second : Option End)
    → LastMayGoOn x.session x.transcript.last → x.stage ≡ stage.Next → JoinsNext x y
    → TurnCause filters state begins pends (view_of served terms x first) (view_of served terms y second)
    outcome.Done
caused_next {J = J} filters state begins pends served terms x y first second over is h =
    rw (h.done, over.1, h.stage, is) (
      nearer x.session.budget y.session.budget J (ap (λ s. s.budget) h.awaits.rest),
      (λ same. absurd (omega (arith, same, length-append x.transcript.done (over.0 ∷ [])))),
      tt,
    )

-- behind the step to the next exchange no read waits
pub timely_next : {L C J : Type 0} (state : L → LinkState) (now : ℕ) (x y : Exchange L J C) → JoinsNext x y
    → StepsInTime state now x.stage y.stage x.session y.session x.transcript.last
    y.transcript.last outcome.Done
timely_next state now x y joins = rw joins.stage (ap (λ (b : BodyState). b.since.read) joins.awaits.body.rest)
