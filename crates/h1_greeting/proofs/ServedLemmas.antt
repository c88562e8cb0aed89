-- What holds of a connection that is served, from poll to poll.
use Rattle.std.proofs.Common.{◌≡◌, ℕ, ◌+◌, ◌<◌, ◌≤◌, ◌⊎◌, inl, inr, List, [], ◌++◌, length, false, Option, Some, None, is_some, IsSome, unwrap_or, refl, sym, ◌∙◌, ap, subst, arith}
use Rattle.std.proofs.lemmas.Bool.{cases_lt, false≢true}
use Rattle.h1_error.specs.declared.progress.End.{End}
use Rattle.h1_error.specs.declared.progress.Progress.{Progress}
use Rattle.h1_error.specs.declared.progress.Progress.TheVariants.{Ready, Pending}
use Rattle.h1_error.specs.declared.progress.Waiting.TheVariants as waiting
use Rattle.h1_link.specs.LinkState.{LinkState}
use Rattle.h1_link.specs.declared.memory.gate.Gate.{Gate}
use Rattle.h1_link.specs.declared.memory.gate.Gate.TheVariants.{Open, Room, Blocked}
use Rattle.h1_link.specs.Gate.{IsClosed, gate_from}
use Rattle.h1_link.specs.MemPlan.{SamePlan}
use Rattle.h1_link.specs.MemRule.{Rule}
use Rattle.h1_link.specs.MemState.{MemState, new_mem_state}
use Rattle.h1_transcript.specs.Agrees.{Agrees}
use Rattle.h1_transcript.specs.Rules.{Filters, Rules}
use Rattle.h1_app.specs.Causes.{Cause, PendedNew, PendedOn, PendedBy}
use Rattle.h1_app.specs.Accounted.{Accounted}
use Rattle.h1_app.specs.View.{View, entries, terms_of, IsNewConnection}
use Rattle.h1_app.specs.declared.options.HttpServerOptions.{HttpServerOptions}
use Rattle.h1_transcript.specs.Entry.{Entry}
use Rattle.h1_app.specs.declared.exchange.Stage.{Stage}
use Rattle.h1_app.specs.declared.exchange.Stage.TheVariants as stage
use Rattle.h1_greeting.specs.Polled.{Polled}

-- the link ends after what is ahead, and takes all: neither was set since a call waited
pub record NeverWaits (link : MemState) : Type 0 where
  pub end_at : IsSome link.end_at
  pub gate : link.gate ≡ Open
  pub reads : link.reads_noted ≡ 0
  pub writes : link.writes_noted ≡ 0

-- it is this server's, its link was given these bytes and never waits, the transcript agrees with the
-- link since it was new, and so many polls were made
pub record IsServed {C A J : Type 0} (rules : A → Rules) (server : A) (given : List ℕ) (polls : ℕ)
    (served : View MemState C A J) : Type 0 where
  pub same : served.served ≡ server
  pub put : served.session.link.put ≡ given
  pub ready : NeverWaits served.session.link
  pub terms : served.terms ≡ terms_of None false
  pub accounted : Accounted (λ link. link.state) new_mem_state.state served.session served.done
      served.last
  pub agrees : Agrees (rules server) (terms_of None false) new_mem_state.state served.session.link.state
      (entries served)
  pub polled : Polled polls served.end served.session.link.state

pub unended : (end : Option End) → is_some end ≡ false → end ≡ None
unended None over = refl
unended (Some end) over = cc

gate_open : (old new : Gate) (a b : ℕ) → old ≡ Open → gate_from new b ≡ gate_from old a → new ≡ Open
gate_open old Open a b is same = refl
gate_open old (Room left) a b is same = let clash : Room (b + left) ≡ Open = same ∙ ap (λ g. gate_from g a) is in cc
gate_open old Blocked a b is same = let clash : Blocked ≡ Open = same ∙ ap (λ g. gate_from g a) is in cc

-- what was set stays so
pub ready_on : (old new : MemState) → SamePlan old new → NeverWaits old → NeverWaits new
ready_on old new plan ready = record {
  end_at = rw plan.end_at ready.end_at;
  gate = gate_open old.gate new.gate old.state.bytes_out new.state.bytes_out ready.gate plan.gate;
  reads = plan.reads_noted ∙ ready.reads;
  writes = plan.writes_noted ∙ ready.writes;
}

ended_or_not : (end : Option ℕ) → IsSome end → end ≡ None → ⊥
ended_or_not (Some at) some is = cc
ended_or_not None some is = absurd (false≢true some)

-- so no read and no write of it was not ready
no_reads : (link : MemState) → NeverWaits link → Rule link → link.state.read_waits ≡ 0
no_reads link ready rule = by (cases_lt 0 link.state.read_waits) where
  by : (0 < link.state.read_waits) ⊎ (link.state.read_waits ≤ 0) → link.state.read_waits ≡ 0
  by (inl some) =
      let waited = rule.waits (omega (arith, some, ready.reads)) in
      absurd (ended_or_not link.end_at ready.end_at waited.1)
  by (inr none) = omega (arith, none)

no_writes : (link : MemState) → NeverWaits link → Rule link → link.state.write_waits ≡ 0
no_writes link ready rule = by (cases_lt 0 link.state.write_waits) where
  by : (0 < link.state.write_waits) ⊎ (link.state.write_waits ≤ 0) → link.state.write_waits ≡ 0
  by (inl some) =
      let closed = rule.stalls (omega (arith, some, ready.writes)) in
      absurd (subst IsClosed ready.gate closed)
  by (inr none) = omega (arith, none)

-- an application whose count never rises is not waited for
no_job : {J : Type 0} (to : Stage J) → PendedNew (λ _. Unit {0}) (λ _. 0) to → ⊥
no_job (stage.Answer job) h = absurd (omega (arith, h.2))
no_job _ h = h

no_wait : {J : Type 0} (from to : Stage J) → PendedOn (λ _. Unit {0}) (λ _. 0) from to → ⊥
no_wait (stage.Answer before) (stage.Answer job) h = absurd (omega (arith, h))
no_wait stage.Head to h = no_job to h
no_wait _ _ h = h

no_pending : {J : Type 0} (from to : List Entry) (before now : Stage J)
    → PendedBy (λ _. Unit {0}) (λ _. 0) from to before now → ⊥
no_pending from to before now h = by (cases_lt (length from) (length to)) where
  by : (length from < length to) ⊎ (length to ≤ length from) → ⊥
  by (inl more) = no_job now (h.later more)
  by (inr no_more) = no_wait before now (h.same (omega (arith, no_more, h.longer)))

-- each poll that isn't the last moves bytes in 64 calls
polled_on : {C A J : Type 0} (filters : Filters) (before : LinkState) (polls : ℕ)
    (from to : View MemState C A J) (answer : Progress)
    → polls < 1000 → from.end ≡ None → Polled polls from.end from.session.link.state
    → to.session.link.state.read_waits ≡ 0 → to.session.link.state.write_waits ≡ 0
    → Cause filters (λ (link : MemState). link.state) (λ _. Unit {0}) (λ _. 0) before from to answer
    → Polled (polls + 1) to.end to.session.link.state
polled_on filters before polls from to (Ready reason) small on was reads writes cause = rw cause.0 tt
polled_on filters before polls from to (Pending waiting.Budget) small on was reads writes cause =
    rw cause.0 (let so = rw on at was in let rose = cause.1.0 in omega (arith, so, rose, small))
polled_on filters before polls from to (Pending waiting.Read) small on was reads writes cause =
    let rose = cause.1.0 in absurd (omega (arith, rose, reads))
polled_on filters before polls from to (Pending waiting.Write) small on was reads writes cause =
    let rose = cause.1.0 in absurd (omega (arith, rose, writes))
polled_on filters before polls from to (Pending waiting.App) small on was reads writes cause =
    absurd (no_pending from.done to.done from.stage to.stage cause.1.1)

-- the link before its first call
pub fed_link : (fresh fed ended : MemState) (given : List ℕ) → fresh ≡ new_mem_state
    → fed ≡ record fresh { put = fresh.put ++ given; reads_noted = fresh.state.read_waits }
    → ended ≡ record fed {
      end_at = Some (unwrap_or fed.end_at (length fed.put));
      reads_noted = fed.state.read_waits;
    }
    → ended ≡ record new_mem_state { put = given; end_at = Some (length given) }
fed_link fresh fed ended given new made said =
    said ∙ ap
    (λ (l : MemState). record l {
      end_at = Some (unwrap_or l.end_at (length l.put));
      reads_noted = l.state.read_waits;
    })
    (made ∙ ap
    (λ (l : MemState). record l { put = l.put ++ given; reads_noted = l.state.read_waits }) new)

-- no exchange was begun, and nothing was read or written
agrees_none : (rules : Rules)
    → Agrees rules (terms_of None false) new_mem_state.state new_mem_state.state []
agrees_none rules = record {
  read = ([], refl, ([], tt, tt));
  allowed = tt;
  begun = tt;
  written = ([], refl, refl);
  done = tt;
}

-- before the first poll
pub served_none : {C A J : Type 0} (rules : A → Rules) (server started : A) (given : List ℕ)
    (options : Option HttpServerOptions) (link : MemState) (made : View MemState C A J)
    → started ≡ server → options ≡ None
    → link ≡ record new_mem_state { put = given; end_at = Some (length given) }
    → IsNewConnection started options false link made
    → Accounted (λ (link : MemState). link.state) link.state made.session made.done made.last
    → IsServed rules server given 0 made
served_none rules server started given options link made starts unset fed new accounted =
    let linked : made.session.link
    ≡ record new_mem_state { put = given; end_at = Some (length given) } = new.link ∙ fed in
    record {
      same = new.served ∙ starts;
      put = ap (λ (l : MemState). l.put) linked;
      ready = subst NeverWaits (sym linked)
          (record { end_at = refl; gate = refl; reads = refl; writes = refl });
      terms = new.terms ∙ ap (λ options. terms_of options false) unset;
      accounted = subst (λ s. Accounted (λ (link : MemState). link.state) s made.session made.done
          made.last) (ap (λ (l : MemState). l.state) fed) accounted;
      agrees = rw (new.done, new.last, linked) (agrees_none (rules server));
      polled = rw (new.end) (omega arith);
    }

-- what held before a poll holds after it
pub served_on : {C A J : Type 0} (rules : A → Rules) (server : A) (given : List ℕ) (polls : ℕ)
    (from to : View MemState C A J) (answer : Progress)
    → IsServed rules server given polls from → polls < 1000 → from.end ≡ None
    → (to.served ≡ from.served) × (to.terms ≡ from.terms)
    → SamePlan from.session.link to.session.link → Rule to.session.link
    → Accounted (λ link. link.state) new_mem_state.state to.session to.done to.last
    → Agrees (rules to.served) to.terms new_mem_state.state to.session.link.state (entries to)
    → Cause (rules to.served).filters (λ (link : MemState). link.state) (λ _. Unit {0}) (λ _. 0)
    new_mem_state.state from to answer
    → IsServed rules server given (polls + 1) to
served_on rules server given polls from to answer was small on same plan rule since agrees cause =
    let ready = ready_on from.session.link to.session.link plan was.ready in record {
      same = same.0 ∙ was.same;
      put = plan.put ∙ was.put;
      ready = ready;
      terms = same.1 ∙ was.terms;
      accounted = since;
      agrees =
          subst (λ l. Agrees (rules server) l new_mem_state.state to.session.link.state (entries to))
          (same.1 ∙ was.terms)
          (subst (λ s. Agrees (rules s) to.terms new_mem_state.state to.session.link.state
          (entries to)) (same.0 ∙ was.same) agrees);
      polled =
          polled_on (rules to.served).filters new_mem_state.state polls from to answer small on
          was.polled (no_reads to.session.link ready rule) (no_writes to.session.link ready rule)
          cause;
    }
