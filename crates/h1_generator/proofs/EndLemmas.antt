-- Every end of a connection over bytes that are made is that of one that served them all, or being
-- out of memory.
use Rattle.std.proofs.Common.{◌≡◌, ◌≢◌, ℕ, suc, zero, ◌+◌, ◌<◌, ◌≤◌, ◌^◌, ◌⊎◌, inl, inr, List, [], ◌∷◌, ◌++◌, length, take, drop, true, false, not, option_to_list, Option, Some, None, IfSome, IsSome, refl, sym, ◌∙◌, ap, subst, arith, append-nil}
use Rattle.std.specs.List.{AllByRecursion}
use Rattle.std.proofs.lemmas.Bool.{false≢true}
use Rattle.h1_error.specs.declared.error.Error.{Error}
use Rattle.h1_error.specs.declared.error.ErrorType.{ErrorType}
use Rattle.h1_error.specs.declared.error.ErrorType.TheVariants as kind
use Rattle.h1_error.specs.declared.progress.End.{End}
use Rattle.h1_error.specs.declared.progress.End.TheVariants as end
use Rattle.h1_link.specs.Counts.{Rose}
use Rattle.h1_link.specs.LinkState.{LinkState}
use Rattle.h1_body.specs.Body.{unfinished, broken}
use Rattle.h1_transcript.specs.Rules.{plain}
use Rattle.h1_transcript.specs.declared.reply.Reply.{Reply}
use Rattle.h1_transcript.specs.Entry.{Entry}
use Rattle.h1_transcript.specs.declared.entry.How.{How}
use Rattle.h1_transcript.specs.declared.entry.How.TheVariants.{Open, Whole, Failed}
use Rattle.h1_transcript.specs.Agrees.{Agrees, AreOf}
use Rattle.h1_transcript.specs.declared.history.Holding.{Holding}
use Rattle.h1_transcript.specs.Behind.{ReadBehind, AfterRead, is_until_close}
use Rattle.h1_transcript.specs.Complete.{GaveOf, NoFault, IsInTime, KeepsOn, ServesAll, Fits}
use Rattle.h1_transcript.specs.Ends.{EndCause, FailureCause, StopsLast, LastAfter, LastStands, AreAllDone, OfLast, ReadAll, LastGoesPast}
use Rattle.h1_transcript.specs.Exchange.{IsDated, given_to, is_short}
use Rattle.h1_transcript.specs.Lawful.{IsLawful}
use Rattle.h1_head.specs.Views.{ResponseView}
use Rattle.h1_body.specs.Framing.{out}
use Rattle.h1_body.specs.declared.framing.Framing.TheVariants as as_framing
use Rattle.h1_transcript.specs.Stream.{Message, Begins, Parses, empty, begun}
use Rattle.h1_transcript.specs.Told.{IfTold}
use Rattle.h1_transcript.proofs.CompleteLemmas.{told_of, left_of, not_cut, not_broken, not_past}
use Rattle.h1_transcript.proofs.PlainLemmas.{IsUnfiltered, all_plain}
use Rattle.h1_transcript.proofs.ServedLemmas.{served, held_last}
use Rattle.h1_echo.specs.Echo.{EchoGives, echo_reply}
use Rattle.h1_generator.specs.Generated.{asked, generated}
use Rattle.h1_generator.specs.Kept.{IsKeptOn}
use Rattle.h1_generator.specs.Messages.{messages}
use Rattle.h1_words.specs.declared.words.TheConstants.{MOST_GENERATED}
use Rattle.h1_generator.proofs.AskedLemmas.{IsAskedBy, AreAskedFrom, asked_for, all_fit}
use Rattle.h1_generator.proofs.EchoLemmas.{IsPlainHead, plain_head, pipelines, out_is, never_short, never_closes}
use Rattle.h1_generator.proofs.ValidLemmas.{valid}

-- what an exchange is known to be: it is for a request that was made, it is allowed, and it is kept
pub record IsKnown (number : ℕ) (e : Entry) : Type 0 where
  pub small : number < 2 ^ 64
  pub asked_by : IsAskedBy number e
  pub allowed : IsUnfiltered EchoGives e
  pub kept : IsKeptOn e

-- the reply of the echo application to such a request
pub record IsEchoed (e : Entry) (reply : Reply) : Type 0 where
  pub gives : EchoGives (given_to e e.head) reply
  pub pipelined : e.left.pipelining ≡ true
  pub keep_on : e.left.keep_off ≡ false

echoed : (number : ℕ) (e : Entry) (reply : Reply) → IsKnown number e
    → EchoGives (given_to e e.head) reply → IsEchoed e reply
echoed number e reply k gives =
    let plain : IsPlainHead number e.head =
    subst (IsPlainHead number) (sym k.asked_by.head) (plain_head number) in
    record {
      gives = gives;
      pipelined =
          ap (λ s. s.pipelining) gives.left ∙ ap not (pipelines number e.head k.small plain);
      keep_on = ap (λ s. s.keep_off) gives.left ∙ k.kept.began;
    }

-- an exchange whose body was not refused keeps the connection
whole_of : (how : How) (e : Entry) → how ≢ Open → e.body_error ≡ None
    → (how ≡ Failed → IsSome e.body_error) → how ≡ Whole
whole_of Open e read none stood = absurd (read refl)
whole_of Whole e read none stood = refl
whole_of Failed e read none stood = absurd (false≢true (subst (λ o. IsSome o) none (stood refl)))

abbrev pub Known : Entry → Type 0
Known e = (number : ℕ) × IsKnown number e

keeps_replied : (number : ℕ) (e : Entry) → IsKnown number e → e.body_error ≡ None
    → (o : Option Reply)
    → IfSome o (λ reply. (e.filtered ≡ Some e.head) × EchoGives (given_to e e.head) reply)
    → IfSome o (λ reply. e.how ≡ Failed → IsSome e.body_error)
    → IfSome o (λ reply. (e.how ≡ Whole) × (e.left.keep_off ≡ false) × (e.left.pipelining ≡ true))
keeps_replied number e k none None given stood = tt
keeps_replied number e k none (Some reply) given stood =
    let is = echoed number e reply k given.1 in
    (whole_of e.how e given.1.read none stood, is.keep_on, is.pipelined)

pub at_some : {T : Type 0} (o : Option T) (x : T) (P : T → Type 0) → o ≡ Some x → IfSome o P → P x
at_some o x P is h = subst (λ o. IfSome o P) is h

some_same : {T : Type 0} (x y : T) → Some x ≡ Some y → x ≡ y
some_same x y h = cc

pub body_of : (e : Entry) (reply : Reply) (sent : Option (List ℕ)) → e.reply ≡ Some reply
    → IfSome sent (λ sent. (reply : Reply) × (e.reply ≡ Some reply) × (sent ≡ reply.body))
    → IfSome sent (λ sent. sent ≡ reply.body)
body_of e reply None is h = tt
body_of e reply (Some sent) is h =
    h.2 ∙ ap (λ (r : Reply). r.body) (some_same h.0 reply (sym h.1 ∙ is))

-- its reply ends by its own length, and has all of it
record Ends (e : Entry) : Type 0 where
  long : is_short e ≡ false
  closes : is_until_close e ≡ false

ends_as : (number : ℕ) (e : Entry) → IsKnown number e → (head : Option ResponseView)
    → e.sent_head ≡ head
    → IfSome head (λ header. (reply : Reply) × (e.reply ≡ Some reply) × (header ≡ reply.header)
    × IsLawful header × IsDated e)
    → Ends e
ends_as number e k None none h = record { long = rw none refl; closes = rw none refl }
ends_as number e k (Some header) some h =
    let reply = h.0 in
    let gives =
    (at_some e.reply reply (λ reply. (e.filtered ≡ Some e.head)
    × EchoGives (given_to e e.head) reply) h.1 k.allowed.reply).1 in
    let plain : IsPlainHead number e.head =
    subst (IsPlainHead number) (sym k.asked_by.head) (plain_head number) in
    let made = echo_reply e.head (take e.handed e.body) e.body_error in
    let fits : length made.body < 2 ^ 63 =
    subst (λ (r : Reply). length r.body < 2 ^ 63) gives.is gives.small in
    let counted =
    subst (λ (r : Reply). out e.head.method r.header ≡ as_framing.Counted (length r.body))
    (sym gives.is)
    (out_is number e.head (take e.handed e.body) e.body_error k.small plain fits) in
    record {
      long = never_short e reply (Some header) e.sent_body some refl (h.1, h.2)
          (body_of e reply e.sent_body h.1 k.allowed.sent_body) counted;
      closes = never_closes e reply (Some header) some (h.1, h.2) counted;
    }

keeps : (number : ℕ) (e : Entry) → IsKnown number e → e.body_error ≡ None → KeepsOn e
keeps number e k none =
    let ends = ends_as number e k e.sent_head refl k.allowed.sent_head in
    record {
      replied = keeps_replied number e k none e.reply k.allowed.reply k.asked_by.stood;
      long = ends.long;
      closes = ends.closes;
      unfailed = k.kept.unfailed;
    }

keeps_all : (es : List Entry) → AllByRecursion Known es
    → AllByRecursion (λ e. e.body_error ≡ None) es → AllByRecursion KeepsOn es
keeps_all [] k none = tt
keeps_all (e ∷ more) k none = (keeps k.0.0 e k.0.1 none.0, keeps_all more k.1 none.1)

known_all : (number count : ℕ) (es : List Entry) → number + count < 2 ^ 64
    → AreAskedFrom number count es
    → AllByRecursion (IsUnfiltered EchoGives) es → AllByRecursion IsKeptOn es → AllByRecursion Known es
known_all number count [] small asked allowed kept = tt
known_all number zero (e ∷ more) small asked allowed kept = absurd asked
known_all number (suc count) (e ∷ more) small asked allowed kept = (
  (
    number,
    record {
      small = omega (arith, small);
      asked_by = asked.0;
      allowed = allowed.0;
      kept = kept.0;
    },
  ),
  known_all (number + 1) count more (omega (arith, small)) asked.1 allowed.1 kept.1,
)

-- no body of the exchanges that ended was refused
none_refused : (done : List Entry) (since rest : List ℕ) → ReadBehind since done rest
    → AllByRecursion (λ e. e.body_error ≡ None) done
none_refused [] since rest h = tt
none_refused (e ∷ more) since rest h = (h.4, none_refused more (drop h.2 (drop h.0 since)) rest h.6)

all_behind : (P : Entry → Type 0) (done : List Entry) (e : Entry) → AllByRecursion P done → P e
    → AllByRecursion P (done ++ e ∷ [])
all_behind P [] e h last = (last, tt)
all_behind P (d ∷ done) e h last = (h.0, all_behind P done e h.1 last)

all_last : (P : Entry → Type 0) (done : List Entry) (e : Entry) → AllByRecursion P (done ++ e ∷ [])
    → P e
all_last P [] e h = h.0
all_last P (d ∷ later) e h = all_last P later e h.1

-- no call of the link was not ready between these states
pub record IsReady (old now : LinkState) : Type 0 where
  pub reads : Rose old.read_waits now.read_waits → ⊥
  pub writes : Rose old.write_waits now.write_waits → ⊥

-- what is known of a connection over these bytes
pub record Over (count : ℕ) (before old now : LinkState) (done : List Entry)
    (last : Option Entry) : Type 0 where
  pub few : count ≤ MOST_GENERATED
  pub gave : GaveOf (generated count) before now
  pub faultless : NoFault old now
  pub ready : IsReady old now
  pub holding : Holding
  pub roomy : 7 ≤ holding.limit
  pub agrees : Agrees (plain EchoGives) (record { limit = None; holding = holding }) before now
      (done ++ option_to_list last)
  pub kept : AllByRecursion IsKeptOn (done ++ option_to_list last)
  pub behind : IfTold before.given now.given (AfterRead done (λ rest. Unit {0}))

pub asked_of : (count : ℕ) (before old now : LinkState) (done : List Entry) (last : Option Entry)
    → Over count before old now done last → AreAskedFrom 1 count (done ++ option_to_list last)
asked_of count before old now done last o =
    let transcript = done ++ option_to_list last in
    let read = told_of before.given now.given o.gave.front o.gave.since
    (λ since. (read : List Message) × Begins since read
    × AreOf now transcript read) o.gave.before_is o.gave.now_is o.agrees.read in
    asked_for now transcript read.0 count 1 o.gave.since o.gave.rest
    (omega (arith, o.few)) read.1 read.2 (sym o.gave.input_is)

pub known_of : (count : ℕ) (before old now : LinkState) (done : List Entry) (last : Option Entry)
    → Over count before old now done last → AllByRecursion Known (done ++ option_to_list last)
known_of count before old now done last o =
    known_all 1 count (done ++ option_to_list last) (omega (arith, o.few))
    (asked_of count before old now done last o)
    (all_plain EchoGives (done ++ option_to_list last) o.agrees.allowed) o.kept

-- the bytes after the exchanges that ended are the requests that are left
record Left (done : List Entry) (rest : List ℕ) (requests : List Message) (limit : ℕ)
    (P : List ℕ → Type 0) : Type 0 where
  behind : List ℕ
  holds : P behind
  left : List Message
  parses : Parses (behind ++ rest) left empty
  fits : AllByRecursion (Fits limit) left

left_after : (count : ℕ) (before old now : LinkState) (done : List Entry) (last : Option Entry)
    (P : List ℕ → Type 0)
    → (o : Over count before old now done last) → IfTold before.given now.given (AfterRead done P)
    → Left done o.gave.rest (messages count) o.holding.limit P
left_after count before old now done last P o h =
    let after =
    told_of before.given now.given o.gave.front o.gave.since
    (AfterRead done P) o.gave.before_is o.gave.now_is h in
    let parses =
    subst (λ xs. Parses xs (messages count) empty) o.gave.input_is (valid count o.few).parses in
    let left = left_of done o.gave.since after.0 o.gave.rest (messages count) after.1 parses in
    record {
      behind = after.0;
      holds = after.2;
      left = left.0;
      parses = left.1;
      fits = left.3 (Fits o.holding.limit) (all_fit count o.holding.limit o.few o.roomy);
    }

-- a failure of a connection whose last body was refused is being out of memory
refused_fails : (count : ℕ) (before old now : LinkState) (done : List Entry) (e : Entry)
    (met error : Error) (why : ErrorType)
    → Over count before old now done (Some e) → e.body_error ≡ Some met
    → error.kind ≡ why → FailureCause before old now done (Some e) error why
    → error.kind ≡ kind.NoMemory
refused_fails count before old now done e met error (kind.InvalidHTTPHeader fault) o is at cause =
    absurd (never cause.0.none) where
      never : Some e ≡ None → ⊥
      never h = cc
refused_fails count before old now done e met error kind.ConnectionClosed o is at cause =
    absurd (by cause.1) where
      never : Some e ≡ None → ⊥
      never h = cc

      by : (AreAllDone before now done (Some e)
          × IfTold before.given now.given (λ since. ReadAll since done begun))
          ⊎ OfLast (Some e) (λ e. StopsLast before now done e error (Unit {0})
          × IfTold before.given now.given (λ since. LastAfter since done e (unfinished e.body))) → ⊥
      by (inl h) = never h.0.none
      by (inr h) =
          let l = left_after count before old now done (Some e)
          (λ rest. LastStands rest e (unfinished e.body)) o h.1 in
          let all : l.behind ++ o.gave.rest ≡ l.behind =
          ap (λ xs. l.behind ++ xs) (o.gave.ended cause.0) ∙ append-nil l.behind in
          not_cut l.behind l.left e (subst (λ xs. Parses xs l.left empty) all l.parses) l.holds
refused_fails count before old now done e met error kind.InvalidBody o is at cause =
    let l = left_after count before old now done (Some e)
    (λ rest. LastStands rest e (broken e.body)) o cause.1 in
    absurd (not_broken l.behind o.gave.rest l.left e l.parses l.holds)
refused_fails count before old now done e met error kind.ContentTooLarge o is at cause =
    let l = left_after count before old now done (Some e) (λ rest. LastGoesPast rest e) o cause.1 in
    let limit = ap (λ (h : Holding). h.limit)
    (held_last (record { limit = None; holding = o.holding }) 0 false done e o.agrees.begun) in
    absurd (not_past l.behind o.gave.rest l.left e l.parses l.holds
    (subst (λ n. AllByRecursion (Fits n) l.left) (sym limit) l.fits))
refused_fails count before old now done e met error kind.ReadError o is at (inl h) =
    absurd (never h.0) where
      never : Some e ≡ None → ⊥
      never h = cc
refused_fails count before old now done e met error kind.ReadError o is at (inr h) =
    absurd (by h.0) where
      none : e.body_error ≡ None → ⊥
      none h = let clash : Some met ≡ None = sym is ∙ h in cc

      by : StopsLast before now done e error (Rose old.read_faults now.read_faults) → ⊥
      by (inl ends) =
          at_some e.body_error error (λ error. error.kind ≢ kind.ReadError) ends.is
          (all_last IsKeptOn done e o.kept).unfailed at
      by (inr stops) = none stops.1
refused_fails count before old now done e met error kind.WriteError o is at cause =
    absurd (o.faultless.writes cause)
refused_fails count before old now done e met error kind.PrematureBodyEnd o is at cause =
    let clash : Some met ≡ None = sym is ∙ cause.1 in cc
refused_fails count before old now done e met error kind.NoMemory o is at cause = at
refused_fails count before old now done e met error kind.ReadTimedout o is at (inl h) = absurd (o.ready.reads h.0)
refused_fails count before old now done e met error kind.ReadTimedout o is at (inr h) =
    absurd (by h.0) where
      by : StopsLast before now done e error (Rose old.read_waits now.read_waits) → ⊥
      by (inl ends) =
          at_some e.body_error error (λ error. error.kind ≢ kind.ReadTimedout) ends.is
          (all_last IsKeptOn done e o.kept).in_time at
      by (inr stops) = o.ready.reads stops.2
refused_fails count before old now done e met error kind.WriteTimedout o is at cause =
    absurd (o.ready.writes cause.0)
refused_fails count before old now done e met error (kind.ConnectError fault) o is at cause =
    absurd cause
refused_fails count before old now done e met error (kind.UnexpectedTask task) o is at cause =
    absurd cause
refused_fails count before old now done e met error (kind.ModuleFailed number) o is at cause =
    absurd cause
refused_fails count before old now done e met error (kind.TaskFailed number) o is at cause =
    absurd cause
refused_fails count before old now done e met error kind.Duplicate o is at cause = absurd cause

-- so is every end of it
refused_ends : (count : ℕ) (before old now : LinkState) (done : List Entry) (e : Entry)
    (met : Error) (reason : End)
    → Over count before old now done (Some e) → e.body_error ≡ Some met
    → EndCause before old now done (Some e) reason
    → ServesAll before now (messages count) done (Some e) reason
refused_ends count before old now done e met end.Finished o is cause =
    absurd (never cause.0.none) where
      never : Some e ≡ None → ⊥
      never h = cc
refused_ends count before old now done e met end.NotKept o is cause =
    let clash : Some met ≡ None = sym is ∙ cause.2 in cc
refused_ends count before old now done e met end.Overread o is cause =
    let known = all_last Known done e (known_of count before old now done (Some e) o) in
    absurd (by e.sent_head refl known.1.allowed.sent_head)
  where
    by : (head : Option ResponseView) → e.sent_head ≡ head
        → IfSome head (λ header. (reply : Reply) × (e.reply ≡ Some reply) × (header ≡ reply.header)
        × IsLawful header × IsDated e) → ⊥
    by None none h = cause.0.complete.sent_head none
    by (Some header) some h =
        let known = all_last Known done e (known_of count before old now done (Some e) o) in
        let gives =
        (at_some e.reply h.0 (λ reply. (e.filtered ≡ Some e.head)
        × EchoGives (given_to e e.head) reply) h.1 known.1.allowed.reply).1 in
        false≢true (sym cause.1 ∙ (echoed known.0 e h.0 known.1 gives).pipelined)
refused_ends count before old now done e met (end.Failed error) o is cause =
    refused_fails count before old now done e met error error.kind o is refl cause.1

-- no limit of time is the reason of an end where nothing was not ready
in_time : (count : ℕ) (before old now : LinkState) (done : List Entry) (last : Option Entry) (reason : End)
    → Over count before old now done last
    → AllByRecursion (λ e. e.body_error ≡ None) (done ++ option_to_list last)
    → EndCause before old now done last reason → IsInTime now reason
in_time count before old now done last end.Finished o none cause = by cause.1 where
  by : (now.ended ≡ true) ⊎ Rose old.read_waits now.read_waits → now.ended ≡ true
  by (inl ended) = ended
  by (inr rose) = absurd (o.ready.reads rose)
in_time count before old now done last (end.Failed error) o none cause = by_kind last o none error.kind cause.1 where
  by_kind : (last : Option Entry) → Over count before old now done last
      → AllByRecursion (λ e. e.body_error ≡ None) (done ++ option_to_list last)
      → (k : ErrorType) → FailureCause before old now done last error k
      → IsInTime now (end.Failed (record error { kind = k }))
  by_kind last o none kind.ReadTimedout (inl h) = absurd (o.ready.reads h.0)
  by_kind None o none kind.ReadTimedout (inr h) = absurd h
  by_kind (Some e) o none kind.ReadTimedout (inr h) = absurd (never h.0) where
    never : StopsLast before now done e error (Rose old.read_waits now.read_waits) → ⊥
    never (inl ends) =
        let clash : Some error ≡ None = sym ends.is ∙ all_last (λ e. e.body_error ≡ None) done e none in cc
    never (inr stops) = o.ready.reads stops.2
  by_kind last o none kind.WriteTimedout h = absurd (o.ready.writes h.0)
  by_kind last o none _ h = refl
in_time count before old now done last end.NotKept o none cause = tt
in_time count before old now done last end.Overread o none cause = tt

kept_ends : (count : ℕ) (before old now : LinkState) (done : List Entry) (last : Option Entry)
    (reason : End)
    → Over count before old now done last
    → AllByRecursion (λ e. e.body_error ≡ None) (done ++ option_to_list last)
    → EndCause before old now done last reason
    → ServesAll before now (messages count) done last reason
kept_ends count before old now done last reason o none cause =
    served (plain EchoGives) (record { limit = None; holding = o.holding }) before old now
    (generated count) (messages count) done last reason
    (valid count o.few) o.gave tt (all_fit count o.holding.limit o.few o.roomy) o.faultless (in_time count before old now done last reason o none cause) o.agrees
    (keeps_all (done ++ option_to_list last) (known_of count before old now done last o) none) cause

-- every end is that of a connection that served all
pub ends_served : (count : ℕ) (before old now : LinkState) (done : List Entry) (last : Option Entry)
    (reason : End)
    → Over count before old now done last → EndCause before old now done last reason
    → ServesAll before now (messages count) done last reason
ends_served count before old now done None reason o cause =
    let after =
    told_of before.given now.given o.gave.front o.gave.since
    (AfterRead done (λ rest. Unit {0})) o.gave.before_is o.gave.now_is o.behind in
    kept_ends count before old now done None reason o
    (subst (AllByRecursion (λ e. e.body_error ≡ None)) (sym (append-nil done))
    (none_refused done o.gave.since after.0 after.1)) cause
ends_served count before old now done (Some e) reason o cause = by e.body_error refl where
  by : (refused : Option Error) → e.body_error ≡ refused
      → ServesAll before now (messages count) done (Some e) reason
  by None is =
      let after =
      told_of before.given now.given o.gave.front o.gave.since
      (AfterRead done (λ rest. Unit {0})) o.gave.before_is o.gave.now_is o.behind in
      kept_ends count before old now done (Some e) reason o
      (all_behind (λ e. e.body_error ≡ None) done e
      (none_refused done o.gave.since after.0 after.1) is) cause
  by (Some met) is = refused_ends count before old now done e met reason o is cause
