-- Every end of a connection with valid input is that of one that served it all, or being out of memory.
use Rattle.std.proofs.Common.{◌≡◌, ◌≢◌, ℕ, ◌+◌, ◌-◌, ◌<◌, ◌⊎◌, inl, inr, List, [], ◌∷◌, ◌++◌, length, option_to_list, Bool, true, false, not, ◌&&◌, Option, Some, None, IfSome, Ok, refl, sym, ◌∙◌, ap, subst, append-nil, arith}
use Rattle.h1_transcript.specs.Words.{AllByRecursion, Error, ErrorType, End, LinkState, ResponseView, wish, unfinished, broken, has_reuses, Holding, Reply, Entry, Whole}
use Rattle.std.proofs.lemmas.Bool.{false≢true, true≢false}
use Rattle.h1_transfer.specs.Deadline.{is_timeout}
use Rattle.h1_error.specs.declared.error.ErrorType.TheVariants as kind
use Rattle.h1_error.specs.declared.progress.End.TheVariants as end
use Rattle.h1_body.proofs.GrammarRuns.{above}
use Rattle.h1_transcript.proofs.Words.{AreOf, AfterRead, LastStands, AreServed, IfTold, Message, Begins, Parses, EndsAs, empty, begun}
use Rattle.h1_transcript.specs.Agrees.{Agrees}
use Rattle.h1_transcript.specs.Rules.{Rules}
use Rattle.h1_transcript.specs.Lawful.{IsLawful}
use Rattle.h1_transcript.specs.Begun.{AreBegun, Terms, reuses_at}
use Rattle.h1_transcript.specs.Ends.{EndCause, FailureCause, AreAllDone, StopsLast, OfLast, LastAfter, LastGoesPast, ReadAll}
use Rattle.h1_transcript.specs.Complete.{Fits, IsValid, GaveOf, AreWithin, NoFault, IsInTime, KeepsOn, ServesAll}
use Rattle.h1_transcript.specs.Exchange.{IsAllowed, IsDated, may_keep}
use Rattle.h1_transcript.specs.Stream.{refused}
use Rattle.h1_transcript.proofs.CompleteLemmas.{told_of, left_of, none_left, not_refused, not_begun, not_cut, not_broken, not_past, last_wished}

all_last : (P : Entry → Type 0) (done : List Entry) (e : Entry) → AllByRecursion P (done ++ e ∷ [])
    → P e
all_last P [] e h = h.0
all_last P (d ∷ later) e h = all_last P later e h.1

-- so many requests are left after the last exchange
pub begun_last : (terms : Terms) (i : ℕ) (pipelining : Bool) (done : List Entry) (e : Entry)
    → AreBegun terms i pipelining (done ++ e ∷ [])
    → e.began.reuses ≡ reuses_at terms.limit (i + length done)
begun_last terms i pipelining [] e h =
    let same : i ≡ i + 0 = omega arith in
    h.0.set.reuses ∙ ap (reuses_at terms.limit) same
begun_last terms i pipelining (d ∷ later) e h =
    let same : i + 1 + length later ≡ i + length (d ∷ later) = omega arith in
    begun_last terms (i + 1) d.left.pipelining later e h.1 ∙ ap (reuses_at terms.limit) same

-- what is held of the last exchange
pub held_last : (terms : Terms) (i : ℕ) (pipelining : Bool) (done : List Entry) (e : Entry)
    → AreBegun terms i pipelining (done ++ e ∷ []) → e.holding ≡ terms.holding
held_last terms i pipelining [] e h = h.0.holding
held_last terms i pipelining (d ∷ later) e h = held_last terms (i + 1) d.left.pipelining later e h.1

some_left : (limit : Option ℕ) (i count : ℕ) → AreWithin limit count → i < count
    → has_reuses (reuses_at limit i) ≡ true
some_left None i count within less = refl
some_left (Some most) i count within less = above 0 (most - i) (omega (arith, within, less))

-- a header that was sent is that of a reply, with its flag
reply_of : (rules : Rules) (e : Entry) (head : Option ResponseView) → head ≢ None
    → IfSome head (λ header. (reply : Reply) × (e.reply ≡ Some reply)
    × (rules.filters.header e.head reply ≡ Ok header) × IsLawful header × IsDated e)
    → (reply : Reply) × (e.reply ≡ Some reply) × IsDated e
reply_of rules e None some h = absurd (some refl)
reply_of rules e (Some header) some h = (h.0, h.1, h.4)

if_some : {A : Type 0} (P : Type 0) (x : Option A) (value : A) → x ≡ Some value
    → IfSome x (λ value. P) → P
if_some P x value is h = subst (λ x. IfSome x (λ value. P)) is h

all_true : (wished off left follows : Bool) → wished ≡ true → off ≡ false → left ≡ true
    → follows ≡ true → (wished && not off && left && follows) ≡ true
all_true wished off left follows a b c d = rw a (rw b (rw c d))

flag_true : (e : Entry) → wish e.head e.both ≡ true → e.left.keep_off ≡ false
    → has_reuses e.left.reuses ≡ true → e.how ≡ Whole → may_keep e ≡ true
flag_true e wished off left whole =
    rw whole (all_true (wish e.head e.both) e.left.keep_off (has_reuses e.left.reuses) true wished off left refl)

module _ (rules : Rules) (terms : Terms) (before old now : LinkState)
    (input : List ℕ) (requests : List Message) (done : List Entry) where
  -- the premises: valid input, of which the link gave a front, and exchanges that keep the connection
  record Serving (last : Option Entry) : Type 0 where
    valid : IsValid input requests
    gave : GaveOf input before now
    within : AreWithin terms.limit (length requests)
    fits : AllByRecursion (Fits terms.holding.limit) requests
    faultless : NoFault old now
    agrees : Agrees rules terms before now (done ++ option_to_list last)
    keeps : AllByRecursion KeepsOn (done ++ option_to_list last)

  parses_since : (last : Option Entry) (s : Serving last)
      → Parses (s.gave.since ++ s.gave.rest) requests empty
  parses_since last s = subst (λ xs. Parses xs requests empty) s.gave.input_is s.valid.parses

  -- a reply that was sent is dated, and what its exchange left keeps the connection
  replied : (e : Entry) → Serving (Some e) → e.sent_head ≢ None
      → IsDated e × ((e.how ≡ Whole) × (e.left.keep_off ≡ false) × (e.left.pipelining ≡ true))
  replied e s sent =
      let allowed = all_last (IsAllowed rules) done e s.agrees.allowed in
      let reply = reply_of rules e e.sent_head sent allowed.sent_head in
      let keeps = all_last KeepsOn done e s.keeps in
      (reply.2, if_some _ e.reply reply.0 reply.1 keeps.replied)

  -- the flag of the last reply that was sent is true
  kept : (e : Entry) → Serving (Some e) → e.sent_head ≢ None → e.keep ≡ true
  kept e s sent =
      let read = told_of before.given now.given s.gave.front s.gave.since
      (λ since. (read : List Message) × Begins since read × AreOf now (done ++ e ∷ []) read)
      s.gave.before_is s.gave.now_is s.agrees.read in
      let wished = last_wished now done e s.gave.since s.gave.rest read.0 requests read.1 read.2
      (parses_since (Some e) s) s.valid.wished in
      let allowed = all_last (IsAllowed rules) done e s.agrees.allowed in
      let left : has_reuses e.left.reuses ≡ true =
      ap has_reuses (allowed.reuses ∙ begun_last terms 0 false done e s.agrees.begun)
      ∙ some_left terms.limit (0 + length done) (length requests) s.within (omega (arith, wished.1)) in
      let on = replied e s sent in
      on.0.keep ∙ flag_true e wished.0 on.1.1 left on.1.0

  -- what was read after the exchanges that ended, and the requests that are left
  record Rest (rest : List ℕ) (P : List ℕ → Type 0) : Type 0 where
    behind : List ℕ
    holds : P behind
    left : List Message
    parses : Parses (behind ++ rest) left empty
    served : left ≡ [] → AreServed done requests
    fits : AllByRecursion (Fits terms.holding.limit) left

  rest_of : (last : Option Entry) (P : List ℕ → Type 0) (s : Serving last)
      → IfTold before.given now.given (AfterRead done P) → Rest s.gave.rest P
  rest_of last P s h =
      let after = told_of before.given now.given s.gave.front s.gave.since (AfterRead done P)
      s.gave.before_is s.gave.now_is h in
      let left = left_of done s.gave.since after.0 s.gave.rest requests after.1 (parses_since last s) in
      record { behind = after.0; holds = after.2; left = left.0; parses = left.1; served = left.2; fits = left.3 (Fits terms.holding.limit) s.fits }

  -- where the link ended nothing else comes
  all_given : (rest : List ℕ) (P : List ℕ → Type 0) (r : Rest rest P) → rest ≡ []
      → Parses r.behind r.left empty
  all_given rest P r none =
      subst (λ xs. Parses xs r.left empty) (ap (λ xs. r.behind ++ xs) none ∙ append-nil r.behind) r.parses

  finished : (last : Option Entry) → Serving last → now.ended ≡ true
      → EndCause before old now done last end.Finished → AreServed done requests
  finished last s ended cause =
      let r = rest_of last (λ rest. EndsAs rest empty) s cause.2 in
      r.served (none_left r.behind r.left r.holds
      (all_given s.gave.rest (λ rest. EndsAs rest empty) r (s.gave.ended ended)))

  -- the connection is kept after each reply
  never_closed : (last : Option Entry) → Serving last
      → EndCause before old now done last end.NotKept → ⊥
  never_closed None s cause = absurd cause
  never_closed (Some e) s cause = elim cause.3 [
    | inl off ↦ false≢true (sym off ∙ kept e s cause.0.sent_head)
    | inr closes ↦ false≢true (sym (all_last KeepsOn done e s.keeps).closes ∙ closes)
  ]

  -- bytes after a request are those of the next one
  never_over : (last : Option Entry) → Serving last
      → EndCause before old now done last end.Overread → ⊥
  never_over None s cause = absurd cause
  never_over (Some e) s cause =
      false≢true (sym cause.1 ∙ (replied e s cause.0.complete.sent_head).1.2)

  -- the link doesn't end inside a request
  never_inside : (last : Option Entry) (error : Error) → Serving last
      → FailureCause before old now done last error kind.ConnectionClosed → ⊥
  never_inside last error s cause = by last s cause.1 where
    by : (last : Option Entry) (s : Serving last)
        → (AreAllDone before now done last
        × IfTold before.given now.given (λ since. ReadAll since done begun))
        ⊎ OfLast last (λ e. StopsLast before now done e error (Unit {0})
        × IfTold before.given now.given (λ since. LastAfter since done e (unfinished e.body)))
        → ⊥
    by last s (inl h) =
        let r = rest_of last (λ rest. EndsAs rest begun) s h.1 in
        not_begun r.behind r.left
        (all_given s.gave.rest (λ rest. EndsAs rest begun) r (s.gave.ended cause.0)) r.holds
    by None s (inr h) = absurd h
    by (Some e) s (inr h) =
        let r = rest_of (Some e) (λ rest. LastStands rest e (unfinished e.body)) s h.1 in
        not_cut r.behind r.left e
        (all_given s.gave.rest (λ rest. LastStands rest e (unfinished e.body)) r (s.gave.ended cause.0))
        r.holds

  -- no read failed, that of a body's error or another
  never_faulty : (last : Option Entry) (error : Error) → Serving last
      → error.kind ≡ kind.ReadError → FailureCause before old now done last error kind.ReadError → ⊥
  never_faulty last error s is (inl h) = s.faultless.reads h.1
  never_faulty None error s is (inr h) = absurd h
  never_faulty (Some e) error s is (inr h) = elim h.0 [
    | inl ends ↦ subst (λ x. IfSome x (λ error. error.kind ≢ kind.ReadError)) ends.is
        (all_last KeepsOn done e s.keeps).unfailed is
    | inr met ↦ s.faultless.reads met.2
  ]

  failed : (last : Option Entry) (error : Error) (why : ErrorType) → Serving last
      → is_timeout why ≡ false → error.kind ≡ why → FailureCause before old now done last error why
      → error.kind ≡ kind.NoMemory
  failed last error (kind.InvalidHTTPHeader fault) s in_time is cause =
      let r = rest_of last (λ rest. EndsAs rest (refused fault)) s cause.1 in
      absurd (not_refused r.behind s.gave.rest r.left fault r.parses r.holds)
  failed last error kind.ConnectionClosed s in_time is cause = absurd (never_inside last error s cause)
  failed None error kind.InvalidBody s in_time is cause = absurd cause
  failed (Some e) error kind.InvalidBody s in_time is cause =
      let r = rest_of (Some e) (λ rest. LastStands rest e (broken e.body)) s cause.1 in
      absurd (not_broken r.behind s.gave.rest r.left e r.parses r.holds)
  failed None error kind.ContentTooLarge s in_time is cause = absurd cause
  failed (Some e) error kind.ContentTooLarge s in_time is cause =
      let r = rest_of (Some e) (λ rest. LastGoesPast rest e) s cause.1 in
      let limit = ap (λ (h : Holding). h.limit) (held_last terms 0 false done e s.agrees.begun) in
      absurd (not_past r.behind s.gave.rest r.left e r.parses r.holds
      (subst (λ n. AllByRecursion (Fits n) r.left) (sym limit) r.fits))
  failed last error kind.ReadError s in_time is cause = absurd (never_faulty last error s is cause)
  failed last error kind.WriteError s in_time is cause = absurd (s.faultless.writes cause)
  failed None error kind.PrematureBodyEnd s in_time is cause = absurd cause
  failed (Some e) error kind.PrematureBodyEnd s in_time is cause =
      absurd (false≢true (sym (all_last KeepsOn done e s.keeps).long ∙ cause.0.short))
  failed last error kind.NoMemory s in_time is cause = is
  failed last error kind.ReadTimedout s in_time is cause = absurd (true≢false in_time)
  failed last error kind.WriteTimedout s in_time is cause = absurd (true≢false in_time)
  failed last error _ s in_time is cause = absurd cause

  -- every end is that of a connection that served all
  served_so : (last : Option Entry) (reason : End) → Serving last → IsInTime now reason
      → EndCause before old now done last reason → ServesAll before now requests done last reason
  served_so last end.Finished s in_time cause = (cause.0, finished last s in_time cause)
  served_so last end.NotKept s in_time cause = absurd (never_closed last s cause)
  served_so last end.Overread s in_time cause = absurd (never_over last s cause)
  served_so last (end.Failed error) s in_time cause = failed last error error.kind s in_time refl cause.1

  pub served : (last : Option Entry) (reason : End)
      → IsValid input requests → GaveOf input before now → AreWithin terms.limit (length requests)
      → AllByRecursion (Fits terms.holding.limit) requests → NoFault old now → IsInTime now reason → Agrees rules terms before now (done ++ option_to_list last)
      → AllByRecursion KeepsOn (done ++ option_to_list last)
      → EndCause before old now done last reason → ServesAll before now requests done last reason
  served last reason valid gave within fits faultless in_time agrees keeps cause =
      served_so last reason
      (record { valid = valid; gave = gave; within = within; fits = fits; faultless = faultless; agrees = agrees; keeps = keeps })
      in_time cause
