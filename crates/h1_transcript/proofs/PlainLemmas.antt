-- What holds of a connection without modules.
use Rattle.std.proofs.Common.{◌≡◌, inl, inr, ℕ, List, [], ◌∷◌, Option, Some, None, IfSome, Result, Ok, Err, sym, ◌∙◌, ap, subst}
use Rattle.std.specs.Prelude.{◌≤◌, length, true, IsSome}
use Rattle.h1_transcript.specs.Words.{AllByRecursion, LinkState, RequestView, ResponseView, Reply, Entry, End}
use Rattle.h1_error.specs.declared.progress.End.TheVariants as end
use Rattle.h1_transcript.specs.Given.{Given}
use Rattle.h1_transcript.specs.Lawful.{IsLawful}
use Rattle.h1_transcript.specs.Rules.{ArePlain, Rules, plain}
use Rattle.h1_transcript.specs.Refusals.{IsRefusedBy, IsReplyRefusedBy, RefusesLast, EndsBy}
use Rattle.h1_transcript.specs.Ends.{EndCause}
use Rattle.h1_transcript.specs.Begun.{Terms}
use Rattle.h1_transcript.specs.Agrees.{Agrees}
use Rattle.h1_transcript.specs.Exchange.{IsAllowed, IsDated, given_to}

-- the outcome of a filter that refuses nothing
abbrev okay : {V : Type 0} → V → Result V ℕ
okay value = Ok value

-- the outcome of a filter that changes nothing is what it was given
ok_is : {V : Type 0} (given value : V) → okay given ≡ Ok value → value ≡ given
ok_is {V} given value h = ap inside (sym h) where
  inside : Result V ℕ → V
  inside (Ok v) = v
  inside (Err n) = given

never_refused : {V : Type 0} (given : V) (n : ℕ) → okay given ≡ Err n → ⊥
never_refused {V} given n h = subst is_ok h tt where
  is_ok : Result V ℕ → Type 0
  is_ok (Ok v) = Unit {0}
  is_ok (Err n) = ⊥

-- what an exchange is where no module changes anything
pub record IsUnfiltered (gives : Given → Reply → Type 0) (e : Entry) : Type 0 where
  pub filtered : IfSome e.filtered (λ filtered. filtered ≡ e.head)
  pub reply : IfSome e.reply (λ reply. (e.filtered ≡ Some e.head) × gives (given_to e e.head) reply)
  pub sent_head : IfSome e.sent_head (λ header. (reply : Reply) × (e.reply ≡ Some reply)
      × (header ≡ reply.header) × IsLawful header × IsDated e)
  pub sent_body : IfSome e.sent_body (λ sent. (reply : Reply) × (e.reply ≡ Some reply)
      × (sent ≡ reply.body))
  pub handed : e.handed ≤ length e.body
  pub reuses : e.left.reuses ≡ e.began.reuses
  pub owed : e.owed ≡ true → IsSome e.sent_head

pub plain_is : (gives : Given → Reply → Type 0) (e : Entry) → IsAllowed (plain gives) e
    → IsUnfiltered gives e
plain_is gives e a = record {
  filtered = head_is e.filtered a.filtered;
  reply = reply_is e.reply a.reply;
  sent_head = sent_is e.sent_head a.sent_head;
  sent_body = body_is e.sent_body a.sent_body;
  handed = a.handed;
  reuses = a.reuses;
  owed = a.owed;
}
  where
    head_is : (filtered : Option RequestView)
        → IfSome filtered (λ filtered. okay e.head ≡ Ok filtered)
        → IfSome filtered (λ filtered. filtered ≡ e.head)
    head_is None h = tt
    head_is (Some filtered) h = ok_is e.head filtered h

    given_head : (reply : Reply) (filtered : RequestView) → e.filtered ≡ Some filtered
        → filtered ≡ e.head → gives (given_to e filtered) reply
        → (e.filtered ≡ Some e.head) × gives (given_to e e.head) reply
    given_head reply filtered is same h =
        (is ∙ ap Some same, subst (λ x. gives (given_to e x) reply) same h)

    reply_is : (reply : Option Reply)
        → IfSome reply (λ reply. (filtered : RequestView) × (e.filtered ≡ Some filtered)
        × gives (given_to e filtered) reply)
        → IfSome reply (λ reply. (e.filtered ≡ Some e.head) × gives (given_to e e.head) reply)
    reply_is None h = tt
    reply_is (Some reply) h =
        given_head reply h.0 h.1
        (subst (λ x. IfSome x (λ filtered. filtered ≡ e.head)) h.1 (head_is e.filtered a.filtered)) h.2

    sent_is : (header : Option ResponseView)
        → IfSome header (λ header. (reply : Reply) × (e.reply ≡ Some reply)
        × (okay reply.header ≡ Ok header) × IsLawful header × IsDated e)
        → IfSome header (λ header. (reply : Reply) × (e.reply ≡ Some reply)
        × (header ≡ reply.header) × IsLawful header × IsDated e)
    sent_is None h = tt
    sent_is (Some header) h = (h.0, h.1, ok_is h.0.header header h.2, h.3, h.4)

    body_is : (sent : Option (List ℕ))
        → IfSome sent (λ sent. (reply : Reply) × (e.reply ≡ Some reply)
        × (okay reply.body ≡ Ok sent))
        → IfSome sent (λ sent. (reply : Reply) × (e.reply ≡ Some reply) × (sent ≡ reply.body))
    body_is None h = tt
    body_is (Some sent) h = (h.0, h.1, ok_is h.0.body sent h.2)

pub all_plain : (gives : Given → Reply → Type 0) (entries : List Entry)
    → AllByRecursion (IsAllowed (plain gives)) entries → AllByRecursion (IsUnfiltered gives) entries
all_plain gives [] h = tt
all_plain gives (e ∷ more) h = (plain_is gives e h.0, all_plain gives more h.1)

-- an exchange that modules which change nothing allow is allowed without modules
module _ (rules : Rules) (none : ArePlain rules.filters) where
  allowed_plain : (e : Entry) → IsAllowed rules e → IsAllowed (plain rules.gives) e
  allowed_plain e a = record {
    filtered = head_of e.filtered a.filtered;
    reply = a.reply;
    sent_head = header_of e.sent_head a.sent_head;
    sent_body = body_of e.sent_body a.sent_body;
    handed = a.handed;
    bound = a.bound;
    reuses = a.reuses;
    owed = a.owed;
    limit = a.limit;
  }
    where
      head_of : (filtered : Option RequestView)
          → IfSome filtered (λ filtered. rules.filters.request e.head ≡ Ok filtered)
          → IfSome filtered (λ filtered. okay e.head ≡ Ok filtered)
      head_of None h = tt
      head_of (Some filtered) h = sym (none.request e.head) ∙ h

      header_of : (header : Option ResponseView)
          → IfSome header (λ header. (reply : Reply) × (e.reply ≡ Some reply)
          × (rules.filters.header e.head reply ≡ Ok header) × IsLawful header × IsDated e)
          → IfSome header (λ header. (reply : Reply) × (e.reply ≡ Some reply)
          × (okay reply.header ≡ Ok header) × IsLawful header × IsDated e)
      header_of None h = tt
      header_of (Some header) h = (h.0, h.1, sym (none.header e.head h.0) ∙ h.2, h.3, h.4)

      body_of : (sent : Option (List ℕ))
          → IfSome sent (λ sent. (reply : Reply) × (e.reply ≡ Some reply)
          × (rules.filters.body e.head reply ≡ Ok sent))
          → IfSome sent (λ sent. (reply : Reply) × (e.reply ≡ Some reply)
          × (okay reply.body ≡ Ok sent))
      body_of None h = tt
      body_of (Some sent) h = (h.0, h.1, sym (none.body e.head h.0) ∙ h.2)

  all_allowed : (entries : List Entry) → AllByRecursion (IsAllowed rules) entries
      → AllByRecursion (IsAllowed (plain rules.gives)) entries
  all_allowed [] h = tt
  all_allowed (e ∷ more) h = (allowed_plain e h.0, all_allowed more h.1)

  pub plain_agrees : (terms : Terms) (before now : LinkState) (transcript : List Entry)
      → Agrees rules terms before now transcript
      → Agrees (plain rules.gives) terms before now transcript
  plain_agrees terms before now transcript a = record {
    read = a.read;
    allowed = all_allowed transcript a.allowed;
    begun = a.begun;
    written = a.written;
    done = a.done;
  }

  -- no module refuses
  unrefused : (e : Entry) (n : ℕ) → IsRefusedBy rules.filters e n → ⊥
  unrefused e n (inl h) = never_refused e.head n (sym (none.request e.head) ∙ h.2)
  unrefused e n (inr h) = by h.3 where
    by : IsReplyRefusedBy rules.filters e h.0 n → ⊥
    by (inl header) = never_refused h.0.header n (sym (none.header e.head h.0) ∙ header.1)
    by (inr body) = never_refused h.0.body n (sym (none.body e.head h.0) ∙ body.1)

  never_last : (last : Option Entry) (reason : End) → RefusesLast rules.filters last reason → ⊥
  never_last None (end.Failed error) h = absurd h.1.2
  never_last (Some e) (end.Failed error) h = unrefused e h.1.0 h.1.2
  never_last last end.Finished h = h
  never_last last end.NotKept h = h
  never_last last end.Overread h = h

  pub plain_cause : (before old now : LinkState) (done : List Entry) (last : Option Entry)
      (reason : End) → EndsBy rules.filters before old now done last reason
      → EndCause before old now done last reason
  plain_cause before old now done last reason (inl cause) = cause
  plain_cause before old now done last reason (inr refused) = absurd (never_last last reason refused.0)
