-- How a transcript grows over steps, one after the other.
use Rattle.std.proofs.Common.{◌≡◌, ℕ, ◌+◌, ◌/◌, ◌≤◌, List, [], ◌∷◌, ◌++◌, Bool, Option, Some, None, IfSome, option_to_list, refl, sym, ◌∙◌, ap, append_assoc, append-nil, arith}
use Rattle.h1_transcript.specs.Words.{AllByRecursion, Error, ErrorType, LinkState, ResponseView, Reply, Entry}
use Rattle.h1_link.specs.Later.{Later}
use Rattle.h1_link.proofs.Laters.{later_itself, rose_read_faults, rose_read_waits}
use Rattle.h1_transcript.specs.Growth.{Extends, Grows, Stays, StaysWith, DatedAt, RepliedOn, RoseFor, RefusedIn, IsBegun, ExtendsLast}
use Rattle.h1_transcript.specs.Entries.{replies}
use Rattle.h1_error.specs.declared.error.ErrorType.TheVariants as kind

-- what is there stays
pub stays_itself : {T : Type 0} (o : Option T) → Stays o o
stays_itself None = tt
stays_itself (Some value) = refl

pub stays_with_itself : {T U : Type 0} (o : Option T) (u : U) → StaysWith o u u
stays_with_itself None u = tt
stays_with_itself (Some value) u = refl

stays_with_on : {T U : Type 0} (o p : Option T) (a b c : U) → Stays o p → StaysWith o a b
    → StaysWith p b c → StaysWith o a c
stays_with_on None p a b c stays first second = tt
stays_with_on (Some value) p a b c stays first second = rw stays at second ∙ first

-- a header that stays keeps its date and its flag
pub dated_same : (now : ℕ) (head : Option ResponseView) (old new : Entry) → old.sent_head ≡ head
    → new.sent_head ≡ old.sent_head
    → new.date ≡ old.date → new.date_text ≡ old.date_text → new.keep ≡ old.keep
    → DatedAt now head old new
dated_same now None old new is head date text keep = rw (head ∙ is) tt
dated_same now (Some header) old new is head date text keep = (date, text, keep)

pub replied_same : (reply : Option Reply) (old new : Entry) → new.how ≡ old.how
    → new.left ≡ old.left → new.handed ≡ old.handed → new.read_limit ≡ old.read_limit
    → RepliedOn reply old new
replied_same None old new how left handed limit = tt
replied_same (Some reply) old new how left handed limit = (how, left, handed, limit)

pub refused_same : (before behind : LinkState) (refused : Option Error)
    → RefusedIn before behind refused refused
refused_same before behind None = tt
refused_same before behind (Some error) = tt

-- an exchange that stays as it is
pub grows_same : (now : ℕ) (before behind : LinkState) (e : Entry) → Grows now before behind e e
grows_same now before behind e = record {
  head = refl;
  both = refl;
  filtered = stays_itself e.filtered;
  body = ([], sym (append-nil e.body));
  handed = omega arith;
  body_error = stays_itself e.body_error;
  refused = refused_same before behind e.body_error;
  read_limit = stays_with_itself e.body_error e.read_limit;
  reply = stays_itself e.reply;
  replied = replied_same e.reply e e refl refl refl refl;
  sent_head = stays_itself e.sent_head;
  dated = dated_same now e.sent_head e e refl refl refl refl refl;
  sent_body = stays_itself e.sent_body;
  written = omega arith;
  began = refl;
  holding = refl;
}

stays_on : {T : Type 0} (a b c : Option T) → Stays a b → Stays b c → Stays a c
stays_on None b c first second = tt
stays_on (Some value) b c first second = rw first at second

-- a date that goes with a header goes with it further on
date_on : (now : ℕ) (sent : Option ResponseView) (b c : Entry) → b.sent_head ≡ sent
    → IfSome sent (λ header. b.date ≡ now / 1000)
    → Stays b.sent_head c.sent_head → DatedAt now b.sent_head b c
    → IfSome c.sent_head (λ header. c.date ≡ now / 1000)
date_on now None b c is dated stays y = rw is at y
date_on now (Some header) b c is dated stays y =
    let kept = rw is at stays in
    let same = rw is at y in
    rw kept (same.0 ∙ dated)

dated_on : (now : ℕ) (sent : Option ResponseView) (a b c : Entry) → a.sent_head ≡ sent
    → Stays sent b.sent_head
    → DatedAt now sent a b → Stays b.sent_head c.sent_head → DatedAt now b.sent_head b c
    → DatedAt now sent a c
dated_on now None a b c is first x second y = date_on now b.sent_head b c refl x second y
dated_on now (Some header) a b c is first x second y =
    let same = rw first at y in
    (same.0 ∙ x.0, same.1 ∙ x.1, same.2 ∙ x.2)

replied_on : (reply : Option Reply) (a b c : Entry) → Stays reply b.reply → RepliedOn reply a b
    → RepliedOn b.reply b c → RepliedOn reply a c
replied_on None a b c first x y = tt
replied_on (Some reply) a b c first x y =
    let same = rw first at y in
    (same.0 ∙ x.0, same.1 ∙ x.1, same.2 ∙ x.2, same.3 ∙ x.3)

module _ (now : ℕ) (shutdown : Bool) (first second third : LinkState)
    (before : Later first second) (behind : Later second third) where
  -- what failed or waited in a part did so in the whole
  rose_front : (k : ErrorType) → RoseFor first second k → RoseFor first third k
  rose_front kind.ReadError rose = rose_read_faults 1 first first second third (later_itself first) rose behind
  rose_front kind.ReadTimedout rose = rose_read_waits 1 first first second third (later_itself first) rose behind
  rose_front _ rose = tt

  rose_back : (k : ErrorType) → RoseFor second third k → RoseFor first third k
  rose_back kind.ReadError rose = rose_read_faults 1 first second third third before rose (later_itself third)
  rose_back kind.ReadTimedout rose = rose_read_waits 1 first second third third before rose (later_itself third)
  rose_back _ rose = tt

  refused_front : (refused : Option Error) → RefusedIn first second None refused
      → RefusedIn first third None refused
  refused_front None x = tt
  refused_front (Some error) x = rose_front error.kind x

  refused_back : (refused : Option Error) → RefusedIn second third None refused
      → RefusedIn first third None refused
  refused_back None x = tt
  refused_back (Some error) x = rose_back error.kind x

  refused_on : (a b c : Option Error) → Stays a b → Stays b c → RefusedIn first second a b
      → RefusedIn second third b c → RefusedIn first third a c
  refused_on (Some error) b c stays still x y = tt
  refused_on None None c stays still x y = refused_back c y
  refused_on None (Some error) c stays still x y = rw still (refused_front (Some error) x)

  grows_on : (a b c : Entry) → Grows now first second a b → Grows now second third b c
      → Grows now first third a c
  grows_on a b c x y = record {
    head = y.head ∙ x.head;
    both = y.both ∙ x.both;
    filtered = stays_on _ _ _ x.filtered y.filtered;
    body = (
      x.body.0 ++ y.body.0,
      y.body.1 ∙ ap (λ xs. xs ++ y.body.0) x.body.1 ∙ append_assoc a.body x.body.0 y.body.0,
    );
    handed = omega arith;
    body_error = stays_on _ _ _ x.body_error y.body_error;
    refused = refused_on a.body_error b.body_error c.body_error x.body_error y.body_error x.refused y.refused;
    read_limit = stays_with_on a.body_error b.body_error a.read_limit b.read_limit c.read_limit x.body_error
        x.read_limit y.read_limit;
    reply = stays_on _ _ _ x.reply y.reply;
    replied = replied_on a.reply a b c x.reply x.replied y.replied;
    sent_head = stays_on _ _ _ x.sent_head y.sent_head;
    dated = dated_on now a.sent_head a b c refl x.sent_head x.dated y.sent_head y.dated;
    sent_body = stays_on _ _ _ x.sent_body y.sent_body;
    written = omega arith;
    began = y.began ∙ x.began;
    holding = y.holding ∙ x.holding;
  }

  -- an exchange that began goes on
  begun_on : (b c : Entry) → IsBegun now shutdown first second b → Grows now second third b c
      → IsBegun now shutdown first third c
  begun_on b c x y = record {
    keep_off = rw y.began x.keep_off;
    dated = date_on now b.sent_head b c refl x.dated y.sent_head y.dated;
    refused = refused_on None b.body_error c.body_error tt y.body_error x.refused y.refused;
  }

  -- exchanges that began in a part began in the whole
  all_back : (c : List Entry) → AllByRecursion (IsBegun now shutdown second third) c
      → AllByRecursion (IsBegun now shutdown first third) c
  all_back [] h = tt
  all_back (e ∷ more) h = (
    record { keep_off = h.0.keep_off; dated = h.0.dated; refused = refused_back e.body_error h.0.refused },
    all_back more h.1,
  )

  all_on : (b c : List Entry) → AllByRecursion (IsBegun now shutdown first second) b
      → Extends now shutdown second third b c → AllByRecursion (IsBegun now shutdown first third) c
  all_on [] c x y = all_back c y
  all_on (e ∷ []) [] x y = absurd y
  all_on (e ∷ []) (n ∷ more) x y = (begun_on e n x.0 y.0, all_back more y.1)
  all_on (e ∷ f ∷ later) [] x y = absurd y
  all_on (e ∷ f ∷ later) (n ∷ more) x y =
      (rw y.0 (begun_on e e x.0 (grows_same now second third e)), all_on (f ∷ later) more x.1 y.1)

  none_behind : (f : Entry) (later : List Entry)
      → Extends now shutdown first second (f ∷ later) [] → ⊥
  none_behind f [] h = h
  none_behind f (g ∷ more) h = h

  -- a transcript that grew twice grew
  pub extends_on : (a b c : List Entry) → Extends now shutdown first second a b
      → Extends now shutdown second third b c → Extends now shutdown first third a c
  extends_on [] b c x y = all_on b c x y
  extends_on (e ∷ []) [] c x y = absurd x
  extends_on (e ∷ []) (n ∷ []) [] x y = absurd y
  extends_on (e ∷ []) (n ∷ []) (m ∷ rest) x y = (grows_on e n m x.0 y.0, all_back rest y.1)
  extends_on (e ∷ []) (n ∷ g ∷ more) [] x y = absurd y
  extends_on (e ∷ []) (n ∷ g ∷ more) (m ∷ rest) x y =
      (rw y.0 (grows_on e n n x.0 (grows_same now second third n)), all_on (g ∷ more) rest x.1 y.1)
  extends_on (e ∷ f ∷ later) [] c x y = absurd x
  extends_on (e ∷ f ∷ later) (n ∷ []) c x y = absurd (none_behind f later x.1)
  extends_on (e ∷ f ∷ later) (n ∷ g ∷ more) [] x y = absurd y
  extends_on (e ∷ f ∷ later) (n ∷ g ∷ more) (m ∷ rest) x y =
      (y.0 ∙ x.0, extends_on (f ∷ later) (g ∷ more) rest x.1 y.1)

-- replies add up
pub replies_append : (xs ys : List Entry) → replies (xs ++ ys) ≡ replies xs + replies ys
replies_append [] ys = omega arith
replies_append (e ∷ more) ys = let rest = replies_append more ys in omega (arith, rest)

-- a reply stays
reply_stays : (e n : Entry) → Stays e.reply n.reply → replies (e ∷ []) ≤ replies (n ∷ [])
reply_stays e n h = by e.reply refl h where
  by : (reply : Option Reply) → e.reply ≡ reply → Stays reply n.reply
      → replies (e ∷ []) ≤ replies (n ∷ [])
  by None is stays = rw is (omega arith)
  by (Some reply) is stays = rw (is, stays) (omega arith)

module _ (now : ℕ) (shutdown : Bool) (first second : LinkState) where
  pub extends_itself : (a : List Entry) → Extends now shutdown first second a a
  extends_itself [] = tt
  extends_itself (e ∷ []) = (grows_same now first second e, tt)
  extends_itself (e ∷ f ∷ later) = (refl, extends_itself (f ∷ later))

  -- the last exchange extends the transcript, after those that ended
  pub extends_last : (done : List Entry) (old new : Option Entry)
      → ExtendsLast now shutdown first second old new
      → Extends now shutdown first second (done ++ option_to_list old) (done ++ option_to_list new)
  extends_last [] None None h = tt
  extends_last [] None (Some b) h = (h, tt)
  extends_last [] (Some a) None h = absurd h
  extends_last [] (Some a) (Some b) h = (h, tt)
  extends_last (e ∷ []) None None h = (grows_same now first second e, tt)
  extends_last (e ∷ []) None (Some b) h = (grows_same now first second e, (h, tt))
  extends_last (e ∷ []) (Some a) None h = absurd h
  extends_last (e ∷ []) (Some a) (Some b) h = (refl, extends_last [] (Some a) (Some b) h)
  extends_last (e ∷ f ∷ more) old new h = (refl, extends_last (f ∷ more) old new h)

  -- and so replies only become more
  pub replies_grow : (a b : List Entry) → Extends now shutdown first second a b
      → replies a ≤ replies b
  replies_grow [] b h = omega arith
  replies_grow (e ∷ []) [] h = absurd h
  replies_grow (e ∷ []) (n ∷ more) h = let one = reply_stays e n h.0.reply in omega (arith, one)
  replies_grow (e ∷ f ∷ later) [] h = absurd h
  replies_grow (e ∷ f ∷ later) (n ∷ more) h =
      let rest = replies_grow (f ∷ later) more h.1 in rw h.0 (omega (arith, rest))
