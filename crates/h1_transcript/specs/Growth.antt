-- How a transcript grows in a poll.
use Rattle.std.specs.Prelude.{◌≡◌, ℕ, ◌/◌, ◌≤◌, List, [], ◌∷◌, ◌++◌, Bool, Option, Some, None, IfSome}
use Rattle.h1_error.specs.declared.error.ErrorType.TheVariants as kind
use Rattle.h1_transcript.specs.Words.{AllByRecursion, Error, ErrorType, LinkState, Rose, ResponseView, Reply, Entry}

-- a value that is there stays
abbrev pub Stays : {T : Type 0} → Option T → Option T → Type 0
Stays None new = Unit {0}
Stays (Some value) new = new ≡ Some value

-- what goes with a value that is there stays
abbrev pub StaysWith : {T U : Type 0} → Option T → U → U → Type 0
StaysWith None old new = Unit {0}
StaysWith (Some value) old new = new ≡ old

-- A header that is taken up at this moment has its second; one that was there keeps its date and
-- its flag.
abbrev pub DatedAt : ℕ → Option ResponseView → Entry → Entry → Type 0
DatedAt now None old new = IfSome new.sent_head (λ header. new.date ≡ now / 1000)
DatedAt now (Some header) old new =
    (new.date ≡ old.date) × (new.date_text ≡ old.date_text) × (new.keep ≡ old.keep)

-- after the reply, what the application gave it for stays
abbrev pub RepliedOn : Option Reply → Entry → Entry → Type 0
RepliedOn None old new = Unit {0}
RepliedOn (Some reply) old new =
    (new.how ≡ old.how) × (new.left ≡ old.left) × (new.handed ≡ old.handed)
    × (new.read_limit ≡ old.read_limit)

-- a read failed between these states of the link, or was not ready, where the error tells that
abbrev pub RoseFor : LinkState → LinkState → ErrorType → Type 0
RoseFor before behind kind.ReadError = Rose before.read_faults behind.read_faults
RoseFor before behind kind.ReadTimedout = Rose before.read_waits behind.read_waits
RoseFor before behind _ = Unit {0}

-- a body is refused for a read that failed or waited too long only where one did between these
-- states of the link
abbrev pub RefusedIn : LinkState → LinkState → Option Error → Option Error → Type 0
RefusedIn before behind None new = IfSome new (λ error. RoseFor before behind error.kind)
RefusedIn before behind (Some error) new = Unit {0}

-- the same exchange, further on, at this moment and with these states of the link around
pub record Grows (now : ℕ) (before behind : LinkState) (old new : Entry) : Type 0 where
  pub head : new.head ≡ old.head
  pub both : new.both ≡ old.both
  pub filtered : Stays old.filtered new.filtered
  pub body : (more : List ℕ) × (new.body ≡ old.body ++ more)
  pub handed : old.handed ≤ new.handed
  pub body_error : Stays old.body_error new.body_error
  pub refused : RefusedIn before behind old.body_error new.body_error
  pub read_limit : StaysWith old.body_error old.read_limit new.read_limit
  pub reply : Stays old.reply new.reply
  pub replied : RepliedOn old.reply old new
  pub sent_head : Stays old.sent_head new.sent_head
  pub dated : DatedAt now old.sent_head old new
  pub sent_body : Stays old.sent_body new.sent_body
  pub written : old.written ≤ new.written
  pub began : new.began ≡ old.began
  pub holding : new.holding ≡ old.holding

-- An exchange that began at this moment, with these states of the link around: keep-alive is off
-- where the connection shuts down.
pub record IsBegun (now : ℕ) (shutdown : Bool) (before behind : LinkState)
    (new : Entry) : Type 0 where
  pub keep_off : new.began.keep_off ≡ shutdown
  pub dated : IfSome new.sent_head (λ header. new.date ≡ now / 1000)
  pub refused : RefusedIn before behind None new.body_error

-- every exchange but the last stays, the last grows, and more may begin after it
abbrev pub Extends : ℕ → Bool → LinkState → LinkState → List Entry → List Entry → Type 0
Extends now shutdown before behind [] new = AllByRecursion (IsBegun now shutdown before behind) new
Extends now shutdown before behind (e ∷ []) [] = ⊥
Extends now shutdown before behind (e ∷ []) (n ∷ more) =
    Grows now before behind e n × AllByRecursion (IsBegun now shutdown before behind) more
Extends now shutdown before behind (e ∷ f ∷ later) [] = ⊥
Extends now shutdown before behind (e ∷ f ∷ later) (n ∷ more) =
    (n ≡ e) × Extends now shutdown before behind (f ∷ later) more

-- the exchange that is last grows, or begins
abbrev pub ExtendsLast : ℕ → Bool → LinkState → LinkState → Option Entry → Option Entry → Type 0
ExtendsLast now shutdown before behind None None = Unit {0}
ExtendsLast now shutdown before behind None (Some new) = IsBegun now shutdown before behind new
ExtendsLast now shutdown before behind (Some old) None = ⊥
ExtendsLast now shutdown before behind (Some old) (Some new) = Grows now before behind old new
