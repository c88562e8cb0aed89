-- What each exchange begins with (RFC 9112, section 9.3).
use Rattle.std.specs.Prelude.{◌≡◌, ℕ, ◌+◌, ◌-◌, List, [], ◌∷◌, length, Bool, true, false, Option, Some, None}
use Rattle.h1_server.specs.Keepalive.{keepalive_timeout}
use Rattle.h1_server.specs.Times.{new_times}
use Rattle.h1_transcript.specs.Words.{KEEPALIVE_SECONDS, Holding, Settings, Entry}

-- the time for a head in seconds, or none where the connection shuts down
abbrev pub head_time : Bool → Option ℕ
head_time true = None
head_time false = Some KEEPALIVE_SECONDS

-- how many requests more may follow the one with this index, under this limit
abbrev pub reuses_at : Option ℕ → ℕ → Option ℕ
reuses_at None i = None
reuses_at (Some limit) i = Some (limit - i)

-- whether bytes after the last of these exchanges begin the next one, as it was set last
abbrev pub pipelining_behind : Bool → List Entry → Bool
pipelining_behind first [] = first
pipelining_behind first (e ∷ more) = pipelining_behind e.left.pipelining more

-- what a connection is made with: how many requests more than the first it may serve, where none is
-- no limit, and what it holds of its exchanges
pub record Terms : Type 0 where
  pub limit : Option ℕ
  pub holding : Holding

-- what is set where the exchange with this index is next, but for keep-alive
pub record IsSetFor (limit : Option ℕ) (i : ℕ) (pipelining : Bool)
    (settings : Settings) : Type 0 where
  pub closing : settings.closing ≡ true
  pub pipelining_is : settings.pipelining ≡ pipelining
  pub reuses : settings.reuses ≡ reuses_at limit i
  pub times : settings.times ≡ new_times

-- keep-alive has the time for a head, where it is on
abbrev pub HasHeadTime : Settings → Type 0
HasHeadTime settings = keepalive_timeout settings ≡ head_time settings.keep_off

-- what the exchange with this index begins with, and what is held of it
pub record IsBegunFor (terms : Terms) (i : ℕ) (pipelining : Bool) (e : Entry) : Type 0 where
  pub set : IsSetFor terms.limit i pipelining e.began
  pub keepalive : HasHeadTime e.began
  pub holding : e.holding ≡ terms.holding

-- each exchange, counted from this index, began so; pipelining is what the one before left
abbrev pub AreBegun : Terms → ℕ → Bool → List Entry → Type 0
AreBegun terms i pipelining [] = Unit {0}
AreBegun terms i pipelining (e ∷ more) =
    IsBegunFor terms i pipelining e × AreBegun terms (i + 1) e.left.pipelining more

-- after these exchanges it is set so for the next one
abbrev pub IsNextSet : Terms → List Entry → Settings → Type 0
IsNextSet terms done settings =
    IsSetFor terms.limit (length done) (pipelining_behind false done) settings

-- as much is held of an exchange that begins as the connection holds of its exchanges
abbrev pub BeginsIn : Holding → Option Entry → Option Entry → Type 0
BeginsIn holding None (Some e) = e.holding ≡ holding
BeginsIn holding _ _ = Unit {0}

-- what an exchange takes from what was set before it
pub record IsSetAlike (old new : Settings) : Type 0 where
  pub closing : new.closing ≡ old.closing
  pub pipelining : new.pipelining ≡ old.pipelining
  pub reuses : new.reuses ≡ old.reuses
  pub times : new.times ≡ old.times

-- an exchange that begins takes what was set, with the time for a head; and it stays set where none
-- begins
abbrev pub BeginsWith : Settings → Settings → Option Entry → Option Entry → Type 0
BeginsWith old new None None = IsSetAlike old new
BeginsWith old new None (Some e) = IsSetAlike old e.began × HasHeadTime e.began
BeginsWith old new (Some e) last = Unit {0}
