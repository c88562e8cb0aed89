-- One exchange: a request, what the application read of it, its reply and what was written.
use Rattle.std.specs.Prelude.{◌/◌, ◌≡◌, ℕ, ◌<◌, ◌≤◌, List, [], ◌∷◌, ◌++◌, length, take, Bool, true, false, ◌&&◌, not, nat_lt, Option, Some, None, IfSome, IsSome, Ok}
use Rattle.h1_error.specs.declared.moment.TheConstants.{YEAR_10000}
use Rattle.h1_transcript.specs.Words.{RequestView, ResponseView, wish, Framing, Counted, Chunked, UntilClose, out, has_reuses, Reply, Entry, How, Open, Whole, Failed}
use Rattle.h1_head.specs.Wire.{head_bytes, reply_head}
use Rattle.h1_head.specs.Date.{IsDateAt}
use Rattle.h1_body.specs.Writer.{body_bytes}
use Rattle.h1_transcript.specs.BodyLimits.{IsLimitOf}
use Rattle.h1_transcript.specs.Given.{Given}
use Rattle.h1_transcript.specs.Lawful.{IsLawful}
use Rattle.h1_transcript.specs.Rules.{Rules}

-- the payload that goes out: none where the application's body was empty
abbrev pub shown : Option Reply → List ℕ → List ℕ
shown None sent = []
shown (Some reply) sent = shown_of reply.body sent where
  shown_of : List ℕ → List ℕ → List ℕ
  shown_of [] sent = []
  shown_of (b ∷ bytes) sent = sent

-- the bytes of a reply's body, where it is known yet
abbrev pub render_body : Framing → Option Reply → Option (List ℕ) → List ℕ
render_body framing reply None = []
render_body framing reply (Some sent) = body_bytes framing (shown reply sent)

-- the bytes of a reply: its head with the date and the flag, and its body
abbrev pub render_parts : List ℕ → Option Reply → Option (List ℕ) → List ℕ → Bool
    → Option ResponseView → List ℕ
render_parts method reply sent date keep None = []
render_parts method reply sent date keep (Some head) =
    head_bytes (reply_head head date keep) ++ render_body (out method head) reply sent

abbrev pub render : Entry → List ℕ
render e = render_parts e.head.method e.reply e.sent_body e.date_text e.keep e.sent_head

-- the reply states a length, and its body is known and has fewer bytes
abbrev pub is_short : Entry → Bool
is_short e = short_of e.sent_head e.sent_body where
  short_by : Framing → List ℕ → Bool
  short_by (Counted n) payload = nat_lt (length payload) n
  short_by Chunked payload = false
  short_by UntilClose payload = false

  short_of : Option ResponseView → Option (List ℕ) → Bool
  short_of None sent = false
  short_of (Some head) None = false
  short_of (Some head) (Some sent) = short_by (out e.head.method head) (shown e.reply sent)

-- The flag of a reply (RFC 9112, section 9.3): the request wishes it, keep-alive is not off, requests
-- are left, and the request's body is whole, or it may still be read.
abbrev pub may_keep : Entry → Bool
may_keep e =
    wish e.head e.both && not e.left.keep_off && has_reuses e.left.reuses && may_follow e.how where
      may_follow : How → Bool
      may_follow Whole = true
      may_follow Open = not e.left.closing
      may_follow Failed = false

-- what the application was given when it replied: the payload that it was handed, and no more
abbrev pub given_to : Entry → RequestView → Given
given_to e filtered =
    record {
      head = filtered;
      handed = take e.handed e.body;
      how = e.how;
      body_error = e.body_error;
      read_limit = e.read_limit;
      began = e.began;
      left = e.left;
    }

-- the second of the Date and the flag that went with the header
pub record IsDated (e : Entry) : Type 0 where
  pub date : IsDateAt e.date e.date_text
  pub limit : e.date < YEAR_10000 / 1000
  pub keep : e.keep ≡ may_keep e

-- What an exchange may be: the filters make the head that the application is given of the one that
-- was read, the application's relation gives the reply, and what is sent is what the filters make of
-- that reply, with one date and one flag.
pub record IsAllowed (rules : Rules) (e : Entry) : Type 0 where
  pub filtered : IfSome e.filtered (λ filtered. rules.filters.request e.head ≡ Ok filtered)
  pub reply : IfSome e.reply (λ reply. (filtered : RequestView) × (e.filtered ≡ Some filtered)
      × rules.gives (given_to e filtered) reply)
  pub sent_head : IfSome e.sent_head (λ header. (reply : Reply) × (e.reply ≡ Some reply)
      × (rules.filters.header e.head reply ≡ Ok header) × IsLawful header × IsDated e)
  pub sent_body : IfSome e.sent_body (λ sent. (reply : Reply) × (e.reply ≡ Some reply)
      × (rules.filters.body e.head reply ≡ Ok sent))
  pub handed : e.handed ≤ length e.body
  -- of a body no more is noted than its limit
  pub bound : length e.body ≤ e.holding.limit
  pub reuses : e.left.reuses ≡ e.began.reuses
  pub owed : e.owed ≡ true → IsSome e.sent_head
  -- the read timeout is kept that a read reached which timed out
  pub limit : IsLimitOf e.body_error e.read_limit
