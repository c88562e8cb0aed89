-- Lemmas on reads of a part of a body, one after the other.
use Rattle.std.proofs.Common.{◌≡◌, ℕ, ◌+◌, ◌*◌, ◌<◌, ◌≤◌, inl, inr, List, [], ◌∷◌, ◌++◌, length, Option, Some, None, option_map, refl, sym, ap, ◌∙◌, append-nil, append_assoc, length-append, arith, Ok}
use Rattle.h1_transfer.specs.Words.{LinkState, Body, whole, unfinished, broken, ahead, stop_of, FeedState, reads, BodyReader, Filled, TakeStep, Payload, grown}
use Rattle.std.proofs.lemmas.Bool.{cases_lt}
use Rattle.std.proofs.Math.Seq.{take-nil}
use Rattle.h1_body.specs.Body.{payload_of}
use Rattle.h1_body.specs.Chunks.{state_of}
use Rattle.h1_body.specs.declared.fed.FeedState.TheVariants.{More, Done, Broken}
use Rattle.h1_body.specs.declared.reader.Reading.{Reading}
use Rattle.h1_body.specs.declared.reader.Reading.TheVariants as reading
use Rattle.h1_body.proofs.PayloadLemmas.{payload_ahead}
use Rattle.h1_body.proofs.CountedLemmas.{counted_has, counted_lacks}
use Rattle.h1_body.specs.Reader.{read_as}
use Rattle.h1_body.proofs.RunLemmas.{ahead-ahead, ahead_none}
use Rattle.h1_transfer.proofs.Words.{ReadsBody, IsUnfinished, FillsBy, Uses, cost}
use Rattle.h1_transfer.specs.Decoding.{Decoded, Lacks}
use Rattle.h1_transfer.specs.Taking.{TakesBody, taken_payload}
use Rattle.h1_transfer.specs.declared.taking.TakeStep.TheVariants as step
use Rattle.h1_transfer.proofs.MovedLemmas.{read_nothing, received_behind, received_filled, received_itself, received_on}

decoded_none : (reader : BodyReader) → Decoded reader reader [] []
decoded_none reader = record { reads = λ more. sym (ahead_none (reads reader more)) }

decoded_on : {r s t : BodyReader} {first second front later : List ℕ} → Decoded r s first front
    → Decoded s t second later → Decoded r t (first ++ second) (front ++ later)
decoded_on {r} {s} {t} {first} {second} {front} {later} before behind = record {
  reads = λ more. rw (
    append_assoc first second more,
    before.reads (second ++ more),
    behind.reads more,
    ahead-ahead front later (length first) (length second) (reads t more),
    length-append first second,
  ) refl;
}

pub kept_none : (kept : Option Payload) → kept ≡ option_map (grown []) kept
kept_none None = refl
kept_none (Some front) = ap (λ bytes. Some (record front { bytes = bytes })) (sym (append-nil front.bytes))

-- where nothing is used, nothing changes
pub uses_nothing : (old : List ℕ) (reader : BodyReader) (kept : Option Payload)
    → Uses old old reader reader kept kept []
uses_nothing old reader kept = record {
  used = [];
  bytes = refl;
  decoded = decoded_none reader;
  keeps_payload = kept_none kept;
}

pub kept_on : (a b c : Option Payload) (front later : List ℕ) → b ≡ option_map (grown front) a
    → c ≡ option_map (grown later) b → c ≡ option_map (grown (front ++ later)) a
kept_on a b c front later first second = rw (second, first) (kept_both a) where
  kept_both : (a : Option Payload) → option_map (grown later) (option_map (grown front) a)
      ≡ option_map (grown (front ++ later)) a
  kept_both None = refl
  kept_both (Some kept) =
      ap (λ bytes. Some (record kept { bytes = bytes })) (append_assoc kept.bytes front later)

pub reads_body_itself : (s : LinkState) (received : List ℕ) (reader : BodyReader) (kept : Option Payload) (budget : ℕ)
    → ReadsBody s s received received reader reader kept kept budget budget []
reads_body_itself s received reader kept budget = record {
  used = [];
  received = received_itself s received budget;
  decoded = decoded_none reader;
  keeps_payload = kept_none kept;
}

-- nothing but received bytes is used next
pub body_took : {a b : LinkState} {x y z : List ℕ} {r s t : BodyReader}
    {k l m : Option Payload} {budget left : ℕ} {taken which : TakeStep}
    → ReadsBody a b x y r s k l budget left [] → taken ≡ which → TakesBody y z s t l m (Ok taken)
    → ReadsBody a b x z r t k m budget left (taken_payload which)
body_took {z = z} {k = k} {l = l} {m = m} {which = which} before is takes =
    let uses = (rw is at takes).0 in
    record {
      used = before.used ++ uses.used;
      received = rw (append_assoc before.used uses.used z, ← uses.bytes) before.received;
      decoded = decoded_on before.decoded uses.decoded;
      keeps_payload = kept_on k l m [] (taken_payload which) before.keeps_payload uses.keeps_payload;
    }

-- then the link is read once, where all that was received is used
pub body_filled : {a b c : LinkState} {x y z w : List ℕ} {r s t : BodyReader}
    {k l m : Option Payload} {budget between left : ℕ} {filled : Filled} {taken : TakeStep}
    → ReadsBody a b x y r s k l budget between [] → taken ≡ step.Lacks → TakesBody y z s t l m (Ok taken)
    → FillsBy b c z w filled → cost filled + left ≡ between → ReadsBody a c x w r t k m budget left []
body_filled before is takes fills spends =
    let took = body_took before is takes in
    record {
      used = took.used;
      received = received_on took.received (received_behind took.used (received_filled fills spends));
      decoded = took.decoded;
      keeps_payload = took.keeps_payload;
    }

-- where nothing was read yet and all that was received is used, it was a part of a body
pub parsed_first : {a b : LinkState} {x y : List ℕ} {r t : BodyReader} {k l : Option Payload} {budget left : ℕ}
    → ReadsBody a b x y r t k l budget left [] → budget ≤ left → Lacks t y → reads r x ≡ unfinished []
parsed_first {r = r} read none lacks =
    read_nothing _ _ _ _ _ _ (λ bytes. reads r bytes ≡ unfinished []) read.received none
    (rw lacks.0 (read.decoded.reads [] ∙ ap (ahead [] (length read.used)) lacks.1))

-- payload that was read and more after it is a part of a body, where the rest is
parsed_later : {a b : LinkState} {x y : List ℕ} {r t : BodyReader} {k l : Option Payload}
    {budget left : ℕ} {payload : List ℕ}
    → ReadsBody a b x y r t k l budget left payload → budget ≤ left → IsUnfinished (reads t y)
    → IsUnfinished (reads r x)
parsed_later {y = y} {r = r} {t = t} {payload = payload} read none rest =
    read_nothing _ _ _ _ _ _ (λ bytes. IsUnfinished (reads r bytes)) read.received none
    (rw (read.decoded.reads y) (goes_on payload (length read.used) (reads t y) rest))
  where
    goes_on : (front : List ℕ) (n : ℕ) (b : Body) → IsUnfinished b → IsUnfinished (ahead front n b)
    goes_on front n (whole payload used) rest = rest
    goes_on front n (unfinished payload) rest = rest
    goes_on front n (broken payload) rest = rest

-- what was received was a part of a body where a reading, or one after it, read more
pub parsed_behind : {a b : LinkState} {x y : List ℕ} {r s : BodyReader} {k l : Option Payload}
    {budget between left : ℕ} {payload : List ℕ}
    → ReadsBody a b x y r s k l budget between payload → (between < budget → IsUnfinished (reads r x))
    → (left < between → reads s y ≡ unfinished []) → left < budget → IsUnfinished (reads r x)
parsed_behind {budget = budget} {between = between} read before after less = elim (cases_lt between budget) [
  | inl more ↦ before more
  | inr none ↦ parsed_later read none (rw (after (omega (arith, less, none))) tt)
]

-- one reading after another
pub reads_body_on : {a b c : LinkState} {x y z : List ℕ} {r s t : BodyReader}
    {k l m : Option Payload} {budget between left : ℕ} {payload later : List ℕ}
    → ReadsBody a b x y r s k l budget between payload → ReadsBody b c y z s t l m between left later
    → ReadsBody a c x z r t k m budget left (payload ++ later)
reads_body_on {z = z} {k = k} {l = l} {m = m} {payload = payload} {later = later} first second = record {
  used = first.used ++ second.used;
  received = rw (append_assoc first.used second.used z)
      (received_on first.received (received_behind first.used second.received));
  decoded = decoded_on first.decoded second.decoded;
  keeps_payload = kept_on k l m payload later first.keeps_payload second.keeps_payload;
}

-- a reader makes no payload of no bytes
pub nothing_read : (reading : Reading) → payload_of (read_as reading []) ≡ []
nothing_read (reading.Counted left) = elim (cases_lt 0 left) [
  | inl some ↦ ap payload_of (counted_lacks left [] some)
  | inr none ↦ ap payload_of (counted_has left [] none) ∙ take-nil left
]
nothing_read (reading.Chunked place) = stops (state_of place) where
  stops : (s : FeedState) → payload_of (stop_of s) ≡ []
  stops More = refl
  stops Done = refl
  stops Broken = refl
nothing_read reading.UntilClose = refl
nothing_read reading.Ended = refl

-- payload comes of bytes that are used
uses_some : (r s : BodyReader) (used payload : List ℕ) → Decoded r s used payload → 0 < length payload → 0 < length used
uses_some r s [] payload d some =
    let same : [] ≡ payload ++ payload_of (reads s []) =
    sym (nothing_read r.reading) ∙ ap payload_of (d.reads []) ∙ payload_ahead payload 0 (reads s []) in
    absurd (omega (arith, simp length-append at (ap length same), some))
uses_some r s (b ∷ used) payload d some = omega arith

-- a read that gave payload spent budget, or used what was received
pub drains_less : {a b : LinkState} {x y : List ℕ} {r s : BodyReader} {k l : Option Payload}
    {budget left : ℕ} {payload : List ℕ}
    → ReadsBody a b x y r s k l budget left payload → 0 < length payload → length y < 9223372036854775808
    → left * 9223372036854775808 + length y < budget * 9223372036854775808 + length x
drains_less {y = y} {budget = budget} {left = left} read some bound = elim (cases_lt left budget) [
  | inl less ↦ omega (arith, less, bound)
  | inr same ↦
      let bytes = read_nothing _ _ _ _ _ _ (λ bytes. length bytes ≡ length read.used + length y) read.received same
      (length-append read.used y) in
      omega (arith, same, read.received.within, bytes, uses_some _ _ _ _ read.decoded some)
]
