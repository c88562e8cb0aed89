-- Lemmas on what a call moved over its link.
use Rattle.std.proofs.Common.{◌≡◌, ℕ, ◌+◌, ◌-◌, ◌≤◌, ◌<◌, List, [], ◌++◌, length, take, drop, Option, refl, sym, ap, subst, ◌∙◌, append-nil, append_assoc, length-append, take-append-drop, take-take, length-take, length-drop, arith, min, ◌^◌, eqb, cond, false}
use Rattle.std.proofs.lemmas.List.{length-take-le}
use Rattle.std.proofs.lemmas.Bool.Decides.{nat_tests}
use Rattle.h1_transfer.specs.Words.{append_known, LinkState, Later, Filled}
use Rattle.h1_link.proofs.Laters.{append_known-nil, append_known-on, later_itself, later_on, later_write}
use Rattle.h1_link.specs.Steps.{after_write, after_bytes, after_no_byte}
use Rattle.h1_link.specs.declared.link.WriteStep.TheVariants as write
use Rattle.h1_transfer.specs.Heads.{ReceivesHead}
use Rattle.h1_transfer.proofs.Words.{Received, Sent, FillsBy, cost, sent_after}
use Rattle.h1_transfer.specs.Moved.{Moved}

pub moved_itself : (s : LinkState) → Moved s s [] [] 0
moved_itself s = record {
  given = sym (append_known-nil s.given);
  written = sym (append_known-nil s.written);
  rose = omega arith;
  most = omega arith;
  enough = omega arith;
  free = λ none. (refl, refl);
  out = omega arith;
  later = later_itself s;
}

pub known_on : (a b c : Option (List ℕ)) (x y : List ℕ) → b ≡ append_known a x → c ≡ append_known b y
    → c ≡ append_known a (x ++ y)
known_on a b c x y first second = second ∙ ap (λ known. append_known known y) first ∙ append_known-on a x y

pub moved_on : (a b c : LinkState) (read more wrote further : List ℕ) (spent then : ℕ)
    → Moved a b read wrote spent → Moved b c more further then
    → Moved a c (read ++ more) (wrote ++ further) (spent + then)
moved_on a b c read more wrote further spent then first second = record {
  given = known_on _ _ _ _ _ first.given second.given;
  written = known_on _ _ _ _ _ first.written second.written;
  rose = omega arith;
  most = omega arith;
  enough = omega (arith, length-append read more, length-append wrote further);
  free = λ none.
      let front = first.free (omega (arith, none)) in
      let back = second.free (omega (arith, none)) in
      (rw (front.0, back.0) refl, rw (front.1, back.1) refl);
  out = omega (arith, length-append wrote further);
  later = later_on _ _ _ first.later second.later;
}

pub sent_itself : (s : LinkState) (owed : List ℕ) (budget : ℕ) → Sent s s owed owed budget budget
sent_itself s owed budget = record {
  piece = [];
  moved = let spent : budget - budget ≡ 0 = omega arith in rw spent (moved_itself s);
  bytes = refl;
  within = omega arith;
  unread = refl;
}

pub sent_on : {a b c : LinkState} {x y z : List ℕ} {budget between left : ℕ}
    → Sent a b x y budget between → Sent b c y z between left → Sent a c x z budget left
sent_on {z = z} {budget = budget} {between = between} {left = left} first second = record {
  piece = first.piece ++ second.piece;
  moved = let spent : budget - left ≡ (budget - between) + (between - left) = omega arith in
      rw spent (moved_on _ _ _ [] [] _ _ _ _ first.moved second.moved);
  bytes = first.bytes ∙ ap (λ rest. first.piece ++ rest) second.bytes ∙ sym (append_assoc first.piece second.piece z);
  within = omega arith;
  unread = second.unread ∙ first.unread;
}

zero_test : (n : ℕ) → 0 < n → eqb n 0 ≡ false
zero_test n some = grind (arith, nat_tests)

-- what a write does that took some bytes
pub took : (s : LinkState) (piece : List ℕ) (n : ℕ) → 0 < n
    → after_write s piece (write.Took n) ≡ after_bytes s (take n piece) n
took s piece n some =
    ap (λ t. cond t (after_no_byte s piece) (after_bytes s (take n piece) n)) (zero_test n some)

later_bytes_taken : (s : LinkState) (piece : List ℕ) (n : ℕ) → 0 < n → Later s (after_bytes s (take n piece) n)
later_bytes_taken s piece n some = rw (took s piece n some) at (later_write s piece (write.Took n))

-- a front of a front is a front
take_front : (owed front : List ℕ) (n : ℕ) → front ≡ take (length front) owed → n ≤ length front
    → take n front ≡ take n owed
take_front owed front n is within =
    ap (λ bytes. take n bytes) is ∙ take-take n (length front) owed within

pub sent_one : (s : LinkState) (owed front : List ℕ) (n budget : ℕ) → front ≡ take (length front) owed
    → 0 < n → n ≤ length front → 0 < budget
    → Sent s (after_write s front (write.Took n)) owed (drop n owed) budget (budget - 1)
sent_one s owed front n budget is some within spend = record {
  piece = take n front;
  moved = rw (took s front n some) (record {
    given = sym (append_known-nil s.given);
    written = refl;
    rose = omega arith;
    most = omega arith;
    enough = omega (arith, length-take-le n front within);
    free = λ none. absurd (omega (arith, none, spend));
    out = let taken : length (take n front) ≡ n = length-take-le n front within in omega arith;
    later = later_bytes_taken s front n some;
  });
  bytes = sym (ap (λ bytes. bytes ++ drop n owed) (take_front owed front n is within) ∙ take-append-drop n owed);
  within = omega arith;
  unread = ap (λ (x : LinkState). x.read_waits) (took s front n some);
}

-- a front is no longer than the whole
pub front_len : (owed front : List ℕ) (n : ℕ) → front ≡ take (length front) owed → n ≤ length front
    → n ≤ length owed
front_len owed front n is within =
    let len : length front ≡ min (length front) (length owed) =
    ap (λ bytes. length bytes) is ∙ length-take (length front) owed in
    omega arith

-- what one write more counts
pub sent_after_on : (before owed piece : List ℕ) (sent n : ℕ) → before ≡ piece ++ owed → n ≤ length owed
    → min (sent_after sent before owed + n) (2 ^ 64 - 1) ≡ sent_after sent before (drop n owed)
sent_after_on before owed piece sent n is within =
    let len : length before ≡ length piece + length owed = ap (λ bytes. length bytes) is ∙ length-append piece owed in
    let rest : length (drop n owed) ≡ length owed - n = length-drop n owed in
    omega arith

pub received_itself : (s : LinkState) (bytes : List ℕ) (budget : ℕ) → Received s s bytes bytes budget budget
received_itself s bytes budget = record {
  piece = [];
  moved = let spent : budget - budget ≡ 0 = omega arith in rw spent (moved_itself s);
  bytes = sym (append-nil bytes);
  within = omega arith;
  flushed = refl;
}

-- one read after another
pub received_on : {a b c : LinkState} {x y z : List ℕ} {budget between left : ℕ}
    → Received a b x y budget between → Received b c y z between left → Received a c x z budget left
received_on {x = x} {budget = budget} {between = between} {left = left} first second = record {
  piece = first.piece ++ second.piece;
  moved = let spent : budget - left ≡ (budget - between) + (between - left) = omega arith in
      rw spent (moved_on _ _ _ _ _ [] [] _ _ first.moved second.moved);
  bytes = second.bytes ∙ ap (λ front. front ++ second.piece) first.bytes ∙ append_assoc x first.piece second.piece;
  within = omega arith;
  flushed = second.flushed ∙ first.flushed;
}

-- what comes behind some bytes comes behind more
pub received_behind : (front : List ℕ) {a b : LinkState} {x y : List ℕ} {budget left : ℕ}
    → Received a b x y budget left → Received a b (front ++ x) (front ++ y) budget left
received_behind front {x = x} read = record {
  piece = read.piece;
  moved = read.moved;
  bytes = ap (λ bytes. front ++ bytes) read.bytes ∙ sym (append_assoc front x read.piece);
  within = read.within;
  flushed = read.flushed;
}

-- one read of the link takes its cost from the budget
pub received_filled : {a b : LinkState} {x y : List ℕ} {budget left : ℕ} {filled : Filled}
    → FillsBy a b x y filled → cost filled + left ≡ budget → Received a b x y budget left
received_filled {budget = budget} {left = left} {filled = filled} fills spends = record {
  piece = fills.piece;
  moved = let spent : budget - left ≡ cost filled = omega arith in rw spent fills.moved;
  bytes = fills.bytes;
  within = omega arith;
  flushed = fills.flushed;
}

-- one read more
pub received_fills : (a b c : LinkState) (x y z : List ℕ) (budget left : ℕ) (filled : Filled)
    → Received a b x y budget left → FillsBy b c y z filled → cost filled ≤ left
    → Received a c x z budget (left - cost filled)
received_fills a b c x y z budget left filled before fills spend =
    received_on before (received_filled fills (omega arith))

-- one read more that costs nothing, of a head, of which no read was pending before
pub receives_free : (lacks : List ℕ → Type 0) (a b c : LinkState) (x y z : List ℕ) (budget left : ℕ)
    (filled : Filled) → cost filled ≡ 0 → Received a b x y budget left
    → b.read_waits ≡ a.read_waits → (left < budget → lacks x) → FillsBy b c y z filled
    → ReceivesHead lacks a c x z budget left
receives_free lacks a b c x y z budget left filled free before calm parsed fills = record {
  received = received_on before (received_filled fills (omega arith));
  parsed = parsed;
  few = omega (arith, calm, fills.few);
}

-- what holds of what is received held of it before, where nothing was read
pub read_nothing : (a b : LinkState) (x y : List ℕ) (budget left : ℕ) (P : List ℕ → Type 0)
    → Received a b x y budget left → budget ≤ left → P y → P x
read_nothing a b x y budget left P read none h =
    let nothing : read.piece ≡ [] = (read.moved.free (omega (arith, none))).0 in
    subst P (read.bytes ∙ ap (λ p. x ++ p) nothing ∙ append-nil x) h
