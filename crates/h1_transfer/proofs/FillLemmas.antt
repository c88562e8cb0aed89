-- Lemmas on a read into the room behind the received bytes.
use Rattle.std.proofs.Common.{◌≡◌, ℕ, ◌+◌, ◌-◌, ◌≤◌, List, [], ◌++◌, length, take, drop, refl, ap, ◌∙◌, append_assoc, arith}
use Rattle.std.proofs.lemmas.List.{take-append-le, take-take}
use borrow.Rule.Slice.PartMut.{put_mid, post_of}
use Rattle.bytes.proofs.Ranges.{take-append_past}
use Rattle.h1_transfer.specs.Words.{LinkState, Filled}
use Rattle.h1_transfer.proofs.Words.{FillsBy}

-- bytes with room behind them, of which the room was lent and begins with what was read
read_behind : (old room got rest : List ℕ) (k n : ℕ) → take (length old) room ≡ old
    → n ≤ length got → length old + n ≤ length room
    → take (length old + n) (take (length room) (put_mid (length old) k room got ++ rest))
    ≡ old ++ take n got
read_behind old room got rest k n front few fits =
    let behind = post_of (length old) k room in
    take-take (length old + n) (length room) _ fits
    ∙ rw (front, append_assoc old (got ++ behind) rest, append_assoc got behind rest)
    (take-append_past old _ n (length old + n) refl
    ∙ ap (λ bytes. old ++ bytes) (take-append-le n got (behind ++ rest) few))

-- so where the room behind the received bytes was lent
pub room_filled : (old room all got : List ℕ) (len n more : ℕ) → len ≡ length old → all ≡ room
    → take (length old) room ≡ old → length room ≡ length old + more
    → length got ≡ length all - len → n ≤ length got
    → take (len + n) (take (length room) (put_mid len (length all - len) all got
    ++ drop (length (put_mid len (length all - len) all got)) room)) ≡ old ++ take n got
room_filled old room all got len n more is same front long size few =
    let size_so = size ∙ ap (λ xs. length xs - len) same ∙ ap (λ m. length room - m) is in
    let fits : length old + n ≤ length room = omega (arith, long, size_so, few) in
    rw (is, same) (read_behind old room got _ (length room - length old) n front few fits)

-- what was read stands behind what was received
pub fills_behind : (a b : LinkState) (old new piece : List ℕ) (came_to : Filled)
    → FillsBy a b [] piece came_to → new ≡ old ++ piece → FillsBy a b old new came_to
fills_behind a b old new piece came_to fills is = record {
  piece = fills.piece;
  moved = fills.moved;
  bytes = is ∙ ap (λ bytes. old ++ bytes) fills.bytes;
  flushed = fills.flushed;
  few = fills.few;
  cause = fills.cause;
}
