-- What a reader of a body of stated length makes of bytes.
use Rattle.std.proofs.Common.{◌≡◌, ℕ, ◌+◌, ◌-◌, ◌<◌, ◌≤◌, List, [], ◌++◌, length, take, slice_range, refl, sym, ap, subst, ◌⊎◌, ◌∙◌, arith, length-append, inl, inr, cond}
use Rattle.std.proofs.lemmas.List.{take_all, length-take-le}
use Rattle.std.proofs.Math.Seq.{take-append-add, take-nil}
use Rattle.std.proofs.lemmas.Bool.{cases_lt}
use Rattle.std.proofs.lemmas.Bool.Decides.{leb_tells}
use Rattle.h1_body.specs.Body.{whole, unfinished, ahead, payload_of}
use Rattle.h1_body.specs.Reader.{counted}
use Rattle.h1_body.specs.Feeds.{fed_of, Feeds}
use Rattle.h1_body.specs.declared.fed.FeedState.TheVariants as state

pub counted_has : (n : ℕ) (bytes : List ℕ) → n ≤ length bytes
    → counted n bytes ≡ whole (take n bytes) n
counted_has n bytes h = elim (leb_tells n (length bytes)) [
  | inl fits ↦ ap (λ b. cond b (whole (take n bytes) n) (unfinished bytes)) fits.0
  | inr lacks ↦ absurd (omega (arith, lacks.1))
]

pub counted_lacks : (n : ℕ) (bytes : List ℕ) → length bytes < n → counted n bytes ≡ unfinished bytes
counted_lacks n bytes h = elim (leb_tells n (length bytes)) [
  | inl fits ↦ absurd (omega (arith, fits.1))
  | inr lacks ↦ ap (λ b. cond b (whole (take n bytes) n) (unfinished bytes)) lacks.0
]

-- bytes of the body in front
pub counted-append : (n : ℕ) (bytes more : List ℕ) → length bytes ≤ n
    → counted n (bytes ++ more) ≡ ahead bytes (length bytes) (counted (n - length bytes) more)
counted-append n bytes more h =
    elim (leb_tells (n - length bytes) (length more)) [
      | inl fits ↦
          let e : length bytes + (n - length bytes) ≡ n = omega arith in
          let front : take n (bytes ++ more) ≡ bytes ++ take (n - length bytes) more =
          ap (λ k. take k (bytes ++ more)) (sym e)
          ∙ take-append-add bytes more (n - length bytes) in
          rw (
            counted_has n (bytes ++ more) (omega (arith, length-append bytes more, fits.1)),
            counted_has (n - length bytes) more fits.1,
            front,
            e,
          ) refl
      | inr lacks ↦
          rw (
            counted_lacks n (bytes ++ more) (omega (arith, length-append bytes more, lacks.1)),
            counted_lacks (n - length bytes) more lacks.1,
          ) refl
    ]

front_range : (piece : List ℕ) (n : ℕ) → slice_range piece 0 n ≡ take n piece
front_range piece n = let e : n - 0 ≡ n = omega arith in ap (λ k. take k piece) e

whole_range : (piece : List ℕ) → slice_range piece 0 (length piece) ≡ piece
whole_range piece = take_all (length piece - 0) piece (omega arith)

-- no bytes give no payload
nothing_counted : (left : ℕ) → payload_of (counted left []) ≡ []
nothing_counted left = elim (cases_lt 0 left) [
  | inl some ↦ ap payload_of (counted_lacks left [] some)
  | inr none ↦ ap payload_of (counted_has left [] none) ∙ take-nil left
]

-- the body goes on after the piece
pub counted_goes : (left : ℕ) (piece : List ℕ) → length piece < left
    → Feeds (counted left) (counted (left - length piece)) piece (fed_of 0 (length piece) state.More)
counted_goes left piece h =
    let all : take (length piece) piece ≡ piece = take_all (length piece) piece (omega arith) in
    record {
      ordered = omega arith;
      used_up = refl;
      within = omega arith;
      front = nothing_counted left;
      reads = λ more. rw (all, whole_range piece) (counted-append left piece more (omega arith));
      state = sym (counted_lacks (left - length piece) [] (omega arith));
      moves = λ _ some. some;
      stays = inl (counted_lacks left [] (omega arith));
      rests = inl refl;
      first = λ some.
          let front : length (take (length piece - 1) piece) ≡ length piece - 1 =
          length-take-le (length piece - 1) piece (omega arith) in
          rw (front_range piece (length piece - 1))
          (counted_lacks left (take (length piece - 1) piece) (omega arith));
    }

some_left : (left : ℕ) → counted left [] ≡ unfinished [] → 0 < left
some_left left e = elim (cases_lt 0 left) [
  | inl some ↦ some
  | inr none ↦ let done = counted_has left [] (omega arith) in absurd cc
]

none_or_goes : (left : ℕ) → (counted left [] ≡ unfinished []) ⊎ (left ≡ 0)
none_or_goes left = elim
    (cases_lt 0 left) [
      | inl some ↦ inl (counted_lacks left [] (omega arith))
      | inr none ↦
          inr (omega arith)
    ]

-- the body ends in the piece, or at its end
pub counted_ends : (left : ℕ) (piece : List ℕ) → left ≤ length piece
    → Feeds (counted left) (counted 0) piece (fed_of 0 left state.Done)
counted_ends left piece h =
    let len : length (take left piece) ≡ left = length-take-le left piece h in
    let none : left - length (take left piece) ≡ 0 = omega arith in
    record {
      ordered = omega arith;
      used_up = refl;
      within = h;
      front = nothing_counted left;
      reads = λ more. rw (front_range piece left)
          (subst (λ k. counted left (take left piece ++ more) ≡ ahead (take left piece) k
          (counted 0 more)) len
          (subst (λ k. counted left (take left piece ++ more) ≡ ahead (take left piece)
          (length (take left piece)) (counted k more)) none
          (counted-append left (take left piece) more (omega arith))));
      state = refl;
      moves = λ goes some. some_left left goes;
      stays = none_or_goes left;
      rests = inr (inl tt);
      first = λ some.
          let front : length (take (left - 1) piece) ≡ left - 1 =
          length-take-le (left - 1) piece (omega arith) in
          rw (front_range piece (left - 1))
          (counted_lacks left (take (left - 1) piece) (omega arith));
    }
