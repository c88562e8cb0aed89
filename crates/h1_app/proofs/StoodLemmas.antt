-- How a request's body stood when the application replied.
use Rattle.std.proofs.Common.{◌≡◌, ℕ, ◌+◌, ◌<◌, take, true, false, ap, subst, arith, inl, inr, length-append, append-nil, List, [], ◌++◌, length, Option, Some, None, refl, sym, ◌∙◌}
use Rattle.std.proofs.lemmas.Bool.{cases_lt, false≢true}
use Rattle.h1_app.specs.Words.{Error, Body, whole, unfinished, broken, ahead, body, reads, HasRead, framing, Framing, Counted, Chunked, UntilClose, BodyReader, is_whole, BodyState, Entry, How, Open, Whole, Failed, how_stands, how_of, IsBelow, StoodAs}
use Rattle.h1_body.specs.Body.{payload_of}
use Rattle.h1_body.proofs.CountedLemmas.{counted_has, counted_lacks}
use Rattle.h1_body.proofs.ReadLemmas.{read_is}
use Rattle.h1_transcript.proofs.BehindLemmas.{whole_stays}
use Rattle.h1_transfer.proofs.BodyLemmas.{nothing_read}
use Rattle.h1_app.proofs.Words.{StoodSo}

-- with a stated length and no end of the body, fewer bytes were handed in
pub below : (f : Framing) (handed : ℕ) (used payload : List ℕ) (reader : BodyReader) (b : Body)
    → handed ≡ length payload
    → HasRead f used payload reader → reads reader [] ≡ b → is_whole b ≡ false → IsBelow f handed
below Chunked handed used payload reader b count read is goes = tt
below UntilClose handed used payload reader b count read is goes = tt
below (Counted n) handed used payload reader b count read is goes = elim (cases_lt (length used) n) [
  | inl lacks ↦
      let now : unfinished used ≡ ahead payload (length used) b =
      sym (counted_lacks n used lacks) ∙ read_is (Counted n) used payload reader read
      ∙ ap (ahead payload (length used)) is in
      unread b now lacks
  | inr has ↦
      let now : whole (take n used) n ≡ ahead payload (length used) b =
      sym (counted_has n used has) ∙ read_is (Counted n) used payload reader read
      ∙ ap (ahead payload (length used)) is in
      absurd (whole_so b now goes)
] where
  unread : (b : Body) → unfinished used ≡ ahead payload (length used) b → length used < n
      → handed < n
  unread (whole p k) now lacks = absurd cc
  unread (broken p) now lacks = absurd cc
  unread (unfinished p) now lacks = let so : used ≡ payload ++ p = cc in
      omega (arith, ap length so, length-append payload p, count, lacks)

  whole_so : (b : Body) → whole (take n used) n ≡ ahead payload (length used) b → is_whole b ≡ false
      → ⊥
  whole_so (whole p k) now goes = false≢true (sym goes)
  whole_so (broken p) now goes = absurd cc
  whole_so (unfinished p) now goes = absurd cc

stood_now : (e : Entry) (used : List ℕ) (now : BodyState) (refused : Option Error) (b : Body)
    → HasRead (framing e.head) used e.body now.reader
    → e.handed ≡ length e.body → e.body_error ≡ refused → reads now.reader [] ≡ b
    → StoodSo (how_stands b refused) e now
stood_now e used now (Some error) b read count err is = rw err refl
stood_now e used now None (whole p k) read count err is = (err, count, rw is refl)
stood_now e used now None (unfinished p) read count err is =
    (err, below (framing e.head) e.handed used e.body now.reader (unfinished p) count read is refl)
stood_now e used now None (broken p) read count err is =
    (err, below (framing e.head) e.handed used e.body now.reader (broken p) count read is refl)

-- how the body stands where all payload that was read was handed in
pub stood_so : (e : Entry) (used : List ℕ) (now : BodyState)
    → HasRead (framing e.head) used e.body now.reader
    → e.handed ≡ length e.body → e.body_error ≡ now.refused → e.how ≡ how_of now
    → StoodSo e.how e now
stood_so e used now read count err how =
    subst (λ h. StoodSo h e now) (sym how) (stood_now e used now now.refused (reads now.reader []) read count err refl)

-- how the body stood agrees with what its bytes make of it
pub stood_as : (how : How) (e : Entry) (used received : List ℕ) (now : BodyState)
    → HasRead (framing e.head) used e.body now.reader
    → StoodSo how e now → StoodAs how e (ahead e.body (length used) (reads now.reader received))
stood_as Failed e used received now read h = h
stood_as Open e used received now read h = h
stood_as Whole e used received now read h = (h.0, h.1, ends (reads now.reader []) refl h.2) where
  ends : (b : Body) → reads now.reader [] ≡ b → is_whole b ≡ true
      → (n : ℕ) × (ahead e.body (length used) (reads now.reader received) ≡ whole e.body n)
  ends (unfinished p) is goes = absurd (false≢true goes)
  ends (broken p) is goes = absurd (false≢true goes)
  ends (whole p k) is goes =
      let f = framing e.head in
      let none : p ≡ [] = sym (ap payload_of is) ∙ nothing_read now.reader.reading in
      let all : body f used ≡ whole e.body (length used + k) =
      read_is f used e.body now.reader read ∙ ap (ahead e.body (length used)) is
      ∙ ap (λ xs. whole xs (length used + k)) (ap (λ xs. e.body ++ xs) none ∙ append-nil e.body) in
      (length used + k, sym (read.read received) ∙ whole_stays f used received e.body (length used + k) all)
