-- How what is read of a body goes on from call to call.
use Rattle.std.proofs.Common.{List, [], add-zero, ap, append-nil, append_assoc, false, length, length-append, refl, slice_range, subst, sym, take, true, ℕ, ◌++◌, ◌∙◌, ◌≡◌}
use Rattle.std.proofs.lemmas.List.{length-take-le}
use Rattle.h1_body.specs.Body.{whole, unfinished, ahead, stop_of}
use Rattle.h1_body.specs.Reader.{body, body_at_end, reads, read_as, is_closing, closes_with_link, is_until_close}
use Rattle.h1_body.specs.Read.{HasRead}
use Rattle.h1_body.specs.Feeds.{Feeds}
use Rattle.h1_body.specs.declared.framing.Framing.{Framing}
use Rattle.h1_body.specs.declared.framing.Framing.TheVariants as framing
use Rattle.h1_body.specs.declared.fed.FeedState.{FeedState}
use Rattle.h1_body.specs.declared.fed.FeedState.TheVariants as state
use Rattle.h1_body.specs.declared.reader.Reading.{Reading}
use Rattle.h1_body.specs.declared.reader.Reading.TheVariants as reading
use Rattle.std.proofs.lemmas.Bool.{false≢true}
use Rattle.h1_body.specs.declared.fed.Fed.{Fed}
use Rattle.h1_body.specs.declared.reader.BodyReader.{BodyReader}
use Rattle.h1_body.proofs.RunLemmas.{ahead-ahead, ahead_none}

-- a new reader has read nothing
pub read_none : (framing : Framing) (reader : BodyReader)
    → ((bytes : List ℕ) → reads reader bytes ≡ body framing bytes) → HasRead framing [] [] reader
read_none framing reader new =
    record { read = λ more. sym (new more) ∙ sym (ahead_none (reads reader more)) }

-- one call more
pub read_on : (framing : Framing) (bytes payload piece : List ℕ) (old new : BodyReader) (fed : Fed)
    → HasRead framing bytes payload old → Feeds (reads old) (reads new) piece fed
    → HasRead framing (bytes ++ take fed.used piece)
    (payload ++ slice_range piece fed.payload.start fed.payload.end) new
read_on framing bytes payload piece old new fed before feeds = record {
  read = λ more.
      rw (
        append_assoc bytes (take fed.used piece) more,
        before.read (take fed.used piece ++ more),
        feeds.reads more,
        ahead-ahead payload (slice_range piece fed.payload.start fed.payload.end)
            (length bytes) fed.used (reads new more),
        length-append bytes (take fed.used piece),
        length-take-le fed.used piece feeds.within,
      ) refl;
}

-- what the bytes read make of the body
pub read_is : (framing : Framing) (bytes payload : List ℕ) (reader : BodyReader)
    → HasRead framing bytes payload reader
    → body framing bytes ≡ ahead payload (length bytes) (reads reader [])
read_is framing bytes payload reader read =
    subst (λ (all : List ℕ). body framing all ≡ ahead payload (length bytes) (reads reader []))
    (append-nil bytes) (read.read [])

closing_reads : (reading : Reading) → is_closing reading ≡ true → read_as reading [] ≡ unfinished []
closing_reads (reading.Counted left) e = absurd (false≢true e)
closing_reads (reading.Chunked place) e = absurd (false≢true e)
closing_reads reading.UntilClose e = refl
closing_reads reading.Ended e = absurd (false≢true e)

-- what the end of the link makes of the body
pub ended_is : (f : Framing) (bytes payload : List ℕ) (old : BodyReader) (answer : FeedState)
    → HasRead f bytes payload old → closes_with_link old ≡ is_until_close f
    → (closes_with_link old ≡ true → answer ≡ state.Done)
    → (closes_with_link old ≡ false → stop_of answer ≡ reads old [])
    → body_at_end f bytes ≡ ahead payload (length bytes) (stop_of answer)
ended_is (framing.Counted n) bytes payload old answer read same closed otherwise =
    read_is (framing.Counted n) bytes payload old read
    ∙ ap (ahead payload (length bytes)) (sym (otherwise same))
ended_is framing.Chunked bytes payload old answer read same closed otherwise =
    read_is framing.Chunked bytes payload old read
    ∙ ap (ahead payload (length bytes)) (sym (otherwise same))
ended_is framing.UntilClose bytes payload old answer read same closed otherwise =
    let all : unfinished bytes ≡ unfinished (payload ++ []) =
    read_is framing.UntilClose bytes payload old read
    ∙ ap (ahead payload (length bytes)) (closing_reads old.reading same) in
    let paid : bytes ≡ payload ++ [] = cc in
    ap (λ xs. whole xs (length bytes)) paid
    ∙ ap (whole (payload ++ [])) (sym (add-zero (length bytes)))
    ∙ ap (λ s. ahead payload (length bytes) (stop_of s)) (sym (closed same))
