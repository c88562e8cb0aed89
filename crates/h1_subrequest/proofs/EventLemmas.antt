-- What holds behind every list of events, by induction over the events.
use Rattle.std.proofs.Common.{◌≡◌, ℕ, ◌≤◌, Bool, true, false, List, [], ◌∷◌, ◌++◌, length, sym, refl, ap, ◌∙◌, subst, append_assoc, arith, length-append}
use Rattle.std.specs.Prelude.{if◌then◌else◌}
use Rattle.std.proofs.lemmas.Bool.Decides.{nat_tests}
use Rattle.h1_subrequest.specs.Words.{Body, Close, Done, Drops, Failed, Gone, Header, HttpTask, ParseState, Passes, Passing, Put, RequestView, SubEvent, Take, ToHandle, ToSubrequest, Trailer, UpgradedBody, framing, is_four}
use Rattle.h1_subrequest.specs.Events.{DirectionView, SubView, enqueued, passed, put_passed, reader_behind, sub_run, sub_start, sub_step, sub_steps, taken_from, read_from}
use Rattle.h1_subrequest.specs.Interleavings.{HoldsTogether, KeepsOrder, declared, ends, limit, payload}
use Rattle.h1_subrequest.specs.Reading.{converted, count_of, finished, reads, reads_end}
use Rattle.h1_subrequest.specs.Upgrade.{completes, is_answered, is_upgraded}
use Rattle.h1_subrequest.specs.Writing.{passing}
use Rattle.h1_subrequest.proofs.ReaderLemmas.{Fits, FitsLength, converted_counts, finished_counts, fits_counts, reader_fits, reads_end_moves, reads_moves, some_still}
use Rattle.h1_subrequest.proofs.TaskLemmas.{either_way, or_false, or_neither, payload-snoc, upgraded-snoc}
use Rattle.h1_subrequest.proofs.WriterLemmas.{Wrote, WroteAfter, passing_wrote, within_limit}

-- what each event keeps
record Sound (request : RequestView) (s : SubView) : Type 0 where
  pub to_subrequest : KeepsOrder s.to_subrequest
  pub to_handle : KeepsOrder s.to_handle
  pub wrote : Wrote request s.writer s.to_handle.put
  pub counts : count_of s.reader ≤ payload s.to_subrequest.taken
  pub fits : is_upgraded request s.to_handle.put ≡ false → Fits (declared request) s.reader

enqueued_keeps : (way : DirectionView) (task : HttpTask) → is_four way.queue ≡ false
    → KeepsOrder way → KeepsOrder (enqueued way task)
enqueued_keeps way task room h = record {
  order = sym (append_assoc way.taken way.queue (task ∷ [])) ∙ ap (λ l. l ++ task ∷ []) h.order;
  room = (let e = length-append way.queue (task ∷ []) in
      let few : length way.queue ≤ 3 = grind (arith, nat_tests, room) in omega arith);
}

taken_keeps : (way : DirectionView) (task : HttpTask) (queue : List HttpTask)
    → way.queue ≡ task ∷ queue → KeepsOrder way → KeepsOrder (taken_from way (task ∷ queue))
taken_keeps way task queue is h = record {
  order = append_assoc way.taken (task ∷ []) queue
      ∙ (ap (λ q. way.taken ++ q) (sym is) ∙ h.order);
  room = (let r = h.room in let e = ap length is in omega arith);
}

-- the reader behind a task that the subrequest put
behind : (request : RequestView) (put : List HttpTask) (task : HttpTask) (reader : ParseState)
    (bytes : ℕ) → count_of reader ≤ bytes
    → (is_upgraded request put ≡ false → Fits (declared request) reader)
    → (count_of (reader_behind request (is_upgraded request put) task reader) ≤ bytes)
    × (is_upgraded request (put ++ task ∷ []) ≡ false
    → Fits (declared request) (reader_behind request (is_upgraded request put) task reader))
behind request put (Header header end) reader bytes most fits = (
  either_way (λ (x : ParseState). count_of x ≤ bytes) (completes request header)
      (converted reader) reader
      (λ _. let c = converted_counts reader in omega arith) (λ _. most),
  λ isnt. let both = or_neither (is_upgraded request put) (completes request header)
      (sym (upgraded-snoc request put (Header header end)) ∙ isnt) in
      subst (λ (b : Bool). Fits (declared request) (if b then converted reader else reader))
      (sym both.1) (fits both.0),
)
behind request put Done reader bytes most fits = (
  either_way (λ (x : ParseState). count_of x ≤ bytes) (is_upgraded request put)
      (finished reader) reader
      (λ _. let c = finished_counts reader in omega arith) (λ _. most),
  λ isnt. let none = sym (or_false (is_upgraded request put))
      ∙ (sym (upgraded-snoc request put Done) ∙ isnt) in
      subst (λ (b : Bool). Fits (declared request) (if b then finished reader else reader))
      (sym none) (fits none),
)
behind request put (Body piece end) reader bytes most fits = (
  most,
  λ isnt.
      fits (sym (or_false (is_upgraded request put))
      ∙ (sym (upgraded-snoc request put (Body piece end)) ∙ isnt)),
)
behind request put (UpgradedBody piece end) reader bytes most fits = (
  most,
  λ isnt.
      fits (sym (or_false (is_upgraded request put))
      ∙ (sym (upgraded-snoc request put (UpgradedBody piece end)) ∙ isnt)),
)
behind request put (Trailer fields) reader bytes most fits = (
  most,
  λ isnt.
      fits (sym (or_false (is_upgraded request put))
      ∙ (sym (upgraded-snoc request put (Trailer fields)) ∙ isnt)),
)
behind request put (Failed error) reader bytes most fits = (
  most,
  λ isnt.
      fits (sym (or_false (is_upgraded request put))
      ∙ (sym (upgraded-snoc request put (Failed error)) ∙ isnt)),
)

passed_sound : (request : RequestView) (s : SubView) (next : Passing) → Sound request s
    → WroteAfter request s.to_handle.put next → Sound request (passed request s next)
passed_sound request s (Drops writer) h wrote = record {
  to_subrequest = h.to_subrequest;
  to_handle = h.to_handle;
  wrote = wrote;
  counts = h.counts;
  fits = h.fits;
}
passed_sound request s (Passes task writer) h wrote =
    either_way (Sound request) (is_four s.to_handle.queue) s (put_passed request s task writer)
    (λ _. h)
    (λ room. let moved = behind request s.to_handle.put task s.reader
    (payload s.to_subrequest.taken) h.counts h.fits in
    record {
      to_subrequest = h.to_subrequest;
      to_handle = enqueued_keeps s.to_handle task room h.to_handle;
      wrote = wrote;
      counts = moved.0;
      fits = moved.1;
    })

-- a take by the subrequest, from this queue
abbrev subrequest_takes : SubView → List HttpTask → SubView
subrequest_takes s queue = record s {
  to_subrequest = taken_from s.to_subrequest queue;
  reader = read_from s.reader s.to_subrequest.closed queue;
}

subrequest_takes_sound : (request : RequestView) (s : SubView) (queue : List HttpTask)
    → s.to_subrequest.queue ≡ queue → Sound request s
    → Sound request (subrequest_takes s queue)
subrequest_takes_sound request s [] is h =
    either_way (λ (reader : ParseState). Sound request (record s { reader = reader }))
    s.to_subrequest.closed (reads_end s.reader) s.reader
    (λ _. record {
      to_subrequest = h.to_subrequest;
      to_handle = h.to_handle;
      wrote = h.wrote;
      counts = (let m = (reads_end_moves 0 s.reader).most in let c = h.counts in omega arith);
      fits = λ isnt. some_still (declared request) (λ n. FitsLength n s.reader)
          (λ n. FitsLength n (reads_end s.reader)) (λ n. (reads_end_moves n s.reader).fits)
          (h.fits isnt);
    })
    (λ _. h)
subrequest_takes_sound request s (task ∷ queue) is h = record {
  to_subrequest = taken_keeps s.to_subrequest task queue is h.to_subrequest;
  to_handle = h.to_handle;
  wrote = h.wrote;
  counts = (let m = (reads_moves 0 s.reader task).most in let c = h.counts in
      let e = payload-snoc s.to_subrequest.taken task in omega arith);
  fits = λ isnt. some_still (declared request) (λ n. FitsLength n s.reader)
      (λ n. FitsLength n (reads s.reader task)) (λ n. (reads_moves n s.reader task).fits)
      (h.fits isnt);
}

handle_takes_sound : (request : RequestView) (s : SubView) (queue : List HttpTask)
    → s.to_handle.queue ≡ queue → Sound request s
    → Sound request (record s { to_handle = taken_from s.to_handle queue })
handle_takes_sound request s [] is h = h
handle_takes_sound request s (task ∷ queue) is h = record {
  to_subrequest = h.to_subrequest;
  to_handle = taken_keeps s.to_handle task queue is h.to_handle;
  wrote = h.wrote;
  counts = h.counts;
  fits = h.fits;
}

-- a close word of either side changes nothing else
marked_sound : (request : RequestView) (s : SubView) (a b c d : Bool) → Sound request s
    → Sound request (record s {
      to_subrequest = record s.to_subrequest { closed = a; gone = b };
      to_handle = record s.to_handle { closed = c; gone = d };
    })
marked_sound request s a b c d h = record {
  to_subrequest = record { order = h.to_subrequest.order; room = h.to_subrequest.room };
  to_handle = record { order = h.to_handle.order; room = h.to_handle.room };
  wrote = h.wrote;
  counts = h.counts;
  fits = h.fits;
}

step_sound : (request : RequestView) (s : SubView) (event : SubEvent) → Sound request s
    → Sound request (sub_step request s event)
step_sound request s (Put ToSubrequest task) h =
    either_way (λ (way : DirectionView). Sound request (record s { to_subrequest = way }))
    (is_four s.to_subrequest.queue) s.to_subrequest (enqueued s.to_subrequest task)
    (λ _. h)
    (λ room. record {
      to_subrequest = enqueued_keeps s.to_subrequest task room h.to_subrequest;
      to_handle = h.to_handle;
      wrote = h.wrote;
      counts = h.counts;
      fits = h.fits;
    })
step_sound request s (Put ToHandle task) h =
    passed_sound request s (passing request (is_answered s.to_handle.put) s.writer task) h
    (passing_wrote request s.to_handle.put s.writer task h.wrote)
step_sound request s (Take ToSubrequest) h =
    subrequest_takes_sound request s s.to_subrequest.queue refl h
step_sound request s (Take ToHandle) h = handle_takes_sound request s s.to_handle.queue refl h
step_sound request s (Close ToSubrequest) h =
    marked_sound request s true s.to_subrequest.gone s.to_handle.closed s.to_handle.gone h
step_sound request s (Close ToHandle) h =
    marked_sound request s s.to_subrequest.closed s.to_subrequest.gone true s.to_handle.gone h
step_sound request s (Gone ToSubrequest) h =
    marked_sound request s s.to_subrequest.closed true s.to_handle.closed s.to_handle.gone h
step_sound request s (Gone ToHandle) h =
    marked_sound request s s.to_subrequest.closed s.to_subrequest.gone s.to_handle.closed true h

steps_sound : (request : RequestView) (events : List SubEvent) (s : SubView) → Sound request s
    → Sound request (sub_steps request s events)
steps_sound request [] s h = h
steps_sound request (event ∷ events) s h =
    steps_sound request events (sub_step request s event) (step_sound request s event h)

start_sound : (request : RequestView) → Sound request (sub_start request)
start_sound request = let reader = reader_fits (framing request) in record {
  to_subrequest = record { order = refl; room = omega arith };
  to_handle = record { order = refl; room = omega arith };
  wrote = (refl, refl, refl);
  counts = reader.0;
  fits = λ _. reader.1;
}

sound_holds : (request : RequestView) (s : SubView) → Sound request s → HoldsTogether request s
sound_holds request s h =
    let put = s.to_handle.put in
    let writer = within_limit s.writer (limit request put) (is_answered put) (payload put)
    (ends put) h.wrote in
    record {
      to_subrequest = h.to_subrequest;
      to_handle = h.to_handle;
      length = writer.0;
      once = writer.1;
      read = h.counts;
      declares = λ isnt. some_still (declared request) (λ n. FitsLength n s.reader)
          (λ n. count_of s.reader ≤ n) (λ n. fits_counts n s.reader) (h.fits isnt);
    }

pub every_run : (request : RequestView) (events : List SubEvent)
    → HoldsTogether request (sub_run request events)
every_run request events = sound_holds request (sub_run request events)
    (steps_sound request events (sub_start request) (start_sound request))
