-- How far a subrequest's reader moves by what it takes.
use Rattle.std.proofs.Common.{ℕ, ◌+◌, ◌-◌, ◌<◌, ◌≤◌, Bool, List, length, nat_lt, Option, Some, None, arith}
use Rattle.std.specs.Prelude.{IfSome, if◌then◌else◌, ◌==◌}
use Rattle.std.proofs.lemmas.Bool.Decides.{nat_tests}
use Rattle.h1_body.specs.declared.framing.Framing.TheVariants as framed
use Rattle.h1_subrequest.specs.Words.{Body, Done, Failed, Framing, Header, HttpTask, ParseState, Trailer, UpgradedBody}
use Rattle.h1_subrequest.specs.declared.parse_state.ParseState.TheVariants as parse
use Rattle.h1_subrequest.specs.Interleavings.{payload_in, stated}
use Rattle.h1_subrequest.specs.Reading.{converted, count_of, counted, finished, reader_of, reads, reads_end, reads_on, reads_part}
use Rattle.h1_subrequest.proofs.TaskLemmas.{either_way}

-- the reader of a body of so many bytes counts no more
abbrev pub FitsLength : ℕ → ParseState → Type 0
FitsLength n parse.ToStart = Unit {0}
FitsLength n (parse.Complete count) = count ≤ n
FitsLength n (parse.Partial count left) = count + left ≤ n
FitsLength n (parse.Done count) = count ≤ n
FitsLength n (parse.UntilClose count) = ⊥

abbrev pub Fits : Option ℕ → ParseState → Type 0
Fits declared reader = IfSome declared (λ n. FitsLength n reader)

-- a step of the reader in which so many bytes of payload were taken
pub record Moves (n by : ℕ) (before after : ParseState) : Type 0 where
  pub most : count_of after ≤ count_of before + by
  pub fits : FitsLength n before → FitsLength n after

stays : (n by : ℕ) (reader : ParseState) → Moves n by reader reader
stays n by reader = record { most = omega arith; fits = λ f. f }

part_moves : (n count left : ℕ) (b : Option (List ℕ)) (end : Bool)
    → Moves n (payload_in (Body b end)) (parse.Partial count left) (reads_part count left b end)
part_moves n count left None end = record { most = omega arith; fits = λ f. omega arith }
part_moves n count left (Some b) end =
    let before = parse.Partial count left in
    let done = parse.Done (counted count (length b)) in
    let more = parse.Partial (counted count (length b)) (left - length b) in
    either_way (Moves n (length b) before) (nat_lt (length b) left)
    (if end then done else more) (parse.Complete (counted count left))
    (λ less.
    let short : length b < left = grind (arith, nat_tests, less) in
    either_way (Moves n (length b) before) end done more
    (λ _. record { most = omega arith; fits = λ f. omega arith })
    (λ _. record { most = omega arith; fits = λ f. omega arith }))
    (λ all.
    let long : left ≤ length b = grind (arith, nat_tests, all) in
    record { most = omega arith; fits = λ f. omega arith })

on_moves : (n count : ℕ) (b : Option (List ℕ)) (end : Bool)
    → Moves n (payload_in (Body b end)) (parse.UntilClose count) (reads_on count b end)
on_moves n count None end = record { most = omega arith; fits = λ f. absurd f }
on_moves n count (Some b) end =
    either_way (Moves n (length b) (parse.UntilClose count)) end
    (parse.Complete (counted count (length b))) (parse.UntilClose (counted count (length b)))
    (λ _. record { most = omega arith; fits = λ f. absurd f })
    (λ _. record { most = omega arith; fits = λ f. absurd f })

pub reads_moves : (n : ℕ) (reader : ParseState) (task : HttpTask)
    → Moves n (payload_in task) reader (reads reader task)
reads_moves n (parse.Partial count left) (Body b end) = part_moves n count left b end
reads_moves n (parse.UntilClose count) (Body b end) = on_moves n count b end
reads_moves n parse.ToStart task = stays n (payload_in task) parse.ToStart
reads_moves n (parse.Complete count) task = stays n (payload_in task) (parse.Complete count)
reads_moves n (parse.Done count) task = stays n (payload_in task) (parse.Done count)
reads_moves n (parse.Partial count left) (Header header end) = stays n 0 (parse.Partial count left)
reads_moves n (parse.Partial count left) (UpgradedBody b end) =
    stays n (payload_in (UpgradedBody b end)) (parse.Partial count left)
reads_moves n (parse.Partial count left) (Trailer t) = stays n 0 (parse.Partial count left)
reads_moves n (parse.Partial count left) Done = stays n 0 (parse.Partial count left)
reads_moves n (parse.Partial count left) (Failed e) = stays n 0 (parse.Partial count left)
reads_moves n (parse.UntilClose count) (Header header end) = stays n 0 (parse.UntilClose count)
reads_moves n (parse.UntilClose count) (UpgradedBody b end) =
    stays n (payload_in (UpgradedBody b end)) (parse.UntilClose count)
reads_moves n (parse.UntilClose count) (Trailer t) = stays n 0 (parse.UntilClose count)
reads_moves n (parse.UntilClose count) Done = stays n 0 (parse.UntilClose count)
reads_moves n (parse.UntilClose count) (Failed e) = stays n 0 (parse.UntilClose count)

pub reads_end_moves : (n : ℕ) (reader : ParseState) → Moves n 0 reader (reads_end reader)
reads_end_moves n parse.ToStart = stays n 0 parse.ToStart
reads_end_moves n (parse.Complete count) = stays n 0 (parse.Complete count)
reads_end_moves n (parse.Partial count left) =
    record { most = omega arith; fits = λ f. omega arith }
reads_end_moves n (parse.Done count) = stays n 0 (parse.Done count)
reads_end_moves n (parse.UntilClose count) =
    record { most = omega arith; fits = λ f. absurd f }

pub converted_counts : (reader : ParseState) → count_of (converted reader) ≤ count_of reader
converted_counts parse.ToStart = omega arith
converted_counts (parse.Complete count) = omega arith
converted_counts (parse.Partial count left) = omega arith
converted_counts (parse.Done count) = omega arith
converted_counts (parse.UntilClose count) = omega arith

pub finished_counts : (reader : ParseState) → count_of (finished reader) ≤ count_of reader
finished_counts parse.ToStart = omega arith
finished_counts (parse.Complete count) = omega arith
finished_counts (parse.Partial count left) = omega arith
finished_counts (parse.Done count) = omega arith
finished_counts (parse.UntilClose count) = omega arith

pub some_still : (o : Option ℕ) (P Q : ℕ → Type 0) → ((n : ℕ) → P n → Q n) → IfSome o P
    → IfSome o Q
some_still None P Q go h = tt
some_still (Some n) P Q go h = go n h

-- the reader that the request's framing sets fits the length that it states
pub reader_fits : (framing : Framing)
    → (count_of (reader_of framing) ≤ 0) × Fits (stated framing) (reader_of framing)
reader_fits (framed.Counted n) =
    either_way (λ (x : ParseState). (count_of x ≤ 0) × FitsLength n x) (n == 0) (parse.Complete 0)
    (parse.Partial 0 n) (λ _. (omega arith, omega arith)) (λ _. (omega arith, omega arith))
reader_fits framed.Chunked = (omega arith, tt)
reader_fits framed.UntilClose = (omega arith, tt)

pub fits_counts : (n : ℕ) (reader : ParseState) → FitsLength n reader → count_of reader ≤ n
fits_counts n parse.ToStart f = omega arith
fits_counts n (parse.Complete count) f = f
fits_counts n (parse.Partial count left) f = omega arith
fits_counts n (parse.Done count) f = f
fits_counts n (parse.UntilClose count) f = absurd f
