use Rattle.std.proofs.Common.{ap, ◌∙◌, List, Option}
use Rattle.std.specs.Prelude.{ℕ, Bool, false, Some, if◌then◌else◌}
use Rattle.h1_subrequest.specs.Events.{put_passed, passed, read_from, taken_from}
use Rattle.h1_subrequest.specs.Reading.{reads_end}
use Rattle.h1_subrequest.specs.Words.{Body, BodyMode, Done, HttpTask, Passing, Trailer}
use Rattle.h1_subrequest.specs.Writing.{carried}
use Rattle.h1_subrequest.proofs.laws.bodies_are_events.Goals as goal

pub returns-clause-takes : goal.returns-clause-takes
returns-clause-takes c = λ request s task queue is.
    ap (λ (q : List HttpTask). record s {
      to_subrequest = taken_from s.to_subrequest q;
      reader = read_from s.reader s.to_subrequest.closed q;
    }) is

pub returns-clause-ends : goal.returns-clause-ends
returns-clause-ends c = λ request s is closed.
    ap (λ (q : List HttpTask). record s {
      to_subrequest = taken_from s.to_subrequest q;
      reader = read_from s.reader s.to_subrequest.closed q;
    }) is
    ∙ ap (λ (b : Bool). record s { reader = if b then reads_end s.reader else s.reader }) closed

pub returns-clause-piece : goal.returns-clause-piece
returns-clause-piece c = λ request s piece part after room is.
    ap (λ (o : Option (List ℕ × BodyMode)).
    passed request s (carried s.writer (λ p. Body (Some p) false) o)) is
    ∙ ap (λ (b : Bool). if b then s else put_passed request s (Body (Some part) false) after) room

pub returns-clause-done : goal.returns-clause-done
returns-clause-done c = λ request s after room is.
    ap (λ (next : Passing). passed request s next) is
    ∙ ap (λ (b : Bool). if b then s else put_passed request s Done after) room

pub returns-clause-short : goal.returns-clause-short
returns-clause-short c = λ request s after is. ap (λ (next : Passing). passed request s next) is

pub returns-clause-trailer : goal.returns-clause-trailer
returns-clause-trailer c = λ request s fields room.
    ap (λ (b : Bool). if b then s else put_passed request s (Trailer fields) s.writer) room
