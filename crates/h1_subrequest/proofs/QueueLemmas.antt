-- A take from the tasks of one direction.
use Rattle.std.proofs.Common.{◌≡◌, ℕ, ◌+◌, ◌<◌, Bool, List, length, take, drop, sym, ap, ◌∙◌}
use Rattle.std.proofs.lemmas.List.{take_more, drop_more}
use Rattle.h1_subrequest.specs.Words.{Done, HttpTask}
use Rattle.h1_subrequest.specs.Events.{DirectionView, taken_from}

abbrev way : List HttpTask → Bool → Bool → List HttpTask → List HttpTask → DirectionView
way put closed gone taken queue =
    record { put = put; taken = taken; queue = queue; closed = closed; gone = gone }

-- one more of what was put is taken from the front of the queue
pub taken_from-front : (put : List HttpTask) (k : ℕ) (closed gone : Bool) → k < length put
    → way put closed gone (take (k + 1) put) (drop (k + 1) put)
    ≡ taken_from (way put closed gone (take k put) (drop k put)) (drop k put)
taken_from-front put k closed gone less =
    (λ i. way put closed gone (take_more put k Done less i) (drop (k + 1) put))
    ∙ ap (λ queue. taken_from (way put closed gone (take k put) (drop k put)) queue)
    (sym (drop_more put k Done less))
