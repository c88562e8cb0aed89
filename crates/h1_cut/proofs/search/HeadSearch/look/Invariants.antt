use Rattle.std.proofs.Common.{◌≡◌, ◌+◌, ◌-◌, ◌≤◌, ◌++◌, ℕ, List, length, drop}
use Rattle.h1_cut.specs.Search.{at_of, found_by}
use Rattle.h1_cut.proofs.search.HeadSearch.look.Given as goal

abbrev pub invariant-loop-ahead : goal.invariant-loop-ahead
invariant-loop-ahead g l = record {
  goes : (more : List ℕ)
      → found_by l.ahead (drop (at_of l.ahead) l.bytes ++ more)
      ≡ found_by l.fn.self (drop (at_of l.fn.self) l.bytes ++ more);
  within : at_of l.ahead ≤ length l.bytes;
  steps : l.steps + at_of l.fn.self ≡ l.fn.steps + at_of l.ahead;
}

abbrev pub decreases-loop-ahead : goal.decreases-loop-ahead
decreases-loop-ahead g l = length l.bytes - at_of l.ahead
