use Rattle.std.proofs.Common.{None}
use Rattle.h1_modules.specs.Filters.{HasRun, keeping_last}
use Rattle.h1_modules.proofs.filters.filter_response_done.Given as goal

abbrev pub invariant-loop-filter : goal.invariant-loop-filter
invariant-loop-filter g l =
    HasRun (keeping_last g.M.HttpModule.response_done) l.filter-index l.initial.modules l.modules
    None l.last
