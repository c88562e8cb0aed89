use Rattle.std.proofs.Common.{None}
use Rattle.h1_modules.specs.Filters.{HasRun, keeping_buffer}
use Rattle.h1_modules.proofs.filters.filter_response_trailer.Given as goal

abbrev pub invariant-loop-filter : goal.invariant-loop-filter
invariant-loop-filter g l =
    HasRun (keeping_buffer g.M.HttpModule.response_trailer) l.filter-index l.initial.modules
    l.modules (l.initial.trailers, None) (l.trailers, l.last)
