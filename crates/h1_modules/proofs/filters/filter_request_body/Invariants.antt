use Rattle.h1_modules.specs.Filters.{HasRun}
use Rattle.h1_modules.proofs.filters.filter_request_body.Given as goal

abbrev pub invariant-loop-filter : goal.invariant-loop-filter
invariant-loop-filter g l =
    HasRun (g.M.HttpModule.request_body l.end) l.filter-index l.initial.modules l.modules
    l.initial.body l.body
