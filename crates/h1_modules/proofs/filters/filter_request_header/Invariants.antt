use Rattle.h1_modules.specs.Filters.{HasRun}
use Rattle.h1_modules.proofs.filters.filter_request_header.Given as goal

abbrev pub invariant-loop-filter : goal.invariant-loop-filter
invariant-loop-filter g l =
    HasRun g.M.HttpModule.request_header l.filter-index l.initial.modules l.modules
    l.initial.req l.req
