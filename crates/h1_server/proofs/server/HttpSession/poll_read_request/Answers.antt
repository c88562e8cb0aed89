-- What reading a head came to is what the call answers.
use Rattle.std.proofs.Common.{ap, ◌∙◌}
use Rattle.h1_transfer.proofs.OptionLemmas.{if_none, is_nothing}
use Rattle.h1_server.proofs.Words.{keepalive_set}
use Rattle.h1_server.specs.Persistence as persistence
use Rattle.h1_server.proofs.HeadLemmas.{head_read, head_stopped, still_unread}
use Rattle.h1_server.proofs.server.HttpSession.poll_read_request.Goals as goal

pub returns-in-Whole-clause-reads : goal.returns-in-Whole-clause-reads
returns-in-Whole-clause-reads g c =
    let unrefused = is_nothing c.self.inside.asked.refused c.in_default.not-Some in
    let settings = c.set_keepalive.ensures ∙ ap (keepalive_set c.self.inside.settings) c.wished.ensures in
    rw (← c.self.view_is) (if_none c.self.inside.asked.refused _
    (head_read {C = g.row.C.Denot} g.L.Link.state _ c.read_head-read.new.self c.skip.new.self c.begin_body.new.self
    c.read_head-read.new.found c.in-Whole.used c.len.result c.set_keepalive.new.self c.args.now unrefused
    (rw c.head_limit.ensures at c.in-Whole.ensures.reads)
    c.skip.ensures c.begin_body.ensures.begins
    c.begin_body.ensures.rest c.len.ensures.value settings))

pub returns-in-Stopped-clause-reads : goal.returns-in-Stopped-clause-reads
returns-in-Stopped-clause-reads g c =
    let unrefused = is_nothing c.self.inside.asked.refused c.in_default.not-Some in
    let asked = c.self.inside.asked in
    let unread = still_unread asked.is_read asked.place.request c.read_head-read.new.found.request
    (rw (← c.self.view_is) at c.requires) in
    rw (← c.self.view_is) (if_none c.self.inside.asked.refused _
    (head_stopped {C = g.row.C.Denot} g.L.Link.state _ c.read_head-read.new.self c.read_head-read.new.found _
    c.stop_for.new.refused c.in-Stopped.stop c.stop_for.result c.args.now c.is_nothing-none.result unread
    (c.is_nothing-none.ensures ∙ ap persistence.is_nothing c.received.ensures) unrefused c.stop_for.ensures.answer
    (rw c.head_limit.ensures at c.in-Stopped.ensures.reads)))

pub returns-in-Stopped-clause-calls : goal.returns-in-Stopped-clause-calls
returns-in-Stopped-clause-calls g c =
    rw (← c.self.view_is) (rw (c.stop_for.ensures.told.0, c.stop_for.ensures.told.1)
    c.in-Stopped.ensures.calls)
