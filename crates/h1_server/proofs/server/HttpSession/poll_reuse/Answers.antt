-- A link that is kept is drained before it is handed on.
use Rattle.std.proofs.Common.{refl, sym, ap, ◌∙◌}
use denote.Param.{param}
use Rattle.h1_server.specs.contracts.server.HttpSession.{the_view}
use Rattle.h1_server.specs.Persistence.{may_follow}
use Rattle.h1_server.proofs.ReuseLemmas.{reuse_drained}
use Rattle.h1_server.proofs.server.HttpSession.poll_reuse.Goals as goal

pub returns-in-Pending-clause-reuse : goal.returns-in-Pending-clause-reuse
returns-in-Pending-clause-reuse g c =
    let old = the_view (param 0 g.row.L) (param 1 g.row.C) g.L.Link c.self.inside in
    rw (← c.self.view_is) (reuse_drained {C = g.row.C.Denot} g.L.Link.state c.args.now old c.poll_drain.new.self _ _ _
    (sym c.if-not-may_go_on.ensures) (rw c.drain_limits-limits.ensures at c.in-Pending.ensures.drains) (refl, refl))

pub returns-in-Ready-Err-clause-reuse : goal.returns-in-Ready-Err-clause-reuse
returns-in-Ready-Err-clause-reuse g c =
    let old = the_view (param 0 g.row.L) (param 1 g.row.C) g.L.Link c.self.inside in
    rw (← c.self.view_is) (reuse_drained {C = g.row.C.Denot} g.L.Link.state c.args.now old c.poll_drain.new.self _ _ _
    (sym c.if-not-may_go_on.ensures) (rw (c.drain_limits-limits.ensures, c.in-Ready-Err.field-0-is) at c.in-Ready-Err.ensures.drains) (refl, refl))

pub returns-in-Ready-Ok-clause-reuse : goal.returns-in-Ready-Ok-clause-reuse
returns-in-Ready-Ok-clause-reuse g c =
    let old = the_view (param 0 g.row.L) (param 1 g.row.C) g.L.Link c.self.inside in
    let pipelining = c.self.inside.settings.pipelining in
    let follows = c.may_follow-self-inside.ensures ∙ ap (may_follow pipelining) c.received.ensures in
    rw (← c.self.view_is) (reuse_drained {C = g.row.C.Denot} g.L.Link.state c.args.now old c.poll_drain.new.self _ _ _
    (sym c.if-not-may_go_on.ensures) (rw (c.drain_limits-limits.ensures, c.in-Ready-Ok.field-0-is) at c.in-Ready-Ok.ensures.drains) (follows, refl))
