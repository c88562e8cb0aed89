-- A header is written, or stays where it is.
use Rattle.std.proofs.Common.{◌∙◌, sym, ap, Option}
use Rattle.std.specs.Option.{option_map}
use Rattle.h1_transfer.proofs.OptionLemmas.{if_none, is_nothing}
use Rattle.h1_server.specs.Words.{ResponseView}
use Rattle.h1_server.specs.HeaderWrites.{keep_after}
use Rattle.h1_server.proofs.HeadLemmas.{if_read}
use Rattle.h1_server.proofs.ReplyLemmas.{header_kept, header_written}
use Rattle.h1_server.proofs.server.HttpSession.poll_write_response_header_ref.Goals as goal

pub returns-in-Err-clause-writes : goal.returns-in-Err-clause-writes
returns-in-Err-clause-writes g c =
    let unpassed = sym (rw c.outgoing-2.ensures at c.is_passed_over.ensures)
    ∙ c.if-is_passed_over.false in
    rw (← c.self.view_is) (if_none c.self.inside.transfer.outgoing.refused _
    (if_read c.self.inside.asked.is_read c.self.inside.asked.place.request _
    (rw unpassed (header_kept {C = g.row.C.Denot} g.L.Link.state _ c.take_header.new.transfer _
    c.keep_after-keep.result _ c.in-Err.error _ unpassed c.in-Err.ensures.goes_on
    c.in-Err.ensures.takes))))

pub returns-clause-writes : goal.returns-clause-writes
returns-clause-writes g c =
    let header : Option ResponseView = option_map (λ head. head.now) c.args.resp in
    let unpassed = sym (rw c.outgoing-2.ensures at c.is_passed_over.ensures)
    ∙ c.if-is_passed_over.false in
    let free = rw (← c.self.view_is) at c.requires.free in
    let unrefused = rw c.outgoing.ensures at
    (is_nothing c.outgoing.result.now.refused c.in_default.not-Some) in
    let flag = c.keep_after-keep.ensures ∙ ap (λ flag. keep_after header
    c.self.inside.keep flag) (rw c.body.ensures at c.keep_flag-flag.ensures) in
    let delivers = rw (c.head_delivery-how.ensures, c.outgoing-3.ensures) at
    c.poll_deliver.ensures.delivers in
    let took = c.in_default-take_header.ensures in
    rw (← c.self.view_is) (if_none c.self.inside.transfer.outgoing.refused _
    (if_read c.self.inside.asked.is_read c.self.inside.asked.place.request _
    (rw unpassed (header_written {C = g.row.C.Denot} g.L.Link.state _ c.take_header.new.transfer
    c.poll_deliver.new.self _ c.keep_after-keep.result _ c.poll_deliver.result header flag free
    unrefused took.goes_on took.takes delivers))))
