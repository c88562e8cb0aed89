use Rattle.h1_asking.proofs.WriteLemmas.{asked_empty, asked_handed, asked_settings, asked_unread}
use Rattle.h1_asking.proofs.turns.ask.Goals as goal

pub returns-clause-handed : goal.returns-clause-handed
returns-clause-handed g c request handed =
    asked_handed g.L.Link.state request c.args.now c.args.session.now
    c.poll_write_request_header.new.self c.args.head.now c.poll_write_request_header.new.req
    c.poll_write_request_header.result _ c.poll_write_request_header.ensures.again
    c.poll_write_request_header.ensures.asks handed

pub returns-clause-done : goal.returns-clause-done
returns-clause-done g c =
    asked_empty g.L.Link.state c.args.now c.args.session.now
    c.poll_write_request_header.new.self c.args.head.now c.poll_write_request_header.new.req
    c.poll_write_request_header.result _ c.poll_write_request_header.ensures.again
    c.poll_write_request_header.ensures.asks

pub returns-clause-settings : goal.returns-clause-settings
returns-clause-settings g c =
    asked_settings g.L.Link.state c.args.now c.args.session.now
    c.poll_write_request_header.new.self c.args.head.now c.poll_write_request_header.new.req
    c.poll_write_request_header.result _ c.poll_write_request_header.ensures.again
    c.poll_write_request_header.ensures.asks

pub returns-clause-unread : goal.returns-clause-unread
returns-clause-unread g c before unread =
    asked_unread g.L.Link.state before c.args.now c.args.session.now
    c.poll_write_request_header.new.self c.args.head.now c.poll_write_request_header.new.req
    c.poll_write_request_header.result _ c.poll_write_request_header.ensures.again
    c.poll_write_request_header.ensures.asks unread
