use Rattle.std.proofs.Common.{ℕ, List, [], Option, refl, sym, ap, subst, ◌∙◌}
use Rattle.h1_client.specs.Words.{begun, framing}
use Rattle.h1_client.specs.declared.settings.Settings.{Settings}
use Rattle.h1_asking.specs.Writing.{HasPut, Takes}
use Rattle.h1_asking.proofs.FetchLemmas.{key_set, unread_set, whole_gives, wrote_set}
use Rattle.h1_asking.proofs.fetching.exchange.Goals as goal

pub returns : goal.returns
returns g c =
    let start = g.L.Link.state c.args.session.now.transfer.link in
    let begun_unread = unread_set g.L.Link.state start.given _ _ _ c.set_read_timeout.ensures
    c.requires.unread in
    let timed = unread_set g.L.Link.state start.given _ _ _ c.set_write_timeout.ensures begun_unread in
    let unread = c.write_end.ensures.unread start.given (c.write_body.ensures.unread start.given
    (c.write_head.ensures.unread start.given timed)) in
    let asked = c.write_end.ensures.request ∙ c.write_body.ensures.request
    ∙ c.in_ok-write_head.ensures.request in
    let head = c.in_ok-status.ensures.ok start.given c.args.head asked unread in
    let part = c.in_ok-length.ensures.ok start.given c.args.head head.0
    (c.read_head.ensures.request ∙ asked) head.1 head.2 in
    let none_taken =
    wrote_set g.L.Link.state c.set_read_timeout.new.self _ _ c.set_write_timeout.ensures
    ∙ wrote_set g.L.Link.state c.args.session.now _ _ c.set_read_timeout.ensures in
    let took = c.in_ok-write_end.ensures.takes start.written c.args.head c.args.body
    (c.in_ok-write_body.ensures.puts start.written c.args.head
    (subst (λ (taken : Option (List ℕ)). HasPut g.L.Link.state taken c.args.head
    (begun (framing c.args.head)) [] c.write_head.new.session) none_taken
    c.in_ok-write_head.ensures.puts)) in
    record {
      ok = record {
        said = head.0;
        payload = part.0;
        takes = subst (λ (taken : Option (List ℕ)). Takes start.written taken c.args.head c.args.body)
            (sym (c.read_body.ensures.wrote ∙ c.read_head.ensures.wrote)) took.0;
        asked_over = c.write_end.new.session.transfer.link;
        wrote = c.read_body.ensures.wrote ∙ c.read_head.ensures.wrote;
        flushed = took.1;
        unread = unread.given;
        gives = whole_gives g.L.Link.state start c.args.head head.0 part.0 _ part.1;
        behind = refl;
        asked = c.read_body.ensures.request ∙ c.read_head.ensures.request ∙ asked;
        answered = c.read_body.ensures.response ∙ head.1;
        status_is = head.3;
        length_is = part.2;
      };
      key = ap (λ (s : Settings). s.key) (c.read_body.ensures.settings
          ∙ c.read_head.ensures.settings ∙ c.write_end.ensures.settings
          ∙ c.write_body.ensures.settings ∙ c.write_head.ensures.settings)
          ∙ key_set c.set_read_timeout.new.self _ _ c.set_write_timeout.ensures refl
          ∙ key_set c.args.session.now _ _ c.set_read_timeout.ensures refl;
    }
