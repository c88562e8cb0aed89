-- The application was asked with the session as it is lent.
use Rattle.std.proofs.Common.{ap, ◌∙◌, refl, sym, subst}
use Rattle.h1_app.proofs.Words.{noted, GivesAsked}
use Rattle.h1_app.specs.Words.{given_to, Entry}
use Rattle.h1_app.proofs.AskLemmas.{asked_as, asked_timed, comes_back, counts_asked, gives_asked, given_noted, holds_lent, runs_asked}
use Rattle.h1_app.proofs.steps.answering.ask.Goals as goal

pub returns-clause-heard : goal.returns-clause-heard
returns-clause-heard g c =
    let n = c.note_answer.ensures in
    let entry_is = c.take_back.ensures.entry ∙ ap (noted c.lend_payload.new.self) c.take_waits-waits.ensures.rest in
    record {
      heard = n.heard;
      noted_e = c.take_back.new.entry;
      told = n.told;
      entry = n.entry;
      asks = asked_as g.L.Link.state c.args.session.now c.lend_payload.new.session
          c.poll_response-answer.new.http c.take_waits-waits.new.self c.take_back.new.session
          c.args.entry.now c.lend_payload.new.self c.take_back.new.entry
          c.poll_response-answer.result c.take_waits-waits.result n.heard c.lend_payload.ensures.session
          c.poll_response-answer.ensures.reads c.take_waits-waits.ensures.asked
          c.take_waits-waits.ensures.rest c.take_back.ensures.session c.take_back.ensures.entry
          (rw c.lend_payload.ensures.entry refl) c.take_back.ensures.within n.is;
      on = λ head began asked runs.
          let ran = c.poll_response-answer.ensures.runs head began (rw c.lend_payload.ensures.session asked)
          (rw c.lend_payload.ensures.session runs) in
          rw (c.take_back.ensures.session, entry_is, c.take_waits-waits.ensures.rest)
          (runs_asked _ c.poll_response-answer.result c.take_waits-waits.result n.heard n.is ran);
      gave = λ head began asked runs.
          let gave = c.poll_response-answer.ensures.gives head began (rw c.lend_payload.ensures.session asked)
          (rw c.lend_payload.ensures.session runs) in
          subst (λ (x : Entry). GivesAsked (g.SV.ServeHttp.gives c.args.app.now)
          (record (given_to x head) { began = began }) n.heard) (sym entry_is)
          (subst (λ given. GivesAsked (g.SV.ServeHttp.gives c.args.app.now) given n.heard)
          (given_noted c.args.entry.now c.poll_response-answer.new.http head began)
          (gives_asked (g.SV.ServeHttp.gives c.args.app.now) _ c.poll_response-answer.result
          c.take_waits-waits.result n.heard gave n.is));
      counted = counts_asked _ _ c.poll_response-answer.result c.take_waits-waits.result n.heard n.is
          (rw c.take_waits-waits.ensures.asked c.poll_response-answer.ensures.pends);
    }

pub returns-clause-timed : goal.returns-clause-timed
returns-clause-timed g c =
    asked_timed g.L.Link.state c.args.now c.args.session.now c.lend_payload.new.session
    c.poll_response-answer.new.http c.take_waits-waits.new.self c.take_back.new.session _
    c.lend_payload.ensures.session c.poll_response-answer.ensures.timed c.take_waits-waits.ensures.rest
    c.take_back.ensures.session

pub poll_response-answer-requires-clause-holds : goal.poll_response-answer-requires-clause-holds
poll_response-answer-requires-clause-holds g c = λ whole.
    holds_lent c.args.session.now c.lend_payload.new.session c.args.entry.now c.lend_payload.ensures.session
    (c.requires.holds whole)

pub take_back-requires-clause-holding : goal.take_back-requires-clause-holding
take_back-requires-clause-holding g c =
    let back = comes_back g.L.Link.state c.args.session.now c.lend_payload.new.session
    c.poll_response-answer.new.http c.args.entry.now c.lend_payload.ensures.session
    c.poll_response-answer.ensures.reads in
    rw (c.take_waits-waits.ensures.rest, c.lend_payload.ensures.entry, back.1) back.2
