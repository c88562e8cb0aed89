-- What was heard is what the step came to.
use Rattle.std.proofs.Common.{refl, ap, Some}
use Rattle.h1_app.proofs.LeavesLemmas.{answer_leaves}
use Rattle.h1_app.proofs.AnswerLemmas.{answer_job, answer_others, asked_filters, asked_others, asked_stepped}
use Rattle.h1_app.proofs.steps.answering.answer.Goals as goal

pub returns-clause-stepped : goal.returns-clause-stepped
returns-clause-stepped g c = λ filters shutdown allowed.
    let h = c.ask-answer.ensures.heard in
    let went = c.go_on.ensures h.heard c.ask-answer.new.job h.told refl in
    rw went.1 (asked_stepped g.L.Link.state g.SV.ServeHttp.pends _ (g.SV.ServeHttp.runs c.args.app.now)
    c.args.now shutdown c.args.exchange.now _ c.last_entry-entry.result.now h.noted_e c.in-Answer.job
    c.ask-answer.new.job h.heard c.requires.ready allowed c.in-Answer.is c.last_entry-entry.ensures.value
    (ap Some h.entry) went.0 h.asks c.ask-answer.ensures.timed h.on h.gave h.counted)

pub returns-clause-filters : goal.returns-clause-filters
returns-clause-filters g c =
    let h = c.ask-answer.ensures.heard in
    rw h.entry (asked_filters g.L.Link.state (g.SV.ServeHttp.runs c.args.app.now) c.args.now
    c.args.exchange.now c.ask-answer.new.session c.last_entry-entry.result.now h.noted_e c.in-Answer.job
    h.heard c.requires.ready c.in-Answer.is c.last_entry-entry.ensures.value h.asks)

pub returns-clause-leaves : goal.returns-clause-leaves
returns-clause-leaves g c =
    let h = c.ask-answer.ensures.heard in
    let went = c.go_on.ensures h.heard c.ask-answer.new.job h.told refl in
    rw (went.1, h.entry) (answer_leaves g.L.Link.state _ _ c.last_entry-entry.result.now h.noted_e
    h.heard h.asks)

pub returns-clause-continues : goal.returns-clause-continues
returns-clause-continues g c =
    let h = c.ask-answer.ensures.heard in
    let went = c.go_on.ensures h.heard c.ask-answer.new.job h.told refl in
    rw (went.0, went.1) (record {
      done = refl;
      holding = refl;
      plan = c.ask-answer.ensures.plan;
      job = rw c.in-Answer.is (answer_job g.SV.ServeHttp.begins g.SV.ServeHttp.pends c.in-Answer.job
          c.ask-answer.new.job h.heard c.ask-answer.ensures.never_falls);
      others = rw c.in-Answer.is (answer_others (g.L.Link.state c.args.exchange.now.session.link)
          (g.L.Link.state c.ask-answer.new.session.link) c.in-Answer.job c.ask-answer.new.job h.heard
          (asked_others g.L.Link.state _ _ _ _ h.heard h.asks));
    })
