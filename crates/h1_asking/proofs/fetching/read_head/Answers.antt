use Rattle.std.proofs.Common.{refl, ◌∙◌}
use Rattle.h1_asking.proofs.FetchLemmas.{final_from}
use Rattle.h1_asking.proofs.ReadLemmas.{unread_reads}
use Rattle.h1_asking.proofs.fetching.read_head.Goals as goal

pub loop-init : goal.loop-init
loop-init g c = record {
  request = refl;
  settings = refl;
  wrote = refl;
  reads = λ before request asked unread.
      unread_reads g.L.Link.state before request c.args.session.now unread;
}

pub returns-in-Some-clause-ok : goal.returns-in-Some-clause-ok
returns-in-Some-clause-ok g c before request asked unread =
    final_from g.L.Link.state before request c.loop.session.transfer _ c.in-Some.status
    c.in-Some.ensures (c.loop.invariant.reads before request asked unread)

pub loop-preserved : goal.loop-preserved
loop-preserved g c = record {
  request = c.read_response.ensures.request ∙ c.loop.invariant.request;
  settings = c.read_response.ensures.settings ∙ c.loop.invariant.settings;
  wrote = c.read_response.ensures.wrote ∙ c.loop.invariant.wrote;
  reads = λ before request asked unread. c.read_response.ensures.reads before request
      (c.loop.invariant.request ∙ asked) (c.loop.invariant.reads before request asked unread);
}
