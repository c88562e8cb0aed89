use Rattle.std.proofs.Common.{◌∙◌}
use Rattle.h1_asking.proofs.fetching.read_body.Goals as goal

pub loop-preserved : goal.loop-preserved
loop-preserved g c = record {
  request = c.count_part.ensures.request ∙ c.loop.invariant.request;
  settings = c.count_part.ensures.settings ∙ c.loop.invariant.settings;
  response = c.count_part.ensures.response ∙ c.loop.invariant.response;
  wrote = c.count_part.ensures.wrote ∙ c.loop.invariant.wrote;
  reads = λ before request said asked is far.
      let so_far = c.loop.invariant.reads before request said asked is far in
      rw c.in-More.is at (c.in_ok-count_part.ensures.ok before request said so_far.0
      (c.loop.invariant.request ∙ asked) (c.loop.invariant.response ∙ is) so_far.1 so_far.2);
}

pub returns-in-End : goal.returns-in-End
returns-in-End g c = record {
  request = c.count_part.ensures.request ∙ c.loop.invariant.request;
  settings = c.count_part.ensures.settings ∙ c.loop.invariant.settings;
  response = c.count_part.ensures.response ∙ c.loop.invariant.response;
  ok = λ before request said asked is far.
      let so_far = c.loop.invariant.reads before request said asked is far in
      rw c.in-End.is at (c.in_ok-count_part.ensures.ok before request said so_far.0
      (c.loop.invariant.request ∙ asked) (c.loop.invariant.response ∙ is) so_far.1 so_far.2);
  wrote = c.count_part.ensures.wrote ∙ c.loop.invariant.wrote;
}
