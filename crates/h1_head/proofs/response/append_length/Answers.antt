use Rattle.std.proofs.Common.{◌∙◌}
use Rattle.h1_head.proofs.response.append_length.Goals as goal

pub returns-clause-ok : goal.returns-clause-ok
returns-clause-ok c =
    rw (← (c.as_bytes.ensures.value ∙ c.format.ensures.text)) c.append.ensures.ok
