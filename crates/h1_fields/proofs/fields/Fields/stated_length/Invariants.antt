use Rattle.std.proofs.Common.{◌≡◌}
use Rattle.h1_fields.specs.ContentLength.{agreed, content_length}
use Rattle.h1_fields.proofs.fields.Fields.stated_length.Given as goal

abbrev pub invariant-loop-part : goal.invariant-loop-part
invariant-loop-part l = agreed l.found l.part-iterator ≡ content_length l.self
