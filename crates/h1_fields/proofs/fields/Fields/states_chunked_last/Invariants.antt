use Rattle.std.proofs.Common.{◌≡◌}
use Rattle.h1_fields.specs.Codings.{ends_chunked, without_empty, is_chunked_last}
use Rattle.h1_fields.proofs.fields.Fields.states_chunked_last.Given as goal

abbrev pub invariant-loop-part : goal.invariant-loop-part
invariant-loop-part l =
    ends_chunked l.found (without_empty l.part-iterator) ≡ is_chunked_last l.self
