use Rattle.std.proofs.Common.{◌≡◌, ◌++◌}
use Rattle.h1_modules.specs.TrailerFrame.{trailer_block}
use Rattle.h1_modules.proofs.trailer_frame.trailer_block.Given as goal

abbrev pub invariant-loop-name : goal.invariant-loop-name
invariant-loop-name l =
    l.block.items ++ trailer_block l.name-iterator ≡ trailer_block l.trailers
