use Rattle.std.proofs.Common.{◌≡◌, take}
use Rattle.h1_words.specs.ByteText.{text_of_bytes}
use Rattle.h1_words.proofs.escape.escaped.Given as goal

abbrev pub invariant-loop-byte : goal.invariant-loop-byte
invariant-loop-byte l = l.text ≡ text_of_bytes (take l.byte-index l.bytes)
