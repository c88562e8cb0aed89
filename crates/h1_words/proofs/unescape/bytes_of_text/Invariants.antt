use Rattle.std.proofs.Common.{◌≡◌, drop}
use Rattle.h1_words.specs.ByteText.{bytes_from, bytes_of_text}
use Rattle.h1_words.proofs.unescape.bytes_of_text.Given as goal

abbrev pub invariant-loop-byte : goal.invariant-loop-byte
invariant-loop-byte l = bytes_from l.state l.bytes (drop l.byte-index l.text) ≡ bytes_of_text l.text
