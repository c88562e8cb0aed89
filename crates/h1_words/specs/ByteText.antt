-- Bytes as printable text: `\r`, `\n`, `\\` and `\xhh` stand for bytes that have no place in a
-- line.
use Rattle.std.specs.Prelude.{ℕ, ◌+◌, ◌*◌, ◌/◌, ◌%◌, Bool, true, false, ◌&&◌, ◌==◌, nat_lt, nat_le, if◌then◌else◌, List, [], ◌∷◌, ◌++◌, Option, Some, None}
use Rattle.std.specs.List.{flat_map}
use Rattle.std.specs.Char.{digit_value, digit_char}
use Rattle.h1_words.specs.declared.unescape.Unescaping.{Unescaping}
use Rattle.h1_words.specs.declared.unescape.Unescaping.TheVariants.{Start, Byte, Backslash, Hex, HexDigit, Broken}

-- space to `~`
abbrev pub is_printable : ℕ → Bool
is_printable b = nat_le 32 b && nat_le b 126

-- what a byte is written as
abbrev pub escape : ℕ → List ℕ
escape b =
    if b == 13 then 92 ∷ 114 ∷ []
    else (if b == 10 then 92 ∷ 110 ∷ []
    else (if b == 92 then 92 ∷ 92 ∷ []
    else (if is_printable b then b ∷ []
    else 92 ∷ 120 ∷ digit_char (b / 16) ∷ digit_char (b % 16) ∷ [])))

-- what bytes are written as
abbrev pub text_of_bytes : List ℕ → List ℕ
text_of_bytes bytes = flat_map escape bytes

-- a byte where no escape has begun
abbrev pub unescape_plain : ℕ → Unescaping
unescape_plain b = if b == 92 then Backslash else (if is_printable b then Byte b else Broken)

-- the byte after `\`
abbrev pub unescape_backslash : ℕ → Unescaping
unescape_backslash b =
    if b == 114 then Byte 13
    else (if b == 110 then Byte 10
    else (if b == 92 then Byte 92
    else (if b == 120 then Hex
    else Broken)))

-- the byte that two hexadecimal digits of either case write
abbrev pub hex_byte : ℕ → ℕ → Unescaping
hex_byte high low =
    if nat_lt (digit_value high) 16 && nat_lt (digit_value low) 16
    then Byte (digit_value high * 16 + digit_value low)
    else Broken

-- how a text reads on with one byte more
abbrev pub unescape : Unescaping → ℕ → Unescaping
unescape Start b = unescape_plain b
unescape (Byte last) b = unescape_plain b
unescape Backslash b = unescape_backslash b
unescape Hex b = HexDigit b
unescape (HexDigit high) b = hex_byte high b
unescape Broken b = Broken

-- the byte that is whole with the last byte of the text
abbrev pub yielded : Unescaping → List ℕ
yielded Start = []
yielded (Byte b) = b ∷ []
yielded Backslash = []
yielded Hex = []
yielded (HexDigit high) = []
yielded Broken = []

-- whether a text may end here
abbrev pub may_end : Unescaping → Bool
may_end Start = true
may_end (Byte b) = true
may_end Backslash = false
may_end Hex = false
may_end (HexDigit high) = false
may_end Broken = false

-- the bytes of a text, of which `bytes` are read and the rest follows
abbrev pub bytes_from : Unescaping → List ℕ → List ℕ → Option (List ℕ)
bytes_from state bytes [] = if may_end state then Some bytes else None
bytes_from state bytes (b ∷ text) =
    bytes_from (unescape state b) (bytes ++ yielded (unescape state b)) text

-- the bytes that a text stands for, if it is one
abbrev pub bytes_of_text : List ℕ → Option (List ℕ)
bytes_of_text text = bytes_from Start [] text
