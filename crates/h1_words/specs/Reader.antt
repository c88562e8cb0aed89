-- What a reader of scripts has read.
use Rattle.h1_words.specs.Script.{Reading, at_line}
use Rattle.h1_words.specs.declared.script.Reader.{Reader}

abbrev pub reading_of : Reader → Reading
reading_of r = at_line r.place r.commands.items r.number
