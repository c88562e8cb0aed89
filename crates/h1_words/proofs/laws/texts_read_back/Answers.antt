use Rattle.h1_words.proofs.TextLemmas.{text_is_printable, text_reads_back}
use Rattle.h1_words.proofs.laws.texts_read_back.Goals as goal

pub returns : goal.returns
returns c = record { printable = text_is_printable; same = text_reads_back }
