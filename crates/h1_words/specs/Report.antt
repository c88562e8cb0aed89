-- What a report says of bytes and of a connection.
use Rattle.std.specs.Prelude.{ℕ, List, [], ◌∷◌, ◌++◌, length, codes}
use Rattle.std.specs.Fmt.{decimal}
use Rattle.h1_error.specs.Code.{code_of}
use Rattle.h1_error.specs.Text.{text_of}
use Rattle.h1_error.specs.declared.progress.End.{End}
use Rattle.h1_error.specs.declared.progress.End.TheVariants as end
use Rattle.h1_error.specs.declared.progress.Waiting.{Waiting}
use Rattle.h1_error.specs.declared.progress.Waiting.TheVariants as waiting
use Rattle.h1_error.specs.declared.progress.Progress.{Progress}
use Rattle.h1_error.specs.declared.progress.Progress.TheVariants as progress
use Rattle.h1_words.specs.ByteText.{text_of_bytes}

-- the number of the bytes, and after one space the bytes, where there are any
abbrev pub counted_text : List ℕ → List ℕ
counted_text [] = decimal 0
counted_text (b ∷ bytes) = decimal (length (b ∷ bytes)) ++ codes " " ++ text_of_bytes (b ∷ bytes)

abbrev pub waiting_text : Waiting → List ℕ
waiting_text waiting.Read = codes "pending read"
waiting_text waiting.Write = codes "pending write"
waiting_text waiting.App = codes "pending application"
waiting_text waiting.Budget = codes "pending budget"

-- a failure is told by the number and the text of its kind
abbrev pub end_text : End → List ℕ
end_text end.Finished = codes "finished"
end_text end.NotKept = codes "not kept"
end_text end.Overread = codes "overread"
end_text (end.Failed error) =
    codes "failed " ++ decimal (code_of error.kind) ++ codes " " ++ text_of error.kind

-- what a poll answered
abbrev pub answer_text : Progress → List ℕ
answer_text (progress.Pending waiting) = waiting_text waiting
answer_text (progress.Ready end) = end_text end
