-- What a poll of a client's script answered, and the lines that tell it.
use Rattle.std.specs.Prelude.{◌≢◌, ℕ, Bool, true, false, List, [], ◌∷◌, ◌++◌, codes, Option, Some, None, Result, Ok, Err}
use Rattle.std.specs.Fmt.{decimal}
use Rattle.std.specs.List.{flat_map}
use Rattle.h1_error.specs.declared.error.ErrorType.TheVariants.{NoMemory}
use Rattle.h1_error.specs.declared.progress.End.{End}
use Rattle.h1_error.specs.declared.progress.End.TheVariants as end
use Rattle.h1_error.specs.declared.progress.Progress.TheVariants as progress
use Rattle.h1_error.specs.declared.progress.Waiting.{Waiting}
use Rattle.h1_error.specs.declared.progress.Waiting.TheVariants as waiting
use Rattle.h1_fields.specs.Lines.{Line}
use Rattle.h1_words.specs.Report.{answer_text, counted_text}
use Rattle.h1_client.specs.Words.{Poll, Pending, Ready, Error, ResponseView}
use Rattle.h1_fetch.specs.declared.told.Told.{Told}
use Rattle.h1_fetch.specs.declared.told.Told.TheVariants as told

-- a call that is pending waits for its budget, where that is spent
abbrev pub waits : Bool → Waiting → Told
waits true what = told.Other (progress.Pending waiting.Budget)
waits false what = told.Other (progress.Pending what)

abbrev pub failed : Error → Told
failed error = told.Other (progress.Ready (end.Failed error))

-- what each call answers, by whether its budget is spent
abbrev pub asked_told : Bool → Poll (Result ℕ Error) → Told
asked_told spent (Ready (Ok length)) = told.Asked length
asked_told spent (Ready (Err error)) = failed error
asked_told spent Pending = waits spent waiting.Write

abbrev pub sent_told : Bool → Poll (Result (Option ℕ) Error) → Told
sent_told spent (Ready (Ok count)) = told.Sent count
sent_told spent (Ready (Err error)) = failed error
sent_told spent Pending = waits spent waiting.Write

abbrev pub finished_told : Bool → Poll (Result (Option ℕ) Error) → Told
finished_told spent (Ready (Ok count)) = told.Finished count
finished_told spent (Ready (Err error)) = failed error
finished_told spent Pending = waits spent waiting.Write

abbrev pub response_told : Bool → Poll (Result ℕ Error) → Told
response_told spent (Ready (Ok length)) = told.Response
response_told spent (Ready (Err error)) = failed error
response_told spent Pending = waits spent waiting.Read

abbrev pub body_told : Bool → Poll (Result (Option (List ℕ)) Error) → Told
body_told spent (Ready (Ok (Some piece))) = told.Body piece
body_told spent (Ready (Ok None)) = told.End
body_told spent (Ready (Err error)) = failed error
body_told spent Pending = waits spent waiting.Read

-- the end of the body was written
abbrev pub is_finished : Told → Bool
is_finished (told.Finished count) = true
is_finished _ = false

abbrev pub EndHasMemory : End → Type 0
EndHasMemory (end.Failed error) = error.kind ≢ NoMemory
EndHasMemory _ = Unit {0}

-- out of memory is no answer
abbrev pub HasMemory : Told → Type 0
HasMemory (told.Other (progress.Ready reason)) = EndHasMemory reason
HasMemory _ = Unit {0}

abbrev pub count_text : Option ℕ → List ℕ
count_text (Some count) = decimal count
count_text None = codes "nothing"

-- field NAME: VALUE
abbrev pub field_line : Line → List ℕ
field_line line = codes "field " ++ line.0 ++ codes ": " ++ line.1 ++ (10 ∷ [])

abbrev pub field_lines : List Line → List ℕ
field_lines lines = flat_map field_line lines

-- response STATUS, and the field lines of the response
abbrev pub response_text : Option ResponseView → List ℕ
response_text None = codes "response" ++ (10 ∷ [])
response_text (Some head) =
    codes "response " ++ decimal head.status ++ (10 ∷ []) ++ field_lines head.fields

-- what is told behind the moment, by the head that was read last
abbrev pub told_text : Option ResponseView → Told → List ℕ
told_text last (told.Asked length) = codes "asked " ++ decimal length ++ (10 ∷ [])
told_text last (told.Sent count) = codes "sent " ++ count_text count ++ (10 ∷ [])
told_text last (told.Finished count) = codes "finished " ++ count_text count ++ (10 ∷ [])
told_text last told.Response = response_text last
told_text last (told.Body piece) = codes "body " ++ counted_text piece ++ (10 ∷ [])
told_text last told.End = codes "end" ++ (10 ∷ [])
told_text last (told.Other answer) = answer_text answer ++ (10 ∷ [])

-- poll N: and what is told
abbrev pub poll_text : ℕ → Option ResponseView → Told → List ℕ
poll_text moment last answer =
    codes "poll " ++ decimal moment ++ codes ": " ++ told_text last answer
