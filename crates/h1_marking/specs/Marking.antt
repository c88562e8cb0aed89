-- What the modules that a script can add make of requests and replies.
use Rattle.std.specs.Prelude.{ℕ, Bool, List, [], ◌∷◌, ◌++◌, Result, Ok, Err, codes, decimal, bytes_eq, if◌then◌else◌}
use Rattle.h1_head.specs.Views.{RequestView, ResponseView}
use Rattle.h1_modules.specs.declared.head_filter.HeadModule.{HeadModule}
use Rattle.h1_transcript.specs.Rules.{Rules}
use Rattle.h1_echo.specs.Echo.{EchoGives}
use Rattle.h1_app.specs.Filtering.{rules_with}
use Rattle.h1_app.specs.LawfulHeads.{head_chain}
use Rattle.h1_marking.specs.declared.marking.Marking.{Marking}
use Rattle.h1_marking.specs.declared.marking.Marking.TheVariants.{Mark, Refuse}

-- the target that is refused
abbrev pub asks_refusal : RequestView → Bool
asks_refusal head = bytes_eq head.target (codes "/refuse")

-- the line `x-mark: N` stands behind all others
abbrev pub marked : ℕ → ResponseView → ResponseView
marked number head =
    record head { fields = head.fields ++ (codes "x-mark", decimal number) ∷ [] }

-- a request for that target is refused with the module's number, and no request is changed
abbrev pub filtered_request : Marking → RequestView → Result RequestView ℕ
filtered_request (Mark number) head = Ok head
filtered_request (Refuse number) head = if asks_refusal head then Err number else Ok head

-- the header of a reply is marked with the module's number
abbrev pub filtered_header : Marking → ResponseView → Result ResponseView ℕ
filtered_header (Mark number) head = Ok (marked number head)
filtered_header (Refuse number) head = Ok head

-- the module of one of them
abbrev pub MarkingModule : Type 0
MarkingModule = HeadModule Marking

-- what a server of the echo application sends that has these modules
abbrev pub marking_rules : List MarkingModule → Rules
marking_rules modules = rules_with EchoGives (head_chain filtered_request filtered_header modules)
