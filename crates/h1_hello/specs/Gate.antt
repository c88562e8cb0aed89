-- What the gate makes of requests and replies.
use Rattle.std.specs.Prelude.{ℕ, pos, [], ◌∷◌, ◌++◌, Result, Ok, Err, List, codes, is_some, not, ◌&&◌, bytes_eq, if◌then◌else◌}
use Rattle.h1_fields.specs.Lines.{first_value}
use Rattle.h1_head.specs.Views.{RequestView, ResponseView}
use Rattle.h1_modules.specs.declared.head_filter.HeadModule.{HeadModule}
use Rattle.h1_transcript.specs.Rules.{Rules}
use Rattle.h1_app.specs.Filtering.{Chain, rules_with}
use Rattle.h1_app.specs.LawfulHeads.{head_chain}
use Rattle.h1_application.specs.AtOnce.{AnyLawful, AnswersAtOnce}
use Rattle.h1_hello.specs.declared.gate.Gate.{Gate}

-- a request for `/private` without a line `authorization` is refused
abbrev pub asked : RequestView → Result RequestView ℕ
asked head =
    if bytes_eq head.target (codes "/private")
    && not (is_some (first_value (codes "authorization") head.fields)) then Err 401 else Ok head

-- the line `x-gate: passed` stands behind all others
abbrev pub marked : ResponseView → ResponseView
marked header =
    record header { fields = header.fields ++ (codes "x-gate", codes "passed") ∷ [] }

-- servers with these modules, which leave bodies as they are
abbrev pub gate_chain : List (HeadModule Gate) → Chain (HeadModule Gate)
gate_chain gates = head_chain (λ gate head. asked head) (λ gate header. Ok (marked header)) gates

-- the one gate of a server
abbrev pub gate : HeadModule Gate
gate = record { filter = record {}; order = pos 0; key = 1 }

-- one gate before an application that answers at once with any lawful reply
abbrev pub gated : Rules
gated =
    rules_with (AnswersAtOnce (λ head reply. AnyLawful head reply))
    (gate_chain (gate ∷ []))
