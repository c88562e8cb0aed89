-- What a client's script is reported as: a line for each poll, what was written, and whether the link
-- may serve the next request.
use Rattle.std.specs.Prelude.{◌≡◌, ℕ, Bool, true, false, List, [], ◌∷◌, ◌++◌, codes, Option, Some, option_map}
use Rattle.h1_head.specs.Request.{new_request}
use Rattle.h1_words.specs.Report.{counted_text}
use Rattle.h1_client.specs.Reusing.{is_reusable, respected}
use Rattle.h1_client.specs.Words.{ResponseView}
use Rattle.h1_fetch.specs.ScriptState.{IsFirst, State, link_behind_all, over_link, with_field}
use Rattle.h1_fetch.specs.Steps.{StepsBy, call_of}
use Rattle.h1_fetch.specs.Told.{HasMemory, poll_text}
use Rattle.h1_fetch.specs.declared.lines.Line.{Line}
use Rattle.h1_fetch.specs.declared.lines.Line.TheVariants as line
use Rattle.h1_fetch.specs.declared.told.Told.{Told}

-- the head that was read last
abbrev pub last_head : State → Option ResponseView
last_head s = option_map (λ last. last.header) s.session.answered.last

-- one poll at a moment, and its lines
pub record Polls (moment : ℕ) (s : State) (text : List ℕ) (t : State) : Type 0 where
  pub told : Told
  pub steps : StepsBy (call_of s) moment s t told
  pub memory : HasMemory told
  pub is : text ≡ poll_text moment (last_head t) told

-- what a line makes of the state before it, and what it writes
abbrev pub Obeys : State → Line → List ℕ → State → Type 0
Obeys s (line.Poll moment) text t = Polls moment s text t
Obeys s (line.Link commands) text t = (text ≡ [])
    × (t ≡ record s { session = over_link s.session (link_behind_all commands s.session.transfer.link) })
Obeys s (line.Ask method target) text t =
    (text ≡ []) × (t ≡ record s { head = Some (new_request method target) })
Obeys s (line.Field name value) text t =
    (text ≡ []) × (t ≡ record s { head = with_field name value s.head })
Obeys s (line.Send piece) text t = (text ≡ []) × (t ≡ record s { pieces = s.pieces ++ piece ∷ [] })
Obeys s line.Finish text t = (text ≡ []) × (t ≡ record s { ends = true })

-- the lines one after the other, and what each writes
abbrev pub Lines : State → List Line → List ℕ → State → Type 0
Lines s [] text t = (text ≡ []) × (t ≡ s)
Lines s (l ∷ more) text t =
    (told : List ℕ) × (next : State) × (rest : List ℕ) × (text ≡ told ++ rest) × Obeys s l told next
    × Lines next more rest t

-- wrote N TEXT
abbrev pub wrote_line : List ℕ → List ℕ
wrote_line written = codes "wrote " ++ counted_text written ++ (10 ∷ [])

abbrev pub kept_line : Bool → List ℕ
kept_line true = codes "kept" ++ (10 ∷ [])
kept_line false = codes "not kept" ++ (10 ∷ [])

-- the text of these lines: their polls, and then what the last state tells
pub record IsTextOf (asked : List Line) (text : List ℕ) : Type 0 where
  pub first : State
  pub last : State
  pub polls : List ℕ
  pub written : List ℕ
  pub begins : IsFirst first
  pub lines : Lines first asked polls last
  pub told : last.session.transfer.link.state.written ≡ Some written
  pub is : text ≡ polls ++ wrote_line written ++ kept_line (is_reusable (respected last.session))

-- a line adds this text, and the script goes on
pub record ObeysOnce (old : State) (asked : Line) (text : List ℕ) (new : State) (behind : List ℕ)
    : Type 0 where
  pub told : List ℕ
  pub text_is : behind ≡ text ++ told
  pub obeys : Obeys old asked told new
