-- Modules that filter heads alone, under which the replies of every application stay lawful where
-- each of them leaves a lawful header lawful (RFC 9112, section 6).
use Rattle.std.specs.Prelude.{◌≡◌, ℕ, List, [], ◌∷◌, ◌++◌, map, Bool, false, ◌||◌, Result, Ok, Err, IfOk, bytes_eq, codes}
use Rattle.std.specs.Char.{to_ascii_lowercase}
use Rattle.std.proofs.lemmas.Bool.{or_parts}
use Rattle.h1_fields.specs.Names.{same_name}
use Rattle.h1_modules.specs.declared.head_filter.HeadModule.{HeadModule}
use Rattle.h1_modules.specs.Heads.{stateless}
use Rattle.h1_modules.specs.Keeping.{Leaves, run_keeps}
use Rattle.h1_transcript.specs.LawfulLines.{FramesNothing, lawful_behind}
use Rattle.h1_app.specs.Words.{RequestView, ResponseView, Given, Reply, IsLawful, LawfulReplies, LawfulRules}
use Rattle.h1_app.specs.Filtering.{Chain, chain, rules_with}
use Rattle.h1_app.specs.LawfulModules.{chain_lawful}

-- the modules of filters that make this of the heads of requests and of responses
abbrev pub head_chain : {F : Type 0} → (F → RequestView → Result RequestView ℕ)
    → (F → ResponseView → Result ResponseView ℕ) → List (HeadModule F) → Chain (HeadModule F)
head_chain request response builders =
    chain (λ m. m) (λ m head. stateless m (request m.filter head))
    (λ end m head. stateless m (response m.filter head)) (λ end m piece. Ok (m, piece)) builders

-- what such a filter leaves of a lawful header is lawful, or it refuses it
abbrev pub KeepsLawful : {F : Type 0} → (F → ResponseView → Result ResponseView ℕ) → Type 0
KeepsLawful {F} response =
    (filter : F) (header : ResponseView) → IsLawful header → IfOk (response filter header) IsLawful

stateless_leaves : {M V : Type 0} (holds : V → Type 0) (m : M) (outcome : Result V ℕ)
    → IfOk outcome holds → Leaves holds (stateless m outcome)
stateless_leaves holds m (Ok value) kept = kept
stateless_leaves holds m (Err number) kept = tt

-- whatever the application gives, and whichever list of them runs
pub heads_lawful : {F : Type 0} (request : F → RequestView → Result RequestView ℕ)
    (response : F → ResponseView → Result ResponseView ℕ) → KeepsLawful response
    → (gives : Given → Reply → Type 0) → LawfulReplies gives → (builders : List (HeadModule F))
    → LawfulRules (rules_with gives (head_chain request response builders))
heads_lawful {F} request response keeps gives lawful builders =
    chain_lawful gives lawful (head_chain request response builders)
    (λ end. run_keeps IsLawful (λ (m : HeadModule F) head. stateless m (response m.filter head))
    (λ m head kept. stateless_leaves IsLawful m (response m.filter head) (keeps m.filter head kept)))

-- the names are the same, in any case of ASCII's letters
abbrev is_named : List ℕ → List ℕ → Bool
is_named a b = bytes_eq (map to_ascii_lowercase a) (map to_ascii_lowercase b)

-- a line of this name says how a body is framed
abbrev pub frames_body : List ℕ → Bool
frames_body name = is_named (codes "Content-Length") name || is_named (codes "Transfer-Encoding") name

frames_nothing : (name : List ℕ) → frames_body name ≡ false → FramesNothing name
unfolding same_name
frames_nothing name h =
    let none = or_parts (is_named (codes "Content-Length") name)
    (is_named (codes "Transfer-Encoding") name) h in
    record { no_length = none.0; no_coding = none.1 }

-- a lawful header with a line behind the others that frames no body is lawful
pub line_keeps : (name value : List ℕ) → frames_body name ≡ false
    → (header : ResponseView) → IsLawful header
    → IsLawful (record header { fields = header.fields ++ (name, value) ∷ [] })
line_keeps name value other header = lawful_behind header (name, value) (frames_nothing name other)
