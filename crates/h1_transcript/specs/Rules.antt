-- What a connection sends: what its application replies, and what its modules make of heads and
-- bodies.
use Rattle.std.specs.Prelude.{◌≡◌, ℕ, List, Result, Ok}
use Rattle.h1_transcript.specs.Words.{RequestView, ResponseView, Reply}
use Rattle.h1_transcript.specs.Given.{Given}
use Rattle.h1_transcript.specs.Lawful.{IsLawful}

-- What the modules of an exchange make of what they are given, each filter behind those before it;
-- or the number with which one refuses. The request is told by its head as it was read.
pub record Filters : Type 0 where
  -- the head of the request
  pub request : RequestView → Result RequestView ℕ
  -- the header of this reply to it
  pub header : RequestView → Reply → Result ResponseView ℕ
  -- the body of this reply to it
  pub body : RequestView → Reply → Result (List ℕ) ℕ

-- modules that change nothing, as where there are none
abbrev pub no_filters : Filters
no_filters = record {
  request = λ head. Ok head;
  header = λ head reply. Ok reply.header;
  body = λ head reply. Ok reply.body;
}

-- modules with these filters change nothing and refuse nothing
pub record ArePlain (filters : Filters) : Type 0 where
  pub request : (head : RequestView) → filters.request head ≡ Ok head
  pub header : (head : RequestView) (reply : Reply) → filters.header head reply ≡ Ok reply.header
  pub body : (head : RequestView) (reply : Reply) → filters.body head reply ≡ Ok reply.body

-- which replies the application gives, and what the modules make of them
pub record Rules : Type 1 where
  pub gives : Given → Reply → Type 0
  pub filters : Filters

-- the rules of an application without modules
abbrev pub plain : (Given → Reply → Type 0) → Rules
plain gives = record { gives = gives; filters = no_filters }

-- what the modules leave of the header of each reply that the application gives is lawful
abbrev pub LawfulRules : Rules → Type 0
LawfulRules rules = (given : Given) (reply : Reply) → rules.gives given reply
    → (head : RequestView) (header : ResponseView) → rules.filters.header head reply ≡ Ok header
    → IsLawful header
