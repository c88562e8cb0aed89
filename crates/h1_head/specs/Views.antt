-- What contracts see of a request head and of a response head (RFC 9112, sections 3 and 4).
use Rattle.std.specs.Prelude.{ℕ, Bool, List, Option}
use Rattle.http.specs.declared.version.Version.{Version}
use Rattle.h1_fields.specs.Lines.{Line}

-- the head of a request, with the authority of its URI where it came from one
pub record RequestView : Type 0 where
  pub method : List ℕ
  pub target : List ℕ
  pub version : Version
  pub authority : Option (List ℕ)
  pub fields : List Line
  pub send_end_stream : Bool

-- the head of a response, with the phrase that was set
pub record ResponseView : Type 0 where
  pub status : ℕ
  pub version : Version
  pub reason : Option (List ℕ)
  pub fields : List Line
