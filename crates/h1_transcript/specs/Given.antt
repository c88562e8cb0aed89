-- What a reply depends on.
use Rattle.std.specs.Prelude.{ℕ, List, Option}
use Rattle.h1_transcript.specs.Words.{Error, RequestView, Settings, How}

-- what a reply depends on
pub record Given : Type 0 where
  pub head : RequestView
  -- the payload that the application was handed
  pub handed : List ℕ
  pub how : How
  pub body_error : Option Error
  -- the read timeout that was in force at the read of the body that timed out
  pub read_limit : Option ℕ
  pub began : Settings
  pub left : Settings
