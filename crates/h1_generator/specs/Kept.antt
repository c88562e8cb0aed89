-- What holds of exchanges that are served with keep-alive on over a link that never fails.
use Rattle.std.specs.Prelude.{◌≡◌, ◌≢◌, false, IfSome}
use Rattle.h1_error.specs.declared.error.ErrorType.TheVariants.{ReadError, ReadTimedout}
use Rattle.h1_transcript.specs.Entry.{Entry}

-- it began with keep-alive on, and its body was refused for no read that failed or waited too long
pub record IsKeptOn (e : Entry) : Type 0 where
  pub began : e.began.keep_off ≡ false
  pub unfailed : IfSome e.body_error (λ error. error.kind ≢ ReadError)
  pub in_time : IfSome e.body_error (λ error. error.kind ≢ ReadTimedout)
