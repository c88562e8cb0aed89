-- What the answers of a session tell of its link.
use Rattle.std.specs.Prelude.{Bool, true, false, Result, Ok, Err}
use Rattle.h1_server.specs.Words.{Poll, Ready, Pending, Error, ReadRequest}
use Rattle.h1_server.specs.declared.request.ReadRequest.TheVariants as read

-- the answer of a call that read a head
abbrev pub is_head : Poll (Result ReadRequest Error) → Bool
is_head (Ready (Ok (read.Head n))) = true
is_head (Ready (Ok (read.None why))) = false
is_head (Ready (Err error)) = false
is_head Pending = false

-- the answer that the link may serve the next request
abbrev pub is_reused : Poll (Result Bool Error) → Bool
is_reused (Ready (Ok reusable)) = reusable
is_reused (Ready (Err error)) = false
is_reused Pending = false
