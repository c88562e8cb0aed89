-- What the echo application replies.
use Rattle.std.specs.Prelude.{◌≡◌, ◌≢◌, ℕ, ◌+◌, ◌^◌, ◌<◌, List, [], ◌∷◌, ◌++◌, length, not, Option, Some, None, IfSome, codes, bytes_eq, if◌then◌else◌}
use Rattle.std.specs.Fmt.{decimal}
use Rattle.h1_echo.specs.Words.{Error, RequestView, new_response, Settings, Reply, Open, Given}
use Rattle.h1_fields.specs.Lines.{Line}
use Rattle.h1_server.specs.Limit.{limited, shown}
use Rattle.h1_server.specs.declared.limit.Limit.{Limit}

-- the body of an echo: the method, the target and the request's body
abbrev pub echo_body : RequestView → List ℕ → List ℕ
echo_body head handed = head.method ++ (32 ∷ []) ++ head.target ++ (10 ∷ []) ++ handed

-- the fields that frame a reply of so many bytes to this target
abbrev pub echo_fields : List ℕ → ℕ → List Line
echo_fields target count =
    if bytes_eq target (codes "/until") then []
    else if bytes_eq target (codes "/chunk") then (codes "transfer-encoding", codes "chunked") ∷ []
    else if bytes_eq target (codes "/short") then (codes "content-length", decimal (count + 1)) ∷ []
    else (codes "content-length", decimal count) ∷ []

-- the reply to a request whose body can't be read on
abbrev pub refused_reply : Reply
refused_reply =
    record {
      header = record (new_response 400)
          { fields = (codes "content-length", codes "0") ∷ [] };
      body = [];
    }

-- the reply to a request that was read, and to one whose body can't be read on
abbrev pub echo_reply : RequestView → List ℕ → Option Error → Reply
echo_reply head handed None =
    record {
      header = record (new_response 200)
          { fields = echo_fields head.target (length (echo_body head handed)) };
      body =
          echo_body head handed;
    }
echo_reply head handed (Some error) = refused_reply

-- how long the write of the reply's body may wait: for one target a second
abbrev pub echo_write : RequestView → Limit → Limit
echo_write head write =
    if bytes_eq head.target (codes "/slow") then limited (Some 1000) else write

-- pipelining is on but for one target, and for one the reply's body has a deadline
abbrev pub echo_settings : RequestView → Settings → Settings
echo_settings head began = record began {
  pipelining = not (bytes_eq head.target (codes "/nopipe"));
  times = record began.times { write = echo_write head began.times.write };
}

-- the replies of the echo application: it reads the body to its end or to its error
pub record EchoGives (given : Given) (reply : Reply) : Type 0 where
  pub read : given.how ≢ Open
  pub left : given.left ≡ echo_settings given.head given.began
  pub is : reply ≡ echo_reply given.head given.handed given.body_error
  -- a read of the body timed out only at the read timeout that was set at first
  pub limit : IfSome given.read_limit (λ limit. shown given.began.times.read ≡ Some limit)
  -- its length can be stated
  pub small : length reply.body < 2 ^ 63
