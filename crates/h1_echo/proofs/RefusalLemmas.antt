-- An application that refuses each request at once.
use Rattle.std.proofs.Common.{◌≡◌, ◌≢◌, IfErr, IfOk, Err, Ok, Result, Some, None, codes, refl, sym, arith}
use Rattle.std.proofs.lemmas.Fmt.{decimal_digit}
use Rattle.h1_echo.specs.Words.{Ready, Error, no_memory, Reply, Open, Failed, RefusedFor, line_fault, Given, GivesReply, IsLawful}
use Rattle.h1_echo.proofs.Words.{echo_settings, refused_reply}
use Rattle.h1_echo.specs.EchoLaw.{echo_lawful}
use Rattle.h1_echo.proofs.EchoLemmas.{length_value, only_memory}

not_open : Failed ≢ Open
not_open = λ is. cc

-- the reply of a refusal is lawful
pub refused_lawful : (given : Given) (reply : Reply) → reply ≡ refused_reply → IsLawful reply.header
refused_lawful given reply is =
    let refused : Given =
    record given {
      how = Failed;
      body_error = Some no_memory;
      read_limit = None;
      left = echo_settings given.head given.began;
    } in
    echo_lawful refused reply (record { read = not_open; left = refl; is = is; limit = tt; small = rw is (omega arith) })

-- the line that states no body is refused only where memory ran out
pub refusal_memory : (error : Error)
    → RefusedFor {T = Unit {0}} (line_fault (codes "content-length") (codes "0")) (Err error)
    → error ≡ no_memory
refusal_memory error h =
    let none = length_value (codes "0") 0 (sym (decimal_digit 0 (omega arith))) (omega arith) in
    only_memory (Err error) (codes "content-length") (codes "0") none h

-- it gives its reply, or there is no memory
pub refusal_gives : (given : Given) (result : Result Reply Error)
    → IfOk result (λ reply. reply ≡ refused_reply)
    → IfErr result (λ error. error ≡ no_memory)
    → GivesReply (λ given reply. IsLawful reply.header) given (λ error. error ≡ no_memory)
    (Ready result)
refusal_gives given (Ok reply) is memory = refused_lawful given reply is
refusal_gives given (Err error) is memory = memory
