-- When a connection goes on with another protocol (RFC 9110, section 7.8).
use Rattle.std.specs.Prelude.{◌≡◌, ℕ, List, Bool, true, false, ◌&&◌, not, Option, None, Result, Ok, Err, if◌then◌else◌}
use Rattle.h1_client.specs.Words.{Poll, Pending, Ready, Error, Counted, UntilClose, WriterView, TransferView, begun, body, reads, until_close}
use Rattle.h1_client.specs.ClientView.{ClientView, request_of, response_of}
use Rattle.h1_client.specs.Responses.{is_upgraded, wishes_upgrade}
use Rattle.h1_client.specs.Reusing.{is_over}

-- the request asked for another protocol, and the final response changes to it
abbrev pub was_upgraded : {L : Type 0} → ClientView L → Bool
was_upgraded s = wishes_upgrade (request_of s) && is_upgraded (response_of s)

-- what is written of the body passes as it is, and the body goes on
abbrev pub passes : WriterView → Bool
passes writer = until_close writer.framing && not writer.ended

-- the request's body passes as it is from here on, and the count of its payload begins anew
abbrev pub passed_on : {L : Type 0} → ClientView L → ClientView L
passed_on s = record s {
  transfer = record s.transfer {
    outgoing = record s.transfer.outgoing { writer = begun UntilClose };
  };
}

-- The body passes on exactly behind a change of the protocol. One that passes already goes on.
abbrev pub upgraded : {L : Type 0} → ClientView L → ClientView L
upgraded s = if was_upgraded s && not (passes s.transfer.outgoing.writer) then passed_on s else s

-- A call with this answer is the end of both bodies: that of the request, which passed as it is,
-- has ended, and that of the response goes on.
abbrev pub ends_both : {L : Type 0} → TransferView L → Poll (Result (Option ℕ) Error) → Bool
ends_both t (Ready (Ok count)) = until_close t.outgoing.writer.framing && t.outgoing.writer.ended
    && not (is_over t.body)
ends_both t (Ready (Err error)) = false
ends_both t Pending = false

-- the body of the response is at its end
pub record EndsResponse {L : Type 0} (old new : TransferView L) : Type 0 where
  pub empty : (rest : List ℕ) → reads new.body.reader rest ≡ body (Counted 0) rest
  pub rest : new ≡ record old {
    body = record old.body { reader = new.body.reader; refused = None };
  }

-- the body of the response ends with the request's, or all stays
abbrev pub EndsWithRequest : {L : Type 0} → Bool → TransferView L → TransferView L → Type 0
EndsWithRequest true old new = EndsResponse old new
EndsWithRequest false old new = new ≡ old
