-- When a connection persists after a reply (RFC 9112, section 9.3).
use Rattle.std.specs.Prelude.{ℕ, nat_lt, Bool, true, false, ◌&&◌, ◌||◌, not, Option, Some, None, is_none, is_some, List, [], ◌∷◌}
use Rattle.h1_body.specs.Body.{Body, whole, unfinished, broken}
use Rattle.h1_body.specs.Writer.{until_close, is_finished, is_short}
use Rattle.h1_server.specs.Words.{reads, BodyState, Outgoing, Request, Settings}
use Rattle.h1_server.specs.SessionView.{SessionView}

-- the body was read to its end
abbrev pub is_whole : Body → Bool
is_whole (whole payload used) = true
is_whole (unfinished payload) = false
is_whole (broken payload) = false

-- the request's body was read to its end, and nothing failed in it
abbrev pub is_body_whole : BodyState → Bool
is_body_whole body = is_whole (reads body.reader []) && is_none body.refused

-- the request's body was read to its end, or can't be read on
abbrev pub is_body_done : BodyState → Bool
is_body_done body = is_whole (reads body.reader []) || is_some body.refused

-- there is no limit of requests, or some are left
abbrev pub has_reuses : Option ℕ → Bool
has_reuses None = true
has_reuses (Some left) = nat_lt 0 left

-- The flag of a final header: the request wishes it, keep-alive is not off, requests are left, and
-- the request's body is whole, or it may still be read after the reply.
abbrev pub keep_flag : Bool → Settings → BodyState → Bool
keep_flag wish settings body =
    wish && not settings.keep_off && has_reuses settings.reuses
    && (is_body_whole body || (not settings.closing && is_none body.refused))

-- the wish of the request, once its head was read
abbrev pub grants : Option Request → Bool
grants None = true
grants (Some request) = request.wish

-- a final header that was taken up let the connection go on, and its body doesn't end with the link
abbrev pub stays_open : Bool → Outgoing → Bool
stays_open keep reply = not reply.headed || (keep && not (until_close reply.writer.framing))

-- The connection persists after this request: keep-alive is not off, requests are left, the request
-- wishes it, its body didn't fail, and neither did the reply say otherwise.
abbrev pub keeps_alive : {L C : Type 0} → SessionView L C → Bool
keeps_alive session = not session.settings.keep_off && has_reuses session.settings.reuses
    && grants session.request && is_none session.body.refused
    && stays_open session.keep session.reply

-- a final reply was written to its end, with all bytes that it states, and no write was refused
abbrev pub is_replied : Outgoing → Bool
is_replied reply =
    reply.headed && is_none reply.refused && is_finished reply.writer && not (is_short reply.writer)

-- the connection persists, and the reply to this request is whole: the next one may be read
abbrev pub may_go_on : {L C : Type 0} → SessionView L C → Bool
may_go_on session = keeps_alive session && is_replied session.reply

-- no byte is there
abbrev pub is_nothing : List ℕ → Bool
is_nothing [] = true
is_nothing (b ∷ bytes) = false

-- with pipelining off, nothing may stand after the request
abbrev pub may_follow : Bool → List ℕ → Bool
may_follow pipelining received = pipelining || is_nothing received
