-- How the end of a message's body is found (RFC 9112, section 6.3).
use Rattle.std.specs.Prelude.{ℕ, Bool, ◌||◌, ◌&&◌, ◌==◌, List, codes, bytes_eq, if◌then◌else◌}
use Rattle.h1_fields.specs.Lines.{Line}
use Rattle.h1_fields.specs.Codings.{is_chunked_last}
use Rattle.h1_fields.specs.ContentLength.{content_length}
use Rattle.h1_fields.specs.declared.content_length.ContentLength.{ContentLength}
use Rattle.h1_fields.specs.declared.content_length.ContentLength.TheVariants as stated
use Rattle.h1_head.specs.Views.{RequestView, ResponseView}
use Rattle.h1_body.specs.declared.framing.Framing.{Framing}
use Rattle.h1_body.specs.declared.framing.Framing.TheVariants.{Counted, Chunked, UntilClose}

-- a stated length, or this framing where none is stated as one number
abbrev pub by_length : Framing → ContentLength → Framing
by_length otherwise (stated.Number n) = Counted n
by_length otherwise stated.Absent = otherwise
by_length otherwise stated.Bad = otherwise

-- the last coding decides, then the length
abbrev pub by_fields : Framing → List Line → Framing
by_fields otherwise fields =
    if is_chunked_last fields then Chunked else by_length otherwise (content_length fields)

-- a request with neither has no body
abbrev pub framing : RequestView → Framing
framing head = by_fields (Counted 0) head.fields

-- a request of this method asks for the head of a reply alone (RFC 9110, section 9.3.2)
abbrev pub is_head : List ℕ → Bool
is_head method = bytes_eq method (codes "HEAD")

-- a reply of which the head alone is asked for, and one of status 204 or 304, has no body
abbrev pub has_no_body : Bool → ℕ → Bool
has_no_body head_only status = head_only || status == 204 || status == 304

-- a reply with neither ends where the link does
abbrev pub out_to : Bool → ResponseView → Framing
out_to head_only head =
    if has_no_body head_only head.status then Counted 0 else by_fields UntilClose head.fields

abbrev pub out : List ℕ → ResponseView → Framing
out method head = out_to (is_head method) head

-- The answer to HEAD, 204 and 304 have no body. Behind a 101 that was asked for, the link is the
-- body (RFC 9110, section 7.8). Else the last coding decides, then the length, then the link's end.
abbrev pub response_framing : Bool → Bool → ResponseView → Framing
response_framing head_only upgrade head =
    if has_no_body head_only head.status
    then Counted 0
    else (if upgrade && head.status == 101 then UntilClose else by_fields UntilClose head.fields)
