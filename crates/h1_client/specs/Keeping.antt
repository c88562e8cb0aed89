-- Whether a link may serve the next request (RFC 9112, section 9.3).
use Rattle.std.specs.Prelude.{ℕ, ◌+◌, Bool, ◌&&◌, ◌||◌, ◌==◌, List, [], ◌∷◌, take, drop, codes, bytes_eq, Option, Some, None, if◌then◌else◌}
use Rattle.std.specs.List.{position}
use Rattle.httparse.specs.Grammar.{trim_ows}
use Rattle.h1_body.specs.Reader.{is_until_close}
use Rattle.h1_fields.specs.Codings.{has_coding_line, lists_close, lists_keep_alive}
use Rattle.h1_fields.specs.ContentLength.{number}
use Rattle.h1_fields.specs.Lines.{Line}
use Rattle.h1_fields.specs.ListParts.{parts_of}
use Rattle.h1_head.specs.Versions.{is_http_10, is_http_11}
use Rattle.h1_client.specs.Words.{RequestView, ResponseView}
use Rattle.h1_client.specs.Responses.{framing_to}
use Rattle.h1_client.specs.declared.keeping.Keepalive.{Keepalive}
use Rattle.h1_client.specs.declared.keeping.Keepalive.TheVariants.{Off, On}

abbrev pub is_equals : ℕ → Bool
is_equals b = b == 61

-- one or more digits, perhaps behind one `+`
abbrev pub seconds : List ℕ → Option ℕ
seconds [] = None
seconds (b ∷ bytes) = if b == 43 then number bytes else number (b ∷ bytes)

-- what is known of the timeout with one part more, whose key stands before the first `=`
abbrev pub with_part : Option ℕ → List ℕ → Option ℕ
with_part found part = at (position is_equals part) where
  at : Option ℕ → Option ℕ
  at None = found
  at (Some n) =
      if bytes_eq (trim_ows (take n part)) (codes "timeout")
      then seconds (trim_ows (drop (n + 1) part)) else found

-- what is known of it after these parts, of which the last counts
abbrev pub after_parts : Option ℕ → List (List ℕ) → Option ℕ
after_parts found [] = found
after_parts found (part ∷ parts) = after_parts (with_part found part) parts

-- how many seconds the lines of Keep-Alive let the connection stand idle
abbrev pub stated_timeout : List Line → Option ℕ
stated_timeout fields = after_parts None (parts_of (codes "Keep-Alive") fields)

-- The first of these lines that holds decides: another protocol follows; the body is read until the
-- link ends; bytes came behind the response; it has a coding that version 1.0 doesn't know; one of
-- both sides says `close`; the response says `keep-alive`; it has version 1.1; none of these.
abbrev pub keep_by : RequestView → ResponseView → Bool → Keepalive
keep_by request said overread =
    if said.status == 101 then Off
    else (if is_until_close (framing_to request said) then Off
    else (if overread then Off
    else (if is_http_10 said.version && has_coding_line said.fields then Off
    else (if lists_close request.fields || lists_close said.fields then Off
    else (if lists_keep_alive said.fields then On (stated_timeout said.fields)
    else (if is_http_11 said.version then On None
    else Off))))))

-- the same, and off until the final head is read
abbrev pub keep_of : Option RequestView → Option ResponseView → Bool → Keepalive
keep_of (Some request) (Some said) overread = keep_by request said overread
keep_of (Some request) None overread = Off
keep_of None final overread = Off
