-- Replies that state their length (RFC 9112, section 6.2).
use Rattle.std.specs.Prelude.{ℕ, Bool, ◌==◌, ◌||◌, List, [], ◌∷◌, length, codes, decimal, if◌then◌else◌}
use Rattle.h1_fields.specs.Lines.{Line}
use Rattle.h1_head.specs.Response.{new_response}
use Rattle.h1_transcript.specs.declared.reply.Reply.{Reply}

-- a status whose replies have no body, and state no length (RFC 9110, sections 8.6, 15.3.5, 15.4.5)
abbrev pub has_no_length : ℕ → Bool
has_no_length status = status == 204 || status == 304

-- the line that states the length
abbrev pub length_lines : ℕ → ℕ → List Line
length_lines status count =
    if has_no_length status then [] else (codes "content-length", decimal count) ∷ []

-- this status, the length where a reply of it states one, and this body
abbrev pub counted_reply : ℕ → List ℕ → Reply
counted_reply status body = record {
  header = record (new_response status) { fields = length_lines status (length body) };
  body = body;
}
