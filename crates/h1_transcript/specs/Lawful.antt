-- Which replies are lawful (RFC 9112, sections 2.3, 4, 6.2 and 6.3).
use Rattle.std.specs.Prelude.{◌≡◌, ℕ, ◌≤◌, ◌⊎◌, List, [], ◌∷◌, true, false, ◌||◌, codes}
use Rattle.h1_transcript.specs.Words.{ResponseView, Reply}
use Rattle.h1_fields.specs.Lines.{has_line, values_of}
use Rattle.h1_fields.specs.Codings.{has_coding_line, is_chunked_last}
use Rattle.h1_fields.specs.ContentLength.{content_length}
use Rattle.h1_fields.specs.declared.content_length.ContentLength.TheVariants.{Number}
use Rattle.h1_head.specs.Versions.{is_http_10, is_http_11}
use Rattle.h1_transcript.specs.Given.{Given}

-- One Content-Length line, which reads as one number.
pub record IsCounted (header : ResponseView) : Type 0 where
  pub value : List ℕ
  pub number : ℕ
  pub one : values_of (codes "Content-Length") header.fields ≡ value ∷ []
  pub reads : content_length header.fields ≡ Number number
  pub alone : has_coding_line header.fields ≡ false

-- Transfer-Encoding with `chunked` as the last coding, on version 1.1
pub record IsChunked (header : ResponseView) : Type 0 where
  pub chunked : is_chunked_last header.fields ≡ true
  pub version : is_http_11 header.version ≡ true
  pub alone : has_line (codes "Content-Length") header.fields ≡ false

-- no field frames the body
pub record IsUnframed (header : ResponseView) : Type 0 where
  pub no_length : has_line (codes "Content-Length") header.fields ≡ false
  pub no_coding : has_coding_line header.fields ≡ false

-- a lawful reply: a final header of version 1.0 or 1.1, with at most one statement of its length
-- (RFC 9112, sections 2.3, 4, 6.2 and 6.3)
pub record IsLawful (header : ResponseView) : Type 0 where
  pub final : 200 ≤ header.status
  pub status : header.status ≤ 999
  pub version : (is_http_10 header.version || is_http_11 header.version) ≡ true
  pub framing : IsUnframed header ⊎ IsCounted header ⊎ IsChunked header

-- the replies that the relation gives are lawful
abbrev pub LawfulReplies : (Given → Reply → Type 0) → Type 0
LawfulReplies gives = (given : Given) (reply : Reply) → gives given reply → IsLawful reply.header
