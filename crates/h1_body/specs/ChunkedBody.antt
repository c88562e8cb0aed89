-- The grammar of a chunked body (RFC 9112, section 7.1): a tree, what it prints, and which trees
-- are valid.
use Rattle.std.specs.Prelude.{◌≡◌, ℕ, ◌<◌, ◌≤◌, true, List, [], ◌∷◌, ◌++◌, length, Option, Some, None, IfSome}
use Rattle.std.specs.List.{flat_map, AllByRecursion}
use Rattle.std.specs.Str.Parse.{digits_value, AllDigits}
use Rattle.httparse.specs.Grammar.{is_token_byte}
use Rattle.h1_body.specs.Chunks.{is_text}
use Rattle.h1_body.specs.declared.chunking.TheConstants.{SIZE_LINE_LIMIT, CHUNK_LIMIT, TRAILERS_LIMIT}

pub record SizeLine : Type 0 where
  pub digits : List ℕ
  pub extension : Option (List ℕ)

pub record Chunk : Type 0 where
  pub line : SizeLine
  pub content : List ℕ

pub record Trailer : Type 0 where
  pub name : List ℕ
  pub value : List ℕ

pub record ChunkedBody : Type 0 where
  pub chunks : List Chunk
  pub last : SizeLine
  pub trailers : List Trailer

abbrev pub crlf : List ℕ
crlf = 13 ∷ 10 ∷ []

-- chunk-ext, kept as its bytes after the semicolon
abbrev pub print_extension : Option (List ℕ) → List ℕ
print_extension None = []
print_extension (Some text) = 59 ∷ text

-- chunk-size [ chunk-ext ] CRLF
abbrev pub print_size_line : SizeLine → List ℕ
print_size_line line = line.digits ++ (print_extension line.extension ++ crlf)

-- chunk = chunk-size [ chunk-ext ] CRLF chunk-data CRLF
abbrev pub print_chunk : Chunk → List ℕ
print_chunk chunk = print_size_line chunk.line ++ (chunk.content ++ crlf)

-- field-line CRLF
abbrev pub print_trailer : Trailer → List ℕ
print_trailer trailer = trailer.name ++ 58 ∷ (trailer.value ++ crlf)

-- chunked-body = *chunk last-chunk trailer-section CRLF
abbrev pub print_body : ChunkedBody → List ℕ
print_body body = flat_map print_chunk body.chunks ++
    (print_size_line body.last ++ (flat_map print_trailer body.trailers ++ crlf))

abbrev pub content : ChunkedBody → List ℕ
content body = flat_map (λ chunk. chunk.content) body.chunks

abbrev pub IsText : List ℕ → Type 0
IsText bytes = AllByRecursion (λ b. is_text b ≡ true) bytes

abbrev pub IsTchars : List ℕ → Type 0
IsTchars bytes = AllByRecursion (λ b. is_token_byte b ≡ true) bytes

-- chunk-size = 1*HEXDIG, of at most 16 digits; the line and the size have a limit
pub record IsSizeLine (size : ℕ) (line : SizeLine) : Type 0 where
  pub some : 0 < length line.digits
  pub few : length line.digits ≤ 16
  pub digits : AllDigits 16 line.digits
  pub value : digits_value 16 line.digits ≡ size
  pub limited : size ≤ CHUNK_LIMIT
  pub extension : IfSome line.extension IsText
  pub short : length (print_size_line line) ≤ SIZE_LINE_LIMIT

-- only the last chunk has size 0
pub record IsChunk (chunk : Chunk) : Type 0 where
  pub line : IsSizeLine (length chunk.content) chunk.line
  pub some : 0 < length chunk.content

pub record IsTrailer (trailer : Trailer) : Type 0 where
  pub some : 0 < length trailer.name
  pub name : IsTchars trailer.name
  pub value : IsText trailer.value

pub record IsChunkedBody (body : ChunkedBody) : Type 0 where
  pub chunks : AllByRecursion IsChunk body.chunks
  pub last : IsSizeLine 0 body.last
  pub trailers : AllByRecursion IsTrailer body.trailers
  pub short : length (flat_map print_trailer body.trailers) ≤ TRAILERS_LIMIT
