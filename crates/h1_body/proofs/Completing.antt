-- What completes a chunked body from each place of its reader.
use Rattle.std.proofs.Common.{◌≡◌, ℕ, ◌+◌, ◌-◌, ◌<◌, ◌≤◌, List, [], ◌∷◌, ◌++◌, length, ◌⊎◌, IfSome, Option}
use Rattle.std.specs.List.{flat_map, AllByRecursion}
use Rattle.std.specs.Str.Parse.{digits_value_after, AllDigits}
use Rattle.h1_body.specs.ChunkedBody.{Trailer, ChunkedBody, crlf, print_extension, print_trailer, print_body, content, IsText, IsTchars, IsTrailer, IsChunkedBody}
use Rattle.h1_body.specs.declared.chunking.Chunking.{Chunking}
use Rattle.h1_body.specs.declared.chunking.Chunking.TheVariants.{Start, Size, Extension, SizeLf, Data, DataCr, DataLf, Trailers, Name, Value, ValueLf, EndLf, Done, Broken}
use Rattle.h1_body.specs.declared.chunking.TheConstants.{SIZE_LINE_LIMIT, CHUNK_LIMIT, TRAILERS_LIMIT}

-- the bytes are a whole body with this payload
pub record Complete (bytes payload : List ℕ) : Type 0 where
  pub body : ChunkedBody
  pub valid : IsChunkedBody body
  pub bytes_are : bytes ≡ print_body body
  pub payload_is : payload ≡ content body

-- the bytes are trailers, of which there may be `left` bytes, and the empty line
pub record EndsTrailers (left : ℕ) (bytes : List ℕ) : Type 0 where
  pub trailers : List Trailer
  pub valid : AllByRecursion IsTrailer trailers
  pub short : length (flat_map print_trailer trailers) ≤ left
  pub bytes_are : bytes ≡ flat_map print_trailer trailers ++ crlf

-- the bytes are data of this length, CRLF and a whole body
pub record EndsData (size : ℕ) (bytes payload : List ℕ) : Type 0 where
  pub data_bytes : List ℕ
  pub rest : List ℕ
  pub later : List ℕ
  pub long : length data_bytes ≡ size
  pub bytes_are : bytes ≡ data_bytes ++ (crlf ++ rest)
  pub payload_is : payload ≡ data_bytes ++ later
  pub complete : Complete rest later

-- what follows the size line of a chunk
pub record EndsChunks (size : ℕ) (bytes payload : List ℕ) : Type 0 where
  pub which : ((size ≡ 0) × EndsTrailers TRAILERS_LIMIT bytes × (payload ≡ []))
      ⊎ ((0 < size) × EndsData size bytes payload)

-- what follows digits of a size
pub record EndsSize (left size : ℕ) (bytes payload : List ℕ) : Type 0 where
  pub digits : List ℕ
  pub extension : Option (List ℕ)
  pub rest : List ℕ
  pub hex : AllDigits 16 digits
  pub few : length digits ≤ left
  pub small : size ≤ CHUNK_LIMIT → digits_value_after 16 size digits ≤ CHUNK_LIMIT
  pub text : IfSome extension IsText
  pub short : length digits + length (print_extension extension) ≤ SIZE_LINE_LIMIT - 18 + left
  pub bytes_are : bytes ≡ digits ++ (print_extension extension ++ (crlf ++ rest))
  pub behind : EndsChunks (digits_value_after 16 size digits) rest payload

-- what follows the bytes of an extension
pub record EndsExtension (left size : ℕ) (bytes payload : List ℕ) : Type 0 where
  pub text : List ℕ
  pub rest : List ℕ
  pub is : IsText text
  pub few : length text ≤ left
  pub bytes_are : bytes ≡ text ++ (crlf ++ rest)
  pub behind : EndsChunks size rest payload

-- what follows the name of a trailer, and its value
pub record EndsName (left : ℕ) (bytes : List ℕ) : Type 0 where
  pub name : List ℕ
  pub value : List ℕ
  pub rest : List ℕ
  pub tchars : IsTchars name
  pub text : IsText value
  pub few : length name + length value ≤ left
  pub bytes_are : bytes ≡ name ++ 58 ∷ (value ++ (crlf ++ rest))
  pub behind : EndsTrailers (left - (length name + length value)) rest

pub record EndsValue (left : ℕ) (bytes : List ℕ) : Type 0 where
  pub value : List ℕ
  pub rest : List ℕ
  pub text : IsText value
  pub few : length value ≤ left
  pub bytes_are : bytes ≡ value ++ (crlf ++ rest)
  pub behind : EndsTrailers (left - length value) rest

-- the bytes complete a body whose reader stands here, and give this payload
abbrev pub Completes : Chunking → List ℕ → List ℕ → Type 0
Completes Start bytes payload = Complete bytes payload
Completes (Size left size) bytes payload = EndsSize left size bytes payload
Completes (Extension left size) bytes payload = EndsExtension left size bytes payload
Completes (SizeLf size) bytes payload = (rest : List ℕ) × (bytes ≡ 10 ∷ rest)
    × EndsChunks size rest payload
Completes (Data more) bytes payload = EndsData (more + 1) bytes payload
Completes DataCr bytes payload = (rest : List ℕ) × (bytes ≡ 13 ∷ (10 ∷ rest))
    × Complete rest payload
Completes DataLf bytes payload = (rest : List ℕ) × (bytes ≡ 10 ∷ rest) × Complete rest payload
Completes (Trailers left) bytes payload = EndsTrailers left bytes × (payload ≡ [])
Completes (Name left) bytes payload = EndsName left bytes × (payload ≡ [])
Completes (Value left) bytes payload = EndsValue left bytes × (payload ≡ [])
Completes (ValueLf left) bytes payload = (rest : List ℕ) × (bytes ≡ 10 ∷ rest)
    × EndsTrailers left rest × (payload ≡ [])
Completes EndLf bytes payload = (bytes ≡ 10 ∷ []) × (payload ≡ [])
Completes Done bytes payload = (bytes ≡ []) × (payload ≡ [])
Completes Broken bytes payload = ⊥
