-- The lines of a report that tell what was read and written.
use Rattle.std.specs.Prelude.{ℕ, List, [], ◌∷◌, ◌++◌, codes, if◌then◌else◌}
use Rattle.std.specs.List.{flat_map}
use Rattle.http.specs.declared.version.Version.{Version}
use Rattle.h1_fields.specs.Lines.{Line}
use Rattle.h1_head.specs.Views.{RequestView}
use Rattle.h1_head.specs.Versions.{is_http_10}
use Rattle.h1_words.specs.Report.{counted_text}
use Rattle.h1_transcript.specs.Entry.{Entry}

abbrev pub version_text : Version → List ℕ
version_text version = if is_http_10 version then codes "HTTP/1.0" else codes "HTTP/1.1"

-- request METHOD TARGET VERSION
abbrev pub request_line : RequestView → List ℕ
request_line head =
    codes "request " ++ head.method ++ codes " " ++ head.target ++ codes " "
    ++ version_text head.version ++ (10 ∷ [])

-- field NAME: VALUE
abbrev pub field_line : Line → List ℕ
field_line line = codes "field " ++ line.0 ++ codes ": " ++ line.1 ++ (10 ∷ [])

abbrev pub field_lines : List Line → List ℕ
field_lines lines = flat_map field_line lines

-- body N TEXT
abbrev pub body_line : List ℕ → List ℕ
body_line body = codes "body " ++ counted_text body ++ (10 ∷ [])

-- the lines of one exchange: its request as it was read, and the payload that was read
abbrev pub exchange_lines : Entry → List ℕ
exchange_lines e = request_line e.head ++ field_lines e.head.fields ++ body_line e.body

abbrev pub exchanges_lines : List Entry → List ℕ
exchanges_lines entries = flat_map exchange_lines entries

-- wrote N TEXT
abbrev pub wrote_line : List ℕ → List ℕ
wrote_line written = codes "wrote " ++ counted_text written ++ (10 ∷ [])
