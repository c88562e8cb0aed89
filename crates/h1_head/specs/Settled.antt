-- What becomes of the length that a response states (RFC 9112, section 6.3).
use Rattle.std.specs.Prelude.{codes, if◌then◌else◌}
use Rattle.h1_fields.specs.Codings.{has_coding_line}
use Rattle.h1_fields.specs.Lines.{without}
use Rattle.h1_head.specs.Views.{ResponseView}

-- the response without Content-Length lines where Transfer-Encoding is there
abbrev pub settled : ResponseView → ResponseView
settled response =
    if has_coding_line response.fields
    then record response { fields = without (codes "Content-Length") response.fields }
    else response
