-- Why a request is refused whose head has the form of one (RFC 9112, sections 3.2, 6.1 and 6.3;
-- RFC 9110, section 8.6).
use Rattle.std.specs.Prelude.{Bool, ◌&&◌, Option, Some, None, List, if◌then◌else◌, codes}
use Rattle.std.specs.Option.{option_or}
use Rattle.h1_error.specs.declared.head_fault.HeadFault.{HeadFault}
use Rattle.h1_error.specs.declared.head_fault.HeadFault.TheVariants.{BadContentLength, CodingOn10, FinalCodingNotChunked}
use Rattle.h1_authority.specs.AuthorityFault.{authority_fault}
use Rattle.h1_fields.specs.declared.content_length.ContentLength.{ContentLength}
use Rattle.h1_fields.specs.declared.content_length.ContentLength.TheVariants.{Absent, Number, Bad}
use Rattle.h1_fields.specs.Codings.{has_coding_line, is_chunked_last}
use Rattle.h1_fields.specs.ContentLength.{content_length}
use Rattle.h1_fields.specs.Lines.{Line, has_line, values_of, without}
use Rattle.h1_head.specs.Versions.{is_http_10}
use Rattle.h1_head.specs.Views.{RequestView}

-- both Transfer-Encoding and Content-Length are there
abbrev pub has_both : List Line → Bool
has_both lines = has_coding_line lines && has_line (codes "Content-Length") lines

abbrev pub is_both : RequestView → Bool
is_both request = has_both request.fields

-- the lines without those of Content-Length, where Transfer-Encoding stands beside them
abbrev pub settled : RequestView → RequestView
settled request =
    if is_both request
    then record request { fields = without (codes "Content-Length") request.fields }
    else request

-- the target, the Host lines and the URI's authority name one authority
abbrev pub host_fault : RequestView → Option HeadFault
host_fault request =
    authority_fault request.method request.target
    (values_of (codes "Host") request.fields) request.authority

-- the Content-Length lines are one number
abbrev pub length_fault : ContentLength → Option HeadFault
length_fault Absent = None
length_fault (Number n) = None
length_fault Bad = Some BadContentLength

-- a body in codings needs HTTP/1.1, and ends where its chunks end
abbrev pub coding_fault : RequestView → Option HeadFault
coding_fault request =
    if has_coding_line request.fields
    then (if is_http_10 request.version
    then Some CodingOn10
    else (if is_chunked_last request.fields then None else Some FinalCodingNotChunked))
    else None

-- the first of these faults, where the lines state this length
abbrev pub first_fault_by : RequestView → ContentLength → Option HeadFault
first_fault_by request length =
    option_or (host_fault request) (option_or (length_fault length) (coding_fault request))

abbrev pub first_fault : RequestView → Option HeadFault
first_fault request = first_fault_by request (content_length request.fields)

-- the same where Content-Length may stand beside Transfer-Encoding, and then doesn't count
abbrev pub fault_of : RequestView → Option HeadFault
fault_of request =
    first_fault_by request
    (if has_coding_line request.fields then Absent else content_length request.fields)
