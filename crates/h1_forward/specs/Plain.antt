-- Requests that a head can say as they stand (RFC 9112, sections 2.3, 3 and 5).
use Rattle.std.specs.Prelude.{◌≡◌, ℕ, ◌<◌, ◌≤◌, All, IsUtf8, List, ◌++◌, length, true, false, None}
use Rattle.http.specs.declared.version.Version.{Version}
use Rattle.httparse.specs.Grammar.{AllPass, IsToken, is_uri_byte, is_value_byte, trim_ows}
use Rattle.h1_fields.specs.Lines.{Line}
use Rattle.h1_head.specs.declared.limits.TheConstants.{MAX_HEADERS}
use Rattle.h1_head.specs.RequestFault.{first_fault, is_both}
use Rattle.h1_head.specs.RequestGrammar.{IsReadAs}
use Rattle.h1_head.specs.RequestHead.{HeadAt}
use Rattle.h1_head.specs.Versions.{minor_version}
use Rattle.h1_head.specs.Views.{RequestView}

-- a field line that needs no trimming: the name is a token, and the value has no control byte but
-- the tab, and no white space at its ends (RFC 9110, sections 5.1 and 5.5)
pub record IsPlainLine (line : Line) : Type 0 where
  pub name : IsToken line.0
  pub value : AllPass is_value_byte line.1
  pub trimmed : trim_ows line.1 ≡ line.1

-- a target that needs no escaping: one or more bytes that are visible or past ASCII, in UTF-8
pub record IsPlainTarget (target : List ℕ) : Type 0 where
  pub some : 0 < length target
  pub visible : AllPass is_uri_byte target
  pub text : IsUtf8 target

-- HTTP/1.0 or HTTP/1.1
abbrev pub IsHttp10Or11 : Version → Type 0
IsHttp10Or11 version = (minor : ℕ) × (minor ≤ 1) × (version ≡ minor_version minor)

-- The head grammar admits the request without escaping or trimming, and at most one of
-- Content-Length and Transfer-Encoding is there.
pub record IsPlain (request : RequestView) : Type 0 where
  pub method : IsToken request.method
  pub target : IsPlainTarget request.target
  pub version : IsHttp10Or11 request.version
  pub lines : All IsPlainLine request.fields
  pub few : length request.fields ≤ MAX_HEADERS
  pub one_length : is_both request ≡ false

-- the request as the wire tells it: it says nothing of the authority of a URI, nor of the flag that
-- only HTTP/2 has
abbrev pub on_wire : RequestView → RequestView
on_wire request = record request { authority = None; send_end_stream = true }

-- these bytes, whatever follows them, begin with this request, and their head is all of them, read
-- as it stands
pub record ReadsBack (bytes : List ℕ) (request : RequestView) : Type 0 where
  pub head : (more : List ℕ) → HeadAt (bytes ++ more) (length bytes) request false
  pub raw : IsReadAs bytes bytes

-- a request that was accepted can be written as it stands, and nothing is wrong with it
pub record IsSoundPlain (request : RequestView) : Type 0 where
  pub plain : IsPlain request
  pub sound : first_fault request ≡ None
  pub told : on_wire request ≡ request
