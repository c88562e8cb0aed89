-- What a part of a head is refused for (RFC 9110, sections 5.1, 5.5, 9.1 and 15).
use Rattle.std.specs.Prelude.{ℕ, Bool, false, not, ◌||◌, ◌&&◌, ◌==◌, nat_le, List, Option, None, Some, Result, Err, IsOkUnless, ◌≡◌, if◌then◌else◌}
use Rattle.std.specs.List.{list_all}
use Rattle.h1_error.specs.declared.error.Error.{Error}
use Rattle.h1_error.specs.declared.error.ErrorType.TheVariants.{InvalidHTTPHeader}
use Rattle.h1_error.specs.declared.head_fault.HeadFault.{HeadFault}
use Rattle.h1_error.specs.declared.head_fault.HeadFault.TheVariants.{BadMethod, BadName, BadValue, BadStatus}
use Rattle.httparse.specs.Grammar.{is_token}
use Rattle.h1_error.specs.Memory.{no_memory}

-- the error that says that a head is refused
abbrev pub refusal : HeadFault → Error
refusal fault = record { kind = InvalidHTTPHeader fault; retry = false }

-- the answer where there is a fault is that fault, and else only out of memory is an error
abbrev pub RefusedFor : {T : Type 0} → Option HeadFault → Result T Error → Type 0
RefusedFor None result = IsOkUnless result no_memory
RefusedFor (Some fault) result = result ≡ Err (refusal fault)

-- any byte but CR, LF and NUL
abbrev pub is_text_byte : ℕ → Bool
is_text_byte b = not (b == 13 || b == 10 || b == 0)

abbrev pub is_text : List ℕ → Bool
is_text bytes = list_all is_text_byte bytes

-- method = token
abbrev pub method_fault : List ℕ → Option HeadFault
method_fault method = if is_token method then None else Some BadMethod

-- field-name = token, and a value without CR, LF and NUL
abbrev pub line_fault : List ℕ → List ℕ → Option HeadFault
line_fault name value =
    if is_token name then (if is_text value then None else Some BadValue) else Some BadName

-- a phrase without CR, LF and NUL
abbrev pub phrase_fault : Option (List ℕ) → Option HeadFault
phrase_fault None = None
phrase_fault (Some phrase) = if is_text phrase then None else Some BadValue

-- status-code = 3DIGIT, of which the first isn't 0
abbrev pub status_fault : ℕ → Option HeadFault
status_fault status = if nat_le 100 status && nat_le status 999 then None else Some BadStatus
