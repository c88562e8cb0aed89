-- What a kind of error is called in a report.
use Rattle.std.specs.Prelude.{ℕ, List, ◌++◌, codes}
use Rattle.std.specs.Fmt.{decimal}
use Rattle.h1_error.specs.declared.error.ErrorType.{ErrorType}
use Rattle.h1_error.specs.declared.error.ErrorType.TheVariants as kind
use Rattle.h1_error.specs.declared.error.ConnectFault.{ConnectFault}
use Rattle.h1_error.specs.declared.error.ConnectFault.TheVariants as connect
use Rattle.h1_error.specs.declared.error.TaskKind.{TaskKind}
use Rattle.h1_error.specs.declared.error.TaskKind.TheVariants as task
use Rattle.h1_error.specs.declared.head_fault.HeadFault.{HeadFault}
use Rattle.h1_error.specs.declared.head_fault.HeadFault.TheVariants as fault

-- the variant's name
abbrev pub fault_name : HeadFault → List ℕ
fault_name fault.NotAHead = codes "NotAHead"
fault_name fault.TooLong = codes "TooLong"
fault_name fault.DuplicateHost = codes "DuplicateHost"
fault_name fault.UserinfoInHost = codes "UserinfoInHost"
fault_name fault.UserinfoInUri = codes "UserinfoInUri"
fault_name fault.HostDiffersFromUri = codes "HostDiffersFromUri"
fault_name fault.UserinfoInTarget = codes "UserinfoInTarget"
fault_name fault.AmbiguousTarget = codes "AmbiguousTarget"
fault_name fault.UnparseableAuthority = codes "UnparseableAuthority"
fault_name fault.HostDiffersFromTarget = codes "HostDiffersFromTarget"
fault_name fault.AmbiguousConnect = codes "AmbiguousConnect"
fault_name fault.ConnectHostMissing = codes "ConnectHostMissing"
fault_name fault.ConnectHostDiffers = codes "ConnectHostDiffers"
fault_name fault.BadContentLength = codes "BadContentLength"
fault_name fault.CodingOn10 = codes "CodingOn10"
fault_name fault.FinalCodingNotChunked = codes "FinalCodingNotChunked"
fault_name fault.BadRequestLine = codes "BadRequestLine"
fault_name fault.UnsupportedVersion = codes "UnsupportedVersion"
fault_name fault.BadMethod = codes "BadMethod"
fault_name fault.BadName = codes "BadName"
fault_name fault.BadValue = codes "BadValue"
fault_name fault.BadStatus = codes "BadStatus"
fault_name fault.BadDate = codes "BadDate"

abbrev pub connect_name : ConnectFault → List ℕ
connect_name connect.DialFailed = codes "DialFailed"
connect_name connect.DataAfterBody = codes "DataAfterBody"

abbrev pub task_name : TaskKind → List ℕ
task_name task.Header = codes "Header"
task_name task.Body = codes "Body"
task_name task.UpgradedBody = codes "UpgradedBody"
task_name task.Trailer = codes "Trailer"
task_name task.Done = codes "Done"
task_name task.Failed = codes "Failed"

-- the variant's name, and the inner name or the decimal number after one space
abbrev pub text_of : ErrorType → List ℕ
text_of (kind.InvalidHTTPHeader fault) = codes "InvalidHTTPHeader " ++ fault_name fault
text_of kind.ConnectionClosed = codes "ConnectionClosed"
text_of kind.InvalidBody = codes "InvalidBody"
text_of kind.ReadError = codes "ReadError"
text_of kind.WriteError = codes "WriteError"
text_of kind.ReadTimedout = codes "ReadTimedout"
text_of kind.WriteTimedout = codes "WriteTimedout"
text_of kind.PrematureBodyEnd = codes "PrematureBodyEnd"
text_of (kind.ConnectError fault) = codes "ConnectError " ++ connect_name fault
text_of (kind.UnexpectedTask task) = codes "UnexpectedTask " ++ task_name task
text_of (kind.ModuleFailed number) = codes "ModuleFailed " ++ decimal number
text_of (kind.TaskFailed number) = codes "TaskFailed " ++ decimal number
text_of kind.Duplicate = codes "Duplicate"
text_of kind.NoMemory = codes "NoMemory"
text_of kind.ContentTooLarge = codes "ContentTooLarge"
