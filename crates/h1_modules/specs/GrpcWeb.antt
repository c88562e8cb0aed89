-- gRPC-web taken for gRPC, and gRPC for gRPC-web, on one exchange (gRPC's PROTOCOL-WEB.md).
use Rattle.std.specs.Prelude.{◌^◌, false, ◌&&◌, nat_le, nat_lt, List, Option, None, Some, Ok, Err, if◌then◌else◌, codes, length}
use Rattle.h1_fields.specs.Lines.{Line, with_line, without}
use Rattle.h1_head.specs.Views.{RequestView, ResponseView}
use Rattle.h1_modules.specs.declared.grpc_web.GrpcWebCtx.{GrpcWebCtx}
use Rattle.h1_modules.specs.declared.grpc_web.GrpcWebCtx.TheVariants.{Disabled, Init, Upgrade, Trailers, Done}
use Rattle.h1_modules.specs.Outcome.{Outcome, Piece, TrailerRefusal, too_long}
use Rattle.h1_modules.specs.ContentType.{content_type, is_grpc_web, is_grpc, as_grpc, as_grpc_web}
use Rattle.h1_modules.specs.TrailerFrame.{trailer_block, frame}

-- the request as one of gRPC
abbrev pub grpc_request : RequestView → RequestView
grpc_request view =
    let lines = with_line (codes "content-type") (as_grpc (content_type view.fields)) view.fields in
    record view { fields = with_line (codes "te") (codes "trailers") lines; send_end_stream = false }

-- only a context that was begun acts, and only on a request of gRPC-web
abbrev pub filtered_request : GrpcWebCtx → RequestView → GrpcWebCtx × RequestView
filtered_request Disabled view = (Disabled, view)
filtered_request Init view =
    if is_grpc_web (content_type view.fields) then (Upgrade, grpc_request view) else (Init, view)
filtered_request Upgrade view = (Upgrade, view)
filtered_request Trailers view = (Trailers, view)
filtered_request Done view = (Done, view)

-- the response as one of gRPC-web, in chunks
abbrev pub web_response : ResponseView → ResponseView
web_response view =
    let typed = with_line (codes "content-type") (as_grpc_web (content_type view.fields)) view.fields in
    let lines = without (codes "content-length") typed in
    record view { fields = with_line (codes "transfer-encoding") (codes "chunked") lines }

-- only behind a request that was changed, and not on a 1xx; a response that isn't of gRPC ends it
abbrev pub filtered_response : GrpcWebCtx → ResponseView → GrpcWebCtx × ResponseView
filtered_response Disabled view = (Disabled, view)
filtered_response Init view = (Init, view)
filtered_response Upgrade view =
    if nat_le 100 view.status && nat_lt view.status 200 then (Upgrade, view)
    else (if is_grpc (content_type view.fields) then (Trailers, web_response view) else (Disabled, view))
filtered_response Trailers view = (Trailers, view)
filtered_response Done view = (Done, view)

-- the frame of the trailers comes once, behind a response that was changed; else it is over
abbrev pub filtered_trailers : GrpcWebCtx → List Line → Outcome GrpcWebCtx Piece TrailerRefusal
filtered_trailers Disabled lines = Ok (Disabled, None)
filtered_trailers Init lines = Ok (Disabled, None)
filtered_trailers Upgrade lines = Ok (Disabled, None)
filtered_trailers Trailers lines =
    if nat_lt (length (trailer_block lines)) (2 ^ 32) then Ok (Done, Some (frame (trailer_block lines)))
    else Err too_long
filtered_trailers Done lines = Ok (Disabled, None)

-- the trailers stay, beside what their filter gives
abbrev pub beside : {M R : Type 0} → List Line → Outcome M Piece R
    → Outcome M (Option (List Line) × Piece) R
beside lines (Ok after) = Ok (after.0, (Some lines, after.1))
beside lines (Err refusal) = Err refusal

-- the same where there may be none
abbrev pub filtered_some : GrpcWebCtx → Option (List Line)
    → Outcome GrpcWebCtx (Option (List Line) × Piece) TrailerRefusal
filtered_some context None = Ok (context, (None, None))
filtered_some context (Some lines) = beside lines (filtered_trailers context lines)
