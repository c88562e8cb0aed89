use Rattle.std.proofs.Common.{refl}
use Rattle.std.proofs.lemmas.Result.{err_from_is_err_and}
use Rattle.h1_modules.specs.ContentType.{content_type}
use Rattle.h1_modules.proofs.ContentTypeLemmas.{grpc_fits}
use Rattle.h1_modules.proofs.grpc_web.grpc_request.Goals as goal

pub returns-in_err-insert_header-clause-err : goal.returns-in_err-insert_header-clause-err
returns-in_err-insert_header-clause-err c =
    let from = c.from_residual-in_err-insert_header in
    let p = err_from_is_err_and from.result from.ensures.1 in
    let fits = grpc_fits (content_type c.args.req.now.fields) c.requires in
    rw (p.1, p.2)
    (rw (c.deref.ensures.value, c.in_ok-value.ensures.ok, c.content_type_of_request.ensures, fits)
    at c.in_err-insert_header.ensures.refused)

pub returns-clause-ok : goal.returns-clause-ok
returns-clause-ok c =
    rw (
      c.set_send_end_stream.ensures,
      c.in_ok-insert_header-2.ensures.ok,
      c.in_ok-insert_header.ensures.ok,
      c.deref.ensures.value,
      c.in_ok-value.ensures.ok,
      c.content_type_of_request.ensures,
      c.in_ok-made.ensures.ok,
    ) refl
