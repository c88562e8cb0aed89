-- A reply is noted, and another answer told.
use Rattle.std.proofs.Common.{refl}
use Rattle.h1_app.specs.Heard as asked
use Rattle.h1_app.proofs.steps.answering.note_answer.Goals as goal

pub returns-in-Ready-Ok : goal.returns-in-Ready-Ok
returns-in-Ready-Ok c = record {
  heard = asked.Replied c.in-Ready-Ok.reply;
  is = rw (c.in-Ready-Ok.is, c.in-Ready-Ok.field-0-is) refl;
  entry = c.note_reply.ensures;
  told = refl;
}

pub returns-in-Ready-Err : goal.returns-in-Ready-Err
returns-in-Ready-Err c = record {
  heard = asked.Failed c.in-Ready-Err.error;
  is = rw (c.in-Ready-Err.is, c.in-Ready-Err.field-0-is) refl;
  entry = refl;
  told = refl;
}
