use Rattle.h1_echo.proofs.RefusalLemmas.{refusal_memory}
use Rattle.h1_checks.proofs.tests.applications.refusal.Goals as goal

pub returns-in-Err-clause-err : goal.returns-in-Err-clause-err
returns-in-Err-clause-err c = refusal_memory c.in-Err.error c.in-Err.ensures.refused
