-- Lemmas on the causes of exit statuses.
use Rattle.std.proofs.Common.{◌≡◌, ℕ, List, sym, subst}
use Rattle.h1_link.specs.SourceState.{SourceState}
use Rattle.h1_link.specs.SinkState.{SinkState}
use Rattle.h1_fetch.specs.declared.lines.Line.{Line}
use Rattle.h1_fetch.specs.declared.output.Written.{Written}
use Rattle.h1_fetch.specs.declared.output.Written.TheVariants as written
use Rattle.h1_fetch.specs.declared.status.Status.{Status}
use Rattle.h1_fetch.specs.declared.status.Status.TheVariants as status
use Rattle.h1_fetch.specs.Input.{ReadsScript}
use Rattle.h1_fetch.specs.Output.{Wrote, WriteCause, fault_line}
use Rattle.h1_fetch.specs.Playing.{IsTextOf}
use Rattle.h1_fetch.specs.Status.{ScriptCause, status_after}

written_cause : (source source' : SourceState) (sink sink' : SinkState) (whole : Status)
    (text : List ℕ) (done : Written)
    → WriteCause sink sink' text done
    → (Wrote sink sink' text → ScriptCause source source' sink sink' whole)
    → ScriptCause source source' sink sink' (status_after whole done)
written_cause source source' sink sink' whole text written.Whole cause goes = goes cause
written_cause source source' sink sink' whole text written.Failed cause goes = cause
written_cause source source' sink sink' whole text written.NoMemory cause goes = tt

-- the status once a report was written
pub reported : (source source' : SourceState) (sink sink' : SinkState) (script : List ℕ)
    (asked : List Line) (text : List ℕ) (done : Written) (answer : Status)
    → ReadsScript source source' script → IsTextOf asked text → WriteCause sink sink' text done
    → answer ≡ status_after status.Done done → ScriptCause source source' sink sink' answer
reported source source' sink sink' script asked text done answer read is_text cause after =
    let Caused : Status → Type 0 = ScriptCause source source' sink sink' in
    subst Caused (sym after) (written_cause source source' sink sink' status.Done text done cause (λ wrote. record {
      script = script;
      asked = asked;
      text = text;
      read = read;
      report = is_text;
      wrote = wrote;
    }))

-- the status once the line of a fault was written
pub refused : (source source' : SourceState) (sink sink' : SinkState) (script : List ℕ) (number : ℕ)
    (text : List ℕ) (done : Written) (answer : Status)
    → ReadsScript source source' script → text ≡ fault_line number
    → WriteCause sink sink' text done → answer ≡ status_after status.Script done
    → ScriptCause source source' sink sink' answer
refused source source' sink sink' script number text done answer read line cause after =
    let Caused : Status → Type 0 = ScriptCause source source' sink sink' in
    subst Caused (sym after) (written_cause source source' sink sink' status.Script text done cause (λ wrote. record {
      script = script;
      number = number;
      read = read;
      wrote = subst (Wrote sink sink') line wrote;
    }))
