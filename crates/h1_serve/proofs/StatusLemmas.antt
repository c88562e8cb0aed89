-- Lemmas on the causes of exit statuses.
use Rattle.std.proofs.Common.{◌≡◌, ℕ, inl, inr, List, true, sym, subst, arith}
use Rattle.h1_link.specs.SourceState.{SourceState}
use Rattle.h1_link.specs.SinkState.{SinkState}
use Rattle.h1_words.specs.Script.{script_of, commands, faulty_at}
use Rattle.h1_words.specs.declared.command.Command.{Command}
use Rattle.h1_serve.specs.declared.status.Status.{Status}
use Rattle.h1_serve.specs.declared.status.Status.TheVariants as status
use Rattle.h1_serve.specs.declared.output.Written.{Written}
use Rattle.h1_serve.specs.declared.output.Written.TheVariants as written
use Rattle.h1_serve.specs.Input.{ReadsScript}
use Rattle.h1_serve.specs.Output.{Wrote, WriteCause, fault_line}
use Rattle.h1_serve.specs.Report.{IsTextOf}
use Rattle.h1_serve.specs.Status.{ScriptCause, status_after}
use Rattle.h1_serve.proofs.OrderLemmas.{script_within}

written_cause : (source source' : SourceState) (sink sink' : SinkState) (whole : Status)
    (text : List ℕ) (done : Written)
    → WriteCause sink sink' text done
    → (Wrote sink sink' text → ScriptCause source source' sink sink' whole)
    → ScriptCause source source' sink sink' (status_after whole done)
written_cause source source' sink sink' whole text written.Whole cause goes = goes cause
written_cause source source' sink sink' whole text written.Failed cause goes = cause
written_cause source source' sink sink' whole text written.NoMemory cause goes = tt

-- a script that is not too long was read to its end
read_out : (source source' : SourceState) (script : List ℕ) (asked : List Command)
    → ReadsScript source source' script → script_of script ≡ commands asked → source'.ended ≡ true
read_out source source' script asked read is =
    let within = script_within script asked is in
    elim read.out [ inl ended ↦ ended | inr beyond ↦ absurd (omega arith) ]

-- the status once a report was written
pub reported : (source source' : SourceState) (sink sink' : SinkState) (script : List ℕ)
    (asked : List Command) (text : List ℕ) (done : Written) (answer : Status)
    → ReadsScript source source' script → script_of script ≡ commands asked → IsTextOf asked text
    → WriteCause sink sink' text done → answer ≡ status_after status.Done done
    → ScriptCause source source' sink sink' answer
reported source source' sink sink' script asked text done answer read is is_text cause after =
    let Caused : Status → Type 0 = ScriptCause source source' sink sink' in
    subst Caused (sym after) (written_cause source source' sink sink' status.Done text done cause (λ wrote. record {
      script = script;
      text = text;
      gave = read.gave;
      ended = read_out source source' script asked read is;
      wrote = wrote;
      report = record { asked = asked; read = is; is_text = is_text };
    }))

-- the status once the line of a fault was written
pub refused : (source source' : SourceState) (sink sink' : SinkState) (script : List ℕ) (number : ℕ)
    (text : List ℕ) (done : Written) (answer : Status)
    → ReadsScript source source' script → script_of script ≡ faulty_at number
    → text ≡ fault_line number
    → WriteCause sink sink' text done → answer ≡ status_after status.Script done
    → ScriptCause source source' sink sink' answer
refused source source' sink sink' script number text done answer read is line cause after =
    let Caused : Status → Type 0 = ScriptCause source source' sink sink' in
    subst Caused (sym after) (written_cause source source' sink sink' status.Script text done cause (λ wrote. record {
      script = script;
      number = number;
      read = read;
      faulty = is;
      wrote = subst (Wrote sink sink') line wrote;
    }))
