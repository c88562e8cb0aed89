-- A connection over requests that are made, once it served them all.
use Rattle.std.specs.Prelude.{◌≡◌, ℕ, List, length, true, false, Option, Some, None}
use Rattle.h1_error.specs.declared.error.Error.{Error}
use Rattle.h1_error.specs.declared.progress.End.TheVariants as end
use Rattle.h1_error.specs.declared.progress.Progress.{Progress}
use Rattle.h1_error.specs.declared.progress.Progress.TheVariants as progress
use Rattle.h1_link.specs.MemPlan.{faults_due}
use Rattle.h1_link.specs.declared.memory.gate.Gate.TheVariants.{Open}
use Rattle.h1_link.specs.MemState.{MemState, new_mem_state}
use Rattle.h1_transcript.specs.Rules.{plain}
use Rattle.h1_transcript.specs.Agrees.{Agrees}
use Rattle.h1_transcript.specs.Begun.{Terms}
use Rattle.h1_transcript.specs.declared.history.History.TheVariants.{Forgotten}
use Rattle.h1_transcript.specs.Complete.{AreServed}
use Rattle.h1_transcript.specs.Ends.{AreAllDone}
use Rattle.h1_echo.specs.Echo.{EchoGives}
use Rattle.h1_app.specs.Accounted.{Accounted}
use Rattle.h1_app.specs.View.{View, entries, unlimited}
use Rattle.h1_generator.specs.Generated.{generated}
use Rattle.h1_generator.specs.Messages.{messages}
use Rattle.h1_serving.specs.Served.{IsUnpolled}

-- the error of an answer that is one
abbrev pub failure_of : Progress → Option Error
failure_of (progress.Ready (end.Failed error)) = Some error
failure_of (progress.Ready end.Finished) = None
failure_of (progress.Ready end.NotKept) = None
failure_of (progress.Ready end.Overread) = None
failure_of (progress.Pending what) = None

-- the link was given these bytes and its end, and takes everything
pub record IsFed (bytes : List ℕ) (link : MemState) : Type 0 where
  pub put : link.put ≡ bytes
  pub end_at : link.end_at ≡ Some (length bytes)
  pub gate : link.gate ≡ Open
  pub reads : link.reads_noted ≡ 0
  pub writes : link.writes_noted ≡ 0
  pub read_faults : faults_due link.read_fault link.state.read_faults ≡ 0
  pub write_faults : faults_due link.write_fault link.state.write_faults ≡ 0

-- as many requests as come, and no exchange is kept
abbrev pub gen_terms : Terms
gen_terms = record { limit = None; holding = unlimited Forgotten true }

-- a connection before its first poll, over a link that these requests are ahead on
pub record IsReady {C A J : Type 0} (count : ℕ) (made : View MemState C A J) : Type 0 where
  pub unpolled : IsUnpolled made
  pub terms : made.terms ≡ gen_terms
  pub fed : IsFed (generated count) made.session.link
  pub state : made.session.link.state ≡ new_mem_state.state
  pub accounted : Accounted
      (λ (link : MemState). link.state) new_mem_state.state made.session made.done made.last

-- It finished. Its link gave exactly the bytes of these requests, ended and was not shut. Its
-- exchanges are these requests, each whole, and each reply of the echo application was written
-- whole and flushed.
pub record IsServedWhole {C A J : Type 0} (count : ℕ) (served : View MemState C A J) : Type 0 where
  pub end : served.end ≡ Some end.Finished
  pub given : served.session.link.state.given ≡ Some (generated count)
  pub ended : served.session.link.state.ended ≡ true
  pub shut : served.session.link.state.shut ≡ false
  pub many : length (entries served) ≡ count
  pub served_all : AreServed served.done (messages count)
  pub complete : AreAllDone new_mem_state.state served.session.link.state served.done served.last
  pub agrees : Agrees (plain EchoGives) gen_terms new_mem_state.state served.session.link.state
      (entries served)
