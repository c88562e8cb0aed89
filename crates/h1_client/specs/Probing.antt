-- What a probe of an idle link answers.
use Rattle.std.specs.Prelude.{◌≡◌, ℕ, List, length, Bool, true, false}
use Rattle.h1_link.specs.LinkState.{LinkState}
use Rattle.h1_link.specs.Steps.{FitsRead, after_read}
use Rattle.h1_link.specs.declared.link.ReadStep.{ReadStep}
use Rattle.h1_link.specs.declared.link.ReadStep.TheVariants as read
use Rattle.h1_client.specs.Idle.{IdleView}
use Rattle.h1_client.specs.declared.idle.Probe.{Probe}
use Rattle.h1_client.specs.declared.idle.Probe.TheVariants.{Fresh, Past, Byte, Ended, Failed, NoMemory}

-- the link that is handed back
abbrev pub link_of : {L : Type 0} → Probe L → L
link_of (Fresh idle) = idle.link
link_of (Past link) = link
link_of (Byte link) = link
link_of (Ended link) = link
link_of (Failed link) = link
link_of (NoMemory link) = link

-- the answer by what the read answered; a link that isn't ready stays idle with its deadline
abbrev pub told_by : {L : Type 0} → ReadStep → IdleView L → L → Probe L
told_by (read.Got n) idle link = Byte link
told_by read.End idle link = Ended link
told_by read.NotReady idle link = Fresh (record idle { link = link })
told_by read.Failed idle link = Failed link
told_by read.NoMemory idle link = NoMemory link

-- one read of one byte, and what it answered
pub record Reads {L : Type 0} (state : L → LinkState) (idle : IdleView L) (probe : Probe L) : Type 0 where
  pub buffer : List ℕ
  pub step : ReadStep
  pub one : length buffer ≡ 1
  pub fits : FitsRead buffer step
  pub link : state (link_of probe) ≡ after_read (state idle.link) buffer step
  pub told : probe ≡ told_by step idle (link_of probe)

-- a probe of this link, whose deadline is reached or not; where it is the link isn't called
abbrev pub Probes : {L : Type 0} → (L → LinkState) → IdleView L → Probe L → Bool → Type 0
Probes state idle probe true = probe ≡ Past idle.link
Probes state idle probe false = Reads state idle probe
