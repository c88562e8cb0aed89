-- Lemmas on the faults that the lines of a script plan.
use Rattle.std.proofs.Common.{◌≡◌, ℕ, ◌+◌, ◌≤◌, true, List, [], ◌∷◌, ◌++◌, Option, refl, arith}
use Rattle.h1_link.specs.Counts.{raised}
use Rattle.h1_link.specs.declared.memory.gate.Gate.TheVariants.{Room, Blocked}
use Rattle.h1_words.specs.declared.command.Command.{Command}
use Rattle.h1_words.specs.declared.command.Command.TheVariants as command
use Rattle.h1_marking.specs.Marking.{MarkingModule}
use Rattle.h1_serve.specs.State.{State, start_with}
use Rattle.h1_serve.specs.Report.{Obeys, Lines}
use Rattle.h1_serve.specs.Planned.{read_fault_of, write_fault_of, read_fault_lines, write_fault_lines}

-- no more failed than may, and no more may than these lines planned beside
record FewFaults (s t : State) (more further : ℕ) : Type 0 where
  reads : t.link.read_faults ≤ t.reads_due
  writes : t.link.write_faults ≤ t.writes_due
  reads_due : t.reads_due ≤ s.reads_due + more
  writes_due : t.writes_due ≤ s.writes_due + further

-- a state with the same counts and the same that may fail
few_same : (s t : State) → t.link ≡ s.link → t.reads_due ≡ s.reads_due → t.writes_due ≡ s.writes_due
    → s.link.read_faults ≤ s.reads_due → s.link.write_faults ≤ s.writes_due → FewFaults s t 0 0
few_same s t link reads_due writes_due reads writes = record {
  reads = rw (link, reads_due) reads;
  writes = rw (link, writes_due) writes;
  reads_due = omega (arith, reads_due);
  writes_due = omega (arith, writes_due);
}

-- what one line leaves
few_once : (s : State) (c : Command) (text : List ℕ) (t : State) → Obeys s c text t
    → s.link.read_faults ≤ s.reads_due → s.link.write_faults ≤ s.writes_due
    → FewFaults s t (read_fault_of c) (write_fault_of c)
few_once s (command.Give bytes) text t h reads writes =
    rw h.1 (few_same s (record s { put = s.put ++ bytes }) refl refl refl reads writes)
few_once s command.End text t h reads writes =
    rw h.1 (few_same s (record s { said = true }) refl refl refl reads writes)
few_once s (command.Room count) text t h reads writes =
    rw h.1 (few_same s (record s { gate = Room (s.link.bytes_out + count) }) refl refl refl reads writes)
few_once s command.Block text t h reads writes =
    rw h.1 (few_same s (record s { gate = Blocked }) refl refl refl reads writes)
few_once s command.FaultRead text t h reads writes =
    let next : State = record s { reads_due = raised s.link.read_faults 1 } in
    let few : FewFaults s next 1 0 = record {
      reads = omega arith;
      writes = writes;
      reads_due = omega (arith, reads);
      writes_due = omega arith;
    } in rw h.1 few
few_once s command.FaultWrite text t h reads writes =
    let next : State = record s { writes_due = raised s.link.write_faults 1 } in
    let few : FewFaults s next 0 1 = record {
      reads = reads;
      writes = omega arith;
      reads_due = omega arith;
      writes_due = omega (arith, writes);
    } in rw h.1 few
few_once s command.Shutdown text t h reads writes =
    rw h.1 (few_same s (record s { shut = true }) refl refl refl reads writes)
few_once s (command.Limit count) text t h reads writes =
    rw h.1 (few_same s s refl refl refl reads writes)
few_once s (command.Mark number) text t h reads writes =
    rw h.1 (few_same s s refl refl refl reads writes)
few_once s (command.Refuse number) text t h reads writes =
    rw h.1 (few_same s s refl refl refl reads writes)
few_once s (command.Poll moment) text t h reads writes =
    let fails = h.2.fails in
    record {
      reads = fails.reads;
      writes = fails.writes;
      reads_due = omega (arith, fails.reads_due);
      writes_due = omega (arith, fails.writes_due);
    }

few_lines : (s : State) (asked : List Command) (text : List ℕ) (t : State) → Lines s asked text t
    → s.link.read_faults ≤ s.reads_due → s.link.write_faults ≤ s.writes_due
    → FewFaults s t (read_fault_lines asked) (write_fault_lines asked)
few_lines s [] text t h reads writes = rw h.1 (few_same s s refl refl refl reads writes)
few_lines s (c ∷ more) text t h reads writes =
    let next = h.1 in
    let once = few_once s c h.0 next h.4 reads writes in
    let rest = few_lines next more h.2 t h.5 once.reads once.writes in
    record {
      reads = rest.reads;
      writes = rest.writes;
      reads_due = omega (arith, once.reads_due, rest.reads_due);
      writes_due = omega (arith, once.writes_due, rest.writes_due);
    }

-- so no more reads and writes fail than lines planned
pub few_faults : (limit : Option ℕ) (modules : List MarkingModule) (asked : List Command)
    (text : List ℕ) (t : State) → Lines (start_with limit modules) asked text t
    → (t.link.read_faults ≤ read_fault_lines asked) × (t.link.write_faults ≤ write_fault_lines asked)
few_faults limit modules asked text t lines =
    let few = few_lines (start_with limit modules) asked text t lines (omega arith) (omega arith) in
    (omega (arith, few.reads, few.reads_due), omega (arith, few.writes, few.writes_due))
