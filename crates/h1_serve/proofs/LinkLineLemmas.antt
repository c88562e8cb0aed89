-- Lemmas on the lines of a script that set its link.
use Rattle.std.proofs.Common.{◌≡◌, ℕ, ◌++◌, Bool, true, false, List, [], length, Option, Some, None, unwrap_or, refl, sym, ap, subst, ◌∙◌, append-nil}
use Rattle.h1_link.specs.LinkState.{LinkState}
use Rattle.h1_link.specs.MemState.{MemState}
use Rattle.h1_link.specs.declared.memory.gate.Gate.TheVariants as gate
use Rattle.h1_app.specs.Accounted.{Accounted}
use Rattle.h1_words.specs.Script.{place_after}
use Rattle.h1_words.specs.declared.command.Command.{Command}
use Rattle.h1_words.specs.declared.command.Command.TheVariants as command
use Rattle.h1_words.specs.declared.place.Place.{Place}
use Rattle.h1_serve.specs.declared.scripted.Scripted.{Scripted}
use Rattle.h1_serve.specs.State.{MarkedView, new_link, link_state, state_of}
use Rattle.h1_serve.specs.Report.{Obeys}
use Rattle.h1_serve.specs.Running.{MayStand, EndsAt, IsRunning}
use Rattle.h1_serve.specs.Done.{ObeysOnce}

not_said : (ended : Bool) (end_at : Option ℕ) (put : ℕ) → ended ≡ false → EndsAt ended end_at put
    → end_at ≡ None
not_said true end_at put e ends = cc
not_said false end_at put e ends = ends

still_open : (ended : Bool) (end_at : Option ℕ) (put more : ℕ) → ended ≡ false
    → EndsAt ended end_at put → EndsAt ended end_at more
still_open true end_at put more e ends = cc
still_open false end_at put more e ends = ends

-- bytes put ahead leave what was moved
gives_once : (place : Place) (old : Scripted) (new : MarkedView) (bytes text : List ℕ)
    → new ≡ record old.connection
    { session = record old.connection.session { link = new.session.link } }
    → new.session.link ≡ record old.connection.session.link {
      put = old.connection.session.link.put ++ bytes;
      reads_noted = old.connection.session.link.state.read_waits;
    }
    → Accounted link_state new_link new.session new.done new.last
    → MayStand place (command.Give bytes) → IsRunning place old.connection
    → ObeysOnce place old (command.Give bytes) text (record old { connection = new }) text
gives_once place old new bytes text rest link since may running =
    let before = old.connection.session.link in
    let served : MemState → MarkedView =
    λ l. record old.connection { session = record old.connection.session { link = l } } in
    record {
      line = [];
      text_is = sym (append-nil text);
      obeys = (refl, ap (λ (c : MarkedView). state_of (record old { connection = c })) (rest ∙ ap served link));
      running = record {
        accounted = since;
        end_at = rw link (still_open place.ended before.end_at (length before.put)
            (length (before.put ++ bytes)) may running.end_at);
      };
    }

-- the end is said after all that was put ahead
ends_once : (place : Place) (old : Scripted) (new : MarkedView) (text : List ℕ)
    → new ≡ record old.connection
    { session = record old.connection.session { link = new.session.link } }
    → new.session.link ≡ record old.connection.session.link {
      end_at = Some (unwrap_or old.connection.session.link.end_at
          (length old.connection.session.link.put));
      reads_noted = old.connection.session.link.state.read_waits;
    }
    → Accounted link_state new_link new.session new.done new.last
    → MayStand place command.End → IsRunning place old.connection
    → ObeysOnce place old command.End text (record old { connection = new }) text
ends_once place old new text rest link since may running =
    let before = old.connection.session.link in
    let served : MemState → MarkedView =
    λ l. record old.connection { session = record old.connection.session { link = l } } in
    record {
      line = [];
      text_is = sym (append-nil text);
      obeys = (refl, ap (λ (c : MarkedView). state_of (record old { connection = c })) (rest ∙ ap served link));
      running = record {
        accounted = since;
        end_at = rw link (let none = not_said place.ended before.end_at (length before.put) may running.end_at in
            ap (λ (at : Option ℕ). Some (unwrap_or at (length before.put))) none);
      };
    }

-- the same of a command that is known to be this one
pub gives_line : (place : Place) (old : Scripted) (new : MarkedView) (asked : Command)
    (bytes text : List ℕ)
    → asked ≡ command.Give bytes
    → new ≡ record old.connection
    { session = record old.connection.session { link = new.session.link } }
    → new.session.link ≡ record old.connection.session.link {
      put = old.connection.session.link.put ++ bytes;
      reads_noted = old.connection.session.link.state.read_waits;
    }
    → ((before : LinkState)
    → Accounted link_state before old.connection.session old.connection.done old.connection.last
    → Accounted link_state before new.session new.done new.last)
    → MayStand place asked → IsRunning place old.connection
    → ObeysOnce place old asked text (record old { connection = new }) text
gives_line place old new asked bytes text is rest link since may running =
    let Stands : Command → Type 0 = MayStand place in
    let Goal : Command → Type 0 = λ asked. ObeysOnce place old asked text (record old { connection = new }) text in
    subst Goal (sym is)
    (gives_once place old new bytes text rest link (since new_link running.accounted) (subst Stands is may) running)

pub ends_line : (place : Place) (old : Scripted) (new : MarkedView) (asked : Command) (text : List ℕ)
    → asked ≡ command.End
    → new ≡ record old.connection
    { session = record old.connection.session { link = new.session.link } }
    → new.session.link ≡ record old.connection.session.link {
      end_at = Some (unwrap_or old.connection.session.link.end_at
          (length old.connection.session.link.put));
      reads_noted = old.connection.session.link.state.read_waits;
    }
    → ((before : LinkState)
    → Accounted link_state before old.connection.session old.connection.done old.connection.last
    → Accounted link_state before new.session new.done new.last)
    → MayStand place asked → IsRunning place old.connection
    → ObeysOnce place old asked text (record old { connection = new }) text
ends_line place old new asked text is rest link since may running =
    let Stands : Command → Type 0 = MayStand place in
    let Goal : Command → Type 0 = λ asked. ObeysOnce place old asked text (record old { connection = new }) text in
    subst Goal (sym is)
    (ends_once place old new text rest link (since new_link running.accounted) (subst Stands is may) running)

-- a line that leaves what is ahead and where it ends, and makes this of the link
sets_once : (place : Place) (old : Scripted) (new : MarkedView) (asked : Command) (text : List ℕ)
    (made : MemState)
    → new ≡ record old.connection
    { session = record old.connection.session { link = new.session.link } }
    → new.session.link ≡ made
    → Accounted link_state new_link new.session new.done new.last
    → EndsAt (place_after place asked).ended made.end_at (length made.put)
    → Obeys (state_of old) asked [] (state_of (record old {
      connection = record old.connection {
        session = record old.connection.session { link = made };
      };
    }))
    → ObeysOnce place old asked text (record old { connection = new }) text
sets_once place old new asked text made rest link since ends obeys =
    let served : MemState → MarkedView =
    λ l. record old.connection { session = record old.connection.session { link = l } } in
    let is : new ≡ served made = rest ∙ ap served link in
    record {
      line = [];
      text_is = sym (append-nil text);
      obeys = subst (λ (c : MarkedView). Obeys (state_of old) asked [] (state_of (record old { connection = c }))) (sym is)
          obeys;
      running = record {
        accounted = since;
        end_at = subst (λ (l : MemState). EndsAt (place_after place asked).ended l.end_at (length l.put)) (sym link) ends;
      };
    }

pub room_line : (place : Place) (old : Scripted) (new : MarkedView) (asked : Command) (count : ℕ)
    (text : List ℕ)
    → asked ≡ command.Room count
    → new ≡ record old.connection
    { session = record old.connection.session { link = new.session.link } }
    → new.session.link ≡ record old.connection.session.link {
      gate = gate.Room count;
      writes_noted = old.connection.session.link.state.write_waits;
    }
    → ((before : LinkState)
    → Accounted link_state before old.connection.session old.connection.done old.connection.last
    → Accounted link_state before new.session new.done new.last)
    → IsRunning place old.connection
    → ObeysOnce place old asked text (record old { connection = new }) text
room_line place old new asked count text is rest link since running =
    let Goal : Command → Type 0 = λ asked. ObeysOnce place old asked text (record old { connection = new }) text in
    subst Goal (sym is)
    (sets_once place old new (command.Room count) text _ rest link (since new_link running.accounted)
    running.end_at (refl, refl))

pub block_line : (place : Place) (old : Scripted) (new : MarkedView) (asked : Command) (text : List ℕ)
    → asked ≡ command.Block
    → new ≡ record old.connection
    { session = record old.connection.session { link = new.session.link } }
    → new.session.link ≡ record old.connection.session.link {
      gate = gate.Blocked;
      writes_noted = old.connection.session.link.state.write_waits;
    }
    → ((before : LinkState)
    → Accounted link_state before old.connection.session old.connection.done old.connection.last
    → Accounted link_state before new.session new.done new.last)
    → IsRunning place old.connection
    → ObeysOnce place old asked text (record old { connection = new }) text
block_line place old new asked text is rest link since running =
    let Goal : Command → Type 0 = λ asked. ObeysOnce place old asked text (record old { connection = new }) text in
    subst Goal (sym is)
    (sets_once place old new command.Block text _ rest link (since new_link running.accounted)
    running.end_at (refl, refl))

pub read_fault_line : (place : Place) (old : Scripted) (new : MarkedView) (asked : Command)
    (text : List ℕ)
    → asked ≡ command.FaultRead
    → new ≡ record old.connection
    { session = record old.connection.session { link = new.session.link } }
    → new.session.link ≡ record old.connection.session.link { read_fault = true }
    → ((before : LinkState)
    → Accounted link_state before old.connection.session old.connection.done old.connection.last
    → Accounted link_state before new.session new.done new.last)
    → IsRunning place old.connection
    → ObeysOnce place old asked text (record old { connection = new }) text
read_fault_line place old new asked text is rest link since running =
    let Goal : Command → Type 0 = λ asked. ObeysOnce place old asked text (record old { connection = new }) text in
    subst Goal (sym is)
    (sets_once place old new command.FaultRead text _ rest link (since new_link running.accounted)
    running.end_at (refl, refl))

pub write_fault_line : (place : Place) (old : Scripted) (new : MarkedView) (asked : Command)
    (text : List ℕ)
    → asked ≡ command.FaultWrite
    → new ≡ record old.connection
    { session = record old.connection.session { link = new.session.link } }
    → new.session.link ≡ record old.connection.session.link { write_fault = true }
    → ((before : LinkState)
    → Accounted link_state before old.connection.session old.connection.done old.connection.last
    → Accounted link_state before new.session new.done new.last)
    → IsRunning place old.connection
    → ObeysOnce place old asked text (record old { connection = new }) text
write_fault_line place old new asked text is rest link since running =
    let Goal : Command → Type 0 = λ asked. ObeysOnce place old asked text (record old { connection = new }) text in
    subst Goal (sym is)
    (sets_once place old new command.FaultWrite text _ rest link (since new_link running.accounted)
    running.end_at (refl, refl))
