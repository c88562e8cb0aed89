-- What each line of a script makes of its connection.
use Rattle.std.specs.Prelude.{◌≡◌, ℕ, List, ◌++◌}
use Rattle.h1_words.specs.declared.command.Command.{Command}
use Rattle.h1_words.specs.declared.place.Place.{Place}
use Rattle.h1_words.specs.Script.{place_after}
use Rattle.h1_serve.specs.declared.scripted.Scripted.{Scripted}
use Rattle.h1_serve.specs.State.{state_of}
use Rattle.h1_serve.specs.Report.{Obeys}
use Rattle.h1_serve.specs.Running.{IsRunning}

-- the line is obeyed, adds this text, and the connection goes on
pub record ObeysOnce (place : Place) (old : Scripted) (asked : Command) (text : List ℕ)
    (new : Scripted) (behind : List ℕ) : Type 0 where
  pub line : List ℕ
  pub text_is : behind ≡ text ++ line
  pub obeys : Obeys (state_of old) asked line (state_of new)
  pub running : IsRunning (place_after place asked) new.connection
