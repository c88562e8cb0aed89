-- What holds of a script's connection between two lines, and of the lines to come.
use Rattle.std.specs.Prelude.{◌≡◌, ℕ, ◌≤◌, List, [], ◌∷◌, length, Bool, true, false, Option, Some, None}
use Rattle.h1_link.specs.MemState.{MemState, new_mem_state}
use Rattle.h1_words.specs.declared.command.TheConstants.{LAST_MOMENT}
use Rattle.h1_words.specs.declared.command.Command.{Command}
use Rattle.h1_words.specs.declared.command.Command.TheVariants as command
use Rattle.h1_words.specs.declared.place.Place.{Place}
use Rattle.h1_words.specs.Script.{place_after}
use Rattle.h1_app.specs.View.{View}
use Rattle.h1_app.specs.Accounted.{Accounted}
use Rattle.h1_serve.specs.State.{link_state}

-- a poll is before the year 10000
abbrev pub IsInTime : Command → Type 0
IsInTime (command.Give bytes) = Unit {0}
IsInTime command.End = Unit {0}
IsInTime (command.Room count) = Unit {0}
IsInTime command.Block = Unit {0}
IsInTime command.FaultRead = Unit {0}
IsInTime command.FaultWrite = Unit {0}
IsInTime command.Shutdown = Unit {0}
IsInTime (command.Limit count) = Unit {0}
IsInTime (command.Mark number) = Unit {0}
IsInTime (command.Refuse number) = Unit {0}
IsInTime (command.Poll moment) = moment ≤ LAST_MOMENT

-- a command that may stand after what stands before it
abbrev pub MayStand : Place → Command → Type 0
MayStand place (command.Give bytes) = place.ended ≡ false
MayStand place command.End = place.ended ≡ false
MayStand place (command.Room count) = Unit {0}
MayStand place command.Block = Unit {0}
MayStand place command.FaultRead = Unit {0}
MayStand place command.FaultWrite = Unit {0}
MayStand place command.Shutdown = Unit {0}
MayStand place (command.Limit count) = (place.polled ≡ false) × (place.limited ≡ false)
MayStand place (command.Mark number) = place.polled ≡ false
MayStand place (command.Refuse number) = place.polled ≡ false
MayStand place (command.Poll moment) = place.last_poll ≤ moment

abbrev pub AreInOrder : Place → List Command → Type 0
AreInOrder place [] = Unit {0}
AreInOrder place (c ∷ more) = IsInTime c × MayStand place c × AreInOrder (place_after place c) more

abbrev pub first_place : Place
first_place = record { ended = false; limited = false; polled = false; last_poll = 0 }

-- the end was said after all that was put ahead, or it was not said
abbrev pub EndsAt : Bool → Option ℕ → ℕ → Type 0
EndsAt false end_at put = end_at ≡ None
EndsAt true end_at put = end_at ≡ Some put

pub record IsRunning {C A J : Type 0} (place : Place) (view : View MemState C A J) : Type 0 where
  pub accounted : Accounted link_state new_mem_state.state view.session view.done view.last
  pub end_at : EndsAt place.ended view.session.link.end_at (length view.session.link.put)
