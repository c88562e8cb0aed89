-- Reports of connections that finished, apart from their polls.
use Rattle.std.specs.Prelude.{◌≡◌, ℕ, List, [], ◌∷◌, ◌++◌, Some}
use Rattle.std.specs.List.{flat_map}
use Rattle.h1_error.specs.declared.progress.End.TheVariants as end
use Rattle.h1_error.specs.declared.progress.Progress.{Progress}
use Rattle.h1_words.specs.declared.command.Command.{Command}
use Rattle.h1_words.specs.declared.command.Command.TheVariants as command
use Rattle.h1_serve.specs.PollLine.{poll_line}
use Rattle.h1_serve.specs.Report.{Report}

-- every poll is at this moment
abbrev pub ArePolledAt : ℕ → List Command → Type 0
ArePolledAt moment [] = Unit {0}
ArePolledAt moment (command.Poll at ∷ more) = (at ≡ moment) × ArePolledAt moment more
ArePolledAt moment (c ∷ more) = ArePolledAt moment more

-- the text is a report of the script, whose polls are all at this moment, and its connection finished
pub record IsFinished (moment : ℕ) (script text : List ℕ) : Type 0 where
  pub report : Report script text
  pub polled : ArePolledAt moment report.asked
  pub finished : report.is_text.last.end ≡ Some end.Finished

-- the text is the lines of polls at this moment, and these after them
abbrev pub IsBehindPolls : ℕ → List ℕ → List ℕ → Type 0
IsBehindPolls moment text told =
    (answers : List Progress) × (text ≡ flat_map (poll_line moment) answers ++ told)
