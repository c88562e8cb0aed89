-- A filter of headers that refuses, or leaves a lawful header lawful.
use Rattle.std.specs.Prelude.{◌≡◌, ℕ, Bool, true, false, Ok, Err, if◌then◌else◌, refl, codes}
use Rattle.h1_fields.specs.Names.{same_name}
use Rattle.h1_head.specs.Views.{ResponseView}
use Rattle.h1_modules.specs.Keeping.{Leaves}
use Rattle.h1_transcript.specs.Lawful.{IsLawful}
use Rattle.h1_transcript.specs.LawfulLines.{FramesNothing}

pub refused_or : {M : Type 0} (refuses : Bool) (number : ℕ) (after : M) (header : ResponseView)
    → IsLawful header → Leaves IsLawful (if refuses then Err number else Ok (after, header))
refused_or true number after header lawful = tt
refused_or false number after header lawful = lawful

no_length : same_name (codes "Content-Length") (codes "x-acts") ≡ false
unfolding same_name
no_length = refl

no_coding : same_name (codes "Transfer-Encoding") (codes "x-acts") ≡ false
unfolding same_name
no_coding = refl

-- the line that the tests' module adds
pub acts_frames_nothing : FramesNothing (codes "x-acts")
acts_frames_nothing = record { no_length = no_length; no_coding = no_coding }
