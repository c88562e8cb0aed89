-- The names of this crate's specs that its proofs speak in.
pub use Rattle.h1_transcript.specs.Agrees.{AreOf}
pub use Rattle.h1_transcript.specs.Behind.{AfterRead, ReadBehind}
pub use Rattle.h1_transcript.specs.Complete.{AreServed}
pub use Rattle.h1_transcript.specs.Ends.{LastStands}
pub use Rattle.h1_transcript.specs.Stream.{Begins, EndsAs, Message, Parses, begun, empty}
pub use Rattle.h1_transcript.specs.Told.{IfTold}
