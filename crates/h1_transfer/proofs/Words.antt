-- The names of this crate's specs that its proofs speak in.
pub use Rattle.h1_transfer.specs.Calls.{Called, no_fault}
pub use Rattle.h1_transfer.specs.Decoding.{IsUnfinished, ReadsBody, payload_of}
pub use Rattle.h1_transfer.specs.Moved.{Received, Sent}
pub use Rattle.h1_transfer.specs.PieceWrites.{PieceAnswer}
pub use Rattle.h1_transfer.specs.Receiving.{FillsBy, cost}
pub use Rattle.h1_transfer.specs.Taking.{Uses}
pub use Rattle.h1_transfer.specs.TransferView.{TransferView, itself}
pub use Rattle.h1_transfer.specs.Writing.{DeliveryAnswer, sent_after, with_count}
