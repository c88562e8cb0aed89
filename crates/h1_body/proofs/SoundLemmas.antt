-- A byte before what completes a body from the place after it.
use Rattle.std.proofs.Common.{◌≡◌, ℕ, List, ◌∷◌}
use Rattle.h1_body.specs.Chunks.{step, use_of, skips, yields}
use Rattle.h1_body.specs.declared.chunking.Chunking.{Chunking}
use Rattle.h1_body.specs.declared.chunking.Chunking.TheVariants.{Start, Size, Extension, SizeLf, Data, DataCr, DataLf, Trailers, Name, Value, ValueLf, EndLf, Done, Broken}
use Rattle.h1_body.proofs.Completing.{Completes}
use Rattle.h1_body.proofs.ChunkFronts.{front_start, front_size, front_extension, front_size_lf, front_data, front_data_cr, front_data_lf}
use Rattle.h1_body.proofs.TrailerFronts.{front_trailers, front_name, front_value, front_value_lf, front_end_lf}

-- a byte that is passed over in front
pub front_skipped : (s : Chunking) (b : ℕ) (bytes payload : List ℕ) → use_of s ≡ skips
    → Completes (step s b) bytes payload → Completes s (b ∷ bytes) payload
front_skipped Start b bytes payload over h = front_start b bytes payload h
front_skipped (Size left size) b bytes payload over h = front_size left size b bytes payload h
front_skipped (Extension left size) b bytes payload over h =
    front_extension left size b bytes payload h
front_skipped (SizeLf size) b bytes payload over h = front_size_lf size b bytes payload h
front_skipped (Data more) b bytes payload over h = absurd cc
front_skipped DataCr b bytes payload over h = front_data_cr b bytes payload h
front_skipped DataLf b bytes payload over h = front_data_lf b bytes payload h
front_skipped (Trailers left) b bytes payload over h = front_trailers left b bytes payload h
front_skipped (Name left) b bytes payload over h = front_name left b bytes payload h
front_skipped (Value left) b bytes payload over h = front_value left b bytes payload h
front_skipped (ValueLf left) b bytes payload over h = front_value_lf left b bytes payload h
front_skipped EndLf b bytes payload over h = front_end_lf b bytes payload h
front_skipped Done b bytes payload over h = absurd cc
front_skipped Broken b bytes payload over h = absurd cc

-- a byte of payload in front
pub front_yielded : (s : Chunking) (b : ℕ) (bytes payload : List ℕ) → use_of s ≡ yields
    → Completes (step s b) bytes payload → Completes s (b ∷ bytes) (b ∷ payload)
front_yielded Start b bytes payload over h = absurd cc
front_yielded (Size left size) b bytes payload over h = absurd cc
front_yielded (Extension left size) b bytes payload over h = absurd cc
front_yielded (SizeLf size) b bytes payload over h = absurd cc
front_yielded (Data more) b bytes payload over h = front_data more b bytes payload h
front_yielded DataCr b bytes payload over h = absurd cc
front_yielded DataLf b bytes payload over h = absurd cc
front_yielded (Trailers left) b bytes payload over h = absurd cc
front_yielded (Name left) b bytes payload over h = absurd cc
front_yielded (Value left) b bytes payload over h = absurd cc
front_yielded (ValueLf left) b bytes payload over h = absurd cc
front_yielded EndLf b bytes payload over h = absurd cc
front_yielded Done b bytes payload over h = absurd cc
front_yielded Broken b bytes payload over h = absurd cc
