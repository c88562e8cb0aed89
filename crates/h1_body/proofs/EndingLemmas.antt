-- Each place of the reader that is not at an end can be brought to the end of a body.
use Rattle.std.proofs.Common.{◌≡◌, ℕ, ◌+◌, ◌-◌, List, [], ◌∷◌, ◌++◌, replicate, None, refl, sym, subst, arith, inl, inr}
use Rattle.std.proofs.lemmas.Bool.{cases_lt}
use Rattle.std.proofs.lemmas.List.{length-replicate}
use Rattle.h1_body.specs.Chunks.{state_of, behind_size}
use Rattle.h1_body.specs.ChunkedBody.{ChunkedBody, IsChunkedBody, print_body, crlf}
use Rattle.h1_body.specs.declared.fed.FeedState.TheVariants as state
use Rattle.h1_body.specs.declared.chunking.Chunking.{Chunking}
use Rattle.h1_body.specs.declared.chunking.Chunking.TheVariants.{Start, Size, Extension, SizeLf, Data, DataCr, DataLf, Trailers, Name, Value, ValueLf, EndLf, Done, Broken}
use Rattle.h1_body.specs.declared.chunking.TheConstants.{TRAILERS_LIMIT}
use Rattle.h1_body.proofs.RunLemmas.{Runs, run_then, run_skip, run_whole}
use Rattle.h1_body.proofs.GrammarRuns.{run_data_end, run_size_end, run_extension_end, data_behind, trailers_behind}
use Rattle.h1_body.proofs.TrailerRuns.{run_body, run_end, run_value_end}

pub record Ending (s : Chunking) : Type 0 where
  pub bytes : List ℕ
  pub payload : List ℕ
  pub runs : Runs s bytes payload Done

-- the body without payload
abbrev empty_body : ChunkedBody
empty_body = record {
  chunks = [];
  last = record { digits = 48 ∷ []; extension = None };
  trailers =
      [];
}

empty_is_valid : IsChunkedBody empty_body
empty_is_valid = record {
  chunks = tt;
  last = record {
    some = omega arith;
    few = omega arith;
    digits = (omega arith, tt);
    value = refl;
    limited = omega arith;
    extension = tt;
    short = omega arith;
  };
  trailers = tt;
  short = omega arith;
}

pub run_empty_body : Runs Start (print_body empty_body) [] Done
run_empty_body = run_body empty_body empty_is_valid

ending_start : Ending Start
ending_start = record { bytes = print_body empty_body; payload = []; runs = run_empty_body }

ending_data_cr : Ending DataCr
ending_data_cr = record {
  bytes = crlf ++ ending_start.bytes;
  payload = ending_start.payload;
  runs =
      run_then run_data_end ending_start.runs;
}

ending_data : (more : ℕ) → Ending (Data more)
ending_data more =
    let zeros : List ℕ = replicate (more + 1) 0 in
    record {
      bytes = zeros ++ ending_data_cr.bytes;
      payload = zeros ++ ending_data_cr.payload;
      runs = run_then (run_whole more zeros (length-replicate (more + 1) 0)) ending_data_cr.runs;
    }

ending_trailers : (left : ℕ) → Ending (Trailers left)
ending_trailers left = record { bytes = crlf; payload = []; runs = run_end left }

ending_at : (s t : Chunking) → s ≡ t → Ending t → Ending s
ending_at s t e ending =
    record {
      bytes = ending.bytes;
      payload = ending.payload;
      runs =
          subst (λ (x : Chunking). Runs x ending.bytes ending.payload Done) (sym e) ending.runs;
    }

-- what follows a size line
ending_behind : (size : ℕ) → Ending (behind_size size)
ending_behind size = elim (cases_lt 0 size) [
  | inl some ↦ ending_at (behind_size size) (Data (size - 1)) (data_behind size some)
      (ending_data (size - 1))
  | inr none ↦ ending_at (behind_size size) (Trailers TRAILERS_LIMIT) (trailers_behind size none)
      (ending_trailers TRAILERS_LIMIT)
]

ending_then : {s t : Chunking} {bytes : List ℕ} → Runs s bytes [] t → Ending t → Ending s
ending_then {s} {t} {bytes} run ending =
    record {
      bytes = bytes ++ ending.bytes;
      payload = ending.payload;
      runs =
          run_then run ending.runs;
    }

pub ending : (s : Chunking) → state_of s ≡ state.More → Ending s
ending Start e = ending_start
ending (Size left size) e = ending_then (run_size_end left size) (ending_behind size)
ending (Extension left size) e = ending_then (run_extension_end left size) (ending_behind size)
ending (SizeLf size) e = ending_then (run_skip (SizeLf size) 10 refl) (ending_behind size)
ending (Data more) e = ending_data more
ending DataCr e = ending_data_cr
ending DataLf e = ending_then (run_skip DataLf 10 refl) ending_start
ending (Trailers left) e = ending_trailers left
ending (Name left) e =
    ending_then (run_skip (Name left) 58 refl)
    (ending_then (run_value_end left) (ending_trailers left))
ending (Value left) e = ending_then (run_value_end left) (ending_trailers left)
ending (ValueLf left) e = ending_then (run_skip (ValueLf left) 10 refl) (ending_trailers left)
ending EndLf e = record { bytes = 10 ∷ []; payload = []; runs = run_skip EndLf 10 refl }
ending Done e = absurd cc
ending Broken e = absurd cc
