-- Lemmas on the lines of exchanges, one exchange after the other.
use Rattle.std.proofs.Common.{◌≡◌, ℕ, ◌+◌, ◌<◌, List, [], ◌∷◌, ◌++◌, length, take, get_or, sym, ap, ◌∙◌}
use Rattle.std.proofs.lemmas.List.{take_more, flat_map_more}
use Rattle.h1_transcript.specs.Entry.{Entry}
use Rattle.h1_serve.specs.ExchangeText.{exchange_lines, exchanges_lines}

-- the lines of one exchange more
pub more_lines : (entries : List Entry) (i : ℕ) (e : Entry) (front text behind : List ℕ)
    → i < length entries → e ≡ get_or entries i e → text ≡ front ++ exchanges_lines (take i entries)
    → behind ≡ text ++ exchange_lines e → behind ≡ front ++ exchanges_lines (take (i + 1) entries)
more_lines entries i e front text behind within at is more =
    let taken = take_more entries i e within ∙ ap (λ (x : Entry). take i entries ++ x ∷ []) (sym at) in
    more ∙ ap (λ words. words ++ exchange_lines e) is ∙ flat_map_more exchange_lines front (take i entries) e
    ∙ ap (λ es. front ++ exchanges_lines es) (sym taken)
