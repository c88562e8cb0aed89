-- Lemmas on polls that each waited for their budget.
use Rattle.std.proofs.Common.{◌≡◌, ℕ, ◌+◌, ◌*◌, ◌≤◌, List, [], ◌∷◌, ◌++◌, length, Option, Some, ap, ◌∙◌, subst, arith}
use Rattle.std.specs.Io.KnownBytes.{append_known}
use Rattle.h1_link.specs.LinkState.{LinkState}
use Rattle.h1_link.specs.Later.{Grew}
use Rattle.h1_transcript.specs.Told.{ToldGrowth}
use Rattle.h1_serve.specs.Polled.{Tells, AreSpent, state_behind}

-- told bytes stay told
still_told : (old new : Option (List ℕ)) (told : List ℕ) → old ≡ Some told → Grew old new
    → (now : List ℕ) × (new ≡ Some now)
still_told old new told is grew =
    (told ++ grew.0, grew.1 ∙ ap (λ known. append_known known grew.0) is)

-- the growth of what is told, by the bytes
growth : (a b c d : Option (List ℕ)) (given more written further : List ℕ)
    → a ≡ Some given → b ≡ Some more → c ≡ Some written → d ≡ Some further → ToldGrowth a b c d 64
    → length given + length written + 64 ≤ length more + length further
growth a b c d given more written further ea eb ec ed grew =
    subst (λ x. ToldGrowth (Some given) (Some more) (Some written) x 64) ed
    (subst (λ x. ToldGrowth (Some given) (Some more) x d 64) ec
    (subst (λ x. ToldGrowth (Some given) x c d 64) eb (subst (λ x. ToldGrowth x b c d 64) ea grew)))

pub spent_moved : (first : LinkState) (polls : List LinkState) (given written : List ℕ)
    → Tells first given written → AreSpent first polls
    → (more further : List ℕ) × Tells (state_behind first polls) more further
    × (64 * length polls + length given + length written ≤ length more + length further)
spent_moved first [] given written tells spent = (given, written, tells, omega arith)
spent_moved first (now ∷ rest) given written tells spent =
    let gave = still_told first.given now.given given tells.0 spent.0.given in
    let wrote = still_told first.written now.written written tells.1 spent.0.written in
    let grew =
    growth first.given now.given first.written now.written given gave.0 written wrote.0
    tells.0 gave.1 tells.1 wrote.1 spent.1 in
    let on = spent_moved now rest gave.0 wrote.0 (gave.1, wrote.1) spent.2 in
    (on.0, on.1, on.2, omega (arith, grew, on.3))
