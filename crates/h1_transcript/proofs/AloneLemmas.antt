-- What was given when exchanges that left pipelining off were over, as more of them are.
use Rattle.std.proofs.Common.{◌≡◌, ℕ, List, [], ◌∷◌, ◌++◌, Option, Some, None, refl, sym, ◌∙◌, ap, subst, append-nil, append_assoc}
use Rattle.std.specs.Io.KnownBytes.{append_known}
use Rattle.h1_link.specs.Later.{Later, Grew}
use Rattle.h1_transcript.specs.Words.{LinkState, Entry}
use Rattle.h1_transcript.specs.Alone.{WithinRead, Alone, JoinAlone}
use Rattle.h1_transcript.proofs.Words.{ReadBehind, IfTold}
use Rattle.h1_transcript.proofs.CompleteLemmas.{told_of}

-- bytes with which these requests end are within them
pub within_all : (since rest : List ℕ) (entries : List Entry) → ReadBehind since entries rest
    → rest ≡ [] → WithinRead since entries
within_all since rest entries h none =
    ([], subst (λ xs. ReadBehind xs entries []) (sym (append-nil since)) (rw none at h))

-- and so is what was told earlier
told_within : (entries : List Entry) (before old now : Option (List ℕ)) → Grew before old
    → Grew old now → IfTold before now (λ since. WithinRead since entries)
    → IfTold before old (λ since. WithinRead since entries)
told_within entries None old now first second h = tt
told_within entries (Some b) old now first second h =
    let all = second.1 ∙ ap (λ known. append_known known second.0) first.1
    ∙ ap Some (append_assoc b first.0 second.0) in
    let within = told_of (Some b) now b (first.0 ++ second.0) (λ since. WithinRead since entries)
    refl all h in
    subst (λ known. IfTold (Some b) known (λ since. WithinRead since entries)) (sym first.1) (
      first.0,
      refl,
      (
        second.0 ++ within.0,
        subst (λ xs. ReadBehind xs entries [])
            (append_assoc first.0 second.0 within.0) within.1,
      ),
    )

alone_map : (P Q : List Entry → Type 0) → ((entries : List Entry) → P entries → Q entries)
    → (front more : List Entry) → Alone P front more → Alone Q front more
alone_map P Q step front [] h = tt
alone_map P Q step front (e ∷ more) h =
    (λ off. step (front ++ e ∷ []) (h.0 off), alone_map P Q step (front ++ e ∷ []) more h.1)

-- after these exchanges, more
alone_append : (P : List Entry → Type 0) (front first second : List Entry) → Alone P front first
    → Alone P (front ++ first) second → Alone P front (first ++ second)
alone_append P front [] second h rest = subst (λ xs. Alone P xs second) (append-nil front) rest
alone_append P front (e ∷ more) second h rest = (
  h.0,
  alone_append P (front ++ e ∷ []) more second
      h.1 (subst (λ xs. Alone P xs second) (sym (append_assoc front (e ∷ []) more)) rest),
)

-- no exchange joined
pub join_none : (before old : LinkState) (done : List Entry) → JoinAlone before old done done
join_none before old done = ([], sym (append-nil done), tt)

-- exchanges that joined from one state of the link to the next, and then more
pub join_on : (before a b : LinkState) (first second third : List Entry) → Later before a
    → Later a b → JoinAlone before a first second → JoinAlone before b second third
    → JoinAlone before a first third
join_on before a b first second third start later x y =
    let P : List Entry → Type 0 =
    λ entries. IfTold before.given a.given (λ since. WithinRead since entries) in
    let Q : List Entry → Type 0 =
    λ entries. IfTold before.given b.given (λ since. WithinRead since entries) in
    let rest = alone_map Q P
    (λ entries h. told_within entries before.given a.given b.given start.given later.given h)
    second y.0 y.2 in (
      x.0 ++ y.0,
      y.1 ∙ ap (λ xs. xs ++ y.0) x.1 ∙ append_assoc first x.0 y.0,
      alone_append P first x.0 y.0 x.2 (subst (λ xs. Alone P xs y.0) x.1 rest),
    )
