-- Lists of tasks with one task more behind them.
use Rattle.std.proofs.Common.{◌≡◌, ℕ, ◌+◌, Bool, true, false, true≢false, List, [], ◌∷◌, ◌++◌, Option, None, sym, refl, ap, ◌∙◌, arith}
use Rattle.std.specs.Prelude.{if◌then◌else◌, ◌||◌}
use Rattle.h1_subrequest.specs.Words.{Body, Done, Failed, Header, HttpTask, RequestView, Trailer, UpgradedBody}
use Rattle.h1_subrequest.specs.declared.body_mode.BodyMode.TheVariants as mode
use Rattle.h1_subrequest.specs.Interleavings.{end_in, ends, length_in, limit, limit_by, payload, payload_in}
use Rattle.h1_subrequest.specs.Upgrade.{is_answer, is_answered, is_upgrade, is_upgraded}
use Rattle.h1_subrequest.specs.Writing.{header_mode}

-- what holds of both branches holds of a choice
pub either_way : {A : Type 0} (P : A → Type 0) (b : Bool) (x y : A) → (b ≡ true → P x)
    → (b ≡ false → P y) → P (if b then x else y)
either_way P true x y is isnt = is refl
either_way P false x y is isnt = isnt refl

or_assoc : (a b c : Bool) → ((a || b) || c) ≡ (a || (b || c))
or_assoc true b c = refl
or_assoc false b c = refl

pub or_false : (a : Bool) → (a || false) ≡ a
or_false true = refl
or_false false = refl

pub or_neither : (a b : Bool) → (a || b) ≡ false → (a ≡ false) × (b ≡ false)
or_neither true b e = absurd (true≢false e)
or_neither false b e = (refl, e)

pub payload-snoc : (tasks : List HttpTask) (task : HttpTask)
    → payload (tasks ++ task ∷ []) ≡ payload tasks + payload_in task
payload-snoc [] task = omega arith
payload-snoc (x ∷ tasks) task = let rest = payload-snoc tasks task in omega arith

pub ends-snoc : (tasks : List HttpTask) (task : HttpTask)
    → ends (tasks ++ task ∷ []) ≡ ends tasks + end_in task
ends-snoc [] task = omega arith
ends-snoc (x ∷ tasks) task = let rest = ends-snoc tasks task in omega arith

pub answered-snoc : (tasks : List HttpTask) (task : HttpTask)
    → is_answered (tasks ++ task ∷ []) ≡ (is_answered tasks || is_answer task)
answered-snoc [] task = or_false (is_answer task)
answered-snoc (x ∷ tasks) task = ap (λ b. is_answer x || b) (answered-snoc tasks task)
    ∙ sym (or_assoc (is_answer x) (is_answered tasks) (is_answer task))

pub upgraded-snoc : (request : RequestView) (tasks : List HttpTask) (task : HttpTask)
    → is_upgraded request (tasks ++ task ∷ [])
    ≡ (is_upgraded request tasks || is_upgrade request task)
upgraded-snoc request [] task = or_false (is_upgrade request task)
upgraded-snoc request (x ∷ tasks) task =
    ap (λ b. is_upgrade request x || b) (upgraded-snoc request tasks task)
    ∙ sym (or_assoc (is_upgrade request x) (is_upgraded request tasks) (is_upgrade request task))

-- a task that is no answer changes no limit
pub limit_by-none : (request : RequestView) (task : HttpTask) (behind : Option ℕ)
    → is_answer task ≡ false → limit_by request task behind ≡ behind
limit_by-none request (Header header end) behind isnt =
    ap (λ b. if b then length_in (header_mode request header mode.ToSelect) else behind) isnt
limit_by-none request (Body piece end) behind isnt = refl
limit_by-none request (UpgradedBody piece end) behind isnt = refl
limit_by-none request (Trailer fields) behind isnt = refl
limit_by-none request Done behind isnt = refl
limit_by-none request (Failed error) behind isnt = refl

-- an answer sets the limit, whatever is behind it
limit_by-some : (request : RequestView) (task : HttpTask) (behind other : Option ℕ)
    → is_answer task ≡ true → limit_by request task behind ≡ limit_by request task other
limit_by-some request (Header header end) behind other is =
    let l = length_in (header_mode request header mode.ToSelect) in
    ap (λ b. if b then l else behind) is ∙ sym (ap (λ b. if b then l else other) is)
limit_by-some request (Body piece end) behind other is = absurd (true≢false (sym is))
limit_by-some request (UpgradedBody piece end) behind other is = absurd (true≢false (sym is))
limit_by-some request (Trailer fields) behind other is = absurd (true≢false (sym is))
limit_by-some request Done behind other is = absurd (true≢false (sym is))
limit_by-some request (Failed error) behind other is = absurd (true≢false (sym is))

limit-unanswered : (request : RequestView) (tasks : List HttpTask) → is_answered tasks ≡ false
    → limit request tasks ≡ None
limit-unanswered request [] isnt = refl
limit-unanswered request (x ∷ tasks) isnt =
    let both = or_neither (is_answer x) (is_answered tasks) isnt in
    limit_by-none request x (limit request tasks) both.0
    ∙ limit-unanswered request tasks both.1

-- the first answer sets the limit
pub limit-first : (request : RequestView) (tasks : List HttpTask) (task : HttpTask)
    → is_answered tasks ≡ false → limit request (tasks ++ task ∷ []) ≡ limit_by request task None
limit-first request [] task isnt = refl
limit-first request (x ∷ tasks) task isnt =
    let both = or_neither (is_answer x) (is_answered tasks) isnt in
    limit_by-none request x (limit request (tasks ++ task ∷ [])) both.0
    ∙ limit-first request tasks task both.1

-- and no later one changes it
limit-later : (request : RequestView) (tasks : List HttpTask) (task : HttpTask)
    → is_answered tasks ≡ true → limit request (tasks ++ task ∷ []) ≡ limit request tasks
limit-later request [] task is = absurd (true≢false (sym is))
limit-later request (x ∷ tasks) task is = go (limit-later request tasks task) (is_answer x) refl
  where
    go : (is_answered tasks ≡ true → limit request (tasks ++ task ∷ []) ≡ limit request tasks)
        → (b : Bool) → is_answer x ≡ b
        → limit request ((x ∷ tasks) ++ task ∷ []) ≡ limit request (x ∷ tasks)
    go later true first = limit_by-some request x (limit request (tasks ++ task ∷ []))
        (limit request tasks) first
    go later false first =
        ap (λ l. limit_by request x l) (later (sym (ap (λ b. b || is_answered tasks) first) ∙ is))

pub limit-same : (request : RequestView) (tasks : List HttpTask) (task : HttpTask)
    → is_answer task ≡ false → limit request (tasks ++ task ∷ []) ≡ limit request tasks
limit-same request tasks task isnt = go (is_answered tasks) refl
  where
    go : (b : Bool) → is_answered tasks ≡ b
        → limit request (tasks ++ task ∷ []) ≡ limit request tasks
    go true is = limit-later request tasks task is
    go false none = limit-first request tasks task none
        ∙ (limit_by-none request task None isnt ∙ sym (limit-unanswered request tasks none))
