-- What a subrequest's writer has put, by its mode.
use Rattle.std.proofs.Common.{◌≡◌, ℕ, ◌+◌, ◌-◌, ◌<◌, ◌≤◌, Bool, true, false, true≢false, List, [], ◌∷◌, ◌++◌, length, take, min, nat_lt, Option, Some, None, sym, refl, ap, ◌∙◌, subst, arith, length-take}
use Rattle.std.specs.Prelude.{IfSome, if◌then◌else◌, ◌==◌, ◌||◌, ◌&&◌, not, nat_le}
use Rattle.std.proofs.lemmas.Bool.Decides.{nat_tests}
use Rattle.h1_head.specs.Upgrade.{asks_upgrade}
use Rattle.h1_head.specs.Versions.{is_http_11}
use Rattle.h1_body.specs.declared.framing.Framing.TheVariants as framed
use Rattle.h1_subrequest.specs.Words.{Body, BodyMode, Done, Drops, Failed, Framing, Header, HttpTask, Passes, Passing, RequestView, ResponseView, Trailer, UpgradedBody, is_interim, out}
use Rattle.h1_subrequest.specs.declared.body_mode.BodyMode.TheVariants as mode
use Rattle.h1_subrequest.specs.Interleavings.{end_in, ends, length_in, limit, limit_by, payload, payload_in}
use Rattle.h1_subrequest.specs.Reading.{counted}
use Rattle.h1_subrequest.specs.Upgrade.{completes, is_answer, is_answered, is_last}
use Rattle.h1_subrequest.specs.Writing.{body_passing, carried, done_passing, header_mode, is_final, mode_of, passing}
use Rattle.h1_subrequest.proofs.TaskLemmas.{answered-snoc, either_way, ends-snoc, limit-first, limit-same, limit_by-none, or_false, payload-snoc}

-- what each mode says of what was put: its limit, whether it has an answer, how many bytes of
-- payload it has, and how many ends
abbrev pub WriterIs : BodyMode → Option ℕ → Bool → ℕ → ℕ → Type 0
WriterIs mode.ToSelect limited answered bytes done = (bytes ≡ 0) × (done ≡ 0) × (limited ≡ None)
WriterIs (mode.ContentLength n count) limited answered bytes done =
    (answered ≡ true) × (limited ≡ Some n) × (bytes ≡ count) × (count ≤ n) × (done ≡ 0)
WriterIs (mode.UntilClose count) limited answered bytes done =
    (answered ≡ true) × (limited ≡ None) × (done ≡ 0)
WriterIs (mode.Complete count) limited answered bytes done =
    (answered ≡ true) × IfSome limited (λ n. bytes ≤ n) × (done ≤ 1)

abbrev pub Wrote : RequestView → BodyMode → List HttpTask → Type 0
Wrote request writer put =
    WriterIs writer (limit request put) (is_answered put) (payload put) (ends put)

abbrev pub WroteAfter : RequestView → List HttpTask → Passing → Type 0
WroteAfter request put (Drops writer) = Wrote request writer put
WroteAfter request put (Passes task writer) = Wrote request writer (put ++ task ∷ [])

-- one more task was put, with these sums behind it
wrote-snoc : (request : RequestView) (writer : BodyMode) (put : List HttpTask) (task : HttpTask)
    (limited : Option ℕ) (answered : Bool) (bytes done : ℕ)
    → limit request (put ++ task ∷ []) ≡ limited → is_answered (put ++ task ∷ []) ≡ answered
    → payload put + payload_in task ≡ bytes → ends put + end_in task ≡ done
    → WriterIs writer limited answered bytes done → Wrote request writer (put ++ task ∷ [])
wrote-snoc request writer put task limited answered bytes done l a b e =
    let all = put ++ task ∷ [] in
    let b' = payload-snoc put task ∙ b in
    let e' = ends-snoc put task ∙ e in
    λ h. subst (λ (z : Option ℕ). WriterIs writer z (is_answered all) (payload all) (ends all))
    (sym l)
    (subst (λ (z : Bool). WriterIs writer limited z (payload all) (ends all)) (sym a)
    (subst (λ (z : ℕ). WriterIs writer limited answered z (ends all)) (sym b')
    (subst (λ (z : ℕ). WriterIs writer limited answered bytes z) (sym e') h)))

-- the same where the task is no answer
wrote-plain : (request : RequestView) (writer : BodyMode) (put : List HttpTask) (task : HttpTask)
    (bytes done : ℕ) → is_answer task ≡ false
    → payload put + payload_in task ≡ bytes → ends put + end_in task ≡ done
    → WriterIs writer (limit request put) (is_answered put) bytes done
    → Wrote request writer (put ++ task ∷ [])
wrote-plain request writer put task bytes done isnt b e h =
    wrote-snoc request writer put task (limit request put) (is_answered put) bytes done
    (limit-same request put task isnt)
    (answered-snoc put task ∙ (ap (λ x. is_answered put || x) isnt ∙ or_false (is_answered put)))
    b e h

plain_wrote : (request : RequestView) (put : List HttpTask) (writer : BodyMode) (task : HttpTask)
    → payload_in task ≡ 0 → end_in task ≡ 0 → is_answer task ≡ false → Wrote request writer put
    → Wrote request writer (put ++ task ∷ [])
plain_wrote request put writer task b e isnt h =
    wrote-plain request writer put task (payload put) (ends put) isnt (omega arith) (omega arith) h

body_wrote : (request : RequestView) (put : List HttpTask) (writer : BodyMode) (piece : List ℕ)
    (task : List ℕ → HttpTask) → ((x : List ℕ) → payload_in (task x) ≡ length x)
    → ((x : List ℕ) → end_in (task x) ≡ 0) → ((x : List ℕ) → is_answer (task x) ≡ false)
    → Wrote request writer put → WroteAfter request put (body_passing writer piece task)
body_wrote request put mode.ToSelect piece task bytes done plain h = h
body_wrote request put (mode.ContentLength n count) piece task bytes done plain h =
    let writer = mode.ContentLength n (count + min (n - count) (length piece)) in
    let part = take (n - count) piece in
    either_way
    (λ (o : Option (List ℕ × BodyMode)).
    WroteAfter request put (carried (mode.ContentLength n count) task o))
    (nat_lt count n) (Some (part, writer)) None
    (λ less.
    let below : count < n = grind (arith, nat_tests, less) in
    let long : length part ≡ min (n - count) (length piece) = length-take (n - count) piece in
    let is = bytes part in
    let none = done part in
    let was = h.2 in
    let no_ends = h.4 in
    wrote-plain request writer put (task part) (count + min (n - count) (length piece)) 0
    (plain part) (omega arith) (omega arith) (h.0, h.1, refl, omega arith, refl))
    (λ _. h)
body_wrote request put (mode.UntilClose count) piece task bytes done plain h =
    let none = done piece in
    let no_ends = h.2 in
    wrote-plain request (mode.UntilClose (counted count (length piece))) put (task piece)
    (payload put + payload_in (task piece)) 0 (plain piece) refl (omega arith) (h.0, h.1, refl)
body_wrote request put (mode.Complete count) piece task bytes done plain h = h

done_wrote : (request : RequestView) (put : List HttpTask) (writer : BodyMode)
    → Wrote request writer put → WroteAfter request put (done_passing writer)
done_wrote request put mode.ToSelect h = h
done_wrote request put (mode.ContentLength n count) h =
    let within : IfSome (limit request put) (λ m. payload put ≤ m) =
    subst (λ (o : Option ℕ). IfSome o (λ m. payload put ≤ m)) (sym h.1)
    (let a = h.2 in let b = h.3 in omega arith) in
    let none = h.4 in
    either_way (WroteAfter request put) (nat_lt count n) (Drops (mode.Complete count))
    (Passes Done (mode.Complete count))
    (λ _. (h.0, within, omega arith))
    (λ _. wrote-plain request (mode.Complete count) put Done (payload put) 1 refl (omega arith)
    (omega arith) (h.0, within, omega arith))
done_wrote request put (mode.UntilClose count) h =
    let none = h.2 in
    let within : IfSome (limit request put) (λ m. payload put ≤ m) =
    subst (λ (o : Option ℕ). IfSome o (λ m. payload put ≤ m)) (sym h.1) tt in
    wrote-plain request (mode.Complete count) put Done (payload put) 1 refl (omega arith)
    (omega arith) (h.0, within, omega arith)
done_wrote request put (mode.Complete count) h = h

-- a mode that a header sets has nothing counted
abbrev IsFresh : BodyMode → Type 0
IsFresh mode.ToSelect = Unit {0}
IsFresh (mode.ContentLength n count) = count ≡ 0
IsFresh (mode.UntilClose count) = Unit {0}
IsFresh (mode.Complete count) = ⊥

fresh_mode : (framing : Framing) → IsFresh (mode_of framing)
fresh_mode (framed.Counted n) = refl
fresh_mode framed.Chunked = tt
fresh_mode framed.UntilClose = tt

fresh_header : (request : RequestView) (header : ResponseView)
    → IsFresh (header_mode request header mode.ToSelect)
fresh_header request header =
    either_way IsFresh (completes request header) (mode.UntilClose 0)
    (if is_final header then mode_of (out request.method header) else mode.ToSelect)
    (λ _. tt)
    (λ _. either_way IsFresh (is_final header) (mode_of (out request.method header)) mode.ToSelect
    (λ _. fresh_mode (out request.method header)) (λ _. tt))

fresh_is : (writer : BodyMode) → IsFresh writer → WriterIs writer (length_in writer) true 0 0
fresh_is mode.ToSelect f = (refl, refl, refl)
fresh_is (mode.ContentLength n count) f = (refl, refl, sym f, omega arith, refl)
fresh_is (mode.UntilClose count) f = (refl, refl, refl)
fresh_is (mode.Complete count) f = absurd f

-- an interim status is none that changes the protocol
not_false : (b : Bool) → not b ≡ false → b ≡ true
not_false true e = refl
not_false false e = absurd (true≢false e)

interim_parts : (a b c : Bool) → (a && b && not c) ≡ true → c ≡ false
interim_parts true true true e = absurd (true≢false (sym e))
interim_parts true true false e = refl
interim_parts true false c e = absurd (true≢false (sym e))
interim_parts false b c e = absurd (true≢false (sym e))

and_false : (a : Bool) → (a && false) ≡ false
and_false true = refl
and_false false = refl

-- a header behind which another comes sets no mode
interim_mode : (request : RequestView) (header : ResponseView) → is_last header ≡ false
    → header_mode request header mode.ToSelect ≡ mode.ToSelect
interim_mode request header isnt =
    let interim = not_false (is_interim header.status) isnt in
    let other = interim_parts (nat_le 100 header.status) (nat_lt header.status 200)
    (header.status == 101) interim in
    let final = mode_of (out request.method header) in
    let rest = if is_final header then final else mode.ToSelect in
    let parts = ap (λ b. asks_upgrade request && (b && is_http_11 header.version)) other
    ∙ and_false (asks_upgrade request) in
    ap (λ b. if b then mode.UntilClose 0 else rest) parts
    ∙ ap (λ b. if not (b || header.status == 101) then final else mode.ToSelect) interim

header_wrote : (request : RequestView) (put : List HttpTask) (writer : BodyMode)
    (header : ResponseView) (end : Bool) → is_answered put ≡ false → Wrote request writer put
    → Wrote request (header_mode request header writer) (put ++ Header header end ∷ [])
header_wrote request put mode.ToSelect header end isnt h = go (is_last header) refl
  where
    set : BodyMode
    set = header_mode request header mode.ToSelect

    bytes : payload put + payload_in (Header header end) ≡ 0
    bytes = let b = h.0 in omega arith

    done : ends put + end_in (Header header end) ≡ 0
    done = let e = h.1 in omega arith

    first : limit request (put ++ Header header end ∷ [])
        ≡ limit_by request (Header header end) None
    first = limit-first request put (Header header end) isnt

    answered : is_answered (put ++ Header header end ∷ []) ≡ is_last header
    answered = answered-snoc put (Header header end) ∙ ap (λ b. b || is_last header) isnt

    go : (b : Bool) → is_last header ≡ b
        → Wrote request (header_mode request header mode.ToSelect) (put ++ Header header end ∷ [])
    go true is = wrote-snoc request set put (Header header end) (length_in set) true 0 0
        (first ∙ ap (λ b. if b then length_in set else None) is) (answered ∙ is) bytes done
        (fresh_is set (fresh_header request header))
    go false info = wrote-snoc request set put (Header header end) None false 0 0
        (first ∙ limit_by-none request (Header header end) None info) (answered ∙ info) bytes done
        (subst (λ (writer : BodyMode). WriterIs writer None false 0 0)
        (sym (interim_mode request header info)) (refl, refl, refl))
header_wrote request put (mode.ContentLength n count) header end isnt h =
    absurd (true≢false (sym h.0 ∙ isnt))
header_wrote request put (mode.UntilClose count) header end isnt h =
    absurd (true≢false (sym h.0 ∙ isnt))
header_wrote request put (mode.Complete count) header end isnt h =
    absurd (true≢false (sym h.0 ∙ isnt))

-- whatever is put, what passes of it keeps what the mode says
pub passing_wrote : (request : RequestView) (put : List HttpTask) (writer : BodyMode)
    (task : HttpTask) → Wrote request writer put
    → WroteAfter request put (passing request (is_answered put) writer task)
passing_wrote request put writer (Header header end) h =
    either_way (WroteAfter request put) (is_answered put) (Drops writer)
    (Passes (Header header end) (header_mode request header writer))
    (λ _. h)
    (λ isnt. header_wrote request put writer header end isnt h)
passing_wrote request put writer (Body None end) h =
    plain_wrote request put writer (Body None end) refl refl refl h
passing_wrote request put writer (Body (Some piece) end) h =
    body_wrote request put writer piece (λ part. Body (Some part) end) (λ _. refl) (λ _. refl)
    (λ _. refl) h
passing_wrote request put writer (UpgradedBody None end) h =
    plain_wrote request put writer (UpgradedBody None end) refl refl refl h
passing_wrote request put writer (UpgradedBody (Some piece) end) h =
    body_wrote request put writer piece (λ part. UpgradedBody (Some part) end) (λ _. refl)
    (λ _. refl) (λ _. refl) h
passing_wrote request put writer (Trailer fields) h =
    plain_wrote request put writer (Trailer fields) refl refl refl h
passing_wrote request put writer Done h = done_wrote request put writer h
passing_wrote request put writer (Failed error) h =
    plain_wrote request put writer (Failed error) refl refl refl h

-- so the payload that was put is within the limit, and at most one end was put
pub within_limit : (writer : BodyMode) (o : Option ℕ) (answered : Bool) (bytes done : ℕ)
    → WriterIs writer o answered bytes done → IfSome o (λ n. bytes ≤ n) × (done ≤ 1)
within_limit mode.ToSelect o answered bytes done h = (
  subst (λ (x : Option ℕ). IfSome x (λ n. bytes ≤ n)) (sym h.2) tt,
  let e = h.1 in omega arith,
)
within_limit (mode.ContentLength n count) o answered bytes done h = (
  subst (λ (x : Option ℕ). IfSome x (λ n. bytes ≤ n)) (sym h.1)
      (let a = h.2 in let b = h.3 in omega arith),
  let e = h.4 in omega arith,
)
within_limit (mode.UntilClose count) o answered bytes done h = (
  subst (λ (x : Option ℕ). IfSome x (λ n. bytes ≤ n)) (sym h.1) tt,
  let e = h.2 in omega arith,
)
within_limit (mode.Complete count) o answered bytes done h = (h.1, h.2)
