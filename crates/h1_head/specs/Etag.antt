-- Entity tags in a list, by weak comparison (RFC 9110, sections 8.8.3.2 and 13.1.2). Tags need no
-- quotes, and one without them may have a comma in it.
use Rattle.std.specs.Prelude.{ℕ, suc, zero, ◌+◌, Bool, true, false, ◌&&◌, ◌||◌, ◌==◌, not, List, [], ◌∷◌, length, take, drop, codes, bytes_eq, if◌then◌else◌}
use Rattle.h1_head.specs.BytesFrom.{from_first}

-- ASCII white space
abbrev pub is_white : ℕ → Bool
is_white b = b == 32 || b == 9 || b == 10 || b == 12 || b == 13

abbrev pub is_comma : ℕ → Bool
is_comma b = b == 44

-- what begins an entry
abbrev pub begins_entry : ℕ → Bool
begins_entry b = not (is_white b || is_comma b)

-- these bytes stand in front
abbrev pub begins_with : List ℕ → List ℕ → Bool
begins_with bytes front = bytes_eq (take (length front) bytes) front

-- a weak tag and its strong one are alike: the mark of weakness goes
abbrev pub without_weak : List ℕ → List ℕ
without_weak tag = if begins_with tag (codes "W/") then drop 2 tag else tag

-- nothing is left of an entry
abbrev pub is_at_end : List ℕ → Bool
is_at_end [] = true
is_at_end (b ∷ bytes) = is_comma b

-- what stands behind the target and the white space there, where the target is in front
abbrev pub behind : List ℕ → List ℕ → List ℕ
behind target rest =
    if begins_with rest target
    then from_first (λ b. not (is_white b)) (drop (length target) rest) else rest

-- the entry is the target
abbrev pub is_target : List ℕ → List ℕ → Bool
is_target target rest = begins_with rest target && is_at_end (behind target rest)

-- the next entry behind a comma, with its mark
abbrev pub next_entry : List ℕ → List ℕ
next_entry rest = from_first begins_entry (from_first is_comma rest)

-- the target is one of the entries from this one on, of which there are at most so many
abbrev pub has_target : ℕ → List ℕ → List ℕ → Bool
has_target zero target rest = false
has_target (suc entries) target rest =
    if is_target target rest then true
    else (if length (next_entry (behind target rest)) == 0 then false
    else has_target entries target (without_weak (next_entry (behind target rest))))

-- Any tag is matched by `*`. A list has no more entries than bytes, and one.
abbrev pub matches_weakly : List ℕ → List ℕ → Bool
matches_weakly input target =
    if bytes_eq input (codes "*") then true
    else has_target (length input + 1) (without_weak target) (without_weak input)
