-- A parsed authority and its grammar.
use Rattle.std.proofs.Common.{◌≡◌, ℕ, ◌+◌, ◌<◌, Bool, true, false, cond, not, ◌&&◌, ◌==◌, ◌⊎◌, zero, inl, inr, List, [], ◌∷◌, ◌++◌, length, take, drop, Option, Some, None, refl, sym, ap, ◌∙◌, subst, arith, eqb, suc, get_or, append_assoc, length-append}
use Rattle.std.specs.List.{list_any, list_all, position, position_or_len, before_first}
use Rattle.std.proofs.lemmas.Bool.{and_parts, and_from, not-true, eqb-true}
use Rattle.std.proofs.lemmas.List.{take-append-drop, append-nil, take_more}
use Rattle.std.proofs.Math.Seq.{take-append-add, drop-append-add, take-append_seam, drop-append_seam}
use Rattle.h1_authority.specs.Bytes.{is_bracket, has_userinfo}
use Rattle.h1_authority.specs.ParsedAuthority.{Authority, behind_userinfo_from, behind_userinfo, is_authority_byte, is_bracket_or_percent, is_name, is_port_text, is_literal, port_of, with_port, bracketed_at, named, host_and_port, parse_authority}
use Rattle.h1_authority.specs.AuthorityGrammar.{IsUserinfoPart, IsHost, IsPortPart, IsAuthority}
use Rattle.h1_authority.proofs.Cuts.{none_of, none_before, place_of_first, place_of_none, place_found, place_exists, passes_there}

-- without `@` all of it is left
behind_none : (rest bytes : List ℕ) → has_userinfo bytes ≡ false →
    behind_userinfo_from rest bytes ≡ rest
behind_none rest [] h = refl
behind_none rest (b ∷ bytes) h =
    let parts = none_of (eqb b 64) (has_userinfo bytes) h in
    rw parts.0 (behind_none rest bytes parts.1)

-- what stands after the last `@`
behind_last : (front rest more : List ℕ) → has_userinfo more ≡ false →
    behind_userinfo_from rest (front ++ 64 ∷ more) ≡ more
behind_last [] rest more h = behind_none more more h
behind_last (b ∷ front) rest more h =
    behind_last front (cond (eqb b 64) (front ++ 64 ∷ more) rest) more h

abbrev EndsUserinfo : List ℕ → List ℕ → List ℕ → Type 0
EndsUserinfo rest bytes behind =
    ((has_userinfo bytes ≡ false) × (behind ≡ rest))
    ⊎ ((front : List ℕ) × (bytes ≡ front ++ 64 ∷ behind) × (has_userinfo behind ≡ false))

behind_more : (t : Bool) (b : ℕ) (rest bytes behind : List ℕ) → eqb b 64 ≡ t →
    EndsUserinfo (cond t bytes rest) bytes behind → EndsUserinfo rest (b ∷ bytes) behind
behind_more t b rest bytes behind test (inr (front, e, h)) = inr (b ∷ front, ap (λ l. b ∷ l) e, h)
behind_more true b rest bytes behind test (inl (h, e)) =
    let at : b ≡ 64 = eqb-true b 64 test in inr ([], cc, rw e h)
behind_more false b rest bytes behind test (inl (h, e)) = inl (rw (test, h) refl, e)

behind_is : (rest bytes : List ℕ) → EndsUserinfo rest bytes (behind_userinfo_from rest bytes)
behind_is rest [] = inl (refl, refl)
behind_is rest (b ∷ bytes) = behind_more _ b rest bytes _ refl
    (behind_is (cond (eqb b 64) bytes rest) bytes)

-- the port after a host
port_more : (t : Bool) (b : ℕ) (text host : List ℕ) (a parsed : Authority) →
    (eqb b 58 && is_port_text text) ≡ t → parsed.host ≡ host → parsed.port ≡ port_of text →
    cond t (Some parsed) None ≡ Some a → (a.host ≡ host) × IsPortPart (b ∷ text) a.port
port_more true b text host a parsed test same port h =
    let parts = and_parts (eqb b 58) (is_port_text text) test in
    let colon : b ≡ 58 = eqb-true b 58 parts.0 in
    let e : parsed ≡ a = cc in
    let P : Authority → Type 0 = λ x. (x.host ≡ host) × IsPortPart (b ∷ text) x.port in
    subst P e (same, inr (text, ap (λ c. c ∷ text) colon, parts.1, port))
port_more false b text host a parsed test same port h = cc

with_port_only : (host behind : List ℕ) (a : Authority) → with_port host behind ≡ Some a →
    (a.host ≡ host) × IsPortPart behind a.port
with_port_only host [] a h =
    let parsed : Authority = record { host = host; port = None } in
    let e : parsed ≡ a = cc in
    let P : Authority → Type 0 = λ x. (x.host ≡ host) × IsPortPart [] x.port in
    subst P e (refl, inl (refl, refl))
with_port_only host (b ∷ text) a h =
    port_more _ b text host a (record { host = host; port = port_of text }) refl refl refl h

with_port_all : (a : Authority) (behind : List ℕ) → IsPortPart behind a.port →
    with_port a.host behind ≡ Some a
with_port_all a behind (inl (e, none)) =
    let made : Option ℕ → Option Authority = λ q. Some (record { host = a.host; port = q }) in
    rw e (ap made (sym none))
with_port_all a behind (inr (text, e, plain, port)) =
    let made : Option ℕ → Option Authority = λ q. Some (record { host = a.host; port = q }) in
    rw (e, plain) (ap made (sym port))

-- a host and what stands after it
record Splits (rest : List ℕ) (a : Authority) : Type 0 where
  behind : List ℕ
  parts : rest ≡ a.host ++ behind
  host : IsHost a.host
  port : IsPortPart behind a.port

named_more : (t : Bool) (rest : List ℕ) (a : Authority) →
    is_name (before_first (λ b. b == 58) rest) ≡ t →
    cond t (with_port (before_first (λ b. b == 58) rest)
    (drop (position_or_len (λ b. b == 58) rest) rest)) None ≡ Some a →
    Splits rest a
named_more true rest a test h =
    let w = with_port_only (before_first (λ b. b == 58) rest)
    (drop (position_or_len (λ b. b == 58) rest) rest) a h in
    let plain : is_port_text (before_first (λ b. b == 58) rest) ≡ true =
    and_from _ _ test (rw (none_before (λ b. b == 58) rest) refl) in
    record {
      behind = drop (position_or_len (λ b. b == 58) rest) rest;
      parts = rw w.0 (sym (take-append-drop (position_or_len (λ b. b == 58) rest) rest));
      host = inl (rw w.0 plain);
      port = w.1;
    }
named_more false rest a test h = cc

named_only : (rest : List ℕ) (a : Authority) → named rest ≡ Some a → Splits rest a
named_only rest a h = named_more _ rest a refl h

front_byte : (bytes : List ℕ) (end : ℕ) → 0 < end →
    take end (91 ∷ bytes) ≡ 91 ∷ drop 1 (take end (91 ∷ bytes))
front_byte bytes zero h = absurd (omega arith)
front_byte bytes (suc k) h = refl

bracketed_more : (t : Bool) (bytes : List ℕ) (end : ℕ) (a : Authority) →
    position (λ c. c == 93) (91 ∷ bytes) ≡ Some end →
    is_literal (drop 1 (take end (91 ∷ bytes))) ≡ t →
    cond t (with_port (take (end + 1) (91 ∷ bytes)) (drop (end + 1) (91 ∷ bytes))) None ≡ Some a →
    Splits (91 ∷ bytes) a
bracketed_more true bytes end a place test h =
    let w = with_port_only (take (end + 1) (91 ∷ bytes)) (drop (end + 1) (91 ∷ bytes)) a h in
    let found = place_found (λ c. c == 93) (91 ∷ bytes) end place in
    let closes : get_or (91 ∷ bytes) end 0 ≡ 93 =
    eqb-true _ 93 (passes_there (λ c. c == 93) (91 ∷ bytes) end place) in
    let front : take end (91 ∷ bytes) ≡ 91 ∷ drop 1 (take end (91 ∷ bytes)) =
    front_byte bytes end (omega (arith, found.0)) in
    let host : take (end + 1) (91 ∷ bytes) ≡ 91 ∷ (drop 1 (take end (91 ∷ bytes)) ++ 93 ∷ []) =
    take_more (91 ∷ bytes) end 0 found.1 ∙
    (ap (λ c. take end (91 ∷ bytes) ++ c ∷ []) closes ∙ ap (λ l. l ++ 93 ∷ []) front) in
    record {
      behind = drop (end + 1) (91 ∷ bytes);
      parts = rw w.0 (sym (take-append-drop (end + 1) (91 ∷ bytes)));
      host = inr (drop 1 (take end (91 ∷ bytes)), w.0 ∙ host, test);
      port = w.1;
    }
bracketed_more false bytes end a place test h = cc

bracketed_only : (o : Option ℕ) (bytes : List ℕ) (a : Authority) →
    position (λ c. c == 93) (91 ∷ bytes) ≡ o → bracketed_at (91 ∷ bytes) o ≡ Some a →
    Splits (91 ∷ bytes) a
bracketed_only None bytes a place h = cc
bracketed_only (Some end) bytes a place h = bracketed_more _ bytes end a place refl h

host_more : (t : Bool) (b : ℕ) (bytes : List ℕ) (a : Authority) → eqb b 91 ≡ t →
    cond t (bracketed_at (b ∷ bytes) (position (λ c. c == 93) (b ∷ bytes)))
    (named (b ∷ bytes)) ≡ Some a →
    Splits (b ∷ bytes) a
host_more true b bytes a test h =
    let P : ℕ → Type 0 = λ c. bracketed_at (c ∷ bytes)
    (position (λ d. d == 93) (c ∷ bytes)) ≡ Some a → Splits (c ∷ bytes) a in
    subst P (sym (eqb-true b 91 test)) (bracketed_only _ bytes a refl) h
host_more false b bytes a test h = named_only (b ∷ bytes) a h

host_only : (rest : List ℕ) (a : Authority) → host_and_port rest ≡ Some a → Splits rest a
host_only [] a h = cc
host_only (b ∷ bytes) a h = host_more _ b bytes a refl h

something : (rest : List ℕ) (a : Authority) → host_and_port rest ≡ Some a → 0 < length rest
something [] a h = cc
something (b ∷ bytes) a h = omega arith

only_with : (bytes rest : List ℕ) (a : Authority) → list_all is_authority_byte bytes ≡ true →
    EndsUserinfo bytes bytes rest → 0 < length rest → Splits rest a → IsAuthority bytes a
only_with bytes rest a allowed (inl (h, e)) filled s = record {
  front = [];
  behind = s.behind;
  parts = sym e ∙ s.parts;
  userinfo = inl refl;
  host = s.host;
  port = s.port;
  last = rw (← s.parts) (rw e h);
  nonempty = rw (← s.parts) filled;
  allowed = allowed;
}
only_with bytes rest a allowed (inr (front, e, h)) filled s = record {
  front = front ++ 64 ∷ [];
  behind = s.behind;
  parts = e ∙ (ap (λ l. front ++ 64 ∷ l) s.parts ∙
      sym (append_assoc front (64 ∷ []) (a.host ++ s.behind)));
  userinfo = inr (front, refl);
  host = s.host;
  port = s.port;
  last = rw (← s.parts) h;
  nonempty = rw (← s.parts) filled;
  allowed = allowed;
}

only_more : (t : Bool) (bytes : List ℕ) (a : Authority) → list_all is_authority_byte bytes ≡ t →
    cond t (host_and_port (behind_userinfo bytes)) None ≡ Some a → IsAuthority bytes a
only_more true bytes a test h =
    only_with bytes (behind_userinfo bytes) a test (behind_is bytes bytes) (something _ a h)
    (host_only _ a h)
only_more false bytes a test h = cc

-- what is parsed follows the grammar
pub grammar_only : (bytes : List ℕ) (a : Authority) → parse_authority bytes ≡ Some a →
    IsAuthority bytes a
grammar_only bytes a h = only_more _ bytes a refl h

-- where the name ends
colon_place : (host behind : List ℕ) (port : Option ℕ) → IsPortPart behind port →
    list_any (λ b. b == 58) host ≡ false →
    position_or_len (λ b. b == 58) (host ++ behind) ≡ length host
colon_place host behind port (inl (e, none)) h =
    rw (e, append-nil host) (place_of_none (λ b. b == 58) host h)
colon_place host behind port (inr (text, e, plain, same)) h =
    rw e (place_of_first (λ b. b == 58) host 58 text h refl)

named_all : (a : Authority) (behind : List ℕ) → is_port_text a.host ≡ true →
    IsPortPart behind a.port → named (a.host ++ behind) ≡ Some a
named_all a behind plain port =
    let parts = and_parts (is_name a.host) (not (list_any (λ b. b == 58) a.host)) plain in
    let place = colon_place a.host behind a.port port (not-true _ parts.1) in
    let P : ℕ → Type 0 = λ i. cond (is_name (take i (a.host ++ behind)))
    (with_port (take i (a.host ++ behind)) (drop i (a.host ++ behind))) None ≡ Some a in
    subst P (sym place)
    (rw (take-append_seam a.host behind, drop-append_seam a.host behind, parts.0)
    (with_port_all a behind port))

no_bracket : (b : ℕ) (bytes : List ℕ) → is_name (b ∷ bytes) ≡ true → eqb b 91 ≡ false
no_bracket b bytes h =
    let none = none_of (is_bracket_or_percent b) (list_any is_bracket_or_percent bytes)
    (not-true _ h) in
    let bracket = none_of (is_bracket b) (eqb b 37) none.0 in
    (none_of (eqb b 91) (eqb b 93) bracket.0).0

choose_named : (b : ℕ) (bytes : List ℕ) (o : Option Authority) → eqb b 91 ≡ false →
    named (b ∷ bytes) ≡ o → host_and_port (b ∷ bytes) ≡ o
choose_named b bytes o test h =
    let P : Bool → Type 0 = λ t. cond t
    (bracketed_at (b ∷ bytes) (position (λ c. c == 93) (b ∷ bytes))) (named (b ∷ bytes)) ≡ o in
    subst P (sym test) h

host_named : (host behind : List ℕ) (a : Authority) → is_port_text host ≡ true →
    IsPortPart behind a.port → 0 < length (host ++ behind) → named (host ++ behind) ≡ Some a →
    host_and_port (host ++ behind) ≡ Some a
host_named [] behind a plain (inl (e, none)) filled h = absurd (omega (arith, ap length e))
host_named [] behind a plain (inr (text, e, fits, same)) filled h =
    let P : List ℕ → Type 0 = λ l. named l ≡ Some a → host_and_port l ≡ Some a in
    subst P (sym e) (λ (n : named (58 ∷ text) ≡ Some a). choose_named 58 text (Some a) refl n) h
host_named (b ∷ host) behind a plain port filled h =
    let parts = and_parts (is_name (b ∷ host)) (not (list_any (λ c. c == 58) (b ∷ host))) plain in
    choose_named b (host ++ behind) (Some a) (no_bracket b host parts.0) h

-- what has no bracket has no `]`
no_close : (bytes : List ℕ) → list_any is_bracket bytes ≡ false →
    list_any (λ c. c == 93) bytes ≡ false
no_close [] h = refl
no_close (b ∷ bytes) h =
    let parts = none_of (is_bracket b) (list_any is_bracket bytes) h in
    rw ((none_of (eqb b 91) (eqb b 93) parts.0).1, no_close bytes parts.1) refl

-- a host in brackets
bracketed_all : (inside behind : List ℕ) (a : Authority) → a.host ≡ 91 ∷ (inside ++ 93 ∷ []) →
    is_literal inside ≡ true → IsPortPart behind a.port →
    host_and_port (91 ∷ (inside ++ 93 ∷ behind)) ≡ Some a
bracketed_all inside behind a same fits port =
    let rest : List ℕ = 91 ∷ (inside ++ 93 ∷ behind) in
    let parts = and_parts (not (list_any is_bracket inside)) _ fits in
    let closes : position_or_len (λ c. c == 93) rest ≡ suc (length inside) =
    place_of_first (λ c. c == 93) (91 ∷ inside) 93 behind (no_close inside (not-true _ parts.0))
    refl in
    let place = place_exists (λ c. c == 93) rest (suc (length inside)) closes
    (omega (arith, length-append (91 ∷ inside) (93 ∷ behind))) in
    let P : Option ℕ → Type 0 = λ o. bracketed_at rest o ≡ Some a in
    let host : take (suc (length inside) + 1) rest ≡ a.host =
    take-append-add (91 ∷ inside) (93 ∷ behind) 1 ∙ sym same in
    let tail : drop (suc (length inside) + 1) rest ≡ behind =
    drop-append-add (91 ∷ inside) (93 ∷ behind) 1 in
    subst P (sym place) (rw (take-append_seam inside (93 ∷ behind), fits, host, tail)
    (with_port_all a behind port))

host_all : (a : Authority) (behind : List ℕ) → IsHost a.host → IsPortPart behind a.port →
    0 < length (a.host ++ behind) → host_and_port (a.host ++ behind) ≡ Some a
host_all a behind (inl plain) port filled =
    host_named a.host behind a plain port filled (named_all a behind plain port)
host_all a behind (inr (inside, same, fits)) port filled =
    let whole : a.host ++ behind ≡ 91 ∷ (inside ++ 93 ∷ behind) = ap (λ l. l ++ behind) same ∙
    ap (λ l. 91 ∷ l) (append_assoc inside (93 ∷ []) behind) in
    rw whole (bracketed_all inside behind a same fits port)

userinfo_all : (front rest : List ℕ) → IsUserinfoPart front → has_userinfo rest ≡ false →
    behind_userinfo (front ++ rest) ≡ rest
userinfo_all front rest (inl e) h =
    let P : List ℕ → Type 0 = λ l. behind_userinfo (l ++ rest) ≡ rest in
    subst P (sym e) (behind_none rest rest h)
userinfo_all front rest (inr (userinfo, e)) h =
    let whole : front ++ rest ≡ userinfo ++ 64 ∷ rest = ap (λ l. l ++ rest) e ∙
    append_assoc userinfo (64 ∷ []) rest in
    let P : List ℕ → Type 0 = λ l. behind_userinfo l ≡ rest in
    subst P (sym whole) (behind_last userinfo (userinfo ++ 64 ∷ rest) rest h)

-- what follows the grammar is parsed
pub grammar_all : (bytes : List ℕ) (a : Authority) → IsAuthority bytes a →
    parse_authority bytes ≡ Some a
grammar_all bytes a h =
    let P : Bool → Type 0 = λ t. cond t (host_and_port (behind_userinfo bytes)) None ≡ Some a in
    let Q : List ℕ → Type 0 = λ l. host_and_port (behind_userinfo l) ≡ Some a in
    let R : List ℕ → Type 0 = λ l. host_and_port l ≡ Some a in
    let rest = userinfo_all h.front (a.host ++ h.behind) h.userinfo h.last in
    subst P (sym h.allowed) (subst Q (sym h.parts)
    (subst R (sym rest) (host_all a h.behind h.host h.port h.nonempty)))
