-- The answer for a stream's first head is one, and it stays.
use Rattle.std.proofs.Common.{◌≡◌, ℕ, ◌<◌, ◌≤◌, ◌⊎◌, ◌==◌, Bool, true, Some, None, List, [], ◌∷◌, ◌++◌, length, take, refl, sym, ◌∙◌, ap, subst, inl, inr, arith, length-append}
use Rattle.std.proofs.lemmas.List.{length-take-le}
use Rattle.httparse.proofs.GrammarLemmas.{request_unique}
use Rattle.h1_cut.specs.Limit.{CutsAt, HasNoCut}
use Rattle.h1_cut.proofs.LimitLemmas.{CutsAt-unique, CutsAt-append, CutsAt-front, HasNoCut-append, cut_or_not, fronts_uncut}
use Rattle.h1_error.specs.declared.head_fault.HeadFault.{HeadFault}
use Rattle.h1_error.specs.declared.head_fault.HeadFault.TheVariants.{TooLong}
use Rattle.h1_head.specs.declared.limits.TheConstants.{MAX_HEADER_SIZE}
use Rattle.h1_head.specs.RequestFault.{first_fault, is_both, settled}
use Rattle.h1_head.specs.RequestGrammar.{IsHead, IsNoHead, IsReadAs, request_of}
use Rattle.h1_head.specs.RequestHead.{HeadAt, IsAccepted, IsRefused, NotYetAt, RefusedAt}
use Rattle.h1_head.specs.Views.{RequestView}

-- bytes say one thing
pub IsHead-unique : (bytes : List ℕ) (one other : RequestView) → IsHead bytes one
    → IsHead bytes other → one ≡ other
IsHead-unique bytes one other a b =
    let same = request_unique bytes a.0 b.0 [] [] a.1.reads b.1.reads in
    sym a.2 ∙ ap request_of same.0 ∙ b.2

-- one thing is read in their place
pub IsReadAs-unique : (head one other : List ℕ) → IsReadAs head one → IsReadAs head other
    → one ≡ other
IsReadAs-unique head one other (inl a) (inl b) = a.2 ∙ sym b.2
IsReadAs-unique head one other (inl a) (inr b) = absurd (b.0 a.0 a.1)
IsReadAs-unique head one other (inr a) (inl b) = absurd (a.0 b.0 b.1)
IsReadAs-unique head one other (inr a) (inr b) = let e = sym a.1 ∙ b.1 in cc

-- and what that says is one thing
said_once : (head raw more : List ℕ) (one other : RequestView) → IsReadAs head raw → IsHead raw one
    → IsReadAs head more → IsHead more other → one ≡ other
said_once head raw more one other a s b t =
    IsHead-unique more one other
    (subst (λ (bytes : List ℕ). IsHead bytes one) (IsReadAs-unique head raw more a b) s) t

-- what is no head says nothing
says_nothing : (head raw : List ℕ) (said : RequestView) → IsNoHead head → IsReadAs head raw
    → IsHead raw said → ⊥
says_nothing head raw said none (inl a) says = none.0 a.0 a.1
says_nothing head raw said none (inr a) says = none.1 raw a.1 says.0 says.1

pub IsAccepted-unique : (head : List ℕ) (one other : RequestView) (b c : Bool)
    → IsAccepted head one b → IsAccepted head other c → (one ≡ other) × (b ≡ c)
IsAccepted-unique head one other b c x y =
    let e = said_once head x.raw y.raw x.said y.said x.read_as x.says y.read_as y.says in
    (x.request_is ∙ ap settled e ∙ sym y.request_is, x.both_is ∙ ap is_both e ∙ sym y.both_is)

-- an accepted head has no fault
accepted_sound : (head : List ℕ) (request : RequestView) (both : Bool) (fault : HeadFault)
    → IsAccepted head request both → IsRefused head fault → ⊥
accepted_sound head request both fault x (inl none) =
    says_nothing head x.raw x.said none.0 x.read_as x.says
accepted_sound head request both fault x (inr y) =
    let e = said_once head x.raw y.raw x.said y.said x.read_as x.says y.read_as y.says in
    let n : None ≡ Some fault =
    sym x.sound ∙ ap (λ (r : RequestView). first_fault (settled r)) e ∙ y.faulty in
    cc

pub IsRefused-unique : (head : List ℕ) (one other : HeadFault) → IsRefused head one
    → IsRefused head other → one ≡ other
IsRefused-unique head one other (inl a) (inl b) = a.1 ∙ sym b.1
IsRefused-unique head one other (inl a) (inr y) =
    absurd (says_nothing head y.raw y.said a.0 y.read_as y.says)
IsRefused-unique head one other (inr x) (inl b) =
    absurd (says_nothing head x.raw x.said b.0 x.read_as x.says)
IsRefused-unique head one other (inr x) (inr y) =
    let e = said_once head x.raw y.raw x.said y.said x.read_as x.says y.read_as y.says in
    let n : Some one ≡ Some other =
    sym x.faulty ∙ ap (λ (r : RequestView). first_fault (settled r)) e ∙ y.faulty in
    cc

-- the request, its length and `both` are determined by the bytes
pub HeadAt-unique : (bytes : List ℕ) (m n : ℕ) (one other : RequestView) (b c : Bool)
    → HeadAt bytes m one b → HeadAt bytes n other c → (m ≡ n) × (one ≡ other) × (b ≡ c)
HeadAt-unique bytes m n one other b c x y =
    let e = CutsAt-unique MAX_HEADER_SIZE bytes m n x.cuts y.cuts in
    let same =
    IsAccepted-unique (take n bytes) one other b c
    (subst (λ (k : ℕ). IsAccepted (take k bytes) one b) e x.accepted) y.accepted in
    (e, same.0, same.1)

-- why bytes are refused
abbrev Cause : List ℕ → HeadFault → Type 0
Cause bytes fault =
    ((n : ℕ) × CutsAt MAX_HEADER_SIZE bytes n × IsRefused (take n bytes) fault)
    ⊎ (HasNoCut MAX_HEADER_SIZE bytes × (MAX_HEADER_SIZE < length bytes) × (fault ≡ TooLong))

not_both : (bytes : List ℕ) (n : ℕ) (request : RequestView) (both : Bool) (fault : HeadFault)
    → HeadAt bytes n request both → Cause bytes fault → ⊥
not_both bytes n request both fault x (inl r) =
    let e = CutsAt-unique MAX_HEADER_SIZE bytes r.0 n r.1 x.cuts in
    accepted_sound (take n bytes) request both fault x.accepted
    (subst (λ (k : ℕ). IsRefused (take k bytes) fault) e r.2)
not_both bytes n request both fault x (inr r) = cut_or_not MAX_HEADER_SIZE bytes n x.cuts r.0

-- an accepted head is not refused
pub HeadAt-not_refused : (bytes : List ℕ) (n : ℕ) (request : RequestView) (both : Bool)
    (fault : HeadFault) → HeadAt bytes n request both → RefusedAt bytes fault → ⊥
HeadAt-not_refused bytes n request both fault x y = not_both bytes n request both fault x y.cause

pub HeadAt-not_begun : (bytes : List ℕ) (n : ℕ) (request : RequestView) (both : Bool)
    → HeadAt bytes n request both → NotYetAt bytes → ⊥
HeadAt-not_begun bytes n request both x y = cut_or_not MAX_HEADER_SIZE bytes n x.cuts y.uncut

not_begun : (bytes : List ℕ) (fault : HeadFault) → NotYetAt bytes → Cause bytes fault → ⊥
not_begun bytes fault y (inl r) = cut_or_not MAX_HEADER_SIZE bytes r.0 r.1 y.uncut
not_begun bytes fault y (inr r) = let s = y.short in let l = r.1 in omega arith

pub RefusedAt-not_begun : (bytes : List ℕ) (fault : HeadFault) → RefusedAt bytes fault
    → NotYetAt bytes → ⊥
RefusedAt-not_begun bytes fault x y = not_begun bytes fault y x.cause

one_cause : (bytes : List ℕ) (one other : HeadFault) → Cause bytes one → Cause bytes other
    → one ≡ other
one_cause bytes one other (inl a) (inl b) =
    let e = CutsAt-unique MAX_HEADER_SIZE bytes a.0 b.0 a.1 b.1 in
    IsRefused-unique (take b.0 bytes) one other
    (subst (λ (k : ℕ). IsRefused (take k bytes) one) e a.2) b.2
one_cause bytes one other (inl a) (inr b) = absurd (cut_or_not MAX_HEADER_SIZE bytes a.0 a.1 b.0)
one_cause bytes one other (inr a) (inl b) = absurd (cut_or_not MAX_HEADER_SIZE bytes b.0 b.1 a.0)
one_cause bytes one other (inr a) (inr b) = a.2 ∙ sym b.2

-- a refusal has one fault
pub RefusedAt-unique : (bytes : List ℕ) (one other : HeadFault) → RefusedAt bytes one
    → RefusedAt bytes other → one ≡ other
RefusedAt-unique bytes one other x y = one_cause bytes one other x.cause y.cause

-- an accepted head stays
pub HeadAt-append : (bytes more : List ℕ) (n : ℕ) (request : RequestView) (both : Bool)
    → HeadAt bytes n request both → HeadAt (bytes ++ more) n request both
HeadAt-append bytes more n request both x = record {
  cuts = CutsAt-append MAX_HEADER_SIZE bytes more n x.cuts;
  accepted =
      subst (λ (head : List ℕ). IsAccepted head request both)
      (sym (CutsAt-front MAX_HEADER_SIZE bytes more n x.cuts)) x.accepted;
}

more_bytes : (bytes more : List ℕ) (limit : ℕ) → limit < length bytes
    → limit < length (bytes ++ more)
more_bytes bytes more limit h = omega (arith, length-append bytes more)

cause_stays : (bytes more : List ℕ) (fault : HeadFault) → Cause bytes fault
    → Cause (bytes ++ more) fault
cause_stays bytes more fault (inl r) =
    inl (
      r.0,
      CutsAt-append MAX_HEADER_SIZE bytes more r.0 r.1,
      subst (λ (head : List ℕ). IsRefused head fault)
          (sym (CutsAt-front MAX_HEADER_SIZE bytes more r.0 r.1)) r.2,
    )
cause_stays bytes more fault (inr r) =
    let long : MAX_HEADER_SIZE < length bytes = r.1 in
    inr (
      HasNoCut-append MAX_HEADER_SIZE bytes more (omega arith) r.0,
      more_bytes bytes more MAX_HEADER_SIZE r.1,
      r.2,
    )

-- a refusal stays
pub RefusedAt-append : (bytes more : List ℕ) (fault : HeadFault) → RefusedAt bytes fault
    → RefusedAt (bytes ++ more) fault
RefusedAt-append bytes more fault x = record { cause = cause_stays bytes more fault x.cause }

-- no front of an accepted head decides anything
pub HeadAt-fronts : (bytes : List ℕ) (n k : ℕ) (request : RequestView) (both : Bool)
    → HeadAt bytes n request both → k < n → NotYetAt (take k bytes)
HeadAt-fronts bytes n k request both x short =
    let limited : n ≤ MAX_HEADER_SIZE = x.cuts.limited in
    record {
      uncut = fronts_uncut MAX_HEADER_SIZE bytes n k x.cuts short;
      short = omega (arith, length-take-le k bytes);
    }

no_bytes : (more : List ℕ) → length more ≡ 0 → more ≡ []
no_bytes [] h = refl
no_bytes (b ∷ bytes) h = absurd (omega arith)

-- no accepted head is the front of another
pub HeadAt-prefix_free : (head more : List ℕ) (one other : RequestView) (b c : Bool)
    → HeadAt head (length head) one b → HeadAt (head ++ more) (length (head ++ more)) other c
    → more ≡ []
HeadAt-prefix_free head more one other b c x y =
    let same =
    CutsAt-unique MAX_HEADER_SIZE (head ++ more) (length head) (length (head ++ more))
    (CutsAt-append MAX_HEADER_SIZE head more (length head) x.cuts) y.cuts in
    no_bytes more (omega (arith, same, length-append head more))

-- a refusal needs a byte
refused_cause : (bytes : List ℕ) (fault : HeadFault) → Cause bytes fault → 0 < length bytes
refused_cause bytes fault (inl r) = let some = r.1.some in let within = r.1.within in omega arith
refused_cause bytes fault (inr r) = let long = r.1 in omega arith

pub RefusedAt-some : (bytes : List ℕ) (fault : HeadFault) → RefusedAt bytes fault → 0 < length bytes
RefusedAt-some bytes fault x = refused_cause bytes fault x.cause

-- in no bytes no head ends, and one may still end
pub not_yet_empty : (bytes : List ℕ) → true ≡ (length bytes == 0) → NotYetAt bytes
unfolding HasNoCut
not_yet_empty [] none = record { uncut = refl; short = omega arith }
not_yet_empty (b ∷ bytes) none = absurd (grind arith)
