-- The answer for a stream's first head is one, and it stays.
use Rattle.std.proofs.Common.{◌≡◌, ℕ, ◌<◌, ◌≤◌, ◌⊎◌, Some, None, List, [], ◌++◌, length, take, sym, ◌∙◌, ap, subst, inl, inr, arith, length-append}
use Rattle.std.proofs.lemmas.List.{length-take-le}
use Rattle.httparse.proofs.GrammarLemmas.{response_unique}
use Rattle.h1_cut.specs.Limit.{CutsAt, HasNoCut}
use Rattle.h1_cut.proofs.LimitLemmas.{CutsAt-unique, CutsAt-append, CutsAt-front, HasNoCut-append, cut_or_not, fronts_uncut}
use Rattle.h1_error.specs.declared.head_fault.HeadFault.{HeadFault}
use Rattle.h1_error.specs.declared.head_fault.HeadFault.TheVariants.{TooLong}
use Rattle.h1_head.specs.declared.limits.TheConstants.{MAX_HEADER_SIZE}
use Rattle.h1_head.specs.Faults.{status_fault}
use Rattle.h1_head.specs.RequestHead.{NotYetAt}
use Rattle.h1_head.specs.Views.{ResponseView}
use Rattle.h1_head.specs.Normal.{normal}
use Rattle.h1_head.specs.Settled.{settled}
use Rattle.h1_head.specs.ResponseGrammar.{IsHead, response_of}
use Rattle.h1_head.specs.ResponseHead.{IsAccepted, IsRefused, RefusedAt, ResponseAt}

-- bytes say one thing
pub IsHead-unique : (bytes : List ℕ) (one other : ResponseView) → IsHead bytes one
    → IsHead bytes other → one ≡ other
IsHead-unique bytes one other a b =
    let same = response_unique bytes a.0 b.0 [] [] a.1.reads b.1.reads in
    sym a.2 ∙ ap response_of same.0 ∙ b.2

pub IsAccepted-unique : (head : List ℕ) (one other : ResponseView) → IsAccepted head one
    → IsAccepted head other → one ≡ other
IsAccepted-unique head one other x y =
    x.response_is ∙ ap settled (IsHead-unique (normal head) x.said y.said x.says y.says)
    ∙ sym y.response_is

-- an accepted head has no fault
accepted_sound : (head : List ℕ) (response : ResponseView) (fault : HeadFault)
    → IsAccepted head response → IsRefused head fault → ⊥
accepted_sound head response fault x (inl none) = none.0 x.says.0 x.says.1
accepted_sound head response fault x (inr y) =
    let e = IsHead-unique (normal head) x.said y.said x.says y.says in
    let n : None ≡ Some fault =
    sym x.sound ∙ ap (λ (r : ResponseView). status_fault r.status) e ∙ y.faulty in
    cc

pub IsRefused-unique : (head : List ℕ) (one other : HeadFault) → IsRefused head one
    → IsRefused head other → one ≡ other
IsRefused-unique head one other (inl a) (inl b) = a.1 ∙ sym b.1
IsRefused-unique head one other (inl a) (inr y) = absurd (a.0 y.says.0 y.says.1)
IsRefused-unique head one other (inr x) (inl b) = absurd (b.0 x.says.0 x.says.1)
IsRefused-unique head one other (inr x) (inr y) =
    let e = IsHead-unique (normal head) x.said y.said x.says y.says in
    let n : Some one ≡ Some other =
    sym x.faulty ∙ ap (λ (r : ResponseView). status_fault r.status) e ∙ y.faulty in
    cc

-- the response and its length are determined by the bytes
pub ResponseAt-unique : (bytes : List ℕ) (m n : ℕ) (one other : ResponseView)
    → ResponseAt bytes m one → ResponseAt bytes n other → (m ≡ n) × (one ≡ other)
ResponseAt-unique bytes m n one other x y =
    let e = CutsAt-unique MAX_HEADER_SIZE bytes m n x.cuts y.cuts in (
      e,
      IsAccepted-unique (take n bytes) one other
          (subst (λ (k : ℕ). IsAccepted (take k bytes) one) e x.accepted) y.accepted,
    )

-- why bytes are refused
abbrev Cause : List ℕ → HeadFault → Type 0
Cause bytes fault =
    ((n : ℕ) × CutsAt MAX_HEADER_SIZE bytes n × IsRefused (take n bytes) fault)
    ⊎ (HasNoCut MAX_HEADER_SIZE bytes × (MAX_HEADER_SIZE < length bytes) × (fault ≡ TooLong))

not_both : (bytes : List ℕ) (n : ℕ) (response : ResponseView) (fault : HeadFault)
    → ResponseAt bytes n response → Cause bytes fault → ⊥
not_both bytes n response fault x (inl r) =
    let e = CutsAt-unique MAX_HEADER_SIZE bytes r.0 n r.1 x.cuts in
    accepted_sound (take n bytes) response fault x.accepted
    (subst (λ (k : ℕ). IsRefused (take k bytes) fault) e r.2)
not_both bytes n response fault x (inr r) = cut_or_not MAX_HEADER_SIZE bytes n x.cuts r.0

-- an accepted head is not refused
pub ResponseAt-not_refused : (bytes : List ℕ) (n : ℕ) (response : ResponseView)
    (fault : HeadFault) → ResponseAt bytes n response → RefusedAt bytes fault → ⊥
ResponseAt-not_refused bytes n response fault x y = not_both bytes n response fault x y.cause

pub ResponseAt-not_begun : (bytes : List ℕ) (n : ℕ) (response : ResponseView)
    → ResponseAt bytes n response → NotYetAt bytes → ⊥
ResponseAt-not_begun bytes n response x y = cut_or_not MAX_HEADER_SIZE bytes n x.cuts y.uncut

not_begun : (bytes : List ℕ) (fault : HeadFault) → NotYetAt bytes → Cause bytes fault → ⊥
not_begun bytes fault y (inl r) = cut_or_not MAX_HEADER_SIZE bytes r.0 r.1 y.uncut
not_begun bytes fault y (inr r) = let s = y.short in let l = r.1 in omega arith

pub RefusedAt-not_begun : (bytes : List ℕ) (fault : HeadFault) → RefusedAt bytes fault
    → NotYetAt bytes → ⊥
RefusedAt-not_begun bytes fault x y = not_begun bytes fault y x.cause

one_cause : (bytes : List ℕ) (one other : HeadFault) → Cause bytes one → Cause bytes other
    → one ≡ other
one_cause bytes one other (inl a) (inl b) =
    let e = CutsAt-unique MAX_HEADER_SIZE bytes a.0 b.0 a.1 b.1 in
    IsRefused-unique (take b.0 bytes) one other
    (subst (λ (k : ℕ). IsRefused (take k bytes) one) e a.2) b.2
one_cause bytes one other (inl a) (inr b) = absurd (cut_or_not MAX_HEADER_SIZE bytes a.0 a.1 b.0)
one_cause bytes one other (inr a) (inl b) = absurd (cut_or_not MAX_HEADER_SIZE bytes b.0 b.1 a.0)
one_cause bytes one other (inr a) (inr b) = a.2 ∙ sym b.2

-- a refusal has one fault
pub RefusedAt-unique : (bytes : List ℕ) (one other : HeadFault) → RefusedAt bytes one
    → RefusedAt bytes other → one ≡ other
RefusedAt-unique bytes one other x y = one_cause bytes one other x.cause y.cause

-- an accepted head stays
pub ResponseAt-append : (bytes more : List ℕ) (n : ℕ) (response : ResponseView)
    → ResponseAt bytes n response → ResponseAt (bytes ++ more) n response
ResponseAt-append bytes more n response x = record {
  cuts = CutsAt-append MAX_HEADER_SIZE bytes more n x.cuts;
  accepted =
      subst (λ (head : List ℕ). IsAccepted head response)
      (sym (CutsAt-front MAX_HEADER_SIZE bytes more n x.cuts)) x.accepted;
}

more_bytes : (bytes more : List ℕ) (limit : ℕ) → limit < length bytes
    → limit < length (bytes ++ more)
more_bytes bytes more limit h = omega (arith, length-append bytes more)

cause_stays : (bytes more : List ℕ) (fault : HeadFault) → Cause bytes fault
    → Cause (bytes ++ more) fault
cause_stays bytes more fault (inl r) =
    inl (
      r.0,
      CutsAt-append MAX_HEADER_SIZE bytes more r.0 r.1,
      subst (λ (head : List ℕ). IsRefused head fault)
          (sym (CutsAt-front MAX_HEADER_SIZE bytes more r.0 r.1)) r.2,
    )
cause_stays bytes more fault (inr r) =
    let long : MAX_HEADER_SIZE < length bytes = r.1 in
    inr (
      HasNoCut-append MAX_HEADER_SIZE bytes more (omega arith) r.0,
      more_bytes bytes more MAX_HEADER_SIZE r.1,
      r.2,
    )

-- a refusal stays
pub RefusedAt-append : (bytes more : List ℕ) (fault : HeadFault) → RefusedAt bytes fault
    → RefusedAt (bytes ++ more) fault
RefusedAt-append bytes more fault x = record { cause = cause_stays bytes more fault x.cause }

-- no front of an accepted head decides anything
pub ResponseAt-fronts : (bytes : List ℕ) (n k : ℕ) (response : ResponseView)
    → ResponseAt bytes n response → k < n → NotYetAt (take k bytes)
ResponseAt-fronts bytes n k response x short =
    let limited : n ≤ MAX_HEADER_SIZE = x.cuts.limited in
    record {
      uncut = fronts_uncut MAX_HEADER_SIZE bytes n k x.cuts short;
      short = omega (arith, length-take-le k bytes);
    }
