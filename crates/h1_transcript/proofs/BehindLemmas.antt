-- What stands after the exchanges that ended goes on as more is read, written and flushed.
use Rattle.std.proofs.Common.{◌≡◌, ℕ, ◌+◌, ◌≤◌, inl, inr, List, [], ◌∷◌, ◌++◌, length, take, drop, Option, Some, None, sym, ◌∙◌, ap, subst, append_assoc, append-nil, length-take, arith}
use Rattle.std.proofs.lemmas.Bool.{cases_lt}
use Rattle.std.proofs.lemmas.List.{drop-append-le}
use Rattle.std.specs.Io.KnownBytes.{append_known}
use Rattle.h1_transcript.specs.Words.{LinkState, whole, unfinished, broken, GrowsTo, framing, body, Framing, Counted, Chunked, UntilClose, Entry}
use Rattle.h1_head.proofs.RequestHeadLemmas.{HeadAt-append}
use Rattle.h1_body.proofs.CountedLemmas.{counted_has, counted_lacks}
use Rattle.h1_body.proofs.LawLemmas.{bodies_grow, only_bodies}
use Rattle.h1_transcript.proofs.Words.{ReadBehind, AfterRead, IfTold}
use Rattle.h1_transcript.specs.Behind.{WroteBehind, AfterWrote, DoneBehind, FlushedBy}
use Rattle.h1_transcript.specs.Exchange.{render}

-- a whole body lies within the bytes that made it
pub whole_within : (f : Framing) (bytes payload : List ℕ) (k : ℕ) → body f bytes ≡ whole payload k
    → k ≤ length bytes
whole_within (Counted n) bytes payload k is = elim (cases_lt (length bytes) n) [
  | inl lacks ↦
      let clash : unfinished bytes ≡ whole payload k = sym (counted_lacks n bytes lacks) ∙ is in absurd cc
  | inr has ↦
      let told : whole (take n bytes) n ≡ whole payload k = sym (counted_has n bytes has) ∙ is in
      let same : n ≡ k = cc in omega (arith, same, has)
]
whole_within Chunked bytes payload k is =
    let read = only_bodies bytes payload k is in
    let front : length (take k bytes) ≡ k = ap length read.2 ∙ sym read.3 in
    omega (arith, front, length-take k bytes)
whole_within UntilClose bytes payload k is =
    let clash : unfinished bytes ≡ whole payload k = is in absurd cc

-- and stays so with more bytes after them
pub whole_stays : (f : Framing) (bytes more payload : List ℕ) (k : ℕ)
    → body f bytes ≡ whole payload k → body f (bytes ++ more) ≡ whole payload k
whole_stays f bytes more payload k is =
    let grown : GrowsTo (whole payload k) (body f (bytes ++ more)) =
    subst (λ b. GrowsTo b (body f (bytes ++ more))) is (bodies_grow f bytes more) in
    grown

-- as a broken one does
pub broken_stays : (f : Framing) (bytes more payload : List ℕ) → body f bytes ≡ broken payload
    → body f (bytes ++ more) ≡ broken payload
broken_stays f bytes more payload is =
    let grown : GrowsTo (broken payload) (body f (bytes ++ more)) =
    subst (λ b. GrowsTo b (body f (bytes ++ more))) is (bodies_grow f bytes more) in
    grown

-- bytes that are given join the rest
pub read_more : (done : List Entry) (since rest more : List ℕ) → ReadBehind since done rest
    → ReadBehind (since ++ more) done (rest ++ more)
read_more [] since rest more h = ap (λ xs. xs ++ more) h
read_more (e ∷ later) since rest more h =
    let front : drop h.0 (since ++ more) ≡ drop h.0 since ++ more = drop-append-le h.0 since more h.1.cuts.within in
    let within : h.2 ≤ length (drop h.0 since) = whole_within (framing e.head) (drop h.0 since) e.body h.2 h.3 in
    let behind : drop h.2 (drop h.0 (since ++ more)) ≡ drop h.2 (drop h.0 since) ++ more =
    ap (drop h.2) front ∙ drop-append-le h.2 (drop h.0 since) more within in (
      h.0,
      HeadAt-append since more h.0 e.head e.both h.1,
      h.2,
      ap (body (framing e.head)) front ∙ whole_stays (framing e.head) (drop h.0 since) more e.body h.2 h.3,
      h.4,
      h.5,
      subst (λ xs. ReadBehind xs later (rest ++ more)) (sym behind)
          (read_more later (drop h.2 (drop h.0 since)) rest more h.6),
    )

-- bytes that are written join the rest
pub wrote_more : (done : List Entry) (since rest more : List ℕ) → WroteBehind since done rest
    → WroteBehind (since ++ more) done (rest ++ more)
wrote_more [] since rest more h = ap (λ xs. xs ++ more) h
wrote_more (e ∷ later) since rest more h =
    (h.0 ++ more, ap (λ xs. xs ++ more) h.1 ∙ append_assoc (render e) h.0 more, h.2, wrote_more later h.0 rest more h.3)

-- told bytes go on with more after them
pub told_on : (before now later : Option (List ℕ)) (more : List ℕ) (P Q : List ℕ → Type 0)
    → later ≡ append_known now more
    → ((since : List ℕ) → P since → Q (since ++ more)) → IfTold before now P → IfTold before later Q
told_on before now later more P Q e step h =
    subst (λ x. IfTold before x Q) (sym e) (on before now h)
  where
    on : (before now : Option (List ℕ)) → IfTold before now P
        → IfTold before (append_known now more) Q
    on None now h = tt
    on (Some b) None h = tt
    on (Some b) (Some g) h = (h.0 ++ more, ap (λ xs. xs ++ more) h.1 ∙ append_assoc b h.0 more, step h.0 h.2)

-- what is told of the same bytes
pub told_map : (before now : Option (List ℕ)) (P Q : List ℕ → Type 0)
    → ((since : List ℕ) → P since → Q since) → IfTold before now P → IfTold before now Q
told_map None now P Q step h = tt
told_map (Some b) None P Q step h = tt
told_map (Some b) (Some g) P Q step h = (h.0, h.1, step h.0 h.2)

-- what is told goes on after the exchanges that ended
pub read_on : (done : List Entry) (before now later : Option (List ℕ)) (more : List ℕ)
    (P Q : List ℕ → Type 0) → later ≡ append_known now more
    → ((rest : List ℕ) → P rest → Q (rest ++ more)) → IfTold before now (AfterRead done P)
    → IfTold before later (AfterRead done Q)
read_on done before now later more P Q e step h =
    told_on before now later more (AfterRead done P) (AfterRead done Q) e
    (λ since p. (p.0 ++ more, read_more done since p.0 more p.1, step p.0 p.2)) h

pub wrote_on : (done : List Entry) (before now later : Option (List ℕ)) (more : List ℕ)
    (P Q : List ℕ → Type 0) → later ≡ append_known now more
    → ((rest : List ℕ) → P rest → Q (rest ++ more)) → IfTold before now (AfterWrote done P)
    → IfTold before later (AfterWrote done Q)
wrote_on done before now later more P Q e step h =
    told_on before now later more (AfterWrote done P) (AfterWrote done Q) e
    (λ since p. (p.0 ++ more, wrote_more done since p.0 more p.1, step p.0 p.2)) h

pub read_map : (done : List Entry) (before now : Option (List ℕ)) (P Q : List ℕ → Type 0)
    → ((rest : List ℕ) → P rest → Q rest) → IfTold before now (AfterRead done P)
    → IfTold before now (AfterRead done Q)
read_map done before now P Q step h =
    told_map before now (AfterRead done P) (AfterRead done Q) (λ since p. (p.0, p.1, step p.0 p.2)) h

-- nothing more is told
pub read_same : (done : List Entry) (before now later : Option (List ℕ)) (P Q : List ℕ → Type 0)
    → later ≡ append_known now []
    → ((rest : List ℕ) → P rest → Q rest) → IfTold before now (AfterRead done P)
    → IfTold before later (AfterRead done Q)
read_same done before now later P Q e step h =
    read_on done before now later [] P Q e (λ rest p. subst Q (sym (append-nil rest)) (step rest p)) h

pub wrote_same : (done : List Entry) (before now later : Option (List ℕ)) (P Q : List ℕ → Type 0)
    → later ≡ append_known now []
    → ((rest : List ℕ) → P rest → Q rest) → IfTold before now (AfterWrote done P)
    → IfTold before later (AfterWrote done Q)
wrote_same done before now later P Q e step h =
    wrote_on done before now later [] P Q e (λ rest p. subst Q (sym (append-nil rest)) (step rest p)) h

-- the exchanges that ended stay flushed
pub flushed_on : (before now later : LinkState) (total : ℕ) (done : List Entry)
    → now.flushed ≤ later.flushed
    → DoneBehind (FlushedBy before now) total done → DoneBehind (FlushedBy before later) total done
flushed_on before now later total [] le h = tt
flushed_on before now later total (e ∷ more) le h = (
  record {
    sent_head = h.0.sent_head;
    sent_body = h.0.sent_body;
    flushed_so = omega (arith, h.0.flushed_so, le);
    long = h.0.long;
    keep = h.0.keep;
    closes = h.0.closes;
  },
  flushed_on before now later (total + e.written) more le h.1,
)
