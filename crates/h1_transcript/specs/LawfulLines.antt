-- A line that frames no body may stand behind those of a lawful reply (RFC 9112, section 6).
use Rattle.std.specs.Prelude.{◌≡◌, ◌⊎◌, ℕ, List, [], ◌∷◌, ◌++◌, false, refl, codes}
use Rattle.std.proofs.Common.{inl, inr, ap, ◌∙◌, append-nil}
use Rattle.h1_fields.specs.Names.{same_name}
use Rattle.h1_fields.specs.Lines.{Line, has_line, values_of}
use Rattle.h1_fields.specs.ListParts.{list_parts}
use Rattle.h1_fields.specs.Codings.{without_empty, ends_chunked}
use Rattle.h1_fields.specs.ContentLength.{agreed}
use Rattle.h1_fields.specs.declared.content_length.ContentLength.TheVariants.{Absent}
use Rattle.h1_fields.proofs.KindLemmas.{values_more}
use Rattle.h1_fields.proofs.LineLemmas.{has_line_same}
use Rattle.h1_transcript.specs.Words.{ResponseView}
use Rattle.h1_transcript.specs.Lawful.{IsLawful, IsUnframed, IsCounted, IsChunked}

-- a line of this name frames no body
pub record FramesNothing (name : List ℕ) : Type 0 where
  pub no_length : same_name (codes "Content-Length") name ≡ false
  pub no_coding : same_name (codes "Transfer-Encoding") name ≡ false

-- a line of another name adds no value, and is none of the name
values_behind : (name : List ℕ) (lines : List Line) (line : Line) → same_name name line.0 ≡ false
    → values_of name (lines ++ line ∷ []) ≡ values_of name lines
values_behind name lines line other =
    let none : values_of name (line ∷ []) ≡ [] = rw other refl in
    values_more name lines line ∙ ap (λ values. values_of name lines ++ values) none
    ∙ append-nil (values_of name lines)

has_line_behind : (name : List ℕ) (lines : List Line) (line : Line)
    → same_name name line.0 ≡ false → has_line name (lines ++ line ∷ []) ≡ has_line name lines
has_line_behind name lines line other =
    has_line_same name (lines ++ line ∷ []) lines (values_behind name lines line other)

abbrev behind : ResponseView → Line → ResponseView
behind header line = record header { fields = header.fields ++ line ∷ [] }

-- each way to frame a body stays
framed : (header : ResponseView) (line : Line) → FramesNothing line.0
    → IsUnframed header ⊎ IsCounted header ⊎ IsChunked header
    → IsUnframed (behind header line) ⊎ IsCounted (behind header line)
    ⊎ IsChunked (behind header line)
framed header line nothing (inl is) =
    inl (record {
      no_length = has_line_behind (codes "Content-Length") header.fields line nothing.no_length
          ∙ is.no_length;
      no_coding = has_line_behind (codes "Transfer-Encoding") header.fields line nothing.no_coding
          ∙ is.no_coding;
    })
framed header line nothing (inr (inl is)) =
    let same = values_behind (codes "Content-Length") header.fields line nothing.no_length in
    inr (inl (record {
      value = is.value;
      number = is.number;
      one = same ∙ is.one;
      reads = ap (λ (values : List (List ℕ)). agreed Absent (list_parts values)) same ∙ is.reads;
      alone = has_line_behind (codes "Transfer-Encoding") header.fields line nothing.no_coding
          ∙ is.alone;
    }))
framed header line nothing (inr (inr is)) =
    let same = values_behind (codes "Transfer-Encoding") header.fields line nothing.no_coding in
    inr (inr (record {
      chunked = ap (λ (values : List (List ℕ)). ends_chunked false
          (without_empty (list_parts values))) same
          ∙ is.chunked;
      version = is.version;
      alone = has_line_behind (codes "Content-Length") header.fields line nothing.no_length
          ∙ is.alone;
    }))

-- a lawful reply with such a line behind the others is lawful
pub lawful_behind : (header : ResponseView) (line : Line) → FramesNothing line.0 → IsLawful header
    → IsLawful (record header { fields = header.fields ++ line ∷ [] })
lawful_behind header line nothing lawful = record {
  final = lawful.final;
  status = lawful.status;
  version = lawful.version;
  framing = framed header line nothing lawful.framing;
}
