-- Where the lines of a kind stand.
use Rattle.std.proofs.Common.{eq-eqb, ◌≡◌, ◌≢◌, ℕ, ◌<◌, ◌+◌, ◌==◌, nat_lt, Bool, true, false, List, [], ◌∷◌, ◌++◌, take, length, get_or, map, refl, sym, ap, ◌∙◌, subst, codes, arith}
use Rattle.std.proofs.lemmas.Bool.{false≢true, false_from_ne_true}
use Rattle.std.proofs.lemmas.List.{take_all, append-nil, get_or-map, get_or_append_left, length-map, length-append}
use Rattle.std.proofs.Math.Seq.{get_or-append_seam}
use Rattle.h1_fields.specs.declared.kinds.Kind.{Kind}
use Rattle.h1_fields.specs.declared.kinds.Kind.TheVariants.{Connection, ContentLength, Host, TransferEncoding}
use Rattle.h1_fields.specs.declared.kinds.Kinds.{Kinds}
use Rattle.h1_fields.specs.declared.kinds.Place.{Place}
use Rattle.h1_fields.specs.declared.kinds.Place.TheVariants.{Nowhere, At, Anywhere}
use Rattle.h1_fields.specs.declared.held.TheConstants.{MAX_SHARED_LINES}
use Rattle.h1_fields.specs.declared.span.Span.{Span}
use Rattle.h1_fields.specs.Names.{same_name}
use Rattle.h1_fields.specs.Lines.{Line, is_named, values_of}
use Rattle.h1_fields.specs.Living.{living}
use Rattle.h1_fields.specs.Spans.{AllFit, IsPlaceOf, line_of, lines_of}
use Rattle.h1_fields.specs.Kinds.{AreKnown, ArePlaced, IsPlaced, name_of, place_of, place_with}
use Rattle.h1_fields.proofs.NameLemmas.{same_name_decides}
use Rattle.h1_fields.proofs.LivingLemmas.{living_all}
use Rattle.h1_fields.proofs.SpanLemmas.{lines_kept, fit_kept, fit_added, lines_added}

-- names of different lengths are different
pub other_length : (a b : List ℕ) → length a ≢ length b → same_name a b ≡ false
other_length a b apart =
    false_from_ne_true (same_name a b)
    (λ same. apart
    (sym (length-map a _) ∙ ap length ((same_name_decides a b).0 same) ∙ length-map b _))

-- a name of another length has no place among the lines of a kind
pub other_place : (a name : List ℕ) (place : Place) (n : ℕ) → length a ≢ length name
    → place ≡ place_with (same_name a name) place n
other_place a name place n apart = rw (other_length a name apart) refl

pub place_kept : (a name : List ℕ) (place : Place) (n l : ℕ) → length name ≡ l
    → (length a == l) ≡ false → place ≡ place_with (same_name a name) place n
place_kept a name place n l long apart =
    other_place a name place n (λ same. false≢true (sym apart ∙ eq-eqb (length a) l (same ∙ long)))

-- the case of a letter doesn't matter
pub length_in_lower_case : (name : List ℕ)
    → same_name (codes "content-length") name ≡ same_name (codes "Content-Length") name
unfolding same_name
length_in_lower_case name = refl

-- a line more is noted for each kind
pub noted : (old new : Kinds) (name : List ℕ) (n : ℕ)
    → new.connection ≡ place_with (same_name (codes "Connection") name) old.connection n
    → new.content_length ≡ place_with (same_name (codes "Content-Length") name) old.content_length n
    → new.host ≡ place_with (same_name (codes "Host") name) old.host n
    → new.transfer_encoding ≡ place_with (same_name (codes "Transfer-Encoding") name) old.transfer_encoding n
    → (kind : Kind)
    → place_of kind new ≡ place_with (same_name (name_of kind) name) (place_of kind old) n
noted old new name n connection length host coding Connection = connection
noted old new name n connection length host coding ContentLength = length
noted old new name n connection length host coding Host = host
noted old new name n connection length host coding TransferEncoding = coding

-- the values of lines, and those of one line more
pub values_more : (name : List ℕ) (lines : List Line) (line : Line)
    → values_of name (lines ++ line ∷ [])
    ≡ values_of name lines ++ values_of name (line ∷ [])
values_more name [] line = refl
values_more name (first ∷ lines) line =
    by_test (values_more name lines line) (is_named name first) refl
  where
    by_test : values_of name (lines ++ line ∷ []) ≡ values_of name lines ++ values_of name (line ∷ [])
        → (named : Bool) → is_named name first ≡ named
        → values_of name (first ∷ lines ++ line ∷ [])
        ≡ values_of name (first ∷ lines) ++ values_of name (line ∷ [])
    by_test more true named = rw named (ap (λ values. first.1 ∷ values) more)
    by_test more false named = rw named more

-- what a place says holds of the lines with one more, where the place is noted
placed_more : (name : List ℕ) (lines : List Line) (line : Line) (place : Place)
    → IsPlaced name lines place
    → IsPlaced name (lines ++ line ∷ []) (place_with (same_name name line.0) place (length lines))
placed_more name lines line place is = by_test (same_name name line.0) refl place is
  where
    stays : same_name name line.0 ≡ false
        → values_of name (lines ++ line ∷ []) ≡ values_of name lines
    stays other =
        values_more name lines line
        ∙ ap (λ values. values_of name lines ++ values) (rw other refl)
        ∙ append-nil (values_of name lines)

    comes : same_name name line.0 ≡ true
        → values_of name (lines ++ line ∷ []) ≡ values_of name lines ++ line.1 ∷ []
    comes named =
        values_more name lines line ∙ ap (λ values. values_of name lines ++ values) (rw named refl)

    new_place : same_name name line.0 ≡ true → values_of name lines ≡ [] → (few : Bool)
        → nat_lt (length lines) MAX_SHARED_LINES ≡ few
        → IsPlaced name (lines ++ line ∷ []) (place_with true Nowhere (length lines))
    new_place named none true few =
        rw few (
          omega (arith, length-append lines (line ∷ [])),
          comes named ∙ ap (λ values. values ++ line.1 ∷ []) none
              ∙ ap (λ last. last.1 ∷ []) (sym (get_or-append_seam lines line [] ([], []))),
        )
    new_place named none false few = rw few tt

    by_test : (named : Bool) → same_name name line.0 ≡ named → (place : Place)
        → IsPlaced name lines place
        → IsPlaced name (lines ++ line ∷ []) (place_with named place (length lines))
    by_test false other Nowhere is = stays other ∙ is
    by_test false other (At n) is = (
      omega (arith, is.0, length-append lines (line ∷ [])),
      stays other ∙ is.1
          ∙ ap (λ there. there.1 ∷ []) (sym (get_or_append_left lines (line ∷ []) ([], []) n is.0)),
    )
    by_test false other Anywhere is = tt
    by_test true named Nowhere is = new_place named is (nat_lt (length lines) MAX_SHARED_LINES) refl
    by_test true named (At n) is = tt
    by_test true named Anywhere is = tt

-- the kinds of the lines with one more, which was noted at their end
places_more : (old new : Kinds) (lines after : List Line) (name value : List ℕ) (n : ℕ)
    → ((kind : Kind) → place_of kind new ≡ place_with (same_name (name_of kind) name) (place_of kind old) n)
    → n ≡ length lines → after ≡ lines ++ (name, value) ∷ [] → ArePlaced lines old → ArePlaced after new
places_more old new lines after name value n noted at is placed =
    λ kind.
    rw (is, noted kind, at)
    (placed_more (name_of kind) lines (name, value) (place_of kind old) (placed kind))

-- the one value of a name stands in the line of that place
pub one_there : (name text : List ℕ) (spans : List Span) (nothing : Span) (gone n : ℕ) → gone ≡ 0
    → IsPlaced name (lines_of text spans) (At n)
    → values_of name (living gone (lines_of text spans))
    ≡ (line_of text (get_or spans n nothing)).1 ∷ []
one_there name text spans nothing gone n all is =
    ap (λ gone. values_of name (living gone (lines_of text spans))) all
    ∙ ap (values_of name) (living_all (lines_of text spans))
    ∙ is.1
    ∙ ap (λ line. line.1 ∷ [])
    (get_or-map (line_of text) spans n nothing ([], [])
    (omega (arith, is.0, length-map spans (line_of text))))

-- lines stay known where their text grows
pub known_kept : (old new : List ℕ) (spans : List Span) (kinds : Kinds)
    → take (length old) new ≡ old → AreKnown old spans kinds → AreKnown new spans kinds
known_kept old new spans kinds kept known = (
  fit_kept old new spans kept known.0,
  subst (λ lines. ArePlaced lines kinds) (sym (lines_kept old new spans kept known.0)) known.1,
)

-- a line was written behind the old text, and noted behind the old lines
pub known_added : (old new name value : List ℕ) (spans after : List Span) (span : Span)
    (kinds more : Kinds) (n : ℕ) → take (length old) new ≡ old → AreKnown old spans kinds
    → IsPlaceOf new name value span → after ≡ spans ++ span ∷ []
    → ((kind : Kind) → place_of kind more ≡ place_with (same_name (name_of kind) name) (place_of kind kinds) n)
    → n ≡ length spans
    → AreKnown new after more
known_added old new name value spans after span kinds more n kept known place added noted at = (
  fit_added old new name value spans after span kept known.0 place added,
  places_more kinds more (lines_of old spans) (lines_of new after) name value n noted
      (at ∙ sym (length-map spans _))
      (lines_added old new name value spans after span kept known.0 place added)
      known.1,
)

-- a line that lies in the text is added
pub known_found : (text name value : List ℕ) (spans after : List Span) (span : Span)
    (kinds more : Kinds) (n : ℕ) → AreKnown text spans kinds → IsPlaceOf text name value span
    → after ≡ spans ++ span ∷ []
    → ((kind : Kind) → place_of kind more ≡ place_with (same_name (name_of kind) name) (place_of kind kinds) n)
    → n ≡ length spans
    → AreKnown text after more
known_found text name value spans after span kinds more n known place added noted at =
    known_added text text name value spans after span kinds more n (take_all _ text (omega arith))
    known place added noted at

-- lines that moved are to be searched
pub known_moved : (text : List ℕ) (spans : List Span) (kinds : Kinds)
    → ((kind : Kind) → place_of kind kinds ≡ Anywhere) → AllFit text spans
    → AreKnown text spans kinds
known_moved text spans kinds moved fit = (fit, λ kind. rw (moved kind) tt)
