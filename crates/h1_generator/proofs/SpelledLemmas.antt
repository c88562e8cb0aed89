-- What the spellings of the heads that are made say (RFC 9112, sections 3 and 5).
use Rattle.std.proofs.Common.{◌≡◌, ℕ, zero, suc, ◌+◌, ◌<◌, List, [], ◌∷◌, length, true, false, None, refl, sym, subst, codes, decimal, arith}
use Rattle.std.specs.List.{list_all}
use Rattle.std.proofs.lemmas.Fmt.{decimal_digit}
use Rattle.std.proofs.lemmas.List.Sums.{AllPass-from_list_all}
use Rattle.httparse.specs.Grammar.{is_token_byte, is_value_byte, trim_ows, crlf, Field, IsField, RequestHead}
use Rattle.h1_fields.specs.Names.{same_name}
use Rattle.h1_head.specs.Request.{new_request}
use Rattle.h1_head.specs.RequestFault.{first_fault, is_both, settled}
use Rattle.h1_head.specs.RequestGrammar.{request_of}
use Rattle.h1_head.specs.Views.{RequestView}
use Rattle.h1_fields.specs.Lines.{Line}
use Rattle.h1_body.specs.Framing.{framing}
use Rattle.h1_body.specs.declared.framing.Framing.{Framing}
use Rattle.h1_body.specs.declared.framing.Framing.TheVariants as as_framing
use Rattle.h1_head.specs.Wish.{wish}

-- the spelling of a request to `/` and these digits
abbrev pub spelled_as : List ℕ → List ℕ → List Field → RequestHead
spelled_as method ds fields = record {
  blank = [];
  method = method;
  target = 47 ∷ ds;
  minor = 1;
  line_end = crlf;
  fields = fields;
  last = crlf;
}

pub get_token : list_all is_token_byte (codes "GET") ≡ true
unfolding is_token_byte
get_token = refl

pub post_token : list_all is_token_byte (codes "POST") ≡ true
unfolding is_token_byte
post_token = refl

-- the field line that states a length, and the one that names the coding
abbrev pub length_field : List ℕ → Field
length_field text = record { name = codes "Content-Length"; raw = 32 ∷ text; end = crlf }

abbrev pub coding_field : Field
coding_field = record { name = codes "Transfer-Encoding"; raw = codes " chunked"; end = crlf }

-- a field line of these bytes is one
is_field : (name raw : List ℕ) → 0 < length name → list_all is_token_byte name ≡ true
    → list_all is_value_byte raw ≡ true → IsField (record { name = name; raw = raw; end = crlf })
is_field name raw some token value = record {
  name = (some, AllPass-from_list_all is_token_byte name token);
  raw = AllPass-from_list_all is_value_byte raw value;
}

pub coding_is_field : IsField coding_field
unfolding is_token_byte
coding_is_field = is_field (codes "Transfer-Encoding") (codes " chunked") (omega arith) refl refl

-- what a head says
abbrev head_with : List ℕ → List ℕ → List Line → RequestView
head_with method ds lines = record (new_request method (47 ∷ ds)) { fields = lines }

-- what is read of a head that is spelled so
pub record Says (spelled : RequestHead) (view : RequestView) (framed : Framing) : Type 0 where
  pub says : request_of spelled ≡ view
  pub settles : settled view ≡ view
  pub sound : first_fault view ≡ None
  pub single : is_both view ≡ false
  pub framed_so : framing view ≡ framed
  pub wished : wish view false ≡ true

pub plain_says : (ds : List ℕ)
    → Says (spelled_as (codes "GET") ds []) (head_with (codes "GET") ds []) (as_framing.Counted 0)
plain_says ds =
    record {
      says = refl;
      settles = refl;
      sound = refl;
      single = refl;
      framed_so = refl;
      wished = refl;
    }

pub chunked_says : (ds : List ℕ) → Says (spelled_as (codes "POST") ds (coding_field ∷ []))
    (head_with (codes "POST") ds
    ((codes "Transfer-Encoding", codes "chunked") ∷ [])) as_framing.Chunked
unfolding same_name trim_ows
chunked_says ds =
    record {
      says = refl;
      settles = refl;
      sound = refl;
      single = refl;
      framed_so = refl;
      wished = refl;
    }

-- the same of a length of one digit, and its field line is one
pub record Counts (ds : List ℕ) (size : ℕ) (text : List ℕ) : Type 0 where
  pub field : IsField (length_field text)
  pub read : Says (spelled_as (codes "POST") ds (length_field text ∷ []))
      (head_with (codes "POST") ds ((codes "Content-Length", text) ∷ [])) (as_framing.Counted size)

counts_digit : (ds : List ℕ) (size : ℕ) → size < 7 → Counts ds size ((48 + size) ∷ [])
unfolding same_name trim_ows is_token_byte
counts_digit ds zero few = record {
  field = is_field (codes "Content-Length") (32 ∷ 48 ∷ []) (omega arith) refl refl;
  read = record {
    says = refl;
    settles = refl;
    sound = refl;
    single = refl;
    framed_so = refl;
    wished = refl;
  };
}
counts_digit ds (suc zero) few = record {
  field = is_field (codes "Content-Length") (32 ∷ 49 ∷ []) (omega arith) refl refl;
  read = record {
    says = refl;
    settles = refl;
    sound = refl;
    single = refl;
    framed_so = refl;
    wished = refl;
  };
}
counts_digit ds (suc (suc zero)) few = record {
  field = is_field (codes "Content-Length") (32 ∷ 50 ∷ []) (omega arith) refl refl;
  read = record {
    says = refl;
    settles = refl;
    sound = refl;
    single = refl;
    framed_so = refl;
    wished = refl;
  };
}
counts_digit ds (suc (suc (suc zero))) few = record {
  field = is_field (codes "Content-Length") (32 ∷ 51 ∷ []) (omega arith) refl refl;
  read = record {
    says = refl;
    settles = refl;
    sound = refl;
    single = refl;
    framed_so = refl;
    wished = refl;
  };
}
counts_digit ds (suc (suc (suc (suc zero)))) few = record {
  field = is_field (codes "Content-Length") (32 ∷ 52 ∷ []) (omega arith) refl refl;
  read = record {
    says = refl;
    settles = refl;
    sound = refl;
    single = refl;
    framed_so = refl;
    wished = refl;
  };
}
counts_digit ds (suc (suc (suc (suc (suc zero))))) few = record {
  field = is_field (codes "Content-Length") (32 ∷ 53 ∷ []) (omega arith) refl refl;
  read = record {
    says = refl;
    settles = refl;
    sound = refl;
    single = refl;
    framed_so = refl;
    wished = refl;
  };
}
counts_digit ds (suc (suc (suc (suc (suc (suc zero)))))) few = record {
  field = is_field (codes "Content-Length") (32 ∷ 54 ∷ []) (omega arith) refl refl;
  read = record {
    says = refl;
    settles = refl;
    sound = refl;
    single = refl;
    framed_so = refl;
    wished = refl;
  };
}
counts_digit ds (suc (suc (suc (suc (suc (suc (suc n))))))) few = absurd (omega arith)

pub counted_says : (ds : List ℕ) (size : ℕ) → size < 7 → Counts ds size (decimal size)
counted_says ds size few =
    subst (Counts ds size) (sym (decimal_digit size (omega arith))) (counts_digit ds size few)
