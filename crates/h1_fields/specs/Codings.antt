-- Transfer codings (RFC 9112, section 6.1), and the options of Connection (RFC 9110, section
-- 7.6.1).
use Rattle.std.specs.Prelude.{◌≡◌, ℕ, Bool, true, false, List, [], ◌∷◌, ◌++◌, codes}
use Rattle.h1_fields.specs.Names.{same_name}
use Rattle.h1_fields.specs.Lines.{Line, has_line}
use Rattle.h1_fields.specs.ListParts.{parts_of, lists_named}

-- a list may have empty parts, which mean nothing
abbrev pub without_empty : List (List ℕ) → List (List ℕ)
without_empty [] = []
without_empty ([] ∷ parts) = without_empty parts
without_empty ((b ∷ bytes) ∷ parts) = (b ∷ bytes) ∷ without_empty parts

-- the transfer codings in the order in which they were applied
abbrev pub codings : List Line → List (List ℕ)
codings lines = without_empty (parts_of (codes "Transfer-Encoding") lines)

-- whether the last of these is `chunked`, where `found` says the same of those before
abbrev pub ends_chunked : Bool → List (List ℕ) → Bool
ends_chunked found [] = found
ends_chunked found (coding ∷ more) = ends_chunked (same_name (codes "chunked") coding) more

-- the last coding is `chunked`
abbrev pub is_chunked_last : List Line → Bool
is_chunked_last lines = ends_chunked false (codings lines)

-- a coding is stated, perhaps by an empty value
abbrev pub has_coding_line : List Line → Bool
has_coding_line lines = has_line (codes "Transfer-Encoding") lines

-- the connection is to be closed after this message
abbrev pub lists_close : List Line → Bool
lists_close lines = lists_named (codes "Connection") (codes "close") lines

-- the connection is to be kept
abbrev pub lists_keep_alive : List Line → Bool
lists_keep_alive lines = lists_named (codes "Connection") (codes "keep-alive") lines

-- the same in other words: some codings, and `chunked` after them
pub record EndsInChunked (codings : List (List ℕ)) : Type 0 where
  pub before : List (List ℕ)
  pub last : List ℕ
  pub are : codings ≡ before ++ last ∷ []
  pub chunked : same_name (codes "chunked") last ≡ true
