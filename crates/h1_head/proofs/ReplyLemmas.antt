-- The lines of a reply beside Date and Connection.
use Rattle.std.proofs.Common.{◌≡◌, ℕ, Bool, false, List, [], ◌∷◌, codes, refl, ◌∙◌}
use Rattle.h1_fields.specs.Names.{same_name}
use Rattle.h1_fields.specs.Lines.{values_of, with_line}
use Rattle.h1_fields.proofs.LineLemmas.{values-with_line, values-with_line_other}
use Rattle.h1_head.specs.Views.{ResponseView}
use Rattle.h1_head.specs.Wire.{reply_head, keep_option}

pub reply_date : (view : ResponseView) (date : List ℕ) (keep : Bool)
    → values_of (codes "Date") (reply_head view date keep).fields ≡ date ∷ []
unfolding same_name
reply_date view date keep =
    values-with_line_other (codes "Connection") (keep_option keep) (codes "Date")
    (with_line (codes "Date") date view.fields) refl
    ∙ values-with_line (codes "Date") date view.fields

pub reply_connection : (view : ResponseView) (date : List ℕ) (keep : Bool)
    → values_of (codes "Connection") (reply_head view date keep).fields ≡ keep_option keep ∷ []
reply_connection view date keep =
    values-with_line (codes "Connection") (keep_option keep)
    (with_line (codes "Date") date view.fields)

-- other names keep their values
pub reply_values : (view : ResponseView) (date : List ℕ) (keep : Bool) (name : List ℕ)
    → same_name (codes "Date") name ≡ false → same_name (codes "Connection") name ≡ false
    → values_of name (reply_head view date keep).fields ≡ values_of name view.fields
reply_values view date keep name no_date no_connection =
    values-with_line_other (codes "Connection") (keep_option keep) name
    (with_line (codes "Date") date view.fields) no_connection
    ∙ values-with_line_other (codes "Date") date name view.fields no_date

pub reply_lengths : (view : ResponseView) (date : List ℕ) (keep : Bool)
    → values_of (codes "Content-Length") (reply_head view date keep).fields
    ≡ values_of (codes "Content-Length") view.fields
unfolding same_name
reply_lengths view date keep = reply_values view date keep (codes "Content-Length") refl refl

pub reply_codings : (view : ResponseView) (date : List ℕ) (keep : Bool)
    → values_of (codes "Transfer-Encoding") (reply_head view date keep).fields
    ≡ values_of (codes "Transfer-Encoding") view.fields
unfolding same_name
reply_codings view date keep = reply_values view date keep (codes "Transfer-Encoding") refl refl
