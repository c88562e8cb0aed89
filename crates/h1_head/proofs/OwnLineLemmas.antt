-- The lines of a reply from one pass over the lines of its response.
use Rattle.std.proofs.Common.{◌≡◌, ℕ, Bool, true, false, List, [], ◌∷◌, ◌++◌, codes, refl, sym, ap, ◌∙◌, append_assoc, append-nil}
use Rattle.std.specs.Prelude.{if◌then◌else◌}
use Rattle.std.proofs.lemmas.Grind.{flat_map-append}
use Rattle.h1_head.specs.Wire.{keep_option}
use Rattle.h1_fields.specs.Names.{same_name}
use Rattle.h1_fields.specs.Lines.{Line, is_named, with_line, without, print_line, print_lines}

-- the line, unless it is written
abbrev pub once : Bool → Line → List Line
once written line = if written then [] else line ∷ []

-- what is left of the lines, where the new one is written or still to come
abbrev pub placed : List ℕ → List ℕ → Bool → List Line → List Line
placed name value true lines = without name lines
placed name value false lines = with_line name value lines

-- the same for Date and Connection
abbrev pub own_left : List ℕ → List ℕ → Bool → Bool → List Line → List Line
own_left date option dated connected lines =
    placed (codes "Connection") option connected (placed (codes "Date") date dated lines)

placed_named : (name value : List ℕ) (written : Bool) (line : Line) (lines : List Line)
    → is_named name line ≡ true
    → placed name value written (line ∷ lines)
    ≡ once written (name, value) ++ placed name value true lines
placed_named name value true line lines named = rw named refl
placed_named name value false line lines named = rw named refl

-- Date isn't Connection
date_passes : (date option : List ℕ) (written connected : Bool) (lines : List Line)
    → placed (codes "Connection") option connected (once written (codes "Date", date) ++ lines)
    ≡ once written (codes "Date", date) ++ placed (codes "Connection") option connected lines
unfolding same_name
date_passes date option true connected lines = refl
date_passes date option false true lines = refl
date_passes date option false false lines = refl

-- what is left from a Date line on
left_at_date : (date option : List ℕ) (dated connected : Bool) (line : Line) (lines : List Line)
    → is_named (codes "Date") line ≡ true
    → own_left date option dated connected (line ∷ lines)
    ≡ once dated (codes "Date", date) ++ own_left date option true connected lines
left_at_date date option dated connected line lines named =
    ap (λ rest. placed (codes "Connection") option connected rest)
    (placed_named (codes "Date") date dated line lines named)
    ∙ date_passes date option dated connected (placed (codes "Date") date true lines)

-- what is left behind the last line
left_at_end : (date option : List ℕ) (dated connected : Bool)
    → own_left date option dated connected []
    ≡ once dated (codes "Date", date) ++ once connected (codes "Connection", option)
unfolding same_name
left_at_end date option true true = refl
left_at_end date option true false = refl
left_at_end date option false true = refl
left_at_end date option false false = refl

-- lines before others are printed first
printed_first : (out : List ℕ) (first rest : List Line)
    → (out ++ print_lines first) ++ print_lines rest ≡ out ++ print_lines (first ++ rest)
printed_first out first rest =
    append_assoc out (print_lines first) (print_lines rest)
    ∙ ap (λ bytes. out ++ bytes) (sym (flat_map-append print_line first rest))

-- Date is printed at a line of its name
pub date_printed : (date option out printed all : List ℕ) (dated connected : Bool)
    (line : Line) (lines rest : List Line) → lines ≡ line ∷ rest
    → is_named (codes "Date") line ≡ true
    → printed ≡ out ++ print_lines (once dated (codes "Date", date))
    → out ++ print_lines (own_left date option dated connected lines) ≡ all
    → printed ++ print_lines (own_left date option true connected rest) ≡ all
date_printed date option out printed all dated connected line lines rest here named prints before =
    let own = once dated (codes "Date", date) in
    let left = own_left date option true connected rest in
    ap (λ bytes. bytes ++ print_lines left) prints
    ∙ printed_first out own left
    ∙ ap (λ l. out ++ print_lines l)
    (sym (left_at_date date option dated connected line rest named))
    ∙ ap (λ l. out ++ print_lines (own_left date option dated connected l)) (sym here)
    ∙ before

-- what is missing is printed behind the last line, and then the empty line
pub missing_printed : (date option out end printed all : List ℕ) (dated connected : Bool)
    (lines : List Line) → lines ≡ []
    → printed
    ≡ out
    ++ print_lines
    (once dated (codes "Date", date) ++ once connected (codes "Connection", option))
    ++ end
    → out ++ print_lines (own_left date option dated connected lines) ≡ all
    → printed ≡ all ++ end
missing_printed date option out end printed all dated connected lines none prints before =
    prints
    ∙ ap (λ l. out ++ print_lines l ++ end) (sym (left_at_end date option dated connected))
    ∙ ap (λ l. out ++ print_lines (own_left date option dated connected l) ++ end) (sym none)
    ∙ ap (λ bytes. bytes ++ end) before

-- two lines and an empty one, from the texts that they are printed in
two_printed : (out first colon value end second option : List ℕ)
    → out
    ++ (((first ++ colon) ++ value) ++ (((end ++ (second ++ colon)) ++ option) ++ (end ++ end)))
    ≡ (out
    ++ ((((first ++ colon) ++ value) ++ end)
    ++ ((((second ++ colon) ++ option) ++ end) ++ [])))
    ++ end
two_printed out first colon value end second option = simp (append_assoc, append-nil)

-- Date, Connection and an empty line, of a connection that is kept
pub kept_printed : (out printed date : List ℕ)
    → printed ≡ out ++ (codes "Date: " ++ date ++ codes "\r\nConnection: keep-alive\r\n\r\n")
    → printed
    ≡ out ++ print_lines ((codes "Date", date) ∷ (codes "Connection", keep_option true) ∷ [])
    ++ (13 ∷ 10 ∷ [])
kept_printed out printed date prints =
    prints
    ∙ two_printed out (codes "Date") (codes ": ") date (13 ∷ 10 ∷ []) (codes "Connection")
    (codes "keep-alive")
