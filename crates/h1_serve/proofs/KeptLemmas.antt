-- Lemmas on the exchanges of a script's connection, which keeps them.
use Rattle.std.proofs.Common.{◌≡◌, Bool, false, ℕ, ◌+◌, ◌≤◌, List, [], ◌∷◌, length, drop, refl, sym, ap, subst, ◌∙◌}
use Rattle.std.proofs.lemmas.List.Elements.{All-from_recursion}
use Rattle.std.specs.List.{All, AllByRecursion}
use Rattle.h1_transcript.specs.Begun.{AreBegun, Terms}
use Rattle.h1_transcript.specs.Entry.{Entry}
use Rattle.h1_transcript.specs.declared.history.History.TheVariants.{Kept}
use Rattle.h1_transcript.specs.declared.history.Holding.{Holding}
use Rattle.h1_words.specs.declared.command.Command.{Command}
use Rattle.h1_words.specs.declared.command.Command.TheVariants as command
use Rattle.h1_app.specs.View.{entries}
use Rattle.h1_serve.specs.declared.scripted.Scripted.{Scripted}
use Rattle.h1_serve.specs.State.{State, start_with, transcript, state_of}
use Rattle.h1_serve.specs.Report.{Obeys, Lines, limit_in, modules_in}
use Rattle.h1_serve.proofs.LineLemmas.{Goes, lines_last}

-- each of these exchanges is kept
abbrev AreKept : List Entry → Type 0
AreKept exchanges = AllByRecursion (λ e. e.holding.history ≡ Kept) exchanges

-- the connection keeps its exchanges
record Keeps (s : State) : Type 0 where
  pub terms : s.terms.holding.history ≡ Kept
  pub all : AreKept (transcript s)

begun_kept : (terms : Terms) (i : ℕ) (pipelining : Bool) (exchanges : List Entry)
    → terms.holding.history ≡ Kept → AreBegun terms i pipelining exchanges → AreKept exchanges
begun_kept terms i pipelining [] kept begun = tt
begun_kept terms i pipelining (e ∷ more) kept begun =
    (ap (λ (h : Holding). h.history) begun.0.holding ∙ kept, begun_kept terms (i + 1) e.left.pipelining more kept begun.1)

-- where the exchanges stay
keeps_still : (s t next : State) → t ≡ next → next.terms ≡ s.terms → transcript next ≡ transcript s
    → Keeps s → Keeps t
keeps_still s t next is terms same keeps = subst Keeps (sym is) (record {
  terms = ap (λ (x : Terms). x.holding.history) terms ∙ keeps.terms;
  all = subst AreKept (sym same) keeps.all;
})

keeps_once : (s : State) (c : Command) (text : List ℕ) (t : State) → Obeys s c text t → Keeps s
    → Keeps t
keeps_once s (command.Give bytes) text t h keeps = keeps_still s t _ h.1 refl refl keeps
keeps_once s command.End text t h keeps = keeps_still s t _ h.1 refl refl keeps
keeps_once s (command.Room count) text t h keeps = keeps_still s t _ h.1 refl refl keeps
keeps_once s command.Block text t h keeps = keeps_still s t _ h.1 refl refl keeps
keeps_once s command.FaultRead text t h keeps = keeps_still s t _ h.1 refl refl keeps
keeps_once s command.FaultWrite text t h keeps = keeps_still s t _ h.1 refl refl keeps
keeps_once s command.Shutdown text t h keeps = keeps_still s t _ h.1 refl refl keeps
keeps_once s (command.Limit count) text t h keeps = keeps_still s t _ h.1 refl refl keeps
keeps_once s (command.Mark number) text t h keeps = keeps_still s t _ h.1 refl refl keeps
keeps_once s (command.Refuse number) text t h keeps = keeps_still s t _ h.1 refl refl keeps
keeps_once s (command.Poll moment) text t h keeps =
    let terms = ap (λ (x : Terms). x.holding.history) h.2.terms ∙ keeps.terms in
    record { terms = terms; all = begun_kept t.terms 0 false (transcript t) terms h.2.agrees.begun }

keeps_lines : (s : State) (asked : List Command) (text : List ℕ) (t : State) → Lines s asked text t
    → Keeps s → Keeps t
keeps_lines s [] text t h keeps = subst Keeps (sym h.1) keeps
keeps_lines s (c ∷ more) text t h keeps =
    keeps_lines h.1 more h.2 t h.5 (keeps_once s c h.0 h.1 h.4 keeps)

keeps_last : (all : List Command) (scripted : Scripted) (n : ℕ) (text : List ℕ)
    → Goes all (drop n all) scripted text → length all ≤ n → Keeps (state_of scripted)
keeps_last all scripted n text goes past =
    keeps_lines (start_with (limit_in all) (modules_in all)) all text (state_of scripted)
    (lines_last all scripted n text goes past) (record { terms = refl; all = tt })

-- so it does after the last command
pub history_last : (all : List Command) (scripted : Scripted) (n : ℕ) (text : List ℕ)
    → Goes all (drop n all) scripted text → length all ≤ n
    → scripted.connection.terms.holding.history ≡ Kept
history_last all scripted n text goes past = (keeps_last all scripted n text goes past).terms

-- and each exchange is kept
pub kept_last : (all : List Command) (scripted : Scripted) (n : ℕ) (text : List ℕ)
    (exchanges : List Entry)
    → Goes all (drop n all) scripted text → length all ≤ n
    → exchanges ≡ entries scripted.connection → All (λ e. e.holding.history ≡ Kept) exchanges
kept_last all scripted n text exchanges goes past is =
    All-from_recursion _ exchanges
    (subst AreKept (sym is) (keeps_last all scripted n text goes past).all)
