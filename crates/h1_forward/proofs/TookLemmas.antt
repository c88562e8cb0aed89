-- What a client's link took of what was owed and taken up.
use Rattle.std.proofs.Common.{◌≡◌, ℕ, Option, Some, None, List, [], ◌++◌, refl, sym, ap, ◌∙◌, append_assoc, append-nil}
use Rattle.std.specs.Io.KnownBytes.{append_known}
use Rattle.h1_body.specs.Writer.{WriterView}
use Rattle.h1_link.specs.LinkState.{LinkState}
use Rattle.h1_transfer.specs.Moved.{Sent}
use Rattle.h1_transfer.specs.declared.outgoing.Outgoing.{Outgoing}
use Rattle.h1_client.specs.ClientView.{ClientView, call_begun}
use Rattle.h1_forward.specs.Runs.{Rests}

abbrev pub owed_of : {L : Type 0} → ClientView L → List ℕ
owed_of s = s.transfer.outgoing.owed

abbrev pub writer_of : {L : Type 0} → ClientView L → WriterView
writer_of s = s.transfer.outgoing.writer

-- The link took a front of what was owed and what was taken up, and the rest is owed.
pub record Took {L : Type 0} (state : L → LinkState) (s t : ClientView L) (taking : List ℕ)
    : Type 0 where
  pub piece : List ℕ
  pub wrote : (state t.transfer.link).written
      ≡ append_known (state s.transfer.link).written piece
  pub bytes : owed_of s ++ taking ≡ piece ++ owed_of t

known_on : (known : Option (List ℕ)) (a b : List ℕ)
    → append_known (append_known known a) b ≡ append_known known (a ++ b)
known_on None a b = refl
known_on (Some bytes) a b = ap Some (append_assoc bytes a b)

pub known_none : (known : Option (List ℕ)) → append_known known [] ≡ known
known_none None = refl
known_none (Some bytes) = ap Some (append-nil bytes)

pub took_on : {L : Type 0} (state : L → LinkState) (s t u : ClientView L) (first second : List ℕ)
    → Took state s t first → Took state t u second → Took state s u (first ++ second)
took_on state s t u first second a b = record {
  piece = a.piece ++ b.piece;
  wrote = b.wrote ∙ ap (λ known. append_known known b.piece) a.wrote
      ∙ known_on (state s.transfer.link).written a.piece b.piece;
  bytes = sym (append_assoc (owed_of s) first second)
      ∙ ap (λ xs. xs ++ second) a.bytes
      ∙ append_assoc a.piece (owed_of t) second
      ∙ ap (λ xs. a.piece ++ xs) b.bytes
      ∙ sym (append_assoc a.piece b.piece (owed_of u));
}

pub took_none : {L : Type 0} (state : L → LinkState) (s : ClientView L) → Took state s s []
took_none state s = record {
  piece = [];
  wrote = sym (known_none (state s.transfer.link).written);
  bytes = append-nil (owed_of s);
}

pub took_sent : {L : Type 0} (state : L → LinkState) (s t : ClientView L) (taking : List ℕ)
    (budget left : ℕ)
    → Sent (state s.transfer.link) (state t.transfer.link) (owed_of s ++ taking) (owed_of t) budget
    left → Took state s t taking
took_sent state s t taking budget left sent = record {
  piece = sent.piece;
  wrote = sent.moved.written;
  bytes = sent.bytes;
}

-- each call begins with link calls of its own
pub took_begun : {L : Type 0} (state : L → LinkState) (s t : ClientView L) (taking : List ℕ)
    → Took state (call_begun s) t taking → Took state s t taking
took_begun state s t taking took =
    record { piece = took.piece; wrote = took.wrote; bytes = took.bytes }

-- what comes between two steps writes nothing
pub took_still : {L : Type 0} (state : L → LinkState) (s t u : ClientView L) (taking : List ℕ)
    → Rests state t u → Took state s t taking → Took state s u taking
took_still state s t u taking rests took = record {
  piece = took.piece;
  wrote = rests.written ∙ took.wrote;
  bytes = took.bytes ∙ ap (λ (out : Outgoing). took.piece ++ out.owed) (sym rests.outgoing);
}
