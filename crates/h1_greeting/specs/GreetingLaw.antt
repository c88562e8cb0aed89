-- The greeting is a lawful reply (RFC 9112, section 6.2).
use Rattle.std.specs.Prelude.{◌≡◌, ℕ, List, [], ◌∷◌, true, false, codes, refl}
use Rattle.std.proofs.Common.{inl, inr, sym, subst, arith}
use Rattle.std.proofs.lemmas.Fmt.{decimal_digit}
use Rattle.h1_fields.specs.Names.{same_name}
use Rattle.h1_fields.specs.ContentLength.{content_length}
use Rattle.h1_fields.specs.declared.content_length.ContentLength.TheVariants.{Number}
use Rattle.h1_transcript.specs.declared.reply.Reply.{Reply}
use Rattle.h1_transcript.specs.Lawful.{IsLawful, IsCounted, LawfulReplies}
use Rattle.h1_application.specs.LengthLine.{length_line}
use Rattle.h1_greeting.specs.Greeting.{Greeting, greeting}

length_name : same_name (codes "Content-Length") (codes "content-length") ≡ true
unfolding same_name
length_name = refl

coding_name : same_name (codes "Transfer-Encoding") (codes "content-length") ≡ false
unfolding same_name
coding_name = refl

-- the length of the greeting is stated once, as a number
counted : IsCounted greeting.header
counted = record {
  value = codes "6";
  number = 6;
  one = rw length_name refl;
  reads = subst
      (λ (value : List ℕ). content_length ((codes "content-length", value) ∷ []) ≡ Number 6)
      (decimal_digit 6 (omega arith)) (length_line 6 (omega arith));
  alone = rw coding_name refl;
}

pub greeting_lawful : LawfulReplies Greeting
greeting_lawful given reply gives =
    subst (λ (r : Reply). IsLawful r.header) (sym gives.is) (record {
      final = omega arith;
      status = omega arith;
      version = refl;
      framing = inr (inl counted);
    })
