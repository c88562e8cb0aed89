-- The replies of the echo application are lawful (RFC 9112, sections 6.2 and 6.3).
use Rattle.std.specs.Prelude.{◌≡◌, ◌<◌, ◌+◌, ◌^◌, ◌⊎◌, ℕ, List, [], ◌∷◌, length, Bool, true, false, Option, Some, None, refl, codes, decimal, bytes_eq, if◌then◌else◌}
use Rattle.std.proofs.Common.{sym, ap, subst, arith, inl, inr}
use Rattle.std.proofs.lemmas.Fmt.{decimal_digit}
use Rattle.httparse.specs.Grammar.{trim_ows}
use Rattle.h1_echo.specs.Words.{Error, RequestView, ResponseView, new_response, Reply, IsLawful}
use Rattle.h1_fields.specs.Names.{same_name}
use Rattle.h1_fields.specs.Lines.{has_line}
use Rattle.h1_fields.specs.Codings.{is_chunked_last}
use Rattle.h1_transcript.specs.Lawful.{IsUnframed, IsCounted, IsChunked, LawfulReplies}
use Rattle.h1_echo.specs.Echo.{EchoGives, echo_reply, echo_body, echo_fields, refused_reply}
use Rattle.h1_application.specs.LengthLine.{counted}

chunked_line : is_chunked_last ((codes "transfer-encoding", codes "chunked") ∷ []) ≡ true
unfolding same_name trim_ows
chunked_line = refl

no_length_beside : has_line (codes "Content-Length")
    ((codes "transfer-encoding", codes "chunked") ∷ []) ≡ false
unfolding same_name
no_length_beside = refl

-- each way to frame the reply
framed : (target : List ℕ) (n : ℕ) (header : ResponseView)
    → header ≡ record (new_response 200) { fields = echo_fields target n } → n < 2 ^ 63
    → IsUnframed header ⊎ IsCounted header ⊎ IsChunked header
framed target n header is small =
    by_target (bytes_eq target (codes "/until")) (bytes_eq target (codes "/chunk"))
    (bytes_eq target (codes "/short")) is
  where
    by_target : (until chunk short : Bool)
        → header ≡ record (new_response 200) {
          fields = if until then [] else if chunk then
              (codes "transfer-encoding", codes "chunked") ∷ [] else if short then
              (codes "content-length", decimal (n + 1)) ∷ [] else
              (codes "content-length", decimal n) ∷ [];
        }
        → IsUnframed header ⊎ IsCounted header ⊎ IsChunked header
    by_target true chunk short is = inl (record { no_length = rw is refl; no_coding = rw is refl })
    by_target false true short is =
        inr (inr (record {
          chunked = rw (is, chunked_line) refl;
          version = rw is refl;
          alone = rw (is, no_length_beside) refl;
        }))
    by_target false false true is =
        inr (inl (counted header (n + 1) (ap (λ (h : ResponseView). h.fields) is) (omega arith)))
    by_target false false false is =
        inr (inl (counted header n (ap (λ (h : ResponseView). h.fields) is) (omega arith)))

lawful_reply : (head : RequestView) (handed : List ℕ) (error : Option Error)
    → length (echo_reply head handed error).body < 2 ^ 63
    → IsLawful (echo_reply head handed error).header
lawful_reply head handed None small = record {
  final = omega arith;
  status = omega arith;
  version = refl;
  framing = framed head.target (length (echo_body head handed)) _ refl small;
}
lawful_reply head handed (Some error) small = record {
  final = omega arith;
  status = omega arith;
  version = refl;
  framing =
      inr (inl (counted refused_reply.header 0
      (ap (λ (value : List ℕ). (codes "content-length", value) ∷ [])
      (sym (decimal_digit 0 (omega arith)))) (omega arith)));
}

pub echo_lawful : LawfulReplies EchoGives
echo_lawful given reply gives =
    let small = subst (λ (r : Reply). length r.body < 2 ^ 63) gives.is gives.small in
    subst (λ (r : Reply). IsLawful r.header) (sym gives.is)
    (lawful_reply given.head given.handed given.body_error small)
