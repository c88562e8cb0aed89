-- What the places of a parsed head say is what the bytes are.
use Rattle.std.proofs.Common.{◌≡◌, ◌<◌, ◌-◌, ℕ, List, [], length, drop, ap, ◌∙◌, arith}
use Rattle.std.proofs.lemmas.List.{length-drop}
use Rattle.httparse.proofs.GrammarLemmas.{request_unique}
use Rattle.httparse.specs.declared.spans.HeaderSpan.{HeaderSpan}
use Rattle.httparse.specs.declared.spans.RequestSpans.{RequestSpans}
use Rattle.httparse.specs.Spans.{IsRequestOf}
use Rattle.h1_head.specs.RequestGrammar.{HasNoHead}

-- bytes behind a head are no part of it
pub longer_head : (bytes : List ℕ) (spans : List HeaderSpan) (head : RequestSpans)
    → IsRequestOf bytes spans head → head.len < length bytes → HasNoHead bytes
longer_head bytes spans head parsed more spelled whole =
    let same =
    request_unique bytes spelled parsed.0 [] (drop head.len bytes) whole.reads parsed.1.reads in
    let none : 0 ≡ length bytes - head.len = ap length same.1 ∙ length-drop head.len bytes in
    omega arith
