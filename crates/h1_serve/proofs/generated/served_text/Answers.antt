use Rattle.std.proofs.Common.{ap, sym, ◌∙◌}
use Rattle.h1_link.specs.MemState.{MemState}
use Rattle.h1_serve.proofs.GeneratedLemmas.{tells_of}
use Rattle.h1_serve.proofs.generated.served_text.Goals as goal

pub returns : goal.returns
returns c =
    let told =
    ap (λ (l : MemState). l.state.written) (sym c.link.ensures) ∙ c.written.ensures in
    tells_of c.args.connection.now _ c.len.result c.payload_len.result c.in-Some.end
    c.written.result.now c.push.new.self c.transcript-transcript.ensures.entries c.len.ensures
    c.payload_len.ensures c.requires.few c.requires.small c.in-Some.ensures c.requires.end told
    (record {
      none = c.new-text.result;
      one = c.push_count.new.text;
      two = c.push_count-2.new.text;
      three = c.push_count-3.new.text;
      four = c.push_answer.new.self;
      none_is = c.new-text.ensures;
      one_is = c.in_ok-push_count.ensures;
      two_is = c.in_ok-push_count-2.ensures;
      three_is = c.in_ok-push_count-3.ensures;
      four_is = c.in_ok-push_answer.ensures.ok;
      text_is = c.in_ok-push.ensures.ok;
    })
