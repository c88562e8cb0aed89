use Rattle.std.proofs.Common.{codes, refl, sym, ap, ◌∙◌}
use Rattle.h1_fields.specs.Kinds.{place_with}
use Rattle.h1_fields.proofs.KindLemmas.{noted, other_place, place_kept}
use Rattle.h1_fields.proofs.kinds.Kinds.note.Goals as goal

pub returns-then-len-eq4 : goal.returns-then-len-eq4
returns-then-len-eq4 c =
    let long = c.if-len-eq4.true in
    noted c.args.self.now _ c.args.name.now c.args.at
    (place_kept (codes "Connection") _ _ _ 4 long refl)
    (place_kept (codes "Content-Length") _ _ _ 4 long refl)
    (c.with-self.ensures
    ∙ ap (λ named. place_with named c.args.self.now.host c.args.at) c.is_same_name.ensures)
    (place_kept (codes "Transfer-Encoding") _ _ _ 4 long refl)

pub returns-then-len-eq10 : goal.returns-then-len-eq10
returns-then-len-eq10 c =
    let long = c.if-len-eq10.true in
    noted c.args.self.now _ c.args.name.now c.args.at
    (c.with-self-then-len-eq10.ensures
    ∙ ap (λ named. place_with named c.args.self.now.connection c.args.at)
    c.is_same_name-then-len-eq10.ensures)
    (place_kept (codes "Content-Length") _ _ _ 10 long refl)
    (place_kept (codes "Host") _ _ _ 10 long refl)
    (place_kept (codes "Transfer-Encoding") _ _ _ 10 long refl)

pub returns-then-len-eq14 : goal.returns-then-len-eq14
returns-then-len-eq14 c =
    let long = c.if-len-eq14.true in
    noted c.args.self.now _ c.args.name.now c.args.at
    (place_kept (codes "Connection") _ _ _ 14 long refl)
    (c.with-self-then-len-eq14.ensures
    ∙ ap (λ named. place_with named c.args.self.now.content_length c.args.at)
    c.is_content_length-named.ensures)
    (place_kept (codes "Host") _ _ _ 14 long refl)
    (place_kept (codes "Transfer-Encoding") _ _ _ 14 long refl)

pub returns-then-len-eq17 : goal.returns-then-len-eq17
returns-then-len-eq17 c =
    let long = c.if-len-eq17.true in
    noted c.args.self.now _ c.args.name.now c.args.at
    (place_kept (codes "Connection") _ _ _ 17 long refl)
    (place_kept (codes "Content-Length") _ _ _ 17 long refl)
    (place_kept (codes "Host") _ _ _ 17 long refl)
    (c.with-self-then-len-eq17.ensures
    ∙ ap (λ named. place_with named c.args.self.now.transfer_encoding c.args.at)
    c.is_same_name-named.ensures)

pub returns-else-len-eq17 : goal.returns-else-len-eq17
returns-else-len-eq17 c =
    noted c.args.self.now _ c.args.name.now c.args.at
    (other_place (codes "Connection") _ _ _ (λ same. c.if-len-eq10.false (sym same)))
    (other_place (codes "Content-Length") _ _ _ (λ same. c.if-len-eq14.false (sym same)))
    (other_place (codes "Host") _ _ _ (λ same. c.if-len-eq4.false (sym same)))
    (other_place (codes "Transfer-Encoding") _ _ _ (λ same. c.if-len-eq17.false (sym same)))
