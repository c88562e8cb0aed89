-- Handing a link on to the next request.
use Rattle.std.proofs.Common.{◌≡◌, ℕ, Bool, true, Option, Some, None, Result, IfNone, is_none, not, ◌&&◌, refl}
use Rattle.std.proofs.lemmas.Bool.{and_parts, false≢true}
use Rattle.h1_server.specs.Words.{Poll, Error, LinkState, TransferView}
use Rattle.h1_transfer.specs.TransferView.{itself}
use Rattle.h1_transfer.specs.Payload as payloads
use Rattle.h1_server.proofs.HoldsLemmas.{drains_in}
use Rattle.h1_server.proofs.Words.{SessionView, session}
use Rattle.h1_server.specs.Reuse.{ReusesBy, ReuseAnswer}
use Rattle.h1_server.specs.Times.{drain_limits}
use Rattle.h1_server.specs.Persistence.{grants, has_reuses, is_replied, keeps_alive, may_go_on, stays_open}

fourth : (a b c d e : Bool) → (a && b && c && d && e) ≡ true → d ≡ true
fourth a b c d e h = (and_parts (a && b && c) d (and_parts (a && b && c && d) e h).0).1

no_refusal : (refused : Option Error) (P : Type 0) → is_none refused ≡ true → IfNone refused P → P
no_refusal None P none h = h
no_refusal (Some error) P none h = absurd (false≢true none)

-- a link that is kept is drained first, and the mark is set after that
pub reuse_drained : {L C : Type 0} (state : L → LinkState) (now : ℕ) (old : SessionView L C) (new : TransferView L)
    (kept : Bool)
    (outcome : Poll (Result (Unit {0}) Error)) (result : Poll (Result Bool Error)) → may_go_on old ≡ true
    → IfNone old.body.refused
    (payloads.DrainsBody state itself (drain_limits old.settings.times now) (session.transfer old) new outcome)
    → ReuseAnswer (record (session.put old new) { reusable = kept }) outcome result
    → ReusesBy state now old (record (session.put old new) { reusable = kept }) result (may_go_on old)
reuse_drained state now old new kept outcome result alive drains answer =
    let on = (and_parts (keeps_alive old) (is_replied old.reply) alive).0 in
    let clean = fourth (not old.settings.keep_off) (has_reuses old.settings.reuses) (grants old.request)
    (is_none old.body.refused) (stays_open old.keep old.reply) on in
    let drained = no_refusal old.body.refused _ clean (drains_in state old new now outcome drains) in
    rw alive (session.put old new, outcome, drained, refl, answer)
