-- The greeting can be made, and each reply of a transcript that agrees is the greeting.
use Rattle.std.proofs.Common.{◌≡◌, List, [], ◌∷◌, codes, Option, Some, None, IfSome, Result, Ok, Err, IfOk, IfErr, refl, subst, true}
use Rattle.std.specs.List.{All, AllByRecursion}
use Rattle.std.proofs.lemmas.List.Elements.{All-from_recursion}
use Rattle.h1_error.specs.declared.error.Error.{Error}
use Rattle.h1_error.specs.Memory.{no_memory}
use Rattle.h1_transcript.specs.declared.reply.Reply.{Reply}
use Rattle.h1_transcript.specs.Entry.{Entry}
use Rattle.futures.specs.declared.task.Poll.TheVariants.{Ready}
use Rattle.h1_head.specs.Views.{RequestView}
use Rattle.h1_server.specs.SessionView.{SessionView}
use Rattle.h1_server.specs.declared.settings.Settings.{Settings}
use Rattle.h1_application.specs.Application.{GivesReply, given_by, payload_of}
use Rattle.h1_transcript.specs.Exchange.{IsAllowed}
use Rattle.h1_transcript.specs.Rules.{plain}
use Rattle.h1_greeting.specs.Greeting.{Greeting, greeting}

-- each reply of these exchanges is the greeting
pub all_greeted : (entries : List Entry) → AllByRecursion (IsAllowed (plain Greeting)) entries
    → All (λ e. IfSome e.reply (λ reply. reply ≡ greeting)) entries
all_greeted entries allowed = All-from_recursion _ entries (each entries allowed)
  where
    of_reply : (reply : Option Reply) (P : Reply → Type 0) → ((r : Reply) → P r → r ≡ greeting)
        → IfSome reply P → IfSome reply (λ r. r ≡ greeting)
    of_reply None P is h = tt
    of_reply (Some r) P is h = is r h

    each : (entries : List Entry) → AllByRecursion (IsAllowed (plain Greeting)) entries
        → AllByRecursion (λ e. IfSome e.reply (λ reply. reply ≡ greeting)) entries
    each [] h = tt
    each (e ∷ more) h = (of_reply e.reply _ (λ r gives. gives.2.is) h.0.reply, each more h.1)

-- a job greets, or there is no memory
pub greets : {L C : Type 0} (old new : SessionView L C) (head : RequestView) (began : Settings)
    (result : Result Reply Error)
    → new ≡ record old { settings = record old.settings { pipelining = true } }
    → (old.settings ≡ began) × (payload_of old ≡ [])
    → IfOk result (λ reply. reply ≡ greeting) → IfErr result (λ error. error ≡ no_memory)
    → GivesReply Greeting (given_by head began new) (λ error. error ≡ no_memory) (Ready result)
greets old new head began (Ok reply) set runs is memory = record {
  is = is;
  handed = rw set runs.1;
  left = rw (set, runs.0) refl;
}
greets old new head began (Err error) set runs is memory = memory
