-- Reading the responses as tasks: their parts, one behind another (RFC 9112, sections 4 and 6).
use Rattle.std.specs.Prelude.{◌≡◌, ℕ, Bool, true, false, ◌&&◌, List, Option, Some, None, is_some, Result, Ok, Err}
use Rattle.h1_head.specs.declared.task.HttpTask.{HttpTask}
use Rattle.h1_head.specs.declared.task.HttpTask.TheVariants.{Header, Body, UpgradedBody, Done}
use Rattle.h1_client.specs.Words.{Poll, Pending, Ready, Error, ResponseView, LinkState}
use Rattle.h1_client.specs.Calls.{HeadCopy}
use Rattle.h1_client.specs.ClientView.{ClientView, response_of}
use Rattle.h1_client.specs.ReadingBody.{PartCall}
use Rattle.h1_client.specs.Reusing.{is_body_done}
use Rattle.h1_client.specs.Upgrading.{was_upgraded}

-- the head that was read last is the final one, and nothing follows it
abbrev pub ends_with_head : {L : Type 0} → ClientView L → Bool
ends_with_head s = is_some (response_of s) && is_body_done s

-- the answer of a read of a head as a task, where nothing follows the head, or something does
abbrev pub head_task : Bool → Poll (Result ResponseView Error) → Poll (Result HttpTask Error)
head_task done (Ready (Ok head)) = Ready (Ok (Header head done))
head_task done (Ready (Err error)) = Ready (Err error)
head_task done Pending = Pending

-- payload as a task, which another protocol may have sent
abbrev pub payload_task : Bool → Bool → List ℕ → HttpTask
payload_task true done piece = UpgradedBody (Some piece) done
payload_task false done piece = Body (Some piece) done

-- the answer of a read of the body as a task
abbrev pub body_task : Bool → Bool → Poll (Result (Option (List ℕ)) Error)
    → Poll (Result HttpTask Error)
body_task upgraded done (Ready (Ok (Some piece))) =
    Ready (Ok (payload_task upgraded done piece))
body_task upgraded done (Ready (Ok None)) = Ready (Ok Done)
body_task upgraded done (Ready (Err error)) = Ready (Err error)
body_task upgraded done Pending = Pending

-- one call that reads a head, and tells it as a task
pub record HeadTaskCall {L : Type 0} (state : L → LinkState) (same_plan : L → L → Type 0) (now : ℕ)
    (old new : ClientView L) (outcome : Poll (Result HttpTask Error)) : Type 0 where
  pub told : Poll (Result ResponseView Error)
  pub copy : HeadCopy state same_plan now old new told
  pub answer : outcome ≡ head_task (ends_with_head new) told

-- one call that reads a part of the body, and tells it as a task
pub record BodyTaskCall {L : Type 0} (state : L → LinkState) (same_plan : L → L → Type 0) (now : ℕ)
    (old new : ClientView L) (outcome : Poll (Result HttpTask Error)) : Type 0 where
  pub told : Poll (Result (Option (List ℕ)) Error)
  pub part : PartCall state same_plan now old new told
  pub answer : outcome ≡ body_task (was_upgraded new) (is_body_done new) told

-- One call that reads the next part: a head until the final one was read, and its body behind it.
abbrev pub TaskCall : {L : Type 0} → (L → LinkState) → (L → L → Type 0) → ℕ → ClientView L
    → ClientView L → Poll (Result HttpTask Error) → Option ResponseView → Type 0
TaskCall state same_plan now old new outcome None =
    HeadTaskCall state same_plan now old new outcome
TaskCall state same_plan now old new outcome (Some said) =
    BodyTaskCall state same_plan now old new outcome
