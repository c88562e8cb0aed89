-- The words of the command line.
use Rattle.std.specs.Prelude.{ℕ, if◌then◌else◌, List, [], ◌∷◌, codes, Option, Some, None}
use Rattle.std.specs.Option.{option_copied}
use Rattle.std.specs.Str.{bytes_eq}
use Rattle.h1_words.specs.Number.{number_up_to}
use Rattle.h1_words.specs.declared.words.TheConstants.{LAST_PORT}
use Rattle.h1_fetch.specs.declared.words.TheConstants.{MOST_REQUESTS}
use Rattle.h1_fetch.specs.declared.words.Asked.{Asked}
use Rattle.h1_fetch.specs.declared.words.Task.{Task}
use Rattle.h1_fetch.specs.declared.words.Task.TheVariants as task

-- what is asked for: a port of this machine, a path, how often, and the body that is sent with it
pub record Ask : Type 0 where
  pub port : ℕ
  pub path : List ℕ
  pub count : ℕ
  pub body : Option (List ℕ)

pub data Job : Type 0 where
  script : Job
  get : Ask → Job

abbrev pub ask_of : Asked → Ask
ask_of asked = record {
  port = asked.port;
  path = asked.path.now;
  count = asked.count;
  body = option_copied asked.body;
}

abbrev pub job_of : Task → Job
job_of task.Script = script
job_of (task.Get asked) = get (ask_of asked)

abbrev pub get_at : Option ℕ → List ℕ → Option ℕ → Option (List ℕ) → Option Job
get_at None path count body = None
get_at (Some port) path None body = None
get_at (Some port) path (Some count) body =
    Some (get (record { port = port; path = path; count = count; body = body }))

-- get PORT PATH COUNT, with the digits of a port and of a count
abbrev pub get_job : List ℕ → List ℕ → List ℕ → Option (List ℕ) → Option Job
get_job port path count body =
    get_at (number_up_to LAST_PORT port) path (number_up_to MOST_REQUESTS count) body

-- the job of one word
abbrev pub script_job : List ℕ → Option Job
script_job word = if bytes_eq word (codes "script") then Some script else None

-- the job of more, of which the first names it
abbrev pub named_get_job : List ℕ → List ℕ → List ℕ → List ℕ → Option (List ℕ) → Option Job
named_get_job word port path count body =
    if bytes_eq word (codes "get") then get_job port path count body else None

-- script, or get PORT PATH COUNT, or get PORT PATH COUNT BODY
abbrev pub job_in : List (List ℕ) → Option Job
job_in [] = None
job_in (word ∷ []) = script_job word
job_in (word ∷ port ∷ []) = None
job_in (word ∷ port ∷ path ∷ []) = None
job_in (word ∷ port ∷ path ∷ count ∷ []) = named_get_job word port path count None
job_in (word ∷ port ∷ path ∷ count ∷ body ∷ []) =
    named_get_job word port path count (Some body)
job_in (word ∷ port ∷ path ∷ count ∷ body ∷ next ∷ more) = None
