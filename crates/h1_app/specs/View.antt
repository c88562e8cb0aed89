-- What contracts see of a connection.
use Rattle.std.specs.Prelude.{◌≡◌, ℕ, ◌^◌, ◌-◌, List, [], ◌++◌, Bool, true, option_to_list, Option, Some, None}
use Rattle.h1_server.specs.Keepalive.{new_settings}
use Rattle.h1_app.specs.Words.{End, SessionView, Entry, Exchange, History, Holding, Kept, Stage, Terms}
use Rattle.h1_app.specs.Work.{Work, reads_head, work_at}
use Rattle.h1_app.specs.declared.options.HttpServerOptions.{HttpServerOptions}

-- an application with the builders of its modules
pub record Served (A B : Type 0) : Type 0 where
  pub app : A
  pub builders : List B

abbrev pub served_by : {A B : Type 0} → A → List B → Served A B
served_by app builders = record { app = app; builders = builders }

-- `A` is what is served: the application with its modules
pub record View (L C A J : Type 0) : Type 0 where
  pub session : SessionView L C
  pub served : A
  -- what it is made with
  pub terms : Terms
  -- every exchange but the last
  pub done : List Entry
  pub last : Option Entry
  pub stage : Stage J
  pub end : Option End

-- the transcript
abbrev pub entries : {L C A J : Type 0} → View L C A J → List Entry
entries view = view.done ++ option_to_list view.last

-- the view of a connection with this exchange
abbrev pub view_of : {L C A J : Type 0} → A → Terms → Exchange L J C → Option End → View L C A J
view_of served terms x end =
    record {
      session = x.session;
      served = served;
      terms = terms;
      done = x.transcript.done;
      last = x.transcript.last;
      stage = x.stage;
      end = end;
    }

-- how many requests a connection of a server serves at most
abbrev pub limit_of : Option HttpServerOptions → Option ℕ
limit_of None = None
limit_of (Some options) = options.keepalive_request_limit

-- whether a server's connections keep their exchanges
abbrev pub history_of : Option HttpServerOptions → History
history_of None = Kept
history_of (Some options) = options.history

-- how many bytes of a request's body a server gathers at most
abbrev pub gather_limit_of : Option HttpServerOptions → Option ℕ
gather_limit_of None = None
gather_limit_of (Some options) = options.gather_limit

-- how much payload a request may have: 2 ^ 64 - 1 bytes where it isn't gathered or no limit is set
abbrev pub payload_limit : Bool → Option ℕ → ℕ
payload_limit true (Some limit) = limit
payload_limit _ _ = 2 ^ 64 - 1

-- what a connection of a server holds, whose application gathers the whole of a body or doesn't
abbrev pub holding_of : Option HttpServerOptions → Bool → Holding
holding_of options gathers = record {
  history = history_of options;
  gathers = gathers;
  limit = payload_limit gathers (gather_limit_of options);
}

-- the same where no limit is set
abbrev pub unlimited : History → Bool → Holding
unlimited history gathers =
    record { history = history; gathers = gathers; limit = payload_limit gathers None }

-- what a connection of a server is made with
abbrev pub terms_of : Option HttpServerOptions → Bool → Terms
terms_of options gathers =
    record { limit = limit_of options; holding = holding_of options gathers }

-- what the connection does that may wait only so long, and since when it waits
abbrev pub work_of : {L C A J : Type 0} → View L C A J → Work
work_of view = work_at view.stage view.last view.session

-- a connection that read and wrote nothing yet
pub record IsNewConnection {L C A J : Type 0} (server : A) (options : Option HttpServerOptions)
    (gathers : Bool) (start : L) (made : View L C A J) : Type 0 where
  pub link : made.session.link ≡ start
  pub settings : made.session.settings ≡ record new_settings { reuses = limit_of options }
  pub served : made.served ≡ server
  pub terms : made.terms ≡ terms_of options gathers
  pub done : made.done ≡ []
  pub last : made.last ≡ None
  pub work : work_of made ≡ reads_head None
  pub end : made.end ≡ None
