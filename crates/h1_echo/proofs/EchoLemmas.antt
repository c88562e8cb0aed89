-- Steps of the echo application.
use Rattle.h1_body.specs.Payload.{Payload}
use Rattle.std.proofs.Common.{◌≡◌, ◌≢◌, ◌⊎◌, inl, inr, ℕ, ◌^◌, ◌<◌, ◌==◌, true, false, List, [], ◌∷◌, ◌++◌, length, Option, Some, None, IfSome, IfNone, IsSome, refl, sym, ap, ◌∙◌, subst, arith}
use Rattle.h1_transfer.proofs.CalledLemmas.{called_itself, called_on}
use Rattle.std.specs.Prelude.{Bool, cond, not, bytes_eq, codes, option_map, Result, Ok, Err, IfOk, IfErr, decimal}
use Rattle.std.specs.Char.{digit_value}
use Rattle.std.specs.Str.Parse.{AllDigits}
use Rattle.std.proofs.lemmas.Fmt.{decimal_is_IsNumeral, decimal_digit}
use Rattle.std.proofs.lemmas.Str.Parse.{digit_from_value}
use Rattle.std.proofs.lemmas.Bool.{ne_eqb, false≢true}
use Rattle.httparse.specs.Grammar.{is_token, is_token_byte}
use Rattle.h1_echo.specs.Words.{Error, NoMemory, no_memory, ErrorType, Ready, LinkState, SessionView, Stopped, ReadsAtOnce, ReadsInTime, ReadsOnly, GivesReply, payload_of, how_of, Given, Reply, Open, Whole, Failed, RequestView, ResponseView, new_response, Settings, line_fault, RefusedFor}
use Rattle.h1_error.specs.declared.head_fault.HeadFault.{HeadFault}
use Rattle.futures.specs.declared.task.Poll.{Poll}
use Rattle.h1_error.specs.declared.error.ErrorType.TheVariants as kind
use Rattle.h1_server.specs.Limit.{limited, shown}
use Rattle.h1_server.specs.Payload.{ReadsPayload, limit_behind}
use Rattle.h1_server.specs.declared.limit.Limit.{Limit}
use Rattle.h1_transfer.specs.Payload.{refused_behind}
use Rattle.h1_echo.proofs.Words.{Reading, refused_reply, echo_settings}
use Rattle.h1_echo.specs.EchoRun.{EchoRuns, KeepsLimit, StopCause, IsStopOf}
use Rattle.h1_application.specs.Application.{given_by, IsAskedFor}
use Rattle.h1_echo.specs.declared.echo.Stopped.TheVariants as stopped
use Rattle.h1_echo.specs.Echo.{EchoGives, echo_reply}
use Rattle.h1_server.specs.declared.request.Request.{Request}
use Rattle.h1_transfer.specs.declared.body.BodyState.{BodyState}
use Rattle.h1_application.proofs.ReadLemmas.{reads_itself, reads_on}
use Rattle.h1_head.specs.Faults.{is_text, is_text_byte}
use Rattle.h1_application.proofs.SettingLemmas.{only_settings}
use Rattle.h1_application.proofs.TimeLemmas.{in_time_itself, in_time_on, in_time_set}

-- the name is a token
name_is : is_token (codes "content-length") ≡ true
unfolding is_token_byte
name_is = refl

-- a digit is a byte of text
digit_is_text : (b : ℕ) → digit_value b < 10 → is_text_byte b ≡ true
digit_is_text b small =
    let range = digit_from_value b small in
    let cr : (b == 13) ≡ false = ne_eqb b 13 (λ e. absurd (omega arith)) in
    let lf : (b == 10) ≡ false = ne_eqb b 10 (λ e. absurd (omega arith)) in
    let nul : (b == 0) ≡ false = ne_eqb b 0 (λ e. absurd (omega arith)) in
    rw (cr, lf, nul) refl

pub digits_are_text : (bytes : List ℕ) → AllDigits 10 bytes → is_text bytes ≡ true
digits_are_text [] h = refl
digits_are_text (b ∷ bytes) h = rw (digit_is_text b h.0, digits_are_text bytes h.1) refl

-- a number is a value of Content-Length
pub length_is_a_line : (n : ℕ) → n < 2 ^ 64 → line_fault (codes "content-length") (decimal n) ≡ None
length_is_a_line n small =
    let digits = (decimal_is_IsNumeral n small).0 in
    rw (name_is, digits_are_text (decimal n) digits.1) refl

-- an answer that only wants memory
pub only_memory : (result : Result (Unit {0}) Error) (name value : List ℕ)
    → line_fault name value ≡ None
    → RefusedFor (line_fault name value) result → IfErr result (λ error. error ≡ no_memory)
only_memory result name value none h = by_result result (subst (λ (o : Option HeadFault). RefusedFor o result) none h)
  where
    by_result : (r : Result (Unit {0}) Error) → RefusedFor None r
        → IfErr r (λ error. error ≡ no_memory)
    by_result (Ok done) h = tt
    by_result (Err error) h = h

-- why a read that failed stops the reading; `P` is what reads give
pub stop_cause : (P : Type 0) {L C : Type 0} (state : L → LinkState) (now : ℕ) (old new : SessionView L C)
    (error : Error) (stop : Stopped)
    → IfSome old.body.refused
    (λ kept. (◌≡◌ {A = Poll (Result P Error)} (Ready (Err error)) (Ready (Err kept)))
    × (new ≡ old))
    → IfNone old.body.refused (ReadsPayload state now old new (Ready (Err error)))
    → IsStopOf error.kind stop → StopCause state old new (Some stop)
stop_cause P {L} {C} state now old new error stop again reads is =
    by_kind error.kind refl (by_refused old.body.refused refl again reads) is
  where
    for_good : (body : Option Payload) (error : Error) (k : ErrorType) → error.kind ≡ k
        → (k ≢ NoMemory) → refused_behind body error ≡ Some error
    for_good body error NoMemory is other = absurd (other refl)
    for_good body error _ is other = rw is refl

    by_refused : (o : Option Error) → old.body.refused ≡ o
        → IfSome o (λ kept. (◌≡◌ {A = Poll (Result P Error)} (Ready (Err error)) (Ready (Err kept)))
        × (new ≡ old))
        → IfNone o (ReadsPayload state now old new (Ready (Err error))) → error.kind ≢ NoMemory
        → new.body.refused ≡ Some error
    by_refused None is again reads other = reads.answer.1 ∙ for_good new.body.kept error error.kind refl other
    by_refused (Some kept) is again reads other =
        let says : ◌≡◌ {A = Poll (Result P Error)} (Ready (Err error)) (Ready (Err kept)) = again.0 in
        let same : error ≡ kept = cc in
        ap (λ (s : SessionView L C). s.body.refused) again.1 ∙ is ∙ ap Some (sym same)

    by_kind : (k : ErrorType) → error.kind ≡ k
        → (error.kind ≢ NoMemory → new.body.refused ≡ Some error) → IsStopOf k stop
        → StopCause state old new (Some stop)
    by_kind NoMemory is refused h = subst (λ s. StopCause state old new (Some s)) (sym h) refl
    by_kind _ is refused h = subst (λ s. StopCause state old new (Some s)) (sym h)
        (error, refused (λ never. let clash = sym is ∙ never in cc))

-- what a read that failed notes of its limit; `P` is what reads give
pub stop_limit : (P : Type 0) {L C : Type 0} (old new : SessionView L C) (limit : Option ℕ)
    (error : Error) (stop : Stopped)
    → IfSome old.body.refused
    (λ kept. (◌≡◌ {A = Poll (Result P Error)} (Ready (Err error)) (Ready (Err kept)))
    × (new ≡ old))
    → IfNone old.body.refused
    (new.read_limit ≡ limit_behind {T = P} limit old.read_limit (Ready (Err error)))
    → IsStopOf error.kind stop → KeepsLimit limit old.read_limit new.read_limit (Some stop)
stop_limit P {L} {C} old new limit error stop again noted is =
    by_kind error.kind refl (by_refused old.body.refused again noted) is
  where
    by_refused : (o : Option Error)
        → IfSome o (λ kept. (◌≡◌ {A = Poll (Result P Error)} (Ready (Err error)) (Ready (Err kept)))
        × (new ≡ old))
        → IfNone o (new.read_limit ≡ limit_behind {T = P} limit old.read_limit (Ready (Err error)))
        → (new.read_limit ≡ old.read_limit)
        ⊎ (new.read_limit ≡ limit_behind {T = P} limit old.read_limit (Ready (Err error)))
    by_refused None again noted = inr noted
    by_refused (Some kept) again noted = inl (ap (λ (s : SessionView L C). s.read_limit) again.1)

    by_kind : (k : ErrorType) → error.kind ≡ k
        → (new.read_limit ≡ old.read_limit)
        ⊎ (new.read_limit ≡ limit_behind {T = P} limit old.read_limit (Ready (Err error)))
        → IsStopOf k stop → KeepsLimit limit old.read_limit new.read_limit (Some stop)
    by_kind NoMemory same (inl kept) h = rw h kept
    by_kind NoMemory same (inr noted) h = rw h (rw same at noted)
    by_kind kind.ReadTimedout same (inl kept) h = rw h (inl kept)
    by_kind kind.ReadTimedout same (inr noted) h = rw h (inr (rw same at noted))
    by_kind _ same (inl kept) h = rw h (inl kept)
    by_kind _ same (inr noted) h = rw h (inl (rw same at noted))

-- nothing is read yet
pub reading_itself : {L C : Type 0} (state : L → LinkState) (now : ℕ) (s : SessionView L C)
    → IsSome s.request → IsSome s.body.kept → IsSome s.budget → Reading state now s s
reading_itself state now s request kept budget = record {
  only = reads_itself state s;
  timed = in_time_itself state now s;
  limit = refl;
  free = record { refused = refl; waits = refl; link_waits = refl; calls = called_itself (state s.link) };
  settings = refl;
  request = request;
  kept = kept;
  budget = budget;
}

is_some_mapped : {A B : Type 0} (f : A → B) (o : Option A) → IsSome o → IsSome (option_map f o)
is_some_mapped f None h = absurd (false≢true h)
is_some_mapped f (Some x) h = refl

-- one read more
pub reading_on : {L C : Type 0} (state : L → LinkState) (now : ℕ) (old new next : SessionView L C)
    → Reading state now old new → ReadsOnly state new next → ReadsInTime state now new next
    → next.read_limit ≡ new.read_limit → ReadsAtOnce state new next
    → next.settings ≡ new.settings → Reading state now old next
reading_on state now old new next reading reads timed limit free settings = record {
  only = reads_on state old new next reading.only reading.free reads;
  timed = in_time_on state now old new next reading.free.refused reading.timed timed;
  limit = limit ∙ reading.limit;
  free = record {
    refused = free.refused ∙ reading.free.refused;
    waits = free.waits ∙ reading.free.waits;
    link_waits = free.link_waits ∙ reading.free.link_waits;
    calls = called_on _ _ _ _ _ reading.free.calls free.calls;
  };
  settings = settings ∙ reading.settings;
  request = subst IsSome (sym reads.request) reading.request;
  kept = subst IsSome (sym reads.kept) (is_some_mapped _ new.body.kept reading.kept);
  budget = subst IsSome (sym reads.budget) (is_some_mapped _ new.budget reading.budget);
}

-- a limit that is noted in a later read
pub limit_further : (stop : Option Stopped) (old new : Settings) (first second third : Option ℕ)
    → new ≡ old → second ≡ first
    → KeepsLimit (shown new.times.read) second third stop
    → KeepsLimit (shown old.times.read) first third stop
limit_further stop old new first second third settings same h = rw (settings, same) at h

coding_name_is : is_token (codes "transfer-encoding") ≡ true
unfolding is_token_byte
coding_name_is = refl

-- the line of a chunked body
pub coding_is_a_line : line_fault (codes "transfer-encoding") (codes "chunked") ≡ None
coding_is_a_line = rw coding_name_is refl

-- a value that is a number
pub length_value : (value : List ℕ) (n : ℕ) → value ≡ decimal n → n < 2 ^ 64
    → line_fault (codes "content-length") value ≡ None
length_value value n is small = rw is (length_is_a_line n small)

-- what the echo application sets leaves it alone how many requests may follow
set_reuses : (request : Option Request) (old begun : Settings) → IsSome request
    → IfSome request (λ r. begun ≡ echo_settings r.header old)
    → begun.reuses ≡ old.reuses
set_reuses None old begun there set = absurd (false≢true there)
set_reuses (Some r) old begun there set = ap (λ (s : Settings). s.reuses) set

pub reads_with_settings : {L C : Type 0} (state : L → LinkState) (old begun new : SessionView L C)
    → begun ≡ record old { settings = begun.settings }
    → IsSome old.request
    → IfSome old.request (λ r. begun.settings ≡ echo_settings r.header old.settings)
    → ReadsOnly state begun new → ReadsOnly state old new
reads_with_settings state old begun new is there set reads =
    only_settings state old new begun.settings (set_reuses old.request old.settings begun.settings there set)
    (subst (λ s. ReadsOnly state s new) is reads)

pub timed_with_settings : {L C : Type 0} (state : L → LinkState) (now : ℕ)
    (old begun new : SessionView L C) → begun ≡ record old { settings = begun.settings }
    → ReadsInTime state now begun new → ReadsInTime state now old new
timed_with_settings state now old begun new is timed = in_time_set state now old begun new is timed

-- how the body stands where its reading was refused
how_failed : (body : BodyState) (error : Error) → body.refused ≡ Some error → how_of body ≢ Open
how_failed body error is stands = let never : Failed ≡ Open = rw is at stands in cc

-- the reply to the request that the session has is the reply to the head that is asked for
reply_to_head : (request : Option Request) (head : RequestView) (body : List ℕ) (result : Result Reply Error)
    → IsSome request → IfSome request (λ r. r.header ≡ head)
    → IfOk result (λ reply. IfSome request (λ r. reply ≡ echo_reply r.header body None))
    → IfOk result (λ reply. reply ≡ echo_reply head body None)
reply_to_head None head body result there is h = absurd (false≢true there)
reply_to_head (Some r) head body (Ok reply) there is h = h ∙ ap (λ asked. echo_reply asked body None) is
reply_to_head (Some r) head body (Err error) there is h = tt

-- a limit that was set is set again
set_twice : (slow : Bool) (write : Limit)
    → cond slow (limited (Some 1000)) (cond slow (limited (Some 1000)) write) ≡ cond slow (limited (Some 1000)) write
set_twice true write = refl
set_twice false write = refl

-- what is set in the end
settings_are : (request : Option Request) (head : RequestView) (began old begun : Settings)
    → IsSome request → IfSome request (λ r. r.header ≡ head)
    → IfSome request (λ r. begun ≡ echo_settings r.header old)
    → (old ≡ began) ⊎ (old ≡ echo_settings head began) → begun ≡ echo_settings head began
settings_are None head began old begun there is set from = absurd (false≢true there)
settings_are (Some r) head began old begun there is set (inl same) = rw (set, is, same) refl
settings_are (Some r) head began old begun there is set (inr same) =
    rw (set, is, same) (ap (λ (write : Limit). record began {
      pipelining = not (bytes_eq head.target (codes "/nopipe"));
      times = record began.times { write = write };
    }) (set_twice (bytes_eq head.target (codes "/slow")) began.times.write))

-- an answer that is there, or wants memory
answers : (given : Given) (reply : Reply) (result : Result Reply Error)
    → (length reply.body < 2 ^ 63 → EchoGives given reply) → IfOk result (λ r. r ≡ reply)
    → IfOk result (λ r. length r.body < 2 ^ 63)
    → IfErr result (λ error. error ≡ no_memory)
    → GivesReply EchoGives given (λ error. error ≡ no_memory) (Ready result)
answers given reply (Ok r) gives is small err =
    subst (EchoGives given) (sym is) (gives (subst (λ (r : Reply). length r.body < 2 ^ 63) is small))
answers given reply (Err error) gives is small err = err

-- the reading of one call, and what the reply to it depends on
module _ {L C : Type 0} (state : L → LinkState) (old begun new : SessionView L C)
    (request : IsSome old.request) (set : begun ≡ record old { settings = begun.settings })
    (settings : IfSome old.request (λ r. begun.settings ≡ echo_settings r.header old.settings))
    (reads : ReadsOnly state begun new) (kept : new.settings ≡ begun.settings)
    (head : RequestView) (began : Settings) (asked : IsAskedFor head old)
    (runs : EchoRuns head began old.settings old.read_limit) where
  left_so : new.settings ≡ echo_settings head began
  left_so = kept
      ∙ settings_are old.request head began old.settings begun.settings request asked settings runs.settings

  -- no limit was noted before the call
  unlimited : begun.read_limit ≡ None
  unlimited = ap (λ (s : SessionView L C). s.read_limit) set ∙ runs.limit_is

  -- the one that was in force is that of the start
  limited_so : (limit : Option ℕ)
      → (limit ≡ begun.read_limit) ⊎ (limit ≡ shown begun.settings.times.read)
      → IfSome limit (λ n. shown began.times.read ≡ Some n)
  limited_so limit (inl same) = rw (same ∙ unlimited) tt
  limited_so limit (inr in_force) = rw in_force (by (shown began.times.read) (ap (λ (s : Settings). shown s.times.read)
      (settings_are old.request head began old.settings begun.settings request asked settings runs.settings)))
    where
      by : (o : Option ℕ) → shown begun.settings.times.read ≡ o
          → IfSome (shown begun.settings.times.read) (λ n. o ≡ Some n)
      by None same = rw same tt
      by (Some n) same = rw same refl

  request_is : new.request ≡ old.request
  request_is = reads.request ∙ ap (λ (s : SessionView L C). s.request) set

  pub gives_whole : (left : SessionView L C) (result : Result Reply Error) → left ≡ new
      → (how_of new.body ≡ Whole) × (new.body.refused ≡ None) → new.read_limit ≡ begun.read_limit
      → IfOk result
      (λ reply. IfSome new.request (λ r. reply ≡ echo_reply r.header (payload_of new) None))
      → IfOk result (λ reply. length reply.body < 2 ^ 63)
      → IfErr result (λ error. error ≡ no_memory)
      → GivesReply EchoGives (given_by head began left) (λ error. error ≡ no_memory) (Ready result)
  gives_whole left result same ended limit ok fits err =
      subst (λ s. GivesReply EchoGives (given_by head began s) (λ error. error ≡ no_memory) (Ready result))
      (sym same)
      (answers (given_by head began new) (echo_reply head (payload_of new) None) result (λ small. record {
        small = small;
        read = λ stands. let never : Whole ≡ Open = sym ended.0 ∙ stands in cc;
        left = left_so;
        limit = limited_so new.read_limit (inl limit);
        is = rw ended.1 refl;
      }) (reply_to_head old.request head (payload_of new) result request asked (rw request_is at ok)) fits err)

  pub gives_refused : (result : Result Reply Error)
      → (error : Error) × (new.body.refused ≡ Some error)
      → (new.read_limit ≡ begun.read_limit) ⊎ (new.read_limit ≡ shown begun.settings.times.read)
      → IfOk result (λ reply. reply ≡ refused_reply) → IfErr result (λ error. error ≡ no_memory)
      → GivesReply EchoGives (given_by head began new) (λ error. error ≡ no_memory) (Ready result)
  gives_refused result refused limit ok err =
      answers (given_by head began new) refused_reply result (λ small. record {
        small = small;
        read = how_failed new.body refused.0 refused.1;
        left = left_so;
        limit = limited_so new.read_limit limit;
        is = rw refused.1 refl;
      }) ok (empty result ok) err
    where
      empty : (r : Result Reply Error) → IfOk r (λ reply. reply ≡ refused_reply)
          → IfOk r (λ reply. length reply.body < 2 ^ 63)
      empty (Ok reply) is = rw is (omega arith)
      empty (Err error) is = tt

-- a reply of status 400 with no body
pub refusal_is : (fresh now : ResponseView) (body : List ℕ) → fresh ≡ new_response 400
    → now ≡ record fresh { fields = fresh.fields ++ (codes "content-length", decimal 0) ∷ [] }
    → body ≡ []
    → ◌≡◌ {A = Reply} (record { header = now; body = body }) refused_reply
refusal_is fresh now body start line none = rw (none, line, start, decimal_digit 0 (omega arith)) refl
