-- Lemmas on responses that came one after another, and on what was told of them.
use Rattle.std.proofs.Common.{◌≡◌, inl, inr, ℕ, ◌+◌, ◌<◌, ◌≤◌, List, [], ◌∷◌, ◌++◌, true, false, Bool, not, length, length-append, append-nil, append_assoc, refl, sym, ap, subst, ◌∙◌, arith}
use Rattle.std.specs.Io.KnownBytes.{append_known}
use Rattle.h1_error.specs.declared.error.Error.{Error}
use Rattle.h1_link.specs.Counts.{Rose}
use Rattle.h1_link.specs.DialerState.{DialerState}
use Rattle.h1_link.specs.LinkState.{LinkState}
use Rattle.h1_link.specs.SinkState.{SinkState}
use Rattle.h1_link.proofs.Laters.{append_known-on, append_known-nil}
use Rattle.h1_client.specs.declared.settings.Peer.{Peer}
use Rattle.h1_asking.specs.Fetching.{Fetches, FetchFault}
use Rattle.h1_fetch.specs.Getting.{Came, Gets, GetCause, Stops, response_line, response_lines, links_line, one_if, reused_of, dialled_of}
use Rattle.h1_fetch.specs.Request.{Request}
use Rattle.h1_fetch.specs.Output.{Wrote}
use Rattle.h1_fetch.specs.Telling.{DoneCause, GivesUp, TellCause, ToldFault}
use Rattle.h1_asking.specs.declared.fetching.Fault.{Fault}
use Rattle.h1_asking.specs.declared.fetching.Fault.TheVariants as fault
use Rattle.h1_asking.specs.declared.fetching.Fetched.{Fetched}
use Rattle.h1_fetch.specs.declared.status.Status.{Status}
use Rattle.h1_fetch.specs.declared.status.Status.TheVariants as status

-- what holds while responses come: so many came, and so many of them over links that served before
pub record GetsSoFar {L D : Type 0} (state : L → LinkState) (dials : D → DialerState) (peer : Peer)
    (request : Request) (count reused : ℕ) (sink sink' : SinkState) (dialer dialer' : D)
    : Type 0 where
  pub gets : Gets state dials peer request count sink sink' dialer dialer'
  pub counted : reused ≡ reused_of gets.all

-- the line of one response more
lines_more : (number : ℕ) (all : List Fetched) (one : Fetched)
    → response_lines number (all ++ one ∷ [])
    ≡ response_lines number all ++ response_line (number + length all) one
lines_more number [] one =
    let same : number + 0 ≡ number = omega arith in
    append-nil (response_line number one) ∙ ap (λ n. response_line n one) (sym same)
lines_more number (fetched ∷ more) one =
    let same : number + 1 + length more ≡ number + length (fetched ∷ more) = omega arith in
    ap (λ rest. response_line number fetched ++ rest) (lines_more (number + 1) more one)
    ∙ sym (append_assoc (response_line number fetched) (response_lines (number + 1) more)
    (response_line (number + 1 + length more) one))
    ∙ ap (λ n. (response_line number fetched ++ response_lines (number + 1) more)
    ++ response_line n one) same

reused_more : (all : List Fetched) (one : Fetched)
    → reused_of (all ++ one ∷ []) ≡ reused_of all + one_if one.is_reused
reused_more [] one = omega arith
reused_more (fetched ∷ more) one = omega (arith, reused_more more one)

one_of : (b : Bool) → one_if (not b) + one_if b ≡ 1
one_of true = refl
one_of false = refl

pub one_few : (b : Bool) → one_if b ≤ 1
one_few true = omega arith
one_few false = omega arith

-- each link was new or had served before
pub links_of : (all : List Fetched) → dialled_of all + reused_of all ≡ length all
links_of [] = refl
links_of (fetched ∷ more) = omega (arith, links_of more, one_of fetched.is_reused)

came_more : {L D : Type 0} (state : L → LinkState) (dials : D → DialerState) (peer : Peer)
    (request : Request) (before now behind : D) (all : List Fetched) (one : Fetched)
    → Came state dials peer request before all now → Fetches state dials peer request.head request.body now behind one
    → Came state dials peer request before (all ++ one ∷ []) behind
came_more state dials peer request before now behind [] one came is =
    (behind, subst (λ d. Fetches state dials peer request.head request.body d behind one) came is, refl)
came_more state dials peer request before now behind (fetched ∷ more) one came is =
    (came.0, came.1, came_more state dials peer request came.0 now behind more one came.2 is)

-- no response came yet
pub gets_none : {L D : Type 0} (state : L → LinkState) (dials : D → DialerState) (peer : Peer)
    (request : Request) (sink : SinkState) (dialer : D)
    → GetsSoFar state dials peer request 0 0 sink sink dialer dialer
gets_none state dials peer request sink dialer = record {
  gets = record {
    all = [];
    many = refl;
    came = refl;
    took = record { taken = sym (append_known-nil sink.taken); faults = refl };
    flushed = λ some. absurd (omega (arith, some));
  };
  counted = refl;
}

-- one response more, whose line was written
pub gets_more : {L D : Type 0} (state : L → LinkState) (dials : D → DialerState) (peer : Peer)
    (request : Request) (number reused after : ℕ) (sink sink' sink'' : SinkState)
    (dialer dialer' dialer'' : D) (one : Fetched)
    → GetsSoFar state dials peer request number reused sink sink' dialer dialer'
    → Fetches state dials peer request.head request.body dialer' dialer'' one
    → Wrote sink' sink'' (response_line number one) → after ≡ reused + one_if one.is_reused
    → GetsSoFar state dials peer request (number + 1) after sink sink'' dialer dialer''
gets_more state dials peer request number reused after sink sink' sink'' dialer dialer' dialer'' one
    far is wrote counted =
    let all = far.gets.all in
    let at : number ≡ 0 + length all = omega (arith, far.gets.many) in
    record {
      gets = record {
        all = all ++ one ∷ [];
        many = length-append all (one ∷ []) ∙ ap (λ n. n + 1) far.gets.many;
        came = came_more state dials peer request dialer dialer' dialer'' all one far.gets.came is;
        took = record {
          taken = wrote.took.taken
              ∙ ap (λ known. append_known known (response_line number one)) far.gets.took.taken
              ∙ append_known-on sink.taken (response_lines 0 all) (response_line number one)
              ∙ ap (λ n. append_known sink.taken (response_lines 0 all ++ response_line n one)) at
              ∙ ap (append_known sink.taken) (sym (lines_more 0 all one));
          faults = wrote.took.faults ∙ far.gets.took.faults;
        };
        flushed = λ some. wrote.flushed;
      };
      counted = counted ∙ ap (λ n. n + one_if one.is_reused) far.counted
          ∙ sym (reused_more all one);
    }

-- no more links served before than responses came
pub reused_few : {L D : Type 0} (state : L → LinkState) (dials : D → DialerState) (peer : Peer)
    (request : Request) (number reused : ℕ) (sink sink' : SinkState) (dialer dialer' : D)
    → GetsSoFar state dials peer request number reused sink sink' dialer dialer' → reused ≤ number
reused_few state dials peer request number reused sink sink' dialer dialer' far =
    omega (arith, far.counted, far.gets.many, links_of far.gets.all)

rose_behind : (before now then : ℕ) → now ≡ before → Rose now then → Rose before then
rose_behind before now then same rose = subst (λ n. Rose n then) same rose

-- the cause of the status where a line isn't written whole
pub tell_cause : {L D : Type 0} (state : L → LinkState) (dials : D → DialerState) (peer : Peer)
    (request : Request) (count : ℕ) (sink sink' sink'' messages messages' : SinkState)
    (dialer dialer' : D) (answer : Status) → sink'.faults ≡ sink.faults
    → TellCause sink' sink'' answer
    → GetCause state dials peer request count sink sink'' messages messages' dialer dialer' answer
tell_cause state dials peer request count sink sink' sink'' messages messages' dialer dialer'
    status.Sink same cause = rose_behind sink.faults sink'.faults sink''.faults same cause
tell_cause state dials peer request count sink sink' sink'' messages messages' dialer dialer'
    status.Memory same cause = tt
tell_cause state dials peer request count sink sink' sink'' messages messages' dialer dialer'
    status.Done same cause = absurd cause
tell_cause state dials peer request count sink sink' sink'' messages messages' dialer dialer'
    status.Words same cause = absurd cause
tell_cause state dials peer request count sink sink' sink'' messages messages' dialer dialer'
    status.Script same cause = absurd cause
tell_cause state dials peer request count sink sink' sink'' messages messages' dialer dialer'
    status.Source same cause = absurd cause
tell_cause state dials peer request count sink sink' sink'' messages messages' dialer dialer'
    status.Response same cause = absurd cause
tell_cause state dials peer request count sink sink' sink'' messages messages' dialer dialer'
    status.Server same cause = absurd cause

-- the cause of the status once the last line was handed to the sink
pub done_cause : {L D : Type 0} (state : L → LinkState) (dials : D → DialerState) (peer : Peer)
    (request : Request) (count dialled reused : ℕ) (sink sink' sink'' messages : SinkState)
    (dialer dialer' : D) (answer : Status)
    → GetsSoFar state dials peer request count reused sink sink' dialer dialer'
    → dialled + reused ≡ count → DoneCause sink' sink'' (links_line dialled reused) answer
    → GetCause state dials peer request count sink sink'' messages messages dialer dialer' answer
done_cause state dials peer request count dialled reused sink sink' sink'' messages dialer dialer'
    status.Done far sum wrote =
    let all = far.gets.all in
    let new : dialled ≡ dialled_of all =
    omega (arith, sum, far.counted, far.gets.many, links_of all) in (
      record {
        all = all;
        many = far.gets.many;
        came = far.gets.came;
        wrote = record {
          took = record {
            taken = wrote.took.taken
                ∙ ap (λ known. append_known known (links_line dialled reused)) far.gets.took.taken
                ∙ append_known-on sink.taken (response_lines 0 all) (links_line dialled reused)
                ∙ ap (λ n. append_known sink.taken (response_lines 0 all ++ links_line n reused)) new
                ∙ ap (λ n. append_known sink.taken
                (response_lines 0 all ++ links_line (dialled_of all) n)) far.counted;
            faults = wrote.took.faults ∙ far.gets.took.faults;
          };
          flushed = wrote.flushed;
        };
      },
      refl,
    )
done_cause state dials peer request count dialled reused sink sink' sink'' messages dialer dialer'
    status.Sink far sum cause =
    rose_behind sink.faults sink'.faults sink''.faults far.gets.took.faults cause
done_cause state dials peer request count dialled reused sink sink' sink'' messages dialer dialer'
    status.Memory far sum cause = tt
done_cause state dials peer request count dialled reused sink sink' sink'' messages dialer dialer'
    status.Words far sum cause = absurd cause
done_cause state dials peer request count dialled reused sink sink' sink'' messages dialer dialer'
    status.Script far sum cause = absurd cause
done_cause state dials peer request count dialled reused sink sink' sink'' messages dialer dialer'
    status.Source far sum cause = absurd cause
done_cause state dials peer request count dialled reused sink sink' sink'' messages dialer dialer'
    status.Response far sum cause = absurd cause
done_cause state dials peer request count dialled reused sink sink' sink'' messages dialer dialer'
    status.Server far sum cause = absurd cause

-- a request has no response
stopped : {L D : Type 0} (state : L → LinkState) (dials : D → DialerState) (peer : Peer)
    (request : Request) (count number : ℕ) (sink sink' messages messages' : SinkState)
    (dialer dialer' dialer'' : D) (error : Error) (why : Fault) (said answer : Status)
    → (Stops state dials peer request count sink sink' messages messages' dialer dialer'' error why
    → GetCause state dials peer request count sink sink' messages messages' dialer dialer'' said)
    → number < count → Gets state dials peer request number sink sink' dialer dialer'
    → FetchFault state dials peer dialer' dialer'' why
    → ToldFault messages messages' number error said answer
    → GetCause state dials peer request count sink sink' messages messages' dialer dialer'' answer
stopped state dials peer request count number sink sink' messages messages' dialer dialer' dialer''
    error why said answer on few before faulty told = elim told [
      | inl none ↦ rw none tt
      | inr is ↦ rw is.0 (on (record {
        number = number;
        few = few;
        between = dialer';
        before = before;
        fault = faulty;
        written = is.1;
        told = is.2;
      }))
    ]

-- the cause of the status where the request of this number has no response
pub gives_up : {L D : Type 0} (state : L → LinkState) (dials : D → DialerState) (peer : Peer)
    (request : Request) (count number : ℕ) (sink sink' messages messages' : SinkState)
    (dialer dialer' dialer'' : D) (why : Fault) (answer : Status)
    → number < count → Gets state dials peer request number sink sink' dialer dialer'
    → FetchFault state dials peer dialer' dialer'' why
    → GivesUp messages messages' number why answer
    → GetCause state dials peer request count sink sink' messages messages' dialer dialer'' answer
gives_up state dials peer request count number sink sink' messages messages' dialer dialer' dialer''
    fault.Memory answer few before faulty told = rw told tt
gives_up state dials peer request count number sink sink' messages messages' dialer dialer' dialer''
    (fault.Server error) answer few before faulty told =
    stopped state dials peer request count number sink sink' messages messages' dialer dialer' dialer''
    error (fault.Server error) status.Server answer (λ stops. (error, stops)) few before faulty told
gives_up state dials peer request count number sink sink' messages messages' dialer dialer' dialer''
    (fault.Response error) answer few before faulty told =
    stopped state dials peer request count number sink sink' messages messages' dialer dialer' dialer''
    error (fault.Response error) status.Response answer (λ stops. (error, stops)) few before faulty told
