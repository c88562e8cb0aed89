-- Lemmas on peers that are served one after another.
use Rattle.std.proofs.Common.{◌≡◌, ℕ, ◌+◌, ◌≤◌, List, [], ◌∷◌, ◌++◌, true, length, length-append, append-nil, append_assoc, refl, sym, ap, subst, ◌∙◌, arith}
use Prim.Native.Nat.{suc}
use Rattle.std.specs.Prelude.{Some}
use Rattle.std.specs.List.{AllByRecursion}
use Rattle.std.specs.Io.KnownBytes.{append_known}
use Rattle.h1_error.specs.declared.progress.Progress.{Progress}
use Rattle.h1_link.specs.AcceptorState.{AcceptorState, after_bind, after_hand_back}
use Rattle.h1_link.specs.ClockState.{ClockState}
use Rattle.h1_link.specs.Counts.{raised, Rose}
use Rattle.h1_link.specs.LinkState.{LinkState}
use Rattle.h1_link.specs.SinkState.{SinkState}
use Rattle.h1_link.proofs.Laters.{append_known-on, append_known-nil}
use Rattle.h1_serve.specs.declared.status.Status.{Status}
use Rattle.h1_serve.specs.declared.status.Status.TheVariants as status
use Rattle.h1_serve.specs.ListenPeer.{Peer, InTurn, answers_of, links_of}
use Rattle.h1_serve.specs.Listening.{listen_line, listen_lines, Serves, ServesOne, Accepts, ListenCause, StopCause}

-- the line of one answer more
lines_more : (number : ℕ) (answers : List Progress) (one : Progress)
    → listen_lines number (answers ++ one ∷ [])
    ≡ listen_lines number answers ++ listen_line (number + length answers) one
lines_more number [] one =
    let same : number + 0 ≡ number = omega arith in
    append-nil (listen_line number one) ∙ ap (λ n. listen_line n one) (sym same)
lines_more number (answer ∷ more) one =
    let same : number + 1 + length more ≡ number + length (answer ∷ more) = omega arith in
    ap (λ rest. listen_line number answer ++ rest) (lines_more (number + 1) more one)
    ∙ sym
    (append_assoc (listen_line number answer) (listen_lines (number + 1) more)
    (listen_line (number + 1 + length more) one))
    ∙ ap (λ n. (listen_line number answer ++ listen_lines (number + 1) more) ++ listen_line n one) same

all_more : (is_peer : Peer → Type 0) (peers : List Peer) (one : Peer)
    → AllByRecursion is_peer peers → is_peer one → AllByRecursion is_peer (peers ++ one ∷ [])
all_more is_peer [] one all is = (is, tt)
all_more is_peer (peer ∷ more) one all is = (all.0, all_more is_peer more one all.1 is)

-- the clock goes on from the last of them
turn_more : (clock clock' clock'' : ClockState) (peers : List Peer) (one : Peer)
    → InTurn clock peers clock' → one.began ≡ clock' → one.ended ≡ clock''
    → InTurn clock (peers ++ one ∷ []) clock''
turn_more clock clock' clock'' [] one turn began ended = (began ∙ turn, sym ended)
turn_more clock clock' clock'' (peer ∷ more) one turn began ended =
    (turn.0, turn_more peer.ended clock' clock'' more one turn.1 began ended)

answers_more : (peers : List Peer) (one : Peer)
    → answers_of (peers ++ one ∷ []) ≡ answers_of peers ++ one.answer ∷ []
answers_more [] one = refl
answers_more (peer ∷ more) one = ap (λ rest. peer.answer ∷ rest) (answers_more more one)

links_more : (peers : List Peer) (one : Peer)
    → links_of (peers ++ one ∷ []) ≡ links_of peers ++ one.left ∷ []
links_more [] one = refl
links_more (peer ∷ more) one = ap (λ rest. peer.left ∷ rest) (links_more more one)

count_answers : (peers : List Peer) → length (answers_of peers) ≡ length peers
count_answers [] = refl
count_answers (peer ∷ more) = ap suc (count_answers more)

count_links : (peers : List Peer) → length (links_of peers) ≡ length peers
count_links [] = refl
count_links (peer ∷ more) = ap suc (count_links more)

raised_none : (count : ℕ) → count ≡ raised count 0
raised_none count = omega arith

raised_on : (count by more : ℕ) → raised (raised count by) more ≡ raised count (by + more)
raised_on count by more = omega arith

rose_behind : (before now then : ℕ) → now ≡ before → Rose now then → Rose before then
rose_behind before now then same rose = subst (λ n. Rose n then) same rose

-- no peer was served yet, and the acceptor failed so often
pub served_none : (is_peer : Peer → Type 0) (failed : ℕ) (sink sink' : SinkState)
    (net net' : AcceptorState) (clock clock' : ClockState)
    → sink' ≡ sink → net'.accepted ≡ net.accepted → net'.handed_back ≡ net.handed_back
    → net'.accept_faults ≡ raised net.accept_faults failed → clock' ≡ clock
    → Serves is_peer 0 failed sink sink' net net' clock clock'
served_none is_peer failed sink sink' net net' clock clock' same accepted handed faults told = record {
  peers = [];
  many = refl;
  all = tt;
  in_turn = told;
  took = record {
    taken = ap (λ (s : SinkState). s.taken) same ∙ sym (append_known-nil sink.taken);
    faults = ap (λ (s : SinkState). s.faults) same;
  };
  flushed = λ some. absurd (omega (arith, some));
  accepted = accepted ∙ raised_none net.accepted;
  handed_back = handed ∙ sym (append-nil net.handed_back);
  faults = faults;
}

-- one peer more was served
pub served_more : (is_peer : Peer → Type 0) (number : ℕ) (sink sink' sink'' : SinkState)
    (net net' net'' : AcceptorState) (clock clock' clock'' : ClockState)
    → Serves is_peer number 0 sink sink' net net' clock clock'
    → ServesOne is_peer number sink' sink'' net' net'' clock' clock''
    → Serves is_peer (number + 1) 0 sink sink'' net net'' clock clock''
served_more is_peer number sink sink' sink'' net net' net'' clock clock' clock'' before one =
    let peers = before.peers in
    let peer = one.answers.peer in
    let answers : List Progress = answers_of peers in
    let at : number ≡ 0 + length answers = omega (arith, before.many, count_answers peers) in
    let line : listen_line number one.answer ≡ listen_line (0 + length answers) peer.answer =
    ap (λ n. listen_line n one.answer) at
    ∙ ap (listen_line (0 + length answers)) (sym one.answers.is) in
    let lines : listen_lines 0 answers ++ listen_line (0 + length answers) peer.answer
    ≡ listen_lines 0 (answers_of (peers ++ peer ∷ [])) =
    sym (lines_more 0 answers peer.answer)
    ∙ ap (listen_lines 0) (sym (answers_more peers peer)) in
    record {
      peers = peers ++ peer ∷ [];
      many = length-append peers (peer ∷ []) ∙ ap (λ n. n + 1) before.many;
      all = all_more is_peer peers peer before.all one.answers.served;
      in_turn = turn_more clock clock' clock'' peers peer before.in_turn one.answers.began
          one.answers.ended;
      took = record {
        taken = one.wrote.took.taken
            ∙ ap (λ known. append_known known (listen_line number one.answer)) before.took.taken
            ∙ append_known-on sink.taken (listen_lines 0 answers) (listen_line number one.answer)
            ∙ ap (λ text. append_known sink.taken (listen_lines 0 answers ++ text)) line
            ∙ ap (append_known sink.taken) lines;
        faults = one.wrote.took.faults ∙ before.took.faults;
      };
      flushed = λ some. one.wrote.flushed;
      accepted = ap (λ (s : AcceptorState). s.accepted) one.answers.accepted
          ∙ ap (λ n. raised n 1) before.accepted ∙ raised_on net.accepted number 1;
      handed_back = ap (λ (s : AcceptorState). s.handed_back) one.answers.accepted
          ∙ ap (λ links. links ++ peer.left ∷ []) before.handed_back
          ∙ append_assoc net.handed_back (links_of peers) (peer.left ∷ [])
          ∙ ap (λ links. net.handed_back ++ links) (sym (links_more peers peer));
      faults = ap (λ (s : AcceptorState). s.accept_faults) one.answers.accepted ∙ before.faults;
    }

-- the acceptor failed behind peers that were served
pub served_failed : (is_peer : Peer → Type 0) (number : ℕ) (sink sink' sink'' : SinkState)
    (net net' net'' : AcceptorState) (clock clock' clock'' : ClockState)
    → Serves is_peer number 0 sink sink' net net' clock clock'
    → sink'' ≡ sink' → net'' ≡ record net' { accept_faults = raised net'.accept_faults 1 }
    → clock'' ≡ clock' → Serves is_peer number 1 sink sink'' net net'' clock clock''
served_failed is_peer number sink sink' sink'' net net' net'' clock clock' clock'' before same is
    told =
    record {
      peers = before.peers;
      many = before.many;
      all = before.all;
      in_turn = subst (InTurn clock before.peers) (sym told) before.in_turn;
      took = record {
        taken = ap (λ (s : SinkState). s.taken) same ∙ before.took.taken;
        faults = ap (λ (s : SinkState). s.faults) same ∙ before.took.faults;
      };
      flushed = λ some. ap (λ (s : SinkState). s.flushed) same ∙ before.flushed some;
      accepted = ap (λ (s : AcceptorState). s.accepted) is ∙ before.accepted;
      handed_back = ap (λ (s : AcceptorState). s.handed_back) is ∙ before.handed_back;
      faults = ap (λ (s : AcceptorState). s.accept_faults) is
          ∙ ap (λ n. raised n 1) before.faults ∙ raised_on net.accept_faults 0 1;
    }

-- the acceptor where one link was accepted and handed back, and where it failed
pub accepts_one : (net net' : AcceptorState) (link : LinkState)
    → net' ≡ after_hand_back (record net { accepted = raised net.accepted 1 }) link
    → Accepts 1 net net'
accepts_one net net' link is = record {
  links = link ∷ [];
  few = omega arith;
  accepted = ap (λ (s : AcceptorState). s.accepted) is;
  handed_back = ap (λ (s : AcceptorState). s.handed_back) is;
  faults = let same = ap (λ (s : AcceptorState). s.accept_faults) is in omega (arith, same);
  port = ap (λ (s : AcceptorState). s.port) is;
}

pub accepts_none : (net net' : AcceptorState)
    → net' ≡ record net { accept_faults = raised net.accept_faults 1 } → Accepts 1 net net'
accepts_none net net' is = record {
  links = [];
  few = omega arith;
  accepted = ap (λ (s : AcceptorState). s.accepted) is ∙ raised_none net.accepted;
  handed_back = ap (λ (s : AcceptorState). s.handed_back) is
      ∙ sym (append-nil net.handed_back);
  faults = let rose = ap (λ (s : AcceptorState). s.accept_faults) is in omega (arith, rose);
  port = ap (λ (s : AcceptorState). s.port) is;
}

-- the acceptor where so many links were accepted at a port, and one was asked for after them
pub accepts_more : (is_peer : Peer → Type 0) (port most number : ℕ)
    (sink sink' : SinkState) (net net' net'' : AcceptorState) (clock clock' : ClockState)
    → number + 1 ≤ most → net'.port ≡ Some port
    → Serves is_peer number 0 sink sink' net net' clock clock'
    → Accepts 1 net' net'' → Accepts most (after_bind net port true) net''
accepts_more is_peer port most number sink sink' net net' net'' clock clock' few held before last =
    let peers : List LinkState = links_of before.peers in
    let count : length (peers ++ last.links) ≡ number + length last.links =
    length-append peers last.links
    ∙ ap (λ n. n + length last.links) (count_links before.peers ∙ before.many) in
    record {
      links = peers ++ last.links;
      few = omega (arith, few, last.few, count);
      accepted = last.accepted ∙ ap (λ n. raised n (length last.links)) before.accepted
          ∙ raised_on net.accepted number (length last.links)
          ∙ ap (raised net.accepted) (sym count);
      handed_back = last.handed_back ∙ ap (λ links. links ++ last.links) before.handed_back
          ∙ append_assoc net.handed_back peers last.links;
      faults = omega (arith, before.faults, last.faults);
      port = last.port ∙ held;
    }

-- and where none was asked for after them
pub accepts_all : (is_peer : Peer → Type 0) (port most number : ℕ)
    (sink sink' : SinkState) (net net' : AcceptorState) (clock clock' : ClockState)
    → number ≤ most → net'.port ≡ Some port
    → Serves is_peer number 0 sink sink' net net' clock clock'
    → Accepts most (after_bind net port true) net'
accepts_all is_peer port most number sink sink' net net' clock clock' few held before =
    let count : length (links_of before.peers) ≡ number =
    count_links before.peers ∙ before.many in
    record {
      links = links_of before.peers;
      few = omega (arith, few, count);
      accepted = before.accepted ∙ ap (raised net.accepted) (sym count);
      handed_back = before.handed_back;
      faults = omega (arith, before.faults);
      port = held;
    }

-- the cause of the status where the next peer has no line
pub stopped_cause : (is_peer : Peer → Type 0) (port count number : ℕ)
    (sink sink' sink'' : SinkState) (net net' net'' : AcceptorState)
    (clock clock' clock'' : ClockState) (answer : Status)
    → number ≤ count
    → Serves is_peer number 0 sink sink' net net' clock clock'
    → StopCause sink' sink'' net' net'' clock' clock'' answer
    → ListenCause is_peer port count sink sink'' net net'' clock clock'' answer
stopped_cause is_peer port count number sink sink' sink'' net net' net'' clock clock' clock''
    status.Acceptor few before stop = (
      number,
      few,
      served_failed is_peer number sink sink' sink'' net net' net'' clock clock' clock'' before
          stop.0 stop.1.0 stop.1.1,
    )
stopped_cause is_peer port count number sink sink' sink'' net net' net'' clock clock' clock''
    status.Sink few before stop =
    rose_behind sink.faults sink'.faults sink''.faults before.took.faults stop
stopped_cause is_peer port count number sink sink' sink'' net net' net'' clock clock' clock''
    status.Memory few before stop = tt
stopped_cause is_peer port count number sink sink' sink'' net net' net'' clock clock' clock''
    status.Done few before stop = absurd stop
stopped_cause is_peer port count number sink sink' sink'' net net' net'' clock clock' clock''
    status.Words few before stop = absurd stop
stopped_cause is_peer port count number sink sink' sink'' net net' net'' clock clock' clock''
    status.Script few before stop = absurd stop
stopped_cause is_peer port count number sink sink' sink'' net net' net'' clock clock' clock''
    status.Source few before stop = absurd stop
