-- The exchanges of a transcript, and how many of them have a reply.
use Rattle.std.specs.Prelude.{◌≡◌, ◌≤◌, ℕ, List, [], ◌++◌, option_to_list, Option, Some, None, ◌+◌, ◌∷◌, Bool, false, replicate, map, take, length}
use Rattle.std.specs.List.{flat_map}
use Rattle.h1_transcript.specs.Words.{Entry, History, Holding, Open, Reply, RequestView, Settings}
use Rattle.h1_transcript.specs.declared.history.History.TheVariants as history

-- what is held of exchanges, those that ended, and the one that goes on
pub record TranscriptView : Type 0 where
  pub holding : Holding
  pub done : List Entry
  pub last : Option Entry

-- the exchanges that were noted so
abbrev pub exchanges_of : List (Entry × Unit {0}) → List Entry
exchanges_of past = map (λ p. p.0) past

-- where exchanges are kept, none was forgotten; else one is in memory at most
abbrev pub KeepsBy : History → List Entry → List Entry → Type 0
KeepsBy history.Kept past entries = past ≡ []
KeepsBy history.Forgotten past entries = length entries ≤ 1

-- those that ended: those that were forgotten, or so many of those in memory
abbrev pub ended_entries : History → List Entry → ℕ → List Entry → List Entry
ended_entries history.Kept past ended entries = take ended entries
ended_entries history.Forgotten past ended entries = past

-- the transcript as it is kept
abbrev pub transcript_entries : TranscriptView → List Entry
transcript_entries transcript = transcript.done ++ option_to_list transcript.last

-- the bodies of these exchanges, as they were read
abbrev pub bodies : List Entry → List ℕ
bodies exchanges = flat_map (λ e. e.body) exchanges

-- the transcript with this exchange as the one that goes on
abbrev pub with_last : TranscriptView → Entry → TranscriptView
with_last transcript e = record transcript { last = Some e }

-- an exchange of which nothing was read after its head
abbrev pub new_entry : Holding → Settings → Bool → RequestView → Entry
new_entry holding settings both head =
    record {
      holding = holding;
      head = head;
      filtered = Some head;
      body = [];
      handed = 0;
      body_error = None;
      read_limit = None;
      how = Open;
      began = settings;
      left = settings;
      reply = None;
      sent_head = None;
      sent_body = None;
      written = 0;
      date = 0;
      date_text = replicate 29 0;
      both = both;
      keep = false;
      owed = false;
    }

-- how many of these exchanges have a reply
abbrev pub replies : List Entry → ℕ
replies [] = 0
replies (e ∷ more) = count e.reply + replies more where
  count : Option Reply → ℕ
  count None = 0
  count (Some reply) = 1
