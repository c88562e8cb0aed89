-- What the calls of a subrequest's session take and put, and what they answer.
use Rattle.std.specs.Prelude.{◌≡◌, ℕ, ◌⊎◌, Bool, true, false, ◌||◌, List, Option, Some, None, Result, Ok, Err}
use Rattle.h1_error.specs.Memory.{no_memory}
use Rattle.h1_error.specs.declared.error.ErrorType.TheVariants as kind
use Rattle.h1_fields.specs.Lines.{Line}
use Rattle.h1_subrequest.specs.Words.{Error, ErrorType, Header, HttpTask, ParseState, Pending, Poll, Ready, RequestView, ResponseView, Trailer}
use Rattle.h1_subrequest.specs.Events.{reader_behind}
use Rattle.h1_subrequest.specs.ReadBody.{Answer, ReadBy}
use Rattle.h1_subrequest.specs.Reading.{finished}
use Rattle.h1_subrequest.specs.SessionView.{SubSession}
use Rattle.h1_subrequest.specs.Upgrade.{completes, is_last}
use Rattle.h1_subrequest.specs.WriteBody.{Count, EndsBody, Offers, WritesPiece, failed}
use Rattle.h1_subrequest.specs.Writing.{done_passing, header_mode}

-- the refusal in an answer
abbrev pub refusal_in : {T : Type 0} → Poll (Result T Error) → Option Error
refusal_in (Ready (Err error)) = Some error
refusal_in (Ready (Ok value)) = None
refusal_in Pending = None

-- A read is that of the reader, and a refusal of it is answered again, with nothing taken.
abbrev pub ReadsBody : {X R : Type 0} → (R → List HttpTask → R → Type 0) → Type 0 → Type 0
    → SubSession X R → SubSession X R → Option Error → Poll Answer → Type 0
ReadsBody takes empty ended s s' (Some error) result =
    (s' ≡ record s { used = true }) × (result ≡ Ready (Err error))
ReadsBody takes empty ended s s' None result =
    ReadBy takes empty ended s.rx s'.rx s.reader s'.reader result
    × (s' ≡ record s {
      rx = s'.rx;
      reader = s'.reader;
      used = true;
      read_refused = refusal_in result;
    })

-- no header follows the one that was put last
abbrev pub is_ended : Option ResponseView → Bool
is_ended None = false
is_ended (Some header) = is_last header

-- Behind a header that was put, as in the core. One that changes the protocol moves the reader too.
abbrev pub headed : {X R : Type 0} → SubSession X R → RequestView → ResponseView → SubSession X R
headed s read header = record s {
  reader = reader_behind read false (Header header false) s.reader;
  used = s.used || completes read header;
  writer = header_mode read header s.writer;
  written = Some header;
}

-- A refusal is answered again, and drops the header. One behind a final header or a 101 is dropped.
-- Any other is put as it is, with no end mark. It stays where four tasks are there, and where there
-- is no memory.
abbrev pub WritesHeader : {X R : Type 0} → (X → List HttpTask → X → Type 0) → Type 0 → Type 0
    → RequestView → SubSession X R → SubSession X R → Option Error → Bool → Option ResponseView
    → Option ResponseView → Poll (Result (Unit {0}) Error) → Type 0
WritesHeader puts full gone read s s' (Some error) ended header header' result =
    (s' ≡ s) × (header' ≡ None) × (result ≡ Ready (Err error))
WritesHeader puts full gone read s s' None true header header' result =
    (s' ≡ s) × (header' ≡ None) × (result ≡ Ready (Ok tt))
WritesHeader puts full gone read s s' None false None header' result = ⊥
WritesHeader puts full gone read s s' None false (Some header) header' result =
    ((s' ≡ s) × (header' ≡ Some header) × (result ≡ Ready (Err no_memory)))
    ⊎ Offers puts full gone s.tx s'.tx (Header header false)
    ((s' ≡ record (headed s read header) { tx = s'.tx }) × (header' ≡ None)
    × (result ≡ Ready (Ok tt)))
    ((s' ≡ record s { tx = s'.tx }) × (header' ≡ Some header) × (result ≡ Pending))
    ((s' ≡ record s {
      tx = s'.tx;
      write_refused = Some (record { kind = kind.WriteError; retry = false });
    }) × (header' ≡ None) × (result ≡ Ready (failed kind.WriteError)))

-- A receiver that is gone is the refusal that lasts. A body that ends too early is refused once.
abbrev pub lasting : ErrorType → Error → Option Error
lasting kind.WriteError error = Some error
lasting other error = None

abbrev pub lasting_in : Poll Count → Option Error
lasting_in (Ready (Err error)) = lasting error.kind error
lasting_in (Ready (Ok count)) = None
lasting_in Pending = None

-- A write is that of the writer. A refusal is answered again, and drops the piece.
abbrev pub WritesBody : {X R : Type 0} → (X → List HttpTask → X → Type 0) → Type 0 → Type 0
    → SubSession X R → SubSession X R → Option Error → Option (List ℕ) → Option (List ℕ)
    → Poll Count → Type 0
WritesBody puts full gone s s' (Some error) piece piece' result =
    (s' ≡ s) × (piece' ≡ None) × (result ≡ Ready (Err error))
WritesBody puts full gone s s' None piece piece' result =
    WritesPiece puts full gone s.tx s'.tx s.writer s'.writer piece piece' result
    × (s' ≡ record s {
      tx = s'.tx;
      writer = s'.writer;
      write_refused = lasting_in result;
    })

-- the end of a response that changed the protocol, where it was put, ends the request's body
abbrev pub done_behind : Bool → Poll Count → ParseState → ParseState
done_behind true (Ready (Ok (Some count))) reader = finished reader
done_behind upgraded result reader = reader

-- An end is that of the writer. A refusal is answered again.
abbrev pub EndsWriting : {X R : Type 0} → (X → List HttpTask → X → Type 0) → Type 0 → Type 0
    → Bool → SubSession X R → SubSession X R → Option Error → Poll Count → Type 0
EndsWriting puts full gone upgraded s s' (Some error) result =
    (s' ≡ s) × (result ≡ Ready (Err error))
EndsWriting puts full gone upgraded s s' None result =
    EndsBody puts full gone s.tx s'.tx s.writer s'.writer (done_passing s.writer) result
    × (s' ≡ record s {
      tx = s'.tx;
      writer = s'.writer;
      reader = done_behind upgraded result s.reader;
      write_refused = lasting_in result;
    })

-- the fields in a task
abbrev pub fields_in : HttpTask → Option (List Line)
fields_in (Trailer fields) = fields
fields_in task = None

-- Trailer fields are put as a task. A refusal is answered again, and drops them.
abbrev pub WritesTrailers : {X R : Type 0} → (X → List HttpTask → X → Type 0) → Type 0 → Type 0
    → SubSession X R → SubSession X R → Option Error → Option (List Line) → Option (List Line)
    → Poll (Result (Unit {0}) Error) → Type 0
WritesTrailers puts full gone s s' (Some error) fields fields' result =
    (s' ≡ s) × (fields' ≡ None) × (result ≡ Ready (Err error))
WritesTrailers puts full gone s s' None None fields' result = ⊥
WritesTrailers puts full gone s s' None (Some fields) fields' result =
    Offers puts full gone s.tx s'.tx (Trailer (Some fields))
    ((s' ≡ record s { tx = s'.tx }) × (fields' ≡ None) × (result ≡ Ready (Ok tt)))
    ((s' ≡ record s { tx = s'.tx }) × (fields' ≡ Some fields) × (result ≡ Pending))
    ((s' ≡ record s {
      tx = s'.tx;
      write_refused = Some (record { kind = kind.WriteError; retry = false });
    }) × (fields' ≡ None) × (result ≡ Ready (failed kind.WriteError)))
