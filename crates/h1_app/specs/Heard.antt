-- What the application answered.
use Rattle.h1_app.specs.Words.{Error, Reply}

pub data Heard : Type 0 where
  Replied : Reply → Heard
  -- it waits for the body
  Reads : Heard
  -- it waits for something of its own
  Pends : Heard
  Failed : Error → Heard
