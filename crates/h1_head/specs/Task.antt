-- Parts of a reply on their way to a client.
use Rattle.std.specs.Prelude.{ℕ, Bool, true, List, codes}
use Rattle.h1_head.specs.declared.task.HttpTask.{HttpTask}
use Rattle.h1_head.specs.declared.task.HttpTask.TheVariants.{Header, Body, UpgradedBody, Trailer, Done, Failed}

-- nothing follows
abbrev pub is_end : HttpTask → Bool
is_end (Header header end) = end
is_end (Body piece end) = end
is_end (UpgradedBody piece end) = end
is_end (Trailer fields) = true
is_end Done = true
is_end (Failed error) = true

-- the name of its kind
abbrev pub type_name : HttpTask → List ℕ
type_name (Header header end) = codes "Header"
type_name (Body piece end) = codes "Body"
type_name (UpgradedBody piece end) = codes "UpgradedBody"
type_name (Trailer fields) = codes "Trailer"
type_name Done = codes "Done"
type_name (Failed error) = codes "Failed"
