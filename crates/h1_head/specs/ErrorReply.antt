-- A reply that tells an error, and that no cache keeps (RFC 9111, section 5.2.2).
use Rattle.std.specs.Prelude.{ℕ, [], ◌∷◌, codes}
use Rattle.h1_head.specs.Response.{new_response}
use Rattle.h1_head.specs.Views.{ResponseView}

abbrev pub error_response : ℕ → ResponseView
error_response status =
    record (new_response status) {
      fields = (codes "Server", codes "Pingora")
          ∷ (codes "Date", codes "Sun, 06 Nov 1994 08:49:37 GMT")
          ∷ (codes "Content-Length", codes "0")
          ∷ (codes "Cache-Control", codes "private, no-store") ∷ [];
    }
