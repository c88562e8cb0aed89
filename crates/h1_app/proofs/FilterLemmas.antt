-- What the filters make of a reply, by the modules as they stand.
use Rattle.std.proofs.Common.{◌≡◌, ℕ, List, Option, None, Some, Ok, inl, refl}
use Rattle.h1_app.specs.Words.{Entry, Reply, RequestView}
use Rattle.h1_app.proofs.Words.{Chain, FiltersStay, ModulesStand, behind_header, behind_request, is_empty}

-- until a header is sent they stand behind the request's head, and they filter the header next
pub behind_asked : {M : Type 0} (chain : Chain M) (e : Entry) (modules : List M)
    (filtered : RequestView) (reply : Reply) → ModulesStand chain (Some e) modules
    → e.filtered ≡ Some filtered → e.sent_head ≡ None → e.sent_body ≡ None
    → behind_header chain e.head reply ≡ chain.header (is_empty reply.body) modules reply.header
behind_asked chain e modules filtered reply stand asked unheaded unsent =
    let stood : behind_request chain e.head ≡ Ok (modules, filtered) =
    rw (unsent, unheaded, asked) at stand in
    rw stood refl

-- what the filters made stays where more of it is written
pub filters_written : (last : Option Entry) (e : Entry) → last ≡ Some e → (written : ℕ)
    → FiltersStay last (Some (record e { written = written }))
filters_written last e is written = rw is (record {
  head = refl;
  filtered = refl;
  sent_head = refl;
  sent_body = refl;
  reply = inl refl;
})
