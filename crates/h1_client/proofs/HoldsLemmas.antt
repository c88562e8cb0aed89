-- What each step of a session does to what the bytes of its link are made of.
use Rattle.std.proofs.Common.{◌≡◌, ℕ, List, [], ◌∷◌, ◌++◌, Option, Some, None, refl, sym, ap, ◌∙◌, append-nil, append_assoc}
use Rattle.std.specs.Io.KnownBytes.{append_known}
use Rattle.h1_link.specs.LinkState.{LinkState}
use Rattle.h1_transfer.specs.Moved.{Moved}
use Rattle.h1_client.specs.Served.{Exchange, IsExchange, Serves, Served, Told, IsServed}
use Rattle.h1_client.specs.Holds.{Spans, Holds}

-- a fact of told bytes, over what a step added to them
told_on : (w g w' g' : Option (List ℕ)) (wrote read : List ℕ) (P Q : List ℕ → List ℕ → Type 0)
    → w' ≡ append_known w wrote → g' ≡ append_known g read
    → ((taken given : List ℕ) → P taken given → Q (taken ++ wrote) (given ++ read))
    → Told w g P → Told w' g' Q
told_on None g w' g' wrote read P Q is gave step told = rw is tt
told_on (Some w) None w' g' wrote read P Q is gave step told = rw (is, gave) tt
told_on (Some w) (Some g) w' g' wrote read P Q is gave step told = rw (is, gave) (step w g told)

told_map : (w g : Option (List ℕ)) (P Q : List ℕ → List ℕ → Type 0)
    → ((taken given : List ℕ) → P taken given → Q taken given) → Told w g P → Told w g Q
told_map None g P Q step told = tt
told_map (Some w) None P Q step told = tt
told_map (Some w) (Some g) P Q step told = step w g told

-- an exchange begins
pub holds_begin : (s : LinkState) → IsServed s → Holds s [] [] [] []
holds_begin s served = told_map s.written s.given Served (Spans [] [] [] [])
    (λ taken given is. record {
      taken_before = taken;
      given_before = given;
      served = is;
      took = refl;
      gave = sym (append-nil given);
    }) served

-- the link moved bytes: a piece of what is owed was written, and what was read is received
pub holds_moves : (s t : LinkState) (owed received asked used wrote read : List ℕ) (n : ℕ)
    → Moved s t read wrote n → Holds s (wrote ++ owed) received asked used → Holds t owed (received ++ read) asked used
holds_moves s t owed received asked used wrote read n moved holds =
    told_on s.written s.given t.written t.given wrote read (Spans (wrote ++ owed) received asked used) (Spans owed (received ++ read) asked used)
    moved.written moved.given
    (λ taken given is. record {
      taken_before = is.taken_before;
      given_before = is.given_before;
      served = is.served;
      took = append_assoc taken wrote owed ∙ is.took;
      gave = ap (λ bytes. bytes ++ read) is.gave ∙ append_assoc is.given_before (used ++ received) read
          ∙ ap (λ bytes. is.given_before ++ bytes) (append_assoc used received read);
    }) holds

-- more of the request is taken up
pub holds_takes : (s : LinkState) (owed received asked used more : List ℕ)
    → Holds s owed received asked used → Holds s (owed ++ more) received (asked ++ more) used
holds_takes s owed received asked used more holds =
    told_map s.written s.given (Spans owed received asked used) (Spans (owed ++ more) received (asked ++ more) used)
    (λ taken given is. record {
      taken_before = is.taken_before;
      given_before = is.given_before;
      served = is.served;
      took = sym (append_assoc taken owed more) ∙ ap (λ bytes. bytes ++ more) is.took ∙ append_assoc is.taken_before asked more;
      gave = is.gave;
    }) holds

-- received bytes are used
pub holds_uses : (s : LinkState) (owed received asked used front : List ℕ)
    → Holds s owed (front ++ received) asked used → Holds s owed received asked (used ++ front)
holds_uses s owed received asked used front holds =
    told_map s.written s.given (Spans owed (front ++ received) asked used) (Spans owed received asked (used ++ front))
    (λ taken given is. record {
      taken_before = is.taken_before;
      given_before = is.given_before;
      served = is.served;
      took = is.took;
      gave = is.gave ∙ ap (λ bytes. is.given_before ++ bytes) (sym (append_assoc used front received));
    }) holds

-- one exchange more behind whole ones
serves_on : (xs : List Exchange) (x : Exchange) (taken given : List ℕ) → Serves xs taken given → IsExchange x
    → Serves (xs ++ x ∷ []) (taken ++ x.request) (given ++ x.response)
serves_on [] x taken given serves is = (
  is,
  [],
  [],
  ap (λ bytes. bytes ++ x.request) serves.0 ∙ sym (append-nil x.request),
  ap (λ bytes. bytes ++ x.response) serves.1 ∙ sym (append-nil x.response),
  (refl, refl),
)
serves_on (y ∷ ys) x taken given serves is = (
  serves.0,
  serves.1 ++ x.request,
  serves.2 ++ x.response,
  ap (λ bytes. bytes ++ x.request) serves.3 ∙ append_assoc y.request serves.1 x.request,
  ap (λ bytes. bytes ++ x.response) serves.4 ∙ append_assoc y.response serves.2 x.response,
  serves_on ys x serves.1 serves.2 serves.5 is,
)

-- the exchange is whole, and nothing is owed or received beyond it
pub holds_ends : (s : LinkState) (x : Exchange) → IsExchange x → Holds s [] [] x.request x.response → IsServed s
holds_ends s x is holds =
    told_map s.written s.given (Spans [] [] x.request x.response) Served
    (λ taken given spans.
    let took : taken ≡ spans.taken_before ++ x.request = sym (append-nil taken) ∙ spans.took in
    let gave : given ≡ spans.given_before ++ x.response = spans.gave ∙ ap (λ bytes. spans.given_before ++ bytes) (append-nil x.response) in
    (spans.served.0 ++ x ∷ [], rw (took, gave) (serves_on spans.served.0 x spans.taken_before spans.given_before spans.served.1 is)))
    holds
