-- The plan of a set-up and one client.
use Rattle.std.proofs.Common.{◌≡◌, ℕ, List, [], ◌∷◌, length, map, Option, ◌∙◌, ap, ap₂, arith}
use Rattle.std.specs.Prelude.{All}
use Rattle.std.proofs.lemmas.List.Elements.{All-cons, All-nil}
use Rattle.orc_ids.specs.declared.lookup.Outcome.{Outcome}
use Rattle.script_model.specs.Asking.{Line, Script}
use Rattle.script_model.specs.Plans.{CanCall, event_of, line_of}
use Rattle.script_model.specs.declared.calls.ClientCall.{ClientCall}
use Rattle.script_model.specs.declared.calls.SetUpCall.{SetUpCall}
use Rattle.session_model.specs.Meaning.{Meaning}
use Rattle.session_model.specs.declared.entry.Event.{Event}
use Rattle.generated_session.specs.Scripts.{client_lines}
use Rattle.generated_session.specs.Plans.{IsGenerated, IsSetUp}
use Rattle.generated_session.proofs.Clients.{can_call_all}

abbrev script_with : List (Event Meaning) → List (List Line) → Script
script_with set_up clients = record { set_up = set_up; clients = clients }

module _ {U N C : Type 0} (means : U → Meaning) (items : C → List (ClientCall U N)) where
  -- the lines of one client are those of the session
  pub one_client : (n : ℕ) (clients : List C) (client : C) → clients ≡ client ∷ [] → map (line_of means) (items client) ≡ client_lines n → map (λ c. map (line_of means) (items c)) clients ≡ client_lines n ∷ []
  one_client n clients client one lines = ap (map (λ c. map (line_of means) (items c))) one ∙ ap (λ (ls : List Line). ls ∷ []) lines

  pub is_generated : (n : ℕ) (set_up : List (SetUpCall U)) (clients : List C) → IsSetUp n (map (event_of means) set_up) → map (λ c. map (line_of means) (items c)) clients ≡ client_lines n ∷ [] →
      IsGenerated n (record { set_up = map (event_of means) set_up; clients = map (λ c. map (line_of means) (items c)) clients })
  is_generated n set_up clients is are = (is.0, is.1, ap₂ script_with is.2 are)

  pub clients_can_call : (heard : N → Option Outcome) (number : N → ℕ) (n : ℕ) (clients : List C) → map (λ c. map (line_of means) (items c)) clients ≡ client_lines n ∷ [] → All (λ c. All (CanCall means heard number) (items c)) clients
  clients_can_call heard number n [] are = All-nil (λ c. All (CanCall means heard number) (items c))
  clients_can_call heard number n (c ∷ []) are =
      let lines : map (line_of means) (items c) ≡ client_lines n = cc in
      All-cons (λ c. All (CanCall means heard number) (items c)) c [] (can_call_all means heard number n (items c) lines) (All-nil (λ c. All (CanCall means heard number) (items c)))
  clients_can_call heard number n (c ∷ d ∷ cs) are = let count = ap length are in absurd (omega (arith, count))
