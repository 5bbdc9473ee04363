-- What is known of a session is known of it where it is lent.
use Rattle.std.proofs.Common.{◌≡◌, ℕ, List, Result, sym, subst}
use Rattle.orc_ids.specs.declared.ids.SeatNo.{SeatNo}
use Rattle.orc_ids.specs.declared.ids.UnitId.{UnitId}
use Rattle.orc_ids.specs.declared.lookup.Stop.{Stop}
use Rattle.session_model.specs.Meaning.{Meaning}
use Rattle.session_model.specs.History.{IsLegal}
use Rattle.session_model.specs.State.{plain_history}
use Rattle.session_model.specs.declared.entry.Entry.{Entry}
use Rattle.session_model.specs.declared.entry.Event.{Event}
use Rattle.session_model.specs.declared.entry.Reply.{Reply}
use Rattle.session_steps.specs.Log.{Log}
use Rattle.session_steps.specs.Performs.{Performs}
use Rattle.history_laws.specs.Notes.{AreNoted}
use Rattle.shared_session.specs.Does.{HolderIsAnswered}

module _ {U N : Type 0} (means : U → Meaning) (lent home : Log U N) (same : lent ≡ home) where
  pub legal_lent : (jmax : ℕ) → IsLegal jmax (plain_history means home.journal) → IsLegal jmax (plain_history means lent.journal)
  legal_lent jmax legal = subst (λ (s : Log U N). IsLegal jmax (plain_history means s.journal)) (sym same) legal

  pub noted_lent : AreNoted (plain_history means home.journal) home.armed → AreNoted (plain_history means lent.journal) lent.armed
  noted_lent noted = subst (λ (s : Log U N). AreNoted (plain_history means s.journal) s.armed) (sym same) noted

  -- what it did where it was lent it did at home
  pub performs_home : (jmax : ℕ) (new : List (Entry U)) (s : SeatNo) (e : Event U) (answer : Result Reply Stop) →
      Performs means jmax lent.journal new s e answer → Performs means jmax home.journal new s e answer
  performs_home jmax new s e answer did = subst (λ (x : Log U N). Performs means jmax x.journal new s e answer) same did

  pub held_home : (jmax s : ℕ) (new : List (Entry U)) (u : UnitId) (answer : Result Reply Stop) →
      HolderIsAnswered means jmax s lent.journal new u answer → HolderIsAnswered means jmax s home.journal new u answer
  held_home jmax s new u answer held = subst (λ (x : Log U N). HolderIsAnswered means jmax s x.journal new u answer) same held
