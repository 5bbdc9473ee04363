-- Each take uses up a job, and a unit has two; a removal gives none back.
use Rattle.std.proofs.Common.{◌≡◌, ℕ, ◌+◌, ◌≤◌, true, List, [], ◌∷◌, ◌++◌, ◌⊎◌, inl, inr, ap, arith}
use Rattle.std.specs.List.{AllByRecursion}
use Rattle.orc_ids.specs.declared.ids.TrackId.{TrackId}
use Rattle.session_model.specs.Answer.{Answers}
use Rattle.session_model.specs.History.{LegalFrom}
use Rattle.session_model.specs.Meaning.{Meaning}
use Rattle.session_model.specs.Plain.{Plain}
use Rattle.session_model.specs.State.{after, state_from}
use Rattle.session_model.specs.declared.entry.Entry.{Entry}
use Rattle.session_model.specs.declared.entry.Event.TheVariants as event
use Rattle.session_laws.proofs.Declared.{sound_after, after_rises}
use Rattle.session_laws.specs.Sound.{IsSound}
use Rattle.run_laws.proofs.Calm.{is_call}
use Rattle.run_laws.proofs.Falling.{all_left, is_take, left_rises, takes, takes_within, total}
use Rattle.generated_session.proofs.Frames.{IsClient, client_cases, client_many}

call_uses : (jmax : ℕ) (past : List (Entry Meaning)) (m : Plain) (e : Entry Meaning) → IsSound m → Answers jmax past m e.seat.0 e.event e.reply → IsClient e → m.generators ≡ [] → takes e + all_left (after m e).units ≤ all_left m.units
call_uses jmax past m e s a client none = split (client_cases e.event client)
  where
    split : (is_call e.event ≡ true) ⊎ ((t : TrackId) × (e.event ≡ event.Remove t)) → takes e + all_left (after m e).units ≤ all_left m.units
    split (inl call) = let used = takes_within jmax past m (e ∷ []) (a, tt) (call, tt) none s in omega (arith, used)
    split (inr (t, is)) =
        let zero_takes : takes e ≡ 0 = ap is_take is in
        omega (arith, zero_takes, left_rises m.units (after m e).units (client_many m e client none).units (after_rises jmax past m e s a))

-- among the client's calls there are no more takes than there are jobs left
pub takes_few : (jmax : ℕ) (past : List (Entry Meaning)) (m : Plain) (es : List (Entry Meaning)) → LegalFrom jmax past m es → AllByRecursion IsClient es → m.generators ≡ [] → IsSound m → total takes es + all_left (state_from m es).units ≤ all_left m.units
takes_few jmax past m [] l calls none s = omega arith
takes_few jmax past m (e ∷ es) l calls none s =
    omega (arith, call_uses jmax past m e s l.0 calls.0 none, takes_few jmax (past ++ e ∷ []) (after m e) es l.1 calls.1 (client_many m e calls.0 none).generators (sound_after jmax past m e s l.0))
