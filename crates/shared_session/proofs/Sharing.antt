-- What a call leaves a seat knowing.
use Rattle.std.proofs.Common.{◌≡◌, ℕ, List, [], ◌∷◌, ◌++◌, append-nil, Ok, Err, refl, sym, ap, subst, ◌∙◌}
use Rattle.std.proofs.lemmas.List.{append_cancel_left}
use Rattle.orc_ids.specs.declared.lookup.Stop.TheVariants.{JournalFull, NoMemory}
use Rattle.session_model.specs.Meaning.{Meaning}
use Rattle.session_model.specs.declared.entry.Entry.{Entry}
use Rattle.turn_lock.specs.declared.view.View.{View}
use Rattle.turn_lock.specs.Passes.{Passed}
use Rattle.session_steps.specs.Performs.{IsFullAt}
use Rattle.shared_session.specs.Does.{seat}
use Rattle.shared_session.specs.Home.{IsLawful, IsPosted, seat_of}
use Rattle.shared_session.specs.SharedCalls.{HasEntered, HasLooked, CallsAreShared}

module _ {U : Type 0} (means : U → Meaning) (jmax : ℕ) (v w : View (Entry U)) (old new : List (Entry U)) (p : Passed seat_of (IsLawful means jmax) (IsPosted means) v w old new) where
  seen_is : w.seen ≡ new
  seen_is = ap (λ (x : View (Entry U)). x.seen) p.view

  -- what the history has more is what the call has made
  more_is : (more : List (Entry U)) → new ≡ old ++ more → p.more ≡ more
  more_is more grown = append_cancel_left old p.more more (sym p.grown ∙ grown)

  mine_is : (more : List (Entry U)) → new ≡ old ++ more → w.mine ≡ v.mine ++ more
  mine_is more grown = ap (λ (x : View (Entry U)). x.mine) p.view ∙ ap (λ l. v.mine ++ l) (more_is more grown)

  lawful_is : IsLawful means jmax w.seen
  lawful_is = subst (IsLawful means jmax) (sym seen_is) p.legal

  entered : (e : Entry U) → new ≡ old ++ e ∷ [] → HasEntered means jmax v w e
  entered e grown = record { before = old; later = p.shows.later; seen = seen_is ∙ grown; mine = mine_is (e ∷ []) grown; lawful = lawful_is }

  looked : new ≡ old → HasLooked means jmax v w
  looked same = record {
    later = (p.shows.later.0, seen_is ∙ (same ∙ p.shows.later.1));
    mine = mine_is [] (same ∙ sym (append-nil old)) ∙ append-nil v.mine;
    lawful = lawful_is;
  }

pub calls_are_shared : {U : Type 0} (means : U → Meaning) → CallsAreShared means
calls_are_shared means jmax v w e (Ok r) t = entered means jmax v w t.old t.new t.passed (record { seat = seat v.number; event = e; reply = r }) t.did.grown
calls_are_shared means jmax v w e (Err (JournalFull len)) t = (
  looked means jmax v w t.old t.new t.passed t.did.0,
  (refl, subst (λ h. IsFullAt means jmax h (seat v.number) e len) (sym (seen_is means jmax v w t.old t.new t.passed ∙ t.did.0)) t.did.1),
)
calls_are_shared means jmax v w e (Err NoMemory) t = (looked means jmax v w t.old t.new t.passed t.did, refl)
