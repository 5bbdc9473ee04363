-- A list of calls, call by call.
use Rattle.std.proofs.Common.{◌≡◌, ℕ, List, [], ◌∷◌, ◌++◌, length, slice_get, Some, Ok, Err, subst, sym, ap, refl, ◌∙◌}
use Rattle.std.specs.Iterator.{Yields}
use Rattle.std.specs.Vec.Iter.{into_iter_items, into_iter_steps}
use Rattle.std.specs.declared.vec.IntoIter.{IntoIter}
use Rattle.std.proofs.lemmas.List.{take_at}
use Rattle.orc_ids.specs.declared.lookup.Stop.{Stop}
use Rattle.session_model.specs.Meaning.{Meaning}
use Rattle.session_model.specs.declared.entry.Entry.{Entry}
use Rattle.session_model.specs.declared.entry.Reply.{Reply}
use Rattle.session_player.specs.Fits.{EachFits}
use Rattle.session_player.specs.Plays.{Does, Plays, IsStoppedAt}
use Rattle.session_player.specs.declared.call.SeatCall.{SeatCall}
use Rattle.session_player.proofs.Growing.{does_stay}

-- what the iterator of a vector has given is a front of its items
pub taken_front : {X A : Type 0} (s : IntoIter X A) (xs : List X) (t : IntoIter X A) → Yields into_iter_steps s xs t → into_iter_items s ≡ xs ++ into_iter_items t
taken_front s [] t y = ap into_iter_items y
taken_front s (x ∷ xs) t y = y.1.0 ∙ ap (λ ys. x ∷ ys) (taken_front y.0 xs t y.2)

after_front : {X : Type 0} (xs ys : List X) (y : X) → slice_get (xs ++ y ∷ ys) (length xs) ≡ Some y
after_front [] ys y = refl
after_front (x ∷ xs) ys y = after_front xs ys y

module _ {U : Type 0} (means : U → Meaning) (jmax : ℕ) where
  pub plays_push : (cs : List (SeatCall U)) (c : SeatCall U) (r : Reply) (old mid new : List (Entry U)) → Plays means jmax cs old mid → Does means jmax mid new c.seat c.call (Ok r) → Plays means jmax (cs ++ c ∷ []) old new
  plays_push [] c r old mid new p d = (new, r, subst (λ h. Does means jmax h new c.seat c.call (Ok r)) p d, refl)
  plays_push (x ∷ cs) c r old mid new p d = (p.0, p.1, p.2, plays_push cs c r p.0 mid new p.3 d)

  pub fits_on : (xs ys : List (SeatCall U)) (h mid : List (Entry U)) → EachFits means jmax h (xs ++ ys) → Plays means jmax xs h mid → EachFits means jmax mid ys
  fits_on [] ys h mid f p = subst (λ g. EachFits means jmax g ys) (sym p) f
  fits_on (x ∷ xs) ys h mid f p = fits_on xs ys p.0 mid (f.1 p.0 p.1 p.2) p.3

  -- the calls before one that is stopped were answered
  pub stopped_at : (xs ys : List (SeatCall U)) (c : SeatCall U) (why : Stop) (old mid new : List (Entry U)) → Plays means jmax xs old mid → Does means jmax mid new c.seat c.call (Err why) → IsStoppedAt means jmax (xs ++ c ∷ ys) (length xs) why old new
  stopped_at xs ys c why old mid new p d =
      let stays = does_stay means jmax mid new c.seat c.call why d in
      record {
        call = c;
        there = after_front xs ys c;
        before = subst (λ cs. Plays means jmax cs old new) (sym (take_at xs (c ∷ ys) (length xs) refl)) (subst (Plays means jmax xs old) (sym stays) p);
        stopped = subst (λ h. Does means jmax h new c.seat c.call (Err why)) (sym stays) d;
      }
