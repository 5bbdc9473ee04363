-- What a right reply tells of the dylibs and trackers that its change is about.
use Rattle.std.proofs.Common.{◌≡◌, ℕ, ◌<◌, Bool, true, false, not, ◌&&◌, ◌==◌, List, [], ◌∷◌, length, slice_get, subst, sym, refl, ap, ◌∙◌, Option, Some, None}
use Rattle.std.specs.Bool.{⊤}
use Rattle.std.specs.Option.{option_map_or}
use Rattle.std.proofs.lemmas.Bool.{both_ways, and_parts, eqb-true, ltb-true, not-true}
use Rattle.std.proofs.lemmas.Option.{none-some}
use Rattle.orc_ids.specs.declared.ids.DylibId.{DylibId}
use Rattle.orc_ids.specs.declared.ids.TrackId.{TrackId}
use Rattle.session_model.specs.Lists.{only_if, or_else}
use Rattle.session_model.specs.Answer.{Answers, no_dylib, tracker_gone, not_tracker_of, answer_tracker, answer_attach, answer_define, answer_move, answer_unit}
use Rattle.session_model.specs.Change.{change_of}
use Rattle.session_model.specs.Meaning.{Meaning}
use Rattle.session_model.specs.Plain.{Plain, has_dylib, has_tracker, is_tracker_of, tracker_dylib}
use Rattle.session_model.specs.declared.change.Change.{Change}
use Rattle.session_model.specs.declared.change.Change.TheVariants.{MakeTracker, Attach, Define, Move}
use Rattle.session_model.specs.declared.entry.Entry.{Entry}
use Rattle.session_model.specs.declared.entry.Event.{Event}
use Rattle.session_model.specs.declared.entry.Event.TheVariants as event
use Rattle.session_model.specs.declared.entry.Reply.{Reply}
use Rattle.session_model.specs.declared.entry.Reply.TheVariants as reply
use Rattle.session_model.specs.declared.rows.Track.{Track}
use Rattle.session_laws.proofs.Declared.{AllReplies, replies_first, replies_only, none_given}
use Rattle.closure_laws.specs.Homes.{IsTrackerIn}

-- the tracker is there, and not gone
abbrev pub IsUngone : Plain → ℕ → Type 0
IsUngone m t = (x : Track) × (slice_get m.trackers t ≡ Some x) × (x.gone ≡ false)

-- the dylib or tracker that a change is about is there
abbrev pub HomeGuard : Plain → Change Meaning → Type 0
HomeGuard m (MakeTracker d) = d.0 < length m.dylibs
HomeGuard m (Attach d t u) = IsTrackerIn m d.0 t.0 × IsUngone m t.0
HomeGuard m (Define d t u found) = IsTrackerIn m d.0 t.0
HomeGuard m (Move t to) = (d : ℕ) × IsTrackerIn m d t.0 × IsTrackerIn m d to.0 × IsUngone m to.0
HomeGuard m _ = ⊤

-- Replies that were not given

unless : (b : Bool) (r : Reply) → only_if (not b) r ≡ None → b ≡ true
unless true r e = refl
unless false r e = absurd (none-some r (sym e))

dylib_there : (m : Plain) (d : DylibId) → no_dylib m (d ∷ []) ≡ None → d.0 < length m.dylibs
dylib_there m d e = ltb-true d.0 (length m.dylibs) (unless (has_dylib m d.0) (reply.NoDylib d) (first (only_if (not (has_dylib m d.0)) (reply.NoDylib d)) e))
  where
    first : (o : Option Reply) → or_else o None ≡ None → o ≡ None
    first None e = refl
    first (Some r) e = e

no_dylib_other : (test : Reply → Bool) → ((d : DylibId) → test (reply.NoDylib d) ≡ false) → (m : Plain) (ds : List DylibId) → AllReplies (λ r. test r ≡ false) (no_dylib m ds)
no_dylib_other test h m ds = replies_first (λ r. test r ≡ false) (λ (d : DylibId). only_if (not (has_dylib m d.0)) (reply.NoDylib d)) (λ d. replies_only (λ r. test r ≡ false) (not (has_dylib m d.0)) (reply.NoDylib d) (h d)) ds

tracker_in : (m : Plain) (d : DylibId) (t : TrackId) → not_tracker_of m d t ≡ None → IsTrackerIn m d.0 t.0
tracker_in m d t e = split (slice_get m.trackers t.0) refl (unless (is_tracker_of m d.0 t.0) (reply.TrackerGone t) e)
  where
    split : (o : Option Track) → slice_get m.trackers t.0 ≡ o → option_map_or (λ (x : Track). not x.gone && x.dylib == d.0) o false ≡ true → IsTrackerIn m d.0 t.0
    split None is h = absurd (both_ways false refl h)
    split (Some x) is h = (x, is, eqb-true x.dylib d.0 (and_parts (not x.gone) (x.dylib == d.0) h).1)

tracker_there : (m : Plain) (t : TrackId) → tracker_gone m t ≡ None → IsTrackerIn m (tracker_dylib m t.0) t.0
tracker_there m t e = split (slice_get m.trackers t.0) refl (unless (has_tracker m t.0) (reply.TrackerGone t) e)
  where
    split : (o : Option Track) → slice_get m.trackers t.0 ≡ o → option_map_or (λ (x : Track). not x.gone) o false ≡ true → IsTrackerIn m (tracker_dylib m t.0) t.0
    split None is h = absurd (both_ways false refl h)
    split (Some x) is h = (x, is, sym (ap (λ o. option_map_or (λ (y : Track). y.dylib) o 0) is))

tracker_ungone : (m : Plain) (t : TrackId) → tracker_gone m t ≡ None → IsUngone m t.0
tracker_ungone m t e = split (slice_get m.trackers t.0) refl (unless (has_tracker m t.0) (reply.TrackerGone t) e)
  where
    split : (o : Option Track) → slice_get m.trackers t.0 ≡ o → option_map_or (λ (x : Track). not x.gone) o false ≡ true → IsUngone m t.0
    split None is h = absurd (both_ways false refl h)
    split (Some x) is h = (x, is, not-true x.gone h)

tracker_of_ungone : (m : Plain) (d : DylibId) (t : TrackId) → not_tracker_of m d t ≡ None → IsUngone m t.0
tracker_of_ungone m d t e = split (slice_get m.trackers t.0) refl (unless (is_tracker_of m d.0 t.0) (reply.TrackerGone t) e)
  where
    split : (o : Option Track) → slice_get m.trackers t.0 ≡ o → option_map_or (λ (x : Track). not x.gone && x.dylib == d.0) o false ≡ true → IsUngone m t.0
    split None is h = absurd (both_ways false refl h)
    split (Some x) is h = (x, is, not-true x.gone (and_parts (not x.gone) (x.dylib == d.0) h).0)

-- The four changes

abbrev is_tracker : Reply → Bool
is_tracker (reply.Tracker t) = true
is_tracker _ = false

abbrev is_generator : Reply → Bool
is_generator (reply.Generator g) = true
is_generator _ = false

abbrev is_defined : Reply → Bool
is_defined (reply.Defined u first count) = true
is_defined _ = false

abbrev is_moved : Reply → Bool
is_moved reply.Moved = true
is_moved _ = false

tracker_made : (m : Plain) (d : DylibId) → is_tracker (answer_tracker m d) ≡ true → d.0 < length m.dylibs
tracker_made m d e = dylib_there m d (none_given is_tracker (no_dylib m (d ∷ [])) _ (no_dylib_other is_tracker (λ k. refl) m (d ∷ [])) e).0

attached_in : (m : Plain) (d : DylibId) (t : TrackId) → is_generator (answer_attach m d t) ≡ true → IsTrackerIn m d.0 t.0 × IsUngone m t.0
attached_in m d t e =
    let rest = (none_given is_generator (no_dylib m (d ∷ [])) _ (no_dylib_other is_generator (λ k. refl) m (d ∷ [])) e).1 in
    let its = (none_given is_generator (not_tracker_of m d t) _ (replies_only (λ r. is_generator r ≡ false) (not (is_tracker_of m d.0 t.0)) (reply.TrackerGone t) refl) rest).0 in
    (tracker_in m d t its, tracker_of_ungone m d t its)

defined_in : (m : Plain) (d : DylibId) (t : TrackId) (u : Meaning) → is_defined (answer_define m d t u) ≡ true → IsTrackerIn m d.0 t.0
defined_in m d t u e =
    let rest = (none_given is_defined (no_dylib m (d ∷ [])) _ (no_dylib_other is_defined (λ k. refl) m (d ∷ [])) e).1 in
    tracker_in m d t (none_given is_defined (not_tracker_of m d t) (answer_unit m d.0 u) (replies_only (λ r. is_defined r ≡ false) (not (is_tracker_of m d.0 t.0)) (reply.TrackerGone t) refl) rest).0

moved_in : (m : Plain) (t to : TrackId) → is_moved (answer_move m t to) ≡ true → (d : ℕ) × IsTrackerIn m d t.0 × IsTrackerIn m d to.0 × IsUngone m to.0
moved_in m t to e =
    let a = none_given is_moved (tracker_gone m t) _ (replies_only (λ r. is_moved r ≡ false) (not (has_tracker m t.0)) (reply.TrackerGone t) refl) e in
    let b = none_given is_moved (tracker_gone m to) _ (replies_only (λ r. is_moved r ≡ false) (not (has_tracker m to.0)) (reply.TrackerGone to) refl) a.1 in
    let c = none_given is_moved (only_if (not (tracker_dylib m t.0 == tracker_dylib m to.0)) reply.OtherDylib) reply.Moved (replies_only (λ r. is_moved r ≡ false) (not (tracker_dylib m t.0 == tracker_dylib m to.0)) reply.OtherDylib refl) b.1 in
    let same = eqb-true (tracker_dylib m t.0) (tracker_dylib m to.0) (unless (tracker_dylib m t.0 == tracker_dylib m to.0) reply.OtherDylib c.0) in
    (tracker_dylib m t.0, tracker_there m t a.0, subst (λ d. IsTrackerIn m d to.0) (sym same) (tracker_there m to b.0), tracker_ungone m to b.0)

tracker_home : (m : Plain) (s : ℕ) (d : DylibId) (r : Reply) → (is_tracker r ≡ true → d.0 < length m.dylibs) → HomeGuard m (change_of m s (event.Tracker d) r)
tracker_home m s d (reply.Tracker t) h = h refl
tracker_home m s d (reply.Defunct u) h = tt
tracker_home m s d _ h = tt

attach_home : (m : Plain) (s : ℕ) (d : DylibId) (t : TrackId) (u : Meaning) (r : Reply) → (is_generator r ≡ true → IsTrackerIn m d.0 t.0 × IsUngone m t.0) → HomeGuard m (change_of m s (event.Attach d t u) r)
attach_home m s d t u (reply.Generator g) h = h refl
attach_home m s d t u (reply.Defunct v) h = tt
attach_home m s d t u _ h = tt

define_home : (m : Plain) (s : ℕ) (d : DylibId) (t : TrackId) (u : Meaning) (r : Reply) → (is_defined r ≡ true → IsTrackerIn m d.0 t.0) → HomeGuard m (change_of m s (event.Define d t u) r)
define_home m s d t u (reply.Defined v first count) h = h refl
define_home m s d t u (reply.Defunct v) h = tt
define_home m s d t u _ h = tt

move_home : (m : Plain) (s : ℕ) (t to : TrackId) (r : Reply) → (is_moved r ≡ true → (d : ℕ) × IsTrackerIn m d t.0 × IsTrackerIn m d to.0 × IsUngone m to.0) → HomeGuard m (change_of m s (event.MoveTracker t to) r)
move_home m s t to reply.Moved h = h refl
move_home m s t to (reply.Defunct u) h = tt
move_home m s t to _ h = tt

-- an event of another kind makes none of them
abbrev is_other : Event Meaning → Bool
is_other (event.Tracker d) = false
is_other (event.Attach d t u) = false
is_other (event.Define d t u) = false
is_other (event.MoveTracker t to) = false
is_other _ = true

other_home : (m : Plain) (s : ℕ) (e : Event Meaning) (r : Reply) → is_other e ≡ true → HomeGuard m (change_of m s e r)
other_home m s (event.Tracker d) r o = absurd (both_ways false refl o)
other_home m s (event.Attach d t u) r o = absurd (both_ways false refl o)
other_home m s (event.Define d t u) r o = absurd (both_ways false refl o)
other_home m s (event.MoveTracker t to) r o = absurd (both_ways false refl o)
other_home m s (event.Dylib name) (reply.Defunct v) o = tt
other_home m s (event.Dylib name) _ o = tt
other_home m s (event.SetOrder d order) (reply.Defunct v) o = tt
other_home m s (event.SetOrder d order) _ o = tt
other_home m s (event.Generate g) (reply.Defunct v) o = tt
other_home m s (event.Generate g) _ o = tt
other_home m s (event.Ask order wanted lev n) (reply.Defunct v) o = tt
other_home m s (event.Ask order wanted lev n) _ o = tt
other_home m s (event.Collect q) (reply.Defunct v) o = tt
other_home m s (event.Collect q) _ o = tt
other_home m s event.Take (reply.Defunct v) o = tt
other_home m s event.Take _ o = tt
other_home m s (event.Place u shape) (reply.Defunct v) o = tt
other_home m s (event.Place u shape) _ o = tt
other_home m s (event.Resolve u) (reply.Defunct v) o = tt
other_home m s (event.Resolve u) _ o = tt
other_home m s (event.Link u) (reply.Defunct v) o = tt
other_home m s (event.Link u) _ o = tt
other_home m s (event.Emit u groups) (reply.Defunct v) o = tt
other_home m s (event.Emit u groups) _ o = tt
other_home m s (event.Fail u cause) (reply.Defunct v) o = tt
other_home m s (event.Fail u cause) _ o = tt
other_home m s (event.Remove t) (reply.Defunct v) o = tt
other_home m s (event.Remove t) _ o = tt
other_home m s event.Image (reply.Defunct v) o = tt
other_home m s event.Image _ o = tt

pub home_guard : (jmax : ℕ) (past : List (Entry Meaning)) (m : Plain) (s : ℕ) (e : Event Meaning) (r : Reply) → Answers jmax past m s e r → HomeGuard m (change_of m s e r)
home_guard jmax past m s (event.Tracker d) r a = tracker_home m s d r (λ f. tracker_made m d (ap is_tracker (sym a) ∙ f))
home_guard jmax past m s (event.Attach d t u) r a = attach_home m s d t u r (λ f. attached_in m d t (ap is_generator (sym a.1) ∙ f))
home_guard jmax past m s (event.Define d t u) r a = define_home m s d t u r (λ f. defined_in m d t u (ap is_defined (sym a.1) ∙ f))
home_guard jmax past m s (event.MoveTracker t to) r a = move_home m s t to r (λ f. moved_in m t to (ap is_moved (sym a) ∙ f))
home_guard jmax past m s e r a = other_home m s e r refl
