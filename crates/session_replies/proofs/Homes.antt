-- The dylib of a tracker that is there, as the parts and as the session have it.
use Rattle.std.proofs.Common.{◌≡◌, ℕ, Bool, true, false, not, List, slice_get, Option, Some, None, option_map, refl, ap, sym, ◌∙◌, arith}
use Rattle.std.specs.Prelude.{◌==◌, ◌&&◌, is_none, is_some, option_and_then}
use Rattle.std.specs.Option.{option_map_or}
use Rattle.std.proofs.lemmas.Bool.{and_parts}
use Rattle.std.proofs.lemmas.Option.{none-some, same_Some}
use Rattle.list_laws.proofs.Lists.{missing_past}
use Rattle.orc_ids.specs.declared.ids.DylibId.{DylibId}
use Rattle.orc_ids.specs.declared.ids.TrackId.{TrackId}
use Rattle.session_model.specs.Lists.{only_if}
use Rattle.session_model.specs.Plain.{Plain, UnitRow, GenRow, has_tracker, is_tracker_of, tracker_dylib}
use Rattle.session_model.specs.declared.rows.Track.{Track}
use Rattle.session_laws.proofs.Declared.{none_past}
use Rattle.tracker.specs.declared.owned.Owned.{Owned}
use Rattle.tracker.specs.Owners.{Owners, within}
use Rattle.session_parts.specs.Units.{AreOwners}
use Rattle.session_replies.specs.Reasons.{home_of, is_of}

-- the dylib of a tracker that isn't gone
abbrev pub home : List Track → ℕ → Option DylibId
home trackers t = option_and_then (λ (x : Track). only_if (not x.gone) (record { 0 = x.dylib })) (slice_get trackers t)

pub home_is : (owners : Owners) (trackers : List Track) (units : List UnitRow) (generators : List GenRow) (t : TrackId) → AreOwners owners trackers units generators → home_of owners t ≡ home trackers t.0
home_is owners trackers units generators t a = split (slice_get trackers t.0) refl
  where
    owned : (x : Track) → slice_get trackers t.0 ≡ Some x → (o : Option Owned) → within (slice_get owners.tracks t.0) ≡ o → home_of owners t ≡ only_if (not x.gone) (record { 0 = x.dylib })
    owned x e None f = ap (option_map (λ (o : Owned). o.dylib)) f ∙ ap (λ b. only_if (not b) (record { 0 = x.dylib })) (ap is_none (sym f) ∙ a.gone t.0 x e)
    owned x e (Some o) f = ap (option_map (λ (o : Owned). o.dylib)) f
        ∙ (ap (λ n. Some (record { 0 = n })) (a.dylibs t.0 x o e f)
        ∙ ap (λ b. only_if (not b) (record { 0 = x.dylib })) (ap is_none (sym f) ∙ a.gone t.0 x e))

    split : (x : Option Track) → slice_get trackers t.0 ≡ x → home_of owners t ≡ home trackers t.0
    split None e = ap (λ o. option_map (λ (o : Owned). o.dylib) (within o)) (none_past owners.tracks t.0 (omega (arith, missing_past trackers t.0 e, a.count)))
        ∙ sym (ap (option_and_then (λ (x : Track). only_if (not x.gone) (record { 0 = x.dylib }))) e)
    split (Some x) e = owned x e (within (slice_get owners.tracks t.0)) refl
        ∙ sym (ap (option_and_then (λ (x : Track). only_if (not x.gone) (record { 0 = x.dylib }))) e)

-- what that says of a tracker

pub has_home : (m : Plain) (t : ℕ) → has_tracker m t ≡ is_some (home m.trackers t)
has_home m t = split (slice_get m.trackers t)
  where
    kept : (b : Bool) (d : DylibId) → not b ≡ is_some (only_if (not b) d)
    kept true d = refl
    kept false d = refl

    split : (o : Option Track) → option_map_or (λ (x : Track). not x.gone) o false ≡ is_some {T = DylibId} (option_and_then (λ (x : Track). only_if (not x.gone) (record { 0 = x.dylib })) o)
    split None = refl
    split (Some x) = kept x.gone (record { 0 = x.dylib })

pub at_home : (m : Plain) (d : DylibId) (t : ℕ) → is_tracker_of m d.0 t ≡ is_of (home m.trackers t) d
at_home m d t = split (slice_get m.trackers t)
  where
    kept : (b : Bool) (e : DylibId) → (not b && e.0 == d.0) ≡ is_of (only_if (not b) e) d
    kept true e = refl
    kept false e = refl

    split : (o : Option Track) → option_map_or (λ (x : Track). not x.gone && x.dylib == d.0) o false ≡ is_of (option_and_then (λ (x : Track). only_if (not x.gone) (record { 0 = x.dylib })) o) d
    split None = refl
    split (Some x) = kept x.gone (record { 0 = x.dylib })

pub home_dylib : (m : Plain) (t : ℕ) (d : DylibId) → home m.trackers t ≡ Some d → tracker_dylib m t ≡ d.0
home_dylib m t d = split (slice_get m.trackers t)
  where
    kept : (b : Bool) (e : DylibId) → only_if (not b) e ≡ Some d → e.0 ≡ d.0
    kept true e h = absurd (none-some d h)
    kept false e h = ap (λ (f : DylibId). f.0) (same_Some e d h)

    split : (o : Option Track) → option_and_then (λ (x : Track). only_if (not x.gone) (record { 0 = x.dylib })) o ≡ Some d → option_map_or (λ (x : Track). x.dylib) o 0 ≡ d.0
    split None h = absurd (none-some d h)
    split (Some x) h = kept x.gone (record { 0 = x.dylib }) h

-- a tracker of a dylib is there
pub of_is_there : (m : Plain) (d t : ℕ) → is_tracker_of m d t ≡ true → has_tracker m t ≡ true
of_is_there m d t = split (slice_get m.trackers t)
  where
    split : (o : Option Track) → option_map_or (λ (x : Track). not x.gone && x.dylib == d) o false ≡ true → option_map_or (λ (x : Track). not x.gone) o false ≡ true
    split None h = absurd cc
    split (Some x) h = (and_parts (not x.gone) (x.dylib == d) h).0
