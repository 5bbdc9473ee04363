-- A generator is attached, and a tracker's things go over to another.
use Rattle.std.proofs.Common.{◌≡◌, ℕ, ◌⊎◌, inl, inr, Bool, true, false, not, ◌∷◌, [], ◌++◌, length, slice_get, Option, Some, None, refl, ap, sym, subst, ◌∙◌, arith}
use Rattle.std.specs.Bool.{if◌then◌else◌}
use Rattle.std.specs.Prelude.{◌==◌, map, set, is_none, is_err, IfSome, OnOk, Result, Ok, Err}
use Rattle.std.specs.List.{list_any}
use Rattle.std.specs.Option.{option_map_or}
use Rattle.std.proofs.lemmas.Bool.{both_ways, cases_eq, eq-eqb, ne_eqb}
use Rattle.orc_ids.specs.declared.ids.DylibId.{DylibId}
use Rattle.orc_ids.specs.declared.ids.GenId.{GenId}
use Rattle.orc_ids.specs.declared.ids.TrackId.{TrackId}
use Rattle.session_model.specs.Lists.{changed_at}
use Rattle.session_model.specs.Meaning.{Meaning}
use Rattle.session_model.specs.Plain.{GenRow, Plain, has_tracker, tracker_dylib}
use Rattle.session_model.specs.Change.{changed, moved, moved_unit, moved_generator, gone_tracker}
use Rattle.session_model.specs.declared.change.Change.TheVariants.{Attach}
use Rattle.session_model.specs.declared.rows.Track.{Track}
use Rattle.session_laws.proofs.Declared.{element_below, mapped_length, none_past}
use Rattle.generators.specs.Rows.{Stock}
use Rattle.tracker.specs.declared.owned.Owned.{Owned}
use Rattle.tracker.specs.Owners.{Owners, within, owned_by, owns_generator, merged, with_generator, change_at, and_all_of}
use Rattle.session_parts.specs.declared.parts.Parts.{Parts}
use Rattle.session_parts.specs.Parts.{kept_of, AreParts}
use Rattle.session_parts.specs.Tied.{IsTied}
use Rattle.session_parts.proofs.Others.{all_moved, generator_attached}

pub ok_here : {A B P : Type 0} (r : Result A B) → is_err r ≡ false → OnOk r P → P
ok_here (Ok a) e p = p
ok_here (Err b) e p = absurd (both_ways false refl (sym e))

-- a tracker that isn't gone
pub tracker_there : (m : Plain) (t : ℕ) → has_tracker m t ≡ true → (x : Track) × (slice_get m.trackers t ≡ Some x) × (x.gone ≡ false)
tracker_there m t = split (slice_get m.trackers t) refl
  where
    negated : (b : Bool) → not b ≡ true → b ≡ false
    negated true h = absurd (both_ways false refl h)
    negated false h = refl

    split : (o : Option Track) → slice_get m.trackers t ≡ o → option_map_or (λ (x : Track). not x.gone) o false ≡ true → (x : Track) × (slice_get m.trackers t ≡ Some x) × (x.gone ≡ false)
    split None e h = absurd (both_ways false refl h)
    split (Some x) e h = (x, e, negated x.gone h)

owner_there : (o : Option Owned) → is_none o ≡ false → (x : Owned) × (o ≡ Some x)
owner_there None e = absurd (both_ways false refl (sym e))
owner_there (Some x) e = (x, refl)

-- it is one of the parts', with what it owns
pub tracker_owned : {U N : Type 0} (means : U → Meaning) (p : Parts U N) (m : Plain) (t : ℕ) → AreParts means p m → has_tracker m t ≡ true → (o : Owned) × (within (slice_get p.trackers.tracks t) ≡ Some o)
tracker_owned means p m t a h = let x = tracker_there m t h in owner_there (within (slice_get p.trackers.tracks t)) (a.kept.owners.gone t x.0 x.1 ∙ x.2)

-- no tracker has the next generator
pub none_has : {U N : Type 0} (means : U → Meaning) (p : Parts U N) (m : Plain) (g : GenId) → AreParts means p m → g.0 ≡ length p.generators.rows → (t : TrackId) → owns_generator p.trackers t g ≡ false
none_has means p m g a at t = by (within (slice_get p.trackers.tracks t.0)) refl
  where
    past : slice_get m.generators g.0 ≡ None
    past = none_past m.generators g.0 (omega (arith, at, a.kept.generators.count))

    has : Option Owned → Bool
    has q = option_map_or (λ (o : Owned). list_any (λ (h : GenId). h.0 == g.0) o.generators) q false

    by : (q : Option Owned) → within (slice_get p.trackers.tracks t.0) ≡ q → owns_generator p.trackers t g ≡ false
    by None e = ap has e
    by (Some o) e = ap has e ∙ ((a.kept.owners.owned t.0 o e).generators_are g.0 ∙ ap (λ q. option_map_or (λ (x : GenRow). x.tracker == t.0) q false) past)

pub attached : {U N : Type 0} (means : U → Meaning) (p : Parts U N) (m : Plain) (d : DylibId) (t : TrackId) (g : GenId) (unit : U) (stock : Stock U) (owners : Owners) → AreParts means p m → has_tracker m t.0 ≡ true → g.0 ≡ length p.generators.rows →
    stock.rows ≡ p.generators.rows ++ record { unit = unit; dylib = d; spent = false } ∷ [] → owners ≡ with_generator p.trackers t g → AreParts means (record p { generators = stock; trackers = owners }) (changed (Attach d t (means unit)) m)
attached means p m d t g unit stock owners a h at rows own = record {
  kept = subst (λ os. IsTied means (record (kept_of p) { generators = stock.rows; owners = os }) (changed (Attach d t (means unit)) m)) (sym own)
      (subst (λ rs. IsTied means (record (kept_of p) { generators = rs; owners = with_generator p.trackers t g }) (changed (Attach d t (means unit)) m)) (sym rows)
      (generator_attached means (kept_of p) m d t g unit a.kept (element_below m.trackers t.0 x.0 x.1) (at ∙ a.kept.generators.count)));
  spans = a.spans;
}
  where
    x : (x : Track) × (slice_get m.trackers t.0 ≡ Some x) × (x.gone ≡ false)
    x = tracker_there m t.0 h

some_of : {X : Type 0} (P : X → Type 0) (o : Option X) (x : X) → o ≡ Some x → IfSome o P → P x
some_of P o x e p = subst (λ q. IfSome q P) e p

abbrev moved_on : ℕ → ℕ → Plain → Plain
moved_on t to m = record m { units = map (moved_unit t to) m.units; generators = map (moved_generator t to) m.generators; trackers = changed_at t gone_tracker m.trackers }

abbrev merged_on : Owners → TrackId → Owned → TrackId → Owners
merged_on o t more to = record { tracks = change_at to.0 (and_all_of more) (set o.tracks t.0 None); room = None }

pub moved_over : {U N : Type 0} (means : U → Meaning) (p : Parts U N) (m : Plain) (t to : TrackId) (owners : Owners) → AreParts means p m → has_tracker m t.0 ≡ true → has_tracker m to.0 ≡ true → tracker_dylib m t.0 ≡ tracker_dylib m to.0 →
    IfSome (owned_by p.trackers t) (λ more. owners ≡ merged p.trackers t more to) → AreParts means (record p { trackers = owners }) (moved t.0 to.0 m)
moved_over {U} {N} means p m t to owners a from there same f = split (cases_eq t.0 to.0)
  where
    more : (o : Owned) × (within (slice_get p.trackers.tracks t.0) ≡ Some o)
    more = tracker_owned means p m t.0 a from

    new : owners ≡ merged p.trackers t more.0 to
    new = some_of (λ x. owners ≡ merged p.trackers t x to) (owned_by p.trackers t) more.0 more.1 f

    x : (x : Track) × (slice_get m.trackers t.0 ≡ Some x) × (x.gone ≡ false)
    x = tracker_there m t.0 from

    y : (x : Track) × (slice_get m.trackers to.0 ≡ Some x) × (x.gone ≡ false)
    y = tracker_there m to.0 there

    split : (t.0 ≡ to.0) ⊎ (t.0 ≡ to.0 → ⊥) → AreParts means (record p { trackers = owners }) (moved t.0 to.0 m)
    split (inl e) = subst (AreParts means (record p { trackers = owners })) (sym (ap (λ b. if b then m else moved_on t.0 to.0 m) (eq-eqb t.0 to.0 e)))
        (subst (λ os. AreParts means (record p { trackers = os }) m) (sym (new ∙ ap (λ b. if b then p.trackers else merged_on p.trackers t more.0 to) (eq-eqb t.0 to.0 e))) (record { kept = a.kept; spans = a.spans }))
    split (inr n) = subst (AreParts means (record p { trackers = owners })) (sym (ap (λ b. if b then m else moved_on t.0 to.0 m) (ne_eqb t.0 to.0 n)))
        (record {
          kept = subst (λ os. IsTied means (record (kept_of p) { owners = os }) (moved_on t.0 to.0 m)) (sym (new ∙ ap (λ b. if b then p.trackers else merged_on p.trackers t more.0 to) (ne_eqb t.0 to.0 n)))
              (all_moved means (kept_of p) m t to more.0 a.kept n (element_below m.trackers t.0 x.0 x.1) (element_below m.trackers to.0 y.0 y.1) same more.1);
          spans = a.spans ∙ sym (mapped_length (moved_unit t.0 to.0) m.units);
        })
