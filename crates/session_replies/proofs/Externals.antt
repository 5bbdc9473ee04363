-- What a unit looks up, and where.
use Rattle.std.proofs.Common.{◌≡◌, ℕ, ◌∙◌, ap, sym, subst, List, [], ◌∷◌, get_or, true, Bool, slice_get, Option, Some, None, Result, IfOk, option_and_then, filter_map, is_some}
use Rattle.std.specs.Bool.{if◌then◌else◌}
use Rattle.std.specs.Option.{option_map_or}
use Rattle.std.proofs.lemmas.Result.{IfOk-weaker}
use Rattle.std.specs.declared.alloc.AllocError.{AllocError}
use Rattle.std.proofs.lemmas.Option.{same_Some, slice_get-get_or}
use Rattle.session_model.proofs.Choices.{or_else_none}
use Rattle.orc_ids.specs.declared.ids.DylibId.{DylibId}
use Rattle.orc_ids.specs.declared.ids.InstId.{InstId}
use Rattle.orc_ids.specs.declared.ids.UnitId.{UnitId}
use Rattle.orc_ids.specs.declared.lookup.OrderItem.{OrderItem}
use Rattle.orc_ids.specs.declared.lookup.Scope.TheVariants.{All}
use Rattle.orc_ids.specs.declared.lookup.Wanted.{Wanted}
use Rattle.mat_unit.specs.Rows.{unit_row}
use Rattle.mat_unit.specs.declared.unit.Unit.{Unit as OneUnit}
use Rattle.session_model.specs.Answer.{alias_cycle, refused_lookup}
use Rattle.session_model.specs.Chain.{comes_to_unit}
use Rattle.session_model.specs.Change.{itself_then, link_matches, link_order, matched}
use Rattle.session_model.specs.Lists.{first_some, only_if, or_else}
use Rattle.session_model.specs.Meaning.{Meaning, IsLawful}
use Rattle.session_model.specs.Plain.{Plain, UnitRow}
use Rattle.session_model.specs.declared.entry.Reply.TheVariants.{AliasCycle}
use Rattle.session_model.specs.declared.rows.Dylib.{Dylib}
use Rattle.session_model.specs.declared.rows.Track.{Track}
use Rattle.session_parts.specs.Parts.{AreParts, kept_of}
use Rattle.session_parts.specs.Units.{tracker_at, dylib_at}
use Rattle.session_parts.specs.declared.parts.Parts.{Parts}
use Rattle.session_parts.proofs.Ties.{session_unit}
use Rattle.session_replies.specs.Chains.{IsOneAlias}
use Rattle.session_replies.specs.Lookups.{link_refusal, IsFound, IsLinked}
use Rattle.session_replies.specs.declared.looked.Looked.{Looked}
use Rattle.session_replies.proofs.Replying.{linked_from}
use Rattle.session_replies.proofs.Walking.{one_external}

-- the order of the dylib of a unit, which is no alias
own_order : {U N : Type 0} (means : U → Meaning) (p : Parts U N) (m : Plain) (u : ℕ) (y : OneUnit U) → AreParts means p m → slice_get p.units.units u ≡ Some y → (means y.unit).source ≡ None →
    option_map_or (λ (d : Dylib). d.order) (slice_get p.dylibs.dylibs y.dylib.0) [] ≡ link_order m (unit_row means (tracker_at m.units u) y)
own_order means p m u y a there own =
    ap (λ (ds : List Dylib). option_map_or (λ (d : Dylib). d.order) (slice_get ds y.dylib.0) []) a.kept.dylibs.dylibs_are
    ∙ (ap (λ d. option_map_or (λ (z : Dylib). z.order) (slice_get m.dylibs d) []) (a.kept.units.dylibs u y there)
    ∙ (by_tracker
    ∙ sym (ap (λ o. option_map_or (λ (d : DylibId). itself_then d.0 []) o (ordered (slice_get m.trackers t))) own)))
  where
    t : ℕ
    t = tracker_at m.units u

    ordered : Option Track → List OrderItem
    ordered o = option_map_or (λ (d : Dylib). d.order) (option_and_then (λ (z : Track). slice_get m.dylibs z.dylib) o) []

    tracked : slice_get m.trackers t ≡ Some (get_or m.trackers t (record { dylib = 0; gone = true }))
    tracked = slice_get-get_or m.trackers t (record { dylib = 0; gone = true }) (a.kept.units.tracked u (unit_row means t y) (session_unit means (kept_of p) m u y a.kept there))

    by_tracker : option_map_or (λ (d : Dylib). d.order) (slice_get m.dylibs (dylib_at m.trackers t)) [] ≡ ordered (slice_get m.trackers t)
    by_tracker = ap (λ o. option_map_or (λ (d : Dylib). d.order) (slice_get m.dylibs (option_map_or (λ (z : Track). z.dylib) o 0)) []) tracked ∙ sym (ap ordered tracked)

-- the order of an alias is its source alone
pub source_alone : (m : Plain) (x : UnitRow) (source : DylibId) → x.meaning.source ≡ Some source → record { dylib = source; scope = All } ∷ [] ≡ link_order m x
source_alone m x source e = sym (ap (λ o. option_map_or (λ (d : DylibId). itself_then d.0 []) o (option_map_or (λ (d : Dylib). d.order) (option_and_then (λ (t : Track). slice_get m.dylibs t.dylib) (slice_get m.trackers x.tracker)) [])) e)

-- The unit of a session, by what is kept of it

unit_is : {U N : Type 0} (means : U → Meaning) (p : Parts U N) (m : Plain) (u : ℕ) (y : OneUnit U) (x : UnitRow) → AreParts means p m → slice_get p.units.units u ≡ Some y → slice_get m.units u ≡ Some x → unit_row means (tracker_at m.units u) y ≡ x
unit_is means p m u y x a kept there = same_Some (unit_row means (tracker_at m.units u) y) x (sym (session_unit means (kept_of p) m u y a.kept kept) ∙ there)

-- no alias stands for itself that isn't one
no_cycle : (m : Plain) (u : ℕ) (x : UnitRow) → x.meaning.source ≡ None → alias_cycle m u x ≡ None
no_cycle m u x own = ap (λ o. first_some (λ (i : InstId). only_if (comes_to_unit m.rows m.units m.queries u i.0) (AliasCycle i)) (if is_some o then filter_map (λ (p : Option InstId). p) (link_matches m x) else [])) own

-- what a unit that is no alias matches is all that it is linked to
pub own_linked : {U N : Type 0} (means : U → Meaning) (p : Parts U N) (m : Plain) (u : UnitId) (y : OneUnit U) (x : UnitRow) (order : List OrderItem) (wanted : List Wanted) → AreParts means p m → slice_get p.units.units u.0 ≡ Some y → slice_get m.units u.0 ≡ Some x → (means y.unit).source ≡ None →
    order ≡ option_map_or (λ (d : Dylib). d.order) (slice_get p.dylibs.dylibs y.dylib.0) [] → wanted ≡ (means y.unit).externals y.live →
    (l : Looked) → IsFound (refused_lookup m order wanted) (matched m order wanted) l → IsLinked m u x l
own_linked {U} means p m u y x order wanted a kept there own ordered externals l f =
    subst (λ z. IsLinked m u z l) (unit_is means p m u.0 y x a kept there)
    (linked_from m u row l
    (subst (λ o. IsFound o (link_matches m row) l) (sym (ap (or_else (refused_lookup m (link_order m row) (row.meaning.externals row.live))) (no_cycle m u.0 row own) ∙ or_else_none (refused_lookup m (link_order m row) (row.meaning.externals row.live))))
    (subst (λ ws. IsFound (refused_lookup m (link_order m row) ws) (matched m (link_order m row) ws) l) externals
    (subst (λ os. IsFound (refused_lookup m os wanted) (matched m os wanted) l) (ordered ∙ own_order means p m u.0 y a kept own) f))))
  where
    row : UnitRow
    row = unit_row means (tracker_at m.units u.0) y

-- what an alias matches in its source is all that it is linked to, unless it stands for itself
pub alias_linked : {U N : Type 0} (means : U → Meaning) (p : Parts U N) (m : Plain) (u : UnitId) (y : OneUnit U) (x : UnitRow) (source : DylibId) (wanted : List Wanted) (r : Result Looked AllocError) → AreParts means p m → slice_get p.units.units u.0 ≡ Some y → slice_get m.units u.0 ≡ Some x → IsLawful (means y.unit) → (means y.unit).source ≡ Some source →
    wanted ≡ (means y.unit).externals y.live →
    ((z : UnitRow) → IsOneAlias z → z.meaning.source ≡ Some source → wanted ≡ z.meaning.externals z.live → IfOk r (IsFound (link_refusal m u.0 z) (link_matches m z))) →
    IfOk r (IsLinked m u x)
alias_linked {U} means p m u y x source wanted r a kept there lawful its externals found =
    subst (λ z. IfOk r (IsLinked m u z)) (unit_is means p m u.0 y x a kept there)
    (IfOk-weaker r (IsFound (link_refusal m u.0 row) (link_matches m row)) (IsLinked m u row) (linked_from m u row) (found row (one_external row lawful (ap is_some its)) its externals))
  where
    row : UnitRow
    row = unit_row means (tracker_at m.units u.0) y

-- the list of what a unit looks up
pub looks_up : (u : Meaning) (live given : List Bool) (items wanted : List Wanted) → wanted ≡ items → items ≡ u.externals given → given ≡ live → wanted ≡ u.externals live
looks_up u live given items wanted is e f = is ∙ (e ∙ ap u.externals f)

pub source_is : (u : Meaning) (s o : Option DylibId) → s ≡ u.source → s ≡ o → u.source ≡ o
source_is u s o e f = sym e ∙ f
