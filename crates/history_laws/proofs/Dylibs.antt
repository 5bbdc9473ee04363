-- A dylib stays.
use Rattle.std.proofs.Common.{◌≡◌, ◌≤◌, ◌==◌, true, map, List, [], ◌∷◌, ◌++◌, length, slice_get, arith, subst, sym, ap, Option, Some, None, le_refl}
use Rattle.std.specs.Prelude.{IfSome}
use Rattle.std.specs.Option.{option_map_or}
use Rattle.std.proofs.lemmas.Bool.{ltb-true, lt-ltb}
use Rattle.std.proofs.lemmas.List.{length-append}
use Rattle.orc_ids.specs.declared.ids.DylibId.{DylibId}
use Rattle.session_model.specs.Lists.{changed_at}
use Rattle.session_model.specs.Meaning.{Meaning}
use Rattle.session_model.specs.Plain.{Plain, UnitRow, GenRow, empty, has_dylib}
use Rattle.session_model.specs.Change.{change_of, changed, defined, spent, all_claimed, new_dylib, ordered_dylib, resolved_unit, resolved_row, moved_unit, moved_generator, gone_tracker}
use Rattle.session_model.specs.State.{state}
use Rattle.session_model.specs.declared.change.Change.{Change}
use Rattle.session_model.specs.declared.change.Change.TheVariants.{MakeDylib, SetOrder, Generate, Ask, Resolve, Link, Move}
use Rattle.session_model.specs.declared.entry.Entry.{Entry}
use Rattle.session_model.specs.declared.rows.Dylib.{Dylib}
use Rattle.session_laws.proofs.Declared.{state_from_push, changed_length, chosen}
use Rattle.closure_laws.proofs.Declared.{OneMore, kept_along, same_frame, claims_frame, settled_frame}
use Rattle.history_laws.specs.Conditions.{SourceStays}

-- at least as many dylibs
abbrev HasThese : Plain → List Dylib → Type 0
HasThese m ds = length m.dylibs ≤ length ds

these_same : (m : Plain) (ds : List Dylib) → length ds ≡ length m.dylibs → HasThese m ds
these_same m ds e = subst (λ n. length m.dylibs ≤ n) (sym e) (le_refl (length m.dylibs))

change_has : (m : Plain) (c : Change Meaning) → HasThese m (changed c m).dylibs
change_has m (MakeDylib name) = omega (arith, length-append m.dylibs (new_dylib (length m.dylibs) name.0 ∷ []))
change_has m (SetOrder d order) = these_same m (changed_at d.0 (ordered_dylib d.0 order) m.dylibs) (changed_length d.0 (ordered_dylib d.0 order) m.dylibs)
change_has m (Generate k found) = split (slice_get m.generators k.0)
  where
    split : (o : Option GenRow) → HasThese m (option_map_or (λ x. spent k.0 (defined x.dylib x.tracker x.meaning found m)) o m).dylibs
    split None = le_refl (length m.dylibs)
    split (Some x) = le_refl (length m.dylibs)
change_has m (Ask found lev n) = these_same m (all_claimed found m).dylibs (ap length (claims_frame m found m (same_frame m)).dylibs)
change_has m (Resolve u) = split (slice_get m.units u.0)
  where
    split : (o : Option UnitRow) → HasThese m (option_map_or (λ (x : UnitRow). record m { rows = map (resolved_row u.0 (resolved_unit x)) m.rows; units = changed_at u.0 resolved_unit m.units }) o m).dylibs
    split None = le_refl (length m.dylibs)
    split (Some x) = le_refl (length m.dylibs)
change_has m (Link u found) = these_same m (all_claimed found m).dylibs (ap length (claims_frame m found m (same_frame m)).dylibs)
change_has m (Move t to) = chosen (λ n. HasThese m n.dylibs) (t.0 == to.0) m (record m { units = map (moved_unit t.0 to.0) m.units; generators = map (moved_generator t.0 to.0) m.generators; trackers = changed_at t.0 gone_tracker m.trackers })
    (λ b. le_refl (length m.dylibs)) (λ b. le_refl (length m.dylibs))
change_has m _ = le_refl (length m.dylibs)

pub source_stays : SourceStays
source_stays jmax s u h more l places o has = split u.source has
  where
    step : (g : List (Entry Meaning)) (e : Entry Meaning) → OneMore jmax g e → HasThese (state h) (state g).dylibs → HasThese (state h) (state (g ++ e ∷ [])).dylibs
    step g e one p =
        let c = change_of (state g) e.seat.0 e.event e.reply in
        let settling = ap length (settled_frame (changed c (state g))).dylibs in
        subst (λ (m : Plain). HasThese (state h) m.dylibs) (sym (state_from_push empty g e)) (omega (arith, p, change_has (state g) c, settling))

    longer : HasThese (state h) (state (h ++ more)).dylibs
    longer = kept_along jmax (λ g. HasThese (state h) (state g).dylibs) step h more l (le_refl (length (state h).dylibs))

    split : (o : Option DylibId) → IfSome o (λ (d : DylibId). has_dylib (state h) d.0 ≡ true) → IfSome o (λ (d : DylibId). has_dylib (state (h ++ more)) d.0 ≡ true)
    split None k = k
    split (Some d) k = lt-ltb d.0 (length (state (h ++ more)).dylibs) (omega (arith, longer, ltb-true d.0 (length (state h).dylibs) k))
