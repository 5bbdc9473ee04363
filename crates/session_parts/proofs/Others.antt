-- Dylibs, generators and trackers that are made and changed.
use Rattle.std.proofs.Common.{◌≡◌, ℕ, ◌+◌, ◌<◌, ◌≤◌, ◌⊎◌, inl, inr, true, false, ◌&&◌, List, [], ◌∷◌, ◌++◌, length, map, slice_get, Option, Some, None, option_map, refl, ap, sym, subst, ◌∙◌, arith}
use Rattle.std.specs.Prelude.{◌==◌}
use Rattle.std.specs.Option.{option_map_or}
use Rattle.std.proofs.lemmas.Bool.{cases_eq, cases_lt, and_parts, false_from_ne_true, eqb-true}
use Rattle.std.proofs.lemmas.List.{length-append}
use Rattle.session_model.proofs.FirstRows.{no_first}
use Rattle.orc_ids.specs.declared.ids.DylibId.{DylibId}
use Rattle.orc_ids.specs.declared.ids.GenId.{GenId}
use Rattle.orc_ids.specs.declared.ids.NameId.{NameId}
use Rattle.orc_ids.specs.declared.ids.TrackId.{TrackId}
use Rattle.orc_ids.specs.declared.lookup.OrderItem.{OrderItem}
use Rattle.session_model.specs.Lists.{changed_at}
use Rattle.session_model.specs.Match.{row_of}
use Rattle.session_model.specs.Meaning.{Meaning}
use Rattle.session_model.specs.Plain.{Plain, UnitRow, GenRow}
use Rattle.session_model.specs.Change.{changed, new_dylib, ordered_dylib, spent, spent_generator, moved_unit, moved_generator, gone_tracker}
use Rattle.session_model.specs.declared.change.Change.TheVariants.{MakeDylib, MakeTracker, SetOrder, Attach}
use Rattle.session_model.specs.declared.rows.InstRow.{InstRow}
use Rattle.session_model.specs.declared.rows.Track.{Track}
use Rattle.session_laws.proofs.Declared.{changed_there, changed_elsewhere, changed_length, changed_cases, appended_below, pushed_cases, pushed_last, none_past, mapped_parts}
use Rattle.code_memory.specs.declared.placement.Placement.{Placement}
use Rattle.generators.specs.declared.generator.Generator.{Generator}
use Rattle.generators.specs.Rows.{gen_row}
use Rattle.jit_dylib.specs.Rows.{Rows, row_at}
use Rattle.jit_dylib.specs.Shelf.{Shelf, table_of}
use Rattle.tracker.specs.declared.owned.Owned.{Owned}
use Rattle.tracker.specs.Owners.{within, with_tracker, with_generator, change_at, and_all_of}
use Rattle.session_parts.specs.Units.{dylib_at}
use Rattle.session_parts.specs.Stored.{IsStored, AreStored}
use Rattle.session_parts.specs.Tied.{Kept, IsTied, AreGenerators, generator_tracker}
use Rattle.session_parts.proofs.OwnerChanges.{owners_with_generator, owners_moved, units_moved, generators_moved}
use Rattle.session_parts.proofs.TrackerChanges.{units_grow, generators_grow, pushed_grows, owners_make}
use Rattle.session_parts.proofs.UnitChanges.{kept_by}

-- A dylib

table_stays : (s : Shelf) (tables : List Rows) (d : ℕ) → tables ≡ s.tables ++ [] ∷ [] → option_map_or (λ (t : Rows). t) (slice_get tables d) [] ≡ table_of s d
table_stays s tables d e = ap (λ ts. option_map_or (λ (t : Rows). t) (slice_get ts d) []) e ∙ split (cases_lt d (length s.tables))
  where
    split : (d < length s.tables) ⊎ (length s.tables ≤ d) → option_map_or (λ (t : Rows). t) (slice_get (s.tables ++ [] ∷ []) d) [] ≡ table_of s d
    split (inl b) = ap (λ o. option_map_or (λ (t : Rows). t) o []) (appended_below s.tables ([] ∷ []) d b)
    split (inr b) = last (cases_eq d (length s.tables)) ∙ sym (ap (λ o. option_map_or (λ (t : Rows). t) o []) (none_past s.tables d b))
      where
        last : (d ≡ length s.tables) ⊎ (d ≡ length s.tables → ⊥) → option_map_or (λ (t : Rows). t) (slice_get (s.tables ++ [] ∷ []) d) [] ≡ []
        last (inl i) = ap (λ n. option_map_or (λ (t : Rows). t) (slice_get (s.tables ++ [] ∷ []) n) []) i ∙ ap (λ o. option_map_or (λ (t : Rows). t) o []) (pushed_last s.tables [])
        last (inr n) = ap (λ o. option_map_or (λ (t : Rows). t) o []) (none_past (s.tables ++ [] ∷ []) d (omega (arith, length-append s.tables ([] ∷ []), strict (cases_lt (length s.tables) d))))
          where
            strict : (length s.tables < d) ⊎ (d ≤ length s.tables) → length s.tables < d
            strict (inl p) = p
            strict (inr p) = absurd (n (omega (arith, b, p)))

-- there is one dylib more, which no instance is of
pub dylib_made : {U : Type 0} (means : U → Meaning) (k : Kept U) (m : Plain) (name : NameId) (shelf : Shelf) → IsTied means k m → ((i : ℕ) (r : InstRow) → slice_get m.rows i ≡ Some r → r.dylib.0 < length m.dylibs) →
    shelf.dylibs ≡ k.shelf.dylibs ++ new_dylib (length k.shelf.dylibs) name.0 ∷ [] → shelf.tables ≡ k.shelf.tables ++ [] ∷ [] → IsTied means (record k { shelf = shelf }) (changed (MakeDylib name) m)
dylib_made means k m name shelf t homes ds ts = record {
  dylibs = record {
    dylibs_are = ds ∙ ap (λ l. l ++ new_dylib (length l) name.0 ∷ []) t.dylibs.dylibs_are;
    count = ap length ts ∙ (length-append k.shelf.tables ([] ∷ []) ∙ (ap (λ n. n + 1) t.dylibs.count ∙ sym (length-append m.dylibs (new_dylib (length m.dylibs) name.0 ∷ []))));
    tables = λ d b name. ap (λ (rows : Rows). row_at rows name) (table_stays k.shelf shelf.tables d ts) ∙ rows d name (cases_lt d (length m.dylibs)) b;
  };
  rows = t.rows;
  units = t.units;
  jobs = t.jobs;
  generators = t.generators;
  owners = t.owners;
  memory = t.memory;
}
  where
    rows : (d n : ℕ) → (d < length m.dylibs) ⊎ (length m.dylibs ≤ d) → d < length (m.dylibs ++ new_dylib (length m.dylibs) name.0 ∷ []) → row_at (table_of k.shelf d) n ≡ row_of m.rows d n
    rows d n (inl b) c = t.dylibs.tables d b n
    rows d n (inr b) c = ap (λ o. row_at (option_map_or (λ (t : Rows). t) o []) n) (none_past k.shelf.tables d (omega (arith, b, t.dylibs.count)))
        ∙ sym (no_first (λ r. r.present && r.dylib.0 == d && r.name.0 == n) 0 m.rows (λ i r e. false_from_ne_true (r.present && r.dylib.0 == d && r.name.0 == n) (λ h. other i r e (eqb-true r.dylib.0 d (and_parts r.present (r.dylib.0 == d) (and_parts (r.present && r.dylib.0 == d) (r.name.0 == n) h).0).1))))
      where
        other : (i : ℕ) (r : InstRow) → slice_get m.rows i ≡ Some r → r.dylib.0 ≡ d → ⊥
        other i r e s = omega (arith, homes i r e, s, b)

pub order_set : {U : Type 0} (means : U → Meaning) (k : Kept U) (m : Plain) (d : DylibId) (order : List OrderItem) (shelf : Shelf) → IsTied means k m →
    shelf.dylibs ≡ changed_at d.0 (ordered_dylib d.0 order) k.shelf.dylibs → shelf.tables ≡ k.shelf.tables → IsTied means (record k { shelf = shelf }) (changed (SetOrder d order) m)
order_set means k m d order shelf t ds ts = record {
  dylibs = record {
    dylibs_are = ds ∙ ap (changed_at d.0 (ordered_dylib d.0 order)) t.dylibs.dylibs_are;
    count = ap length ts ∙ (t.dylibs.count ∙ sym (changed_length d.0 (ordered_dylib d.0 order) m.dylibs));
    tables = λ e b name. ap (λ tables. row_at (option_map_or (λ (t : Rows). t) (slice_get tables e) []) name) ts ∙ t.dylibs.tables e (subst (λ n. e < n) (changed_length d.0 (ordered_dylib d.0 order) m.dylibs) b) name;
  };
  rows = t.rows;
  units = t.units;
  jobs = t.jobs;
  generators = t.generators;
  owners = t.owners;
  memory = t.memory;
}

-- A tracker

pub tracker_made : {U : Type 0} (means : U → Meaning) (k : Kept U) (m : Plain) (d : DylibId) → IsTied means k m → IsTied means (record k { owners = with_tracker k.owners d }) (changed (MakeTracker d) m)
tracker_made means k m d t = record {
  dylibs = t.dylibs;
  rows = t.rows;
  units = units_grow means k.units m.units m.trackers (m.trackers ++ new ∷ []) (pushed_grows m.trackers new) t.units;
  jobs = t.jobs;
  generators = generators_grow means k.generators m.generators m.trackers (m.trackers ++ new ∷ []) (pushed_grows m.trackers new).0 t.generators;
  owners = owners_make k.owners m.trackers m.units m.generators d t.units.tracked t.generators.tracked t.owners;
  memory = t.memory;
}
  where
    new : Track
    new = record { dylib = d.0; gone = false }

-- A generator

generators_pushed : {U : Type 0} (means : U → Meaning) (kept : List (Generator U)) (generators : List GenRow) (trackers : List Track) (t : ℕ) (x : Generator U) → t < length trackers → AreGenerators means kept generators trackers →
    AreGenerators means (kept ++ x ∷ []) (generators ++ gen_row means t x ∷ []) trackers
generators_pushed {U} means kept generators trackers t x b a = record {
  count = length-append kept (x ∷ []) ∙ (ap (λ n. n + 1) a.count ∙ sym (length-append generators (gen_row means t x ∷ [])));
  rows = λ g. rows g (cases_lt g (length generators));
  tracked = λ g y e. tracked g y (pushed_cases generators (gen_row means t x) g y e);
}
  where
    tracker_below : (g : ℕ) → g < length generators → generator_tracker (generators ++ gen_row means t x ∷ []) g ≡ generator_tracker generators g
    tracker_below g c = ap (λ o. option_map_or (λ (y : GenRow). y.tracker) o 0) (appended_below generators (gen_row means t x ∷ []) g c)

    kept_last : slice_get (kept ++ x ∷ []) (length generators) ≡ Some x
    kept_last = subst (λ n. slice_get (kept ++ x ∷ []) n ≡ Some x) a.count (pushed_last kept x)

    rows : (g : ℕ) → (g < length generators) ⊎ (length generators ≤ g) → slice_get (generators ++ gen_row means t x ∷ []) g ≡ option_map (gen_row means (generator_tracker (generators ++ gen_row means t x ∷ []) g)) (slice_get (kept ++ x ∷ []) g)
    rows g (inl c) = appended_below generators (gen_row means t x ∷ []) g c ∙ (a.rows g ∙ (ap (λ v. option_map (gen_row means v) (slice_get kept g)) (sym (tracker_below g c)) ∙ ap (option_map (gen_row means (generator_tracker (generators ++ gen_row means t x ∷ []) g))) (sym (appended_below kept (x ∷ []) g (omega (arith, c, a.count))))))
    rows g (inr c) = last (cases_eq g (length generators))
      where
        last : (g ≡ length generators) ⊎ (g ≡ length generators → ⊥) → slice_get (generators ++ gen_row means t x ∷ []) g ≡ option_map (gen_row means (generator_tracker (generators ++ gen_row means t x ∷ []) g)) (slice_get (kept ++ x ∷ []) g)
        last (inl e) = subst (λ n. slice_get (generators ++ gen_row means t x ∷ []) n ≡ option_map (gen_row means (generator_tracker (generators ++ gen_row means t x ∷ []) n)) (slice_get (kept ++ x ∷ []) n)) (sym e)
            (pushed_last generators (gen_row means t x) ∙ (ap (λ v. Some (gen_row means v x)) (sym (ap (λ o. option_map_or (λ (y : GenRow). y.tracker) o 0) (pushed_last generators (gen_row means t x)))) ∙ ap (option_map (gen_row means (generator_tracker (generators ++ gen_row means t x ∷ []) (length generators)))) (sym kept_last)))
        last (inr n) = none_past (generators ++ gen_row means t x ∷ []) g (omega (arith, length-append generators (gen_row means t x ∷ []), past)) ∙ ap (option_map (gen_row means (generator_tracker (generators ++ gen_row means t x ∷ []) g))) (sym (none_past (kept ++ x ∷ []) g (omega (arith, length-append kept (x ∷ []), past, a.count))))
          where
            past : length generators < g
            past = strict (cases_lt (length generators) g)
              where
                strict : (length generators < g) ⊎ (g ≤ length generators) → length generators < g
                strict (inl p) = p
                strict (inr p) = absurd (n (omega (arith, c, p)))

    tracked : (g : ℕ) (y : GenRow) → (slice_get generators g ≡ Some y) ⊎ ((g ≡ length generators) × (y ≡ gen_row means t x)) → y.tracker < length trackers
    tracked g y (inl e) = a.tracked g y e
    tracked g y (inr e) = subst (λ (z : GenRow). z.tracker < length trackers) (sym e.1) b

pub generator_attached : {U : Type 0} (means : U → Meaning) (k : Kept U) (m : Plain) (d : DylibId) (t : TrackId) (g : GenId) (unit : U) → IsTied means k m → t.0 < length m.trackers → g.0 ≡ length m.generators →
    IsTied means (record k { generators = k.generators ++ record { unit = unit; dylib = d; spent = false } ∷ []; owners = with_generator k.owners t g }) (changed (Attach d t (means unit)) m)
generator_attached means k m d t g unit tied b at = record {
  dylibs = tied.dylibs;
  rows = tied.rows;
  units = tied.units;
  jobs = tied.jobs;
  generators = generators_pushed means k.generators m.generators m.trackers t.0 (record { unit = unit; dylib = d; spent = false }) b tied.generators;
  owners = owners_with_generator k.owners m.trackers m.units m.generators t g (gen_row means t.0 (record { unit = unit; dylib = d; spent = false })) at refl tied.owners;
  memory = tied.memory;
}

generators_changed : {U : Type 0} (means : U → Meaning) (kept : List (Generator U)) (generators : List GenRow) (trackers : List Track) (g : ℕ) → AreGenerators means kept generators trackers → AreGenerators means (changed_at g (λ (x : Generator U). record x { spent = true }) kept) (changed_at g spent_generator generators) trackers
generators_changed {U} means kept generators trackers g a = record {
  count = changed_length g spend kept ∙ (a.count ∙ sym (changed_length g spent_generator generators));
  rows = λ h. rows h (cases_eq h g);
  tracked = λ h y e. tracked h y (changed_cases g spent_generator generators h y e);
}
  where
    spend : Generator U → Generator U
    spend x = record x { spent = true }

    stays : (h : ℕ) → generator_tracker (changed_at g spent_generator generators) h ≡ generator_tracker generators h
    stays h = kept_by (λ (x : GenRow). x.tracker) 0 g spent_generator generators (λ x. refl) h

    one : (t : ℕ) (o : Option (Generator U)) → option_map spent_generator (option_map (gen_row means t) o) ≡ option_map (gen_row means t) (option_map spend o)
    one t None = refl
    one t (Some x) = refl

    rows : (h : ℕ) → (h ≡ g) ⊎ (h ≡ g → ⊥) → slice_get (changed_at g spent_generator generators) h ≡ option_map (gen_row means (generator_tracker (changed_at g spent_generator generators) h)) (slice_get (changed_at g spend kept) h)
    rows h (inl e) = subst (λ n. slice_get (changed_at g spent_generator generators) n ≡ option_map (gen_row means (generator_tracker (changed_at g spent_generator generators) n)) (slice_get (changed_at g spend kept) n)) (sym e)
        (changed_there g spent_generator generators ∙ (ap (option_map spent_generator) (a.rows g) ∙ (one (generator_tracker generators g) (slice_get kept g) ∙ (ap (λ t. option_map (gen_row means t) (option_map spend (slice_get kept g))) (sym (stays g)) ∙ ap (option_map (gen_row means (generator_tracker (changed_at g spent_generator generators) g))) (sym (changed_there g spend kept))))))
    rows h (inr n) = changed_elsewhere g spent_generator generators h n ∙ (a.rows h ∙ (ap (λ t. option_map (gen_row means t) (slice_get kept h)) (sym (stays h)) ∙ ap (option_map (gen_row means (generator_tracker (changed_at g spent_generator generators) h))) (sym (changed_elsewhere g spend kept h n))))

    tracked : (h : ℕ) (y : GenRow) → ((h ≡ g) × ((x : GenRow) × (slice_get generators h ≡ Some x) × (y ≡ spent_generator x))) ⊎ ((h ≡ g → ⊥) × (slice_get generators h ≡ Some y)) → y.tracker < length trackers
    tracked h y (inl e) = subst (λ (z : GenRow). z.tracker < length trackers) (sym e.1.2) (a.tracked h e.1.0 e.1.1)
    tracked h y (inr e) = a.tracked h y e.1

pub generator_spent : {U : Type 0} (means : U → Meaning) (k : Kept U) (m : Plain) (g : ℕ) → IsTied means k m → IsTied means (record k { generators = changed_at g (λ (x : Generator U). record x { spent = true }) k.generators }) (spent g m)
generator_spent means k m g t = record {
  dylibs = t.dylibs;
  rows = t.rows;
  units = t.units;
  jobs = t.jobs;
  generators = generators_changed means k.generators m.generators m.trackers g t.generators;
  owners = record {
    count = t.owners.count;
    gone = t.owners.gone;
    dylibs = t.owners.dylibs;
    owned = λ v o e. let p = t.owners.owned v o e in record {
      units_are = p.units_are;
      generators_are = λ h. p.generators_are h ∙ sym (kept_by (λ (x : GenRow). x.tracker == v) false g spent_generator m.generators (λ x. refl) h);
    };
  };
  memory = t.memory;
}

-- A move

stored_moved : (units : List UnitRow) (p : List Placement) (from to : ℕ) → AreStored units p → AreStored (map (moved_unit from to) units) p
stored_moved units p from to s = record {
  each = λ u y e. let q = mapped_parts (moved_unit from to) units u y e in let old = s.each u q.0 q.1 in subst (IsStored p u) (sym q.2) (record { range = old.range; based = old.based; placed = old.placed });
  others = λ u b. s.others u (subst (λ n. n ≤ u) (Rattle.session_laws.proofs.Declared.mapped_length (moved_unit from to) units) b);
}

pub all_moved : {U : Type 0} (means : U → Meaning) (k : Kept U) (m : Plain) (from to : TrackId) (more : Owned) → IsTied means k m → (from.0 ≡ to.0 → ⊥) → from.0 < length m.trackers → to.0 < length m.trackers → dylib_at m.trackers from.0 ≡ dylib_at m.trackers to.0 → within (slice_get k.owners.tracks from.0) ≡ Some more →
    IsTied means (record k { owners = record { tracks = change_at to.0 (and_all_of more) (Rattle.std.specs.Prelude.set k.owners.tracks from.0 None); room = None } }) (record m { units = map (moved_unit from.0 to.0) m.units; generators = map (moved_generator from.0 to.0) m.generators; trackers = changed_at from.0 gone_tracker m.trackers })
all_moved means k m from to more t n b c same its = record {
  dylibs = t.dylibs;
  rows = t.rows;
  units = units_moved means k.units m.units m.trackers from.0 to.0 c same t.units;
  jobs = t.jobs;
  generators = generators_moved means k.generators m.generators m.trackers from.0 to.0 c t.generators;
  owners = owners_moved k.owners m.trackers m.units m.generators from to more n b its t.owners;
  memory = stored_moved m.units k.memory from.0 to.0 t.memory;
}
