-- Each unit and each generator of a session has what each unit has that it was handed.
use Rattle.std.proofs.Common.{◌≡◌, ℕ, false, ◌==◌, map, List, [], ◌∷◌, ◌++◌, length, slice_get, ◌⊎◌, inl, inr, subst, sym, refl, Option, Some, None, All}
use Rattle.std.specs.Bool.{⊤}
use Rattle.std.specs.Option.{option_map_or}
use Rattle.std.proofs.lemmas.Bool.{both_ways}
use Rattle.std.proofs.lemmas.List.Elements.{All-head, All-tail}
use Rattle.std.proofs.lemmas.Option.{none-some}
use Rattle.orc_ids.specs.declared.ids.DylibId.{DylibId}
use Rattle.orc_ids.specs.declared.ids.TrackId.{TrackId}
use Rattle.session_model.specs.Lists.{numbered, changed_at}
use Rattle.session_model.specs.Change.{change_of, changed, settled, defined, spent, resolved_row, resolved_unit, new_unit, without_replaced, spent_generator, moved_unit, moved_generator, removed_generator, gone_tracker}
use Rattle.session_model.specs.Meaning.{Meaning}
use Rattle.session_model.specs.Plain.{Plain, UnitRow, GenRow, empty}
use Rattle.session_model.specs.State.{after, state, state_from}
use Rattle.session_model.specs.declared.change.Change.{Change}
use Rattle.session_model.specs.declared.change.Change.TheVariants.{Nothing, MakeDylib, MakeTracker, SetOrder, Attach, Define, Generate, Spend, Ask, Start, Finish, Place, Resolve, Link, Emit, Fail, Move, Remove, LetGo}
use Rattle.session_model.specs.declared.entry.Entry.{Entry}
use Rattle.session_model.specs.declared.entry.Event.{Event}
use Rattle.session_model.specs.declared.entry.Event.TheVariants as event
use Rattle.session_model.specs.declared.entry.Reply.{Reply}
use Rattle.session_model.specs.declared.entry.Reply.TheVariants as reply
use Rattle.session_model.specs.declared.rows.Verdict.{Verdict}
use Rattle.session_laws.proofs.Declared.{changed_cases, pushed_cases, mapped_parts, numbered_parts, chosen}
use Rattle.closure_laws.specs.HandedIn.{AllHave, HandsIn}
use Rattle.closure_laws.proofs.Fields.{HasFields, IsNew, change_fields, is_define, settled_fields}
use Rattle.closure_laws.proofs.Homing.{claims_frame, same_frame, settled_frame}

module _ (Has : Meaning → Type 0) where
  abbrev UnitsHave : List UnitRow → Type 0
  UnitsHave units = (u : ℕ) (x : UnitRow) → slice_get units u ≡ Some x → Has x.meaning

  abbrev GeneratorsHave : List GenRow → Type 0
  GeneratorsHave generators = (g : ℕ) (x : GenRow) → slice_get generators g ≡ Some x → Has x.meaning

  pub empty_have : AllHave Has empty
  empty_have = record { units = λ u x e. absurd (none-some x e); generators = λ g x e. absurd (none-some x e) }

  -- What a change brings in

  abbrev ChangeHas : Change Meaning → Type 0
  ChangeHas (Attach d t u) = Has u
  ChangeHas (Define d t u found) = Has u
  ChangeHas _ = ⊤

  attach_has : (m : Plain) (s : ℕ) (d : DylibId) (t : TrackId) (u : Meaning) (r : Reply) → Has u → ChangeHas (change_of m s (event.Attach d t u) r)
  attach_has m s d t u (reply.Generator g) h = h
  attach_has m s d t u (reply.Defunct v) h = tt
  attach_has m s d t u _ h = tt

  define_has : (m : Plain) (s : ℕ) (d : DylibId) (t : TrackId) (u : Meaning) (r : Reply) → Has u → ChangeHas (change_of m s (event.Define d t u) r)
  define_has m s d t u (reply.Defined v first count) h = h
  define_has m s d t u (reply.Defunct v) h = tt
  define_has m s d t u _ h = tt

  change_has : (m : Plain) (s : ℕ) (e : Event Meaning) (r : Reply) → HandsIn Has e → ChangeHas (change_of m s e r)
  change_has m s (event.Attach d t u) r h = attach_has m s d t u r h
  change_has m s (event.Define d t u) r h = define_has m s d t u r h
  change_has m s (event.Dylib name) (reply.Defunct v) h = tt
  change_has m s (event.Dylib name) _ h = tt
  change_has m s (event.SetOrder d order) (reply.Defunct v) h = tt
  change_has m s (event.SetOrder d order) _ h = tt
  change_has m s (event.Generate g) (reply.Defunct v) h = tt
  change_has m s (event.Generate g) _ h = tt
  change_has m s (event.Ask order wanted lev n) (reply.Defunct v) h = tt
  change_has m s (event.Ask order wanted lev n) _ h = tt
  change_has m s (event.Collect q) (reply.Defunct v) h = tt
  change_has m s (event.Collect q) _ h = tt
  change_has m s event.Take (reply.Defunct v) h = tt
  change_has m s event.Take _ h = tt
  change_has m s (event.Place u shape) (reply.Defunct v) h = tt
  change_has m s (event.Place u shape) _ h = tt
  change_has m s (event.Resolve u) (reply.Defunct v) h = tt
  change_has m s (event.Resolve u) _ h = tt
  change_has m s (event.Link u) (reply.Defunct v) h = tt
  change_has m s (event.Link u) _ h = tt
  change_has m s (event.Emit u groups) (reply.Defunct v) h = tt
  change_has m s (event.Emit u groups) _ h = tt
  change_has m s (event.Fail u cause) (reply.Defunct v) h = tt
  change_has m s (event.Fail u cause) _ h = tt
  change_has m s (event.Tracker d) (reply.Defunct v) h = tt
  change_has m s (event.Tracker d) _ h = tt
  change_has m s (event.MoveTracker t to) (reply.Defunct v) h = tt
  change_has m s (event.MoveTracker t to) _ h = tt
  change_has m s (event.Remove t) (reply.Defunct v) h = tt
  change_has m s (event.Remove t) _ h = tt
  change_has m s event.Image (reply.Defunct v) h = tt
  change_has m s event.Image _ h = tt

  -- Units

  -- a change that defines nothing leaves each unit's meaning
  units_kept : (m : Plain) (c : Change Meaning) → is_define c ≡ false → UnitsHave m.units → UnitsHave (changed c m).units
  units_kept m c other old u y e = split (change_fields m c u y e)
    where
      split : ((x : UnitRow) × (slice_get m.units u ≡ Some x) × HasFields m c u x y) ⊎ IsNew m c u y → Has y.meaning
      split (inl p) = subst (Has) (sym p.2.meaning) (old u p.0 p.1)
      split (inr p) = absurd (both_ways (is_define c) other p.0)

  units_defined : (m : Plain) (d t : ℕ) (v : Meaning) (vs : List Verdict) → Has v → UnitsHave m.units → UnitsHave (defined d t v vs m).units
  units_defined m d t v vs new old u y e = split (pushed_cases (numbered (without_replaced m.rows vs) 0 m.units) (new_unit t v vs) u y e)
    where
      split : (slice_get (numbered (without_replaced m.rows vs) 0 m.units) u ≡ Some y) ⊎ ((u ≡ length (numbered (without_replaced m.rows vs) 0 m.units)) × (y ≡ new_unit t v vs)) → Has y.meaning
      split (inl a) = let p = numbered_parts (without_replaced m.rows vs) m.units u y a in subst (λ (z : UnitRow). Has z.meaning) (sym p.2) (old u p.0 p.1)
      split (inr a) = subst (λ (z : UnitRow). Has z.meaning) (sym a.1) new

  -- a generator's unit has it by the generator
  units_generated : (m : Plain) (k : ℕ) (found : List Verdict) → GeneratorsHave m.generators → UnitsHave m.units → UnitsHave (option_map_or (λ x. spent k (defined x.dylib x.tracker x.meaning found m)) (slice_get m.generators k) m).units
  units_generated m k found generators old = split (slice_get m.generators k) refl
    where
      split : (o : Option GenRow) → slice_get m.generators k ≡ o → UnitsHave (option_map_or (λ x. spent k (defined x.dylib x.tracker x.meaning found m)) o m).units
      split None e = old
      split (Some x) e = units_defined m x.dylib x.tracker x.meaning found (generators k x e) old

  units_changed : (m : Plain) (c : Change Meaning) → ChangeHas c → GeneratorsHave m.generators → UnitsHave m.units → UnitsHave (changed c m).units
  units_changed m (Define d t u found) k generators old = units_defined m d.0 t.0 u found k old
  units_changed m (Generate g found) k generators old = units_generated m g.0 found generators old
  units_changed m c k generators old = units_kept m c refl old

  -- Generators

  generators_attached : (gs : List GenRow) (x : GenRow) → Has x.meaning → GeneratorsHave gs → GeneratorsHave (gs ++ x ∷ [])
  generators_attached gs x new old g y e = split (pushed_cases gs x g y e)
    where
      split : (slice_get gs g ≡ Some y) ⊎ ((g ≡ length gs) × (y ≡ x)) → Has y.meaning
      split (inl a) = old g y a
      split (inr a) = subst (λ (z : GenRow). Has z.meaning) (sym a.1) new

  generators_spent : (gs : List GenRow) (k : ℕ) → GeneratorsHave gs → GeneratorsHave (changed_at k spent_generator gs)
  generators_spent gs k old g y e = split (changed_cases k spent_generator gs g y e)
    where
      split : ((g ≡ k) × ((z : GenRow) × (slice_get gs g ≡ Some z) × (y ≡ spent_generator z))) ⊎ ((g ≡ k → ⊥) × (slice_get gs g ≡ Some y)) → Has y.meaning
      split (inl p) = subst (λ (z : GenRow). Has z.meaning) (sym p.1.2) (old g p.1.0 p.1.1)
      split (inr p) = old g y p.1

  generators_mapped : (gs : List GenRow) (f : GenRow → GenRow) → ((x : GenRow) → (f x).meaning ≡ x.meaning) → GeneratorsHave gs → GeneratorsHave (map f gs)
  generators_mapped gs f same old g y e =
      let p = mapped_parts f gs g y e in
      subst (λ (z : GenRow). Has z.meaning) (sym p.2) (subst (Has) (sym (same p.0)) (old g p.0 p.1))

  generators_generated : (m : Plain) (k : ℕ) (found : List Verdict) → GeneratorsHave m.generators → GeneratorsHave (option_map_or (λ x. spent k (defined x.dylib x.tracker x.meaning found m)) (slice_get m.generators k) m).generators
  generators_generated m k found old = split (slice_get m.generators k)
    where
      split : (o : Option GenRow) → GeneratorsHave (option_map_or (λ x. spent k (defined x.dylib x.tracker x.meaning found m)) o m).generators
      split None = old
      split (Some x) = generators_spent m.generators k old

  generators_changed : (m : Plain) (c : Change Meaning) → ChangeHas c → GeneratorsHave m.generators → GeneratorsHave (changed c m).generators
  generators_changed m Nothing k old = old
  generators_changed m (MakeDylib name) k old = old
  generators_changed m (MakeTracker d) k old = old
  generators_changed m (SetOrder d order) k old = old
  generators_changed m (Attach d t u) k old = generators_attached m.generators (record { dylib = d.0; tracker = t.0; meaning = u; spent = false }) k old
  generators_changed m (Define d t u found) k old = old
  generators_changed m (Generate g found) k old = generators_generated m g.0 found old
  generators_changed m (Spend g) k old = generators_spent m.generators g.0 old
  generators_changed m (Ask found lev n) k old = subst (GeneratorsHave) (sym (claims_frame m found m (same_frame m)).generators) old
  generators_changed m (Start t u) k old = old
  generators_changed m (Finish t u how) k old = old
  generators_changed m (Place u base) k old = old
  generators_changed m (Resolve u) k old = split (slice_get m.units u.0)
    where
      split : (o : Option UnitRow) → GeneratorsHave (option_map_or (λ (x : UnitRow). record m { rows = map (resolved_row u.0 (resolved_unit x)) m.rows; units = changed_at u.0 resolved_unit m.units }) o m).generators
      split None = old
      split (Some x) = old
  generators_changed m (Link u found) k old = subst (GeneratorsHave) (sym (claims_frame m found m (same_frame m)).generators) old
  generators_changed m (Emit u groups) k old = old
  generators_changed m (Fail u) k old = old
  generators_changed m (Move t to) k old = chosen (λ n. GeneratorsHave n.generators) (t.0 == to.0) m (record m { units = map (moved_unit t.0 to.0) m.units; generators = map (moved_generator t.0 to.0) m.generators; trackers = changed_at t.0 gone_tracker m.trackers })
      (λ b. old) (λ b. generators_mapped m.generators (moved_generator t.0 to.0) (λ x. refl) old)
  generators_changed m (Remove t) k old = generators_mapped m.generators (removed_generator t.0) (λ x. refl) old
  generators_changed m (LetGo t u) k old = old

  -- One more entry

  units_settled : (m : Plain) → UnitsHave m.units → UnitsHave (settled m).units
  units_settled m old u y e = let p = settled_fields m u y e in subst (Has) (sym p.2.meaning) (old u p.0 p.1)

  pub after_have : (m : Plain) (e : Entry Meaning) → HandsIn Has e.event → AllHave Has m → AllHave Has (after m e)
  after_have m e h old =
      let c = change_of m e.seat.0 e.event e.reply in
      let k = change_has m e.seat.0 e.event e.reply h in
      record {
        units = units_settled (changed c m) (units_changed m c k old.generators old.units);
        generators = subst (GeneratorsHave) (sym (settled_frame (changed c m)).generators) (generators_changed m c k old.generators);
      }

  -- All entries

  have_from : (m : Plain) (h : List (Entry Meaning)) → All (λ (e : Entry Meaning). HandsIn Has e.event) h → AllHave Has m → AllHave Has (state_from m h)
  have_from m [] hands old = old
  have_from m (e ∷ es) hands old =
      let P : Entry Meaning → Type 0 = λ x. HandsIn Has x.event in
      have_from (after m e) es (All-tail P e es hands) (after_have m e (All-head P e es hands) old)

  pub all_have : (h : List (Entry Meaning)) → All (λ (e : Entry Meaning). HandsIn Has e.event) h → AllHave Has (state h)
  all_have h hands = have_from empty h hands empty_have
