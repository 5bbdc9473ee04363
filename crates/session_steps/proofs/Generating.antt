-- Generators whose units are defined, and those that are spent for nothing.
use Rattle.std.proofs.Common.{◌≡◌, ℕ, ◌+◌, ◌<◌, ◌≤◌, true, false, [], length, slice_get, Option, Some, None, Result, Ok, Err, refl, ap, sym, subst, ◌∙◌}
use Rattle.std.specs.Prelude.{◌&&◌, ◌==◌, not, is_none, is_some, option_map, nat_le, nat_lt, unwrap_or, IfOk, OnOk}
use Rattle.std.specs.Bool.{if◌then◌else◌}
use Rattle.std.specs.List.{list_any}
use Rattle.std.specs.Option.{option_map_or}
use Rattle.std.proofs.lemmas.Bool.{and_parts, both_ways, eq-eqb, ltb-false, leb-false, not-true, or_parts}
use Rattle.std.proofs.lemmas.Option.{none-some, same_Some}
use Rattle.generators.specs.Rows.{gen_row}
use Rattle.generators.specs.declared.generator.Generator.{Generator}
use Rattle.jit_dylib.specs.Rows.{IsRefusedBy}
use Rattle.jit_dylib.specs.declared.error.DefineError.{DefineError}
use Rattle.jit_dylib.specs.declared.error.DefineError.TheVariants as error
use Rattle.orc_ids.specs.declared.ids.DylibId.{DylibId}
use Rattle.orc_ids.specs.declared.ids.GenId.{GenId}
use Rattle.orc_ids.specs.declared.ids.InstId.{InstId}
use Rattle.orc_ids.specs.declared.ids.TrackId.{TrackId}
use Rattle.orc_ids.specs.declared.ids.UnitId.{UnitId}
use Rattle.orc_ids.specs.declared.limits.TheConstants.{UNIT_LIMIT, INSTANCE_LIMIT}
use Rattle.session_model.specs.Lists.{only_if}
use Rattle.session_model.specs.Meaning.{Meaning}
use Rattle.session_model.specs.Plain.{Plain, GenRow, is_tracker_of}
use Rattle.session_model.specs.Answer.{answer_generate, answer_unit}
use Rattle.session_model.specs.Change.{change_of, changed, defined, generated, spent, verdicts}
use Rattle.session_model.specs.declared.change.Change.TheVariants as change
use Rattle.session_model.specs.declared.entry.Event.TheVariants as event
use Rattle.session_model.specs.declared.entry.Reply.{Reply}
use Rattle.session_model.specs.declared.entry.Reply.TheVariants as reply
use Rattle.session_model.specs.declared.rows.Track.{Track}
use Rattle.tracker.specs.Owners.{owns_generator, within}
use Rattle.tracker.specs.declared.owned.Owned.{Owned}
use Rattle.closure_laws.specs.Homes.{UnspentAreThere}
use Rattle.closure_laws.specs.Quiet.{stirs}
use Rattle.session_parts.specs.declared.parts.Parts.{Parts}
use Rattle.session_parts.specs.Defined.{after_define, first_duplicate, kept_count}
use Rattle.session_parts.specs.Parts.{AreParts}
use Rattle.session_parts.specs.Tied.{generator_tracker}
use Rattle.session_replies.specs.Accepted.{AcceptsGenerate, next_defined}
use Rattle.session_steps.specs.Generated.{lacks_room, after_generate, IsClash, IsReady}
use Rattle.session_steps.specs.Moved.{HandsInLawful}
use Rattle.session_steps.specs.Stands.{Stands}
use Rattle.session_steps.specs.Steps.{IsQuietStep}
use Rattle.session_steps.proofs.NewUnits.{IsToldOn, goes_told}

-- What there is room for

pub room_units : (m : Plain) (count : ℕ) → lacks_room m count ≡ false → length m.units < UNIT_LIMIT
room_units m count e = leb-false UNIT_LIMIT (length m.units) (or_parts (nat_le UNIT_LIMIT (length m.units)) (nat_lt INSTANCE_LIMIT (length m.rows + count)) e).0

pub room_instances : (m : Plain) (count : ℕ) → lacks_room m count ≡ false → length m.rows + count ≤ INSTANCE_LIMIT
room_instances m count e = ltb-false INSTANCE_LIMIT (length m.rows + count) (or_parts (nat_le UNIT_LIMIT (length m.units)) (nat_lt INSTANCE_LIMIT (length m.rows + count)) e).1

-- What is answered

answers_unit : (m : Plain) (g : GenId) (d : DylibId) (t : TrackId) (u : Meaning) → IsReady m g d t u → answer_generate m g ≡ answer_unit m d.0 u
answers_unit m g d t u at = ap (λ o. option_map_or (λ (x : GenRow). if x.spent then reply.Spent g else answer_unit m x.dylib x.meaning) o (reply.NoGen g)) at.there

answers_names : (m : Plain) (g : GenId) (d : DylibId) (t : TrackId) (u : Meaning) → IsReady m g d t u → lacks_room m (length u.offers) ≡ false → answer_generate m g ≡ unwrap_or (first_duplicate m.rows d.0 u.offers) (next_defined m d.0 u.offers)
answers_names m g d t u at room = answers_unit m g d t u at ∙ ap (λ b. unwrap_or (only_if b reply.TooMany) (unwrap_or (first_duplicate m.rows d.0 u.offers) (next_defined m d.0 u.offers))) room

-- The session after it

pub after_ready : (m : Plain) (g : GenId) (d : DylibId) (t : TrackId) (u : Meaning) → IsReady m g d t u → after_generate g m ≡ after_define d t u m
after_ready m g d t u at = ap (λ o. option_map_or (λ (x : GenRow). after_define (record { 0 = x.dylib }) (record { 0 = x.tracker }) x.meaning m) o m) at.there

changed_ready : (m : Plain) (g : GenId) (d : DylibId) (t : TrackId) (u : Meaning) → IsReady m g d t u → changed (change.Generate g (generated m g.0)) m ≡ spent g.0 (after_define d t u m)
changed_ready m g d t u at = ap (λ o. option_map_or (λ (x : GenRow). spent g.0 (defined x.dylib x.tracker x.meaning (option_map_or (λ (y : GenRow). verdicts m.rows y.dylib y.meaning.offers) o []) m)) o m) at.there

-- Steps

-- the generator is spent in parts of which nothing else changes
pub told_through : {U N : Type 0} (old mid new : Parts U N) → IsToldOn old mid → new ≡ record mid { generators = new.generators } → IsToldOn old new
told_through {U} {N} old mid new told rest = record {
  tells = subst (Rattle.instances.specs.Graph.Tells old.graph) (sym (ap (λ (p : Parts U N). p.graph) rest)) told.tells;
  book = ap (λ (p : Parts U N). p.book) rest ∙ told.book;
}

-- its unit is defined
pub generated_step : {U N : Type 0} (means : U → Meaning) (m : Plain) (s : ℕ) (g : GenId) (d : DylibId) (t : TrackId) (u : Meaning) (v : UnitId) (first : InstId) (n : ℕ) (old new : Parts U N) → Stands means m old → IsReady m g d t u → lacks_room m (length u.offers) ≡ false →
    v.0 ≡ length m.units → first.0 ≡ length m.rows → n ≡ kept_count m.rows d.0 u.offers → first_duplicate m.rows d.0 u.offers ≡ None → AreParts means new (spent g.0 (after_generate g m)) → IsToldOn old new → IsQuietStep means m s (event.Generate g) (reply.Defined v first n) old new
generated_step means m s g d t u v first n old new at ready room unit one kept none parts told = record {
  step = record {
    answered = λ jmax past l ends. sym (answers_names m g d t u ready room ∙ (ap (λ o. unwrap_or o (next_defined m d.0 u.offers)) none ∙ numbers));
    goes = goes_told means m s (event.Generate g) (reply.Defined v first n) (change.Generate g (generated m g.0)) old new at refl
        (subst (AreParts means new) (ap (spent g.0) (after_ready m g d t u ready) ∙ sym (changed_ready m g d t u ready)) parts) told (ap (λ (p : Plain). p.queries) (changed_ready m g d t u ready));
    lawful = tt;
  };
  quiet = refl;
  book = told.book;
}
  where
    numbers : next_defined m d.0 u.offers ≡ reply.Defined v first n
    numbers = ap (λ a. reply.Defined (record { 0 = a }) (record { 0 = length m.rows }) (kept_count m.rows d.0 u.offers)) (sym unit)
        ∙ (ap (λ b. reply.Defined v (record { 0 = b }) (kept_count m.rows d.0 u.offers)) (sym one)
        ∙ ap (λ c. reply.Defined v first c) (sym kept))

-- it is spent for nothing
pub spent_step : {U N : Type 0} (means : U → Meaning) (m : Plain) (s : ℕ) (g : GenId) (r : Reply) (old new : Parts U N) → Stands means m old → r ≡ answer_generate m g → change_of m s (event.Generate g) r ≡ change.Spend g → AreParts means new (spent g.0 m) → IsToldOn old new → IsQuietStep means m s (event.Generate g) r old new
spent_step means m s g r old new at answer is parts told = record {
  step = record {
    answered = λ jmax past l ends. answer;
    goes = goes_told means m s (event.Generate g) r (change.Spend g) old new at is parts told refl;
    lawful = subst HandsInLawful (sym is) tt;
  };
  quiet = ap stirs is;
  book = told.book;
}

-- too many units or instances
pub too_many_step : {U N : Type 0} (means : U → Meaning) (m : Plain) (s : ℕ) (g : GenId) (d : DylibId) (t : TrackId) (u : Meaning) (old new : Parts U N) → Stands means m old → IsReady m g d t u → lacks_room m (length u.offers) ≡ true → AreParts means new (spent g.0 m) → IsToldOn old new → IsQuietStep means m s (event.Generate g) reply.TooMany old new
too_many_step means m s g d t u old new at ready lacks parts told = spent_step means m s g reply.TooMany old new at
    (sym (answers_unit m g d t u ready ∙ ap (λ b. unwrap_or (only_if b reply.TooMany) (unwrap_or (first_duplicate m.rows d.0 u.offers) (next_defined m d.0 u.offers))) lacks)) refl parts told

-- a name clashes
clash_step : {U N : Type 0} (means : U → Meaning) (m : Plain) (s : ℕ) (g : GenId) (d : DylibId) (t : TrackId) (u : Meaning) (why : DefineError) (r : Reply) (old new : Parts U N) → Stands means m old → IsReady m g d t u → lacks_room m (length u.offers) ≡ false →
    IsRefusedBy (first_duplicate m.rows d.0 u.offers) why → IsClash why r → AreParts means new (spent g.0 m) → IsToldOn old new → IsQuietStep means m s (event.Generate g) r old new
clash_step means m s g d t u (error.Duplicate name i) r old new at ready room refused clash parts told = spent_step means m s g r old new at
    (clash ∙ sym (answers_names m g d t u ready room ∙ ap (λ o. unwrap_or o (next_defined m d.0 u.offers)) refused)) (ap (change_of m s (event.Generate g)) clash) parts told
clash_step means m s g d t u error.NoMemory r old new at ready room refused clash parts told = absurd clash

pub clashed : {U N E : Type 0} (means : U → Meaning) (m : Plain) (g : GenId) (d : DylibId) (t : TrackId) (u : Meaning) (why : DefineError) (answer : Result Reply E) (old new : Parts U N) → Stands means m old → IsReady m g d t u → lacks_room m (length u.offers) ≡ false →
    IsRefusedBy (first_duplicate m.rows d.0 u.offers) why → IfOk answer (IsClash why) → OnOk answer (AreParts means new (spent g.0 m)) → IsToldOn old new → IfOk answer (λ r. (s : ℕ) → IsQuietStep means m s (event.Generate g) r old new)
clashed means m g d t u why (Ok r) old new at ready room refused clash parts told = λ s. clash_step means m s g d t u why r old new at ready room refused clash parts told
clashed means m g d t u why (Err e) old new at ready room refused clash parts told = tt

-- Whose it is

-- the tracker of an unspent generator has it
owned_by_its : {U N : Type 0} (means : U → Meaning) (p : Parts U N) (m : Plain) (g : GenId) (x : GenRow) → AreParts means p m → slice_get m.generators g.0 ≡ Some x → is_tracker_of m x.dylib x.tracker ≡ true → owns_generator p.trackers (record { 0 = x.tracker }) g ≡ true
owned_by_its means p m g x are there its = by_track (slice_get m.trackers x.tracker) refl its
  where
    by_owned : (o : Option Owned) → within (slice_get p.trackers.tracks x.tracker) ≡ o → is_none o ≡ false → option_map_or (λ (w : Owned). list_any (λ (h : GenId). h.0 == g.0) w.generators) o false ≡ true
    by_owned None e f = absurd (both_ways true f refl)
    by_owned (Some w) e f = (are.kept.owners.owned x.tracker w e).generators_are g.0 ∙ (ap (λ o. option_map_or (λ (y : GenRow). y.tracker == x.tracker) o false) there ∙ eq-eqb x.tracker x.tracker refl)

    by_track : (o : Option Track) → slice_get m.trackers x.tracker ≡ o → option_map_or (λ (y : Track). not y.gone && y.dylib == x.dylib) o false ≡ true → owns_generator p.trackers (record { 0 = x.tracker }) g ≡ true
    by_track None e f = absurd (both_ways false refl f)
    by_track (Some y) e f = by_owned (within (slice_get p.trackers.tracks x.tracker)) refl (are.kept.owners.gone x.tracker y e ∙ not-true y.gone (and_parts (not y.gone) (y.dylib == x.dylib) f).0)

pub some_mapped : {A B : Type 0} (f : A → B) (o : Option A) (p : Option B) → option_map f o ≡ p → is_some p ≡ true → is_some o ≡ true
some_mapped f None p e there = ap is_some e ∙ there
some_mapped f (Some x) p e there = refl

pub generator_there : {U N : Type 0} (means : U → Meaning) (p : Parts U N) (m : Plain) (g : GenId) → AreParts means p m → AcceptsGenerate m g → is_some (slice_get p.generators.rows g.0) ≡ true
generator_there {U} {N} means p m g are a = by (slice_get p.generators.rows g.0) refl
  where
    by : (o : Option (Generator U)) → slice_get p.generators.rows g.0 ≡ o → is_some (slice_get p.generators.rows g.0) ≡ true
    by (Some x) e = ap is_some e
    by None e = absurd (none-some a.generator (sym (are.kept.generators.rows g.0 ∙ ap (option_map (gen_row means (generator_tracker m.generators g.0))) e) ∙ a.there))

pub owner_there : {U N : Type 0} (means : U → Meaning) (p : Parts U N) (m : Plain) (g : GenId) (o : Option TrackId) → AreParts means p m → UnspentAreThere m → AcceptsGenerate m g →
    ((t : TrackId) → owns_generator p.trackers t g ≡ true → o ≡ Some t) → is_some o ≡ true
owner_there means p m g o are unspent a owner =
    let y = a.generator in
    ap is_some (owner (record { 0 = y.tracker }) (owned_by_its means p m g y are a.there (unspent g.0 y a.there a.unspent)))

pub ready_by : {U N : Type 0} (means : U → Meaning) (p : Parts U N) (m : Plain) (g : GenId) (x : Generator U) (t : TrackId) (unit : U) (o : Option TrackId) → AreParts means p m → UnspentAreThere m → AcceptsGenerate m g → slice_get p.generators.rows g.0 ≡ Some x →
    ((t : TrackId) → owns_generator p.trackers t g ≡ true → o ≡ Some t) → o ≡ Some t → means unit ≡ means x.unit → IsReady m g x.dylib t (means unit)
ready_by {U} {N} means p m g x t unit o are unspent a there owner told share = record {
  there = a.there ∙ ap Some (ap (λ d. record { dylib = d; tracker = y.tracker; meaning = y.meaning; spent = y.spent }) (ap (λ (z : GenRow). z.dylib) same)
      ∙ (ap (λ n. record { dylib = x.dylib.0; tracker = n; meaning = y.meaning; spent = y.spent }) (ap (λ (k : TrackId). k.0) its)
      ∙ (ap (λ u. record { dylib = x.dylib.0; tracker = t.0; meaning = u; spent = y.spent }) (ap (λ (z : GenRow). z.meaning) same ∙ sym share)
      ∙ ap (λ b. record { dylib = x.dylib.0; tracker = t.0; meaning = means unit; spent = b }) a.unspent)));
  tracker = subst (λ d. is_tracker_of m d t.0 ≡ true) (ap (λ (z : GenRow). z.dylib) same) (subst (λ (k : TrackId). is_tracker_of m y.dylib k.0 ≡ true) its is);
}
  where
    y : GenRow
    y = a.generator

    is : is_tracker_of m y.dylib y.tracker ≡ true
    is = unspent g.0 y a.there a.unspent

    its : record { 0 = y.tracker } ≡ t
    its = same_Some (record { 0 = y.tracker }) t (sym (owner (record { 0 = y.tracker }) (owned_by_its means p m g y are a.there is)) ∙ told)

    same : y ≡ gen_row means (generator_tracker m.generators g.0) x
    same = same_Some y (gen_row means (generator_tracker m.generators g.0) x) (sym a.there ∙ (are.kept.generators.rows g.0 ∙ ap (option_map (gen_row means (generator_tracker m.generators g.0))) there))
