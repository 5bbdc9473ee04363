-- Each change keeps the lists of a session fit.
use Rattle.std.proofs.Common.{◌≡◌, ℕ, zero, suc, ◌+◌, ◌<◌, ◌≤◌, Bool, true, false, map, List, [], ◌∷◌, ◌++◌, length, slice_get, Option, Some, None, option_map, ◌⊎◌, inl, inr, subst, sym, refl, ap, ap₂, ◌∙◌, arith, length-append}
use Rattle.std.specs.Prelude.{nat_le, nat_lt, not, ◌||◌, ◌==◌, if◌then◌else◌, unwrap_or}
use Rattle.std.specs.Option.{option_map_or}
use Rattle.std.specs.List.{position_from}
use Rattle.std.proofs.lemmas.Bool.{leb-false, ltb-false, both_ways, or_parts}
use Rattle.std.proofs.lemmas.Option.{same_Some, none-some}
use Rattle.std.proofs.lemmas.List.{length_push}
use Rattle.orc_ids.specs.declared.flags.SymFlags.{SymFlags}
use Rattle.orc_ids.specs.declared.ids.DylibId.{DylibId}
use Rattle.orc_ids.specs.declared.ids.GenId.{GenId}
use Rattle.orc_ids.specs.declared.ids.InstId.{InstId}
use Rattle.orc_ids.specs.declared.ids.NameId.{NameId}
use Rattle.orc_ids.specs.declared.ids.TrackId.{TrackId}
use Rattle.session_model.specs.Lists.{changed_at, numbered, only_if}
use Rattle.session_model.specs.Meaning.{Meaning}
use Rattle.session_model.specs.Plain.{Plain, UnitRow, GenRow, has_dylib, is_tracker_of, is_unsearched, is_owned_at}
use Rattle.session_model.specs.Answer.{Answers, no_dylib, not_tracker_of, answer_unit}
use Rattle.session_model.specs.Change.{change_of, changed, settled, finish_listed, verdict, verdicts, is_kept, new_row, new_rows, unreplaced_row, without_replaced, new_unit, defined, spent, spent_generator, claimed, claimed_row, listed_unit, claimed_for, all_claimed, linked, waiting_unit, started_unit, finishing_unit, placed_unit, resolved_unit, resolved_row, emitted_row, done_unit, hit_row, hits_failed, failed_unit, tracker_roots, removed_row, removed_unit, removed_generator, gone_tracker, moved_unit, moved_generator, let_go_unit, linked_unit, ordered_dylib}
use Rattle.session_model.specs.declared.rows.Verdict.{Verdict}
use Rattle.session_model.specs.declared.change.Change.{Change}
use Rattle.session_model.specs.declared.change.Change.TheVariants as change
use Rattle.session_model.specs.State.{after}
use Rattle.orc_ids.specs.declared.limits.TheConstants.{DYLIB_LIMIT, TRACKER_LIMIT, UNIT_LIMIT, GENERATOR_LIMIT, INSTANCE_LIMIT}
use Rattle.session_model.specs.declared.entry.Entry.{Entry}
use Rattle.session_model.specs.declared.entry.Event.{Event}
use Rattle.session_model.specs.declared.entry.Event.TheVariants as event
use Rattle.session_model.specs.declared.entry.Reply.{Reply}
use Rattle.session_model.specs.declared.entry.Reply.TheVariants as reply
use Rattle.session_model.specs.declared.rows.InstRow.{InstRow}
use Rattle.session_laws.proofs.Declared.{changed_length, numbered_length, mapped_at, mapped_length, mapped_parts, mapped_some, same_element, pushed_cases, pushed_last, appended_cases, front_some, NewQuery, after_query, AllReplies, replies_only, replies_first, none_given, chosen, settling_keeps, owned_parts}
use Rattle.session_past.specs.Fit.{FitTogether, EmptyIsFit, FitStays, FitSuits}
use Rattle.session_plain.specs.Meant.{unit_row, gen_row}
use Rattle.session_plain.specs.declared.plain.PlainUnit.{PlainUnit}

-- What a change leaves as it is of an instance and of a unit

abbrev row_key : InstRow → ℕ × ℕ
row_key r = (r.unit.0, r.offer)

abbrev unit_key : UnitRow → Meaning × ℕ
unit_key x = (x.meaning, length x.live)

map_mapped : {X Y : Type 0} (g : X → Y) (f : X → X) → ((x : X) → g (f x) ≡ g x) → (xs : List X) → map g (map f xs) ≡ map g xs
map_mapped g f h [] = refl
map_mapped g f h (x ∷ xs) = ap₂ (λ y ys. y ∷ ys) (h x) (map_mapped g f h xs)

map_changed : {X Y : Type 0} (g : X → Y) (k : ℕ) (f : X → X) → ((x : X) → g (f x) ≡ g x) → (xs : List X) → map g (changed_at k f xs) ≡ map g xs
map_changed g k f h [] = refl
map_changed g zero f h (x ∷ xs) = ap (λ y. y ∷ map g xs) (h x)
map_changed g (suc k) f h (x ∷ xs) = ap (λ ys. g x ∷ ys) (map_changed g k f h xs)

map_numbered : {X Y : Type 0} (g : X → Y) (f : ℕ → X → X) → ((i : ℕ) (x : X) → g (f i x) ≡ g x) → (k : ℕ) (xs : List X) → map g (numbered f k xs) ≡ map g xs
map_numbered g f h k [] = refl
map_numbered g f h k (x ∷ xs) = ap₂ (λ y ys. y ∷ ys) (h k x) (map_numbered g f h (k + 1) xs)

record Keeps (m n : Plain) : Type 0 where
  rows : map row_key n.rows ≡ map row_key m.rows
  units : map unit_key n.units ≡ map unit_key m.units
  generators : length n.generators ≡ length m.generators
  dylibs : length n.dylibs ≡ length m.dylibs
  trackers : length n.trackers ≡ length m.trackers

keeps_same : (m : Plain) → Keeps m m
keeps_same m = record { rows = refl; units = refl; generators = refl; dylibs = refl; trackers = refl }

keeps_again : (m n o : Plain) → Keeps m n → Keeps n o → Keeps m o
keeps_again m n o a b = record { rows = b.rows ∙ a.rows; units = b.units ∙ a.units; generators = b.generators ∙ a.generators; dylibs = b.dylibs ∙ a.dylibs; trackers = b.trackers ∙ a.trackers }

-- a change of one unit alone
keeps_unit : (m n : Plain) (u : ℕ) (f : UnitRow → UnitRow) → ((x : UnitRow) → unit_key (f x) ≡ unit_key x) → n.rows ≡ m.rows → n.units ≡ changed_at u f m.units → n.generators ≡ m.generators → n.dylibs ≡ m.dylibs → n.trackers ≡ m.trackers → Keeps m n
keeps_unit m n u f h a b c d e = record {
  rows = ap (map row_key) a;
  units = ap (map unit_key) b ∙ map_changed unit_key u f h m.units;
  generators = ap length c;
  dylibs = ap length d;
  trackers = ap length e;
}

-- Fit lists stay fit where these are kept

key_there : {X Y : Type 0} (g : X → Y) (xs ys : List X) (i : ℕ) (y : X) → map g ys ≡ map g xs → slice_get ys i ≡ Some y → (x : X) × (slice_get xs i ≡ Some x) × (g y ≡ g x)
key_there g xs ys i y e t = mapped_parts g xs i (g y) (sym (ap (λ l. slice_get l i) e) ∙ (mapped_at g ys i ∙ ap (option_map g) t))

keys_length : {X Y : Type 0} (g : X → Y) (xs ys : List X) → map g ys ≡ map g xs → length ys ≡ length xs
keys_length g xs ys e = sym (mapped_length g ys) ∙ (ap length e ∙ mapped_length g xs)

fit_units : (units new : List UnitRow) → map unit_key new ≡ map unit_key units → ((u : ℕ) (x : UnitRow) → slice_get units u ≡ Some x → length x.live ≡ length x.meaning.offers) → (u : ℕ) (x : UnitRow) → slice_get new u ≡ Some x → length x.live ≡ length x.meaning.offers
fit_units units new e f u x t = let p = key_there unit_key units new u x e t in
    ap (λ k. k.1) p.2 ∙ (f u p.0 p.1 ∙ ap (λ (k : Meaning × ℕ). length k.0.offers) (sym p.2))

fit_rows : (rows new : List InstRow) (units more : List UnitRow) → map row_key new ≡ map row_key rows → map unit_key more ≡ map unit_key units →
    ((i : ℕ) (r : InstRow) → slice_get rows i ≡ Some r → (x : UnitRow) × (slice_get units r.unit.0 ≡ Some x) × (r.offer < length x.meaning.offers)) →
    (i : ℕ) (r : InstRow) → slice_get new i ≡ Some r → (x : UnitRow) × (slice_get more r.unit.0 ≡ Some x) × (r.offer < length x.meaning.offers)
fit_rows rows new units more e d f i r t = (y.0, ap (slice_get more) (ap (λ k. k.0) p.2) ∙ y.1, subst (λ n. n < length y.0.meaning.offers) (sym (ap (λ k. k.1) p.2)) (subst (λ (k : Meaning × ℕ). p.0.offer < length k.0.offers) y.2 x.2))
  where
    p : (q : InstRow) × (slice_get rows i ≡ Some q) × (row_key r ≡ row_key q)
    p = key_there row_key rows new i r e t

    x : (x : UnitRow) × (slice_get units p.0.unit.0 ≡ Some x) × (p.0.offer < length x.meaning.offers)
    x = f i p.0 p.1

    y : (y : UnitRow) × (slice_get more p.0.unit.0 ≡ Some y) × (unit_key x.0 ≡ unit_key y)
    y = key_there unit_key more units p.0.unit.0 x.0 (sym d) x.1

fit_kept : (rows new : List InstRow) (units more : List UnitRow) → map row_key new ≡ map row_key rows → map unit_key more ≡ map unit_key units → FitTogether rows units → FitTogether new more
fit_kept rows new units more e d f = record { live = fit_units units more d f.live; offers = fit_rows rows new units more e d f.offers }

-- fit, and within the limits
record Within (m : Plain) : Type 0 where
  together : FitTogether m.rows m.units
  rows : length m.rows ≤ INSTANCE_LIMIT
  units : length m.units ≤ UNIT_LIMIT
  generators : length m.generators ≤ GENERATOR_LIMIT
  dylibs : length m.dylibs ≤ DYLIB_LIMIT
  trackers : length m.trackers ≤ TRACKER_LIMIT

within_kept : (m n : Plain) → Keeps m n → Within m → Within n
within_kept m n k w = record {
  together = fit_kept m.rows n.rows m.units n.units k.rows k.units w.together;
  rows = omega (arith, w.rows, keys_length row_key m.rows n.rows k.rows);
  units = omega (arith, w.units, keys_length unit_key m.units n.units k.units);
  generators = omega (arith, w.generators, k.generators);
  dylibs = omega (arith, w.dylibs, k.dylibs);
  trackers = omega (arith, w.trackers, k.trackers);
}

-- The changes that make no room

claimed_keeps : (u : ℕ) (m : Plain) → Keeps m (claimed u m)
claimed_keeps u m = record {
  rows = map_mapped row_key (claimed_row u) (λ r. refl) m.rows;
  units = map_changed unit_key u listed_unit (λ x. refl) m.units;
  generators = refl;
  dylibs = refl;
  trackers = refl;
}

claim_keeps : (i : InstId) (m : Plain) → Keeps m (claimed_for i m)
claim_keeps i m = split (slice_get m.rows i.0)
  where
    split : (o : Option InstRow) → Keeps m (option_map_or (λ (r : InstRow). if is_unsearched r.phase then claimed r.unit.0 m else m) o m)
    split None = keeps_same m
    split (Some r) = chosen (Keeps m) (is_unsearched r.phase) (claimed r.unit.0 m) m (λ b. claimed_keeps r.unit.0 m) (λ b. keeps_same m)

claims_keep : (os : List (Option InstId)) (m : Plain) → Keeps m (all_claimed os m)
claims_keep [] m = keeps_same m
claims_keep (None ∷ os) m = claims_keep os m
claims_keep (Some i ∷ os) m = keeps_again m (claimed_for i m) (all_claimed os (claimed_for i m)) (claim_keeps i m) (claims_keep os (claimed_for i m))

link_keeps : (m : Plain) (u : ℕ) (found : List (Option InstId)) → Keeps m (linked u found m)
link_keeps m u found = let n = all_claimed found m in
    keeps_again m n (linked u found m) (claims_keep found m)
    (keeps_unit n (linked u found m) u (waiting_unit (length m.queries)) (λ y. refl) refl refl refl refl refl)

hits_keep : (roots : ℕ → Bool) (rows : List InstRow) → map row_key (hits_failed roots rows) ≡ map row_key rows
hits_keep roots rows = map_numbered row_key (hit_row roots rows) (λ i r. refl) 0 rows

-- Definitions

new_rows_at : (d u k : ℕ) (offers : List (NameId × SymFlags)) (found : List Verdict) (i : ℕ) (r : InstRow) → slice_get (new_rows d u k offers found) i ≡ Some r → (r.unit.0 ≡ u) × (r.offer < k + length offers)
new_rows_at d u k [] found i r t = absurd (none-some r t)
new_rows_at d u k (o ∷ os) [] i r t = absurd (none-some r t)
new_rows_at d u k (o ∷ os) (v ∷ vs) i r t = split (is_kept v) (λ j e. new_rows_at d u (k + 1) os vs j r e) t
  where
    own : InstRow
    own = new_row d u k o

    later : (j : ℕ) → ((j : ℕ) → slice_get (new_rows d u (k + 1) os vs) j ≡ Some r → (r.unit.0 ≡ u) × (r.offer < k + 1 + length os)) → slice_get (new_rows d u (k + 1) os vs) j ≡ Some r → (r.unit.0 ≡ u) × (r.offer < k + length (o ∷ os))
    later j h e = let p = h j e in (p.0, (omega (arith, p.1)))

    first : (j : ℕ) → ((j : ℕ) → slice_get (new_rows d u (k + 1) os vs) j ≡ Some r → (r.unit.0 ≡ u) × (r.offer < k + 1 + length os)) → slice_get (own ∷ new_rows d u (k + 1) os vs) j ≡ Some r → (r.unit.0 ≡ u) × (r.offer < k + length (o ∷ os))
    first zero h e = let is : own ≡ r = same_Some own r e in let offer_is : r.offer ≡ k = ap (λ (q : InstRow). q.offer) (sym is) in
        (ap (λ (q : InstRow). q.unit.0) (sym is), (omega (arith, offer_is)))
    first (suc j) h e = later j h e

    split : (b : Bool) → ((j : ℕ) → slice_get (new_rows d u (k + 1) os vs) j ≡ Some r → (r.unit.0 ≡ u) × (r.offer < k + 1 + length os)) → slice_get (if b then own ∷ new_rows d u (k + 1) os vs else new_rows d u (k + 1) os vs) i ≡ Some r → (r.unit.0 ≡ u) × (r.offer < k + length (o ∷ os))
    split true h e = first i h e
    split false h e = later i h e

new_rows_length : (d u k : ℕ) (offers : List (NameId × SymFlags)) (found : List Verdict) → length (new_rows d u k offers found) ≤ length offers
new_rows_length d u k [] found = omega arith
new_rows_length d u k (o ∷ os) [] = omega arith
new_rows_length d u k (o ∷ os) (v ∷ vs) = let h = new_rows_length d u (k + 1) os vs in
    chosen (λ (l : List InstRow). length l ≤ length (o ∷ os)) (is_kept v) (new_row d u k o ∷ new_rows d u (k + 1) os vs) (new_rows d u (k + 1) os vs) (λ b. omega (arith, h)) (λ b. omega (arith, h))

-- one unit more, and rows of its own
fit_more : (rows new : List InstRow) (units : List UnitRow) (x : UnitRow) → FitTogether rows units → length x.live ≡ length x.meaning.offers →
    ((i : ℕ) (r : InstRow) → slice_get new i ≡ Some r → (r.unit.0 ≡ length units) × (r.offer < length x.meaning.offers)) → FitTogether (rows ++ new) (units ++ x ∷ [])
fit_more rows new units x f live_is own = record { live = live; offers = offers }
  where
    live : (u : ℕ) (y : UnitRow) → slice_get (units ++ x ∷ []) u ≡ Some y → length y.live ≡ length y.meaning.offers
    live u y t = split (pushed_cases units x u y t)
      where
        split : (slice_get units u ≡ Some y) ⊎ ((u ≡ length units) × (y ≡ x)) → length y.live ≡ length y.meaning.offers
        split (inl a) = f.live u y a
        split (inr b) = subst (λ (z : UnitRow). length z.live ≡ length z.meaning.offers) (sym b.1) live_is

    offers : (i : ℕ) (r : InstRow) → slice_get (rows ++ new) i ≡ Some r → (y : UnitRow) × (slice_get (units ++ x ∷ []) r.unit.0 ≡ Some y) × (r.offer < length y.meaning.offers)
    offers i r t = split (appended_cases rows new i r t)
      where
        split : (slice_get rows i ≡ Some r) ⊎ ((k : ℕ) × (i ≡ length rows + k) × (slice_get new k ≡ Some r)) → (y : UnitRow) × (slice_get (units ++ x ∷ []) r.unit.0 ≡ Some y) × (r.offer < length y.meaning.offers)
        split (inl a) = let p = f.offers i r a in (p.0, front_some units (x ∷ []) r.unit.0 p.0 p.1, p.2)
        split (inr b) = let p = own b.0 r b.2 in (x, ap (slice_get (units ++ x ∷ [])) p.0 ∙ pushed_last units x, p.1)

-- The room that a definition needs, with a verdict on each name

record UnitRoom (m : Plain) (u : Meaning) (found : List Verdict) : Type 0 where
  units : length m.units < UNIT_LIMIT
  rows : length m.rows + length u.offers ≤ INSTANCE_LIMIT
  judged : length found ≡ length u.offers

defined_within : (m : Plain) (d t : ℕ) (u : Meaning) (found : List Verdict) → Within m → UnitRoom m u found → Within (defined d t u found m)
defined_within m d t u found w room = record {
  together = fit_more rows (new_rows d (length m.units) 0 u.offers found) units (new_unit t u found) (fit_kept m.rows rows m.units units rows_keep units_keep w.together) (mapped_length is_kept found ∙ room.judged) own;
  rows = omega (arith, length-append rows (new_rows d (length m.units) 0 u.offers found), keys_length row_key m.rows rows rows_keep, new_rows_length d (length m.units) 0 u.offers found, room.rows);
  units = omega (arith, length-append units (new_unit t u found ∷ []), keys_length unit_key m.units units units_keep, room.units);
  generators = w.generators;
  dylibs = w.dylibs;
  trackers = w.trackers;
}
  where
    rows : List InstRow
    rows = numbered (unreplaced_row found) 0 m.rows

    units : List UnitRow
    units = numbered (without_replaced m.rows found) 0 m.units

    rows_keep : map row_key rows ≡ map row_key m.rows
    rows_keep = map_numbered row_key (unreplaced_row found) (λ i r. refl) 0 m.rows

    units_keep : map unit_key units ≡ map unit_key m.units
    units_keep = map_numbered unit_key (without_replaced m.rows found) (λ v x. ap (λ n. (x.meaning, n)) (numbered_length _ 0 x.live)) 0 m.units

    own : (i : ℕ) (r : InstRow) → slice_get (new_rows d (length m.units) 0 u.offers found) i ≡ Some r → (r.unit.0 ≡ length units) × (r.offer < length u.offers)
    own i r e = let p = new_rows_at d (length m.units) 0 u.offers found i r e in (p.0 ∙ sym (keys_length unit_key m.units units units_keep), (omega (arith, p.1)))

-- The room that a change needs

abbrev Room : Plain → Change Meaning → Type 0
Room m (change.MakeDylib name) = length m.dylibs < DYLIB_LIMIT
Room m (change.MakeTracker d) = length m.trackers < TRACKER_LIMIT
Room m (change.Attach d t u) = length m.generators < GENERATOR_LIMIT
Room m (change.Define d t u found) = UnitRoom m u found
Room m (change.Generate g found) = (x : GenRow) → slice_get m.generators g.0 ≡ Some x → UnitRoom m x.meaning found
Room m _ = Unit {0}

-- a change of one unit
unit_within : (m n : Plain) (u : ℕ) (f : UnitRow → UnitRow) → ((x : UnitRow) → unit_key (f x) ≡ unit_key x) → n.rows ≡ m.rows → n.units ≡ changed_at u f m.units → n.generators ≡ m.generators → n.dylibs ≡ m.dylibs → n.trackers ≡ m.trackers → Within m → Within n
unit_within m n u f h a b c d e w = within_kept m n (keeps_unit m n u f h a b c d e) w

spent_within : (g : ℕ) (m : Plain) → Within m → Within (spent g m)
spent_within g m w = within_kept m (spent g m) (record { rows = refl; units = refl; generators = changed_length g spent_generator m.generators; dylibs = refl; trackers = refl }) w

resolved_within : (u : ℕ) (m : Plain) → Within m → Within (changed (change.Resolve (record { 0 = u })) m)
resolved_within u m w = split (slice_get m.units u)
  where
    new : UnitRow → Plain
    new x = record m { rows = map (resolved_row u (resolved_unit x)) m.rows; units = changed_at u resolved_unit m.units }

    split : (o : Option UnitRow) → Within (option_map_or new o m)
    split None = w
    split (Some x) = within_kept m (new x) (record {
      rows = map_mapped row_key (resolved_row u (resolved_unit x)) (λ r. refl) m.rows;
      units = map_changed unit_key u resolved_unit (λ y. refl) m.units;
      generators = refl;
      dylibs = refl;
      trackers = refl;
    }) w

moved_within : (t to : ℕ) (m : Plain) → Within m → Within (changed (change.Move (record { 0 = t }) (record { 0 = to })) m)
moved_within t to m w = chosen Within (t == to) m new (λ b. w) (λ b. within_kept m new (record {
  rows = refl;
  units = map_mapped unit_key (moved_unit t to) (λ x. refl) m.units;
  generators = mapped_length (moved_generator t to) m.generators;
  dylibs = refl;
  trackers = changed_length t gone_tracker m.trackers;
}) w)
  where
    new : Plain
    new = record m { units = map (moved_unit t to) m.units; generators = map (moved_generator t to) m.generators; trackers = changed_at t gone_tracker m.trackers }

change_within : (c : Change Meaning) (m : Plain) → Within m → Room m c → Within (changed c m)
change_within change.Nothing m w r = w
change_within (change.MakeDylib name) m w r = record { together = w.together; rows = w.rows; units = w.units; generators = w.generators; dylibs = (let h : length (changed (change.MakeDylib name) m).dylibs ≡ length m.dylibs + 1 = length_push m.dylibs _ in omega (arith, h, r)); trackers = w.trackers }
change_within (change.MakeTracker d) m w r = record { together = w.together; rows = w.rows; units = w.units; generators = w.generators; dylibs = w.dylibs; trackers = (let h : length (changed (change.MakeTracker d) m).trackers ≡ length m.trackers + 1 = length_push m.trackers _ in omega (arith, h, r)) }
change_within (change.SetOrder d order) m w r = within_kept m (changed (change.SetOrder d order) m) (record { rows = refl; units = refl; generators = refl; dylibs = changed_length d.0 (ordered_dylib d.0 order) m.dylibs; trackers = refl }) w
change_within (change.Attach d t u) m w r = record { together = w.together; rows = w.rows; units = w.units; generators = (let h : length (changed (change.Attach d t u) m).generators ≡ length m.generators + 1 = length_push m.generators _ in omega (arith, h, r)); dylibs = w.dylibs; trackers = w.trackers }
change_within (change.Define d t u found) m w r = defined_within m d.0 t.0 u found w r
change_within (change.Generate k found) m w r = split (slice_get m.generators k.0) refl
  where
    split : (o : Option GenRow) → slice_get m.generators k.0 ≡ o → Within (option_map_or (λ x. spent k.0 (defined x.dylib x.tracker x.meaning found m)) o m)
    split None e = w
    split (Some x) e = spent_within k.0 (defined x.dylib x.tracker x.meaning found m) (defined_within m x.dylib x.tracker x.meaning found w (r x e))
change_within (change.Spend k) m w r = spent_within k.0 m w
change_within (change.Ask found lev n) m w r = within_kept m (changed (change.Ask found lev n) m) (let c = claims_keep found m in record { rows = c.rows; units = c.units; generators = c.generators; dylibs = c.dylibs; trackers = c.trackers }) w
change_within (change.Start s u) m w r = unit_within m (changed (change.Start s u) m) u.0 (started_unit s.0) (λ x. refl) refl refl refl refl refl w
change_within (change.Finish s u how) m w r = unit_within m (changed (change.Finish s u how) m) u.0 (finishing_unit s.0 how) (λ x. refl) refl refl refl refl refl w
change_within (change.Place u base) m w r = unit_within m (changed (change.Place u base) m) u.0 (placed_unit base) (λ x. refl) refl refl refl refl refl w
change_within (change.Resolve u) m w r = resolved_within u.0 m w
change_within (change.Link u found) m w r = within_kept m (linked u.0 found m) (link_keeps m u.0 found) w
change_within (change.Emit u groups) m w r = within_kept m (changed (change.Emit u groups) m) (record {
  rows = map_numbered row_key (emitted_row u.0 groups) (λ i q. refl) 0 m.rows;
  units = map_changed unit_key u.0 done_unit (λ x. refl) m.units;
  generators = refl;
  dylibs = refl;
  trackers = refl;
}) w
change_within (change.Fail u) m w r = within_kept m (changed (change.Fail u) m) (record {
  rows = hits_keep (is_owned_at u.0 m.rows) m.rows;
  units = map_changed unit_key u.0 failed_unit (λ x. refl) m.units;
  generators = refl;
  dylibs = refl;
  trackers = refl;
}) w
change_within (change.Move t to) m w r = moved_within t.0 to.0 m w
change_within (change.Remove t) m w r = within_kept m (changed (change.Remove t) m) (record {
  rows = map_mapped row_key (removed_row m t.0) (λ q. refl) (hits_failed (tracker_roots m t.0) m.rows) ∙ hits_keep (tracker_roots m t.0) m.rows;
  units = map_mapped unit_key (removed_unit t.0) (λ x. refl) m.units;
  generators = mapped_length (removed_generator t.0) m.generators;
  dylibs = refl;
  trackers = changed_length t.0 gone_tracker m.trackers;
}) w
change_within (change.LetGo s u) m w r = unit_within m (changed (change.LetGo s u) m) u.0 (let_go_unit s.0) (λ x. refl) refl refl refl refl refl w

settled_within : (m : Plain) → Within m → Within (settled m)
settled_within m w = settling_keeps Within (λ u k q n p b met e. within_kept n (finish_listed u n) (keeps_unit n (finish_listed u n) u linked_unit (λ x. refl) refl refl refl refl refl) p) 0 m.queries m w

-- A right reply says that the room is there

abbrev is_growth : Reply → Bool
is_growth (reply.Made d) = true
is_growth (reply.Tracker t) = true
is_growth (reply.Generator g) = true
is_growth (reply.Defined v first count) = true
is_growth _ = false

abbrev NoGrowth : Reply → Type 0
NoGrowth r = is_growth r ≡ false

-- TooMany wasn't answered
not_many : (b : Bool) (last : Reply) → is_growth (unwrap_or (only_if b reply.TooMany) last) ≡ true → b ≡ false
not_many true last e = absurd (both_ways false refl e)
not_many false last e = refl

no_dylib_none : (m : Plain) (ds : List DylibId) → AllReplies NoGrowth (no_dylib m ds)
no_dylib_none m ds = replies_first NoGrowth (λ (d : DylibId). only_if (not (has_dylib m d.0)) (reply.NoDylib d)) (λ d. replies_only NoGrowth (not (has_dylib m d.0)) (reply.NoDylib d) refl) ds

not_tracker_none : (m : Plain) (d : DylibId) (t : TrackId) → AllReplies NoGrowth (not_tracker_of m d t)
not_tracker_none m d t = replies_only NoGrowth (not (is_tracker_of m d.0 t.0)) (reply.TrackerGone t) refl

unit_room : (m : Plain) (d : ℕ) (u : Meaning) → is_growth (answer_unit m d u) ≡ true → UnitRoom m u (verdicts m.rows d u.offers)
unit_room m d u e = let p = or_parts (nat_le UNIT_LIMIT (length m.units)) (nat_lt INSTANCE_LIMIT (length m.rows + length u.offers)) (not_many (nat_le UNIT_LIMIT (length m.units) || nat_lt INSTANCE_LIMIT (length m.rows + length u.offers)) _ e) in
    record { units = leb-false UNIT_LIMIT (length m.units) p.0; rows = ltb-false INSTANCE_LIMIT (length m.rows + length u.offers) p.1; judged = mapped_length (verdict m.rows d) u.offers }

generate_room : (m : Plain) (g : GenId) (x : GenRow) (o : Option GenRow) → o ≡ Some x → is_growth (option_map_or (λ y. if y.spent then reply.Spent g else answer_unit m y.dylib y.meaning) o (reply.NoGen g)) ≡ true → UnitRoom m x.meaning (option_map_or (λ y. verdicts m.rows y.dylib y.meaning.offers) o [])
generate_room m g x None e h = absurd (none-some x e)
generate_room m g x (Some y) e h = subst (λ (z : GenRow). UnitRoom m z.meaning (verdicts m.rows y.dylib y.meaning.offers)) (same_Some y x e) (unit_room m y.dylib y.meaning (grows y.spent h))
  where
    grows : (b : Bool) → is_growth (if b then reply.Spent g else answer_unit m y.dylib y.meaning) ≡ true → is_growth (answer_unit m y.dylib y.meaning) ≡ true
    grows true i = absurd (both_ways false refl i)
    grows false i = i

dylib_room : (n : ℕ) (d : DylibId) (o : Option ℕ) (last : Reply) → is_growth (unwrap_or (option_map (λ i. reply.NameTaken (record { 0 = i })) o) (unwrap_or (only_if (nat_le DYLIB_LIMIT n) reply.TooMany) last)) ≡ true → n < DYLIB_LIMIT
dylib_room n d None last e = leb-false DYLIB_LIMIT n (not_many (nat_le DYLIB_LIMIT n) last e)
dylib_room n d (Some i) last e = absurd (both_ways false refl e)

room_of : (jmax : ℕ) (past : List (Entry Meaning)) (m : Plain) (s : ℕ) (e : Event Meaning) (r : Reply) → Answers jmax past m s e r → Room m (change_of m s e r)
room_of jmax past m s (event.Dylib name) (reply.Made d) a = dylib_room (length m.dylibs) d (position_from (λ d. d.name == name.0) 0 m.dylibs) (reply.Made (record { 0 = length m.dylibs })) (ap is_growth (sym a))
room_of jmax past m s (event.Dylib name) _ a = tt
room_of jmax past m s (event.Tracker d) (reply.Tracker t) a = leb-false TRACKER_LIMIT (length m.trackers) (not_many (nat_le TRACKER_LIMIT (length m.trackers)) _ (none_given is_growth (no_dylib m (d ∷ [])) _ (no_dylib_none m (d ∷ [])) (ap is_growth (sym a))).1)
room_of jmax past m s (event.Tracker d) _ a = tt
room_of jmax past m s (event.Attach d t u) (reply.Generator g) a = leb-false GENERATOR_LIMIT (length m.generators) (not_many (nat_le GENERATOR_LIMIT (length m.generators)) _
    (none_given is_growth (not_tracker_of m d t) _ (not_tracker_none m d t) (none_given is_growth (no_dylib m (d ∷ [])) _ (no_dylib_none m (d ∷ [])) (ap is_growth (sym a.1))).1).1)
room_of jmax past m s (event.Attach d t u) _ a = tt
room_of jmax past m s (event.Define d t u) (reply.Defined v first count) a = unit_room m d.0 u
    (none_given is_growth (not_tracker_of m d t) (answer_unit m d.0 u) (not_tracker_none m d t) (none_given is_growth (no_dylib m (d ∷ [])) _ (no_dylib_none m (d ∷ [])) (ap is_growth (sym a.1))).1).1
room_of jmax past m s (event.Define d t u) _ a = tt
room_of jmax past m s (event.Generate g) (reply.Defined v first count) a = λ x e. generate_room m g x (slice_get m.generators g.0) e (ap is_growth (sym a))
room_of jmax past m s (event.Generate g) _ a = tt
room_of jmax past m s (event.SetOrder d order) reply.Set a = tt
room_of jmax past m s (event.SetOrder d order) _ a = tt
room_of jmax past m s (event.Ask order wanted lev n) (reply.Done q) a = tt
room_of jmax past m s (event.Ask order wanted lev n) _ a = tt
room_of jmax past m s (event.Collect q) (reply.Defunct u) a = tt
room_of jmax past m s (event.Collect q) _ a = tt
room_of jmax past m s event.Take (reply.Start u) a = tt
room_of jmax past m s event.Take _ a = tt
room_of jmax past m s (event.Place u shape) (reply.Placed base) a = tt
room_of jmax past m s (event.Place u shape) _ a = tt
room_of jmax past m s (event.Resolve u) reply.Resolved a = tt
room_of jmax past m s (event.Resolve u) _ a = tt
room_of jmax past m s (event.Link u) (reply.Done q) a = tt
room_of jmax past m s (event.Link u) _ a = tt
room_of jmax past m s (event.Emit u groups) reply.Emitted a = tt
room_of jmax past m s (event.Emit u groups) _ a = tt
room_of jmax past m s (event.Fail u why) reply.Failed a = tt
room_of jmax past m s (event.Fail u why) _ a = tt
room_of jmax past m s (event.MoveTracker t to) reply.Moved a = tt
room_of jmax past m s (event.MoveTracker t to) _ a = tt
room_of jmax past m s (event.Remove t) reply.Removed a = tt
room_of jmax past m s (event.Remove t) _ a = tt
room_of jmax past m s event.Image (reply.Defunct u) a = tt
room_of jmax past m s event.Image _ a = tt

-- one query more at most
query_more : (m n : Plain) → NewQuery m n.queries → length n.queries ≤ length m.queries + 1
query_more m n (inl e) = let h : length n.queries ≡ length m.queries = ap length e in omega (arith, h)
query_more m n (inr p) = let h : length n.queries ≡ length m.queries + 1 = ap length p.1 ∙ length-append m.queries (p.0 ∷ []) in omega (arith, h)

pub fit_stays : FitStays
fit_stays jmax past m e f a = record {
  together = w.together;
  rows = w.rows;
  units = w.units;
  generators = w.generators;
  dylibs = w.dylibs;
  trackers = w.trackers;
  queries = omega (arith, query_more m (after m e) (after_query m e), f.queries);
}
  where
    w : Within (settled (changed (change_of m e.seat.0 e.event e.reply) m))
    w = settled_within (changed (change_of m e.seat.0 e.event e.reply) m) (change_within (change_of m e.seat.0 e.event e.reply) m
        (record { together = f.together; rows = f.rows; units = f.units; generators = f.generators; dylibs = f.dylibs; trackers = f.trackers })
        (room_of jmax past m e.seat.0 e.event e.reply a))

pub empty_is_fit : EmptyIsFit
empty_is_fit = record {
  together = record { live = λ u x t. absurd (none-some x t); offers = λ i r t. absurd (none-some r t) };
  rows = omega arith;
  units = omega arith;
  generators = omega arith;
  dylibs = omega arith;
  trackers = omega arith;
  queries = omega arith;
}

pub fit_suits : {U : Type 0} (means : U → Meaning) → FitSuits means
fit_suits means s f b = (
  record {
    rows = omega (arith, f.rows);
    units = omega (arith, f.units, mapped_length (unit_row means) s.units.items);
    generators = omega (arith, f.generators, mapped_length (gen_row means) s.generators.items);
    dylibs = omega (arith, f.dylibs);
    trackers = omega (arith, f.trackers);
    queries = omega (arith, f.queries, b);
  },
  (λ k x t. f.together.live k (unit_row means x) (mapped_some (unit_row means) s.units.items k x t)),
  (λ u i x r t e o. offered u i x r t e (owned_parts u r o).1 (f.together.offers i r e)),
)
  where
    offered : (u i : ℕ) (x : PlainUnit _) (r : InstRow) → slice_get s.units.items u ≡ Some x → slice_get s.rows.items i ≡ Some r → r.unit.0 ≡ u → (y : UnitRow) × (slice_get (map (unit_row means) s.units.items) r.unit.0 ≡ Some y) × (r.offer < length y.meaning.offers) → r.offer < length (means x.unit).offers
    offered u i x r t e is p = subst (λ (y : UnitRow). r.offer < length y.meaning.offers)
        (same_element (slice_get (map (unit_row means) s.units.items) r.unit.0) p.0 (unit_row means x) p.1 (ap (slice_get (map (unit_row means) s.units.items)) is ∙ mapped_some (unit_row means) s.units.items u x t)) p.2
