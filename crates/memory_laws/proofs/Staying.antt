-- What events that change no name leave of a session in which some objects were defined.
use Rattle.std.proofs.Common.{◌≡◌, ℕ, Bool, true, false, map, List, [], ◌∷◌, ◌++◌, length, slice_get, ◌⊎◌, inl, inr, subst, sym, refl, ap, ◌∙◌, Option, Some, None, append_assoc, append-nil}
use Rattle.std.specs.Bool.{if◌then◌else◌}
use Rattle.std.specs.Option.{option_map_or}
use Rattle.std.specs.Prelude.{All}
use Rattle.std.proofs.lemmas.Bool.{both_ways}
use Rattle.std.proofs.lemmas.List.Elements.{All-head, All-tail}
use Rattle.orc_ids.specs.declared.ids.DylibId.{DylibId}
use Rattle.orc_ids.specs.declared.ids.InstId.{InstId}
use Rattle.orc_ids.specs.declared.ids.NameId.{NameId}
use Rattle.orc_ids.specs.declared.ids.UnitId.{UnitId}
use Rattle.link_model.specs.declared.graph.LinkGraph.{LinkGraph}
use Rattle.session_model.specs.Change.{change_of, changed, settled, all_claimed, claimed_for, claimed, listed_unit, started_unit, finishing_unit, placed_unit, resolved_row, resolved_unit, waiting_unit, linked_unit, done_unit, failed_unit, let_go_unit}
use Rattle.session_model.specs.History.{IsLegal}
use Rattle.session_model.specs.Lists.{changed_at}
use Rattle.session_model.specs.Meaning.{Meaning}
use Rattle.session_model.specs.Plain.{Plain, UnitRow, is_unsearched, empty}
use Rattle.session_model.specs.State.{state}
use Rattle.session_model.specs.declared.change.Change.{Change}
use Rattle.session_model.specs.declared.change.Change.TheVariants.{Nothing, Define, Generate, Ask, Start, Finish, Place, Resolve, Link, Emit, Fail, LetGo}
use Rattle.session_model.specs.declared.entry.Entry.{Entry}
use Rattle.session_model.specs.declared.entry.Event.{Event}
use Rattle.session_model.specs.declared.entry.Event.TheVariants as event
use Rattle.session_model.specs.declared.entry.Reply.{Reply}
use Rattle.session_model.specs.declared.entry.Reply.TheVariants as reply
use Rattle.session_model.specs.declared.rows.Dylib.{Dylib}
use Rattle.session_model.specs.declared.rows.InstRow.{InstRow}
use Rattle.session_model.specs.declared.rows.Track.{Track}
use Rattle.session_laws.proofs.Declared.{prefixes_legal, state_from_push, changed_length, Guard, chosen, settled_rows, settling_keeps}
use Rattle.session_laws.specs.Sound.{IsSound}
use Rattle.closure_laws.proofs.Declared.{HasFields, IsNew, MovesTo, change_fields, is_define, settled_fields, OneMore, one_more, RowMoves, RowStays, RowYields, RowClaimed, RowResolved, RowEmitted, RowFails, RowGoes, RowRuns, RowHere, RowOn, SameRow, change_rows, run_same, row_was}
use Rattle.memory_laws.specs.Names.{defines, definition}
use Rattle.memory_laws.specs.Objects.{keeps_names}
use Rattle.memory_laws.proofs.Building.{IsBuilt, IsBuiltUnit, IsDefinitionRow, IsThere}
use Rattle.memory_laws.proofs.Rows.{IsNamedRow, named_from, named_parts}

-- The changes

-- these changes make no definition, dylib, tracker or generator, and remove and move nothing
abbrev pub keeps : Change Meaning → Bool
keeps Nothing = true
keeps (Ask found lev _) = true
keeps (Start s u) = true
keeps (Finish s u how) = true
keeps (Place u base) = true
keeps (Resolve u) = true
keeps (Link u found) = true
keeps (Emit u groups) = true
keeps (Fail u) = true
keeps (LetGo s u) = true
keeps _ = false

-- they are those that such events make
pub keeps_change : (m : Plain) (s : ℕ) (e : Event Meaning) (r : Reply) → keeps_names e ≡ true → keeps (change_of m s e r) ≡ true
keeps_change m s (event.Ask order wanted lev n) r k = of r
  where
    of : (r : Reply) → keeps (change_of m s (event.Ask order wanted lev n) r) ≡ true
    of (reply.Done q) = refl
    of (reply.Pending q) = refl
    of _ = refl
keeps_change m s (event.Collect q) r k = of r
  where
    of : (r : Reply) → keeps (change_of m s (event.Collect q) r) ≡ true
    of (reply.Defunct u) = refl
    of _ = refl
keeps_change m s event.Take r k = of r
  where
    of : (r : Reply) → keeps (change_of m s event.Take r) ≡ true
    of (reply.Start u) = refl
    of _ = refl
keeps_change m s (event.Place u shape) r k = of r
  where
    of : (r : Reply) → keeps (change_of m s (event.Place u shape) r) ≡ true
    of (reply.Placed base) = refl
    of _ = refl
keeps_change m s (event.Resolve u) r k = of r
  where
    of : (r : Reply) → keeps (change_of m s (event.Resolve u) r) ≡ true
    of reply.Resolved = refl
    of _ = refl
keeps_change m s (event.Link u) r k = of r
  where
    of : (r : Reply) → keeps (change_of m s (event.Link u) r) ≡ true
    of (reply.Done q) = refl
    of _ = refl
keeps_change m s (event.Emit u groups) r k = of r
  where
    of : (r : Reply) → keeps (change_of m s (event.Emit u groups) r) ≡ true
    of reply.Emitted = refl
    of _ = refl
keeps_change m s (event.Fail u why) r k = of r
  where
    of : (r : Reply) → keeps (change_of m s (event.Fail u why) r) ≡ true
    of reply.Failed = refl
    of _ = refl
keeps_change m s event.Image r k = of r
  where
    of : (r : Reply) → keeps (change_of m s event.Image r) ≡ true
    of (reply.Defunct u) = refl
    of _ = refl
keeps_change m s _ r k = absurd (both_ways false refl k)

pub keeps_undefined : (c : Change Meaning) → keeps c ≡ true → is_define c ≡ false
keeps_undefined (Define d t u found) k = absurd (both_ways false refl k)
keeps_undefined (Generate g found) k = absurd (both_ways false refl k)
keeps_undefined _ k = refl

-- What else they leave

record SameParts (m n : Plain) : Type 0 where
  dylibs : n.dylibs ≡ m.dylibs
  trackers : n.trackers ≡ m.trackers
  generators : n.generators ≡ m.generators
  count : length n.units ≡ length m.units

same_on : (m n k : Plain) → SameParts m n → SameParts n k → SameParts m k
same_on m n k a b = record { dylibs = b.dylibs ∙ a.dylibs; trackers = b.trackers ∙ a.trackers; generators = b.generators ∙ a.generators; count = b.count ∙ a.count }

same_claim : (i : InstId) (m : Plain) → SameParts m (claimed_for i m)
same_claim i m = split (slice_get m.rows i.0)
  where
    split : (o : Option InstRow) → SameParts m (option_map_or (λ (r : InstRow). if is_unsearched r.phase then claimed r.unit.0 m else m) o m)
    split None = record { dylibs = refl; trackers = refl; generators = refl; count = refl }
    split (Some r) = chosen (SameParts m) (is_unsearched r.phase) (claimed r.unit.0 m) m
        (λ b. record { dylibs = refl; trackers = refl; generators = refl; count = changed_length r.unit.0 listed_unit m.units })
        (λ b. record { dylibs = refl; trackers = refl; generators = refl; count = refl })

same_claims : (os : List (Option InstId)) (m : Plain) → SameParts m (all_claimed os m)
same_claims [] m = record { dylibs = refl; trackers = refl; generators = refl; count = refl }
same_claims (None ∷ os) m = same_claims os m
same_claims (Some i ∷ os) m = same_on m (claimed_for i m) (all_claimed os (claimed_for i m)) (same_claim i m) (same_claims os (claimed_for i m))

same_changed : (m : Plain) (c : Change Meaning) → keeps c ≡ true → SameParts m (changed c m)
same_changed m Nothing k = record { dylibs = refl; trackers = refl; generators = refl; count = refl }
same_changed m (Ask found lev n) k = let s = same_claims found m in record { dylibs = s.dylibs; trackers = s.trackers; generators = s.generators; count = s.count }
same_changed m (Start t u) k = record { dylibs = refl; trackers = refl; generators = refl; count = changed_length u.0 (started_unit t.0) m.units }
same_changed m (Finish t u how) k = record { dylibs = refl; trackers = refl; generators = refl; count = changed_length u.0 (finishing_unit t.0 how) m.units }
same_changed m (Place u base) k = record { dylibs = refl; trackers = refl; generators = refl; count = changed_length u.0 (placed_unit base) m.units }
same_changed m (Resolve u) k = split (slice_get m.units u.0)
  where
    split : (o : Option UnitRow) → SameParts m (option_map_or (λ (x : UnitRow). record m { rows = map (resolved_row u.0 (resolved_unit x)) m.rows; units = changed_at u.0 resolved_unit m.units }) o m)
    split None = record { dylibs = refl; trackers = refl; generators = refl; count = refl }
    split (Some x) = record { dylibs = refl; trackers = refl; generators = refl; count = changed_length u.0 resolved_unit m.units }
same_changed m (Link u found) k = let s = same_claims found m in record { dylibs = s.dylibs; trackers = s.trackers; generators = s.generators; count = changed_length u.0 (waiting_unit (length m.queries)) (all_claimed found m).units ∙ s.count }
same_changed m (Emit u groups) k = record { dylibs = refl; trackers = refl; generators = refl; count = changed_length u.0 done_unit m.units }
same_changed m (Fail u) k = record { dylibs = refl; trackers = refl; generators = refl; count = changed_length u.0 failed_unit m.units }
same_changed m (LetGo t u) k = record { dylibs = refl; trackers = refl; generators = refl; count = changed_length u.0 (let_go_unit t.0) m.units }
same_changed m _ k = absurd (both_ways false refl k)

same_settled : (m : Plain) → SameParts m (settled m)
same_settled m = settling_keeps (SameParts m)
    (λ u k q n s w b e. record { dylibs = s.dylibs; trackers = s.trackers; generators = s.generators; count = changed_length u linked_unit n.units ∙ s.count })
    0 m.queries m (record { dylibs = refl; trackers = refl; generators = refl; count = refl })

-- Units and rows

unit_still : (gs : List LinkGraph) (k : ℕ) (g : LinkGraph) (x y : UnitRow) → y.meaning ≡ x.meaning → y.live ≡ x.live → y.tracker ≡ x.tracker → IsBuiltUnit gs k g x → IsBuiltUnit gs k g y
unit_still gs k g x y meaning live tracker was = record { name = was.name; is = meaning ∙ was.is; keeps = live ∙ was.keeps; tracker = tracker ∙ was.tracker }

row_still : (gs : List LinkGraph) (r q : InstRow) → SameRow r q → IsDefinitionRow gs r → IsDefinitionRow gs q
row_still gs r q s was = record {
  dylib = ap (λ (d : DylibId). d.0) s.dylib ∙ was.dylib;
  place = was.place;
  defined = ap (λ (n : NameId). definition gs n.0) s.name ∙ (was.defined ∙ ap (λ (u : UnitId). Some (u.0, was.place)) (sym s.unit));
  graph = was.graph;
  there = ap (λ (u : UnitId). slice_get gs u.0) s.unit ∙ was.there;
  symbol = was.symbol;
  within = was.within;
  defines = ap (λ (n : NameId). defines n.0 was.symbol) s.name ∙ was.defines;
  flags = s.flags ∙ was.flags;
  offer = s.offer ∙ was.offer;
}

-- an instance that is present stays so
move_present : (m : Plain) (c : Change Meaning) (i : ℕ) (r q : InstRow) → keeps c ≡ true → RowMoves m c i r q → r.present ≡ true → q.present ≡ true
move_present m c i r _ k RowStays h = h
move_present m c i r _ k (RowYields d f) h = absurd (both_ways (is_define c) (keeps_undefined c k) d)
move_present m c i r _ k (RowClaimed e) h = h
move_present m c i r _ k (RowResolved address e) h = h
move_present m c i r _ k (RowEmitted u groups x is v t f own e) h = h
move_present m c i r _ k RowFails h = h
move_present m c i r _ k (RowGoes t is f) h = absurd (both_ways (keeps c) (ap keeps is) k)

pub run_present : (m : Plain) (c : Change Meaning) (i : ℕ) (r q : InstRow) → keeps c ≡ true → RowRuns m c i r q → r.present ≡ true → q.present ≡ true
run_present m c i r _ k RowHere h = h
run_present m c i r q k (RowOn p _ a b) h = move_present m c i p q k b (run_present m c i r p k a h)

-- One entry

built_changed : (gs : List LinkGraph) (m : Plain) (s : ℕ) (c : Change Meaning) → IsSound m → Guard m s c → keeps c ≡ true → IsBuilt gs m → IsBuilt gs (changed c m)
built_changed gs m s c sound guard k was = record {
  dylib = (was.dylib.0, ap (λ (ds : List Dylib). slice_get ds 0) same.dylibs ∙ was.dylib.1, was.dylib.2);
  tracker = (was.tracker.0, ap (λ (ts : List Track). slice_get ts 0) same.trackers ∙ was.tracker.1, was.tracker.2);
  generators_are = same.generators ∙ was.generators_are;
  whole = same.count ∙ was.whole;
  units_are = units_are;
  rows_are = rows_are;
  present = present;
}
  where
    same : SameParts m (changed c m)
    same = same_changed m c k

    units_are : (u : ℕ) (y : UnitRow) (g : LinkGraph) → slice_get (changed c m).units u ≡ Some y → slice_get gs u ≡ Some g → IsBuiltUnit gs u g y
    units_are u y g e t = split (change_fields m c u y e)
      where
        unmoved : (x : UnitRow) → (y.tracker ≡ x.tracker) ⊎ MovesTo c x y → y.tracker ≡ x.tracker
        unmoved x (inl f) = f
        unmoved x (inr p) = absurd (both_ways (keeps c) (ap keeps p.2) k)

        split : ((x : UnitRow) × (slice_get m.units u ≡ Some x) × HasFields m c u x y) ⊎ IsNew m c u y → IsBuiltUnit gs u g y
        split (inl p) = unit_still gs u g p.0 y p.2.meaning (p.2.live (keeps_undefined c k)) (unmoved p.0 p.2.tracker) (was.units_are u p.0 g p.1 t)
        split (inr p) = absurd (both_ways (is_define c) (keeps_undefined c k) p.0)

    rows_are : (i : ℕ) (q : InstRow) → slice_get (changed c m).rows i ≡ Some q → q.present ≡ true → IsDefinitionRow gs q
    rows_are i q e p = let r = row_was m s c (keeps_undefined c k) sound guard i q e in row_still gs r.0 q r.2 (was.rows_are i r.0 r.1 (r.2.present p))

    present : (name u j : ℕ) → definition gs name ≡ Some (u, j) → IsThere (changed c m).rows name
    present name u j d = (old.0, q.0, q.1, named_from 0 name q.0 (run_present m c old.0 old.1 q.0 k q.2 named.present) (ap (λ (z : DylibId). z.0) run.dylib ∙ named.dylib) (ap (λ (z : NameId). z.0) run.name ∙ named.name_is))
      where
        old : IsThere m.rows name
        old = was.present name u j d

        named : IsNamedRow 0 name old.1
        named = named_parts 0 name old.1 old.3

        q : (q : InstRow) × (slice_get (changed c m).rows old.0 ≡ Some q) × RowRuns m c old.0 old.1 q
        q = change_rows m s c sound guard old.0 old.1 old.2

        run : SameRow old.1 q.0
        run = run_same m c old.0 old.1 q.0 q.2

pub built_settled : (gs : List LinkGraph) (m : Plain) → IsBuilt gs m → IsBuilt gs (settled m)
built_settled gs m was = record {
  dylib = (was.dylib.0, ap (λ (ds : List Dylib). slice_get ds 0) same.dylibs ∙ was.dylib.1, was.dylib.2);
  tracker = (was.tracker.0, ap (λ (ts : List Track). slice_get ts 0) same.trackers ∙ was.tracker.1, was.tracker.2);
  generators_are = same.generators ∙ was.generators_are;
  whole = same.count ∙ was.whole;
  units_are = λ u y g e t. let x = settled_fields m u y e in unit_still gs u g x.0 y x.2.meaning x.2.live x.2.tracker (was.units_are u x.0 g x.1 t);
  rows_are = λ i r e p. was.rows_are i r (ap (λ rs. slice_get rs i) (sym (settled_rows m)) ∙ e) p;
  present = λ name u j d. let old = was.present name u j d in (old.0, old.1, ap (λ rs. slice_get rs old.0) (settled_rows m) ∙ old.2, old.3);
}
  where
    same : SameParts m (settled m)
    same = same_settled m

built_more : (gs : List LinkGraph) (jmax : ℕ) (h : List (Entry Meaning)) (e : Entry Meaning) → OneMore jmax h e → keeps_names e.event ≡ true → IsBuilt gs (state h) → IsBuilt gs (state (h ++ e ∷ []))
built_more gs jmax h e one k was =
    let c = change_of (state h) e.seat.0 e.event e.reply in
    subst (IsBuilt gs) (sym (state_from_push empty h e))
    (built_settled gs (changed c (state h)) (built_changed gs (state h) e.seat.0 c one.sound one.guard (keeps_change (state h) e.seat.0 e.event e.reply k) was))

-- Along a history

pub built_stays : (gs : List LinkGraph) (jmax : ℕ) (h more : List (Entry Meaning)) → IsLegal jmax (h ++ more) → All (λ (e : Entry Meaning). keeps_names e.event ≡ true) more → IsBuilt gs (state h) → IsBuilt gs (state (h ++ more))
built_stays gs jmax h [] l quiet was = subst (λ g. IsBuilt gs (state g)) (sym (append-nil h)) was
built_stays gs jmax h (e ∷ es) l quiet was =
    let legal = subst (IsLegal jmax) (sym (append_assoc h (e ∷ []) es)) l in
    let one = one_more jmax h e ((prefixes_legal jmax (h ++ e ∷ []) es).0 legal) in
    subst (λ g. IsBuilt gs (state g)) (append_assoc h (e ∷ []) es)
    (built_stays gs jmax (h ++ e ∷ []) es legal (All-tail (λ (f : Entry Meaning). keeps_names f.event ≡ true) e es quiet)
    (built_more gs jmax h e one (All-head (λ (f : Entry Meaning). keeps_names f.event ≡ true) e es quiet) was))
