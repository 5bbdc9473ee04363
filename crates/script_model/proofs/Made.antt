-- The dylibs of a history have the names that its events make dylibs of.
use Rattle.std.proofs.Common.{◌≡◌, ℕ, zero, suc, ◌+◌, ◌<◌, ◌≤◌, Bool, true, false, ◌==◌, nat_le, map, List, [], ◌∷◌, ◌++◌, length, take, drop, slice_get, arith, append_assoc, append-nil, subst, sym, refl, ap, ◌∙◌, Option, Some, None, option_map, unwrap_or}
use Rattle.std.specs.Bool.{if◌then◌else◌}
use Rattle.std.specs.List.{position_from}
use Rattle.std.specs.Option.{option_map_or}
use Rattle.std.proofs.lemmas.Bool.{both_ways, eqb-true, lt-leb}
use Rattle.std.proofs.lemmas.List.{length-append, length-map, map-append, take-append-drop}
use Rattle.std.proofs.lemmas.List.Elements.{All-contains, All-from_recursion, recursion_from_All, Contains-append_right}
use Rattle.orc_ids.specs.declared.ids.InstId.{InstId}
use Rattle.orc_ids.specs.declared.ids.NameId.{NameId}
use Rattle.orc_ids.specs.declared.limits.TheConstants.{DYLIB_LIMIT}
use Rattle.orc_ids.specs.declared.lookup.OrderItem.{OrderItem}
use Rattle.session_model.specs.Answer.{Answers, answer_dylib}
use Rattle.session_model.specs.Change.{change_of, other_change, changed, settled, defined, spent, all_claimed, claimed_for, claimed, resolved_row, resolved_unit, new_dylib, ordered_dylib, moved_unit, moved_generator, gone_tracker}
use Rattle.session_model.specs.History.{LegalFrom, IsLegal}
use Rattle.session_model.specs.Lists.{changed_at, only_if}
use Rattle.session_model.specs.Meaning.{Meaning}
use Rattle.session_model.specs.Plain.{Plain, UnitRow, GenRow, empty, is_unsearched}
use Rattle.session_model.specs.State.{after, state, state_from}
use Rattle.session_model.specs.declared.change.Change.{Change}
use Rattle.session_model.specs.declared.change.Change.TheVariants.{MakeDylib, SetOrder, Generate, Ask, Resolve, Link, Move}
use Rattle.session_model.specs.declared.entry.Entry.{Entry}
use Rattle.session_model.specs.declared.entry.Event.{Event}
use Rattle.session_model.specs.declared.entry.Event.TheVariants as event
use Rattle.session_model.specs.declared.entry.Reply.{Reply}
use Rattle.session_model.specs.declared.entry.Reply.TheVariants as reply
use Rattle.session_model.specs.declared.rows.Dylib.{Dylib}
use Rattle.session_model.specs.declared.rows.InstRow.{InstRow}
use Rattle.session_laws.proofs.Declared.{all_appended, chosen, settling_keeps}
use Rattle.session_laws.specs.Entries.{events_of}
use Rattle.script_model.specs.Dylibs.{DylibsAreMade, DifferentNames, dylib_names}

abbrev names : List Dylib → List ℕ
names ds = map (λ (d : Dylib). d.name) ds

-- Names

pub names_append : (es fs : List (Event Meaning)) → dylib_names (es ++ fs) ≡ dylib_names es ++ dylib_names fs
names_append [] fs = refl
names_append (event.Dylib name ∷ es) fs = ap (λ ns. name.0 ∷ ns) (names_append es fs)
names_append (_ ∷ es) fs = names_append es fs

differ_front : (ns ms : List ℕ) → DifferentNames (ns ++ ms) → DifferentNames ns
differ_front [] ms p = tt
differ_front (n ∷ ns) ms p = let others : ℕ → Type 0 = λ m. n ≡ m → ⊥ in
    (All-from_recursion others ns (all_appended others ns ms (recursion_from_All others (ns ++ ms) p.0)).0, differ_front ns ms p.1)

-- a name that differs from those of the dylibs is of none of them
unfound : (ds : List Dylib) (name i : ℕ) (more : List ℕ) → DifferentNames (names ds ++ name ∷ more) → position_from (λ (d : Dylib). d.name == name) i ds ≡ None
unfound [] name i more p = refl
unfound (d ∷ ds) name i more p = split (d.name == name) refl (unfound ds name (i + 1) more p.1)
  where
    apart : d.name ≡ name → ⊥
    apart = All-contains (λ m. d.name ≡ m → ⊥) (names ds ++ name ∷ more) name p.0 (Contains-append_right (names ds) (name ∷ more) name (0, (omega arith), refl))

    split : (b : Bool) → (d.name == name) ≡ b → position_from (λ (x : Dylib). x.name == name) (i + 1) ds ≡ None → (if b then Some i else position_from (λ (x : Dylib). x.name == name) (i + 1) ds) ≡ None
    split true is rest = absurd (apart (eqb-true d.name name is))
    split false is rest = rest

-- Changes

claimed_dylibs : (i : InstId) (m : Plain) → (claimed_for i m).dylibs ≡ m.dylibs
claimed_dylibs i m = split (slice_get m.rows i.0)
  where
    split : (o : Option InstRow) → (option_map_or (λ (r : InstRow). if is_unsearched r.phase then claimed r.unit.0 m else m) o m).dylibs ≡ m.dylibs
    split None = refl
    split (Some r) = chosen (λ n. n.dylibs ≡ m.dylibs) (is_unsearched r.phase) (claimed r.unit.0 m) m (λ b. refl) (λ b. refl)

all_claimed_dylibs : (os : List (Option InstId)) (m : Plain) → (all_claimed os m).dylibs ≡ m.dylibs
all_claimed_dylibs [] m = refl
all_claimed_dylibs (None ∷ os) m = all_claimed_dylibs os m
all_claimed_dylibs (Some i ∷ os) m = all_claimed_dylibs os (claimed_for i m) ∙ claimed_dylibs i m

settled_dylibs : (m : Plain) → (settled m).dylibs ≡ m.dylibs
settled_dylibs m = settling_keeps (λ n. n.dylibs ≡ m.dylibs) (λ u k q n p w b e. p) 0 m.queries m refl

ordered_names : (d k : ℕ) (order : List OrderItem) (ds : List Dylib) → names (changed_at k (ordered_dylib d order) ds) ≡ names ds
ordered_names d k order [] = refl
ordered_names d zero order (x ∷ xs) = refl
ordered_names d (suc k) order (x ∷ xs) = ap (λ ns. x.name ∷ ns) (ordered_names d k order xs)

-- the names that a change makes dylibs of
abbrev made_names : Change Meaning → List ℕ
made_names (MakeDylib name) = name.0 ∷ []
made_names _ = []

changed_names : (c : Change Meaning) (m : Plain) → names (changed c m).dylibs ≡ names m.dylibs ++ made_names c
changed_names (MakeDylib name) m = map-append (λ (d : Dylib). d.name) m.dylibs (new_dylib (length m.dylibs) name.0 ∷ [])
changed_names (SetOrder d order) m = ordered_names d.0 d.0 order m.dylibs ∙ sym (append-nil (names m.dylibs))
changed_names (Generate k found) m = split (slice_get m.generators k.0)
  where
    split : (o : Option GenRow) → names (option_map_or (λ x. spent k.0 (defined x.dylib x.tracker x.meaning found m)) o m).dylibs ≡ names m.dylibs ++ []
    split None = sym (append-nil (names m.dylibs))
    split (Some x) = sym (append-nil (names m.dylibs))
changed_names (Ask found lev n) m = ap names (all_claimed_dylibs found m) ∙ sym (append-nil (names m.dylibs))
changed_names (Resolve u) m = split (slice_get m.units u.0)
  where
    split : (o : Option UnitRow) → names (option_map_or (λ (x : UnitRow). record m { rows = map (resolved_row u.0 (resolved_unit x)) m.rows; units = changed_at u.0 resolved_unit m.units }) o m).dylibs ≡ names m.dylibs ++ []
    split None = sym (append-nil (names m.dylibs))
    split (Some x) = sym (append-nil (names m.dylibs))
changed_names (Link u found) m = ap names (all_claimed_dylibs found m) ∙ sym (append-nil (names m.dylibs))
changed_names (Move t to) m = chosen (λ n. names n.dylibs ≡ names m.dylibs ++ []) (t.0 == to.0) m (record m { units = map (moved_unit t.0 to.0) m.units; generators = map (moved_generator t.0 to.0) m.generators; trackers = changed_at t.0 gone_tracker m.trackers })
    (λ b. sym (append-nil (names m.dylibs))) (λ b. sym (append-nil (names m.dylibs)))
changed_names _ m = sym (append-nil (names m.dylibs))

-- Replies

made_reply : (m : Plain) (name : NameId) → position_from (λ (d : Dylib). d.name == name.0) 0 m.dylibs ≡ None → length m.dylibs < DYLIB_LIMIT → answer_dylib m name ≡ reply.Made (record { 0 = length m.dylibs })
made_reply m name none few =
    ap (λ o. unwrap_or (option_map (λ d. reply.NameTaken (record { 0 = d })) o) (unwrap_or (only_if (nat_le DYLIB_LIMIT (length m.dylibs)) reply.TooMany) (reply.Made (record { 0 = length m.dylibs })))) none
    ∙ ap (λ b. unwrap_or (only_if b reply.TooMany) (reply.Made (record { 0 = length m.dylibs }))) (lt-leb DYLIB_LIMIT (length m.dylibs) few)

abbrev is_dylib : Event Meaning → Bool
is_dylib (event.Dylib name) = true
is_dylib _ = false

other_none : (s : ℕ) (v : Event Meaning) (r : Reply) → made_names (other_change s v r) ≡ []
other_none s v (reply.Defunct u) = refl
other_none s (event.Generate g) reply.TooMany = refl
other_none s (event.Generate g) (reply.Duplicate name i) = refl
other_none s v r = refl

-- no other event makes a dylib
none_made : (m : Plain) (s : ℕ) (v : Event Meaning) (r : Reply) → is_dylib v ≡ false → made_names (change_of m s v r) ≡ []
none_made m s (event.Dylib name) r other = absurd (both_ways true other refl)
none_made m s (event.Tracker d) (reply.Tracker t) other = refl
none_made m s (event.SetOrder d order) reply.Set other = refl
none_made m s (event.Attach d t u) (reply.Generator g) other = refl
none_made m s (event.Define d t u) (reply.Defined v first count) other = refl
none_made m s (event.Generate g) (reply.Defined v first count) other = refl
none_made m s (event.Ask order wanted lev n) (reply.Done q) other = refl
none_made m s (event.Ask order wanted lev n) (reply.Pending q) other = refl
none_made m s event.Take (reply.Start u) other = refl
none_made m s event.Take (reply.Finish u how) other = refl
none_made m s (event.Place u shape) (reply.Placed base) other = refl
none_made m s (event.Resolve u) reply.Resolved other = refl
none_made m s (event.Link u) (reply.Done q) other = refl
none_made m s (event.Link u) (reply.Pending q) other = refl
none_made m s (event.Emit u groups) reply.Emitted other = refl
none_made m s (event.Fail u why) reply.Failed other = refl
none_made m s (event.MoveTracker t to) reply.Moved other = refl
none_made m s (event.Remove t) reply.Removed other = refl
none_made m s v r other = other_none s v r

-- Along a history

-- what the next entry's change makes are the names of its event
step : (jmax : ℕ) (past : List (Entry Meaning)) (m : Plain) (s : ℕ) (v : Event Meaning) (r : Reply) (more : List (Event Meaning)) → Answers jmax past m s v r → DifferentNames (names m.dylibs ++ dylib_names (v ∷ more)) → length (names m.dylibs ++ dylib_names (v ∷ more)) ≤ DYLIB_LIMIT →
    names m.dylibs ++ (made_names (change_of m s v r) ++ dylib_names more) ≡ names m.dylibs ++ dylib_names (v ∷ more)
step jmax past m s (event.Dylib name) r more a differ few = ap (λ x. names m.dylibs ++ (made_names (change_of m s (event.Dylib name) x) ++ dylib_names more)) (a ∙ made_reply m name (unfound m.dylibs name.0 0 (dylib_names more) differ) (room few))
  where
    room : length (names m.dylibs ++ name.0 ∷ dylib_names more) ≤ DYLIB_LIMIT → length m.dylibs < DYLIB_LIMIT
    room le = omega (arith, le, length-append (names m.dylibs) (name.0 ∷ dylib_names more), length-map m.dylibs (λ (d : Dylib). d.name))
step jmax past m s v r more a differ few = ap (λ ns. names m.dylibs ++ (ns ++ dylib_names more)) (none_made m s v r refl)

after_names : (m : Plain) (e : Entry Meaning) (more : List ℕ) → names (after m e).dylibs ++ more ≡ names m.dylibs ++ (made_names (change_of m e.seat.0 e.event e.reply) ++ more)
after_names m e more =
    let c = change_of m e.seat.0 e.event e.reply in
    ap (λ ns. ns ++ more) (ap names (settled_dylibs (changed c m)) ∙ changed_names c m) ∙ append_assoc (names m.dylibs) (made_names c) more

names_from : (jmax : ℕ) (past : List (Entry Meaning)) (m : Plain) (h : List (Entry Meaning)) → LegalFrom jmax past m h → DifferentNames (names m.dylibs ++ dylib_names (events_of h)) → length (names m.dylibs ++ dylib_names (events_of h)) ≤ DYLIB_LIMIT →
    names (state_from m h).dylibs ≡ names m.dylibs ++ dylib_names (events_of h)
names_from jmax past m [] l differ few = sym (append-nil (names m.dylibs))
names_from jmax past m (e ∷ es) l differ few =
    let more = dylib_names (events_of es) in
    let is : names (after m e).dylibs ++ more ≡ names m.dylibs ++ dylib_names (e.event ∷ events_of es) = after_names m e more ∙ step jmax past m e.seat.0 e.event e.reply (events_of es) l.0 differ few in
    names_from jmax (past ++ e ∷ []) (after m e) es l.1 (subst DifferentNames (sym is) differ) (subst (λ ns. length ns ≤ DYLIB_LIMIT) (sym is) few) ∙ is

pub dylibs_are_made : DylibsAreMade
dylibs_are_made jmax h l differ few = sym (length-map (state h).dylibs (λ (d : Dylib). d.name)) ∙ ap length (names_from jmax [] empty h l differ few)

-- the same of a history that has the first k of some events
pub made_before : (jmax : ℕ) (h : List (Entry Meaning)) → IsLegal jmax h → (all : List (Event Meaning)) (k : ℕ) → map (λ (e : Entry Meaning). e.event) h ≡ take k all → DifferentNames (dylib_names all) → length (dylib_names all) ≤ DYLIB_LIMIT →
    length (state h).dylibs ≡ length (dylib_names (take k all))
made_before jmax h l all k is differ few =
    dylibs_are_made jmax h l (subst DifferentNames (ap dylib_names (sym is)) (differ_front first rest (subst DifferentNames parts differ)))
    (omega (arith, few, ap length parts, length-append first rest, ap (λ es. length (dylib_names es)) is))
    ∙ ap (λ es. length (dylib_names es)) is
  where
    first : List ℕ
    first = dylib_names (take k all)

    rest : List ℕ
    rest = dylib_names (drop k all)

    parts : dylib_names all ≡ first ++ rest
    parts = ap dylib_names (sym (take-append-drop k all)) ∙ names_append (take k all) (drop k all)
