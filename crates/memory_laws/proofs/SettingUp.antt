-- The session after a program's objects were defined.
use Rattle.std.proofs.Common.{◌≡◌, ℕ, suc, ◌+◌, ◌<◌, Bool, true, false, not, map, List, [], ◌∷◌, ◌++◌, length, slice_get, arith, subst, sym, refl, ap, ap₂, ◌∙◌, Option, Some, None, ◌⊎◌, inl, inr, append_assoc, append-nil}
use Rattle.std.specs.Prelude.{All, count_by, nat_le, nat_lt, ◌||◌, unwrap_or}
use Rattle.std.proofs.lemmas.List.Elements.{All-head, All-tail}
use Rattle.std.proofs.lemmas.Option.{none-some}
use Rattle.session_model.proofs.Choices.{none_chosen}
use Rattle.orc_ids.specs.declared.flags.SymFlags.{SymFlags}
use Rattle.orc_ids.specs.declared.ids.DylibId.{DylibId}
use Rattle.orc_ids.specs.declared.ids.NameId.{NameId}
use Rattle.orc_ids.specs.declared.ids.TrackId.{TrackId}
use Rattle.orc_ids.specs.declared.ids.UnitName.{UnitName}
use Rattle.orc_ids.specs.declared.limits.TheConstants.{UNIT_LIMIT, INSTANCE_LIMIT}
use Rattle.link_model.specs.Offers.{name_of, offered_symbols, offers_of}
use Rattle.link_model.specs.Sound.{OffersDiffer}
use Rattle.link_model.specs.declared.graph.LinkGraph.{LinkGraph}
use Rattle.session_model.specs.Answer.{Answers, answer_define, answer_dylib, answer_tracker, answer_unit, clash, no_dylib, not_tracker_of}
use Rattle.session_model.specs.Change.{change_of, changed, defined, kept_names, new_dylib, settled, settled_from, verdict, verdicts}
use Rattle.session_model.specs.History.{IsLegal}
use Rattle.session_model.specs.Lists.{first_some, only_if}
use Rattle.session_model.specs.Meaning.{Meaning}
use Rattle.session_model.specs.Plain.{Plain, empty, has_dylib, is_tracker_of}
use Rattle.session_model.specs.State.{after, state}
use Rattle.session_model.specs.declared.change.Change.{Change}
use Rattle.session_model.specs.declared.change.Change.TheVariants.{MakeDylib, MakeTracker, Define}
use Rattle.session_model.specs.declared.entry.Entry.{Entry}
use Rattle.session_model.specs.declared.entry.Event.{Event}
use Rattle.session_model.specs.declared.entry.Event.TheVariants as event
use Rattle.session_model.specs.declared.entry.Reply.{Reply}
use Rattle.session_model.specs.declared.entry.Reply.TheVariants as reply
use Rattle.session_model.specs.declared.rows.Query.{Query}
use Rattle.session_model.specs.declared.rows.Verdict.{Verdict}
use Rattle.session_model.specs.declared.rows.Verdict.TheVariants.{Kept, Replaces, Discarded, Clashes}
use Rattle.session_units.specs.Meaning.{graph_meaning}
use Rattle.session_laws.proofs.Declared.{prefixes_legal, state_from_push, element_below, mapped_parts, mapped_some, pushed_cases, AllReplies, none_given, replies_first, replies_only}
use Rattle.session_laws.specs.Entries.{events_of}
use Rattle.closure_laws.proofs.Declared.{OneMore, one_more, row_below, names_are_once}
use Rattle.closure_laws.specs.Names.{AllOffersDiffer, HasOneRowEach}
use Rattle.closure_laws.specs.Names as once
use Rattle.memory_laws.specs.NameLaws.{IsUntouched}
use Rattle.memory_laws.specs.Names.{defines}
use Rattle.memory_laws.specs.Objects.{AreUnits, first_dylib, first_tracker, is_done, setup_events}
use Rattle.memory_laws.proofs.Building.{IsBuilt, IsNext, next_built, next_untouched, defines_own}
use Rattle.memory_laws.proofs.Definitions.{one_symbol}
use Rattle.memory_laws.proofs.Offers.{offer_of, offered_parts, offers_before}

-- Units of graphs, one by one

abbrev pub AreThese : List Meaning → List LinkGraph → Type 0
AreThese [] [] = Unit {0}
AreThese (u ∷ us) (g ∷ gs) = ((name : UnitName) × (u ≡ graph_meaning name g)) × OffersDiffer g × AreThese us gs
AreThese _ _ = ⊥

these : (units : List Meaning) (graphs : List LinkGraph) → length units ≡ length graphs → ((k : ℕ) (unit : Meaning) (g : LinkGraph) → slice_get units k ≡ Some unit → slice_get graphs k ≡ Some g → (name : UnitName) × (unit ≡ graph_meaning name g)) → All (λ g. OffersDiffer g) graphs → AreThese units graphs
these [] [] e each differ = tt
these [] (g ∷ gs) e each differ = absurd (cc)
these (u ∷ us) [] e each differ = absurd (cc)
these (u ∷ us) (g ∷ gs) e each differ = (each 0 u g refl refl, All-head (λ (h : LinkGraph). OffersDiffer h) g gs differ, these us gs (suc_same (length us) (length gs) e) (λ k. each (suc k)) (All-tail (λ (h : LinkGraph). OffersDiffer h) g gs differ))
  where
    suc_same : (a b : ℕ) → suc a ≡ suc b → a ≡ b
    suc_same a b f = omega (arith, f)

pub these_units : (units : List Meaning) (graphs : List LinkGraph) → AreUnits units graphs → AreThese units graphs
these_units units graphs are = these units graphs are.whole are.each are.differ

-- a graph's unit offers no name twice
graph_offers : (name : UnitName) (g : LinkGraph) → OffersDiffer g → once.OffersDiffer (graph_meaning name g)
graph_offers name g differ j k a b e f same =
    let p = mapped_parts offer_of (offered_symbols g) j a e in
    let q = mapped_parts offer_of (offered_symbols g) k b f in
    let x = offered_parts g.symbols j p.0 p.1 in
    let y = offered_parts g.symbols k q.0 q.1 in
    let is : (name_of q.0).0 ≡ (name_of p.0).0 = ap (λ (n : NameId). n.0) (ap (λ (o : NameId × SymFlags). o.0) (sym q.2) ∙ (sym same ∙ ap (λ (o : NameId × SymFlags). o.0) p.2)) in
    let place = one_symbol g differ (name_of p.0).0 x.place y.place p.0 q.0 x.there y.there (defines_own p.0 x.offered) (ap (λ (n : ℕ). defines n q.0) (sym is) ∙ defines_own q.0 y.offered) in
    sym x.number ∙ (ap (λ (s : ℕ). offers_before s g.symbols) place ∙ y.number)

-- Answers that refuse nothing

clash_undone : (name : NameId) (v : Verdict) → AllReplies (λ r. is_done r ≡ false) (clash name v)
clash_undone name (Clashes i) = refl
clash_undone name Kept = tt
clash_undone name (Replaces i) = tt
clash_undone name Discarded = tt

-- how a definition that refuses nothing was answered
record IsDefined (m : Plain) (d : DylibId) (u : Meaning) (r : Reply) : Type 0 where
  clear : first_some (λ (offer : NameId × SymFlags). clash offer.0 (verdict m.rows d.0 offer)) u.offers ≡ None
  is : r ≡ reply.Defined (record { 0 = length m.units }) (record { 0 = length m.rows }) (count_by (λ (b : Bool). b) (kept_names (verdicts m.rows d.0 u.offers)))

unit_defined : (m : Plain) (d : DylibId) (u : Meaning) → is_done (answer_unit m d.0 u) ≡ true → IsDefined m d u (answer_unit m d.0 u)
unit_defined m d u e = record { clear = second.0; is = ap (λ o. unwrap_or o (unwrap_or clashes last)) first.0 ∙ ap (λ o. unwrap_or o last) second.0 }
  where
    clashes : Option Reply
    clashes = first_some (λ (offer : NameId × SymFlags). clash offer.0 (verdict m.rows d.0 offer)) u.offers

    last : Reply
    last = reply.Defined (record { 0 = length m.units }) (record { 0 = length m.rows }) (count_by (λ (b : Bool). b) (kept_names (verdicts m.rows d.0 u.offers)))

    full : Bool
    full = nat_le UNIT_LIMIT (length m.units) || nat_lt INSTANCE_LIMIT (length m.rows + length u.offers)

    first : (only_if full reply.TooMany ≡ None) × (is_done (unwrap_or clashes last) ≡ true)
    first = none_given is_done (only_if full reply.TooMany) (unwrap_or clashes last) (replies_only (λ r. is_done r ≡ false) full reply.TooMany refl) e

    second : (clashes ≡ None) × (is_done last ≡ true)
    second = none_given is_done clashes last (replies_first (λ r. is_done r ≡ false) (λ (offer : NameId × SymFlags). clash offer.0 (verdict m.rows d.0 offer)) (λ offer. clash_undone offer.0 (verdict m.rows d.0 offer)) u.offers) first.1

define_defined : (m : Plain) (d : DylibId) (t : TrackId) (u : Meaning) → is_done (answer_define m d t u) ≡ true → IsDefined m d u (answer_define m d t u)
define_defined m d t u e = record { clear = last.clear; is = ap (λ o. unwrap_or o (unwrap_or (not_tracker_of m d t) (answer_unit m d.0 u))) first.0 ∙ (ap (λ o. unwrap_or o (answer_unit m d.0 u)) second.0 ∙ last.is) }
  where
    first : (no_dylib m (d ∷ []) ≡ None) × (is_done (unwrap_or (not_tracker_of m d t) (answer_unit m d.0 u)) ≡ true)
    first = none_given is_done (no_dylib m (d ∷ [])) (unwrap_or (not_tracker_of m d t) (answer_unit m d.0 u))
        (replies_first (λ r. is_done r ≡ false) (λ (k : DylibId). only_if (not (has_dylib m k.0)) (reply.NoDylib k)) (λ k. replies_only (λ r. is_done r ≡ false) (not (has_dylib m k.0)) (reply.NoDylib k) refl) (d ∷ [])) e

    second : (not_tracker_of m d t ≡ None) × (is_done (answer_unit m d.0 u) ≡ true)
    second = none_given is_done (not_tracker_of m d t) (answer_unit m d.0 u) (replies_only (λ r. is_done r ≡ false) (not (is_tracker_of m d.0 t.0)) (reply.TrackerGone t) refl) first.1

    last : IsDefined m d u (answer_unit m d.0 u)
    last = unit_defined m d u second.1

-- The session after some of the definitions

pub record IsSetUp (gs : List LinkGraph) (m : Plain) : Type 0 where
  pub built : IsBuilt gs m
  pub untouched : IsUntouched m
  pub differ : (k : ℕ) (g : LinkGraph) → slice_get gs k ≡ Some g → OffersDiffer g

-- how many entries led there doesn't matter
pub at_entries : (m : Plain) (n : ℕ) → IsUntouched m → IsUntouched (record m { entries = n })
at_entries m n u = record { rows = u.rows; units = u.units; jobs = u.jobs; queries = u.queries }

-- without queries nothing settles
pub settled_none : (m : Plain) → m.queries ≡ [] → settled m ≡ m
settled_none m e = ap (λ (qs : List Query). settled_from 0 qs m) e

-- a name has one present instance
one_row : (jmax : ℕ) (h : List (Entry Meaning)) → IsLegal jmax h → (gs : List LinkGraph) → IsSetUp gs (state h) → HasOneRowEach (state h).rows 0
one_row jmax h l gs p = names_are_once jmax h l differ 0
  where
    differ : AllOffersDiffer (state h).units
    differ k x e =
        let g = row_below gs k (subst (λ (n : ℕ). k < n) p.built.whole (element_below (state h).units k x e)) in
        let u = p.built.units_are k x g.0 e g.1 in
        subst once.OffersDiffer (sym u.is) (graph_offers u.name g.0 (p.differ k g.0 g.1))

differ_more : (gs : List LinkGraph) (g : LinkGraph) → ((k : ℕ) (h : LinkGraph) → slice_get gs k ≡ Some h → OffersDiffer h) → OffersDiffer g → (k : ℕ) (h : LinkGraph) → slice_get (gs ++ g ∷ []) k ≡ Some h → OffersDiffer h
differ_more gs g old new k h e = split (pushed_cases gs g k h e)
  where
    split : (slice_get gs k ≡ Some h) ⊎ ((k ≡ length gs) × (h ≡ g)) → OffersDiffer h
    split (inl a) = old k h a
    split (inr a) = subst OffersDiffer (sym a.1) new

set_up_more : (jmax : ℕ) (h : List (Entry Meaning)) (e : Entry Meaning) (gs : List LinkGraph) (g : LinkGraph) (unit : Meaning) (name : UnitName) → OneMore jmax h e → unit ≡ graph_meaning name g → e.event ≡ event.Define first_dylib first_tracker unit → is_done e.reply ≡ true → OffersDiffer g → IsSetUp gs (state h) →
    IsSetUp (gs ++ g ∷ []) (state (h ++ e ∷ []))
set_up_more jmax h e gs g unit name one unit_is event_is done differ p = subst (IsSetUp (gs ++ g ∷ [])) (sym whole) (record {
  built = next_built gs g name m next;
  untouched = at_entries new (m.entries + 1) (next_untouched m u p.untouched);
  differ = differ_more gs g p.differ differ;
})
  where
    m : Plain
    m = state h

    u : Meaning
    u = graph_meaning name g

    is : e.event ≡ event.Define first_dylib first_tracker u
    is = event_is ∙ ap (λ (v : Meaning). event.Define first_dylib first_tracker v) unit_is

    answered : e.reply ≡ answer_define m first_dylib first_tracker u
    answered = (subst (λ (v : Event Meaning). Answers jmax h m e.seat.0 v e.reply) is one.answers).1

    how : IsDefined m first_dylib u (answer_define m first_dylib first_tracker u)
    how = define_defined m first_dylib first_tracker u (ap is_done (sym answered) ∙ done)

    next : IsNext gs g m
    next = record {
      built = p.built;
      once = one_row jmax h one.before gs p;
      differ = differ;
      clear = λ i x t. none_chosen (λ (offer : NameId × SymFlags). clash offer.0 (verdict m.rows 0 offer)) (offers_of g) how.clear i (offer_of x) (mapped_some offer_of (offered_symbols g) i x t);
    }

    made : change_of m e.seat.0 e.event e.reply ≡ Define first_dylib first_tracker u (verdicts m.rows 0 u.offers)
    made = ap₂ (λ (v : Event Meaning) (r : Reply). change_of m e.seat.0 v r) is (answered ∙ how.is)

    new : Plain
    new = defined 0 0 u (verdicts m.rows 0 u.offers) m

    whole : state (h ++ e ∷ []) ≡ record new { entries = m.entries + 1 }
    whole = state_from_push empty h e ∙ (ap (λ (c : Change Meaning). record (settled (changed c m)) { entries = m.entries + 1 }) made ∙ ap (λ (n : Plain). record n { entries = m.entries + 1 }) (settled_none new p.untouched.queries))

-- The first two entries

first_made : (e : Entry Meaning) (main : NameId) (jmax : ℕ) → e.event ≡ event.Dylib main → Answers jmax [] empty e.seat.0 e.event e.reply → after empty e ≡ record empty { entries = 1; dylibs = new_dylib 0 main.0 ∷ [] }
first_made e main jmax is answers = ap (λ (c : Change Meaning). record (settled (changed c empty)) { entries = 1 }) made
  where
    answered : e.reply ≡ answer_dylib empty main
    answered = subst (λ (v : Event Meaning). Answers jmax [] empty e.seat.0 v e.reply) is answers

    made : change_of empty e.seat.0 e.event e.reply ≡ MakeDylib main
    made = ap₂ (λ (v : Event Meaning) (r : Reply). change_of empty e.seat.0 v r) is answered

abbrev with_dylib : NameId → Plain
with_dylib main = record empty { entries = 1; dylibs = new_dylib 0 main.0 ∷ [] }

abbrev with_tracker : NameId → Plain
with_tracker main = record (with_dylib main) { entries = 2; trackers = record { dylib = 0; gone = false } ∷ [] }

second_made : (e : Entry Meaning) (main : NameId) (jmax : ℕ) (past : List (Entry Meaning)) → e.event ≡ event.Tracker first_dylib → Answers jmax past (with_dylib main) e.seat.0 e.event e.reply → after (with_dylib main) e ≡ with_tracker main
second_made e main jmax past is answers = ap (λ (c : Change Meaning). record (settled (changed c (with_dylib main))) { entries = 2 }) made
  where
    answered : e.reply ≡ answer_tracker (with_dylib main) first_dylib
    answered = subst (λ (v : Event Meaning). Answers jmax past (with_dylib main) e.seat.0 v e.reply) is answers

    made : change_of (with_dylib main) e.seat.0 e.event e.reply ≡ MakeTracker first_dylib
    made = ap₂ (λ (v : Event Meaning) (r : Reply). change_of (with_dylib main) e.seat.0 v r) is answered

empty_set_up : (main : NameId) → IsSetUp [] (with_tracker main)
empty_set_up main = record {
  built = record {
    dylib = (new_dylib 0 main.0, refl, refl);
    tracker = (record { dylib = 0; gone = false }, refl, refl);
    generators_are = refl;
    whole = refl;
    units_are = λ k x g e t. absurd (none-some x e);
    rows_are = λ i r e p. absurd (none-some r e);
    present = λ name k s d. absurd (none-some (k, s) d);
  };
  untouched = record { rows = λ i r e. absurd (none-some r e); units = λ u x e. absurd (none-some x e); jobs = refl; queries = refl };
  differ = λ k g e. absurd (none-some g e);
}

-- Along the setup

set_up_along : (jmax : ℕ) (h es : List (Entry Meaning)) (gs rest : List LinkGraph) (units : List Meaning) → IsLegal jmax (h ++ es) → AreThese units rest → events_of es ≡ map (event.Define first_dylib first_tracker) units → All (λ (e : Entry Meaning). is_done e.reply ≡ true) es → IsSetUp gs (state h) →
    IsSetUp (gs ++ rest) (state (h ++ es))
set_up_along jmax h [] gs [] [] l are is done p = subst (λ g. IsSetUp (gs ++ []) (state g)) (sym (append-nil h)) (subst (λ hs. IsSetUp hs (state h)) (sym (append-nil gs)) p)
set_up_along jmax h [] gs (g ∷ rest) [] l are is done p = absurd are
set_up_along jmax h es gs [] (u ∷ us) l are is done p = absurd are
set_up_along jmax h [] gs (g ∷ rest) (u ∷ us) l are is done p = absurd (cc)
set_up_along jmax h (e ∷ es) gs rest [] l are is done p = absurd (cc)
set_up_along jmax h (e ∷ es) gs (g ∷ rest) (u ∷ us) l are is done p =
    let legal = subst (IsLegal jmax) (sym (append_assoc h (e ∷ []) es)) l in
    let one = one_more jmax h e ((prefixes_legal jmax (h ++ e ∷ []) es).0 legal) in
    let first : e.event ≡ event.Define first_dylib first_tracker u = cc in
    let others : events_of es ≡ map (event.Define first_dylib first_tracker) us = cc in
    let next = set_up_more jmax h e gs g u are.0.0 one are.0.1 first (All-head (λ (f : Entry Meaning). is_done f.reply ≡ true) e es done) are.1 p in
    subst (λ k. IsSetUp (gs ++ g ∷ rest) (state k)) (append_assoc h (e ∷ []) es)
    (subst (λ hs. IsSetUp hs (state ((h ++ e ∷ []) ++ es))) (append_assoc gs (g ∷ []) rest)
    (set_up_along jmax (h ++ e ∷ []) es (gs ++ g ∷ []) rest us legal are.2 others (All-tail (λ (f : Entry Meaning). is_done f.reply ≡ true) e es done) next))

pub set_up : (jmax : ℕ) (h : List (Entry Meaning)) (main : NameId) (graphs : List LinkGraph) (units : List Meaning) → IsLegal jmax h → AreThese units graphs → events_of h ≡ setup_events main units → All (λ (e : Entry Meaning). is_done e.reply ≡ true) h → IsSetUp graphs (state h)
set_up jmax [] main graphs units l are is done = absurd (cc)
set_up jmax (e ∷ []) main graphs units l are is done = absurd (cc)
set_up jmax (e ∷ f ∷ es) main graphs units l are is done = set_up_along jmax (e ∷ f ∷ []) es [] graphs units l are others (All-tail Done f es (All-tail Done e (f ∷ es) done)) (subst (IsSetUp []) (sym start) (empty_set_up main))
  where
    Done : Entry Meaning → Type 0
    Done x = is_done x.reply ≡ true

    first : e.event ≡ event.Dylib main
    first = cc

    second : f.event ≡ event.Tracker first_dylib
    second = cc

    others : events_of es ≡ map (event.Define first_dylib first_tracker) units
    others = cc

    one : after empty e ≡ with_dylib main
    one = first_made e main jmax first l.0

    start : state (e ∷ f ∷ []) ≡ with_tracker main
    start = ap (λ (m : Plain). after m f) one ∙ second_made f main jmax (e ∷ []) second (subst (λ (m : Plain). Answers jmax (e ∷ []) m f.seat.0 f.event f.reply) one l.1.0)
