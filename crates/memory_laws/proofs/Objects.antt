-- A program's session is one of its objects.
use Rattle.std.proofs.Common.{◌≡◌, ℕ, zero, suc, ◌-◌, ◌≤◌, true, List, [], ◌∷◌, ◌++◌, length, slice_get, take, arith, subst, sym, refl, ap, ◌∙◌, Option, Some, option_and_then}
use Rattle.std.specs.Option.{option_map_or}
use Rattle.std.proofs.lemmas.List.Elements.{All-take}
use Rattle.link_model.proofs.Symbols.{at_or_there}
use Rattle.orc_ids.specs.declared.ids.DylibId.{DylibId}
use Rattle.orc_ids.specs.declared.lookup.OrderItem.{OrderItem}
use Rattle.link_model.specs.Graph.{is_offered}
use Rattle.link_model.specs.Image.{at_or}
use Rattle.link_model.specs.Offers.{name_of, no_symbol, offered_symbols}
use Rattle.link_model.specs.declared.graph.LinkGraph.{LinkGraph}
use Rattle.session_model.specs.Change.{itself_then, link_order}
use Rattle.session_model.specs.History.{IsLegal}
use Rattle.session_model.specs.Meaning.{Meaning}
use Rattle.session_model.specs.Plain.{Plain, UnitRow}
use Rattle.session_model.specs.State.{state}
use Rattle.session_model.specs.declared.entry.Entry.{Entry}
use Rattle.session_model.specs.declared.rows.Dylib.{Dylib}
use Rattle.session_model.specs.declared.rows.InstRow.{InstRow}
use Rattle.session_model.specs.declared.rows.Track.{Track}
use Rattle.session_laws.proofs.Declared.{prefixes_legal}
use Rattle.memory_laws.specs.NameLaws.{IsOfObjects, IsOfSymbol, HasRow, NamesAreDefined, NamesStay, main_order}
use Rattle.memory_laws.specs.Names.{definition}
use Rattle.memory_laws.specs.Objects.{keeps_names}
use Rattle.memory_laws.proofs.Building.{HasOldRow, IsBuilt, IsBuiltUnit, defines_parts, no_row, old_row}
use Rattle.memory_laws.proofs.Offers.{offered_there}
use Rattle.memory_laws.proofs.SettingUp.{set_up, these_units}
use Rattle.memory_laws.proofs.Staying.{built_stays}

-- the order of a tracker's dylib
abbrev dylib_order : List Dylib → Option Track → List OrderItem
dylib_order dylibs o = option_map_or (λ (d : Dylib). d.order) (option_and_then (λ (t : Track). slice_get dylibs t.dylib) o) []

-- each unit looks its externals up in the one dylib
looks : (gs : List LinkGraph) (m : Plain) → IsBuilt gs m → (k : ℕ) (g : LinkGraph) (x : UnitRow) → IsBuiltUnit gs k g x → link_order m x ≡ main_order
looks gs m b k g x u =
    ap (λ (v : Meaning). option_map_or (λ (d : DylibId). itself_then d.0 []) v.source (dylib_order m.dylibs (slice_get m.trackers x.tracker))) u.is
    ∙ (ap (dylib_order m.dylibs) (ap (slice_get m.trackers) u.tracker ∙ b.tracker.1)
    ∙ (ap (λ o. option_map_or (λ (d : Dylib). d.order) o []) (ap (slice_get m.dylibs) b.tracker.2 ∙ b.dylib.1) ∙ b.dylib.2))

-- the row of a name is that of its definition
defined_row : (gs : List LinkGraph) (m : Plain) → IsBuilt gs m → (name k s : ℕ) → definition gs name ≡ Some (k, s) → (r : InstRow) × HasRow m.rows name r × IsOfSymbol gs k s r
defined_row gs m b name k s e = (
  old.inst,
  record { number = old.row.inst.0; row = old.row; found = old.found; is = refl; there = old.there; present = old.named.present },
  record {
    graph = old.is.graph;
    there = ap (slice_get gs) (sym old.unit) ∙ old.is.there;
    unit = old.unit;
    offered = ap is_offered at ∙ parts.0;
    symbol = ap (slice_get (offered_symbols old.is.graph)) old.is.offer ∙ (offered_there old.is.graph.symbols old.is.place old.is.symbol old.is.within parts.0 ∙ ap Some (sym at));
    within = within ∙ ap Some (sym at);
  },
)
  where
    old : HasOldRow gs m name k s
    old = old_row gs m b name k s e

    parts : (is_offered old.is.symbol ≡ true) × ((name_of old.is.symbol).0 ≡ old.inst.name.0)
    parts = defines_parts old.inst.name.0 old.is.symbol old.is.defines

    within : slice_get old.is.graph.symbols s ≡ Some old.is.symbol
    within = ap (slice_get old.is.graph.symbols) (sym old.place) ∙ old.is.within

    at : at_or no_symbol old.is.graph.symbols s ≡ old.is.symbol
    at = at_or_there no_symbol old.is.graph.symbols s old.is.symbol within

of_objects : (gs : List LinkGraph) (m : Plain) → IsBuilt gs m → IsOfObjects gs m
of_objects gs m b = record {
  whole = b.whole;
  units = λ k x g e t. let u = b.units_are k x g e t in record { name = u.name; is = u.is; keeps = u.keeps; looks = looks gs m b k g x u };
  defined = defined_row gs m b;
  undefined = no_row gs m b;
  generators = b.generators_are;
}

pub names_are_defined : NamesAreDefined
names_are_defined jmax h l graphs p =
    let legal = subst (IsLegal jmax) p.parts l in
    let start = set_up jmax p.setup p.main graphs p.units ((prefixes_legal jmax p.setup p.later).0 legal) (these_units p.units graphs p.are) p.events p.done in
    of_objects graphs (state h) (subst (λ g. IsBuilt graphs (state g)) (sym p.parts) (built_stays graphs jmax p.setup p.later legal p.quiet start.built))

take_past : {X : Type 0} (xs ys : List X) (n : ℕ) → length xs ≤ n → take n (xs ++ ys) ≡ xs ++ take (n - length xs) ys
take_past [] ys n le = ap (λ (k : ℕ). take k ys) (omega arith)
take_past (x ∷ xs) ys zero le = absurd (omega (arith, le))
take_past (x ∷ xs) ys (suc n) le = ap (λ zs. x ∷ zs) (take_past xs ys n (omega (arith, le)) ∙ ap (λ (k : ℕ). xs ++ take k ys) (omega arith))

pub names_stay : NamesStay
names_stay h graphs p n le = record {
  main = p.main;
  units = p.units;
  are = p.are;
  setup = p.setup;
  later = take (n - length p.setup) p.later;
  parts = ap (take n) p.parts ∙ take_past p.setup p.later n le;
  events = p.events;
  done = p.done;
  quiet = All-take (λ (e : Entry Meaning). keeps_names e.event ≡ true) (n - length p.setup) p.later p.quiet;
}
