-- What a program's units are bound to: the instance of the definition of each external's name, which is present yet.
use Rattle.std.proofs.Common.{◌≡◌, ℕ, zero, suc, ◌≤◌, true, List, [], ◌∷◌, length, take, slice_get, Contains, arith, sym, refl, ap, ◌∙◌, Option, Some, None, option_map, le_of_suc-le-suc, not-suc-le-zero}
use Rattle.std.specs.Option.{option_map_or}
use Rattle.std.proofs.lemmas.Option.{none-some, same_Some}
use Rattle.orc_ids.specs.declared.ids.InstId.{InstId}
use Rattle.orc_ids.specs.declared.ids.UnitId.{UnitId}
use Rattle.orc_ids.specs.declared.lookup.Scope.TheVariants as scope
use Rattle.orc_ids.specs.declared.lookup.Wanted.{Wanted}
use Rattle.link_model.specs.Offers.{offered_symbols}
use Rattle.link_model.specs.declared.graph.LinkGraph.{LinkGraph}
use Rattle.session_model.specs.Change.{instance_of, link_matches, link_order}
use Rattle.session_model.specs.History.{IsLegal}
use Rattle.session_model.specs.Lists.{only_if, or_else}
use Rattle.session_model.specs.Match.{match_of, offered_by, row_of}
use Rattle.session_model.specs.Meaning.{Bindings, Meaning, bound_instances}
use Rattle.session_model.specs.Plain.{GenRow, Plain, UnitRow}
use Rattle.session_model.specs.State.{state}
use Rattle.session_model.specs.declared.entry.Entry.{Entry}
use Rattle.session_model.specs.declared.rows.InstRow.{InstRow}
use Rattle.session_model.specs.declared.rows.Match.TheVariants.{Instance, Offered}
use Rattle.session_model.specs.declared.rows.Query.{Query}
use Rattle.session_model.specs.declared.rows.Row.{Row}
use Rattle.session_laws.proofs.Declared.{mapped_parts, mapped_some, front_legal}
use Rattle.closure_laws.proofs.Declared.{bindings_are_ends, bindings_are_matches, links_are_lookups}
use Rattle.closure_laws.specs.Bindings.{IsItsEnd}
use Rattle.closure_laws.specs.Links.{LinkedAt}
use Rattle.memory_laws.proofs.Objects.{names_stay}
use Rattle.memory_laws.specs.NameLaws.{HasRow, IsOfObjects, IsOfSymbol, NamesAreDefined, main_order}
use Rattle.memory_laws.specs.Names.{definition}
use Rattle.memory_laws.specs.Objects.{IsProgram}
use Rattle.memory_laws.proofs.Quieting.{asked_later, still_there}

-- What a name matches in the one dylib

-- with these generators, and this row of the name
abbrev pub matched_by : List GenRow → ℕ → Option Row → Option InstId
matched_by generators name row = instance_of (or_else (or_else (option_map_or (λ (r : Row). only_if true (Instance r.inst)) row None) (option_map Offered (offered_by generators 0 name scope.All))) None)

matched_alone : (name : ℕ) (row : Option Row) → matched_by [] name row ≡ option_map (λ (r : Row). r.inst) row
matched_alone name None = refl
matched_alone name (Some r) = refl

-- where there is no generator it is the row of the name
name_matches : (m : Plain) (name : ℕ) → m.generators ≡ [] → instance_of (match_of m main_order name) ≡ option_map (λ (r : Row). r.inst) (row_of m.rows 0 name)
name_matches m name e = ap (λ gs. matched_by gs name (row_of m.rows 0 name)) e ∙ matched_alone name (row_of m.rows 0 name)

-- What an external was bound to

-- after n entries, which have the whole setup, its name had this row
pub record WasMatched (graphs : List LinkGraph) (h : List (Entry Meaning)) (p : IsProgram graphs h) (x : UnitRow) (k : ℕ) (b : Option (InstId × ℕ)) : Type 0 where
  pub entries : ℕ
  pub begun : length p.setup ≤ entries
  pub wanted : Wanted
  pub looked : slice_get (x.meaning.externals x.live) k ≡ Some wanted
  pub matched : option_map (λ (q : InstId × ℕ). q.0) b ≡ option_map (λ (r : Row). r.inst) (row_of (state (take entries h)).rows 0 wanted.name.0)

pub objects_then : NamesAreDefined → (jmax : ℕ) (h : List (Entry Meaning)) → IsLegal jmax h → (graphs : List LinkGraph) (p : IsProgram graphs h) (n : ℕ) → length p.setup ≤ n → IsOfObjects graphs (state (take n h))
objects_then names jmax h l graphs p n begun = names jmax (take n h) (front_legal jmax h n l) graphs (names_stay h graphs p n begun)

pub was_matched : NamesAreDefined → (jmax : ℕ) (h : List (Entry Meaning)) → IsLegal jmax h → (graphs : List LinkGraph) (p : IsProgram graphs h) (u k : ℕ) (x : UnitRow) (g : LinkGraph) (bound : Bindings) (b : Option (InstId × ℕ)) →
    slice_get (state h).units u ≡ Some x → slice_get graphs u ≡ Some g → x.bound ≡ Some bound → slice_get bound k ≡ Some b → WasMatched graphs h p x k b
was_matched names jmax h l graphs p u k x g bound b t s e f = record {
  entries = n;
  begun = begun;
  wanted = w.0;
  looked = looked;
  matched = w.2 ∙ (ap (λ order. instance_of (match_of then order w.0.name.0)) looks ∙ name_matches then w.0.name.0 objects.generators);
}
  where
    its : IsItsEnd h x bound
    its = bindings_are_ends jmax h l u x bound t e

    q : (q : Query) × (slice_get (state h).queries its.number ≡ Some q) × (n : ℕ) × LinkedAt h u x q n
    q = links_are_lookups jmax h l u its.number x t its.its

    n : ℕ
    n = q.2

    at : LinkedAt h u x q.0 n
    at = q.3

    then : Plain
    then = state (take n h)

    begun : length p.setup ≤ n
    begun = omega (arith, asked_later jmax h l graphs p its.number q.0 q.1, at.asked)

    objects : IsOfObjects graphs then
    objects = objects_then names jmax h l graphs p n begun

    looks : link_order then at.unit ≡ main_order
    looks = (objects.units u at.unit g at.there s).looks

    matches : slice_get (link_matches then at.unit) k ≡ Some (option_map (λ (r : InstId × ℕ). r.0) b)
    matches = ap (λ os. slice_get os k) (sym at.matched ∙ sym (bindings_are_matches jmax h l u its.number x bound q.0 t e its.its q.1))
        ∙ mapped_some (λ (o : Option (InstId × ℕ)). option_map (λ (r : InstId × ℕ). r.0) o) bound k b f

    w : (w : Wanted) × (slice_get (at.unit.meaning.externals at.unit.live) k ≡ Some w) × (option_map (λ (r : InstId × ℕ). r.0) b ≡ instance_of (match_of then (link_order then at.unit) w.name.0))
    w = mapped_parts (λ (v : Wanted). instance_of (match_of then (link_order then at.unit) v.name.0)) (at.unit.meaning.externals at.unit.live) k (option_map (λ (r : InstId × ℕ). r.0) b) matches

    looked : slice_get (x.meaning.externals x.live) k ≡ Some w.0
    looked = ap (λ ls. slice_get (x.meaning.externals ls) k) (sym at.same.1) ∙ (ap (λ (v : Meaning). slice_get (v.externals at.unit.live) k) (sym at.same.0) ∙ w.1)

-- an external that is bound to none has no definition
pub unbound_undefined : NamesAreDefined → (jmax : ℕ) (h : List (Entry Meaning)) → IsLegal jmax h → (graphs : List LinkGraph) (p : IsProgram graphs h) (x : UnitRow) (k : ℕ) (a : WasMatched graphs h p x k None) → definition graphs a.wanted.name.0 ≡ None
unbound_undefined names jmax h l graphs p x k a = split (definition graphs a.wanted.name.0) refl
  where
    split : (o : Option (ℕ × ℕ)) → definition graphs a.wanted.name.0 ≡ o → o ≡ None
    split None e = refl
    split (Some d) e =
        let r = (objects_then names jmax h l graphs p a.entries a.begun).defined a.wanted.name.0 d.0 d.1 e in
        absurd (none-some r.1.row.inst (a.matched ∙ ap (λ o. option_map (λ (q : Row). q.inst) o) r.1.found))

-- the instance is that of the name's definition, and present
pub record IsDefinition (graphs : List LinkGraph) (rows : List InstRow) (name i : ℕ) : Type 0 where
  pub object : ℕ
  pub symbol : ℕ
  pub defined : definition graphs name ≡ Some (object, symbol)
  pub row : InstRow
  pub there : slice_get rows i ≡ Some row
  pub present : row.present ≡ true
  pub of : IsOfSymbol graphs object symbol row

-- a row that is as it was is of the same symbol
still_of : (graphs : List LinkGraph) (k s : ℕ) (r q : InstRow) → q.unit ≡ r.unit → q.offer ≡ r.offer → IsOfSymbol graphs k s r → IsOfSymbol graphs k s q
still_of graphs k s r q e f p = record { graph = p.graph; there = p.there; unit = ap (λ (u : UnitId). u.0) e ∙ p.unit; offered = p.offered; symbol = ap (slice_get (offered_symbols p.graph)) f ∙ p.symbol; within = p.within }

-- an external that is bound is bound to its definition
pub bound_defined : NamesAreDefined → (jmax : ℕ) (h : List (Entry Meaning)) → IsLegal jmax h → (graphs : List LinkGraph) (p : IsProgram graphs h) (x : UnitRow) (k address : ℕ) (i : InstId) (a : WasMatched graphs h p x k (Some (i, address))) → IsDefinition graphs (state h).rows a.wanted.name.0 i.0
bound_defined names jmax h l graphs p x k address i a = split (definition graphs name) refl
  where
    name : ℕ
    name = a.wanted.name.0

    objects : IsOfObjects graphs (state (take a.entries h))
    objects = objects_then names jmax h l graphs p a.entries a.begun

    split : (o : Option (ℕ × ℕ)) → definition graphs name ≡ o → IsDefinition graphs (state h).rows name i.0
    split None e = absurd (none-some i (sym (a.matched ∙ ap (λ o. option_map (λ (q : Row). q.inst) o) (objects.undefined name e))))
    split (Some d) e = found (objects.defined name d.0 d.1 e)
      where
        found : (r : InstRow) × HasRow (state (take a.entries h)).rows name r × IsOfSymbol graphs d.0 d.1 r → IsDefinition graphs (state h).rows name i.0
        found r =
            let is : i ≡ r.1.row.inst = same_Some i r.1.row.inst (a.matched ∙ ap (λ o. option_map (λ (q : Row). q.inst) o) r.1.found) in
            let at : i.0 ≡ r.1.number = ap (λ (j : InstId). j.0) is ∙ r.1.is in
            let still = still_there jmax h l graphs p a.entries a.begun i.0 r.0 (ap (slice_get (state (take a.entries h)).rows) at ∙ r.1.there) r.1.present in
            record { object = d.0; symbol = d.1; defined = e; row = still.row; there = still.there; present = still.present; of = still_of graphs d.0 d.1 r.0 still.row still.unit still.offer r.2 }

-- a bound instance is that of an external
pub instance_bound : (bound : Bindings) (i : InstId) → Contains (bound_instances bound) i → (k : ℕ) × (address : ℕ) × (slice_get bound k ≡ Some (Some (i, address)))
instance_bound [] i c = absurd (not-suc-le-zero c.1)
instance_bound (None ∷ bs) i c = let p = instance_bound bs i c in (suc p.0, p.1, p.2)
instance_bound (Some p ∷ bs) i (zero, b, is) = (0, p.1, ap (λ (j : InstId). Some (Some (j, p.1))) is)
instance_bound (Some p ∷ bs) i (suc n, b, is) = let q = instance_bound bs i (n, le_of_suc-le-suc b, is) in (suc q.0, q.1, q.2)
