-- An external is bound to an instance of its name.
use Rattle.std.proofs.Common.{◌≡◌, ℕ, ◌+◌, Bool, true, false, ◌&&◌, ◌==◌, List, ◌++◌, slice_get, take, drop, arith, subst, sym, refl, ap, ◌∙◌, Option, Some, None, option_map}
use Rattle.std.specs.Option.{option_map_or}
use Rattle.std.proofs.lemmas.Bool.{and_parts, eqb-true}
use Rattle.std.proofs.lemmas.Option.{none-some, same_Some}
use Rattle.session_model.proofs.FirstRows.{row_passes}
use Rattle.session_model.proofs.Choices.{some_of_first}
use Rattle.orc_ids.specs.declared.ids.GenId.{GenId}
use Rattle.orc_ids.specs.declared.ids.InstId.{InstId}
use Rattle.orc_ids.specs.declared.ids.NameId.{NameId}
use Rattle.orc_ids.specs.declared.lookup.OrderItem.{OrderItem}
use Rattle.orc_ids.specs.declared.lookup.Wanted.{Wanted}
use Rattle.session_model.specs.Lists.{only_if, or_else}
use Rattle.session_model.specs.Change.{changed, instance_of, link_order, link_matches}
use Rattle.session_model.specs.History.{IsLegal}
use Rattle.session_model.specs.Match.{row_of, match_in, match_of, sees, offered_by}
use Rattle.session_model.specs.Meaning.{Meaning}
use Rattle.session_model.specs.Plain.{Plain}
use Rattle.session_model.specs.State.{state}
use Rattle.session_model.specs.declared.change.Change.{Change}
use Rattle.session_model.specs.declared.entry.Entry.{Entry}
use Rattle.session_model.specs.declared.rows.InstRow.{InstRow}
use Rattle.session_model.specs.declared.rows.Match.{Match}
use Rattle.session_model.specs.declared.rows.Match.TheVariants.{Instance, Offered}
use Rattle.session_model.specs.declared.rows.Query.{Query}
use Rattle.session_model.specs.declared.rows.Row.{Row}
use Rattle.session_laws.proofs.Declared.{mapped_some, front_and_rest, Guard, settled_rows}
use Rattle.session_laws.specs.Sound.{IsSound}
use Rattle.closure_laws.proofs.Ends.{bindings_are_ends, bindings_are_matches}
use Rattle.closure_laws.proofs.Histories.{kept_by_changes}
use Rattle.closure_laws.proofs.Linking.{links_are_lookups}
use Rattle.closure_laws.proofs.RowMoving.{change_rows, run_same}
use Rattle.closure_laws.specs.Bindings.{IsItsEnd}
use Rattle.closure_laws.specs.Links.{LinkedAt, BoundByName}

-- the instance is there, and has this name
abbrev IsNamed : List InstRow → ℕ → ℕ → Type 0
IsNamed rows i name = (r : InstRow) × (slice_get rows i ≡ Some r) × (r.name.0 ≡ name)

row_named : (rows : List InstRow) (d name : ℕ) (r : Row) → row_of rows d name ≡ Some r → IsNamed rows r.inst.0 name
row_named rows d name r e = let p = row_passes (λ (y : InstRow). y.present && y.dylib.0 == d && y.name.0 == name) 0 rows r e in
    (p.2, ap (slice_get rows) (omega (arith, p.1)) ∙ p.3, eqb-true p.2.name.0 name (and_parts (p.2.present && p.2.dylib.0 == d) (p.2.name.0 == name) p.4).1)

-- a match that is an instance is one of the name
abbrev MatchNamed : List InstRow → ℕ → Match → Type 0
MatchNamed rows name (Instance i) = IsNamed rows i.0 name
MatchNamed rows name (Offered g) = Unit {0}

match_named : (m : Plain) (order : List OrderItem) (name : ℕ) (y : Match) → match_of m order name ≡ Some y → MatchNamed m.rows name y
match_named m order name y e = some_of_first (MatchNamed m.rows name) (match_in m name) in_item order y e
  where
    generated : (o : Option GenId) (z : Match) → option_map Offered o ≡ Some z → MatchNamed m.rows name z
    generated None z h = absurd (none-some z h)
    generated (Some g) z h = subst (MatchNamed m.rows name) (same_Some (Offered g) z h) tt

    in_item : (item : OrderItem) (z : Match) → match_in m name item ≡ Some z → MatchNamed m.rows name z
    in_item item z h = split (row_of m.rows item.dylib.0 name) refl h
      where
        split : (o : Option Row) → row_of m.rows item.dylib.0 name ≡ o → or_else (option_map_or (λ (r : Row). only_if (sees item.scope r.flags) (Instance r.inst)) o None) (option_map Offered (offered_by m.generators item.dylib.0 name item.scope)) ≡ Some z → MatchNamed m.rows name z
        split None f g = generated (offered_by m.generators item.dylib.0 name item.scope) z g
        split (Some r) f g = seen (sees item.scope r.flags) g
          where
            seen : (b : Bool) → or_else (only_if b (Instance r.inst)) (option_map Offered (offered_by m.generators item.dylib.0 name item.scope)) ≡ Some z → MatchNamed m.rows name z
            seen true k = subst (MatchNamed m.rows name) (same_Some (Instance r.inst) z k) (row_named m.rows item.dylib.0 name r f)
            seen false k = generated (offered_by m.generators item.dylib.0 name item.scope) z k

instance_named : (m : Plain) (order : List OrderItem) (name : ℕ) (i : InstId) → instance_of (match_of m order name) ≡ Some i → IsNamed m.rows i.0 name
instance_named m order name i e = split (match_of m order name) refl e
  where
    split : (o : Option Match) → match_of m order name ≡ o → instance_of o ≡ Some i → IsNamed m.rows i.0 name
    split None f h = absurd (none-some i h)
    split (Some (Offered g)) f h = absurd (none-some i h)
    split (Some (Instance j)) f h = subst (λ (k : InstId). IsNamed m.rows k.0 name) (same_Some j i h) (match_named m order name (Instance j) f)

-- an instance keeps its name
named_stays : (jmax : ℕ) (h more : List (Entry Meaning)) → IsLegal jmax (h ++ more) → (i name : ℕ) → IsNamed (state h).rows i name → IsNamed (state (h ++ more)).rows i name
named_stays jmax h more l i name = kept_by_changes (λ rows units queries. IsNamed rows i name) step (λ m sound p. subst (λ rows. IsNamed rows i name) (sym (settled_rows m)) p) jmax h more l
  where
    step : (m : Plain) (s : ℕ) (c : Change Meaning) → IsSound m → Guard m s c → IsNamed m.rows i name → IsNamed (changed c m).rows i name
    step m s c sound g p = let q = change_rows m s c sound g i p.0 p.1 in
        (q.0, q.1, ap (λ (n : NameId). n.0) (run_same m c i p.0 q.0 q.2).name ∙ p.2)

pub bound_by_name : BoundByName
bound_by_name jmax h l u k address x b w i t bound e f = (now.0, now.1, ap (λ (n : ℕ). record { 0 = n }) now.2)
  where
    its : IsItsEnd h x b
    its = bindings_are_ends jmax h l u x b t bound

    q : (q : Query) × (slice_get (state h).queries its.number ≡ Some q) × (n : ℕ) × LinkedAt h u x q n
    q = links_are_lookups jmax h l u its.number x t its.its

    -- the external matched the instance then
    matched : slice_get (link_matches (state (take q.2 h)) q.3.unit) k ≡ Some (Some i)
    matched = ap (λ os. slice_get os k) (sym q.3.matched ∙ sym (bindings_are_matches jmax h l u its.number x b q.0 t bound its.its q.1)) ∙ mapped_some (λ (o : Option (InstId × ℕ)). option_map (λ (p : InstId × ℕ). p.0) o) b k (Some (i, address)) f

    wanted : slice_get (q.3.unit.meaning.externals q.3.unit.live) k ≡ Some w
    wanted = ap (λ (v : Meaning). slice_get (v.externals q.3.unit.live) k) q.3.same.0 ∙ (ap (λ ls. slice_get (x.meaning.externals ls) k) q.3.same.1 ∙ e)

    was : IsNamed (state (take q.2 h)).rows i.0 w.name.0
    was = instance_named (state (take q.2 h)) (link_order (state (take q.2 h)) q.3.unit) w.name.0 i
        (same_Some (instance_of (match_of (state (take q.2 h)) (link_order (state (take q.2 h)) q.3.unit) w.name.0)) (Some i)
        (sym (mapped_some (λ (v : Wanted). instance_of (match_of (state (take q.2 h)) (link_order (state (take q.2 h)) q.3.unit) v.name.0)) (q.3.unit.meaning.externals q.3.unit.live) k w wanted) ∙ matched))

    whole : h ≡ take q.2 h ++ drop q.2 h
    whole = front_and_rest q.2 h

    now : IsNamed (state h).rows i.0 w.name.0
    now = subst (λ g. IsNamed (state g).rows i.0 w.name.0) (sym whole) (named_stays jmax (take q.2 h) (drop q.2 h) (subst (IsLegal jmax) whole l) i.0 w.name.0 was)
