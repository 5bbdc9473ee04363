-- The tables by symbol: addresses, cells and stubs.
use Rattle.std.proofs.Common.{◌≡◌, ℕ, zero, suc, ◌+◌, ◌<◌, ◌≤◌, true, false, ◌==◌, cond, List, [], ◌∷◌, length, map, drop, get_or, set, slice_index, Option, Some, None, refl, sym, ap, subst, ◌∙◌, arith}
use Rattle.std.specs.Prelude.{unwrap_or, option_map, find}
use Rattle.std.specs.List.{All}
use Rattle.std.proofs.lemmas.List.{get_or_default}
use Rattle.std.proofs.lemmas.List.Elements.{All-head, All-tail}
use Rattle.std.proofs.lemmas.Option.{same_Some}
use Rattle.std.proofs.Math.Seq.{drop-cons, drop-length}
use Rattle.list_laws.proofs.Lists.{get_or-set}
use mathlib.Core.Path.{fun_ext}
use Rattle.link_model.specs.Image.{at_or, own_address, bound_address, told_address, offset_of}
use Rattle.link_model.specs.declared.graph.GPlace.TheVariants.{Abs}
use Rattle.link_model.specs.declared.graph.GSym.{GSym}
use Rattle.link_model.specs.declared.graph.Layout.{Layout}
use Rattle.link_model.specs.declared.graph.LinkGraph.{LinkGraph}
use Rattle.unit_fixups.specs.Tables.{IsTable}

-- what is read of a table
pub read_of : (count s : ℕ) (o : Option ℕ) (pairs : List (ℕ × ℕ)) (table : List (Option ℕ)) → IsTable count pairs table → s < count → o ≡ get_or table s o → o ≡ offset_of pairs s
read_of count s o pairs table is lt read = read ∙ get_or_default table s o None (omega (arith, is.whole, lt)) ∙ is.exact s

-- ---- addresses

first_bound : (x s : ℕ) (xs : List ℕ) (b : Option ℕ) (bs : List (Option ℕ)) (own : ℕ) → cond (x == s) (unwrap_or b 0) (unwrap_or (bound_address xs bs s) own) ≡ unwrap_or (bound_address (x ∷ xs) (b ∷ bs) s) own
first_bound x s xs b bs own = elim (x == s) as (λ t. cond t (unwrap_or b 0) (unwrap_or (bound_address xs bs s) own) ≡ unwrap_or (cond t (Some (unwrap_or b 0)) (bound_address xs bs s)) own) [
  | true ↦ refl
  | false ↦ refl
]

-- one more external before those that were put
pub bound_step : (externals : List ℕ) (bound : List (Option ℕ)) (start told new : List ℕ) (k n s : ℕ) (b : Option ℕ) → k < length externals → k < length bound → n ≡ suc k → get_or externals k 0 < length told → b ≡ get_or bound k b → new ≡ set told (get_or externals k 0) (unwrap_or b 0) → get_or told s 0 ≡ unwrap_or (bound_address (drop n externals) (drop n bound) s) (get_or start s 0) → get_or new s 0 ≡ unwrap_or (bound_address (drop k externals) (drop k bound) s) (get_or start s 0)
bound_step externals bound start told new k n s b lt lt' next within is now e =
    let x : ℕ = get_or externals k 0 in
    ap (λ (t : List ℕ). get_or t s 0) now
    ∙ get_or-set told x s (unwrap_or b 0) 0 within
    ∙ ap (λ (y : ℕ). cond (x == s) (unwrap_or b 0) y) (e ∙ ap (λ (i : ℕ). unwrap_or (bound_address (drop i externals) (drop i bound) s) (get_or start s 0)) next)
    ∙ first_bound x s (drop (suc k) externals) b (drop (suc k) bound) (get_or start s 0)
    ∙ ap (λ (c : Option ℕ). unwrap_or (bound_address (x ∷ drop (suc k) externals) (c ∷ drop (suc k) bound) s) (get_or start s 0)) is
    ∙ ap (λ (xs : List ℕ). unwrap_or (bound_address xs (get_or bound k b ∷ drop (suc k) bound) s) (get_or start s 0)) (sym (drop-cons externals k 0 lt))
    ∙ ap (λ (bs : List (Option ℕ)). unwrap_or (bound_address (drop k externals) bs s) (get_or start s 0)) (sym (drop-cons bound k b lt'))

pub none_bound : (externals : List ℕ) (bound : List (Option ℕ)) (n s own : ℕ) → n ≡ length externals → own ≡ unwrap_or (bound_address (drop n externals) (drop n bound) s) own
none_bound externals bound n s own e =
    ap (λ (xs : List ℕ). unwrap_or (bound_address xs (drop n bound) s) own) (sym (ap (λ (i : ℕ). drop i externals) e ∙ drop-length externals))

-- the address of each symbol's place, where a symbol that isn't there has 0
own_at : (l : Layout) (base : ℕ) (ss : List GSym) (s : ℕ) → get_or (map (λ (x : GSym). own_address l base x.place) ss) s 0 ≡ own_address l base (at_or (Abs 0) (map (λ (x : GSym). x.place) ss) s)
own_at l base [] s = refl
own_at l base (x ∷ ss) zero = refl
own_at l base (x ∷ ss) (suc s) = own_at l base ss s

pub told_is : (g : LinkGraph) (l : Layout) (base : ℕ) (externals : List ℕ) (bound : List (Option ℕ)) (own told table : List ℕ) → own ≡ map (λ (x : GSym). own_address l base x.place) g.symbols → externals ≡ l.externals → ((s : ℕ) → slice_index told s ≡ unwrap_or (bound_address externals bound s) (slice_index own s)) → table ≡ told → slice_index table ≡ told_address g l base bound
told_is g l base externals bound own told table o x h t = fun_ext (λ (s : ℕ).
    ap (λ (xs : List ℕ). get_or xs s 0) t
    ∙ h s
    ∙ ap (λ (xs : List ℕ). unwrap_or (bound_address xs bound s) (get_or own s 0)) x
    ∙ ap (unwrap_or (bound_address l.externals bound s)) (ap (λ (xs : List ℕ). get_or xs s 0) o ∙ own_at l base g.symbols s))

-- ---- cells and stubs

first_offset : (p : ℕ × ℕ) (ps : List (ℕ × ℕ)) (s : ℕ) → cond (p.0 == s) (Some p.1) (offset_of ps s) ≡ offset_of (p ∷ ps) s
first_offset p ps s = elim (p.0 == s) as (λ t. cond t (Some p.1) (option_map (λ (q : ℕ × ℕ). q.1) (find (λ (q : ℕ × ℕ). q.0 == s) ps)) ≡ option_map (λ (q : ℕ × ℕ). q.1) (cond t (Some p) (find (λ (q : ℕ × ℕ). q.0 == s) ps))) [
  | true ↦ refl
  | false ↦ refl
]

-- one more pair before those that were noted
pub offset_step : (pairs : List (ℕ × ℕ)) (table : List (Option ℕ)) (k n s : ℕ) (d : ℕ × ℕ) → k < length pairs → n ≡ suc k → (get_or pairs k d).0 < length table → get_or table s None ≡ offset_of (drop n pairs) s → get_or (set table (get_or pairs k d).0 (Some (get_or pairs k d).1)) s None ≡ offset_of (drop k pairs) s
offset_step pairs table k n s d lt next within e =
    let p : ℕ × ℕ = get_or pairs k d in
    get_or-set table p.0 s (Some p.1) None within
    ∙ ap (cond (p.0 == s) (Some p.1)) (e ∙ ap (λ (i : ℕ). offset_of (drop i pairs) s) next)
    ∙ first_offset p (drop (suc k) pairs) s
    ∙ ap (λ (ps : List (ℕ × ℕ)). offset_of ps s) (sym (drop-cons pairs k d lt))

pub none_noted : (pairs : List (ℕ × ℕ)) (n s : ℕ) → n ≡ length pairs → None ≡ offset_of (drop n pairs) s
none_noted pairs n s e = ap (λ (ps : List (ℕ × ℕ)). offset_of ps s) (sym (ap (λ (i : ℕ). drop i pairs) e ∙ drop-length pairs))

-- an offset that the table has lies inside what the unit needs
pub offset_inside : (size end n s o : ℕ) (pairs : List (ℕ × ℕ)) → All (λ (p : ℕ × ℕ). (p.0 < n) × (p.1 + size ≤ end)) pairs → offset_of pairs s ≡ Some o → o + size ≤ end
offset_inside size end n s o [] all e = absurd cc
offset_inside size end n s o (p ∷ ps) all e =
    elim (p.0 == s) as (λ t. option_map (λ (q : ℕ × ℕ). q.1) (cond t (Some p) (find (λ (q : ℕ × ℕ). q.0 == s) ps)) ≡ Some o → o + size ≤ end) [
      | true ↦ λ e. subst (λ (x : ℕ). x + size ≤ end) (same_Some p.1 o e) (All-head (λ (p : ℕ × ℕ). (p.0 < n) × (p.1 + size ≤ end)) p ps all).1
      | false ↦ λ e. offset_inside size end n s o ps (All-tail (λ (p : ℕ × ℕ). (p.0 < n) × (p.1 + size ≤ end)) p ps all) e
    ] e

-- so is one that is 0 where the table has none
pub offset_small : (size end n s : ℕ) (o : Option ℕ) (pairs : List (ℕ × ℕ)) → All (λ (p : ℕ × ℕ). (p.0 < n) × (p.1 + size ≤ end)) pairs → o ≡ offset_of pairs s → unwrap_or o 0 ≤ end
offset_small size end n s None pairs all e = omega arith
offset_small size end n s (Some o) pairs all e = omega (arith, offset_inside size end n s o pairs all (sym e))
