-- The names that an object offers and keeps, by the places of their symbols, and the rows of those that it keeps.
use Rattle.std.proofs.Common.{◌≡◌, ℕ, zero, suc, ◌+◌, Bool, true, false, ◌&&◌, not, map, List, [], ◌∷◌, slice_get, arith, sym, refl, ap, ap₂, ◌∙◌, Some}
use Rattle.std.specs.Bool.{if◌then◌else◌}
use Rattle.std.specs.List.{filter}
use Rattle.std.proofs.lemmas.Option.{none-some, same_Some}
use Rattle.orc_ids.specs.declared.flags.SymFlags.{SymFlags}
use Rattle.orc_ids.specs.declared.ids.NameId.{NameId}
use Rattle.link_model.specs.Graph.{is_offered}
use Rattle.link_model.specs.Offers.{name_of}
use Rattle.link_model.specs.declared.graph.GSym.{GSym}
use Rattle.link_model.specs.declared.graph.LinkGraph.{LinkGraph}
use Rattle.session_model.specs.Change.{is_kept, new_row, new_rows}
use Rattle.session_model.specs.Lists.{numbered}
use Rattle.session_model.specs.declared.rows.InstRow.{InstRow}
use Rattle.session_model.specs.declared.rows.Verdict.{Verdict}
use Rattle.memory_laws.specs.Names.{is_definition, kept_from}

-- what a symbol is offered as
abbrev pub offer_of : GSym → NameId × SymFlags
offer_of s = (name_of s, s.flags)

-- how many symbols before place s are offered
abbrev pub offers_before : ℕ → List GSym → ℕ
offers_before zero xs = 0
offers_before (suc s) [] = 0
offers_before (suc s) (x ∷ xs) = if is_offered x then suc (offers_before s xs) else offers_before s xs

-- an offered symbol stands among those at the number of the offers before it
pub offered_there : (xs : List GSym) (s : ℕ) (x : GSym) → slice_get xs s ≡ Some x → is_offered x ≡ true → slice_get (filter is_offered xs) (offers_before s xs) ≡ Some x
offered_there [] s x e o = absurd (none-some x e)
offered_there (y ∷ ys) zero x e o =
    let is = same_Some y x e in
    ap (λ (b : Bool). slice_get (if b then y ∷ filter is_offered ys else filter is_offered ys) 0) (ap is_offered is ∙ o) ∙ ap Some is
offered_there (y ∷ ys) (suc s) x e o = split (is_offered y) (offered_there ys s x e o)
  where
    split : (b : Bool) → slice_get (filter is_offered ys) (offers_before s ys) ≡ Some x → slice_get (if b then y ∷ filter is_offered ys else filter is_offered ys) (if b then suc (offers_before s ys) else offers_before s ys) ≡ Some x
    split true h = h
    split false h = h

-- the symbol of an offer
pub record IsOfferAt (xs : List GSym) (j : ℕ) (x : GSym) : Type 0 where
  pub place : ℕ
  pub there : slice_get xs place ≡ Some x
  pub offered : is_offered x ≡ true
  pub number : offers_before place xs ≡ j

pub offered_parts : (xs : List GSym) (j : ℕ) (x : GSym) → slice_get (filter is_offered xs) j ≡ Some x → IsOfferAt xs j x
offered_parts [] j x e = absurd (none-some x e)
offered_parts (y ∷ ys) j x e = split (is_offered y) refl j e (offered_parts ys)
  where
    split : (b : Bool) → is_offered y ≡ b → (j : ℕ) → slice_get (if b then y ∷ filter is_offered ys else filter is_offered ys) j ≡ Some x → ((i : ℕ) (z : GSym) → slice_get (filter is_offered ys) i ≡ Some z → IsOfferAt ys i z) → IsOfferAt (y ∷ ys) j x
    split true o zero e rest = let is = same_Some y x e in record { place = 0; there = e; offered = ap is_offered (sym is) ∙ o; number = refl }
    split true o (suc i) e rest = let p = rest i x e in record { place = suc p.place; there = p.there; offered = p.offered; number = ap (λ (b : Bool). if b then suc (offers_before p.place ys) else offers_before p.place ys) o ∙ ap suc p.number }
    split false o i e rest = let p = rest i x e in record { place = suc p.place; there = p.there; offered = p.offered; number = ap (λ (b : Bool). if b then suc (offers_before p.place ys) else offers_before p.place ys) o ∙ p.number }

-- New rows

-- a name that is kept has a new row
pub new_row_there : (d u k : ℕ) (offers : List (NameId × SymFlags)) (vs : List Verdict) (j at : ℕ) (offer : NameId × SymFlags) (v : Verdict) → slice_get offers j ≡ Some offer → slice_get vs j ≡ Some v → is_kept v ≡ true → at ≡ k + j →
    (n : ℕ) × (slice_get (new_rows d u k offers vs) n ≡ Some (new_row d u at offer))
new_row_there d u k [] vs j at offer v e f kept is = absurd (none-some offer e)
new_row_there d u k (o ∷ os) [] j at offer v e f kept is = absurd (none-some v f)
new_row_there d u k (o ∷ os) (w ∷ ws) zero at offer v e f kept is =
    let same : at ≡ k = omega (arith, is) in
    (0, ap (λ (b : Bool). slice_get (if b then new_row d u k o ∷ new_rows d u (k + 1) os ws else new_rows d u (k + 1) os ws) 0) (ap is_kept (same_Some w v f) ∙ kept) ∙ ap₂ (λ (i : ℕ) (z : NameId × SymFlags). Some (new_row d u i z)) (sym same) (same_Some o offer e))
new_row_there d u k (o ∷ os) (w ∷ ws) (suc j) at offer v e f kept is = split (is_kept w) (new_row_there d u (k + 1) os ws j at offer v e f kept (omega (arith, is)))
  where
    split : (b : Bool) → (n : ℕ) × (slice_get (new_rows d u (k + 1) os ws) n ≡ Some (new_row d u at offer)) → (n : ℕ) × (slice_get (if b then new_row d u k o ∷ new_rows d u (k + 1) os ws else new_rows d u (k + 1) os ws) n ≡ Some (new_row d u at offer))
    split true p = (suc p.0, p.1)
    split false p = p

-- a new row is that of a name that is kept
pub record IsNewRow (d u k : ℕ) (offers : List (NameId × SymFlags)) (vs : List Verdict) (r : InstRow) : Type 0 where
  pub place : ℕ
  pub number : ℕ
  pub at : number ≡ k + place
  pub offer : NameId × SymFlags
  pub there : slice_get offers place ≡ Some offer
  pub found : Verdict
  pub its : slice_get vs place ≡ Some found
  pub kept : is_kept found ≡ true
  pub is : r ≡ new_row d u number offer

pub new_row_parts : (d u k : ℕ) (offers : List (NameId × SymFlags)) (vs : List Verdict) (n : ℕ) (r : InstRow) → slice_get (new_rows d u k offers vs) n ≡ Some r → IsNewRow d u k offers vs r
new_row_parts d u k [] vs n r e = absurd (none-some r e)
new_row_parts d u k (o ∷ os) [] n r e = absurd (none-some r e)
new_row_parts d u k (o ∷ os) (w ∷ ws) n r e = split (is_kept w) refl n e (new_row_parts d u (k + 1) os ws)
  where
    later : IsNewRow d u (k + 1) os ws r → IsNewRow d u k (o ∷ os) (w ∷ ws) r
    later p = record { place = suc p.place; number = p.number; at = omega (arith, p.at); offer = p.offer; there = p.there; found = p.found; its = p.its; kept = p.kept; is = p.is }

    first : k ≡ k + 0
    first = omega arith

    split : (b : Bool) → is_kept w ≡ b → (n : ℕ) → slice_get (if b then new_row d u k o ∷ new_rows d u (k + 1) os ws else new_rows d u (k + 1) os ws) n ≡ Some r → ((i : ℕ) (q : InstRow) → slice_get (new_rows d u (k + 1) os ws) i ≡ Some q → IsNewRow d u (k + 1) os ws q) → IsNewRow d u k (o ∷ os) (w ∷ ws) r
    split true f zero t rest = record { place = 0; number = k; at = first; offer = o; there = refl; found = w; its = refl; kept = f; is = sym (same_Some (new_row d u k o) r t) }
    split true f (suc i) t rest = later (rest i r t)
    split false f i t rest = later (rest i r t)

-- Kept names

-- A new object keeps just the names of which it has the definition.
pub kept_new : (gs : List LinkGraph) (u s : ℕ) (judge : NameId × SymFlags → Verdict) (xs : List GSym) → ((i : ℕ) (x : GSym) → slice_get xs i ≡ Some x → is_offered x ≡ true → (n : ℕ) → n ≡ s + i → is_kept (judge (offer_of x)) ≡ is_definition gs u n x) →
    map is_kept (map judge (map offer_of (filter is_offered xs))) ≡ kept_from gs u s xs
kept_new gs u s judge [] h = refl
kept_new gs u s judge (x ∷ xs) h = split (is_offered x) refl (kept_new gs u (s + 1) judge xs (λ i y e o n is. h (suc i) y e o n (omega (arith, is))))
  where
    here : s ≡ s + 0
    here = omega arith

    split : (b : Bool) → is_offered x ≡ b → map is_kept (map judge (map offer_of (filter is_offered xs))) ≡ kept_from gs u (s + 1) xs →
        map is_kept (map judge (map offer_of (if b then x ∷ filter is_offered xs else filter is_offered xs))) ≡ (if b then is_definition gs u s x ∷ kept_from gs u (s + 1) xs else kept_from gs u (s + 1) xs)
    split true o rest = ap₂ (λ (b : Bool) (bs : List Bool). b ∷ bs) (h 0 x refl o s here) rest
    split false o rest = rest

-- An object that was there keeps those that it doesn't lose.
pub kept_old : (gs hs : List LinkGraph) (u s k : ℕ) (loses : ℕ → Bool) (xs : List GSym) → ((i : ℕ) (x : GSym) → slice_get xs i ≡ Some x → is_offered x ≡ true → (n j : ℕ) → n ≡ s + i → j ≡ k + offers_before i xs → (is_definition gs u n x && not (loses j)) ≡ is_definition hs u n x) →
    numbered (λ (j : ℕ) (flag : Bool). flag && not (loses j)) k (kept_from gs u s xs) ≡ kept_from hs u s xs
kept_old gs hs u s k loses [] h = refl
kept_old gs hs u s k loses (x ∷ xs) h = split (is_offered x) refl
    (λ o. kept_old gs hs u (s + 1) (k + 1) loses xs (λ i y e f n j is at. h (suc i) y e f n j (next n s i is)
    (next j k (offers_before i xs) at ∙ ap (λ (b : Bool). k + (if b then suc (offers_before i xs) else offers_before i xs)) (sym o))))
    (λ o. kept_old gs hs u (s + 1) k loses xs (λ i y e f n j is at. h (suc i) y e f n j (next n s i is)
    (at ∙ ap (λ (b : Bool). k + (if b then suc (offers_before i xs) else offers_before i xs)) (sym o))))
  where
    here : s ≡ s + 0
    here = omega arith

    first : k ≡ k + 0
    first = omega arith

    next : (a b c : ℕ) → a ≡ b + 1 + c → a ≡ b + suc c
    next a b c e = omega (arith, e)

    lose : ℕ → Bool → Bool
    lose j flag = flag && not (loses j)

    split : (b : Bool) → is_offered x ≡ b → (is_offered x ≡ true → numbered lose (k + 1) (kept_from gs u (s + 1) xs) ≡ kept_from hs u (s + 1) xs) → (is_offered x ≡ false → numbered lose k (kept_from gs u (s + 1) xs) ≡ kept_from hs u (s + 1) xs) →
        numbered lose k (if b then is_definition gs u s x ∷ kept_from gs u (s + 1) xs else kept_from gs u (s + 1) xs) ≡ (if b then is_definition hs u s x ∷ kept_from hs u (s + 1) xs else kept_from hs u (s + 1) xs)
    split true o with_one without = ap₂ (λ (b : Bool) (bs : List Bool). b ∷ bs) (h 0 x refl o s k here first) (with_one o)
    split false o with_one without = without o
