-- With which instances a failure begins, and what a removal makes of rows.
use Rattle.std.proofs.Common.{◌≡◌, ℕ, ◌+◌, ◌<◌, ◌≤◌, Bool, true, false, ◌&&◌, ◌||◌, ◌==◌, not, List, [], ◌∷◌, map, length, ◌⊎◌, inl, inr, Option, Some, None, option_map, slice_get, refl, ap, ap₂, sym, ◌∙◌, arith}
use Rattle.std.specs.Prelude.{nat_lt, nat_le}
use Rattle.std.specs.Option.{option_map_or}
use Rattle.std.proofs.lemmas.Bool.{eqb-true, eq-eqb, or_cases}
use Rattle.std.proofs.lemmas.Bool.Decides.{nat_tests}
use Rattle.std.proofs.lemmas.Option.{slice_get_within}
use Rattle.list_laws.proofs.Bools.{bool_same, or_assoc}
use Rattle.orc_ids.specs.declared.ids.UnitId.{UnitId}
use Rattle.session_model.specs.Plain.{is_owned, is_owned_at, present_at}
use Rattle.session_model.specs.Reach.{is_ready}
use Rattle.session_model.specs.declared.rows.InstRow.{InstRow}
use Rattle.instances.specs.Spans.{IsSpan}
use Rattle.instances.specs.Table as one
use Rattle.instances.proofs.Kept.{map_changed}
use Rattle.instances.specs.Removal.{is_gone, roots, removed_row}
use Rattle.instances.proofs.Standings.{IsAlike}

-- one instance more was looked at
pub roots_more : (x y p : Bool) (first i k n : ℕ) → first ≤ i → y ≡ (x || (nat_le first k && nat_lt k i && nat_lt k n && p)) → (y || (i == k && nat_lt k n && p)) ≡ (x || (nat_le first k && nat_lt k (i + 1) && nat_lt k n && p))
roots_more x y p first i k n h e = grind (arith, nat_tests)

pub roots_none : (x p : Bool) (first k n : ℕ) → x ≡ (x || (nat_le first k && nat_lt k first && nat_lt k n && p))
roots_none x p first k n = grind (arith, nat_tests)

-- the present instances of a span are those of its unit
joined : (a b c p e r : Bool) → (a && b && c) ≡ e → (a && b && c && (p && r)) ≡ ((p && e) && r)
joined true true true true e r h = ap (λ x. x && r) h
joined true true true false e r h = refl
joined true true false true e r h = ap (λ x. x && r) h
joined true true false false e r h = refl
joined true false c true e r h = ap (λ x. x && r) h
joined true false c false e r h = refl
joined false b c true e r h = ap (λ x. x && r) h
joined false b c false e r h = refl

never : (a b c : Bool) → (a && b && c && false) ≡ false
never true true true = refl
never true true false = refl
never true false c = refl
never false b c = refl

pub spanned_owned : (rows : List InstRow) (u first count k n : ℕ) (r : Bool) → IsSpan rows u first count → length rows ≤ n → (nat_le first k && nat_lt k (first + count) && nat_lt k n && (present_at rows k && r)) ≡ (is_owned_at u rows k && r)
spanned_owned rows u first count k n r s room = by_row (slice_get rows k) refl
  where
    by_row : (o : Option InstRow) → slice_get rows k ≡ o → (nat_le first k && nat_lt k (first + count) && nat_lt k n && (option_map_or (λ q. q.present) o false && r)) ≡ (option_map_or (is_owned u) o false && r)
    by_row None t = never (nat_le first k) (nat_lt k (first + count)) (nat_lt k n)
    by_row (Some q) t = joined (nat_le first k) (nat_lt k (first + count)) (nat_lt k n) q.present (q.unit.0 == u) r
        (bool_same (nat_le first k && nat_lt k (first + count) && nat_lt k n) (q.unit.0 == u)
        (λ h. let low : first ≤ k = grind (arith, nat_tests) in let high : k < first + count = grind (arith, nat_tests) in eq-eqb q.unit.0 u (s.its k q t low high))
        (λ h. let p = s.only k q t (eqb-true q.unit.0 u h) in
        let low : first ≤ k = p.0 in
        let high : k < first + count = p.1 in
        let below : k < n = (let b = slice_get_within rows k q t in omega (arith, b, room)) in
        grind (arith, nat_tests)))

-- Some units, and one more

eqb_turned : (a b : ℕ) → (a == b) ≡ (b == a)
eqb_turned a b = bool_same (a == b) (b == a) (λ h. eq-eqb b a (sym (eqb-true a b h))) (λ h. eq-eqb a b (sym (eqb-true b a h)))

either : (p a b r : Bool) → ((p && (a || b)) && r) ≡ (((p && a) && r) || ((p && b) && r))
either true true true true = refl
either true true true false = refl
either true true false true = refl
either true true false false = refl
either true false b r = refl
either false a b r = refl

pub roots_cons : (u : UnitId) (us : List UnitId) (rows : List InstRow) (k : ℕ) → roots (u ∷ us) rows k ≡ ((is_owned_at u.0 rows k && not (is_ready rows k)) || roots us rows k)
roots_cons u us rows k = by_row (slice_get rows k)
  where
    by_row : (o : Option InstRow) → (option_map_or (λ r. r.present && is_gone (u ∷ us) r.unit.0) o false && not (is_ready rows k)) ≡ ((option_map_or (is_owned u.0) o false && not (is_ready rows k)) || (option_map_or (λ r. r.present && is_gone us r.unit.0) o false && not (is_ready rows k)))
    by_row None = refl
    by_row (Some r) = ap (λ b. (r.present && (b || is_gone us r.unit.0)) && not (is_ready rows k)) (eqb_turned u.0 r.unit.0) ∙ either r.present (r.unit.0 == u.0) (is_gone us r.unit.0) (not (is_ready rows k))

pub roots_nil : (rows : List InstRow) (k : ℕ) → roots [] rows k ≡ false
roots_nil rows k = by_row (slice_get rows k)
  where
    by_row : (o : Option InstRow) → (option_map_or (λ r. r.present && is_gone [] r.unit.0) o false && not (is_ready rows k)) ≡ false
    by_row None = refl
    by_row (Some r) = ap (λ b. b && not (is_ready rows k)) (and_false r.present)
      where
        and_false : (b : Bool) → (b && false) ≡ false
        and_false true = refl
        and_false false = refl

-- the next unit's instances were added
pub roots_step : (start now new : Bool) (u : UnitId) (us all : List UnitId) (rows : List InstRow) (k : ℕ) → new ≡ (now || (is_owned_at u.0 rows k && not (is_ready rows k))) → (now || roots (u ∷ us) rows k) ≡ (start || roots all rows k) → (new || roots us rows k) ≡ (start || roots all rows k)
roots_step start now new u us all rows k e so_far =
    ap (λ b. b || roots us rows k) e ∙ or_assoc now (is_owned_at u.0 rows k && not (is_ready rows k)) (roots us rows k) ∙ ap (λ b. now || b) (sym (roots_cons u us rows k)) ∙ so_far

pub roots_end : (start now : Bool) (all : List UnitId) (rows : List InstRow) (k : ℕ) → (now || roots [] rows k) ≡ (start || roots all rows k) → now ≡ (start || roots all rows k)
roots_end start now all rows k e = sym (ap (λ b. now || b) (roots_nil rows k) ∙ or_false now) ∙ e
  where
    or_false : (b : Bool) → (b || false) ≡ b
    or_false true = refl
    or_false false = refl

-- Rows of removed units

apart_both : (p a b : Bool) → (p && not (a || b)) ≡ ((p && not a) && not b)
apart_both true true b = refl
apart_both true false b = refl
apart_both false a b = refl

removed_cons : (u : UnitId) (us : List UnitId) (r : InstRow) → removed_row us (one.removed_row u.0 r) ≡ removed_row (u ∷ us) r
removed_cons u us r = ap (λ b. record r { present = b }) (sym (ap (λ b. r.present && not (b || is_gone us r.unit.0)) (eqb_turned u.0 r.unit.0) ∙ apart_both r.present (r.unit.0 == u.0) (is_gone us r.unit.0)))

pub removed_then : (u : UnitId) (us : List UnitId) (rows : List InstRow) → map (removed_row us) (map (one.removed_row u.0) rows) ≡ map (removed_row (u ∷ us)) rows
removed_then u us [] = refl
removed_then u us (r ∷ rs) = ap₂ (λ x xs. x ∷ xs) (removed_cons u us r) (removed_then u us rs)

pub removed_nil : (rows : List InstRow) → map (removed_row []) rows ≡ rows
removed_nil [] = refl
removed_nil (r ∷ rs) = ap₂ (λ x xs. x ∷ xs) (ap (λ b. record r { present = b }) (and_true r.present)) (removed_nil rs)
  where
    and_true : (b : Bool) → (b && true) ≡ b
    and_true true = refl
    and_true false = refl

-- a row with the unit of another
abbrev pub HasUnitAt : List InstRow → ℕ → InstRow → Type 0
HasUnitAt rows k r = (q : InstRow) × (slice_get rows k ≡ Some q) × (q.unit ≡ r.unit)

pub unit_kept : (u : ℕ) (now new : List InstRow) (k : ℕ) (r : InstRow) → new ≡ map (one.removed_row u) now → HasUnitAt now k r → HasUnitAt new k r
unit_kept u now new k r e p = (one.removed_row u p.0, ap (λ xs. slice_get xs k) e ∙ map_changed (one.removed_row u) now k ∙ ap (option_map (one.removed_row u)) p.1, p.2)

pub noted_more : (u : UnitId) (us : List UnitId) (now : List InstRow) (before after : Bool) (k : ℕ) (r : InstRow) → HasUnitAt now k r → (before ≡ true → after ≡ true) → ((q : InstRow) → slice_get now k ≡ Some q → q.unit.0 ≡ u.0 → after ≡ true) → (before ≡ true) ⊎ (is_gone (u ∷ us) r.unit.0 ≡ true) → (after ≡ true) ⊎ (is_gone us r.unit.0 ≡ true)
noted_more u us now before after k r p kept here (inl a) = inl (kept a)
noted_more u us now before after k r p kept here (inr g) = from_cases (or_cases (u.0 == r.unit.0) (is_gone us r.unit.0) g)
  where
    from_cases : ((u.0 == r.unit.0) ≡ true) ⊎ (is_gone us r.unit.0 ≡ true) → (after ≡ true) ⊎ (is_gone us r.unit.0 ≡ true)
    from_cases (inl is) = inl (here p.0 p.1 (ap (λ (v : UnitId). v.0) p.2 ∙ sym (eqb-true u.0 r.unit.0 is)))
    from_cases (inr b) = inr b

pub removed_alike : (gone : List UnitId) (r : InstRow) → is_gone gone r.unit.0 ≡ false → IsAlike r (removed_row gone r)
removed_alike gone r n = record { failed = refl; present = ap (λ b. r.present && not b) n ∙ and_true r.present; address = refl }
  where
    and_true : (b : Bool) → (b && true) ≡ b
    and_true true = refl
    and_true false = refl
