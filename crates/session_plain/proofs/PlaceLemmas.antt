-- Whether a base fits anywhere, by the bases right behind the start of code memory and the ranges.
use Rattle.std.proofs.Common.{◌≡◌, ℕ, ◌+◌, ◌-◌, ◌*◌, ◌/◌, ◌%◌, ◌^◌, ◌<◌, ◌≤◌, List, [], ◌∷◌, Option, Some, None, ◌⊎◌, inl, inr, subst, sym, arith, IfSome, IsTrue, ◌↔◌, Bool, true, false, le_refl}
use Rattle.std.specs.Prelude.{if◌then◌else◌}
use Rattle.std.specs.List.{All}
use Rattle.std.proofs.Math.Nat.{mul-mod_left, mul-le-mul_right, div-mul-le_self, mod-lt}
use Rattle.std.proofs.lemmas.Nat.{div-add-mod', pow_pos}
use Rattle.std.proofs.lemmas.Bool.{cases_lt}
use Rattle.std.proofs.lemmas.List.Elements.{All-nil, All-cons, All-head, All-tail}
use Rattle.std.proofs.lemmas.Option.{same_Some, none-some}
use Rattle.orc_ids.specs.declared.limits.TheConstants.{CODE_START}
use Rattle.orc_ids.specs.declared.place.Shape.{Shape}
use Rattle.session_model.specs.Answer.{AnswersPlace, Apart, IsFree}
use Rattle.session_model.specs.Meaning.{IsLawful}
use Rattle.session_model.specs.Plain.{Plain, UnitRow, placements, unit_shape, is_alias}
use Rattle.session_model.specs.declared.entry.Reply.TheVariants as reply
use Rattle.session_model.specs.declared.rows.Range.{Range}
use Rattle.session_plain.specs.Placing.{align_up, FitsAt, FitsNotBehind}

-- what is aligned up is no less
up_no_less : (at align : ℕ) → 0 < align → at ≤ align_up at align
up_no_less at align h =
    let e : (at + (align - 1)) / align * align + (at + (align - 1)) % align ≡ at + (align - 1) = div-add-mod' (at + (align - 1)) align in
    let r : (at + (align - 1)) % align < align = mod-lt (at + (align - 1)) h in
    omega (arith, e, r, h)

-- and no aligned base from there on is less
up_least : (at align base : ℕ) → 0 < align → at ≤ base → base % align ≡ 0 → align_up at align ≤ base
up_least at align base h b e = split (cases_lt q p)
  where
    p : ℕ
    p = (at + (align - 1)) / align

    q : ℕ
    q = base / align

    whole : q * align + base % align ≡ base
    whole = div-add-mod' base align

    below : p * align ≤ at + (align - 1)
    below = div-mul-le_self (at + (align - 1)) align

    split : (q < p) ⊎ (p ≤ q) → p * align ≤ base
    split (inl c) = let more : (q + 1) * align ≤ p * align = mul-le-mul_right align (omega (arith, c)) in
        absurd (omega (arith, more, below, whole, e, b, h))
    split (inr c) = let more : p * align ≤ q * align = mul-le-mul_right align c in omega (arith, more, whole, e)

-- a base right behind one of the ends, no higher than a base that fits, and behind all that lie below it
record Behind (ranges taken : List Range) (shape : Shape) (base from : ℕ) : Type 0 where
  at : ℕ
  from_there : from ≤ at
  below : at ≤ base
  none : FitsNotBehind taken shape at
  clear : All (λ (r : Range). (r.base + r.need ≤ at) ⊎ (base + shape.need ≤ r.base)) ranges

behind_of : (ranges taken : List Range) (shape : Shape) (base from : ℕ) → from ≤ base → FitsNotBehind taken shape from → All (λ (r : Range). FitsNotBehind taken shape (r.base + r.need)) ranges → All (λ (r : Range). Apart r base shape.need) ranges → Behind ranges taken shape base from
behind_of [] taken shape base from b n ns apart = record { at = from; from_there = le_refl from; below = b; none = n; clear = All-nil (λ (r : Range). (r.base + r.need ≤ from) ⊎ (base + shape.need ≤ r.base)) }
behind_of (r ∷ rs) taken shape base from b n ns apart =
    split (λ f c m. behind_of rs taken shape base f c m (All-tail (λ (q : Range). FitsNotBehind taken shape (q.base + q.need)) r rs ns) (All-tail (λ (q : Range). Apart q base shape.need) r rs apart))
    (All-head (λ (q : Range). Apart q base shape.need) r rs apart) (cases_lt from (r.base + r.need))
  where
    with_one : (f : ℕ) → from ≤ f → (d : Behind rs taken shape base f) → (r.base + r.need ≤ d.at) ⊎ (base + shape.need ≤ r.base) → Behind (r ∷ rs) taken shape base from
    with_one f c d o = record {
      at = d.at;
      from_there = (let e : f ≤ d.at = d.from_there in omega (arith, c, e));
      below = d.below;
      none = d.none;
      clear = All-cons (λ (q : Range). (q.base + q.need ≤ d.at) ⊎ (base + shape.need ≤ q.base)) r rs o d.clear;
    }

    split : ((f : ℕ) → f ≤ base → FitsNotBehind taken shape f → Behind rs taken shape base f) → Apart r base shape.need → (from < r.base + r.need) ⊎ (r.base + r.need ≤ from) → Behind (r ∷ rs) taken shape base from
    split more (inr above) c = with_one from (le_refl from) (more from b n) (inr above)
    split more (inl under) (inl c) = let d = more (r.base + r.need) under (All-head (λ (q : Range). FitsNotBehind taken shape (q.base + q.need)) r rs ns) in
        with_one (r.base + r.need) (omega (arith, c)) d (inl d.from_there)
    split more (inl under) (inr c) = let d = more from b n in
        with_one from (le_refl from) d (inl (let e : from ≤ d.at = d.from_there in omega (arith, c, e)))

clear_apart : (ranges : List Range) (base need at low : ℕ) → at ≤ low → low ≤ base → All (λ (r : Range). (r.base + r.need ≤ at) ⊎ (base + need ≤ r.base)) ranges → All (λ (r : Range). Apart r low need) ranges
clear_apart [] base need at low a b c = All-nil (λ (r : Range). Apart r low need)
clear_apart (r ∷ rs) base need at low a b c = All-cons (λ (q : Range). Apart q low need) r rs (split (All-head (λ (q : Range). (q.base + q.need ≤ at) ⊎ (base + need ≤ q.base)) r rs c))
    (clear_apart rs base need at low a b (All-tail (λ (q : Range). (q.base + q.need ≤ at) ⊎ (base + need ≤ q.base)) r rs c))
  where
    split : (r.base + r.need ≤ at) ⊎ (base + need ≤ r.base) → Apart r low need
    split (inl h) = inl (omega (arith, h, a))
    split (inr h) = inr (omega (arith, h, b))

-- where none fits behind the start of code memory or behind one of the ranges, none fits
pub none_fits : (ranges : List Range) (shape : Shape) → 0 < shape.align → FitsNotBehind ranges shape CODE_START → All (λ (r : Range). FitsNotBehind ranges shape (r.base + r.need)) ranges → (base : ℕ) → FitsAt ranges shape base → ⊥
none_fits ranges shape h n ns base f = d.none (record {
  aligned = mul-mod_left ((d.at + (shape.align - 1)) / shape.align) shape.align;
  starts = omega (arith, d.from_there, no_less);
  ends = omega (arith, least, f.ends);
  apart = clear_apart ranges base shape.need d.at (align_up d.at shape.align) no_less least d.clear;
})
  where
    d : Behind ranges ranges shape base CODE_START
    d = behind_of ranges ranges shape base CODE_START f.starts n ns f.apart

    no_less : d.at ≤ align_up d.at shape.align
    no_less = up_no_less d.at shape.align h

    least : align_up d.at shape.align ≤ base
    least = up_least d.at shape.align base h d.below f.aligned

-- a base that fits the placements is free
pub free_fits : (units : List UnitRow) (shape : Shape) (base : ℕ) → FitsAt (placements units) shape base ↔ IsFree units shape base
free_fits units shape base = (
  (λ f. record { aligned = f.aligned; starts = f.starts; ends = f.ends; apart = f.apart }),
  (λ f. record { aligned = f.aligned; starts = f.starts; ends = f.ends; apart = f.apart }),
)

-- what is placed so is right
pub placed_right : (m : Plain) (shape : Shape) (base : ℕ) (b : Bool) → IsTrue b ↔ FitsAt (placements m.units) shape base → IsTrue b ↔ AnswersPlace m shape (reply.Placed base)
placed_right m shape base b h = (λ t. (free_fits m.units shape base).0 (h.0 t), λ f. h.1 ((free_fits m.units shape base).1 f))

-- and that there is no room
pub no_room_right : (m : Plain) (shape : Shape) (need : ℕ) (b : Bool) → IsTrue b ↔ (need ≡ shape.need) × ((base : ℕ) → FitsAt (placements m.units) shape base → ⊥) → IsTrue b ↔ AnswersPlace m shape (reply.NoRoom need)
no_room_right m shape need b h = (
  (λ t. let p = h.0 t in (p.0, λ base f. p.1 base ((free_fits m.units shape base).1 f))),
  (λ p. h.1 (p.0, λ base f. p.1 base ((free_fits m.units shape base).0 f))),
)

-- an alignment is a power of two
aligned_of : (o : Option Shape) (shape : Shape) → IfSome o (λ s. (0 < s.need) × ((k : ℕ) × (s.align ≡ 2 ^ k))) → o ≡ Some shape → 0 < shape.align
aligned_of None shape l e = absurd (none-some shape e)
aligned_of (Some s) shape l e = subst (λ (z : Shape). 0 < z.align) (same_Some s shape e) (subst (λ n. 0 < n) (sym l.1.1) (pow_pos l.1.0))

shape_alone : (b : Bool) (o : Option Shape) (shape : Shape) → (if b then None else o) ≡ Some shape → o ≡ Some shape
shape_alone true o shape e = absurd (none-some shape e)
shape_alone false o shape e = e

pub aligned_shape : (x : UnitRow) (shape : Shape) → IsLawful x.meaning → unit_shape x ≡ Some shape → 0 < shape.align
aligned_shape x shape l e = aligned_of (x.meaning.shape x.live) shape (l.shape x.live) (shape_alone (is_alias x) (x.meaning.shape x.live) shape e)
