-- What a space keeps stays tied as a placement is added, filled or taken away.
use Rattle.std.proofs.Common.{◌≡◌, ◌^◌, zero, suc, ℕ, false, Option, Some, None, ◌+◌, ◌<◌, ◌≤◌, List, [], ◌∷◌, ◌++◌, length, refl, ap, sym, ◌∙◌, cond, subst, arith, length-append}
use Rattle.std.specs.Prelude.{find, option_map, nat_eq, IsSome, IsSomeAnd, Result, Ok, Err, OnOk, is_err}
use Rattle.std.specs.Int.{IsPowerOfTwo}
use Rattle.std.specs.Ordering.{nat_cmp}
use Rattle.std.specs.HashMap.{get}
use Rattle.std.specs.BTreeMap.{insert_entry, is_at}
use Rattle.std.specs.Map.{values_of, lookup, set_value, remove_entry}
use Rattle.std.proofs.lemmas.List.{length-map}
use Rattle.std.proofs.lemmas.Bool.{eqb-true}
use Rattle.orc_ids.specs.declared.ids.UnitId.{UnitId}
use Rattle.orc_ids.specs.declared.place.Shape.{Shape}
use Rattle.orc_ids.specs.declared.limits.TheConstants.{CODE_START, CODE_END}
use Rattle.code_memory.specs.declared.gaps.Gap.{Gap}
use Rattle.code_memory.specs.declared.placement.Placement.{Placement}
use Rattle.code_memory.specs.Gaps.{between, end_of, gaps_below, last_end, first_fit, with_rest}
use Rattle.code_memory.specs.Kept.{Bases, keyed, AreKnown, AreGaps, IsCut, IsTied}
use Rattle.code_memory.specs.Places.{placement_of, is_of, with_range, with_bytes, without, AreBetween, AreLaidOut, IsFull}
use Rattle.code_memory.proofs.Between.{few_gaps, apart-insert, gaps-append, last_from, last_to}
use Rattle.code_memory.proofs.Entries.{values-keyed, among-at, insert-at, lookup-at, set-at, remove-at}
use Rattle.code_memory.proofs.Fits.{IsFit, IsAnswer, answer, full}
use Rattle.code_memory.proofs.Known.{known-insert, known-remove, known-set}
use Rattle.code_memory.proofs.LaidOut.{with, laid_out-insert, laid_out-remove, laid_out-set}
use Rattle.code_memory.proofs.Units.{IsOwned, owned, fill-owned, without-owned}

tie : (placed : List (ℕ × Placement)) (ps : List Placement) (bases : Bases) (gaps : List Gap) (room last : ℕ) → placed ≡ keyed ps → AreKnown bases ps → AreGaps gaps last ps → (0 < length ps → length ps < room) → AreLaidOut ps → IsTied placed bases gaps room last
tie placed ps bases gaps room last is known filled spare laid =
    let same : values_of placed ≡ ps = ap values_of is ∙ values-keyed ps in
    let long : length placed ≡ length ps = ap length is ∙ length-map ps (λ p. (p.base, p)) in
    record {
      by_base = is ∙ ap keyed (sym same);
      known = subst (AreKnown bases) (sym same) known;
      filled = subst (AreGaps gaps last) (sym same) filled;
      spare = subst (λ n. 0 < n → n < room) (sym long) spare;
      laid_out = subst AreLaidOut (sym same) laid;
    }

pub count_is : (placed : List (ℕ × Placement)) → length (values_of placed) ≡ length placed
count_is placed = length-map placed (λ e. e.1)

-- there are no more gaps than entries
pub gaps_few : (placed : List (ℕ × Placement)) (bases : Bases) (gaps : List Gap) (room last : ℕ) → IsTied placed bases gaps room last → length gaps ≤ length placed
gaps_few placed bases gaps room last tied =
    omega (arith, ap length tied.filled.below, few_gaps CODE_START (values_of placed), count_is placed)

-- a unit that is placed: its base is known, and its placement stands there
pub record IsHere (u : UnitId) (placed : List (ℕ × Placement)) (bases : Bases) (p : Placement) : Type 0 where
  pub known : get nat_eq bases u.0 ≡ Some p.base
  pub there : lookup (is_at (nat_cmp p.base)) placed ≡ Some p
  pub owned : IsOwned u (values_of placed) p

here : (u : UnitId) (placed : List (ℕ × Placement)) (bases : Bases) (gaps : List Gap) (room last : ℕ) (p : Placement) → IsTied placed bases gaps room last → placement_of (values_of placed) u ≡ Some p → IsHere u placed bases p
here u placed bases gaps room last p tied found =
    let o = owned u (values_of placed) p tied.laid_out.distinct found in
    record {
      known = tied.known.at u ∙ ap (λ o. option_map (λ (q : Placement). q.base) o) found;
      there = ap (lookup (is_at (nat_cmp p.base))) tied.by_base ∙ ap (λ ps. lookup (is_at (nat_cmp p.base)) (keyed ps)) o.split
          ∙ lookup-at CODE_START o.front p o.back CODE_END (subst (λ ps. AreBetween CODE_START ps CODE_END) o.split tied.laid_out.apart);
      owned = o;
    }

-- the placement of a unit that has one, and what is known of it
pub record IsReady (u : UnitId) (placed : List (ℕ × Placement)) (bases : Bases) (P : Placement → Type 0) : Type 0 where
  pub p : Placement
  pub is : IsHere u placed bases p
  pub fact : P p

holder : (o : Option Placement) (P : Placement → Type 0) → IsSomeAnd o P → (p : Placement) × (o ≡ Some p) × P p
holder None P h = absurd h
holder (Some p) P h = (p, refl, h)

pub ready : (u : UnitId) (placed : List (ℕ × Placement)) (bases : Bases) (gaps : List Gap) (room last : ℕ) (m : List Placement) (P : Placement → Type 0) → IsTied placed bases gaps room last → values_of placed ≡ m → IsSomeAnd (placement_of m u) P → IsReady u placed bases P
ready u placed bases gaps room last m P tied is h =
    let found = holder (placement_of (values_of placed) u) P (subst (λ ps. IsSomeAnd (placement_of ps u) P) (sym is) h) in
    record { p = found.0; is = here u placed bases gaps room last found.0 tied found.1; fact = found.2 }

some_and : (o : Option Placement) → IsSome o → IsSomeAnd o (λ p. Unit {0})
some_and None h = absurd cc
some_and (Some p) h = tt

pub ready_some : (u : UnitId) (placed : List (ℕ × Placement)) (bases : Bases) (gaps : List Gap) (room last : ℕ) (m : List Placement) → IsTied placed bases gaps room last → values_of placed ≡ m → IsSome (placement_of m u) → IsReady u placed bases (λ p. Unit {0})
ready_some u placed bases gaps room last m tied is h = ready u placed bases gaps room last m (λ p. Unit {0}) tied is (some_and (placement_of m u) h)

-- a placement gets its bytes
gaps-set : (low : ℕ) (xs : List Placement) (p : Placement) (bytes : Option (List ℕ)) (ys : List Placement) → gaps_below low (xs ++ with p bytes ∷ ys) ≡ gaps_below low (xs ++ p ∷ ys)
gaps-set low [] p bytes ys = refl
gaps-set low (x ∷ xs) p bytes ys = ap (λ gs. between low x.base ++ gs) (gaps-set (end_of x) xs p bytes ys)

last-set : (low : ℕ) (xs : List Placement) (p : Placement) (bytes : Option (List ℕ)) (ys : List Placement) → last_end low (xs ++ with p bytes ∷ ys) ≡ last_end low (xs ++ p ∷ ys)
last-set low [] p bytes ys = refl
last-set low (x ∷ xs) p bytes ys = last-set (end_of x) xs p bytes ys

pub filled_is : (u : UnitId) (bytes : List ℕ) (placed now : List (ℕ × Placement)) (bases : Bases) (gaps : List Gap) (room last : ℕ) (p : Placement) → IsTied placed bases gaps room last → IsHere u placed bases p →
    now ≡ set_value (is_at (nat_cmp p.base)) placed (record p { bytes = Some bytes }) → (o : IsOwned u (values_of placed) p) → now ≡ keyed (o.front ++ with p (Some bytes) ∷ o.back)
filled_is u bytes placed now bases gaps room last p tied is written o =
    written ∙ ap (λ es. set_value (is_at (nat_cmp p.base)) es (with p (Some bytes))) (tied.by_base ∙ ap keyed o.split)
    ∙ set-at CODE_START o.front p (with p (Some bytes)) o.back CODE_END (subst (λ ps. AreBetween CODE_START ps CODE_END) o.split tied.laid_out.apart) refl

pub tied_fill : (u : UnitId) (bytes : List ℕ) (placed now : List (ℕ × Placement)) (bases : Bases) (gaps : List Gap) (room last : ℕ) (p : Placement) → IsTied placed bases gaps room last → IsHere u placed bases p → length bytes ≡ p.shape.need →
    now ≡ set_value (is_at (nat_cmp p.base)) placed (record p { bytes = Some bytes }) → IsTied now bases gaps room last
tied_fill u bytes placed now bases gaps room last p tied is long written =
    let o = is.owned in
    let count : length (values_of placed) ≡ length placed = count_is placed in
    tie now (o.front ++ with p (Some bytes) ∷ o.back) bases gaps room last (filled_is u bytes placed now bases gaps room last p tied is written o)
    (known-set bases o.front p (Some bytes) o.back (subst (AreKnown bases) o.split tied.known))
    (record {
      below = tied.filled.below ∙ ap (gaps_below CODE_START) o.split ∙ sym (gaps-set CODE_START o.front p (Some bytes) o.back);
      ends = tied.filled.ends ∙ ap (last_end CODE_START) o.split ∙ sym (last-set CODE_START o.front p (Some bytes) o.back);
    })
    (λ some. let few : length (o.front ++ with p (Some bytes) ∷ o.back) ≡ length placed = omega (arith, count, ap length o.split, length-append o.front (p ∷ o.back), length-append o.front (with p (Some bytes) ∷ o.back)) in
    let more : 0 < length placed = omega (arith, few, some) in omega (arith, few, tied.spare more))
    (laid_out-set o.front p bytes o.back (subst AreLaidOut o.split tied.laid_out) long)

pub values_filled : (u : UnitId) (bytes : List ℕ) (placed now : List (ℕ × Placement)) (bases : Bases) (gaps : List Gap) (room last : ℕ) (p : Placement) → IsTied placed bases gaps room last → (is : IsHere u placed bases p) →
    now ≡ set_value (is_at (nat_cmp p.base)) placed (record p { bytes = Some bytes }) → values_of now ≡ is.owned.front ++ with p (Some bytes) ∷ is.owned.back
values_filled u bytes placed now bases gaps room last p tied is written =
    ap values_of (filled_is u bytes placed now bases gaps room last p tied is written is.owned) ∙ values-keyed (is.owned.front ++ with p (Some bytes) ∷ is.owned.back)

pub shown_fill : (u : UnitId) (bytes : List ℕ) (placed now : List (ℕ × Placement)) (bases : Bases) (gaps : List Gap) (room last : ℕ) (p : Placement) (m : List Placement) → IsTied placed bases gaps room last → values_of placed ≡ m → IsHere u placed bases p →
    now ≡ set_value (is_at (nat_cmp p.base)) placed (record p { bytes = Some bytes }) → values_of now ≡ with_bytes m u bytes
shown_fill u bytes placed now bases gaps room last p m tied shown is written =
    values_filled u bytes placed now bases gaps room last p tied is written
    ∙ sym (fill-owned u bytes (values_of placed) p is.owned) ∙ ap (λ ps. with_bytes ps u bytes) shown

-- a placement is taken away
pub cut_is : (u : UnitId) (placed : List (ℕ × Placement)) (bases : Bases) (gaps : List Gap) (room last : ℕ) (p : Placement) (base end : ℕ) → IsTied placed bases gaps room last → (is : IsHere u placed bases p) → base ≡ p.base → end ≡ end_of p → IsCut is.owned.front p is.owned.back base end
cut_is u placed bases gaps room last p base end tied is start stop =
    record { starts = start; ends = stop; apart = subst (λ ps. AreBetween CODE_START ps CODE_END) is.owned.split tied.laid_out.apart }

pub gaps_are : (u : UnitId) (placed : List (ℕ × Placement)) (bases : Bases) (gaps : List Gap) (room last : ℕ) (p : Placement) → IsTied placed bases gaps room last → (is : IsHere u placed bases p) → AreGaps gaps last (is.owned.front ++ p ∷ is.owned.back)
gaps_are u placed bases gaps room last p tied is = subst (AreGaps gaps last) is.owned.split tied.filled

taken_is : (u : UnitId) (placed now : List (ℕ × Placement)) (bases : Bases) (gaps : List Gap) (room last : ℕ) (p : Placement) → IsTied placed bases gaps room last → (o : IsOwned u (values_of placed) p) → now ≡ remove_entry (is_at (nat_cmp p.base)) placed → now ≡ keyed (o.front ++ o.back)
taken_is u placed now bases gaps room last p tied o written =
    written ∙ ap (remove_entry (is_at (nat_cmp p.base))) (tied.by_base ∙ ap keyed o.split) ∙ remove-at CODE_START o.front p o.back CODE_END (subst (λ ps. AreBetween CODE_START ps CODE_END) o.split tied.laid_out.apart)

pub tied_free : (u : UnitId) (placed now : List (ℕ × Placement)) (bases next : Bases) (gaps left : List Gap) (room wide last top : ℕ) (p : Placement) → IsTied placed bases gaps room last → (is : IsHere u placed bases p) → now ≡ remove_entry (is_at (nat_cmp p.base)) placed →
    ((v : ℕ) → get nat_eq next v ≡ cond (nat_eq u.0 v) None (get nat_eq bases v)) → AreGaps left top (is.owned.front ++ is.owned.back) → room ≤ wide → IsTied now next left wide top
tied_free u placed now bases next gaps left room wide last top p tied is written dropped filled wider =
    let o = is.owned in
    let same : u.0 ≡ p.unit.0 = sym (eqb-true p.unit.0 u.0 o.own) in
    let none : (xs : List Placement) → find (is_of u) xs ≡ None → find (is_of p.unit) xs ≡ None = λ xs h. subst (λ k. find (λ (q : Placement). nat_eq q.unit.0 k) xs ≡ None) same h in
    let count : length (values_of placed) ≡ length placed = count_is placed in
    tie now (o.front ++ o.back) next left wide top (taken_is u placed now bases gaps room last p tied o written)
    (known-remove bases next o.front p o.back (subst (AreKnown bases) o.split tied.known) (none o.front o.before) (none o.back o.after) (λ v. dropped v ∙ ap (λ k. cond (nat_eq k v) None (get nat_eq bases v)) same))
    filled
    (λ some. let more : length placed ≡ length (o.front ++ o.back) + 1 = omega (arith, count, ap length o.split, length-append o.front (p ∷ o.back), length-append o.front o.back) in
    let any : 0 < length placed = omega (arith, more) in omega (arith, more, tied.spare any, wider))
    (laid_out-remove o.front p o.back (subst AreLaidOut o.split tied.laid_out))

pub values_left : (u : UnitId) (placed now : List (ℕ × Placement)) (bases : Bases) (gaps : List Gap) (room last : ℕ) (p : Placement) → IsTied placed bases gaps room last → (is : IsHere u placed bases p) → now ≡ remove_entry (is_at (nat_cmp p.base)) placed →
    values_of now ≡ is.owned.front ++ is.owned.back
values_left u placed now bases gaps room last p tied is written =
    ap values_of (taken_is u placed now bases gaps room last p tied is.owned written) ∙ values-keyed (is.owned.front ++ is.owned.back)

pub shown_free : (u : UnitId) (placed now : List (ℕ × Placement)) (bases : Bases) (gaps : List Gap) (room last : ℕ) (p : Placement) (m : List Placement) → IsTied placed bases gaps room last → values_of placed ≡ m → (is : IsHere u placed bases p) → now ≡ remove_entry (is_at (nat_cmp p.base)) placed → values_of now ≡ without m u
shown_free u placed now bases gaps room last p m tied shown is written =
    values_left u placed now bases gaps room last p tied is written
    ∙ sym (without-owned u (values_of placed) p is.owned) ∙ ap (λ ps. without ps u) shown

-- a base is found, or none is free
pub found : (gaps : List Gap) (last : ℕ) (ps : List Placement) (shape : Shape) (at base : ℕ) → AreLaidOut ps → AreGaps gaps last ps → 0 < shape.need → 0 < shape.align → first_fit shape 0 (with_rest gaps last) ≡ Some (at, base) → IsFit CODE_START ps shape 0 at base
found gaps last ps shape at base laid filled some align is =
    let e : first_fit shape 0 (with_rest (gaps_below CODE_START ps) (last_end CODE_START ps)) ≡ Some (at, base) =
    ap (λ l. first_fit shape 0 (with_rest (gaps_below CODE_START ps) l)) (sym filled.ends) ∙ ap (λ gs. first_fit shape 0 (with_rest gs last)) (sym filled.below) ∙ is in
    subst (IsAnswer CODE_START ps shape 0) e (answer CODE_START ps shape 0 laid.apart some align)

pub missed : (gaps : List Gap) (last : ℕ) (ps : List Placement) (shape : Shape) → AreLaidOut ps → AreGaps gaps last ps → 0 < shape.need → 0 < shape.align → first_fit shape 0 (with_rest gaps last) ≡ None → IsFull ps shape
missed gaps last ps shape laid filled some align is =
    let e : first_fit shape 0 (with_rest (gaps_below CODE_START ps) (last_end CODE_START ps)) ≡ None =
    ap (λ l. first_fit shape 0 (with_rest (gaps_below CODE_START ps) l)) (sym filled.ends) ∙ ap (λ gs. first_fit shape 0 (with_rest gs last)) (sym filled.below) ∙ is in
    full ps shape (subst (IsAnswer CODE_START ps shape 0) e (answer CODE_START ps shape 0 laid.apart some align))

-- a placement is added where a base was found
abbrev pub new : UnitId → Shape → ℕ → Placement
new u shape base = record { unit = u; base = base; shape = shape; bytes = None }

pub fit_cut : (ps : List Placement) (u : UnitId) (shape : Shape) (at base end : ℕ) → AreLaidOut ps → 0 < shape.need → end ≡ base + shape.need → (fit : IsFit CODE_START ps shape 0 at base) → IsCut fit.front (new u shape base) fit.back base end
fit_cut ps u shape at base end laid some stop fit =
    record { starts = refl; ends = stop; apart = apart-insert CODE_START fit.front (new u shape base) fit.back CODE_END (subst (λ xs. AreBetween CODE_START xs CODE_END) fit.split laid.apart) fit.above some fit.below }

pub shown_place : (u : UnitId) (shape : Shape) (placed now : List (ℕ × Placement)) (bases : Bases) (gaps : List Gap) (room last at base end : ℕ) (m : List Placement) → IsTied placed bases gaps room last → values_of placed ≡ m → (fit : IsFit CODE_START (values_of placed) shape 0 at base) →
    IsCut fit.front (new u shape base) fit.back base end → now ≡ insert_entry nat_cmp placed base (new u shape base) → (now ≡ keyed (fit.front ++ new u shape base ∷ fit.back)) × (values_of now ≡ with_range m u shape base)
shown_place u shape placed now bases gaps room last at base end m tied shown fit cut written =
    let is : now ≡ keyed (fit.front ++ new u shape base ∷ fit.back) = written ∙ ap (λ es. insert_entry nat_cmp es base (new u shape base)) (tied.by_base ∙ ap keyed fit.split) ∙ insert-at CODE_START fit.front (new u shape base) fit.back CODE_END cut.apart in
    (is, ap values_of is ∙ values-keyed (fit.front ++ new u shape base ∷ fit.back) ∙ sym (among-at CODE_START fit.front (new u shape base) fit.back CODE_END cut.apart) ∙ ap (λ ps. with_range ps u shape base) (sym fit.split ∙ shown))

pub tied_place : (u : UnitId) (shape : Shape) (placed now : List (ℕ × Placement)) (bases next : Bases) (gaps left : List Gap) (room wide last top at base end : ℕ) → IsTied placed bases gaps room last → placement_of (values_of placed) u ≡ None → (fit : IsFit CODE_START (values_of placed) shape 0 at base) →
    IsCut fit.front (new u shape base) fit.back base end → now ≡ keyed (fit.front ++ new u shape base ∷ fit.back) → ((v : ℕ) → get nat_eq next v ≡ cond (nat_eq u.0 v) (Some base) (get nat_eq bases v)) →
    AreGaps left top (fit.front ++ new u shape base ∷ fit.back) → length placed + 1 < wide → IsTied now next left wide top
tied_place u shape placed now bases next gaps left room wide last top at base end tied absent fit cut is added filled spare =
    let count : length (values_of placed) ≡ length placed = count_is placed in
    let none : find (is_of u) (fit.front ++ fit.back) ≡ None = subst (λ ps. find (is_of u) ps ≡ None) fit.split absent in
    tie now (fit.front ++ new u shape base ∷ fit.back) next left wide top is
    (known-insert bases next fit.front (new u shape base) fit.back (subst (AreKnown bases) fit.split tied.known) none added)
    filled
    (λ some. omega (arith, spare, count, ap length fit.split, length-append fit.front (new u shape base ∷ fit.back), length-append fit.front fit.back))
    (laid_out-insert fit.front (new u shape base) fit.back (subst AreLaidOut fit.split tied.laid_out) cut.apart (record { aligned = fit.aligned; full = tt }) none)

-- where a unit is placed, there is an entry
pub some_placed : (u : UnitId) (placed : List (ℕ × Placement)) (bases : Bases) (p : Placement) → IsHere u placed bases p → 0 < length placed
some_placed u [] bases p is = let no = is.there in absurd cc
some_placed u (e ∷ placed) bases p is = omega arith

pub power_some : (n : ℕ) → IsPowerOfTwo n → 0 < n
power_some n power = subst (λ k. 0 < k) (sym power.1) (pow_pos power.0)
  where
    pow_pos : (k : ℕ) → 0 < 2 ^ k
    pow_pos zero = omega arith
    pow_pos (suc k) = omega (arith, pow_pos k)

-- a range that was found ends in code memory, and its gap is one of those
pub fit_within : (ps : List Placement) (shape : Shape) (gaps : List Gap) (last at base : ℕ) → AreLaidOut ps → AreGaps gaps last ps → (fit : IsFit CODE_START ps shape 0 at base) → (base + shape.need ≤ CODE_END) × (at ≡ length (gaps_below CODE_START fit.front)) × (at ≤ length gaps)
fit_within ps shape gaps last at base laid filled fit =
    let place : at ≡ length (gaps_below CODE_START fit.front) = omega (arith, fit.place) in (
      omega (arith, last_from (base + shape.need) fit.back CODE_END fit.below, last_to (base + shape.need) fit.back CODE_END fit.below),
      place,
      omega (arith, place, ap length filled.below, ap (λ xs. length (gaps_below CODE_START xs)) fit.split, ap length (gaps-append CODE_START fit.front fit.back), length-append (gaps_below CODE_START fit.front) (gaps_below (last_end CODE_START fit.front) fit.back)),
    )

-- what a call that didn't fail ensures
pub if_not_err : {T E : Type 0} (r : Result T E) (P : Type 0) → OnOk r P → is_err r ≡ false → P
if_not_err (Ok x) P h e = h
if_not_err (Err x) P h e = absurd cc
