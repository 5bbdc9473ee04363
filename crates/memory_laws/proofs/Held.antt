-- Memory holds the image of each unit that is done.
use Rattle.std.proofs.Common.{◌≡◌, ℕ, zero, suc, ◌+◌, ◌-◌, ◌<◌, ◌≤◌, Bool, true, false, ◌&&◌, ◌||◌, nat_le, List, [], ◌∷◌, length, slice_get, ◌⊎◌, inl, inr, refl, ap, ◌∙◌, arith, Option, Some, None, option_map, unwrap_or, is_some}
use Rattle.std.specs.Prelude.{option_and_then}
use Rattle.std.specs.Bool.{if◌then◌else◌}
use Rattle.std.proofs.lemmas.Bool.{and_from, and_parts, le-leb, leb-true}
use Rattle.std.proofs.lemmas.Option.{none-some, same_Some}
use Rattle.link_model.proofs.Writes.{listed_length}
use Rattle.orc_ids.specs.declared.place.Shape.{Shape}
use Rattle.closure_laws.specs.Bound.{wants_base}
use Rattle.link_model.specs.Image.{image_bytes, listed}
use Rattle.link_model.specs.Layout.{layout_of, unit_need}
use Rattle.link_model.specs.declared.graph.LinkGraph.{LinkGraph}
use Rattle.session_laws.proofs.Declared.{none_past}
use Rattle.session_laws.specs.Placements.{AreApart}
use Rattle.session_model.specs.Lists.{first_some, or_else}
use Rattle.session_model.specs.Meaning.{Meaning}
use Rattle.session_model.specs.Memory.{is_done, memory, unit_byte, unit_image}
use Rattle.session_model.specs.Plain.{Plain, UnitRow, placement, unit_shape}
use Rattle.session_model.specs.declared.rows.Range.{Range}
use Rattle.session_model.specs.declared.rows.UnitPhase.TheVariants as stage
use Rattle.session_units.specs.Meaning.{addresses}
use Rattle.memory_laws.specs.Closures.{AreObjects, IsGraphUnit, IsObject, NeedsNoMemory}
use Rattle.memory_laws.proofs.Units.{graph_there}

-- Lists of bytes

listed_at : (at n k : ℕ) (bytes : ℕ → ℕ) → k < n → slice_get (listed at n bytes) k ≡ Some (bytes (at + k))
listed_at at zero k bytes lt = absurd (omega (arith, lt))
listed_at at (suc n) zero bytes lt = ap (λ (i : ℕ). Some (bytes i)) (omega arith)
listed_at at (suc n) (suc k) bytes lt = let next : at + 1 + k ≡ at + suc k = omega arith in listed_at (at + 1) n k bytes (omega (arith, lt)) ∙ ap (λ (i : ℕ). Some (bytes i)) next

-- The range of a graph's unit

abbrev range_by : Meaning → UnitRow → Option Range
range_by v x = option_and_then (λ base. option_map (λ (shape : Shape). record { base = base; need = shape.need }) (if is_some v.source then None else v.shape x.live)) x.base

abbrev range_at : LinkGraph → UnitRow → ℕ → Range
range_at g x base = record { base = base; need = unit_need g x.live }

-- where it has a base, it has a range there
pub range_is : (x : UnitRow) (g : LinkGraph) → IsGraphUnit x.meaning g → placement x ≡ option_map (range_at g x) x.base
range_is x g is = ap (λ (v : Meaning). range_by v x) is.is ∙ by x.base
  where
    by : (o : Option ℕ) → option_and_then (λ base. Some (range_at g x base)) o ≡ option_map (range_at g x) o
    by None = refl
    by (Some n) = refl

-- and it wants one
pub wants_one : (x : UnitRow) (g : LinkGraph) → IsGraphUnit x.meaning g → wants_base x ≡ true
wants_one x g is = ap (λ (v : Meaning). is_some (if is_some v.source then None else v.shape x.live) || is_some v.source) is.is

abbrev unit_bytes : UnitRow → LinkGraph → ℕ → ℕ
unit_bytes x g = image_bytes g (layout_of g x.live) (unwrap_or x.base 0) (addresses (unwrap_or x.bound []))

image_is : (x : UnitRow) (g : LinkGraph) → IsGraphUnit x.meaning g → unit_image x ≡ listed 0 (unit_need g x.live) (unit_bytes x g)
image_is x g is = ap (λ (v : Meaning). v.image x.live (unwrap_or x.base 0) (unwrap_or x.bound [])) is.is

-- What a unit holds at an address

abbrev byte_in : ℕ → UnitRow → Range → Option ℕ
byte_in address x range = if is_done x.phase && nat_le range.base address then slice_get (unit_image x) (address - range.base) else None

held_in : (address : ℕ) (x : UnitRow) (range : Range) → x.phase ≡ stage.Done → range.base ≤ address → byte_in address x range ≡ slice_get (unit_image x) (address - range.base)
held_in address x range done le =
    ap (λ (t : Bool). if t then slice_get (unit_image x) (address - range.base) else None)
    (and_from (is_done x.phase) (nat_le range.base address) (ap is_done done) (le-leb range.base address le))

-- its own byte
unit_holds : (x : UnitRow) (g : LinkGraph) (base place : ℕ) → IsGraphUnit x.meaning g → x.phase ≡ stage.Done → x.base ≡ Some base → place < unit_need g x.live → unit_byte (base + place) x ≡ Some (unit_bytes x g place)
unit_holds x g base place is done at lt =
    let back : base + place - base ≡ place = omega arith in
    let first : 0 + place ≡ place = omega arith in
    ap (option_and_then (byte_in (base + place) x)) (range_is x g is ∙ ap (option_map (range_at g x)) at)
    ∙ held_in (base + place) x (range_at g x base) done (omega arith)
    ∙ ap (slice_get (unit_image x)) back
    ∙ ap (λ (bytes : List ℕ). slice_get bytes place) (image_is x g is)
    ∙ listed_at 0 (unit_need g x.live) place (unit_bytes x g) lt
    ∙ ap (λ (i : ℕ). Some (unit_bytes x g i)) first

-- none off its range
past_range : (address : ℕ) (x : UnitRow) (g : LinkGraph) (base : ℕ) (t : Bool) → IsGraphUnit x.meaning g → (nat_le base address ≡ true → base + unit_need g x.live ≤ address) → (is_done x.phase && nat_le base address) ≡ t → (if t then slice_get (unit_image x) (address - base) else None) ≡ None
past_range address x g base true is off e =
    let le = (and_parts (is_done x.phase) (nat_le base address) e).1 in
    none_past (unit_image x) (address - base) (omega (arith, off le, ap length (image_is x g is), listed_length 0 (unit_need g x.live) (unit_bytes x g)))
past_range address x g base false is off e = refl

holds_none : (address : ℕ) (x : UnitRow) (g : LinkGraph) (o : Option ℕ) → IsGraphUnit x.meaning g → ((base : ℕ) → o ≡ Some base → nat_le base address ≡ true → base + unit_need g x.live ≤ address) → option_and_then (byte_in address x) (option_map (range_at g x) o) ≡ None
holds_none address x g None is off = refl
holds_none address x g (Some base) is off = past_range address x g base (is_done x.phase && nat_le base address) is (off base refl) refl

-- another unit holds nothing there
other_holds : (m : Plain) (u v place base : ℕ) (x y : UnitRow) (g k : LinkGraph) → AreApart m.units → IsGraphUnit x.meaning g → IsGraphUnit y.meaning k → slice_get m.units u ≡ Some x → slice_get m.units v ≡ Some y → (u ≡ v → ⊥) → x.base ≡ Some base → place < unit_need g x.live → unit_byte (base + place) y ≡ None
other_holds m u v place base x y g k apart is other there here differ at lt =
    ap (option_and_then (byte_in (base + place) y)) (range_is y k other)
    ∙ holds_none (base + place) y k y.base other (λ start begins le.
    off start (leb-true start (base + place) le)
    (apart.apart u v x y (range_at g x base) (range_at k y start) there here differ (range_is x g is ∙ ap (option_map (range_at g x)) at) (range_is y k other ∙ ap (option_map (range_at k y)) begins)))
  where
    off : (start : ℕ) → start ≤ base + place → (base + unit_need g x.live ≤ start) ⊎ (start + unit_need k y.live ≤ base) → start + unit_need k y.live ≤ base + place
    off start le (inl before) = absurd (omega (arith, le, before, lt))
    off start le (inr after) = omega (arith, after)

either_none : (t : Bool) → ◌≡◌ {A = Option Shape} (if t then None else None) None
either_none true = refl
either_none false = refl

-- a unit without memory has no range
no_range : (address : ℕ) (x : UnitRow) → NeedsNoMemory x.meaning → unit_byte address x ≡ None
no_range address x bare = ap (option_and_then (byte_in address x)) (by x.base)
  where
    shapeless : unit_shape x ≡ None
    shapeless = ap (λ (o : Option Shape). if is_some x.meaning.source then None else o) (bare.shape x.live) ∙ either_none (is_some x.meaning.source)

    by : (o : Option ℕ) → ◌≡◌ {A = Option Range} (option_and_then (λ base. option_map (λ (shape : Shape). record { base = base; need = shape.need }) (unit_shape x)) o) None
    by None = refl
    by (Some base) = ap (option_map (λ (shape : Shape). record { base = base; need = shape.need })) shapeless

any_other_holds : (m : Plain) (u v place base : ℕ) (x y : UnitRow) (g k : LinkGraph) → AreApart m.units → IsGraphUnit x.meaning g → slice_get m.units u ≡ Some x → slice_get m.units v ≡ Some y → (u ≡ v → ⊥) → x.base ≡ Some base → place < unit_need g x.live → IsObject y.meaning k → unit_byte (base + place) y ≡ None
any_other_holds m u v place base x y g k apart is there here differ at lt (inl other) = other_holds m u v place base x y g k apart is other there here differ at lt
any_other_holds m u v place base x y g k apart is there here differ at lt (inr bare) = no_range (base + place) y bare.0

-- The memory

-- what one element alone has to choose is what is chosen
only_one : {X Y : Type 0} (f : X → Option Y) (xs : List X) (u : ℕ) (x : X) (y : Y) → slice_get xs u ≡ Some x → f x ≡ Some y → ((v : ℕ) (z : X) → slice_get xs v ≡ Some z → (u ≡ v → ⊥) → f z ≡ None) → first_some f xs ≡ Some y
only_one f [] u x y e is others = absurd (none-some x e)
only_one f (z ∷ zs) zero x y e is others = ap (λ o. or_else o (first_some f zs)) (ap f (same_Some z x e) ∙ is)
only_one f (z ∷ zs) (suc u) x y e is others =
    ap (λ o. or_else o (first_some f zs)) (others 0 z refl (λ q. omega (arith, q)))
    ∙ only_one f zs u x y e is (λ v w there differ. others (suc v) w there (λ q. differ (omega (arith, q))))

-- memory has a unit's byte
pub memory_holds : (m : Plain) (graphs : List LinkGraph) (u base place : ℕ) (x : UnitRow) (g : LinkGraph) → AreApart m.units → AreObjects m.units graphs → IsGraphUnit x.meaning g → slice_get m.units u ≡ Some x → x.phase ≡ stage.Done → x.base ≡ Some base → place < unit_need g x.live → memory m (base + place) ≡ Some (unit_bytes x g place)
memory_holds m graphs u base place x g apart are is there done at lt =
    only_one (unit_byte (base + place)) m.units u x (unit_bytes x g place) there (unit_holds x g base place is done at lt)
    (λ v y here differ. let k = graph_there m.units graphs v y are here in any_other_holds m u v place base x y g k.0 apart is there here differ at lt k.2)
