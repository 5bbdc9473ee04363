-- What code memory has at an address is the session's memory.
use Rattle.std.proofs.Common.{◌≡◌, ℕ, suc, ◌+◌, ◌-◌, ◌<◌, ◌≤◌, Bool, true, false, ◌&&◌, ◌==◌, cond, nat_lt, nat_le, List, [], ◌∷◌, length, slice_get, ◌⊎◌, inl, inr, subst, sym, refl, ap, ◌∙◌, Option, Some, None, option_map, arith}
use Rattle.std.specs.Bool.{if◌then◌else◌}
use Rattle.std.specs.Prelude.{find, option_and_then, Result, Ok, Err, IfOk}
use Rattle.std.proofs.lemmas.Bool.{cases_Bool, and_parts, eqb-true, eq-eqb, leb-true, le-leb, ltb-false}
use Rattle.std.proofs.lemmas.Option.{none-some, same_Some}
use Rattle.list_laws.proofs.Lists.{missing_past}
use Rattle.session_model.proofs.Choices.{none_chosen}
use Rattle.orc_ids.specs.declared.ids.UnitId.{UnitId}
use Rattle.orc_ids.specs.declared.limits.TheConstants.{CODE_START, CODE_END}
use Rattle.orc_ids.specs.declared.place.Shape.{Shape}
use Rattle.session_model.specs.Lists.{first_some, or_else}
use Rattle.session_model.specs.Plain.{Plain, UnitRow, unit_shape}
use Rattle.session_model.specs.Memory.{is_done, unit_image, unit_byte, memory}
use Rattle.session_model.specs.declared.rows.Range.{Range}
use Rattle.session_laws.proofs.Declared.{element_below, chosen}
use Rattle.code_memory.specs.Mapped.{byte_at}
use Rattle.code_memory.specs.Places.{placement_of, is_of, before, deposits, IsWhole, AreWhole, AreDistinct, AreLaidOut}
use Rattle.code_memory.specs.declared.placement.Placement.{Placement}
use Rattle.code_memory.specs.declared.image.Segment.{Segment}
use Rattle.code_memory.proofs.Deposited.{mapped_at}
use Rattle.session_parts.specs.Stored.{stored, range_at, AreStored}
use Rattle.session_steps.specs.Handed.{IsMemory}

-- The first element that chooses something

first_parts : {X Y : Type 0} (f : X → Option Y) (xs : List X) (y : Y) → first_some f xs ≡ Some y → (k : ℕ) × (x : X) × (slice_get xs k ≡ Some x) × (f x ≡ Some y)
first_parts f [] y e = absurd (none-some y e)
first_parts {X} {Y} f (x ∷ xs) y e = split (f x) refl e (first_parts f xs y)
  where
    split : (o : Option Y) → f x ≡ o → or_else o (first_some f xs) ≡ Some y → (first_some f xs ≡ Some y → (k : ℕ) × (z : X) × (slice_get xs k ≡ Some z) × (f z ≡ Some y)) → (k : ℕ) × (z : X) × (slice_get (x ∷ xs) k ≡ Some z) × (f z ≡ Some y)
    split None t h rest = let p = rest h in (suc p.0, p.1, p.2, p.3)
    split (Some z) t h rest = (0, x, refl, t ∙ h)

-- A unit's byte

-- a finished unit that has a range has this byte there
record Has (x : UnitRow) (address byte : ℕ) : Type 0 where
  base : ℕ
  shape : Shape
  placed : x.base ≡ Some base
  needs : unit_shape x ≡ Some shape
  finished : is_done x.phase ≡ true
  reached : base ≤ address
  there : slice_get (unit_image x) (address - base) ≡ Some byte

abbrev byte_in : UnitRow → ℕ → Range → Option ℕ
byte_in x address range = if is_done x.phase && nat_le range.base address then slice_get (unit_image x) (address - range.base) else None

abbrev pub bare_range : ℕ → Option Shape → Option Range
bare_range base shape = option_map (λ (s : Shape). record { base = base; need = s.need }) shape

has_byte : (x : UnitRow) (address byte : ℕ) → unit_byte address x ≡ Some byte → Has x address byte
has_byte x address byte e = split x.base refl (unit_shape x) refl e
  where
    split : (o : Option ℕ) → x.base ≡ o → (shape : Option Shape) → unit_shape x ≡ shape → option_and_then (byte_in x address) (option_and_then (λ base. bare_range base shape) o) ≡ Some byte → Has x address byte
    split None t shape its h = absurd (none-some byte h)
    split (Some base) t None its h = absurd (none-some byte h)
    split (Some base) t (Some shape) its h = chosen (λ o. o ≡ Some byte → Has x address byte) (is_done x.phase && nat_le base address) (slice_get (unit_image x) (address - base)) None
        (λ b g. let c = and_parts (is_done x.phase) (nat_le base address) b in record { base = base; shape = shape; placed = t; needs = its; finished = c.0; reached = leb-true base address c.1; there = g })
        (λ b g. absurd (none-some byte g)) h

byte_of : (x : UnitRow) (address byte : ℕ) → Has x address byte → unit_byte address x ≡ Some byte
byte_of x address byte h = ap (λ o. option_and_then (byte_in x address) (option_and_then (λ base. bare_range base (unit_shape x)) o)) h.placed
    ∙ (ap (λ s. option_and_then (byte_in x address) (bare_range h.base s)) h.needs
    ∙ (ap (λ b. if b && nat_le h.base address then slice_get (unit_image x) (address - h.base) else None) h.finished
    ∙ (ap (λ b. if b then slice_get (unit_image x) (address - h.base) else None) (le-leb h.base address h.reached) ∙ h.there)))

-- Its range

abbrev done_range : ℕ → UnitRow → ℕ → Shape → Placement
done_range u x base shape = record { unit = record { 0 = u }; base = base; shape = shape; bytes = Some (unit_image x) }

stored_done : (u : ℕ) (x : UnitRow) (base : ℕ) (shape : Shape) → x.base ≡ Some base → unit_shape x ≡ Some shape → is_done x.phase ≡ true → stored u x ≡ Some (done_range u x base shape)
stored_done u x base shape e its d = ap (λ o. option_and_then (λ base. option_map (range_at u x base) (unit_shape x)) o) e
    ∙ (ap (λ s. option_map (range_at u x base) s) its
    ∙ ap (λ b. Some (record { unit = record { 0 = u }; base = base; shape = shape; bytes = if b then Some (unit_image x) else None })) d)

-- what a range with bytes says of its unit
record OfDone (x : UnitRow) (q : Placement) (bytes : List ℕ) : Type 0 where
  based : x.base ≡ Some q.base
  needs : unit_shape x ≡ Some q.shape
  finished : is_done x.phase ≡ true
  image : unit_image x ≡ bytes

stored_parts : (u : ℕ) (x : UnitRow) (q : Placement) (bytes : List ℕ) → stored u x ≡ Some q → q.bytes ≡ Some bytes → OfDone x q bytes
stored_parts u x q bytes e full = split x.base refl (unit_shape x) refl e
  where
    filled : (b : Bool) → (if b then Some (unit_image x) else None) ≡ Some bytes → (b ≡ true) × (unit_image x ≡ bytes)
    filled true h = (refl, same_Some (unit_image x) bytes h)
    filled false h = absurd (none-some bytes h)

    split : (o : Option ℕ) → x.base ≡ o → (s : Option Shape) → unit_shape x ≡ s → option_and_then (λ base. option_map (range_at u x base) s) o ≡ Some q → OfDone x q bytes
    split None t s its h = absurd (none-some q h)
    split (Some base) t None its h = absurd (none-some q h)
    split (Some base) t (Some shape) its h =
        let same : range_at u x base shape ≡ q = same_Some (range_at u x base shape) q h in
        let f = filled (is_done x.phase) (ap (λ (r : Placement). r.bytes) same ∙ full) in
        record { based = t ∙ ap (λ (r : Placement). Some r.base) same; needs = its ∙ ap (λ (r : Placement). Some r.shape) same; finished = f.0; image = f.1 }

-- Deposits

found_whole : (u : UnitId) (ps : List Placement) (q : Placement) → AreWhole ps → find (is_of u) ps ≡ Some q → IsWhole q
found_whole u [] q w e = absurd (none-some q e)
found_whole u (p ∷ ps) q w e = chosen (λ o. o ≡ Some q → IsWhole q) (is_of u p) (Some p) (find (is_of u) ps) (λ b h. subst IsWhole (same_Some p q h) w.0) (λ b h. found_whole u ps q w.1 h) e

-- a placement has this byte there
record Deposited (ps : List Placement) (address byte : ℕ) : Type 0 where
  range : Placement
  bytes : List ℕ
  its : find (is_of range.unit) ps ≡ Some range
  filled : range.bytes ≡ Some bytes
  reached : range.base ≤ address
  there : slice_get bytes (address - range.base) ≡ Some byte

deposited_later : (p : Placement) (ps : List Placement) (address byte : ℕ) → find (is_of p.unit) ps ≡ None → Deposited ps address byte → Deposited (p ∷ ps) address byte
deposited_later p ps address byte none d = record { range = d.range; bytes = d.bytes; its = its (cases_Bool (is_of d.range.unit p)); filled = d.filled; reached = d.reached; there = d.there }
  where
    its : (is_of d.range.unit p ≡ true) ⊎ (is_of d.range.unit p ≡ false) → find (is_of d.range.unit) (p ∷ ps) ≡ Some (d.range)
    its (inl t) = absurd (none-some (d.range) (sym none ∙ (ap (λ n. find (λ (q : Placement). q.unit.0 == n) ps) (eqb-true p.unit.0 d.range.unit.0 t) ∙ d.its)))
    its (inr f) = ap (λ b. cond b (Some p) (find (is_of d.range.unit) ps)) f ∙ d.its

deposited : (ps : List Placement) (address byte : ℕ) → AreDistinct ps → byte_at (deposits ps) address ≡ Some byte → Deposited ps address byte
deposited [] address byte a e = absurd (none-some byte e)
deposited (p ∷ ps) address byte a e = split p.bytes refl e (deposited ps address byte a.1)
  where
    split : (o : Option (List ℕ)) → p.bytes ≡ o → byte_at (before p.base o (deposits ps)) address ≡ Some byte → (byte_at (deposits ps) address ≡ Some byte → Deposited ps address byte) → Deposited (p ∷ ps) address byte
    split None t h rest = deposited_later p ps address byte a.0 (rest h)
    split (Some bytes) t h rest = chosen (λ o. o ≡ Some byte → Deposited (p ∷ ps) address byte) (nat_lt address p.base) (byte_at (deposits ps) address) (if nat_lt address (p.base + length bytes) then slice_get bytes (address - p.base) else byte_at (deposits ps) address)
        (λ b g. deposited_later p ps address byte a.0 (rest g))
        (λ b. chosen (λ o. o ≡ Some byte → Deposited (p ∷ ps) address byte) (nat_lt address (p.base + length bytes)) (slice_get bytes (address - p.base)) (byte_at (deposits ps) address)
        (λ c g. record { range = p; bytes = bytes; its = ap (λ b. cond b (Some p) (find (is_of p.unit) ps)) (eq-eqb p.unit.0 p.unit.0 refl); filled = t; reached = ltb-false address p.base b; there = g })
        (λ c g. deposited_later p ps address byte a.0 (rest g))) h

-- Both have the same bytes

-- the byte of a unit is deposited
byte_deposited : (units : List UnitRow) (p : List Placement) → AreStored units p → AreLaidOut p → (u : ℕ) (x : UnitRow) (address byte : ℕ) → slice_get units u ≡ Some x → Has x address byte → byte_at (deposits p) address ≡ Some byte
byte_deposited units p s laid u x address byte t h = ap (byte_at (deposits p)) (let e : address ≡ h.base + (address - h.base) = omega (arith, h.reached) in e)
    ∙ (mapped_at CODE_START p CODE_END (record { 0 = u }) range (unit_image x) (address - h.base) laid.apart laid.whole found refl (omega (arith, within, long)) ∙ h.there)
  where
    range : Placement
    range = done_range u x h.base h.shape

    found : placement_of p (record { 0 = u }) ≡ Some range
    found = (s.each u x t).range ∙ stored_done u x h.base h.shape h.placed h.needs h.finished

    long : length (unit_image x) ≡ range.shape.need
    long = (found_whole (record { 0 = u }) p range laid.whole found).full

    within : address - h.base < length (unit_image x)
    within = element_below (unit_image x) (address - h.base) byte h.there

-- a deposited byte is its unit's
byte_owned : (units : List UnitRow) (p : List Placement) → AreStored units p → (address byte : ℕ) → Deposited p address byte → (u : ℕ) × (x : UnitRow) × (slice_get units u ≡ Some x) × Has x address byte
byte_owned units p s address byte d = split (slice_get units d.range.unit.0) refl
  where
    split : (o : Option UnitRow) → slice_get units d.range.unit.0 ≡ o → (u : ℕ) × (x : UnitRow) × (slice_get units u ≡ Some x) × Has x address byte
    split None t = absurd (none-some (d.range) (sym (s.others d.range.unit.0 (missing_past units d.range.unit.0 t)) ∙ d.its))
    split (Some x) t = let q = stored_parts d.range.unit.0 x d.range d.bytes (sym ((s.each d.range.unit.0 x t).range) ∙ d.its) d.filled in
        (d.range.unit.0, x, t, record { base = d.range.base; shape = d.range.shape; placed = q.based; needs = q.needs; finished = q.finished; reached = d.reached; there = ap (λ bytes. slice_get bytes (address - d.range.base)) q.image ∙ d.there })

-- the byte that code memory has at an address is the session's
pub memory_is : (m : Plain) (p : List Placement) → AreStored m.units p → AreLaidOut p → (address : ℕ) → byte_at (deposits p) address ≡ memory m address
memory_is m p s laid address = split (memory m address) refl
  where
    split : (o : Option ℕ) → memory m address ≡ o → byte_at (deposits p) address ≡ o
    split (Some byte) e = let x = first_parts (unit_byte address) m.units byte e in byte_deposited m.units p s laid x.0 x.1 address byte x.2 (has_byte x.1 address byte x.3)
    split None e = none (byte_at (deposits p) address) refl
      where
        none : (o : Option ℕ) → byte_at (deposits p) address ≡ o → byte_at (deposits p) address ≡ None
        none None f = f
        none (Some byte) f = let x = byte_owned m.units p s address byte (deposited p address byte laid.distinct f) in
            absurd (none-some byte (sym (none_chosen (unit_byte address) m.units e x.0 x.1 x.2) ∙ byte_of x.1 address byte x.3))

pub memory_copied : {E : Type 0} (m : Plain) (p : List Placement) (copied : Result (List Segment) E) → AreStored m.units p → AreLaidOut p → IfOk copied (λ image. image ≡ deposits p) → IfOk copied (IsMemory m)
memory_copied m p (Ok image) s laid e = λ address. ap (λ ss. byte_at ss address) e ∙ memory_is m p s laid address
memory_copied m p (Err why) s laid e = tt
