-- What is kept of instructions, and that stores elsewhere leave it right.
use Rattle.std.proofs.Common.{◌≡◌, ◌≢◌, ◌⊎◌, ⊎_elim, inl, inr, ℕ, zero, suc, Bool, true, false, Option, Some, None, ◌+◌, ◌-◌, ◌/◌, ◌%◌, ◌^◌, ◌<◌, ◌≤◌, List, length, set, refl, ap, sym, ◌∙◌, cond, subst, arith, length-set}
use Rattle.std.specs.Prelude.{slice_get, nat_lt, IfSome, ◌==◌}
use Rattle.std.specs.Bool.{OnTrue, OnFalse}
use Rattle.std.proofs.lemmas.Bool.Decides.{eqb_tells}
use Rattle.list_laws.proofs.Lists.{set_there, set_elsewhere}
use Rattle.rv_insn.specs.declared.flat.FlatInsn.{FlatInsn}
use Rattle.rv_hart.specs.Fetched.{IsKnown}
use Rattle.rv_hart.specs.Map.{Map, byte_of, joined, read, stored, with_byte}
use Rattle.code_memory.specs.declared.image.Segment.{Segment}
use Rattle.code_memory.specs.Mapped.{byte_at, AreSegments}
use Rattle.orc_ids.specs.declared.limits.TheConstants.{CODE_START, CODE_END}
use Rattle.exec_run.specs.declared.decoded.Place.{Place}
use Rattle.exec_run.specs.declared.host.TheConstants.{HOME, STACK_START}
use Rattle.exec_run.specs.Decoded.{place_of, kept_in, kept_at, IsKept, IsForgotten, AreForgotten, IsStill, AreStill}
use Rattle.exec_run.specs.Regions.{IsIn}
use Rattle.exec_run.proofs.Calls.{not_equal}
use Rattle.exec_run.proofs.Regions.{bounds}

-- ---- bytes that are elsewhere
abbrev pub IsOutside : ℕ → ℕ → ℕ → Type 0
IsOutside at width other = (other < at) ⊎ (at + width ≤ other)

-- the maps have the same at all addresses but some
abbrev pub AreSameBut : Map → Map → ℕ → ℕ → Type 0
AreSameBut old new at width = (other : ℕ) → IsOutside at width other → new other ≡ old other

pub byte_elsewhere : (map : Map) (at byte other : ℕ) → other ≢ at → with_byte map at byte other ≡ map other
byte_elsewhere map at byte other apart = ap (λ b. cond b (Some byte) (map other)) (not_equal other at apart)

pub with_byte_elsewhere : (map : Map) (at byte : ℕ) → AreSameBut map (with_byte map at byte) at 1
with_byte_elsewhere map at byte = λ other out.
    byte_elsewhere map at byte other (λ e. ⊎_elim (λ (low : other < at). let no : ⊥ = omega (arith, low, e) in no) (λ (high : at + 1 ≤ other). let no : ⊥ = omega (arith, high, e) in no) out)

pub stored_elsewhere : (map : Map) (at width value : ℕ) → AreSameBut map (stored map at width value) at width
unfolding stored
stored_elsewhere map at zero value = λ other out. refl
stored_elsewhere map at (suc width) value = λ other out.
    stored_elsewhere (with_byte map at (value % 2 ^ 8)) (at + 1) width (value / 2 ^ 8) other
    (⊎_elim (λ (low : other < at). inl (omega (arith, low))) (λ (high : at + suc width ≤ other). inr (omega (arith, high))) out)
    ∙ byte_elsewhere map at (value % 2 ^ 8) other
    (λ e. ⊎_elim (λ (low : other < at). let no : ⊥ = omega (arith, low, e) in no) (λ (high : at + suc width ≤ other). let no : ⊥ = omega (arith, high, e) in no) out)

read_same : (old new : Map) (at width : ℕ) → ((j : ℕ) → j < width → new (at + j) ≡ old (at + j)) → read new at width ≡ read old at width
unfolding read
read_same old new at zero same = refl
read_same old new at (suc width) same =
    let here : new at ≡ old at = ap new (let e : at ≡ at + 0 = omega arith in e) ∙ same 0 (omega arith) ∙ ap old (let e : at + 0 ≡ at = omega arith in e) in
    ap (λ o. joined (cond (nat_lt at (2 ^ 64)) o None) (read new (at + 1) width)) here
    ∙ ap (joined (byte_of old at)) (read_same old new (at + 1) width
    (λ j less. ap new (let e : at + 1 + j ≡ at + suc j = omega arith in e) ∙ same (suc j) (omega (arith, less)) ∙ ap old (let e : at + suc j ≡ at + 1 + j = omega arith in e)))

-- ---- what stays right
known_same : (old new : Map) (at : ℕ) (insn : FlatInsn) → read new at 4 ≡ read old at 4 → IsKnown old at insn → IsKnown new at insn
known_same old new at insn same known = record { word = known.word; there = same ∙ known.there; fits = known.fits; registers = known.registers }

still_same : (old new : List Segment) (word at width : ℕ) (insn : FlatInsn) → AreSameBut (byte_at old) (byte_at new) at width → (word + 4 ≤ at) ⊎ (at + width ≤ word) → IsStill old word insn → IsStill new word insn
still_same old new word at width insn same apart still = record {
  known = known_same (byte_at old) (byte_at new) word insn
      (read_same (byte_at old) (byte_at new) word 4
      (λ j less. same (word + j) (⊎_elim (λ (low : word + 4 ≤ at). inl (omega (arith, low, less))) (λ (high : at + width ≤ word). inr (omega (arith, high))) apart))) still.known;
  low = still.low;
}

pub still_forgotten : (old new : List Segment) (d e : List Place) (at width : ℕ) → AreSameBut (byte_at old) (byte_at new) at width → AreForgotten d e at width → AreStill old d → AreStill new e
still_forgotten old new d e at width same forgotten still = λ word insn aligned there.
    let f = forgotten word insn aligned there in
    still_same old new word at width insn same f.0 (still word insn aligned f.1)

-- a store on the stack touches none
pub still_above : (old new : List Segment) (d : List Place) (at width : ℕ) → AreSameBut (byte_at old) (byte_at new) at width → STACK_START ≤ at → AreStill old d → AreStill new d
still_above old new d at width same high still = λ word insn aligned there.
    let s = still word insn aligned there in
    still_same old new word at width insn same (inl (omega (arith, s.low, high))) s

pub still_kept : (ss : List Segment) (d e : List Place) (at : ℕ) (insn : FlatInsn) → IsKept d e at insn → at % 4 ≡ 0 → at < STACK_START → IsKnown (byte_at ss) at insn → AreStill ss d → AreStill ss e
still_kept ss d e at insn kept aligned low known still = λ other i even there.
    ⊎_elim (λ (fresh : (other ≡ at) × (i ≡ insn)).
    let here : IsStill ss at insn = record { known = known; low = omega (arith, aligned, low) } in
    subst (λ a. IsStill ss a i) (sym fresh.0) (subst (λ k. IsStill ss at k) (sym fresh.1) here))
    (λ (old : kept_at d other ≡ Some i). still other i even old) (kept other i even there)

pub kept_still : (ss : List Segment) (d : List Place) (at : ℕ) (o : Option FlatInsn) → o ≡ kept_at d at → at % 4 ≡ 0 → AreStill ss d → IfSome o (λ insn. IsStill ss at insn)
kept_still ss d at None is aligned still = tt
kept_still ss d at (Some insn) is aligned still = still at insn aligned (sym is)

-- nothing is kept of home
pub is_away : (ss : List Segment) (pc : ℕ) (insn : FlatInsn) → IsStill ss pc insn → (pc == HOME) ≡ false
is_away ss pc insn still = not_equal pc HOME (λ e. let no : ⊥ = omega (arith, e, still.low) in no)

pub in_code : (ss : List Segment) (k at : ℕ) → AreSegments ss → IsIn ss k at → at ≤ STACK_START
in_code ss k at apart is =
    let b = bounds CODE_START ss CODE_END k is.segment apart is.there in
    omega (arith, b.2, is.high)

pub either : (b : Bool) (P Q : Type 0) → OnTrue b P → OnFalse b Q → P ⊎ Q
either true P Q h g = inl h
either false P Q h g = inr g

-- a value and a byte that are written
pub stored_so : (old new : List Segment) (at width value : ℕ) → byte_at new ≡ stored (byte_at old) at width value → AreSameBut (byte_at old) (byte_at new) at width
stored_so old new at width value is = λ other out. ap (λ (m : Map). m other) is ∙ stored_elsewhere (byte_at old) at width value other out

pub set_so : (old new : List Segment) (at byte : ℕ) → byte_at new ≡ with_byte (byte_at old) at byte → AreSameBut (byte_at old) (byte_at new) at 1
set_so old new at byte is = λ other out. ap (λ (m : Map). m other) is ∙ with_byte_elsewhere (byte_at old) at byte other out

-- ---- places
here_in : (p : Place) (at : ℕ) (insn : FlatInsn) → kept_in (Some p) at ≡ Some insn → (p.at ≡ at) × (p.insn ≡ insn)
here_in p at insn is =
    ⊎_elim (λ (e : ((p.at == at) ≡ true) × (p.at ≡ at)).
    let same : Some p.insn ≡ Some insn = sym (ap (λ b. cond b (Some p.insn) None) e.0) ∙ is in
    (e.1, let f : p.insn ≡ insn = cc in f))
    (λ (e : ((p.at == at) ≡ false) × (p.at ≢ at)).
    let never : None ≡ Some insn = sym (ap (λ b. cond b (Some p.insn) None) e.0) ∙ is in absurd cc)
    (eqb_tells p.at at)

none_in : (p : Place) (at : ℕ) → p.at ≢ at → kept_in (Some p) at ≡ None
none_in p at apart = ap (λ b. cond b (Some p.insn) None) (not_equal p.at at apart)

some_in : (p : Place) (at : ℕ) → p.at ≡ at → kept_in (Some p) at ≡ Some p.insn
some_in p at same =
    ⊎_elim (λ (e : ((p.at == at) ≡ true) × (p.at ≡ at)). ap (λ b. cond b (Some p.insn) None) e.0)
    (λ (e : ((p.at == at) ≡ false) × (p.at ≢ at)). absurd (e.1 same)) (eqb_tells p.at at)

pub got_none : (places : List Place) (at : ℕ) (p : Place) → slice_get places (place_of (length places) at) ≡ Some p → p.at ≢ at → kept_at places at ≡ None
unfolding kept_at
got_none places at p there apart = ap (λ o. kept_in o at) there ∙ none_in p at apart

pub got_some : (places : List Place) (at : ℕ) (p : Place) → slice_get places (place_of (length places) at) ≡ Some p → p.at ≡ at → kept_at places at ≡ Some p.insn
unfolding kept_at
got_some places at p there same = ap (λ o. kept_in o at) there ∙ some_in p at same

-- what the places keep once one was written: what it has of its address, and of others what they kept
written : (places : List Place) (k : ℕ) (p : Place) (other : ℕ) (i : FlatInsn) → k < length places → kept_at (set places k p) other ≡ Some i → ((place_of (length places) other ≡ k) × (p.at ≡ other) × (p.insn ≡ i)) ⊎ ((place_of (length places) other ≢ k) × (kept_at places other ≡ Some i))
unfolding kept_at
written places k p other i within is =
    let long = length-set places k p in
    let here : kept_in (slice_get (set places k p) (place_of (length places) other)) other ≡ Some i = sym (ap (λ n. kept_in (slice_get (set places k p) (place_of n other)) other) long) ∙ is in
    ⊎_elim (λ (e : ((place_of (length places) other == k) ≡ true) × (place_of (length places) other ≡ k)).
    let there : slice_get (set places k p) (place_of (length places) other) ≡ Some p = ap (slice_get (set places k p)) e.1 ∙ set_there places k p within in
    let h = here_in p other i (sym (ap (λ o. kept_in o other) there) ∙ here) in
    inl (e.1, h.0, h.1))
    (λ (e : ((place_of (length places) other == k) ≡ false) × (place_of (length places) other ≢ k)).
    inr (e.1, sym (ap (λ o. kept_in o other) (set_elsewhere places k (place_of (length places) other) p e.1)) ∙ here))
    (eqb_tells (place_of (length places) other) k)

pub put_kept : (places : List Place) (k : ℕ) (p : Place) (other : ℕ) (i : FlatInsn) → k < length places → kept_at (set places k p) other ≡ Some i → ((other ≡ p.at) × (i ≡ p.insn)) ⊎ (kept_at places other ≡ Some i)
put_kept places k p other i within is =
    ⊎_elim (λ (h : (place_of (length places) other ≡ k) × (p.at ≡ other) × (p.insn ≡ i)). inl (sym h.1, sym h.2))
    (λ (h : (place_of (length places) other ≢ k) × (kept_at places other ≡ Some i)). inr h.1) (written places k p other i within is)

pub cleared : (places : List Place) (word other k : ℕ) (p : Place) (i : FlatInsn) → p.at ≡ 1 → k ≡ place_of (length places) word → k < length places → other % 4 ≡ 0 → kept_at (set places k p) other ≡ Some i → (other ≢ word) × (kept_at places other ≡ Some i)
cleared places word other k p i odd named within aligned is =
    ⊎_elim (λ (h : (place_of (length places) other ≡ k) × (p.at ≡ other) × (p.insn ≡ i)).
    absurd (let no : ⊥ = omega (arith, h.1, odd, aligned) in no))
    (λ (h : (place_of (length places) other ≢ k) × (kept_at places other ≡ Some i)).
    (λ f. h.0 (ap (place_of (length places)) f ∙ sym named), h.1)) (written places k p other i within is)

-- a place that has another word
pub untouched : (places : List Place) (word other : ℕ) (p : Place) (i : FlatInsn) → slice_get places (place_of (length places) word) ≡ Some p → p.at ≢ word → kept_at places other ≡ Some i → (other ≢ word) × (kept_at places other ≡ Some i)
untouched places word other p i there apart is =
    (λ e. let never : None ≡ Some i = sym (got_none places word p there apart) ∙ ap (kept_at places) (sym e) ∙ is in let no : ⊥ = absurd cc in no, is)

-- places that keep nothing
pub none_kept : (places : List Place) → ((k : ℕ) (p : Place) → slice_get places k ≡ Some p → p.at ≡ 1) → (at : ℕ) → at % 4 ≡ 0 → kept_at places at ≡ None
unfolding kept_at
none_kept places odd at aligned = cases (slice_get places (place_of (length places) at)) refl
  where
    cases : (o : Option Place) → slice_get places (place_of (length places) at) ≡ o → kept_in o at ≡ None
    cases None is = refl
    cases (Some p) is = none_in p at (λ e. let first = odd (place_of (length places) at) p is in let no : ⊥ = omega (arith, e, first, aligned) in no)
