-- What deleting the cuts of a section does to its places: none is passed by another, and none passes
-- the section's end.
use Rattle.std.proofs.Common.{◌≡◌, ℕ, zero, suc, ◌+◌, ◌-◌, ◌*◌, ◌/◌, ◌%◌, ◌<◌, ◌≤◌, min, true, false, cond, ◌&&◌, List, [], ◌∷◌, ◌++◌, length, take, drop, get_or, Option, Some, None, refl, sym, ap, subst, ◌∙◌, inl, inr, arith}
use Rattle.std.specs.Prelude.{ℤ, pos, negsuc, nat_le}
use Rattle.std.specs.List.{All, AllWithin}
use Rattle.std.specs.List.Sorted.{IsNonDecreasingBy}
use Rattle.std.specs.Option.{option_map_or}
use Rattle.std.proofs.lemmas.Bool.{cases_Bool, cases_lt, leb-true, and_parts}
use Rattle.std.proofs.Common.{add-one, drop-cons}
use Rattle.std.proofs.lemmas.List.{length-append, length-take, length-drop, get_or-take, get_or-drop, get_or_append_left, get_or-append_right}
use Rattle.std.proofs.lemmas.List.Elements.{All-nil, All-cons}
use Rattle.std.proofs.lemmas.Nat.{div-add-mod', mod_below, mod-mul-add, pow_pos}
use Rattle.std.proofs.Math.Nat.{mod-eq_of_lt}
use Rattle.link_graph.proofs.Powers.{boundary_power}
use Rattle.elf_read.specs.declared.object.Reloc.{Reloc}
use Rattle.elf_read.specs.declared.object.Section.{Section}
use Rattle.link_graph.specs.Padding.{MAX_BOUNDARY, is_align, boundary, needed, cut_of, cuts_from, cuts_of, deleted, moved, kept_bytes, AreMet, IsKept, Keeps}
use Rattle.link_graph.specs.Parts.{InTurn}
use Rattle.link_graph.specs.declared.cuts.Cut.{Cut}

-- nothing is deleted before the first cut
pub deleted_before_first : (cuts : List Cut) (end before at : ℕ) → InTurn end before cuts → at ≤ end → deleted cuts at ≡ 0
deleted_before_first [] end before at h le = refl
deleted_before_first (c ∷ cs) end before at h le =
    let from = h.0 in
    let to = h.1 in
    let rest = deleted_before_first cs c.to (before + (c.to - c.from)) at h.3 (omega arith) in
    let none : at - c.from ≡ 0 = omega arith in
    omega (arith, rest, none)

-- from one place to a later one no more bytes are deleted than lie between them
pub deleted_between : (cuts : List Cut) (end before at later : ℕ) → InTurn end before cuts → at ≤ later → deleted cuts later ≤ deleted cuts at + (later - at)
deleted_between [] end before at later h le = omega arith
deleted_between (c ∷ cs) end before at later h le =
    let from = h.0 in
    let to = h.1 in
    elim (cases_lt at c.to) [
      | inl inside ↦ elim (cases_lt later c.to) [
        | inl short ↦ (
            let here = deleted_before_first cs c.to (before + (c.to - c.from)) at h.3 (omega arith) in
            let there = deleted_before_first cs c.to (before + (c.to - c.from)) later h.3 (omega arith) in
            omega (arith, here, there))
        | inr past ↦ (
            let here = deleted_before_first cs c.to (before + (c.to - c.from)) at h.3 (omega arith) in
            let start = deleted_before_first cs c.to (before + (c.to - c.from)) c.to h.3 (omega arith) in
            let rest = deleted_between cs c.to (before + (c.to - c.from)) c.to later h.3 past in
            omega (arith, here, start, rest))
      ]
      | inr past ↦ (let rest = deleted_between cs c.to (before + (c.to - c.from)) at later h.3 le in omega (arith, rest))
    ]

pub deleted_few : (cuts : List Cut) (at : ℕ) → InTurn 0 0 cuts → deleted cuts at ≤ at
deleted_few cuts at h =
    let start = deleted_before_first cuts 0 0 0 h (omega arith) in
    let all = deleted_between cuts 0 0 0 at h (omega arith) in
    omega (arith, start, all)

-- places stay in order
pub moved_rises : (cuts : List Cut) (at later : ℕ) → InTurn 0 0 cuts → at ≤ later → moved cuts at ≤ moved cuts later
moved_rises cuts at later h le =
    let between = deleted_between cuts 0 0 at later h le in
    let few = deleted_few cuts at h in
    omega (arith, between, few)

-- bytes of which none is deleted stay together
pub moved_whole : (cuts : List Cut) (at width size : ℕ) → InTurn 0 0 cuts → at + width ≤ size → deleted cuts (at + width) ≤ deleted cuts at → moved cuts at + width ≤ moved cuts size
moved_whole cuts at width size h le none =
    let end = moved_rises cuts (at + width) size h le in
    let few = deleted_few cuts at h in
    omega (arith, end, few, none)

-- ---- the cuts before a place, by their number

starts_later : (cuts : List Cut) (end before k : ℕ) (d : Cut) → InTurn end before cuts → k < length cuts → end ≤ (get_or cuts k d).from
starts_later [] end before k d h lt = absurd (omega arith)
starts_later (c ∷ cs) end before zero d h lt = h.0
starts_later (c ∷ cs) end before (suc k) d h lt =
    let rest = starts_later cs c.to (before + (c.to - c.from)) k d h.3 (omega arith) in
    let from = h.0 in
    let to = h.1 in
    omega (arith, rest)

pub in_order : (cuts : List Cut) (end before : ℕ) → InTurn end before cuts → IsNonDecreasingBy (λ (c : Cut). c.from) cuts
in_order [] end before h i j d le lt = absurd (omega arith)
in_order (c ∷ cs) end before h zero zero d le lt = omega arith
in_order (c ∷ cs) end before h zero (suc j) d le lt =
    let rest = starts_later cs c.to (before + (c.to - c.from)) j d h.3 (omega arith) in
    let to = h.1 in
    omega (arith, rest)
in_order (c ∷ cs) end before h (suc i) zero d le lt = absurd (omega arith)
in_order (c ∷ cs) end before h (suc i) (suc j) d le lt = in_order cs c.to (before + (c.to - c.from)) h.3 i j d (omega arith) (omega arith)

-- no cut starts before the place
pub deleted_none : (cuts : List Cut) (end before at : ℕ) → InTurn end before cuts → ((k : ℕ) (d : Cut) → k < length cuts → at ≤ (get_or cuts k d).from) → deleted cuts at ≡ 0
deleted_none [] end before at h later = refl
deleted_none (c ∷ cs) end before at h later =
    let first = later 0 c (omega arith) in
    let to = h.1 in
    let rest = deleted_before_first cs c.to (before + (c.to - c.from)) at h.3 (omega arith) in
    omega (arith, first, rest)

-- cut k is the last that starts before the place
pub deleted_counted : (cuts : List Cut) (end before at k : ℕ) (d : Cut) → InTurn end before cuts → k < length cuts → (get_or cuts k d).from < at → ((j : ℕ) (e : Cut) → k < j → j < length cuts → at ≤ (get_or cuts j e).from) →
    ((get_or cuts k d).from ≤ (get_or cuts k d).to) × (before + deleted cuts at ≡ (get_or cuts k d).before + min (at - (get_or cuts k d).from) ((get_or cuts k d).to - (get_or cuts k d).from))
deleted_counted [] end before at k d h lt here later = absurd (omega arith)
deleted_counted (c ∷ cs) end before at zero d h lt here later =
    let rest = deleted_none cs c.to (before + (c.to - c.from)) at h.3 (λ j e within. later (suc j) e (omega arith) (omega arith)) in
    (h.1, (let counted = h.2 in omega (arith, rest, counted)))
deleted_counted (c ∷ cs) end before at (suc k) d h lt here later =
    let rest = deleted_counted cs c.to (before + (c.to - c.from)) at k d h.3 (omega arith) here (λ j e past within. later (suc j) e (omega arith) (omega arith)) in
    let start = starts_later cs c.to (before + (c.to - c.from)) k d h.3 (omega arith) in
    let to = h.1 in
    (rest.0, (let is = rest.1 in omega (arith, is, start, here)))

-- ---- the bytes that stay

pub length-kept_bytes : (cuts : List Cut) (end before : ℕ) (bytes : List ℕ) → InTurn end before cuts → length (kept_bytes end cuts bytes) + deleted cuts (length bytes) ≡ length bytes - end
length-kept_bytes [] end before bytes h = omega (arith, length-drop end bytes)
length-kept_bytes (c ∷ cs) end before bytes h =
    let rest = length-kept_bytes cs c.to (before + (c.to - c.from)) bytes h.3 in
    let front = length-take (c.from - end) (drop end bytes) in
    let past = length-drop end bytes in
    let both = length-append (take (c.from - end) (drop end bytes)) (kept_bytes c.to cs bytes) in
    let from = h.0 in
    let to = h.1 in
    omega (arith, rest, front, past, both)

pub kept_inside : (cuts : List Cut) (bytes : List ℕ) (size : ℕ) → InTurn 0 0 cuts → length bytes ≤ size → length (kept_bytes 0 cuts bytes) ≤ moved cuts size
kept_inside cuts bytes size h le =
    let kept = length-kept_bytes cuts 0 0 bytes h in
    let few = deleted_few cuts (length bytes) h in
    let end = moved_rises cuts (length bytes) size h le in
    omega (arith, kept, few, end)

-- ---- the cuts of a section

-- what a cut keeps to
pub record IsCut (size end before at a : ℕ) (c : Cut) : Type 0 where
  pub starts : at ≤ c.from
  pub place : c.from ≡ at + needed (at - before) (boundary a)
  pub after : end ≤ at
  pub inside : at + a ≤ size
  pub ends : c.to ≡ at + a
  pub long : c.from ≤ c.to
  pub counted : c.before ≡ before
  pub bounded : boundary a ≤ MAX_BOUNDARY
  pub same : c.boundary ≡ boundary a

from_tests : (size end before at a n : ℕ) (c : Cut) → n ≡ needed (at - before) (boundary a) → cond (nat_le end at && nat_le (at + a) size && nat_le (boundary a) MAX_BOUNDARY && nat_le n a) (Some (record { from = at + n; to = at + a; before = before; boundary = boundary a })) None ≡ Some c → IsCut size end before at a c
from_tests size end before at a n c place h = elim (cases_Bool (nat_le end at && nat_le (at + a) size && nat_le (boundary a) MAX_BOUNDARY && nat_le n a)) [
  | inl t ↦ (
      let first = and_parts (nat_le end at && nat_le (at + a) size && nat_le (boundary a) MAX_BOUNDARY) (nat_le n a) t in
      let second = and_parts (nat_le end at && nat_le (at + a) size) (nat_le (boundary a) MAX_BOUNDARY) first.0 in
      let third = and_parts (nat_le end at) (nat_le (at + a) size) second.0 in
      let is : record { from = at + n; to = at + a; before = before; boundary = boundary a } ≡ c = (let h' = rw t at h in cc) in
      subst (IsCut size end before at a) is (record {
        starts = omega arith;
        place = ap (λ (k : ℕ). at + k) place;
        after = leb-true end at third.0;
        inside = leb-true (at + a) size third.1;
        ends = refl;
        long = (let le = leb-true n a first.1 in omega (arith, le));
        counted = refl;
        bounded = leb-true (boundary a) MAX_BOUNDARY second.1;
        same = refl;
      }))
  | inr f ↦ (let h' = rw f at h in absurd cc)
]

pub is_cut : (size end before at a : ℕ) (c : Cut) → cut_of size end before at (pos a) ≡ Some c → IsCut size end before at a c
is_cut size end before at a c h = from_tests size end before at a (needed (at - before) (boundary a)) c refl h

-- what holds of the cuts of each table: of none, and of one before those of a table

abbrev Grows : (ℕ → ℕ → List Cut → Type 0) → ℕ → Type 0
Grows P size = (end before at a : ℕ) (c : Cut) (cs : List Cut) → IsCut size end before at a c → P c.to (before + (c.to - c.from)) cs → P end before (c ∷ cs)

abbrev Rest : (ℕ → ℕ → List Cut → Type 0) → ℕ → List Reloc → Type 0
Rest P size rs = (end before : ℕ) → P end before (cuts_from size end before rs)

grown : (P : ℕ → ℕ → List Cut → Type 0) (size end before at : ℕ) (addend : ℤ) (c : Cut) (rs : List Reloc) → Grows P size → Rest P size rs → cut_of size end before at addend ≡ Some c → P end before (c ∷ cuts_from size c.to (before + (c.to - c.from)) rs)
grown P size end before at (negsuc k) c rs more rest is = absurd cc
grown P size end before at (pos a) c rs more rest is =
    more end before at a c (cuts_from size c.to (before + (c.to - c.from)) rs) (is_cut size end before at a c is) (rest c.to (before + (c.to - c.from)))

grown_or_none : (P : ℕ → ℕ → List Cut → Type 0) (size end before at : ℕ) (addend : ℤ) (cut : Option Cut) (rs : List Reloc) → P end before [] → Grows P size → Rest P size rs → cut_of size end before at addend ≡ cut → P end before (option_map_or (λ c. c ∷ cuts_from size c.to (before + (c.to - c.from)) rs) cut [])
grown_or_none P size end before at addend None rs none more rest is = none
grown_or_none P size end before at addend (Some c) rs none more rest is = grown P size end before at addend c rs more rest is

pub cuts_by : (P : ℕ → ℕ → List Cut → Type 0) (size : ℕ) → ((end before : ℕ) → P end before []) → Grows P size → (rs : List Reloc) (end before : ℕ) → P end before (cuts_from size end before rs)
cuts_by P size none more [] end before = none end before
cuts_by P size none more (r ∷ rs) end before = elim (cases_Bool (is_align r)) [
  | inl t ↦ rw t (grown_or_none P size end before r.at r.addend (cut_of size end before r.at r.addend) rs (none end before) more (cuts_by P size none more rs) refl)
  | inr f ↦ rw f (cuts_by P size none more rs end before)
]

pub cuts_in_turn : (s : Section) → InTurn 0 0 (cuts_of s)
cuts_in_turn s = cuts_by InTurn s.size (λ end before. tt)
    (λ end before at a c cs is rest. (let starts = is.starts in let after = is.after in omega (arith, starts, after), is.long, is.counted, rest))
    s.relocs 0 0

-- what is deleted before a place, by the last of the cuts that start before it
pub record IsLast (cuts : List Cut) (at : ℕ) (c : Cut) : Type 0 where
  pub starts : c.from < at
  pub long : c.from ≤ c.to
  pub is : deleted cuts at ≡ c.before + min (at - c.from) (c.to - c.from)

pub last_is : (cuts : List Cut) (at n : ℕ) (d : Cut) → InTurn 0 0 cuts → (n ≡ 0 → ⊥) → n ≤ length cuts → AllWithin (λ (c : Cut). c.from < at) cuts 0 n → AllWithin (λ (c : Cut). at ≤ c.from) cuts n (length cuts) → IsLast cuts at (get_or cuts (n - 1) d)
last_is cuts at n d h some few before after =
    let here = before (n - 1) d (omega arith) (omega arith) in
    let counted = deleted_counted cuts 0 0 at (n - 1) d h (omega arith) here (λ j e past within. after j e (omega arith) within) in
    record { starts = here; long = counted.0; is = (let is = counted.1 in omega (arith, is)) }

pub none_before : (cuts : List Cut) (at n : ℕ) → InTurn 0 0 cuts → n ≡ 0 → AllWithin (λ (c : Cut). at ≤ c.from) cuts n (length cuts) → deleted cuts at ≡ 0
none_before cuts at n h none after = deleted_none cuts 0 0 at h (λ k d lt. after k d (omega arith) lt)

-- ---- the loop over a table

pub in_turn_front : (xs ys : List Cut) (end before : ℕ) → InTurn end before (xs ++ ys) → InTurn end before xs
in_turn_front [] ys end before h = tt
in_turn_front (x ∷ xs) ys end before h = (h.0, h.1, h.2, in_turn_front xs ys x.to (before + (x.to - x.from)) h.3)

cuts_at : (size end before k : ℕ) (d : Reloc) (rs : List Reloc) → k < length rs → cuts_from size end before (drop k rs) ≡ cuts_from size end before (get_or rs k d ∷ drop (k + 1) rs)
cuts_at size end before k d rs lt = rw (drop-cons rs k d, add-one k) refl

pub cuts_grow : (size end before k : ℕ) (d : Reloc) (cut : Cut) (rs : List Reloc) → k < length rs → is_align (get_or rs k d) ≡ true → Some cut ≡ cut_of size end before (get_or rs k d).at (get_or rs k d).addend → cuts_from size end before (drop k rs) ≡ cut ∷ cuts_from size cut.to (before + (cut.to - cut.from)) (drop (k + 1) rs)
cuts_grow size end before k d cut rs lt align is = cuts_at size end before k d rs lt ∙ rw (align, ← is) refl

pub cuts_pass : (size end before k : ℕ) (d : Reloc) (rs : List Reloc) → k < length rs → is_align (get_or rs k d) ≡ false → cuts_from size end before (drop k rs) ≡ cuts_from size end before (drop (k + 1) rs)
cuts_pass size end before k d rs lt other = cuts_at size end before k d rs lt ∙ rw other refl

-- a cut ends no earlier than it starts, nor than the cuts before it
pub cut_bounds : (size end before at : ℕ) (addend : ℤ) (cut : Cut) → Some cut ≡ cut_of size end before at addend → (end ≤ cut.from) × (cut.from ≤ cut.to)
cut_bounds size end before at (negsuc k) cut is = absurd cc
cut_bounds size end before at (pos a) cut is =
    let made = is_cut size end before at a cut (sym is) in
    let starts = made.starts in
    let after = made.after in
    (omega arith, made.long)

-- ---- what deletion is for

-- the padding that is kept leads to a multiple of the boundary
needed_leads : (at b : ℕ) → 0 < b → (at + needed at b) % b ≡ 0
needed_leads at b positive =
    let whole = div-add-mod' at b in
    let below = mod_below at b positive in
    elim (cases_lt 0 (at % b)) [
      | inl some ↦ (
          let kept : needed at b ≡ b - at % b = mod-eq_of_lt {n = b - at % b} {m = b} (omega arith) in
          let all : at + needed at b ≡ (at / b + 1) * b + 0 = omega (arith, kept, whole) in
          rw all (mod-mul-add (at / b + 1) b 0 positive))
      | inr none ↦ (
          let divides : at % b ≡ 0 = omega arith in
          let all : b - at % b ≡ 1 * b + 0 = omega (arith, divides) in
          let kept : needed at b ≡ 0 = ap (λ (n : ℕ). n % b) all ∙ mod-mul-add 1 b 0 positive in
          let same : at + needed at b ≡ at = omega (arith, kept) in
          rw same divides)
    ]

deleted_at_start : (cuts : List Cut) (end before k : ℕ) (d : Cut) → InTurn end before cuts → k < length cuts → before + deleted cuts (get_or cuts k d).from ≡ (get_or cuts k d).before
deleted_at_start [] end before k d turn lt = absurd (omega arith)
deleted_at_start (c ∷ cs) end before zero d turn lt =
    let rest = deleted_before_first cs c.to (before + (c.to - c.from)) c.from turn.3 turn.1 in
    let counted = turn.2 in
    omega (arith, rest, counted)
deleted_at_start (c ∷ cs) end before (suc k) d turn lt =
    let rest = deleted_at_start cs c.to (before + (c.to - c.from)) k d turn.3 (omega arith) in
    let later = starts_later cs c.to (before + (c.to - c.from)) k d turn.3 (omega arith) in
    let long = turn.1 in
    omega (arith, rest, later)

Leads : ℕ → ℕ → List Cut → Type 0
Leads end before cuts = before ≤ end → All (λ (c : Cut). (c.from - c.before) % c.boundary ≡ 0) cuts

cut_leads : (size end before at a : ℕ) (c : Cut) → IsCut size end before at a c → before ≤ end → (c.from - c.before) % c.boundary ≡ 0
cut_leads size end before at a c is le =
    let power = boundary_power a in
    let positive : 0 < boundary a = (let exact = power.is in let some = pow_pos power.exponent in omega (arith, exact, some)) in
    let place = is.place in
    let after = is.after in
    let counted = is.counted in
    let all : c.from - c.before ≡ at - before + needed (at - before) (boundary a) = omega (arith, place, after, counted) in
    rw (all, is.same) (needed_leads (at - before) (boundary a) positive)

pub cuts_met : (s : Section) → AreMet (cuts_of s)
unfolding Leads
cuts_met s k d lt =
    let leads = cuts_by Leads s.size (λ end before le. All-nil (λ (c : Cut). (c.from - c.before) % c.boundary ≡ 0))
    (λ end before at a c cs is rest le. All-cons (λ (c : Cut). (c.from - c.before) % c.boundary ≡ 0) c cs (cut_leads s.size end before at a c is le)
    (rest (let starts = is.starts in let after = is.after in let long = is.long in omega (arith, starts, after, long))))
    s.relocs 0 0 (omega arith) in
    let start = deleted_at_start (cuts_of s) 0 0 k d (cuts_in_turn s) lt in
    let same : moved (cuts_of s) (get_or (cuts_of s) k d).from ≡ (get_or (cuts_of s) k d).from - (get_or (cuts_of s) k d).before = omega (arith, start) in
    rw same (leads k d lt)

deleted_after : (cuts : List Cut) (end before at : ℕ) → InTurn end before cuts → end ≤ at → deleted cuts at ≤ at - end
deleted_after cuts end before at turn le =
    let none = deleted_before_first cuts end before end turn (omega arith) in
    let all = deleted_between cuts end before end at turn le in
    omega (arith, none, all)

-- a byte that lies in no cut stands at its moved place
kept_from : (cuts : List Cut) (end before at : ℕ) (bytes : List ℕ) (d : ℕ) → InTurn end before cuts → end ≤ at → at < length bytes → IsKept cuts at → get_or (kept_bytes end cuts bytes) (at - end - deleted cuts at) d ≡ get_or bytes at d
kept_from [] end before at bytes d turn le lt kept =
    get_or-drop end bytes (at - end - 0) d ∙ ap (λ (k : ℕ). get_or bytes k d) (omega arith)
kept_from (c ∷ cs) end before at bytes d turn le lt kept =
    let from = turn.0 in
    let to = turn.1 in
    let front : List ℕ = take (c.from - end) (drop end bytes) in
    let rest : List ℕ = kept_bytes c.to cs bytes in
    let many = length-take (c.from - end) (drop end bytes) in
    let past = length-drop end bytes in
    elim (kept 0 c (omega arith)) [
      | inl early ↦ (
          let none = deleted_before_first cs c.to (before + (c.to - c.from)) at turn.3 (omega arith) in
          let place : at - end - deleted (c ∷ cs) at ≡ at - end = omega (arith, none) in
          ap (λ (k : ℕ). get_or (front ++ rest) k d) place
          ∙ get_or_append_left front rest d (at - end) (omega (arith, many, past))
          ∙ get_or-take (c.from - end) (drop end bytes) (at - end) d (omega arith)
          ∙ get_or-drop end bytes (at - end) d
          ∙ ap (λ (k : ℕ). get_or bytes k d) (omega arith))
      | inr late ↦ (
          let place : at - end - deleted (c ∷ cs) at ≡ length front + (at - c.to - deleted cs at) = omega (arith, many, past, deleted_after cs c.to (before + (c.to - c.from)) at turn.3 late) in
          ap (λ (k : ℕ). get_or (front ++ rest) k d) place
          ∙ get_or-append_right front rest (length front) (length front + (at - c.to - deleted cs at)) d refl (omega arith)
          ∙ ap (λ (k : ℕ). get_or rest k d) (omega arith)
          ∙ kept_from cs c.to (before + (c.to - c.from)) at bytes d turn.3 late lt (λ k e within. kept (suc k) e (omega arith)))
    ]

pub bytes_kept : (cuts : List Cut) (bytes : List ℕ) → InTurn 0 0 cuts → Keeps cuts bytes (kept_bytes 0 cuts bytes)
bytes_kept cuts bytes turn at lt kept =
    let start : moved cuts at ≡ at - 0 - deleted cuts at = omega arith in
    ap (λ (k : ℕ). get_or (kept_bytes 0 cuts bytes) k 0) start ∙ kept_from cuts 0 0 at bytes 0 turn (omega arith) lt kept
