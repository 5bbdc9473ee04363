-- There is a linked program: at each address it has the byte of the one member that has a mapped place there.
use Rattle.std.proofs.Common.{◌≡◌, ℕ, ◌+◌, ◌-◌, ◌<◌, ◌≤◌, Bool, true, false, ◌&&◌, ◌||◌, nat_le, nat_lt, List, length, Option, Some, None, IsSome, inl, inr, refl, sym, ap, subst, ◌∙◌, arith}
use Rattle.std.specs.Prelude.{find, slice_get}
use Rattle.std.specs.List.{list_any}
use Rattle.std.proofs.lemmas.Bool.{cases_eq, and_parts, and_from, or_cases, or_left, or_right, leb-true, ltb-true, le-leb, lt-ltb}
use Rattle.std.proofs.lemmas.Option.{slice_get_within}
use Rattle.link_model.specs.Image.{at_or}
use Rattle.link_model.specs.Layout.{unit_need, CELL_SIZE, STUB_SIZE}
use Rattle.link_model.specs.Sound.{sizes}
use Rattle.link_model.specs.declared.graph.LinkGraph.{LinkGraph}
use Rattle.static_links.specs.Links.{Member, Spots, IsMapped, InBlock, InCell, InStub, IsNeeded, IsLinkedAt, uses_cell, uses_stub, linked_byte}
use Rattle.static_links.specs.Laws.{laid_out, IsLaidOut, IsNeededMember, LieApart, ProgramIsThere}
use Rattle.static_links.proofs.Apart.{lies_apart}
use Rattle.static_links.proofs.Folds.{Among}
use Rattle.static_links.proofs.Leading.{is_needed, needed_is, is_needed_all}
use Rattle.static_links.proofs.Lists.{found, first_found, any_found, any_there, numbers, number_there, number_below}
use Rattle.static_links.proofs.Chosen.{mapped_chosen}
use Rattle.static_links.proofs.Mapped.{mapped_inside}

-- ---- the test for mapped places

is_among : ℕ → ℕ → ℕ → Bool
is_among at width place = nat_le at place && nat_lt place (at + width)

among_is : (at width place : ℕ) → is_among at width place ≡ true → Among at width place
unfolding is_among
among_is at width place e =
    let parts = and_parts (nat_le at place) (nat_lt place (at + width)) e in
    (leb-true at place parts.0, ltb-true place (at + width) parts.1)

is_among_all : (at width place : ℕ) → at ≤ place → place < at + width → is_among at width place ≡ true
unfolding is_among
is_among_all at width place low high = and_from (nat_le at place) (nat_lt place (at + width)) (le-leb at place low) (lt-ltb place (at + width) high)

abbrev in_block : Member → (ℕ → Bool) → ℕ → ℕ → Bool
in_block m chosen place k = chosen k && is_among (at_or 0 m.layout.blocks k) (at_or 0 (sizes m.graph) k) place

abbrev in_cell : Member → (ℕ → Bool) → ℕ → ℕ × ℕ → Bool
in_cell m chosen place p = uses_cell chosen m p.0 && is_among p.1 CELL_SIZE place

abbrev in_stub : Member → (ℕ → Bool) → ℕ → ℕ × ℕ → Bool
in_stub m chosen place p = uses_stub chosen m p.0 && is_among p.1 STUB_SIZE place

abbrev in_blocks : Member → (ℕ → Bool) → ℕ → Bool
in_blocks m chosen place = list_any (in_block m chosen place) (numbers (length m.graph.blocks))

abbrev in_cells : Member → (ℕ → Bool) → ℕ → Bool
in_cells m chosen place = list_any (in_cell m chosen place) m.layout.cells

abbrev in_stubs : Member → (ℕ → Bool) → ℕ → Bool
in_stubs m chosen place = list_any (in_stub m chosen place) m.layout.stubs

is_mapped : Member → (ℕ → Bool) → ℕ → Bool
is_mapped m chosen place = in_blocks m chosen place || (in_cells m chosen place || in_stubs m chosen place)

block_mapped : (m : Member) (chosen : ℕ → Bool) (place : ℕ) → in_blocks m chosen place ≡ true → IsMapped m chosen place
block_mapped m chosen place e =
    let block = any_found (in_block m chosen place) (numbers (length m.graph.blocks)) e in
    let at = at_or 0 m.layout.blocks block.0 in
    let size = at_or 0 (sizes m.graph) block.0 in
    let parts = and_parts (chosen block.0) (is_among at size place) block.2 in
    let among = among_is at size place parts.1 in
    InBlock block.0 (number_below (length m.graph.blocks) block.0 block.1) parts.0 among.0 among.1

cell_mapped : (m : Member) (chosen : ℕ → Bool) (place : ℕ) → in_cells m chosen place ≡ true → IsMapped m chosen place
cell_mapped m chosen place e =
    let cell = any_found (in_cell m chosen place) m.layout.cells e in
    let parts = and_parts (uses_cell chosen m cell.0.0) (is_among cell.0.1 CELL_SIZE place) cell.2 in
    let among = among_is cell.0.1 CELL_SIZE place parts.1 in
    InCell cell.0 cell.1 parts.0 among.0 among.1

stub_mapped : (m : Member) (chosen : ℕ → Bool) (place : ℕ) → in_stubs m chosen place ≡ true → IsMapped m chosen place
stub_mapped m chosen place e =
    let stub = any_found (in_stub m chosen place) m.layout.stubs e in
    let parts = and_parts (uses_stub chosen m stub.0.0) (is_among stub.0.1 STUB_SIZE place) stub.2 in
    let among = among_is stub.0.1 STUB_SIZE place parts.1 in
    InStub stub.0 stub.1 parts.0 among.0 among.1

mapped_is : (m : Member) (chosen : ℕ → Bool) (place : ℕ) → is_mapped m chosen place ≡ true → IsMapped m chosen place
unfolding is_mapped
mapped_is m chosen place e = elim (or_cases (in_blocks m chosen place) (in_cells m chosen place || in_stubs m chosen place) e) [
  | inl block ↦ block_mapped m chosen place block
  | inr part ↦ elim (or_cases (in_cells m chosen place) (in_stubs m chosen place) part) [
    | inl cell ↦ cell_mapped m chosen place cell
    | inr stub ↦ stub_mapped m chosen place stub
  ]
]

is_mapped_all : (m : Member) (chosen : ℕ → Bool) (place : ℕ) → IsMapped m chosen place → is_mapped m chosen place ≡ true
unfolding is_mapped
is_mapped_all m chosen place (InBlock block lt on low high) =
    let at = at_or 0 m.layout.blocks block in
    let size = at_or 0 (sizes m.graph) block in
    or_left (in_blocks m chosen place) (in_cells m chosen place || in_stubs m chosen place)
    (any_there (in_block m chosen place) (numbers (length m.graph.blocks)) block (number_there (length m.graph.blocks) block lt)
    (and_from (chosen block) (is_among at size place) on (is_among_all at size place low high)))
is_mapped_all m chosen place (InCell p here on low high) =
    or_right (in_blocks m chosen place) (in_cells m chosen place || in_stubs m chosen place)
    (or_left (in_cells m chosen place) (in_stubs m chosen place)
    (any_there (in_cell m chosen place) m.layout.cells p here
    (and_from (uses_cell chosen m p.0) (is_among p.1 CELL_SIZE place) on (is_among_all p.1 CELL_SIZE place low high))))
is_mapped_all m chosen place (InStub p here on low high) =
    or_right (in_blocks m chosen place) (in_cells m chosen place || in_stubs m chosen place)
    (or_right (in_cells m chosen place) (in_stubs m chosen place)
    (any_there (in_stub m chosen place) m.layout.stubs p here
    (and_from (uses_stub chosen m p.0) (is_among p.1 STUB_SIZE place) on (is_among_all p.1 STUB_SIZE place low high))))

-- ---- members apart

member_inside : (m : Member) (chosen : ℕ → Bool) (place : ℕ) → IsLaidOut m → IsMapped m chosen place → place < m.layout.shape.need
member_inside m chosen place laid here =
    let g : LinkGraph = m.graph in
    let same : IsMapped (laid_out g laid.live m.base) chosen place = subst (λ (x : Member). IsMapped x chosen place) laid.is here in
    let inside = mapped_inside g laid.live m.base chosen place (lies_apart g laid.live laid.sound) same in
    let need : m.layout.shape.need ≡ unit_need g laid.live = ap (λ (x : Member). x.layout.shape.need) laid.is in
    omega (arith, inside, need)

-- an address is that of a mapped place
HasPlace : Member → (ℕ → Bool) → ℕ → Type 0
HasPlace m chosen at = (m.base ≤ at) × IsMapped m chosen (at - m.base)

place_below : (m : Member) (chosen : ℕ → Bool) (at : ℕ) → IsLaidOut m → HasPlace m chosen at → (m.base ≤ at) × (at < m.base + m.layout.shape.need)
unfolding HasPlace
place_below m chosen at laid here =
    let inside = member_inside m chosen (at - m.base) laid here.1 in
    let low = here.0 in
    (low, omega (arith, inside, low))

-- what is chosen is needed, and the needed members were laid out and lie apart
record IsLinkable (members : List Member) (spots : Spots) (first : Option (ℕ × ℕ)) (chosen : ℕ → ℕ → Bool) : Type 0 where
  needed : (o b : ℕ) → chosen o b ≡ true → IsNeeded members spots first (o, b)
  laid : (k : ℕ) (m : Member) → IsNeededMember members spots first k m → IsLaidOut m
  apart : LieApart members spots first

-- a member with a mapped place is needed
place_needed : (members : List Member) (spots : Spots) (first : Option (ℕ × ℕ)) (chosen : ℕ → ℕ → Bool) (k at : ℕ) (m : Member) → IsLinkable members spots first chosen → slice_get members k ≡ Some m → HasPlace m (chosen k) at → IsNeededMember members spots first k m
unfolding HasPlace
place_needed members spots first chosen k at m linkable there here =
    let block = mapped_chosen m (chosen k) (at - m.base) here.1 in
    record { there = there; block = block.0; needed = linkable.needed k block.0 block.1 }

one_member : (members : List Member) (spots : Spots) (first : Option (ℕ × ℕ)) (chosen : ℕ → ℕ → Bool) (j k at : ℕ) (m n : Member) → IsLinkable members spots first chosen → slice_get members j ≡ Some m → slice_get members k ≡ Some n → HasPlace m (chosen j) at → HasPlace n (chosen k) at → j ≡ k
one_member members spots first chosen j k at m n linkable there there' here here' = elim (cases_eq j k) [
  | inl same ↦ same
  | inr differ ↦
      let needed = place_needed members spots first chosen j at m linkable there here in
      let needed' = place_needed members spots first chosen k at n linkable there' here' in
      let one = place_below m (chosen j) at (linkable.laid j m needed) here in
      let other = place_below n (chosen k) at (linkable.laid k n needed') here' in
      absurd (elim (linkable.apart j k m n needed needed' differ) [
        | inl before ↦ omega (arith, before, one.1, other.0)
        | inr after ↦ omega (arith, after, one.0, other.1)
      ])
]

-- ---- the memory

holds : Option Member → (ℕ → Bool) → ℕ → Bool
holds None chosen at = false
holds (Some m) chosen at = nat_le m.base at && is_mapped m chosen (at - m.base)

holds_is : (o : Option Member) (chosen : ℕ → Bool) (at : ℕ) → holds o chosen at ≡ true → (m : Member) × (o ≡ Some m) × HasPlace m chosen at
unfolding holds HasPlace
holds_is None chosen at e = absurd cc
holds_is (Some m) chosen at e =
    let parts = and_parts (nat_le m.base at) (is_mapped m chosen (at - m.base)) e in
    (m, refl, (leb-true m.base at parts.0, mapped_is m chosen (at - m.base) parts.1))

holds_all : (o : Option Member) (chosen : ℕ → Bool) (at : ℕ) (m : Member) → o ≡ Some m → HasPlace m chosen at → holds o chosen at ≡ true
unfolding holds HasPlace
holds_all o chosen at m is here =
    ap (λ (x : Option Member). holds x chosen at) is
    ∙ and_from (nat_le m.base at) (is_mapped m chosen (at - m.base)) (le-leb m.base at here.0) (is_mapped_all m chosen (at - m.base) here.1)

byte_of : Option Member → (ℕ → Bool) → (ℕ → ℕ) → ℕ → Option ℕ
byte_of None chosen address at = None
byte_of (Some m) chosen address at = Some (linked_byte m chosen address (at - m.base))

byte_by : List Member → Spots → (ℕ → ℕ → Bool) → ℕ → Option ℕ → Option ℕ
byte_by members spots chosen at None = None
byte_by members spots chosen at (Some k) = byte_of (slice_get members k) (chosen k) (λ s. (spots k s).address) at

-- the number of the first member that has a mapped place there
owner_of : List Member → (ℕ → ℕ → Bool) → ℕ → Option ℕ
owner_of members chosen at = find (λ k. holds (slice_get members k) (chosen k) at) (numbers (length members))

memory_of : List Member → Spots → (ℕ → ℕ → Bool) → ℕ → Option ℕ
memory_of members spots chosen at = byte_by members spots chosen at (owner_of members chosen at)

owner_is : (members : List Member) (chosen : ℕ → ℕ → Bool) (at k : ℕ) → owner_of members chosen at ≡ Some k → (m : Member) × (slice_get members k ≡ Some m) × HasPlace m (chosen k) at
unfolding owner_of
owner_is members chosen at k e = holds_is (slice_get members k) (chosen k) at (found (λ j. holds (slice_get members j) (chosen j) at) (numbers (length members)) k e).1

some_owner : (members : List Member) (chosen : ℕ → ℕ → Bool) (at k : ℕ) (m : Member) → slice_get members k ≡ Some m → HasPlace m (chosen k) at → (j : ℕ) × (owner_of members chosen at ≡ Some j)
unfolding owner_of
some_owner members chosen at k m there here =
    let test : ℕ → Bool = λ j. holds (slice_get members j) (chosen j) at in
    first_found test (numbers (length members))
    (any_there test (numbers (length members)) k (number_there (length members) k (slice_get_within members k m there)) (holds_all (slice_get members k) (chosen k) at m there here))

owner_there : (members : List Member) (spots : Spots) (entry : Option (ℕ × ℕ)) (chosen : ℕ → ℕ → Bool) (at k : ℕ) (m : Member) → IsLinkable members spots entry chosen → slice_get members k ≡ Some m → HasPlace m (chosen k) at → owner_of members chosen at ≡ Some k
owner_there members spots entry chosen at k m linkable there here =
    let first = some_owner members chosen at k m there here in
    let owner = owner_is members chosen at first.0 first.1 in
    first.1 ∙ ap (λ (j : ℕ). Some j) (one_member members spots entry chosen first.0 k at owner.0 m linkable owner.1 there owner.2 here)

memory_has : (members : List Member) (spots : Spots) (first : Option (ℕ × ℕ)) (chosen : ℕ → ℕ → Bool) → IsLinkable members spots first chosen → (o place : ℕ) (m : Member) → slice_get members o ≡ Some m → IsMapped m (chosen o) place → memory_of members spots chosen (m.base + place) ≡ Some (linked_byte m (chosen o) (λ s. (spots o s).address) place)
unfolding memory_of byte_by byte_of HasPlace
memory_has members spots first chosen linkable o place m there here =
    let at : ℕ = m.base + place in
    let back : at - m.base ≡ place = omega arith in
    let mapped : IsMapped m (chosen o) (at - m.base) = subst (λ (p : ℕ). IsMapped m (chosen o) p) (sym back) here in
    ap (byte_by members spots chosen at) (owner_there members spots first chosen at o m linkable there (omega arith, mapped))
    ∙ ap (λ (x : Option Member). byte_of x (chosen o) (λ s. (spots o s).address) at) there
    ∙ ap (λ (p : ℕ). Some (linked_byte m (chosen o) (λ s. (spots o s).address) p)) back

only_by : (members : List Member) (spots : Spots) (chosen : ℕ → ℕ → Bool) (at : ℕ) (o : Option ℕ) → owner_of members chosen at ≡ o → IsSome (byte_by members spots chosen at o) → IsLinkedAt members chosen at
unfolding byte_by HasPlace
only_by members spots chosen at None e some = absurd cc
only_by members spots chosen at (Some k) e some =
    let owner = owner_is members chosen at k e in
    let low = owner.2.0 in
    record { number = k; member = owner.0; there = owner.1; place = at - owner.0.base; mapped = owner.2.1; is = omega (arith, low) }

memory_only : (members : List Member) (spots : Spots) (chosen : ℕ → ℕ → Bool) (at : ℕ) → IsSome (memory_of members spots chosen at) → IsLinkedAt members chosen at
unfolding memory_of
memory_only members spots chosen at some = only_by members spots chosen at (owner_of members chosen at) refl some

pub program_is_there : ProgramIsThere
program_is_there members spots first laid apart =
    let chosen : ℕ → ℕ → Bool = λ o b. is_needed members spots first (o, b) in
    let needed : (o b : ℕ) → chosen o b ≡ true → IsNeeded members spots first (o, b) = λ o b e. needed_is members spots first (o, b) e in (
      memory_of members spots chosen,
      record {
        chosen = chosen;
        needed = needed;
        closed = λ o b e. is_needed_all members spots first (o, b) e;
        has = memory_has members spots first chosen (record { needed = needed; laid = laid; apart = apart });
        only = memory_only members spots chosen;
      },
    )
