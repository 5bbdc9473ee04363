-- How large a unit gets: each block takes its size and less than 4,096 bytes of gap.
use Rattle.std.proofs.Common.{◌≡◌, ℕ, ◌+◌, ◌*◌, ◌<◌, ◌≤◌, List, length, take, get_or, sym, ap, subst, ◌∙◌, inl, inr, arith}
use Rattle.std.specs.Prelude.{sum_by}
use Rattle.std.proofs.lemmas.Bool.{cases_lt}
use Rattle.std.proofs.lemmas.Nat.{pow_below}
use Rattle.std.proofs.lemmas.List.Sums.{sum_by_more, sum_by_more_le, sum_by-take-le}
use Rattle.link_model.proofs.Layouts.{align_positive}
use Rattle.link_model.specs.Sound.{IsAlignment, IsSized, MAX_BLOCKS, MAX_BYTES}
use Rattle.link_model.specs.declared.graph.Block.{Block}
use Rattle.link_model.specs.declared.graph.LinkGraph.{LinkGraph}

pub align_small : (align : ℕ) → IsAlignment align → align ≤ 4096
align_small align is = elim (cases_lt is.0 12) [
  | inl below ↦ omega (arith, is.2, pow_below is.0 12 below)
  | inr above ↦ (let last : is.0 ≡ 12 = omega (arith, is.1) in rw (is.2, last) (omega arith))
]

-- the sizes of the first k blocks
abbrev pub sizes_below : List Block → ℕ → ℕ
sizes_below bs k = sum_by (λ (b : Block). b.size) (take k bs)

pub record Room (bs : List Block) (k : ℕ) (b : Block) : Type 0 where
  pub positive : 0 < b.align
  pub small : b.align ≤ 4096
  pub few : k < MAX_BLOCKS
  pub next : sizes_below bs (k + 1) ≡ sizes_below bs k + b.size
  pub below : sizes_below bs k + b.size ≤ MAX_BYTES

pub block_room : (g : LinkGraph) (bs : List Block) (k : ℕ) (b : Block) → IsSized g → bs ≡ g.blocks → k < length bs → b ≡ get_or bs k b → Room g.blocks k b
block_room g bs k b sized same lt is =
    let lt' : k < length g.blocks = subst (λ (xs : List Block). k < length xs) same lt in
    let is' : b ≡ get_or g.blocks k b = subst (λ (xs : List Block). b ≡ get_or xs k b) same is in
    let aligned : IsAlignment b.align = subst (λ (x : Block). IsAlignment x.align) (sym is') (sized.aligns k b lt') in
    let size : (get_or g.blocks k b).size ≡ b.size = ap (λ (x : Block). x.size) (sym is') in
    record {
      positive = align_positive b.align aligned;
      small = align_small b.align aligned;
      few = omega (arith, sized.blocks, lt');
      next = sum_by_more (λ (x : Block). x.size) g.blocks k b lt' ∙ ap (λ (n : ℕ). sizes_below g.blocks k + n) size;
      below = omega (arith, sized.bytes, sum_by_more_le (λ (x : Block). x.size) g.blocks k b lt', size);
    }

pub end_low : (g : LinkGraph) (k end : ℕ) → IsSized g → k ≤ length g.blocks → end ≤ sizes_below g.blocks k + 4095 * k → end ≤ 80 * 1024 * 1024
end_low g k end sized few low = omega (arith, sized.blocks, sized.bytes, sum_by-take-le (λ (x : Block). x.size) g.blocks k)
