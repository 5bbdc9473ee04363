use Rattle.std.proofs.Common.{◌<◌, ℕ, ap, ◌∙◌, length, get_or, arith, arith}
use Rattle.std.proofs.lemmas.List.FromFn.{length-map-range_with_len, get_or-map-range_with_len}
use Rattle.elf_read.specs.Symbols.{kept_below}
use Rattle.elf_read.specs.File.{File}
use Rattle.elf_read.proofs.table.Table.kept_before.Goals as goal

abbrev kept_count : File → ℕ → ℕ
kept_count f i = length (kept_below f i)

pub index-requires : goal.index-requires
index-requires c =
    let len = ap length c.self.invariant.0.kept_are in
    omega (arith, len, length-map-range_with_len (kept_count c.self.inside.file) 0 c.self.inside.file.count, ap (λ f. f.count) c.self.view_is)

pub returns : goal.returns
returns c =
    let lt : c.args.i < c.self.inside.file.count = omega (arith, ap (λ f. f.count) c.self.view_is) in
    c.index.ensures ∙ ap (λ xs. get_or xs c.args.i c.index.result.now) c.self.invariant.0.kept_are
    ∙ get_or-map-range_with_len (kept_count c.self.inside.file) 0 c.self.inside.file.count c.args.i c.args.i c.index.result.now lt (omega arith)
    ∙ ap (λ f. kept_count f c.args.i) c.self.view_is
