use Rattle.std.proofs.Common.{◌<◌, ap, ◌∙◌, length, get_or, arith, arith}
use Rattle.std.proofs.lemmas.List.FromFn.{length-map-range_with_len, get_or-map-range_with_len}
use Rattle.elf_read.specs.Sections.{rela_of}
use Rattle.elf_read.proofs.table.Table.rela.Goals as goal

pub index-requires : goal.index-requires
index-requires c =
    let len = ap length c.self.invariant.0.relas_are in
    omega (arith, len, length-map-range_with_len (rela_of c.self.inside.file) 0 c.self.inside.file.count, ap (λ f. f.count) c.self.view_is)

pub returns : goal.returns
returns c =
    let lt : c.args.i < c.self.inside.file.count = omega (arith, ap (λ f. f.count) c.self.view_is) in
    c.index.ensures ∙ ap (λ xs. get_or xs c.args.i c.index.result.now) c.self.invariant.0.relas_are
    ∙ get_or-map-range_with_len (rela_of c.self.inside.file) 0 c.self.inside.file.count c.args.i c.args.i c.index.result.now lt (omega arith)
    ∙ ap (λ f. rela_of f c.args.i) c.self.view_is
