use Rattle.std.proofs.Common.{◌≡◌, ◌<◌, sym, ap, ◌∙◌, arith}
use Rattle.std.proofs.lemmas.Result.{err_from_is_err_and}
use Rattle.std.specs.List.{list_any}
use Rattle.std.specs.Str.{bytes_eq}
use Rattle.elf_read.specs.Symbols.{symbol_refusal, symbol_count}
use Rattle.elf_read.proofs.Firsts.{first_below-more, refuses-found}
use Rattle.elf_read.proofs.Taken.{is_taken-first, refusal-first, symbol_count-positive}
use Rattle.elf_read.proofs.symbols.check_symbols.Goals as goal

pub loop-j-init : goal.loop-j-init
loop-j-init c = (refusal-first c.args.table.now, λ q. ap (list_any (bytes_eq q)) c.new-names.ensures ∙ sym (is_taken-first c.args.table.now q))

pub loop-j-preserved : goal.loop-j-preserved
loop-j-preserved c =
    (first_below-more c.loop-j.j (symbol_refusal c.args.table.now) c.loop-j.invariant.0 c.in_ok-check_symbol.ensures.agrees, c.in_ok-check_symbol.ensures.names)

pub returns-in_err-check_symbol : goal.returns-in_err-check_symbol
returns-in_err-check_symbol c =
    let p = err_from_is_err_and c.from_residual-in_err-check_symbol.result c.from_residual-in_err-check_symbol.ensures.1 in
    let lt : c.loop-j.j < symbol_count c.args.table.now = omega arith in
    rw (p.1, p.2) (refuses-found (symbol_count c.args.table.now) c.loop-j.j (symbol_refusal c.args.table.now) c.in_err-check_symbol.field-0.0 c.loop-j.invariant.0 c.in_err-check_symbol.ensures.agrees lt)

pub returns : goal.returns
returns c =
    let whole : c.loop-j.j ≡ symbol_count c.args.table.now = omega (arith, symbol_count-positive c.args.table.now) in
    rw whole at c.loop-j.invariant.0
