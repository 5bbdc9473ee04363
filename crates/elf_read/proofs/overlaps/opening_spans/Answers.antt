use Rattle.std.proofs.Common.{◌*◌, ℕ, refl, ap}
use Rattle.elf_read.proofs.Apart.{spans-opened}
use Rattle.elf_read.proofs.overlaps.opening_spans.Goals as goal

pub returns : goal.returns
returns c = λ k.
    rw (c.in_ok-push-2.ensures.items, c.in_ok-push.ensures.items, c.new-spans.ensures.items) (
    spans-opened c.args.table.now (record { start = 0; size = 64 }) (record { start = c.place.result; size = 64 * c.count.result }) refl refl c.place.ensures.place
    (ap (λ (n : ℕ). 64 * n) c.count.ensures)
    k)
