use Rattle.std.proofs.Common.{◌≡◌, ◌*◌, ◌-◌, drop, length, true}
use Rattle.asm_text.specs.Refusals.{takes_bytes}
use Rattle.asm_text.specs.Said.{with_items}
use Rattle.asm_text.proofs.assembler.Assembler.put_items.Given as goal

-- the items that are left make the whole, and there is room for them
abbrev pub invariant-loop-item : goal.invariant-loop-item
invariant-loop-item l =
    (with_items l.width (drop l.item-index l.items) l.self ≡ with_items l.width l.items l.fn.self)
    × (takes_bytes (l.width * (length l.items - l.item-index)) l.self ≡ true)
