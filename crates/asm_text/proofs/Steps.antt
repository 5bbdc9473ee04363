-- One item of a directive, and one line of a text.
use Rattle.std.proofs.Common.{◌≡◌, ℕ, ◌+◌, ◌<◌, List, ◌∷◌, length, get_or, drop, Option, Some, None, sym, ◌∙◌, ap, add-one}
use Rattle.std.proofs.Math.Seq.{drop-cons}
use Rattle.asm_lines.specs.declared.statement.AsmWhy.{AsmWhy}
use Rattle.asm_lines.specs.declared.statement.Item.{Item}
use Rattle.asm_text.specs.declared.reading.BadLine.{BadLine}
use Rattle.asm_text.specs.Known.{Known}
use Rattle.asm_text.specs.Said.{with_item, with_items}
use Rattle.asm_text.specs.Texts.{line_read, read_on, read_from}

items_from : (items : List Item) (i : ℕ) (d : Item) → i < length items → drop i items ≡ get_or items i d ∷ drop (i + 1) items
items_from items i d lt = rw add-one (drop-cons items i d lt)

pub next_item : (width : ℕ) (items : List Item) (i : ℕ) (d : Item) (k m whole : Known) → i < length items → with_items width (drop i items) k ≡ whole → m ≡ with_item width (get_or items i d) k → with_items width (drop (i + 1) items) m ≡ whole
next_item width items i d k m whole lt so_far next =
    ap (with_items width (drop (i + 1) items)) next ∙ sym (ap (λ xs. with_items width xs k) (items_from items i d lt)) ∙ so_far

pub next_line : (number : ℕ) (k m : Known) (text : List ℕ) (lines rest : List (List ℕ)) (whole : Known × Option BadLine) → read_from number k lines ≡ whole → lines ≡ text ∷ rest → line_read (number + 1) text k ≡ (m, None) → read_from (number + 1) m rest ≡ whole
next_line number k m text lines rest whole so_far is good =
    sym (ap (λ r. read_on (number + 1) r (λ more. read_from (number + 1) more rest)) good) ∙ sym (ap (read_from number k) is) ∙ so_far

pub bad_line : (number : ℕ) (k m : Known) (text : List ℕ) (lines rest : List (List ℕ)) (whole : Known × Option BadLine) (why : AsmWhy) → read_from number k lines ≡ whole → lines ≡ text ∷ rest → line_read (number + 1) text k ≡ (m, Some why) → whole ≡ (m, Some (record { line = number + 1; why = why }))
bad_line number k m text lines rest whole why so_far is bad =
    sym so_far ∙ ap (read_from number k) is ∙ ap (λ r. read_on (number + 1) r (λ more. read_from (number + 1) more rest)) bad
