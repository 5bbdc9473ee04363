use Rattle.std.proofs.Common.{Bool, not, ◌||◌, ◌∷◌, sym, ap, ◌∙◌}
use Rattle.std.proofs.lemmas.Bool.{OnTrue_from, MatchBool-at_true}
use Rattle.std.proofs.lemmas.List.Sorted.{list_any-IsPermutation}
use Rattle.std.specs.HashSet.{IsUnchanged}
use Rattle.std.specs.List.{list_any}
use Rattle.std.specs.List.Sorted.{IsPermutation}
use Rattle.std.specs.Str.{bytes_eq}
use Rattle.list_laws.proofs.Each.{any_mapped}
use Rattle.elf_read.specs.declared.name_set.NameKey.{NameKey}
use Rattle.elf_read.proofs.name_set.NameSet.insert.Goals as goal

pub returns-clause-is_new : goal.returns-clause-is_new
returns-clause-is_new c =
    c.in_ok-insert.ensures.added
    ∙ ap not (sym (any_mapped (bytes_eq c.args.text.now) (λ (k : NameKey). k.text.now) c.self.inside.keys.keys) ∙ ap (list_any (bytes_eq c.args.text.now)) c.self.view_is)

pub returns-clause-grows : goal.returns-clause-grows
returns-clause-grows c =
    OnTrue_from c.in_ok-insert.field-0 _
    (λ added q.
    let p : NameKey → Bool = λ k. bytes_eq q k.text.now in
    let permuted = MatchBool-at_true (IsPermutation (record { text = c.args.text } ∷ c.self.inside.keys.keys) c.insert.new.self.keys) (IsUnchanged c.self.inside.keys c.insert.new.self) added c.in_ok-insert.ensures.keys in
    any_mapped (bytes_eq q) (λ (k : NameKey). k.text.now) c.insert.new.self.keys
    ∙ sym (list_any-IsPermutation p (record { text = c.args.text } ∷ c.self.inside.keys.keys) c.insert.new.self.keys permuted)
    ∙ ap (λ (b : Bool). bytes_eq q c.args.text.now || b) (sym (any_mapped (bytes_eq q) (λ (k : NameKey). k.text.now) c.self.inside.keys.keys) ∙ ap (list_any (bytes_eq q)) c.self.view_is))
