-- The units of the link queries that settled are linked, one after the other.
use Rattle.std.proofs.Common.{◌≡◌, false, List, [], ◌∷◌, drop, length, slice_get, Option, Some, None, refl, ap, sym, subst, ◌∙◌}
use Rattle.std.specs.Bool.{if◌then◌else◌}
use Rattle.std.specs.Option.{option_map_or}
use Rattle.std.proofs.lemmas.Option.{none-some, same_Some}
use Rattle.orc_ids.specs.declared.ids.UnitId.{UnitId}
use Rattle.session_model.specs.Meaning.{Meaning}
use Rattle.session_model.specs.Plain.{Plain, UnitRow, is_waiting}
use Rattle.session_model.specs.Change.{finish_listed, settled}
use Rattle.session_model.specs.declared.rows.Query.{Query}
use Rattle.session_model.specs.declared.rows.UnitPhase.TheVariants as stage
use Rattle.instances.specs.Graph.{Graph}
use Rattle.query_book.specs.declared.ends.QueryEnd.{QueryEnd}
use Rattle.query_book.specs.Ledger.{Ledger}
use Rattle.session_parts.specs.declared.parts.Parts.{Parts}
use Rattle.session_parts.specs.Dues.{dues, linked_due, all_linked, WaitsOpen, WaitsOwn}
use Rattle.session_parts.specs.Parts.{AreParts}
use Rattle.session_parts.proofs.Dues.{dues_settle}

-- a unit that waits is linked
pub due_waiting : (m : Plain) (u : UnitId) (x : UnitRow) → slice_get m.units u.0 ≡ Some x → x.phase ≡ stage.Waiting → linked_due u m ≡ finish_listed u.0 m
due_waiting m u x e p = ap (λ b. if b then finish_listed u.0 m else m) (ap (λ o. option_map_or (λ (y : UnitRow). is_waiting y.phase) o false) e ∙ ap is_waiting p)

-- those so far are linked
pub record Linking {U N : Type 0} (means : U → Meaning) (start now : Parts U N) : Type 0 where
  pub parts : (m : Plain) → AreParts means start m → (n : Plain) × AreParts means now n × (all_linked now.book.due n ≡ all_linked start.book.due m)
  pub book : now.book ≡ record (start.book) { due = now.book.due }
  pub only : now ≡ record start { units = now.units; book = now.book }

pub none_linked : {U N : Type 0} (means : U → Meaning) (p : Parts U N) → Linking means p p
none_linked means p = record { parts = λ m a. (m, a, refl); book = refl; only = refl }

next_due : (us : List UnitId) (u : UnitId) (n : Plain) → slice_get us 0 ≡ Some u → all_linked us n ≡ all_linked (drop 1 us) (linked_due u n)
next_due [] u n e = absurd (none-some u e)
next_due (v ∷ vs) u n e = ap (λ w. all_linked vs (linked_due w n)) (same_Some v u e)

-- the book alone is changed
pub with_book : {U N : Type 0} (means : U → Meaning) (p : Parts U N) (book : Ledger N) (m : Plain) → AreParts means p m → AreParts means (record p { book = book }) m
with_book means p book m a = record { kept = a.kept; spans = a.spans }

pub one_linked : {U N : Type 0} (means : U → Meaning) (start now new : Parts U N) (book : Ledger N) (u : UnitId) → Linking means start now → slice_get now.book.due 0 ≡ Some u → book ≡ record (now.book) { due = drop 1 now.book.due } →
    ((m : Plain) → AreParts means (record now { book = book }) m → AreParts means new (linked_due u m)) → new ≡ record now { units = new.units; book = book } → Linking means start new
one_linked {U} {N} means start now new book u l first rest links only = record {
  parts = λ m a. let n = l.parts m a in (linked_due u n.0, links n.0 (with_book means now book n.0 n.1), ap (λ us. all_linked us (linked_due u n.0)) due ∙ (sym (next_due now.book.due u n.0 first) ∙ n.2));
  book = books ∙ (rest ∙ (ap (λ (b : Ledger N). record b { due = drop 1 now.book.due }) l.book ∙ ap (λ us. record (start.book) { due = us }) (sym due)));
  only = only ∙ (ap (λ (p : Parts U N). record p { units = new.units; book = book }) l.only ∙ ap (λ b. record start { units = new.units; book = b }) (sym books));
}
  where
    books : new.book ≡ book
    books = ap (λ (p : Parts U N). p.book) only

    due : new.book.due ≡ drop 1 now.book.due
    due = ap (λ (b : Ledger N). b.due) (books ∙ rest)

pub none_is_due : (us : List UnitId) → slice_get us 0 ≡ None → us ≡ []
none_is_due [] e = refl
none_is_due (u ∷ us) e = absurd (none-some u (sym e))

pub all_are_linked : {U N : Type 0} (means : U → Meaning) (start now : Parts U N) → Linking means start now → slice_get now.book.due 0 ≡ None → (m : Plain) → AreParts means start m → AreParts means now (all_linked start.book.due m)
all_are_linked means start now l none m a = let n = l.parts m a in subst (AreParts means now) (ap (λ us. all_linked us n.0) (sym (none_is_due now.book.due none)) ∙ n.2) n.1

-- the instances that changed are told, and the book has gone on
pub with_told : {U N : Type 0} (means : U → Meaning) (p : Parts U N) (graph : Graph) (book : Ledger N) (m : Plain) → AreParts means p m → graph ≡ record (p.graph) { changed = [] } → AreParts means (record p { graph = graph; book = book }) m
with_told means p graph book m a e = subst (λ g. AreParts means (record p { graph = g; book = book }) m) (sym e) (record { kept = a.kept; spans = a.spans })

-- what settling leads to
pub settled_by : (m : Plain) (due : List UnitId) (queries : List Query) (ends : List (Option QueryEnd)) → queries ≡ m.queries → length ends ≡ length m.queries → WaitsOpen m ends → WaitsOwn m.queries m.units → due ≡ dues m.rows queries ends → all_linked due m ≡ settled m
settled_by m due queries ends q l w own d = ap (λ us. all_linked us m) d ∙ (ap (λ qs. all_linked (dues m.rows qs ends) m) q ∙ dues_settle m ends l w own)
