-- What a frontier says of its entries is so of the rows that they are tied to.
use Rattle.std.proofs.Common.{◌≡◌, ℕ, Bool, true, false, ◌↔◌, List, [], ◌∷◌, Option, Some, None, option_map, slice_get, Contains, refl, ap, sym, subst, ◌∙◌}
use Rattle.std.specs.Option.{option_map_or}
use Rattle.std.specs.Prelude.{IsTrue}
use Rattle.list_laws.proofs.Bools.{bool_same}
use Rattle.graph_walks.specs.Walks.{IsPath}
use Rattle.graph_walks.proofs.Paths as walks
use Rattle.session_model.specs.Plain.{is_emitted, phase_deps, emitted_at}
use Rattle.session_model.specs.Reach.{deps_at, IsReady, is_ready}
use Rattle.session_model.specs.declared.rows.InstRow.{InstRow}
use Rattle.session_model.specs.declared.rows.Phase.{Phase}
use Rattle.session_model.specs.declared.rows.Phase.TheVariants as phase
use Rattle.session_laws.specs.Walks.{ReadyIsTested}
use Rattle.dep_groups.specs.Frontier as frontier
use Rattle.instances.specs.Table.{AreChanged}
use Rattle.instances.specs.Tied.{entry_of, IsTied}

-- an entry has the dependencies of its phase

deps_of : (p : Phase) → frontier.deps_of_entry (entry_of p) ≡ phase_deps p
deps_of phase.Unsearched = refl
deps_of phase.Claimed = refl
deps_of (phase.Resolved address) = refl
deps_of (phase.Emitted address deps) = refl
deps_of phase.Failed = refl

pub emitted_of : (p : Phase) → frontier.is_emitted (entry_of p) ≡ is_emitted p
emitted_of phase.Unsearched = refl
emitted_of phase.Claimed = refl
emitted_of (phase.Resolved address) = refl
emitted_of (phase.Emitted address deps) = refl
emitted_of phase.Failed = refl

row_deps : (o : Option InstRow) → frontier.deps_of_entry (option_map_or (λ r. entry_of r.phase) o frontier.Absent) ≡ option_map_or (λ r. phase_deps r.phase) o []
row_deps None = refl
row_deps (Some r) = deps_of r.phase

row_emitted : (o : Option InstRow) → frontier.is_emitted (option_map_or (λ r. entry_of r.phase) o frontier.Absent) ≡ option_map_or (λ r. is_emitted r.phase) o false
row_emitted None = refl
row_emitted (Some r) = emitted_of r.phase

pub next_tied : (rows : List InstRow) (entries : List frontier.Entry) → IsTied rows entries → (i : ℕ) → frontier.next_of entries i ≡ deps_at rows i
next_tied rows entries t i = ap frontier.deps_of_entry (t.each i) ∙ row_deps (slice_get rows i)

pub emitted_tied : (rows : List InstRow) (entries : List frontier.Entry) → IsTied rows entries → (i : ℕ) → frontier.is_emitted_at entries i ≡ emitted_at rows i
emitted_tied rows entries t i = ap frontier.is_emitted (t.each i) ∙ row_emitted (slice_get rows i)

-- Walks over the same dependencies

pub path_same : (f g : ℕ → List ℕ) → ((i : ℕ) → f i ≡ g i) → (i : ℕ) (path : List ℕ) (j : ℕ) → IsPath f i path j → IsPath g i path j
path_same f g h i [] j e = e
path_same f g h i (k ∷ ks) j e = (subst (λ xs. Contains xs k) (h i) e.0, path_same f g h k ks j e.1)

pub ready_rows : (rows : List InstRow) (entries : List frontier.Entry) → IsTied rows entries → (i : ℕ) → frontier.IsReady entries i → IsReady rows i
ready_rows rows entries t i h = record {
  each = λ j r. sym (emitted_tied rows entries t j) ∙ h.each j (record { path = r.path; leads = path_same (deps_at rows) (frontier.next_of entries) (λ k. sym (next_tied rows entries t k)) i r.path j r.leads });
}

pub ready_entries : (rows : List InstRow) (entries : List frontier.Entry) → IsTied rows entries → (i : ℕ) → IsReady rows i → frontier.IsReady entries i
ready_entries rows entries t i h = record {
  each = λ j r. emitted_tied rows entries t j ∙ h.each j (record { path = r.path; leads = path_same (frontier.next_of entries) (deps_at rows) (next_tied rows entries t) i r.path j r.leads });
}

-- the test over the rows is readiness over the entries
pub tested : ReadyIsTested → (rows : List InstRow) (entries : List frontier.Entry) → IsTied rows entries → (i : ℕ) → (is_ready rows i ≡ true) ↔ frontier.IsReady entries i
tested law rows entries t i = (λ e. ready_entries rows entries t i ((law rows i).0 e), λ h. (law rows i).1 (ready_rows rows entries t i h))

-- What is ready reaches only what is

ready_next : (entries : List frontier.Entry) (a k : ℕ) → frontier.IsReady entries a → Contains (frontier.next_of entries a) k → frontier.IsReady entries k
ready_next entries a k h c = record { each = λ j r. h.each j (walks.reaches_next (frontier.next_of entries) a k j c r) }

pub ready_self : (entries : List frontier.Entry) (a : ℕ) → frontier.IsReady entries a → frontier.is_emitted_at entries a ≡ true
ready_self entries a h = h.each a (walks.reaches_self (frontier.next_of entries) a)

-- where the entries of all that is ready stay
pub ready_carried : (entries new : List frontier.Entry) → ((a : ℕ) → frontier.IsReady entries a → frontier.entry_at new a ≡ frontier.entry_at entries a) → (i : ℕ) → frontier.IsReady entries i → frontier.IsReady new i
ready_carried entries new same i h = record {
  each = λ j r.
      let there : frontier.IsReady entries j = walks.closed_reached (frontier.next_of new) (frontier.IsReady entries)
      (λ a k g c. ready_next entries a k g (subst (λ x. Contains (frontier.deps_of_entry x) k) (same a g) c)) i j h r in
      ap frontier.is_emitted (same j there) ∙ ready_self entries j there;
}

-- rows that are tied to entries with the same readiness
pub ready_same : ReadyIsTested → (rows new : List InstRow) (entries after : List frontier.Entry) → IsTied rows entries → IsTied new after → (i : ℕ) → (frontier.IsReady entries i → frontier.IsReady after i) → (frontier.IsReady after i → is_ready rows i ≡ true) → is_ready new i ≡ is_ready rows i
ready_same law rows new entries after t s i on back = bool_same (is_ready new i) (is_ready rows i)
    (λ e. back ((tested law new after s i).0 e))
    (λ e. (tested law new after s i).1 (on ((tested law rows entries t i).0 e)))

-- the entries stay
pub ready_kept : ReadyIsTested → (rows new : List InstRow) (entries : List frontier.Entry) → IsTied rows entries → IsTied new entries → (i : ℕ) → is_ready new i ≡ is_ready rows i
ready_kept law rows new entries t s i = ready_same law rows new entries entries t s i (λ h. h) (λ h. (tested law rows entries t i).1 h)

-- what a flag says
pub flag_is : ReadyIsTested → (rows : List InstRow) (entries : List frontier.Entry) → IsTied rows entries → (i : ℕ) (answer : Bool) → IsTrue answer ↔ frontier.IsReady entries i → answer ≡ is_ready rows i
flag_is law rows entries t i answer flag = bool_same answer (is_ready rows i) (λ e. (tested law rows entries t i).1 (flag.0 e)) (λ e. flag.1 ((tested law rows entries t i).0 e))

pub ready_emitted : ReadyIsTested → (rows : List InstRow) (i : ℕ) → is_ready rows i ≡ true → emitted_at rows i ≡ true
ready_emitted law rows i e = ((law rows i).0 e).each i (record { path = []; leads = refl })

-- Rows that change and stay tied

tied_one : (f : InstRow → InstRow) (o : Option InstRow) → ((r : InstRow) → o ≡ Some r → entry_of (f r).phase ≡ entry_of r.phase) → option_map_or (λ r. entry_of r.phase) o frontier.Absent ≡ option_map_or (λ r. entry_of r.phase) (option_map f o) frontier.Absent
tied_one f None h = refl
tied_one f (Some r) h = sym (h r refl)

pub tied_changed : (f : ℕ → InstRow → InstRow) (rows new : List InstRow) (entries : List frontier.Entry) → AreChanged f rows new → ((i : ℕ) (r : InstRow) → slice_get rows i ≡ Some r → entry_of (f i r).phase ≡ entry_of r.phase) → IsTied rows entries → IsTied new entries
tied_changed f rows new entries step same t = record {
  each = λ i. t.each i ∙ tied_one (f i) (slice_get rows i) (same i) ∙ ap (λ o. option_map_or (λ (r : InstRow). entry_of r.phase) o frontier.Absent) (sym (step i));
}
