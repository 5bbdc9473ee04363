-- Units lose the names of replaced instances, one instance after the other.
use Rattle.std.proofs.Common.{◌≡◌, ℕ, zero, suc, ◌+◌, ◌⊎◌, inl, inr, Bool, true, false, ◌&&◌, ◌||◌, not, List, [], ◌∷◌, ◌++◌, length, slice_get, Option, Some, None, option_map, refl, ap, ap₂, sym, subst, ◌∙◌}
use Rattle.std.specs.Prelude.{◌==◌}
use Rattle.std.specs.Option.{option_map_or}
use Rattle.std.proofs.lemmas.Bool.{cases_eq, ne_eqb, eq-eqb}
use Rattle.std.proofs.lemmas.Option.{none-some, same_Some}
use Rattle.list_laws.proofs.Lists.{list_same, lengths_from}
use Rattle.list_laws.proofs.Bools.{and_kept}
use Rattle.orc_ids.specs.declared.flags.SymFlags.{SymFlags}
use Rattle.orc_ids.specs.declared.ids.InstId.{InstId}
use Rattle.orc_ids.specs.declared.ids.NameId.{NameId}
use Rattle.session_model.specs.Lists.{changed_at, numbered}
use Rattle.session_model.specs.Plain.{Plain, row_test}
use Rattle.session_model.specs.Change.{verdicts}
use Rattle.session_model.specs.declared.rows.InstRow.{InstRow}
use Rattle.session_laws.specs.Sound.{IsSound}
use Rattle.session_laws.proofs.Declared.{changed_there, changed_elsewhere, element_below, numbered_at, test_is, numbered_same, replaced_here}
use Rattle.instances.specs.Table.{is_among}
use Rattle.jit_dylib.specs.Rows.{replaced_instances}
use Rattle.mat_unit.specs.Changes.{without_name}
use Rattle.mat_unit.specs.Roster.{Roster}
use Rattle.mat_unit.specs.declared.unit.Unit.{Unit as OneUnit}
use Rattle.session_parts.specs.Defined.{loses, AreLost, AreOf, unnamed}
use Rattle.session_parts.proofs.NewUnits.{among_is_replaced}
use Rattle.session_parts.proofs.OwnerChanges.{any_append}

or_false : (b : Bool) → (b || false) ≡ b
or_false true = refl
or_false false = refl

-- the flags of a unit that loses these names
abbrev left_flags : (ℕ → Bool) → List Bool → List Bool
left_flags lost live = numbered (λ k (flag : Bool). flag && not (lost k)) 0 live

abbrev left : {U : Type 0} → (ℕ → Bool) → OneUnit U → OneUnit U
left lost x = record x { live = left_flags lost x.live }

left_alike : {U : Type 0} (f g : ℕ → Bool) → ((k : ℕ) → f k ≡ g k) → (o : Option (OneUnit U)) → option_map (left f) o ≡ option_map (left g) o
left_alike f g h None = refl
left_alike f g h (Some x) = ap (λ l. Some (record x { live = l })) (flags 0 x.live)
  where
    flags : (j : ℕ) (live : List Bool) → numbered (λ k (flag : Bool). flag && not (f k)) j live ≡ numbered (λ k (flag : Bool). flag && not (g k)) j live
    flags j [] = refl
    flags j (flag ∷ live) = ap₂ (λ b bs. b ∷ bs) (ap (λ b. flag && not b) (h j)) (flags (j + 1) live)

-- no name is lost yet
pub none_lost : {U : Type 0} (rows : List InstRow) (units : List (OneUnit U)) → AreLost rows [] units units
none_lost {U} rows units u = one (slice_get units u)
  where
    one : (o : Option (OneUnit U)) → o ≡ option_map (left (loses rows [] u)) o
    one None = refl
    one (Some x) = ap (λ l. Some (record x { live = l })) (sym (numbered_same (λ k (flag : Bool). flag && not (loses rows [] u k)) (λ k flag. and_kept flag false refl) 0 x.live))

-- one name more
flag_gone : (n : ℕ) (f g : ℕ → Bool) → ((k : ℕ) → g k ≡ (f k || (n == k))) → (live : List Bool) → changed_at n (λ flag. false) (left_flags f live) ≡ left_flags g live
flag_gone n f g h live = list_same (changed_at n (λ flag. false) (left_flags f live)) (left_flags g live) (λ k. at k (cases_eq k n))
  where
    or_true : (b : Bool) → (b || true) ≡ true
    or_true true = refl
    or_true false = refl

    off : (b : Bool) → b ≡ true → (o : Option Bool) → option_map (λ (flag : Bool). false) (option_map (λ (flag : Bool). flag && not (f n)) o) ≡ option_map (λ (flag : Bool). flag && not b) o
    off b e None = refl
    off b e (Some true) = ap (λ c. Some (not c)) (sym e)
    off b e (Some false) = refl

    at : (k : ℕ) → (k ≡ n) ⊎ (k ≡ n → ⊥) → slice_get (changed_at n (λ flag. false) (left_flags f live)) k ≡ slice_get (left_flags g live) k
    at k (inl e) = subst (λ j. slice_get (changed_at n (λ flag. false) (left_flags f live)) j ≡ slice_get (left_flags g live) j) (sym e)
        (changed_there n (λ flag. false) (left_flags f live) ∙ (ap (option_map (λ (flag : Bool). false)) (numbered_at (λ k (flag : Bool). flag && not (f k)) live n)
        ∙ (off (g n) (h n ∙ (ap (λ b. f n || b) (eq-eqb n n refl) ∙ or_true (f n))) (slice_get live n) ∙ sym (numbered_at (λ k (flag : Bool). flag && not (g k)) live n))))
    at k (inr ne) = changed_elsewhere n (λ flag. false) (left_flags f live) k ne ∙ (numbered_at (λ k (flag : Bool). flag && not (f k)) live k
        ∙ (ap (λ b. option_map (λ (flag : Bool). flag && not b) (slice_get live k)) (sym (h k ∙ (ap (λ b. f k || b) (ne_eqb n k (λ s. ne (sym s))) ∙ or_false (f k)))) ∙ sym (numbered_at (λ k (flag : Bool). flag && not (g k)) live k)))

loses_more : (rows : List InstRow) (replaced : List InstId) (i : InstId) (u k : ℕ) → loses rows (replaced ++ i ∷ []) u k ≡ (loses rows replaced u k || row_test (λ r. r.unit.0 == u && r.offer == k) rows i.0)
loses_more rows replaced i u k = any_append (λ (j : InstId). row_test (λ r. r.unit.0 == u && r.offer == k) rows j.0) replaced (i ∷ []) ∙ ap (λ b. loses rows replaced u k || b) (or_false (row_test (λ r. r.unit.0 == u && r.offer == k) rows i.0))

pub one_lost : {U : Type 0} (rows : List InstRow) (replaced : List InstId) (i : InstId) (old mid new : List (OneUnit U)) → AreLost rows replaced old mid → new ≡ unnamed rows i mid → AreLost rows (replaced ++ i ∷ []) old new
one_lost {U} rows replaced i old mid new before is u = split (slice_get rows i.0) refl
  where
    gone : ℕ → ℕ → Bool
    gone v k = row_test (λ r. r.unit.0 == v && r.offer == k) rows i.0

    none_more : (v : ℕ) → ((k : ℕ) → gone v k ≡ false) → (o : Option (OneUnit U)) → option_map (left (loses rows replaced v)) o ≡ option_map (left (loses rows (replaced ++ i ∷ []) v)) o
    none_more v h o = left_alike (loses rows replaced v) (loses rows (replaced ++ i ∷ []) v) (λ k. sym (loses_more rows replaced i v k ∙ (ap (λ b. loses rows replaced v k || b) (h k) ∙ or_false (loses rows replaced v k)))) o

    named : (r : InstRow) → slice_get rows i.0 ≡ Some r → new ≡ changed_at r.unit.0 (without_name r.offer) mid
    named r e = is ∙ ap (λ o. option_map_or (λ (s : InstRow). changed_at s.unit.0 (without_name s.offer) mid) o mid) e

    test : (r : InstRow) → slice_get rows i.0 ≡ Some r → (v k : ℕ) → gone v k ≡ (r.unit.0 == v && r.offer == k)
    test r e v k = ap (λ o. option_map_or (λ (s : InstRow). s.unit.0 == v && s.offer == k) o false) e

    one : (r : InstRow) → slice_get rows i.0 ≡ Some r → (o : Option (OneUnit U)) → option_map (without_name r.offer) (option_map (left (loses rows replaced r.unit.0)) o) ≡ option_map (left (loses rows (replaced ++ i ∷ []) r.unit.0)) o
    one r e None = refl
    one r e (Some x) = ap (λ l. Some (record x { live = l })) (flag_gone r.offer (loses rows replaced r.unit.0) (loses rows (replaced ++ i ∷ []) r.unit.0)
        (λ k. loses_more rows replaced i r.unit.0 k ∙ ap (λ b. loses rows replaced r.unit.0 k || b) (test r e r.unit.0 k ∙ ap (λ b. b && r.offer == k) (eq-eqb r.unit.0 r.unit.0 refl))) x.live)

    found : (r : InstRow) → slice_get rows i.0 ≡ Some r → (v : ℕ) → (v ≡ r.unit.0) ⊎ (v ≡ r.unit.0 → ⊥) → slice_get new v ≡ option_map (left (loses rows (replaced ++ i ∷ []) v)) (slice_get old v)
    found r e v (inl s) = subst (λ n. slice_get new n ≡ option_map (left (loses rows (replaced ++ i ∷ []) n)) (slice_get old n)) (sym s)
        (ap (λ (us : List (OneUnit U)). slice_get us r.unit.0) (named r e) ∙ (changed_there r.unit.0 (without_name r.offer) mid ∙ (ap (option_map (without_name r.offer)) (before r.unit.0) ∙ one r e (slice_get old r.unit.0))))
    found r e v (inr n) = ap (λ (us : List (OneUnit U)). slice_get us v) (named r e) ∙ (changed_elsewhere r.unit.0 (without_name r.offer) mid v n ∙ (before v
        ∙ none_more v (λ k. test r e v k ∙ ap (λ b. b && r.offer == k) (ne_eqb r.unit.0 v (λ s. n (sym s)))) (slice_get old v)))

    split : (o : Option InstRow) → slice_get rows i.0 ≡ o → slice_get new u ≡ option_map (left (loses rows (replaced ++ i ∷ []) u)) (slice_get old u)
    split None e = ap (λ (us : List (OneUnit U)). slice_get us u) (is ∙ ap (λ o. option_map_or (λ (s : InstRow). changed_at s.unit.0 (without_name s.offer) mid) o mid) e)
        ∙ (before u ∙ none_more u (λ k. ap (λ o. option_map_or (λ (s : InstRow). s.unit.0 == u && s.offer == k) o false) e) (slice_get old u))
    split (Some r) e = found r e u (cases_eq u r.unit.0)

-- and nothing else is changed
pub one_rest : {U : Type 0} (start old new : Roster U) (units : List (OneUnit U)) → old ≡ record start { units = old.units } → new ≡ record old { units = units } → new ≡ record start { units = new.units }
one_rest {U} start old new units a b = subst (λ (r : Roster U). r ≡ record start { units = r.units }) (sym b) (ap (λ (r : Roster U). record r { units = units }) a)

-- there are as many units
pub lost_count : {U : Type 0} (rows : List InstRow) (replaced : List InstId) (old new : List (OneUnit U)) → AreLost rows replaced old new → length new ≡ length old
lost_count rows replaced old new lost = lengths_from old new (λ u x. left (loses rows replaced u) x) lost

-- Replaced instances

pub among_at : (is : List InstId) (k : ℕ) (i : InstId) → slice_get is k ≡ Some i → is_among is i.0 ≡ true
among_at [] k i e = absurd (none-some i e)
among_at (j ∷ js) zero i e = ap (λ b. b || is_among js i.0) (eq-eqb j.0 i.0 (ap (λ (x : InstId). x.0) (same_Some j i e)))
among_at (j ∷ js) (suc k) i e = ap (λ b. j.0 == i.0 || b) (among_at js k i e) ∙ or_true (j.0 == i.0)
  where
    or_true : (b : Bool) → (b || true) ≡ true
    or_true true = refl
    or_true false = refl

-- they are present, so their units are there
pub replaced_of : (m : Plain) (d : ℕ) (offers : List (NameId × SymFlags)) → IsSound m → AreOf m.rows (replaced_instances (verdicts m.rows d offers)) (length m.units)
replaced_of m d offers sound i r among e =
    let here = replaced_here m.rows d offers i (sym (among_is_replaced i (verdicts m.rows d offers)) ∙ among) in
    let fit = (sound.rows_fit i r e).here (sym (test_is (λ (y : InstRow). y.present) m.rows i r e) ∙ here) in
    element_below m.units r.unit.0 fit.0 fit.1
