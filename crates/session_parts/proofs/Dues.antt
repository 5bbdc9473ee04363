-- The link queries that settle list each Finish that settling lists.
use Rattle.std.proofs.Common.{◌≡◌, ℕ, zero, suc, ◌+◌, Bool, true, false, ◌&&◌, nat_eq, List, [], ◌∷◌, ◌++◌, length, slice_get, Option, Some, None, refl, ap, sym, ◌∙◌, arith}
use Rattle.std.specs.Bool.{if◌then◌else◌}
use Rattle.std.specs.Prelude.{option_map, option_to_list}
use Rattle.std.specs.Option.{option_map_or}
use Rattle.std.proofs.lemmas.Bool.{both_ways, eq-eqb, false_from_ne_true}
use Rattle.std.proofs.lemmas.Option.{none-some, same_Some}
use Rattle.session_model.proofs.Units.{waiting_from}
use Rattle.session_model.proofs.Phases.{waiting_stage}
use Rattle.query_book.specs.Rows.{unit_of}
use Rattle.orc_ids.specs.declared.ids.UnitId.{UnitId}
use Rattle.session_model.specs.Plain.{Plain, UnitRow, is_waiting}
use Rattle.session_model.specs.Query.{is_met, ending}
use Rattle.session_model.specs.Change.{settled, settled_from, settled_one, finish_listed, waits_for}
use Rattle.session_model.specs.declared.rows.Query.{Query}
use Rattle.session_model.specs.declared.rows.UnitPhase.TheVariants as stage
use Rattle.session_laws.specs.Sound.{IsSound}
use Rattle.session_laws.proofs.Declared.{waiting_parts, NoMetWaits, one_rows}
use Rattle.query_book.specs.declared.ends.QueryEnd.{QueryEnd}
use Rattle.session_parts.specs.Dues.{dues, waits_at, linked_due, all_linked, WaitsOpen, WaitsOwn}
use Rattle.session_parts.specs.Ends.{noted, noted_end}
use Rattle.session_parts.proofs.Waiting.{none_waits, one_waits, one_calm, settled_waits_less}

all_linked_both : (ds es : List UnitId) (m : Plain) → all_linked (ds ++ es) m ≡ all_linked es (all_linked ds m)
all_linked_both [] es m = refl
all_linked_both (d ∷ ds) es m = all_linked_both ds es (linked_due d m)

-- the unit of a query waits for it, if it waits
waits_for_it : (m : Plain) (k u : ℕ) → ((x : UnitRow) → slice_get m.units u ≡ Some x → x.phase ≡ stage.Waiting → x.query ≡ Some k) → waits_for m u k ≡ waits_at m.units u
waits_for_it m k u own = split (slice_get m.units u) refl
  where
    split : (o : Option UnitRow) → slice_get m.units u ≡ o → option_map_or (λ (x : UnitRow). option_map_or (nat_eq k) x.query false && is_waiting x.phase) o false ≡ option_map_or (λ (x : UnitRow). is_waiting x.phase) o false
    split None e = refl
    split (Some x) e = by_test (is_waiting x.phase) refl
      where
        and_false : (b : Bool) → (b && false) ≡ false
        and_false true = refl
        and_false false = refl

        by_test : (b : Bool) → is_waiting x.phase ≡ b → (option_map_or (nat_eq k) x.query false && is_waiting x.phase) ≡ is_waiting x.phase
        by_test true t = ap (λ o. option_map_or (nat_eq k) o false && is_waiting x.phase) (own x e (waiting_stage x.phase t)) ∙ ap (λ b. b && is_waiting x.phase) (eq-eqb k k refl)
        by_test false f = ap (λ b. option_map_or (nat_eq k) x.query false && b) f ∙ (and_false (option_map_or (nat_eq k) x.query false) ∙ sym f)

-- one query that is met
one_due : (k : ℕ) (q : Query) (m : Plain) → ((u : ℕ) (x : UnitRow) → q.unit ≡ Some u → slice_get m.units u ≡ Some x → x.phase ≡ stage.Waiting → x.query ≡ Some k) → all_linked (if is_met m.rows q then option_to_list (unit_of q) else []) m ≡ settled_one k q m
one_due k q m own = split (is_met m.rows q) q.unit refl
  where
    split : (b : Bool) (o : Option ℕ) → q.unit ≡ o → all_linked (if b then option_to_list (option_map (λ u. record { 0 = u }) o) else []) m ≡ option_map_or (λ u. if b && waits_for m u k then finish_listed u m else m) o m
    split true None e = refl
    split false None e = refl
    split true (Some u) e = ap (λ b. if b then finish_listed u m else m) (sym (waits_for_it m k u (λ x. own u x e)))
    split false (Some u) e = refl

dues_settle_from : (j : ℕ) (qs : List Query) (ends : List (Option QueryEnd)) (m : Plain) → length ends ≡ length qs →
    ((i n u : ℕ) (e : QueryEnd) → n ≡ j + i → slice_get ends i ≡ Some (Some e) → waits_for m u n ≡ false) →
    ((i n u : ℕ) (q : Query) (x : UnitRow) → n ≡ j + i → slice_get qs i ≡ Some q → q.unit ≡ Some u → slice_get m.units u ≡ Some x → x.phase ≡ stage.Waiting → x.query ≡ Some n) →
    all_linked (dues m.rows qs ends) m ≡ settled_from j qs m
dues_settle_from j [] [] m l ended own = refl
dues_settle_from j [] (e ∷ ends) m l ended own = absurd (omega (arith, l))
dues_settle_from j (q ∷ qs) [] m l ended own = absurd (omega (arith, l))
dues_settle_from j (q ∷ qs) (Some e ∷ ends) m l ended own =
    dues_settle_from (j + 1) qs ends m (omega (arith, l)) (λ i n u f a. ended (suc i) n u f (omega (arith, a))) (λ i n u p x a. own (suc i) n u p x (omega (arith, a)))
    ∙ ap (settled_from (j + 1) qs) (sym (one_calm j q m (λ u a b. ended 0 j u e (omega arith) refl)))
dues_settle_from j (q ∷ qs) (None ∷ ends) m l ended own =
    all_linked_both (if is_met m.rows q then option_to_list (unit_of q) else []) (dues m.rows qs ends) m
    ∙ ap (all_linked (dues m.rows qs ends)) (one_due j q m (λ u x e t p. own 0 j u q x (omega arith) refl e t p))
    ∙ ap (λ rows. all_linked (dues rows qs ends) (settled_one j q m)) (sym (one_rows j q m))
    ∙ dues_settle_from (j + 1) qs ends (settled_one j q m) (omega (arith, l))
    (λ i n u f a t. none_waits m (settled_one j q m) u n (one_waits j q m) (ended (suc i) n u f (omega (arith, a)) t))
    (λ i n u p y a t e w h. let x = one_waits j q m u y w h in sym x.3 ∙ own (suc i) n u p x.0 (omega (arith, a)) t e x.1 x.2)

-- the queries that settle list what settling lists
pub dues_settle : (m : Plain) (ends : List (Option QueryEnd)) → length ends ≡ length m.queries → WaitsOpen m ends → WaitsOwn m.queries m.units → all_linked (dues m.rows m.queries ends) m ≡ settled m
dues_settle m ends l w own = dues_settle_from 0 m.queries ends m l ended (λ i n u q x a t. own n u q x (ap (slice_get m.queries) (omega (arith, a)) ∙ t))
  where
    ended : (i n u : ℕ) (e : QueryEnd) → n ≡ 0 + i → slice_get ends i ≡ Some (Some e) → waits_for m u n ≡ false
    ended i n u e a t = false_from_ne_true (waits_for m u n) (λ b. clash (waiting_parts m u n b))
      where
        clash : (x : UnitRow) × (slice_get m.units u ≡ Some x) × (x.phase ≡ stage.Waiting) × (x.query ≡ Some n) → ⊥
        clash p = none-some e (same_Some None (Some e) (sym (w u p.0 n p.1 p.2 p.3) ∙ ap (slice_get ends) (omega (arith, a)) ∙ t))

-- an open query that isn't met has no end then
pub noted_none : (m : Plain) (qs : List Query) (ends : List (Option QueryEnd)) (k : ℕ) (q : Query) → slice_get qs k ≡ Some q → slice_get ends k ≡ Some None → is_met m.rows q ≡ false → slice_get (noted m qs ends) k ≡ Some None
noted_none m [] ends k q t e f = absurd (none-some q t)
noted_none m (p ∷ qs) [] k q t e f = absurd (none-some None e)
noted_none m (p ∷ qs) (x ∷ ends) zero q t e f =
    ap (λ y. Some (noted_end m p y)) (same_Some x None e) ∙ ap (λ (r : Query). Some (noted_end m r None)) (same_Some p q t)
    ∙ ap (λ b. Some (if b then Some (record { at = m.entries; end = ending m.rows q }) else None)) f
noted_none m (p ∷ qs) (x ∷ ends) (suc k) q t e f = noted_none m qs ends k q t e f

-- in a session that has settled, a unit that waits, waits for a query without an end
pub waits_stay_open : (m n : Plain) (ends : List (Option QueryEnd)) → n.rows ≡ (settled m).rows → n.queries ≡ (settled m).queries → n.units ≡ (settled m).units → IsSound n → NoMetWaits n → WaitsOpen m ends → WaitsOpen n (noted n n.queries ends)
waits_stay_open m n ends rows queries units sound calm w u y k t p its =
    let x = settled_waits_less m u y (ap (λ l. slice_get l u) (sym units) ∙ t) p in
    let open_now = w u x.0 k x.1 x.2 (x.3 ∙ its) in
    let q = (sound.units_fit u y t).waits p in
    let number = same_Some q.number k (sym q.its ∙ its) in
    let there = ap (slice_get n.queries) (sym number) ∙ q.there in
    noted_none n n.queries ends k q.query there open_now
    (false_from_ne_true (is_met n.rows q.query) (λ met. both_ways (waits_for n u k) (calm u k q.query there q.links met) (waiting_from n u k y t p its)))
