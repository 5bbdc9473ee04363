-- An emission of the members of groups, which are the instances of a unit.
use Rattle.std.proofs.Common.{◌≡◌, ◌≢◌, ℕ, zero, suc, ◌+◌, ◌<◌, ◌≤◌, Bool, true, false, ◌||◌, ◌==◌, cond, List, [], ◌∷◌, ◌++◌, ◌⊎◌, inl, inr, ⊎_elim, Option, Some, None, option_map, slice_get, unwrap_or, refl, ap, ap₂, sym, subst, ◌∙◌, arith}
use Rattle.std.specs.Prelude.{IsPermutation, flat_map, if◌then◌else◌}
use Rattle.std.specs.List.{sum_by}
use Rattle.std.specs.Option.{option_map_or}
use Rattle.std.proofs.lemmas.Bool.{both_ways, cases_Bool, or_left, or_right, ne_eqb, eq-eqb, true_from_ne_false}
use Rattle.std.proofs.lemmas.Bool.Decides.{eqb_tells}
use Rattle.std.proofs.lemmas.List.Folds.{list_any-append}
use Rattle.std.proofs.lemmas.List.Sorted.{list_any-IsPermutation, sum_by-IsPermutation}
use Rattle.std.proofs.lemmas.List.Sums.{sum_by-cons, sum_by-append}
use Rattle.std.proofs.lemmas.Option.{none-some, same_Some}
use Rattle.orc_ids.specs.declared.groups.Group.{Group}
use Rattle.orc_ids.specs.declared.ids.InstId.{InstId}
use Rattle.session_model.specs.Change.{emitted_row, deps_in}
use Rattle.session_model.specs.Lists.{numbered, first_some, only_if, or_else}
use Rattle.session_model.specs.Plain.{is_owned, is_owned_at, own_rows, phase_address}
use Rattle.session_model.specs.Reach.{is_ready}
use Rattle.session_model.specs.declared.rows.InstRow.{InstRow}
use Rattle.session_model.specs.declared.rows.Phase.TheVariants as phase
use Rattle.session_laws.specs.Walks.{ReadyIsTested}
use Rattle.dep_groups.specs.Frontier as frontier
use Rattle.instances.specs.Table.{is_among}
use Rattle.instances.proofs.Kept.{numbered_changed}
use Rattle.instances.specs.Graph.{NoneEmitted}
use Rattle.instances.specs.Tied.{entry_of, row_entry, IsTied}
use Rattle.instances.proofs.Members.{among_contains, contains_among, not_among}
use Rattle.instances.proofs.Readiness.{tested, ready_same, ready_self, ready_carried}
use Rattle.instances.proofs.Standings.{IsAlike, alike_same, unemitted_entry}

-- How often an instance is listed

abbrev one_if : Bool → ℕ
one_if b = cond b 1 0

times : ℕ → List InstId → ℕ
times i items = sum_by (λ (m : InstId). one_if (m.0 == i)) items

times_cons : (i : ℕ) (m : InstId) (ms : List InstId) → times i (m ∷ ms) ≡ one_if (m.0 == i) + times i ms
unfolding times
times_cons i m ms = sum_by-cons (λ (m : InstId). one_if (m.0 == i)) m ms

times_append : (i : ℕ) (xs ys : List InstId) → times i (xs ++ ys) ≡ times i xs + times i ys
unfolding times
times_append i xs ys = sum_by-append (λ (m : InstId). one_if (m.0 == i)) xs ys

times_none : (i : ℕ) → times i [] ≡ 0
unfolding times
times_none i = refl

times_moved : (i : ℕ) (xs ys : List InstId) → IsPermutation xs ys → times i ys ≡ times i xs
unfolding times
times_moved i xs ys p = sum_by-IsPermutation (λ (m : InstId). one_if (m.0 == i)) xs ys p

times_among : (items : List InstId) (i : ℕ) → is_among items i ≡ true → 1 ≤ times i items
times_among [] i e = absurd (both_ways false refl e)
times_among (x ∷ xs) i e = let n = times_cons i x xs in from_cases (x.0 == i) e n (times_among xs i)
  where
    from_cases : (b : Bool) → (b || is_among xs i) ≡ true → times i (x ∷ xs) ≡ one_if b + times i xs → (is_among xs i ≡ true → 1 ≤ times i xs) → 1 ≤ times i (x ∷ xs)
    from_cases true e n later = omega (arith, n)
    from_cases false e n later = let l = later e in omega (arith, n, l)

-- The instances of a unit are listed once each

own_below : (u k i : ℕ) (rows : List InstRow) → i < k → times i (own_rows u k rows) ≡ 0
own_below u k i [] h = times_none i
own_below u k i (r ∷ rs) h = by_test (is_owned u r) (own_below u (k + 1) i rs (omega (arith, h)))
  where
    by_test : (b : Bool) → times i (own_rows u (k + 1) rs) ≡ 0 → times i (if b then record { 0 = k } ∷ own_rows u (k + 1) rs else own_rows u (k + 1) rs) ≡ 0
    by_test true e = times_cons i (record { 0 = k }) (own_rows u (k + 1) rs) ∙ ap₂ (λ b n. one_if b + n) (ne_eqb k i (λ is. absurd (omega (arith, is, h)))) e
    by_test false e = e

own_once : (u k i : ℕ) (rows : List InstRow) → times i (own_rows u k rows) ≤ 1
own_once u k i [] = let e = times_none i in omega (arith, e)
own_once u k i (r ∷ rs) = by_test (is_owned u r) (own_once u (k + 1) i rs) (λ h. own_below u (k + 1) i rs h)
  where
    by_test : (b : Bool) → times i (own_rows u (k + 1) rs) ≤ 1 → (i < k + 1 → times i (own_rows u (k + 1) rs) ≡ 0) → times i (if b then record { 0 = k } ∷ own_rows u (k + 1) rs else own_rows u (k + 1) rs) ≤ 1
    by_test true few none = let n = times_cons i (record { 0 = k }) (own_rows u (k + 1) rs) in
        ⊎_elim (λ (e : ((k == i) ≡ true) × (k ≡ i)). let z = none (omega (arith, e.1)) in let c : one_if (k == i) ≡ 1 = ap one_if e.0 in omega (arith, n, z, c))
        (λ (e : ((k == i) ≡ false) × (k ≢ i)). let c : one_if (k == i) ≡ 0 = ap one_if e.0 in omega (arith, n, c, few)) (eqb_tells k i)
    by_test false few none = few

not_below : (u k i : ℕ) (rows : List InstRow) → i < k → is_among (own_rows u k rows) i ≡ false
not_below u k i [] h = refl
not_below u k i (r ∷ rs) h = by_test (is_owned u r) (not_below u (k + 1) i rs (omega (arith, h)))
  where
    by_test : (b : Bool) → is_among (own_rows u (k + 1) rs) i ≡ false → is_among (if b then record { 0 = k } ∷ own_rows u (k + 1) rs else own_rows u (k + 1) rs) i ≡ false
    by_test true e = ap₂ (λ a b. a || b) (ne_eqb k i (λ is. absurd (omega (arith, is, h)))) e
    by_test false e = e

own_from : (u k i n : ℕ) (rows : List InstRow) → n ≡ k + i → is_among (own_rows u k rows) n ≡ is_owned_at u rows i
own_from u k i n [] e = refl
own_from u k zero n (r ∷ rs) e = by_test (is_owned u r) (not_below u (k + 1) n rs (omega (arith, e)))
  where
    by_test : (b : Bool) → is_among (own_rows u (k + 1) rs) n ≡ false → is_among (if b then record { 0 = k } ∷ own_rows u (k + 1) rs else own_rows u (k + 1) rs) n ≡ b
    by_test true h = or_left (k == n) (is_among (own_rows u (k + 1) rs) n) (eq-eqb k n (omega (arith, e)))
    by_test false h = h
own_from u k (suc i) n (r ∷ rs) e = by_test (is_owned u r) ∙ own_from u (k + 1) i n rs (omega (arith, e))
  where
    by_test : (b : Bool) → is_among (if b then record { 0 = k } ∷ own_rows u (k + 1) rs else own_rows u (k + 1) rs) n ≡ is_among (own_rows u (k + 1) rs) n
    by_test true = ap (λ b. b || is_among (own_rows u (k + 1) rs) n) (ne_eqb k n (λ is. absurd (omega (arith, is, e))))
    by_test false = refl

pub own_among : (u i : ℕ) (rows : List InstRow) → is_among (own_rows u 0 rows) i ≡ is_owned_at u rows i
own_among u i rows = own_from u 0 i i rows (omega arith)

-- The members of groups

abbrev members_of : List Group → List InstId
members_of groups = flat_map (λ (g : Group). g.members) groups

among_flat : (groups : List Group) (k i : ℕ) (g : Group) → slice_get groups k ≡ Some g → is_among g.members i ≡ true → is_among (members_of groups) i ≡ true
among_flat [] k i g t e = absurd (none-some g t)
among_flat (x ∷ xs) zero i g t e = list_any-append (λ (j : InstId). j.0 == i) x.members (members_of xs) ∙ or_left (is_among x.members i) (is_among (members_of xs) i) (subst (λ (y : Group). is_among y.members i ≡ true) (sym (same_Some x g t)) e)
among_flat (x ∷ xs) (suc k) i g t e = list_any-append (λ (j : InstId). j.0 == i) x.members (members_of xs) ∙ or_right (is_among x.members i) (is_among (members_of xs) i) (among_flat xs k i g t e)

member_listed : (groups : List Group) (i : ℕ) → frontier.IsMember groups i → is_among (members_of groups) i ≡ true
member_listed groups i m = among_flat groups m.at i m.group m.is (contains_among m.group.members (record { 0 = i }) m.member)

-- the first group that an instance is in
record IsFirst (groups : List Group) (i : ℕ) : Type 0 where
  at : ℕ
  group : Group
  is : slice_get groups at ≡ Some group
  member : is_among group.members i ≡ true
  first : first_some (λ (g : Group). only_if (is_among g.members i) g.deps) groups ≡ Some group.deps

first_group : (groups : List Group) (i : ℕ) → is_among (members_of groups) i ≡ true → IsFirst groups i
first_group [] i e = absurd (both_ways false refl e)
first_group (x ∷ xs) i e = from_cases (cases_Bool (is_among x.members i)) (first_group xs i) (sym (list_any-append (λ (j : InstId). j.0 == i) x.members (members_of xs)) ∙ e)
  where
    rest : Option (List InstId)
    rest = first_some (λ (g : Group). only_if (is_among g.members i) g.deps) xs

    from_cases : (is_among x.members i ≡ true) ⊎ (is_among x.members i ≡ false) → (is_among (members_of xs) i ≡ true → IsFirst xs i) → (is_among x.members i || is_among (members_of xs) i) ≡ true → IsFirst (x ∷ xs) i
    from_cases (inl a) later e = record { at = 0; group = x; is = refl; member = a; first = ap (λ b. or_else (only_if b x.deps) (first_some (λ (g : Group). only_if (is_among g.members i) g.deps) xs)) a }
    from_cases (inr n) later e = let p = later (sym (ap (λ b. b || is_among (members_of xs) i) n) ∙ e) in
        record { at = suc p.at; group = p.group; is = p.is; member = p.member; first = ap (λ b. or_else (only_if b x.deps) (first_some (λ (g : Group). only_if (is_among g.members i) g.deps) xs)) n ∙ p.first }

-- exactly the instances of the unit are members
pub listed_owned : (u i : ℕ) (groups : List Group) (rows : List InstRow) → IsPermutation (members_of groups) (own_rows u 0 rows) → is_among (members_of groups) i ≡ is_owned_at u rows i
listed_owned u i groups rows p = list_any-IsPermutation (λ (j : InstId). j.0 == i) (members_of groups) (own_rows u 0 rows) p ∙ own_among u i rows

-- What the frontier requires

times_flat : (groups : List Group) (k i : ℕ) (g : Group) → slice_get groups k ≡ Some g → is_among g.members i ≡ true → 1 ≤ times i (members_of groups)
times_flat groups k i g t e = times_among (members_of groups) i (among_flat groups k i g t e)

apart_once : (groups : List Group) → ((i : ℕ) → times i (members_of groups) ≤ 1) → frontier.AreApart groups
apart_once [] few j k a b m p q c d = absurd (none-some a p)
apart_once (x ∷ xs) few zero zero a b m p q c d = refl
apart_once (x ∷ xs) few zero (suc k) a b m p q c d =
    let here = times_among x.members m.0 (subst (λ (y : Group). is_among y.members m.0 ≡ true) (sym (same_Some x a p)) (contains_among a.members m c)) in
    let there = times_flat xs k m.0 b q (contains_among b.members m d) in
    absurd (omega (arith, here, there, times_append m.0 x.members (members_of xs), few m.0))
apart_once (x ∷ xs) few (suc j) zero a b m p q c d =
    let here = times_among x.members m.0 (subst (λ (y : Group). is_among y.members m.0 ≡ true) (sym (same_Some x b q)) (contains_among b.members m d)) in
    let there = times_flat xs j m.0 a p (contains_among a.members m c) in
    absurd (omega (arith, here, there, times_append m.0 x.members (members_of xs), few m.0))
apart_once (x ∷ xs) few (suc j) (suc k) a b m p q c d = ap suc (apart_once xs (λ i. let f = few i in omega (arith, f, times_append i x.members (members_of xs))) j k a b m p q c d)

pub are_apart : (u : ℕ) (groups : List Group) (rows : List InstRow) → IsPermutation (members_of groups) (own_rows u 0 rows) → frontier.AreApart groups
are_apart u groups rows p = apart_once groups (λ i. let o = own_once u 0 i rows in let m = times_moved i (members_of groups) (own_rows u 0 rows) p in omega (arith, o, m))

pub are_absent : (u : ℕ) (groups : List Group) (rows : List InstRow) (entries : List frontier.Entry) → IsPermutation (members_of groups) (own_rows u 0 rows) → NoneEmitted u rows → IsTied rows entries → frontier.AreAbsent entries groups
are_absent u groups rows entries p unemitted t i m = t.each i ∙ by_row (slice_get rows i) refl (sym (listed_owned u i groups rows p) ∙ member_listed groups i m)
  where
    by_row : (o : Option InstRow) → slice_get rows i ≡ o → option_map_or (is_owned u) o false ≡ true → option_map_or (λ r. entry_of r.phase) o frontier.Absent ≡ frontier.Absent
    by_row None e is = refl
    by_row (Some r) e is = unemitted_entry r.phase (unemitted i r e is)

-- The rows after it

pub emitted_ties : (u : ℕ) (groups : List Group) (rows : List InstRow) (entries new : List frontier.Entry) → IsPermutation (members_of groups) (own_rows u 0 rows) → IsTied rows entries → frontier.AreEmitted groups entries new → IsTied (numbered (emitted_row u groups) 0 rows) new
emitted_ties u groups rows entries new p t e = record {
  each = λ i. by_row i (slice_get rows i) refl ∙ ap (λ o. option_map_or (λ (r : InstRow). entry_of r.phase) o frontier.Absent) (sym (numbered_changed (emitted_row u groups) rows i));
}
  where
    apart_from : (i : ℕ) → is_owned_at u rows i ≡ false → frontier.entry_at new i ≡ row_entry rows i
    apart_from i n = e.others i (λ m. both_ways (is_owned_at u rows i) n (sym (listed_owned u i groups rows p) ∙ member_listed groups i m)) ∙ t.each i

    by_owner : (i : ℕ) (r : InstRow) → slice_get rows i ≡ Some r → (is_owned u r ≡ true) ⊎ (is_owned u r ≡ false) → frontier.entry_at new i ≡ entry_of (emitted_row u groups i r).phase
    by_owner i r at (inl is) =
        let f = first_group groups i (listed_owned u i groups rows p ∙ ap (λ o. option_map_or (is_owned u) o false) at ∙ is) in
        e.members f.at f.group (record { 0 = i }) f.is (among_contains f.group.members i f.member)
        ∙ sym (ap (λ b. entry_of (if b then phase.Emitted (unwrap_or (phase_address r.phase) 0) (deps_in groups i) else r.phase)) is
        ∙ ap (λ o. frontier.Emitted (frontier.numbers (unwrap_or o []))) f.first)
    by_owner i r at (inr n) =
        apart_from i (ap (λ o. option_map_or (is_owned u) o false) at ∙ n)
        ∙ ap (λ o. option_map_or (λ (r : InstRow). entry_of r.phase) o frontier.Absent) at
        ∙ sym (ap (λ b. entry_of (if b then phase.Emitted (unwrap_or (phase_address r.phase) 0) (deps_in groups i) else r.phase)) n)

    by_row : (i : ℕ) (o : Option InstRow) → slice_get rows i ≡ o → frontier.entry_at new i ≡ option_map_or (λ r. entry_of r.phase) (option_map (emitted_row u groups i) o) frontier.Absent
    by_row i None at = apart_from i (ap (λ o. option_map_or (is_owned u) o false) at) ∙ ap (λ o. option_map_or (λ (r : InstRow). entry_of r.phase) o frontier.Absent) at
    by_row i (Some r) at = by_owner i r at (cases_Bool (is_owned u r))

pub emit_alike : (u i : ℕ) (groups : List Group) (r : InstRow) → is_owned u r ≡ false → IsAlike r (emitted_row u groups i r)
emit_alike u i groups r n = alike_same r (emitted_row u groups i r) (ap (λ b. record r { phase = if b then phase.Emitted (unwrap_or (phase_address r.phase) 0) (deps_in groups i) else r.phase }) n)

-- What was ready stays so

stays : (groups : List Group) (entries new : List frontier.Entry) → frontier.AreAbsent entries groups → frontier.AreEmitted groups entries new → (a : ℕ) → frontier.IsReady entries a → frontier.entry_at new a ≡ frontier.entry_at entries a
stays groups entries new absent e a h = e.others a (λ m. both_ways (frontier.is_emitted_at entries a) (ap frontier.is_emitted (absent a m)) (ready_self entries a h))

pub ready_stays : (groups : List Group) (entries new : List frontier.Entry) → frontier.AreAbsent entries groups → frontier.AreEmitted groups entries new → (i : ℕ) → frontier.IsReady entries i → frontier.IsReady new i
ready_stays groups entries new absent e i h = ready_carried entries new (stays groups entries new absent e) i h

-- an instance that isn't told is ready as it was
pub untold_same : ReadyIsTested → (groups : List Group) (rows after : List InstRow) (entries new : List frontier.Entry) (told : List InstId) (i : ℕ) → IsTied rows entries → IsTied after new → frontier.AreAbsent entries groups → frontier.AreEmitted groups entries new → frontier.IsNews entries new told → is_among told i ≡ false → is_ready after i ≡ is_ready rows i
untold_same law groups rows after entries new told i t s absent e news n =
    ready_same law rows after entries new t s i (ready_stays groups entries new absent e i)
    (λ h. true_from_ne_false (is_ready rows i) (λ f. not_among told i n (news.all i h (λ g. both_ways (is_ready rows i) f ((tested law rows entries t i).1 g)))))
