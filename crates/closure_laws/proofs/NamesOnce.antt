-- A name has one present instance in each dylib at most.
use Rattle.std.proofs.Common.{◌≡◌, ℕ, zero, suc, ◌+◌, ◌<◌, Bool, true, false, not, ◌&&◌, ◌||◌, ◌==◌, nat_eq, List, [], ◌∷◌, ◌++◌, length, slice_get, ◌⊎◌, inl, inr, arith, subst, sym, refl, ap, ◌∙◌, Option, Some, None}
use Rattle.std.specs.Bool.{if◌then◌else◌}
use Rattle.std.specs.Option.{option_map_or}
use Rattle.std.proofs.lemmas.Bool.{both_ways, and_parts, and_from, not-true, eq-eqb, eqb-true}
use Rattle.std.proofs.lemmas.Map.Keys.{any_passes_from_place}
use Rattle.std.proofs.lemmas.Option.{none-some, same_Some}
use Rattle.session_model.proofs.FirstRows.{row_passes, first_found}
use Rattle.orc_ids.specs.declared.flags.SymFlags.{SymFlags}
use Rattle.orc_ids.specs.declared.ids.DylibId.{DylibId}
use Rattle.orc_ids.specs.declared.ids.GenId.{GenId}
use Rattle.orc_ids.specs.declared.ids.NameId.{NameId}
use Rattle.orc_ids.specs.declared.ids.TrackId.{TrackId}
use Rattle.session_model.specs.Lists.{numbered}
use Rattle.session_model.specs.Change.{changed, settled, defined, spent, verdict, verdicts, verdict_on, is_kept, is_strong, replaced_by, is_replaced, unreplaced_row, new_row, new_rows, new_unit, without_replaced, linked_unit}
use Rattle.session_model.specs.Match.{row_of}
use Rattle.session_model.specs.Meaning.{Meaning}
use Rattle.session_model.specs.Plain.{Plain, UnitRow, GenRow, unsearched_at}
use Rattle.session_model.specs.declared.change.Change.{Change}
use Rattle.session_model.specs.declared.change.Change.TheVariants.{Define, Generate}
use Rattle.session_model.specs.declared.rows.InstRow.{InstRow}
use Rattle.session_model.specs.declared.rows.Query.{Query}
use Rattle.session_model.specs.declared.rows.Row.{Row}
use Rattle.session_model.specs.declared.rows.Verdict.{Verdict}
use Rattle.session_model.specs.declared.rows.Verdict.TheVariants.{Kept, Replaces, Discarded, Clashes}
use Rattle.session_laws.proofs.Declared.{same_element, none_there, element_below, changed_length, appended_cases, mapped_some, numbered_length, numbered_parts, pushed_last, Guard, change_rises, chosen, settling_keeps, settled_rows}
use Rattle.session_laws.specs.Sound.{IsSound}
use Rattle.closure_laws.proofs.Fields.{is_define, IsNew, HasFields, change_fields, settled_fields}
use Rattle.closure_laws.proofs.Histories.{kept_by_changes}
use Rattle.closure_laws.proofs.LevelsStaying.{row_below}
use Rattle.closure_laws.proofs.OwnRows.{define_or}
use Rattle.closure_laws.proofs.RowMoving.{SameRow}
use Rattle.closure_laws.proofs.RowSources.{row_was}
use Rattle.closure_laws.specs.Names.{OffersDiffer, AllOffersDiffer, is_present_as, HasOneRowEach, NamesAreOnce}

abbrev AllOnce : List InstRow → Type 0
AllOnce rows = (d : ℕ) → HasOneRowEach rows d

-- what it is to be present as a name
record IsNamedIn (d name : ℕ) (r : InstRow) : Type 0 where
  present : r.present ≡ true
  dylib : r.dylib.0 ≡ d
  name_is : r.name.0 ≡ name

named_parts : (d name : ℕ) (r : InstRow) → is_present_as d name r ≡ true → IsNamedIn d name r
named_parts d name r e =
    let a = and_parts (r.present && r.dylib.0 == d) (r.name.0 == name) e in
    let b = and_parts r.present (r.dylib.0 == d) a.0 in
    record { present = b.0; dylib = eqb-true r.dylib.0 d b.1; name_is = eqb-true r.name.0 name a.1 }

named_from : (d name : ℕ) (r : InstRow) → IsNamedIn d name r → is_present_as d name r ≡ true
named_from d name r p = and_from (r.present && r.dylib.0 == d) (r.name.0 == name) (and_from r.present (r.dylib.0 == d) p.present (eq-eqb r.dylib.0 d p.dylib)) (eq-eqb r.name.0 name p.name_is)

-- an instance that is as it was but perhaps no longer present
named_before : (d name : ℕ) (r q : InstRow) → SameRow r q → is_present_as d name q ≡ true → is_present_as d name r ≡ true
named_before d name r q s e = let p = named_parts d name q e in
    named_from d name r (record { present = s.present p.present; dylib = ap (λ (k : DylibId). k.0) (sym s.dylib) ∙ p.dylib; name_is = ap (λ (k : NameId). k.0) (sym s.name) ∙ p.name_is })

-- New instances

-- a new instance is of an offer that is kept
record IsFresh (rows : List InstRow) (d : ℕ) (offers : List (NameId × SymFlags)) (r : InstRow) : Type 0 where
  place : ℕ
  offer : NameId × SymFlags
  there : slice_get offers place ≡ Some offer
  name_is : r.name ≡ offer.0
  kept : is_kept (verdict rows d offer) ≡ true
  dylib : r.dylib.0 ≡ d

fresh_parts : (rows : List InstRow) (d u k : ℕ) (offers : List (NameId × SymFlags)) (n : ℕ) (r : InstRow) → slice_get (new_rows d u k offers (verdicts rows d offers)) n ≡ Some r → IsFresh rows d offers r
fresh_parts rows d u k [] n r e = absurd (none-some r e)
fresh_parts rows d u k (offer ∷ offers) n r e = chosen (λ rs. slice_get rs n ≡ Some r → IsFresh rows d (offer ∷ offers) r) (is_kept (verdict rows d offer)) (new_row d u k offer ∷ new_rows d u (k + 1) offers (verdicts rows d offers)) (new_rows d u (k + 1) offers (verdicts rows d offers))
    (λ b. with_one b n (λ j t. later (fresh_parts rows d u (k + 1) offers j r t)))
    (λ b t. later (fresh_parts rows d u (k + 1) offers n r t)) e
  where
    later : IsFresh rows d offers r → IsFresh rows d (offer ∷ offers) r
    later p = record { place = suc p.place; offer = p.offer; there = p.there; name_is = p.name_is; kept = p.kept; dylib = p.dylib }

    with_one : is_kept (verdict rows d offer) ≡ true → (n : ℕ) → ((j : ℕ) → slice_get (new_rows d u (k + 1) offers (verdicts rows d offers)) j ≡ Some r → IsFresh rows d (offer ∷ offers) r) →
        slice_get (new_row d u k offer ∷ new_rows d u (k + 1) offers (verdicts rows d offers)) n ≡ Some r → IsFresh rows d (offer ∷ offers) r
    with_one b zero rest t = subst (IsFresh rows d (offer ∷ offers)) (same_Some (new_row d u k offer) r t) (record { place = 0; offer = offer; there = refl; name_is = refl; kept = b; dylib = refl })
    with_one b (suc j) rest t = rest j t

-- where no name is offered twice, each has one new instance at most
abbrev Differ : List (NameId × SymFlags) → Type 0
Differ offers = (j k : ℕ) (a b : NameId × SymFlags) → slice_get offers j ≡ Some a → slice_get offers k ≡ Some b → a.0 ≡ b.0 → j ≡ k

fresh_once : (rows : List InstRow) (d u k : ℕ) (offers : List (NameId × SymFlags)) → Differ offers → (i j : ℕ) (r s : InstRow) →
    slice_get (new_rows d u k offers (verdicts rows d offers)) i ≡ Some r → slice_get (new_rows d u k offers (verdicts rows d offers)) j ≡ Some s → r.name ≡ s.name → i ≡ j
fresh_once rows d u k [] differ i j r s e f same = absurd (none-some r e)
fresh_once rows d u k (offer ∷ offers) differ i j r s e f same = chosen (λ rs. (i j : ℕ) → slice_get rs i ≡ Some r → slice_get rs j ≡ Some s → i ≡ j) (is_kept (verdict rows d offer)) (new_row d u k offer ∷ new_rows d u (k + 1) offers (verdicts rows d offers)) (new_rows d u (k + 1) offers (verdicts rows d offers))
    (λ b. with_one (λ n l t v. fresh_once rows d u (k + 1) offers rest_differ n l r s t v same)) (λ b n l t v. fresh_once rows d u (k + 1) offers rest_differ n l r s t v same) i j e f
  where
    rest_differ : Differ offers
    rest_differ n l a b t v is = suc_same (differ (suc n) (suc l) a b t v is)
      where
        suc_same : suc n ≡ suc l → n ≡ l
        suc_same e = omega (arith, e)

    Rest : Type 0
    Rest = (i j : ℕ) → slice_get (new_rows d u (k + 1) offers (verdicts rows d offers)) i ≡ Some r → slice_get (new_rows d u (k + 1) offers (verdicts rows d offers)) j ≡ Some s → i ≡ j

    -- no later one has the first name
    apart : (q : InstRow) (n : ℕ) → slice_get (new_rows d u (k + 1) offers (verdicts rows d offers)) n ≡ Some q → offer.0 ≡ q.name → ⊥
    apart q n t is = let p = fresh_parts rows d u (k + 1) offers n q t in
        never p.place (differ 0 (suc p.place) offer p.offer refl p.there (is ∙ p.name_is))
      where
        never : (n : ℕ) → 0 ≡ suc n → ⊥
        never n e = omega (arith, e)

    with_one : Rest → (i j : ℕ) → slice_get (new_row d u k offer ∷ new_rows d u (k + 1) offers (verdicts rows d offers)) i ≡ Some r → slice_get (new_row d u k offer ∷ new_rows d u (k + 1) offers (verdicts rows d offers)) j ≡ Some s → i ≡ j
    with_one rest zero zero e f = refl
    with_one rest zero (suc j) e f = absurd (apart s j f (ap (λ (z : InstRow). z.name) (same_Some (new_row d u k offer) r e) ∙ same))
    with_one rest (suc i) zero e f = absurd (apart r i e (ap (λ (z : InstRow). z.name) (same_Some (new_row d u k offer) s f) ∙ sym same))
    with_one rest (suc i) (suc j) e f = ap suc (rest i j e f)

-- Replaced instances

-- a definition that is kept over another one replaces it
kept_replaces : (rows : List InstRow) (flags : SymFlags) (old : Row) → is_kept (verdict_on rows flags old) ≡ true → replaced_by (verdict_on rows flags old) ≡ Some old.inst.0
kept_replaces rows flags old = split (is_strong flags) (is_strong old.flags || not (unsearched_at rows old.inst.0))
  where
    split : (s c : Bool) → is_kept (if not s then Discarded else (if c then Clashes old.inst else Replaces old.inst)) ≡ true → replaced_by (if not s then Discarded else (if c then Clashes old.inst else Replaces old.inst)) ≡ Some old.inst.0
    split false c e = absurd (both_ways false refl e)
    split true true e = absurd (both_ways false refl e)
    split true false e = refl

-- the instance of a name that is defined anew is replaced
renewed : (rows : List InstRow) (d : ℕ) (offers : List (NameId × SymFlags)) → AllOnce rows → (i : ℕ) (r s : InstRow) → slice_get rows i ≡ Some r → IsNamedIn d s.name.0 r → IsFresh rows d offers s → is_replaced (verdicts rows d offers) i ≡ true
renewed rows d offers once i r s e p f = any_passes_from_place (λ (v : Verdict). option_map_or (nat_eq i) (replaced_by v) false) (verdicts rows d offers) f.place (verdict rows d f.offer)
    (mapped_some (verdict rows d) offers f.place f.offer f.there) (ap (λ o. option_map_or (nat_eq i) o false) replaces ∙ eq-eqb i old.0.inst.0 here)
  where
    name : ℕ
    name = s.name.0

    named : is_present_as d name r ≡ true
    named = named_from d name r p

    old : (x : Row) × (row_of rows d name ≡ Some x)
    old = first_found (is_present_as d name) 0 rows i r e named

    at : (n : ℕ) × (old.0.inst.0 ≡ 0 + n) × (x : InstRow) × (slice_get rows n ≡ Some x) × (is_present_as d name x ≡ true)
    at = row_passes (is_present_as d name) 0 rows old.0 old.1

    here : i ≡ old.0.inst.0
    here = once d name i at.0 r at.2 e at.3 named at.4 ∙ (let z : at.0 ≡ old.0.inst.0 = omega (arith, at.1) in z)

    is : verdict rows d f.offer ≡ verdict_on rows f.offer.1 old.0
    is = ap (λ o. option_map_or (verdict_on rows f.offer.1) o Kept) (ap (λ (n : NameId). row_of rows d n.0) (sym f.name_is) ∙ old.1)

    replaces : replaced_by (verdict rows d f.offer) ≡ Some old.0.inst.0
    replaces = ap replaced_by is ∙ kept_replaces rows f.offer.1 old.0 (ap is_kept (sym is) ∙ f.kept)

-- A definition

-- an instance that a definition leaves was the name's, and isn't replaced
left_parts : (rows : List InstRow) (vs : List Verdict) (d name i : ℕ) (r : InstRow) → slice_get (numbered (unreplaced_row vs) 0 rows) i ≡ Some r → is_present_as d name r ≡ true → (q : InstRow) × (slice_get rows i ≡ Some q) × IsNamedIn d name q × (is_replaced vs i ≡ false)
left_parts rows vs d name i r e t =
    let q = numbered_parts (unreplaced_row vs) rows i r e in
    let p = named_parts d name (unreplaced_row vs i q.0) (ap (is_present_as d name) (sym q.2) ∙ t) in
    let b = and_parts q.0.present (not (is_replaced vs i)) p.present in
    (q.0, q.1, record { present = b.0; dylib = p.dylib; name_is = p.name_is }, not-true (is_replaced vs i) b.1)

defined_once : (rows : List InstRow) (d u : ℕ) (offers : List (NameId × SymFlags)) → Differ offers → AllOnce rows → AllOnce (numbered (unreplaced_row (verdicts rows d offers)) 0 rows ++ new_rows d u 0 offers (verdicts rows d offers))
defined_once rows d u offers differ once k name i j r s e f t v = split (appended_cases left fresh i r e) (appended_cases left fresh j s f)
  where
    left : List InstRow
    left = numbered (unreplaced_row (verdicts rows d offers)) 0 rows

    fresh : List InstRow
    fresh = new_rows d u 0 offers (verdicts rows d offers)

    Case : ℕ → InstRow → Type 0
    Case n q = (slice_get left n ≡ Some q) ⊎ ((l : ℕ) × (n ≡ length left + l) × (slice_get fresh l ≡ Some q))

    -- no name has one of each
    apart : (n l : ℕ) (p q : InstRow) → slice_get left n ≡ Some p → slice_get fresh l ≡ Some q → is_present_as k name p ≡ true → is_present_as k name q ≡ true → ⊥
    apart n l p q a b c w =
        let was = left_parts rows (verdicts rows d offers) k name n p a c in
        let new = fresh_parts rows d u 0 offers l q b in
        let its = named_parts k name q w in
        let here : k ≡ d = sym its.dylib ∙ new.dylib in
        both_ways (is_replaced (verdicts rows d offers) n) was.3 (renewed rows d offers once n was.0 q was.1 (record { present = was.2.present; dylib = was.2.dylib ∙ here; name_is = was.2.name_is ∙ sym its.name_is }) new)

    both_new : (a b : ℕ) → slice_get fresh a ≡ Some r → slice_get fresh b ≡ Some s → a ≡ b
    both_new a b x y = fresh_once rows d u 0 offers differ a b r s x y
        (ap (λ (n : ℕ). record { 0 = n }) ((named_parts k name r t).name_is ∙ sym (named_parts k name s v).name_is))

    split : Case i r → Case j s → i ≡ j
    split (inl a) (inl b) =
        let p = left_parts rows (verdicts rows d offers) k name i r a t in
        let q = left_parts rows (verdicts rows d offers) k name j s b v in
        once k name i j p.0 q.0 p.1 q.1 (named_from k name p.0 p.2) (named_from k name q.0 q.2)
    split (inl a) (inr b) = absurd (apart i b.0 r s a b.2 t v)
    split (inr a) (inl b) = absurd (apart j a.0 s r b a.2 v t)
    split (inr a) (inr b) = a.1 ∙ (ap (λ n. length left + n) (both_new a.0 b.0 a.2 b.2) ∙ sym b.1)

-- Along a history

abbrev NamesOnce : List InstRow → List UnitRow → List Query → Type 0
NamesOnce rows units queries = AllOffersDiffer units → AllOnce rows

-- units keep what they offer
differ_before : (m : Plain) (s : ℕ) (c : Change Meaning) → IsSound m → Guard m s c → AllOffersDiffer (changed c m).units → AllOffersDiffer m.units
differ_before m s c h g differ u x t = split (change_fields m c u y.0 y.1)
  where
    y : (y : UnitRow) × (slice_get (changed c m).units u ≡ Some y)
    y = let z = change_rises m s c h g u x t in (z.0, z.1)

    split : ((w : UnitRow) × (slice_get m.units u ≡ Some w) × HasFields m c u w y.0) ⊎ IsNew m c u y.0 → OffersDiffer x.meaning
    split (inl p) = subst OffersDiffer (p.2.meaning ∙ ap (λ (z : UnitRow). z.meaning) (same_element (slice_get m.units u) p.0 x p.1 t)) (differ u y.0 y.1)
    split (inr p) = none_there (slice_get m.units u) x p.1 t

once_defined : (m : Plain) (d t : ℕ) (v : Meaning) → AllOnce m.rows → AllOffersDiffer (defined d t v (verdicts m.rows d v.offers) m).units → AllOnce (defined d t v (verdicts m.rows d v.offers) m).rows
once_defined m d t v old differ = defined_once m.rows d (length m.units) v.offers (differ (length m.units) (new_unit t v vs) last) old
  where
    vs : List Verdict
    vs = verdicts m.rows d v.offers

    last : slice_get (defined d t v vs m).units (length m.units) ≡ Some (new_unit t v vs)
    last = ap (slice_get (defined d t v vs m).units) (sym (numbered_length (without_replaced m.rows vs) 0 m.units)) ∙ pushed_last (numbered (without_replaced m.rows vs) 0 m.units) (new_unit t v vs)

once_changed : (m : Plain) (s : ℕ) (c : Change Meaning) → IsSound m → Guard m s c → NamesOnce m.rows m.units m.queries → NamesOnce (changed c m).rows (changed c m).units (changed c m).queries
once_changed m s c h g had differ = split (define_or c)
  where
    old : AllOnce m.rows
    old = had (differ_before m s c h g differ)

    Once : Change Meaning → Type 0
    Once e = AllOffersDiffer (changed e m).units → AllOnce (changed e m).rows

    at_generate : (k : GenId) → Once (Generate k (option_map_or (λ (y : GenRow). verdicts m.rows y.dylib y.meaning.offers) (slice_get m.generators k.0) []))
    at_generate k = by_gen (slice_get m.generators k.0)
      where
        by_gen : (o : Option GenRow) → AllOffersDiffer (option_map_or (λ x. spent k.0 (defined x.dylib x.tracker x.meaning (option_map_or (λ (y : GenRow). verdicts m.rows y.dylib y.meaning.offers) o []) m)) o m).units →
            AllOnce (option_map_or (λ x. spent k.0 (defined x.dylib x.tracker x.meaning (option_map_or (λ (y : GenRow). verdicts m.rows y.dylib y.meaning.offers) o []) m)) o m).rows
        by_gen None a = old
        by_gen (Some x) a = once_defined m x.dylib x.tracker x.meaning old a

    split : ((d : DylibId) × (t : TrackId) × (v : Meaning) × (found : List Verdict) × (c ≡ Define d t v found)) ⊎ (((k : GenId) × (found : List Verdict) × (c ≡ Generate k found)) ⊎ (is_define c ≡ false)) → AllOnce (changed c m).rows
    split (inl (d, t, v, found, is)) = subst Once (sym is) (subst (λ vs. Once (Define d t v vs)) (sym (subst (Guard m s) is g)) (once_defined m d.0 t.0 v old)) differ
    split (inr (inl (k, found, is))) = subst Once (sym is) (subst (λ vs. Once (Generate k vs)) (sym (subst (Guard m s) is g)) (at_generate k)) differ
    split (inr (inr other)) = λ d name i j r q e f t v.
        let a = row_was m s c other h g i r e in
        let b = row_was m s c other h g j q f in
        old d name i j a.0 b.0 a.1 b.1 (named_before d name a.0 r a.2 t) (named_before d name b.0 q b.2 v)

-- settling makes no unit
pub settled_there : (m : Plain) (u : ℕ) (x : UnitRow) → slice_get m.units u ≡ Some x → (y : UnitRow) × (slice_get (settled m).units u ≡ Some y)
settled_there m u x t = row_below (settled m).units u (subst (λ n. u < n) (sym count) (element_below m.units u x t))
  where
    count : length (settled m).units ≡ length m.units
    count = settling_keeps (λ n. length n.units ≡ length m.units) (λ v k q n e w b d. changed_length v linked_unit n.units ∙ e) 0 m.queries m refl

once_settled : (m : Plain) → IsSound m → NamesOnce m.rows m.units m.queries → NamesOnce (settled m).rows (settled m).units (settled m).queries
once_settled m h had differ = subst AllOnce (sym (settled_rows m)) (had (λ u x t.
    let y = settled_there m u x t in
    let z = settled_fields m u y.0 y.1 in
    subst OffersDiffer (z.2.meaning ∙ ap (λ (w : UnitRow). w.meaning) (same_element (slice_get m.units u) z.0 x z.1 t)) (differ u y.0 y.1)))

pub names_are_once : NamesAreOnce
names_are_once jmax h l = kept_by_changes NamesOnce once_changed once_settled jmax [] h l (λ differ d name i j r s e. absurd (none-some r e))
