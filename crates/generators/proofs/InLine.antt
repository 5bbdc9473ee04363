-- The line of a name as generators are attached and spent.
use Rattle.std.proofs.Common.{◌≡◌, ◌<◌, ◌≤◌, ℕ, zero, suc, ◌+◌, Bool, true, false, ◌&&◌, ◌==◌, not, ◌^◌, List, [], ◌∷◌, ◌++◌, Option, Some, None, slice_get, length, refl, sym, ap, ◌∙◌, arith, subst}
use Rattle.std.specs.Bool.{if◌then◌else◌}
use Rattle.std.specs.List.{position_from}
use Rattle.std.specs.Option.{option_map_or}
use Rattle.std.proofs.lemmas.List.{length-append}
use Rattle.std.proofs.lemmas.Option.{none-some}
use Rattle.orc_ids.specs.declared.limits.TheConstants.{GENERATOR_LIMIT}
use Rattle.orc_ids.specs.declared.lookup.Scope.{Scope}
use Rattle.orc_ids.specs.declared.lookup.Scope.TheVariants.{All, Exported}
use Rattle.session_model.specs.Lists.{changed_at}
use Rattle.session_model.specs.Meaning.{Meaning}
use Rattle.generators.specs.declared.generator.Generator.{Generator}
use Rattle.generators.specs.declared.lines.Lines.{Lines}
use Rattle.generators.specs.Kept.{offered_in, offering, still_offering, queue_of, AreInLine, HavePassed, AreKept}
use Rattle.generators.specs.Lines.{Queue, nobody, joined_by, from_unspent, without_spent, queue_at, ChangesLines}
use Rattle.generators.specs.Rows.{spent_at, spent_row, offers_in}
use Rattle.generators.proofs.Names.{and_false, seen_is_offered}

module _ {U : Type 0} (offers : Generator U → Bool) where
  -- no more than there are

  pub offering_few : (k : ℕ) (xs : List (Generator U)) → length (offering offers k xs) ≤ length xs
  offering_few k [] = omega arith
  offering_few k (x ∷ xs) = split (offers x) (offering_few (k + 1) xs)
    where
      split : (b : Bool) → length (offering offers (k + 1) xs) ≤ length xs → length (if b then k ∷ offering offers (k + 1) xs else offering offers (k + 1) xs) ≤ suc (length xs)
      split true rest = omega (arith, rest)
      split false rest = omega (arith, rest)

  -- one more at the end

  abbrev ends_with : Bool → List ℕ → ℕ → List ℕ
  ends_with b gs g = if b then gs ++ g ∷ [] else gs

  more_behind : (b : Bool) (k : ℕ) (gs : List ℕ) (g : ℕ) → k ∷ ends_with b gs g ≡ ends_with b (k ∷ gs) g
  more_behind true k gs g = refl
  more_behind false k gs g = refl

  pub offering_more : (k : ℕ) (xs : List (Generator U)) (x : Generator U) (g : ℕ) → g ≡ k + length xs → offering offers k (xs ++ x ∷ []) ≡ ends_with (offers x) (offering offers k xs) g
  offering_more k [] x g is = ap (λ j. if offers x then j ∷ [] else []) (let e : k ≡ g = omega (arith, is) in e)
  offering_more k (y ∷ ys) x g is = split (offers y) (offering_more (k + 1) ys x g (omega (arith, is)))
    where
      split : (b : Bool) → offering offers (k + 1) (ys ++ x ∷ []) ≡ ends_with (offers x) (offering offers (k + 1) ys) g → (if b then k ∷ offering offers (k + 1) (ys ++ x ∷ []) else offering offers (k + 1) (ys ++ x ∷ [])) ≡ ends_with (offers x) (if b then k ∷ offering offers (k + 1) ys else offering offers (k + 1) ys) g
      split true rest = ap (λ gs. k ∷ gs) rest ∙ more_behind (offers x) k (offering offers (k + 1) ys) g
      split false rest = rest

  pub still_more : (k : ℕ) (xs : List (Generator U)) (x : Generator U) (g : ℕ) → g ≡ k + length xs → x.spent ≡ false → still_offering offers k (xs ++ x ∷ []) ≡ ends_with (offers x) (still_offering offers k xs) g
  still_more k [] x g is fresh =
      ap (λ s. if offers x && s then [] else (if offers x then k ∷ [] else [])) fresh
      ∙ (ap (λ b. if b then [] else (if offers x then k ∷ [] else [])) (and_false (offers x)) ∙ ap (λ j. if offers x then j ∷ [] else []) (let e : k ≡ g = omega (arith, is) in e))
  still_more k (y ∷ ys) x g is fresh = split (offers y) y.spent (still_more (k + 1) ys x g (omega (arith, is)) fresh)
    where
      split : (b s : Bool) → still_offering offers (k + 1) (ys ++ x ∷ []) ≡ ends_with (offers x) (still_offering offers (k + 1) ys) g →
          (if b && s then still_offering offers (k + 1) (ys ++ x ∷ []) else (if b then k ∷ offering offers (k + 1) (ys ++ x ∷ []) else still_offering offers (k + 1) (ys ++ x ∷ [])))
          ≡ ends_with (offers x) (if b && s then still_offering offers (k + 1) ys else (if b then k ∷ offering offers (k + 1) ys else still_offering offers (k + 1) ys)) g
      split true true rest = rest
      split true false rest = ap (λ gs. k ∷ gs) (offering_more (k + 1) ys x g (omega (arith, is))) ∙ more_behind (offers x) k (offering offers (k + 1) ys) g
      split false true rest = rest
      split false false rest = rest

  pub queue_more : (xs : List (Generator U)) (x : Generator U) → x.spent ≡ false → queue_of offers (xs ++ x ∷ []) ≡ (if offers x then joined_by (length xs) (queue_of offers xs) else queue_of offers xs)
  queue_more xs x fresh =
      ap (λ (gs : List ℕ). record { joined = length gs; waiting = still_offering offers 0 (xs ++ x ∷ []) }) (offering_more 0 xs x (length xs) (omega arith))
      ∙ (ap (λ (gs : List ℕ). record { joined = length (ends_with (offers x) (offering offers 0 xs) (length xs)); waiting = gs }) (still_more 0 xs x (length xs) (omega arith) fresh)
      ∙ split (offers x))
    where
      split : (b : Bool) → record { joined = length (ends_with b (offering offers 0 xs) (length xs)); waiting = ends_with b (still_offering offers 0 xs) (length xs) } ≡ (if b then joined_by (length xs) (queue_of offers xs) else queue_of offers xs)
      split true = ap (λ (j : ℕ). record { joined = j; waiting = still_offering offers 0 xs ++ length xs ∷ [] }) (length-append (offering offers 0 xs) (length xs ∷ []))
      split false = refl

  -- the first that waits

  pub first_waits : (k : ℕ) (xs : List (Generator U)) → slice_get (still_offering offers k xs) 0 ≡ position_from (λ x. not x.spent && offers x) k xs
  first_waits k [] = refl
  first_waits k (x ∷ xs) = split (offers x) x.spent (first_waits (k + 1) xs)
    where
      split : (b s : Bool) → slice_get (still_offering offers (k + 1) xs) 0 ≡ position_from (λ x. not x.spent && offers x) (k + 1) xs →
          slice_get (if b && s then still_offering offers (k + 1) xs else (if b then k ∷ offering offers (k + 1) xs else still_offering offers (k + 1) xs)) 0
          ≡ (if not s && b then Some k else position_from (λ x. not x.spent && offers x) (k + 1) xs)
      split true true rest = rest
      split true false rest = refl
      split false true rest = rest
      split false false rest = rest

  -- one of them is spent

  -- spent or not doesn't matter
  abbrev pub IsSteady : Type 0
  IsSteady = (x : Generator U) → offers (spent_row x) ≡ offers x

  pub offering_spent : IsSteady → (g k : ℕ) (xs : List (Generator U)) → offering offers k (changed_at g spent_row xs) ≡ offering offers k xs
  offering_spent steady g k [] = refl
  offering_spent steady zero k (x ∷ xs) = ap (λ b. if b then k ∷ offering offers (k + 1) xs else offering offers (k + 1) xs) (steady x)
  offering_spent steady (suc g) k (x ∷ xs) = ap (λ gs. if offers x then k ∷ gs else gs) (offering_spent steady g (k + 1) xs)

  -- what a test by number says of them
  abbrev pub Tells : (ℕ → Bool) → ℕ → List (Generator U) → Type 0
  Tells spent k xs = (i j : ℕ) (x : Generator U) → j ≡ k + i → slice_get xs i ≡ Some x → spent j ≡ x.spent

  tells_rest : (spent : ℕ → Bool) (k : ℕ) (x : Generator U) (xs : List (Generator U)) → Tells spent k (x ∷ xs) → Tells spent (k + 1) xs
  tells_rest spent k x xs tells = λ i j y is at. tells (suc i) j y (omega (arith, is)) at

  pub still_by : (spent : ℕ → Bool) (k : ℕ) (xs : List (Generator U)) → Tells spent k xs → from_unspent spent (offering offers k xs) ≡ still_offering offers k xs
  still_by spent k [] tells = refl
  still_by spent k (x ∷ xs) tells = split (offers x) x.spent (tells 0 k x (omega arith) refl) (still_by spent (k + 1) xs (tells_rest spent k x xs tells))
    where
      split : (b s : Bool) → spent k ≡ s → from_unspent spent (offering offers (k + 1) xs) ≡ still_offering offers (k + 1) xs →
          from_unspent spent (if b then k ∷ offering offers (k + 1) xs else offering offers (k + 1) xs)
          ≡ (if b && s then still_offering offers (k + 1) xs else (if b then k ∷ offering offers (k + 1) xs else still_offering offers (k + 1) xs))
      split true true is rest = ap (λ b. if b then from_unspent spent (offering offers (k + 1) xs) else k ∷ offering offers (k + 1) xs) is ∙ rest
      split true false is rest = ap (λ b. if b then from_unspent spent (offering offers (k + 1) xs) else k ∷ offering offers (k + 1) xs) is
      split false true is rest = rest
      split false false is rest = rest

  -- and it tells of more than that
  abbrev pub TellsSpent : (ℕ → Bool) → ℕ → List (Generator U) → Type 0
  TellsSpent spent k xs = (i j : ℕ) (x : Generator U) → j ≡ k + i → slice_get xs i ≡ Some x → x.spent ≡ true → spent j ≡ true

  pub still_after : (spent : ℕ → Bool) (k : ℕ) (xs : List (Generator U)) → TellsSpent spent k xs → from_unspent spent (offering offers k xs) ≡ from_unspent spent (still_offering offers k xs)
  still_after spent k [] tells = refl
  still_after spent k (x ∷ xs) tells =
      split (offers x) x.spent (tells 0 k x (omega arith) refl) (still_after spent (k + 1) xs (λ i j y is at. tells (suc i) j y (omega (arith, is)) at))
    where
      split : (b s : Bool) → (s ≡ true → spent k ≡ true) → from_unspent spent (offering offers (k + 1) xs) ≡ from_unspent spent (still_offering offers (k + 1) xs) →
          from_unspent spent (if b then k ∷ offering offers (k + 1) xs else offering offers (k + 1) xs)
          ≡ from_unspent spent (if b && s then still_offering offers (k + 1) xs else (if b then k ∷ offering offers (k + 1) xs else still_offering offers (k + 1) xs))
      split true true is rest = ap (λ b. if b then from_unspent spent (offering offers (k + 1) xs) else k ∷ offering offers (k + 1) xs) (is refl) ∙ rest
      split true false is rest = refl
      split false true is rest = rest
      split false false is rest = rest

  -- the line of a name that the spent one doesn't offer
  pub still_unspent : IsSteady → (g k : ℕ) (xs : List (Generator U)) → option_map_or offers (slice_get (changed_at g spent_row xs) g) false ≡ false → still_offering offers k (changed_at g spent_row xs) ≡ still_offering offers k xs
  still_unspent steady g k [] other = refl
  still_unspent steady zero k (x ∷ xs) other =
      ap (λ b. if b && true then still_offering offers (k + 1) xs else (if b then k ∷ offering offers (k + 1) xs else still_offering offers (k + 1) xs)) other
      ∙ sym (ap (λ b. if b && x.spent then still_offering offers (k + 1) xs else (if b then k ∷ offering offers (k + 1) xs else still_offering offers (k + 1) xs)) (sym (steady x) ∙ other))
  still_unspent steady (suc g) k (x ∷ xs) other =
      ap (λ gs. if offers x && x.spent then gs else (if offers x then k ∷ offering offers (k + 1) (changed_at g spent_row xs) else gs)) (still_unspent steady g (k + 1) xs other)
      ∙ ap (λ gs. if offers x && x.spent then still_offering offers (k + 1) xs else (if offers x then k ∷ gs else still_offering offers (k + 1) xs)) (offering_spent steady g (k + 1) xs)

module _ {U : Type 0} where
  tells_at : (xs : List (Generator U)) (i j : ℕ) (x : Generator U) → j ≡ 0 + i → slice_get xs i ≡ Some x → spent_at xs j ≡ x.spent
  tells_at xs i j x is at = ap (spent_at xs) (let e : j ≡ i = omega (arith, is) in e) ∙ ap (λ o. option_map_or (λ (y : Generator U). y.spent) o false) at

  stays_spent : (g : ℕ) (xs : List (Generator U)) (i : ℕ) (x : Generator U) → slice_get xs i ≡ Some x → x.spent ≡ true → spent_at (changed_at g spent_row xs) i ≡ true
  stays_spent g [] i x at is = absurd (none-some x at)
  stays_spent zero (y ∷ ys) zero x at is = refl
  stays_spent zero (y ∷ ys) (suc i) x at is = ap (λ o. option_map_or (λ (z : Generator U). z.spent) o false) at ∙ is
  stays_spent (suc g) (y ∷ ys) zero x at is = ap (λ o. option_map_or (λ (z : Generator U). z.spent) o false) at ∙ is
  stays_spent (suc g) (y ∷ ys) (suc i) x at is = stays_spent g ys i x at is

  pub queue_spent : (offers : Generator U → Bool) → IsSteady offers → (g : ℕ) (xs : List (Generator U)) → without_spent (spent_at (changed_at g spent_row xs)) (queue_of offers xs) ≡ queue_of offers (changed_at g spent_row xs)
  queue_spent offers steady g xs =
      let new = changed_at g spent_row xs in
      ap (λ (gs : List ℕ). record { joined = length gs; waiting = from_unspent (spent_at new) (still_offering offers 0 xs) }) (sym (offering_spent offers steady g 0 xs))
      ∙ ap (λ (gs : List ℕ). record { joined = length (offering offers 0 new); waiting = gs })
      (sym (still_after offers (spent_at new) 0 xs (λ i j x is at spent. ap (spent_at new) (let e : j ≡ i = omega (arith, is) in e) ∙ stays_spent g xs i x at spent))
      ∙ (ap (from_unspent (spent_at new)) (sym (offering_spent offers steady g 0 xs)) ∙ still_by offers (spent_at new) 0 new (tells_at new)))

  pub queue_unspent : (offers : Generator U → Bool) → IsSteady offers → (g : ℕ) (xs : List (Generator U)) → option_map_or offers (slice_get (changed_at g spent_row xs) g) false ≡ false → queue_of offers xs ≡ queue_of offers (changed_at g spent_row xs)
  queue_unspent offers steady g xs other =
      ap (λ (gs : List ℕ). record { joined = length gs; waiting = still_offering offers 0 xs }) (sym (offering_spent offers steady g 0 xs))
      ∙ ap (λ (gs : List ℕ). record { joined = length (offering offers 0 (changed_at g spent_row xs)); waiting = gs }) (sym (still_unspent offers steady g 0 xs other))

  -- all lines

  pub attached_in_line : (means : U → Meaning) (scope : Scope) (rows : List (Generator U)) (x : Generator U) (old new : Lines) → x.spent ≡ false → AreInLine means scope rows old →
      ChangesLines x.dylib.0 (offered_in (means x.unit).offers scope) (joined_by (length rows)) old new →
      AreInLine means scope (rows ++ x ∷ []) new
  attached_in_line means scope rows x old new fresh are joined d name =
      joined d name
      ∙ (ap (λ q. if offers_in means scope d name x then joined_by (length rows) q else q) (are d name) ∙ sym (queue_more (offers_in means scope d name) rows x fresh))

  other_name : (means : U → Meaning) (scope : Scope) (d name : ℕ) (o : Option (Generator U)) → option_map_or (offers_in means All d name) o false ≡ false → option_map_or (offers_in means scope d name) o false ≡ false
  other_name means scope d name None none = refl
  other_name means scope d name (Some x) none = split (x.dylib.0 == d) none
    where
      split : (b : Bool) → (b && offered_in (means x.unit).offers All name) ≡ false → (b && offered_in (means x.unit).offers scope name) ≡ false
      split true is = seen_is_offered (means x.unit).offers scope name is
      split false is = refl

  pub spent_in_line : (means : U → Meaning) (scope : Scope) (rows : List (Generator U)) (g : ℕ) (old new : Lines) → AreInLine means scope rows old → HavePassed means (changed_at g spent_row rows) g old new → AreInLine means scope (changed_at g spent_row rows) new
  spent_in_line means scope rows g old new are passed d name = passed d name ∙ split (option_map_or (offers_in means All d name) (slice_get (changed_at g spent_row rows) g) false) refl
    where
      after : List (Generator U)
      after = changed_at g spent_row rows

      split : (b : Bool) → option_map_or (offers_in means All d name) (slice_get after g) false ≡ b → (if b then without_spent (spent_at after) (queue_at old d name) else queue_at old d name) ≡ queue_of (offers_in means scope d name) after
      split true is = ap (without_spent (spent_at after)) (are d name) ∙ queue_spent (offers_in means scope d name) (λ x. refl) g rows
      split false is = are d name ∙ queue_unspent (offers_in means scope d name) (λ x. refl) g rows (other_name means scope d name (slice_get after g) is)

  -- few have joined a line
  pub few_joined : (means : U → Meaning) (scope : Scope) (rows : List (Generator U)) (l : Lines) → AreInLine means scope rows l → length rows ≤ GENERATOR_LIMIT → (d name : ℕ) → (queue_at l d name).joined + 1 < 2 ^ 32
  few_joined means scope rows l are few d name = omega (arith, ap (λ (q : Queue). q.joined) (are d name), offering_few (offers_in means scope d name) 0 rows, few)

  pub few_in_line : (means : U → Meaning) (scope : Scope) (rows : List (Generator U)) (l : Lines) → AreInLine means scope rows l → length rows ≤ GENERATOR_LIMIT → (d name : ℕ) → (queue_at l d name).joined < 2 ^ 32
  few_in_line means scope rows l are few d name = omega (arith, few_joined means scope rows l are few d name)

  -- the first in line
  pub first_in_line : (means : U → Meaning) (scope : Scope) (rows : List (Generator U)) (l : Lines) (d name : ℕ) → AreInLine means scope rows l →
      slice_get (queue_at l d name).waiting 0 ≡ position_from (λ x. not x.spent && offers_in means scope d name x) 0 rows
  first_in_line means scope rows l d name are = ap (λ (q : Queue). slice_get q.waiting 0) (are d name) ∙ first_waits (offers_in means scope d name) 0 rows

  -- what is kept

  pub none_kept : (means : U → Meaning) (rows : List (Generator U)) (all exported : Lines) → rows ≡ [] → ((d name : ℕ) → queue_at all d name ≡ nobody) → ((d name : ℕ) → queue_at exported d name ≡ nobody) → AreKept means rows all exported
  none_kept means rows all exported none no_all no_exported = subst (λ xs. AreKept means xs all exported) (sym none) (record { few = omega arith; in_all = no_all; in_exported = no_exported })

  pub attached_kept : (means : U → Meaning) (rows after : List (Generator U)) (x : Generator U) (all exported more_all more_exported : Lines) (g : ℕ) → length rows < GENERATOR_LIMIT → AreKept means rows all exported → after ≡ rows ++ x ∷ [] → g ≡ length rows → x.spent ≡ false →
      ChangesLines x.dylib.0 (offered_in (means x.unit).offers All) (joined_by g) all more_all → ChangesLines x.dylib.0 (offered_in (means x.unit).offers Exported) (joined_by g) exported more_exported →
      AreKept means after more_all more_exported
  attached_kept means rows after x all exported more_all more_exported g few kept is number fresh in_all in_exported =
      subst (λ xs. AreKept means xs more_all more_exported) (sym is) (record {
        few = omega (arith, few, length-append rows (x ∷ []));
        in_all = attached_in_line means All rows x all more_all fresh kept.in_all (subst (λ n. ChangesLines x.dylib.0 (offered_in (means x.unit).offers All) (joined_by n) all more_all) number in_all);
        in_exported = attached_in_line means Exported rows x exported more_exported fresh kept.in_exported (subst (λ n. ChangesLines x.dylib.0 (offered_in (means x.unit).offers Exported) (joined_by n) exported more_exported) number in_exported);
      })

  length-changed : (f : Generator U → Generator U) (g : ℕ) (xs : List (Generator U)) → length (changed_at g f xs) ≡ length xs
  length-changed f g [] = refl
  length-changed f zero (x ∷ xs) = refl
  length-changed f (suc g) (x ∷ xs) = ap suc (length-changed f g xs)

  pub spent_kept : (means : U → Meaning) (g : ℕ) (rows after : List (Generator U)) (all exported less_all less_exported : Lines) → AreKept means rows all exported → after ≡ changed_at g spent_row rows →
      HavePassed means after g all less_all → HavePassed means after g exported less_exported → AreKept means after less_all less_exported
  spent_kept means g rows after all exported less_all less_exported kept is in_all in_exported =
      subst (λ xs. AreKept means xs less_all less_exported) (sym is) (record {
        few = omega (arith, kept.few, length-changed spent_row g rows);
        in_all = spent_in_line means All rows g all less_all kept.in_all (subst (λ xs. HavePassed means xs g all less_all) is in_all);
        in_exported = spent_in_line means Exported rows g exported less_exported kept.in_exported (subst (λ xs. HavePassed means xs g exported less_exported) is in_exported);
      })
