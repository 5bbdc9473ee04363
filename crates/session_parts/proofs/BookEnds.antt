-- What a book has once its queries have settled: the ends that are noted, and the units that are due.
use Rattle.std.proofs.Common.{◌≡◌, ℕ, zero, suc, Bool, true, false, ◌&&◌, List, [], ◌∷◌, ◌++◌, length, slice_get, Option, Some, None, refl, ap, sym, subst, ◌∙◌, arith, append_assoc}
use Rattle.std.specs.Bool.{if◌then◌else◌}
use Rattle.std.specs.Prelude.{is_none, set, option_to_list}
use Rattle.std.specs.Option.{option_map_or}
use Rattle.std.proofs.lemmas.List.{length-append}
use Rattle.orc_ids.specs.declared.ids.UnitId.{UnitId}
use Rattle.session_model.specs.Plain.{Plain}
use Rattle.session_model.specs.Query as session
use Rattle.session_model.specs.Query.{Stand, stand_at}
use Rattle.session_model.specs.declared.rows.InstRow.{InstRow}
use Rattle.session_model.specs.declared.rows.Query.{Query}
use Rattle.query_book.specs.declared.ends.QueryEnd.{QueryEnd}
use Rattle.query_book.specs.Ledger.{Ledger, account, settled, settling, settles}
use Rattle.query_book.specs.Laws.{StandsAsTheSession}
use Rattle.query_book.specs.Rows.{Account, ended_one, ended_all, unit_of}
use Rattle.query_book.specs.Stands.{ending}
use Rattle.session_parts.specs.Dues.{dues}
use Rattle.session_parts.specs.Ends.{noted, noted_end}

-- the ends of these queries after an entry, by how the instances stand
abbrev ends_by : ℕ → (ℕ → Stand) → List Query → List (Option QueryEnd) → List (Option QueryEnd)
ends_by at s (q ∷ qs) (end ∷ ends) = (if settles s q end then Some (record { at = at; end = ending s q }) else end) ∷ ends_by at s qs ends
ends_by at s qs ends = ends

abbrev dues_by : (ℕ → Stand) → List Query → List (Option QueryEnd) → List UnitId
dues_by s (q ∷ qs) (end ∷ ends) = (if settles s q end then option_to_list (unit_of q) else []) ++ dues_by s qs ends
dues_by s _ _ = []

get_here : {X : Type 0} (pre xs : List X) (x : X) (k : ℕ) → length pre ≡ k → slice_get (pre ++ x ∷ xs) k ≡ Some x
get_here [] xs x zero e = refl
get_here [] xs x (suc k) e = absurd (omega (arith, e))
get_here (y ∷ pre) xs x zero e = absurd (omega (arith, e))
get_here (y ∷ pre) xs x (suc k) e = get_here pre xs x k (omega (arith, e))

set_here : {X : Type 0} (pre xs : List X) (x y : X) (k : ℕ) → length pre ≡ k → set (pre ++ x ∷ xs) k y ≡ pre ++ y ∷ xs
set_here [] xs x y zero e = refl
set_here [] xs x y (suc k) e = absurd (omega (arith, e))
set_here (z ∷ pre) xs x y zero e = absurd (omega (arith, e))
set_here (z ∷ pre) xs x y (suc k) e = ap (λ l. z ∷ l) (set_here pre xs x y k (omega (arith, e)))

record IsEnded {N : Type 0} (at : ℕ) (s : ℕ → Stand) (a new : Account N) (pree : List (Option QueryEnd)) (qs : List Query) (ends : List (Option QueryEnd)) : Type 0 where
  queries : new.queries ≡ a.queries
  ends_are : new.ends ≡ pree ++ ends_by at s qs ends
  due : new.due ≡ a.due ++ dues_by s qs ends

abbrev one_ended : {N : Type 0} → ℕ → (ℕ → Stand) → ℕ → Query → Account N → Account N
one_ended at s k q a = record { queries = a.queries; ends = set a.ends k (Some (record { at = at; end = ending s q })); armed = set a.armed k None; due = a.due ++ option_to_list (unit_of q) }

longer : {X : Type 0} (xs : List X) (x : X) {j : ℕ} → length xs ≡ j → length (xs ++ x ∷ []) ≡ suc j
longer xs x e = length-append xs (x ∷ []) ∙ omega (arith, e)

append_nil : {X : Type 0} (xs : List X) → xs ++ [] ≡ xs
append_nil [] = refl
append_nil (x ∷ xs) = ap (λ ys. x ∷ ys) (append_nil xs)

ended_from : {N : Type 0} (at : ℕ) (s : ℕ → Stand) (j : ℕ) (a : Account N) (preq : List Query) (pree : List (Option QueryEnd)) (qs : List Query) (ends : List (Option QueryEnd)) →
    a.queries ≡ preq ++ qs → a.ends ≡ pree ++ ends → length preq ≡ j → length pree ≡ j → length ends ≡ length qs → IsEnded at s a (ended_all at s (settling j s qs ends) a) pree qs ends
ended_from at s j a preq pree [] [] q e lq le l = record { queries = refl; ends_are = e; due = sym (append_nil a.due) }
ended_from at s j a preq pree [] (end ∷ ends) q e lq le l = absurd (omega (arith, l))
ended_from at s j a preq pree (x ∷ qs) [] q e lq le l = absurd (omega (arith, l))
ended_from {N} at s j a preq pree (x ∷ qs) (end ∷ ends) q e lq le l = split (settles s x end) refl
    (ended_from at s (suc j) (one_ended at s j x a) (preq ++ x ∷ []) (pree ++ Some (record { at = at; end = ending s x }) ∷ []) qs ends
    (q ∙ sym (append_assoc preq (x ∷ []) qs)) (ap (λ es. set es j (Some (record { at = at; end = ending s x }))) e ∙ (set_here pree ends end (Some (record { at = at; end = ending s x })) j le ∙ sym (append_assoc pree (Some (record { at = at; end = ending s x }) ∷ []) ends)))
    (longer preq x lq) (longer pree (Some (record { at = at; end = ending s x })) le) (omega (arith, l)))
    (ended_from at s (suc j) a (preq ++ x ∷ []) (pree ++ end ∷ []) qs ends
    (q ∙ sym (append_assoc preq (x ∷ []) qs)) (e ∙ sym (append_assoc pree (end ∷ []) ends)) (longer preq x lq) (longer pree end le) (omega (arith, l)))
  where
    new : Option QueryEnd
    new = Some (record { at = at; end = ending s x })

    there : slice_get a.queries j ≡ Some x
    there = ap (λ xs. slice_get xs j) q ∙ get_here preq qs x j lq

    one : ended_one at s j a ≡ one_ended at s j x a
    one = ap (λ o. option_map_or (λ y. one_ended at s j y a) o a) there

    split : (b : Bool) → settles s x end ≡ b → IsEnded at s (one_ended at s j x a) (ended_all at s (settling (suc j) s qs ends) (one_ended at s j x a)) (pree ++ Some (record { at = at; end = ending s x }) ∷ []) qs ends →
        IsEnded at s a (ended_all at s (settling (suc j) s qs ends) a) (pree ++ end ∷ []) qs ends → IsEnded at s a (ended_all at s ((if b then j ∷ [] else []) ++ settling (suc j) s qs ends) a) pree (x ∷ qs) (end ∷ ends)
    split true t r rest =
        subst (λ (b : Account N). IsEnded at s a (ended_all at s (settling (suc j) s qs ends) b) pree (x ∷ qs) (end ∷ ends)) (sym one) (record {
          queries = r.queries;
          ends_are = r.ends_are ∙ (append_assoc pree (new ∷ []) (ends_by at s qs ends) ∙ ap (λ b. pree ++ (if b then new else end) ∷ ends_by at s qs ends) (sym t));
          due = r.due ∙ (append_assoc a.due (option_to_list (unit_of x)) (dues_by s qs ends) ∙ ap (λ b. a.due ++ ((if b then option_to_list (unit_of x) else []) ++ dues_by s qs ends)) (sym t));
        })
    split false f rest r = record {
      queries = r.queries;
      ends_are = r.ends_are ∙ (append_assoc pree (end ∷ []) (ends_by at s qs ends) ∙ ap (λ b. pree ++ (if b then new else end) ∷ ends_by at s qs ends) (sym f));
      due = r.due ∙ ap (λ b. a.due ++ ((if b then option_to_list (unit_of x) else []) ++ dues_by s qs ends)) (sym f);
    }

-- over the rows of a session these are the ends that are noted
noted_by : (m : Plain) (law : StandsAsTheSession m.rows) (qs : List Query) (ends : List (Option QueryEnd)) → length ends ≡ length qs → ends_by m.entries (stand_at m.rows) qs ends ≡ noted m qs ends
noted_by m law [] [] l = refl
noted_by m law [] (end ∷ ends) l = absurd (omega (arith, l))
noted_by m law (q ∷ qs) [] l = absurd (omega (arith, l))
noted_by m law (q ∷ qs) (Some end ∷ ends) l = ap (λ es. Some end ∷ es) (noted_by m law qs ends (omega (arith, l)))
noted_by m law (q ∷ qs) (None ∷ ends) l =
    ap (λ b. (if b then Some (record { at = m.entries; end = ending (stand_at m.rows) q }) else None) ∷ ends_by m.entries (stand_at m.rows) qs ends) (law.met q)
    ∙ (ap (λ e. (if session.is_met m.rows q then Some (record { at = m.entries; end = e }) else None) ∷ ends_by m.entries (stand_at m.rows) qs ends) (law.ends q)
    ∙ ap (λ es. noted_end m q None ∷ es) (noted_by m law qs ends (omega (arith, l))))

dues_are : (rows : List InstRow) (law : StandsAsTheSession rows) (qs : List Query) (ends : List (Option QueryEnd)) → dues_by (stand_at rows) qs ends ≡ dues rows qs ends
dues_are rows law [] ends = refl
dues_are rows law (q ∷ qs) [] = refl
dues_are rows law (q ∷ qs) (end ∷ ends) =
    ap (λ b. (if is_none end && b then option_to_list (unit_of q) else []) ++ dues_by (stand_at rows) qs ends) (law.met q)
    ∙ ap (λ ds. (if is_none end && session.is_met rows q then option_to_list (unit_of q) else []) ++ ds) (dues_are rows law qs ends)

-- what settling makes of a book, by the session that an entry led to
pub record IsSettled {N : Type 0} (m : Plain) (old new : Ledger N) : Type 0 where
  pub queries : new.queries ≡ old.queries
  pub ends : new.ends ≡ noted m old.queries old.ends
  pub due : new.due ≡ old.due ++ dues m.rows old.queries old.ends

pub book_settled : {N : Type 0} (m : Plain) (old new : Ledger N) → StandsAsTheSession m.rows → length old.ends ≡ length old.queries → account new ≡ settled m.entries (stand_at m.rows) old → IsSettled m old new
book_settled m old new law l e = let r = ended_from m.entries (stand_at m.rows) 0 (account old) [] [] old.queries old.ends refl refl refl refl l in record {
  queries = ap (λ a. a.queries) e ∙ r.queries;
  ends = ap (λ a. a.ends) e ∙ (r.ends_are ∙ noted_by m law old.queries old.ends l);
  due = ap (λ a. a.due) e ∙ (r.due ∙ ap (λ ds. old.due ++ ds) (dues_are m.rows law old.queries old.ends));
}
