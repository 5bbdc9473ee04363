-- A query that is added to the lists of some instances.
use Rattle.std.proofs.Common.{◌≡◌, ◌≢◌, ◌⊎◌, inl, inr, ⊎_elim, ℕ, Bool, true, false, Option, Some, None, ◌+◌, ◌<◌, ◌≤◌, List, [], ◌∷◌, length, map, set, suc, refl, ap, sym, ◌∙◌, cond, subst, arith, length-set}
use Rattle.std.specs.Prelude.{◌==◌, ◌&&◌, not, is_some}
use Rattle.std.specs.List.{filter_map, cons_option}
use Rattle.std.proofs.lemmas.Bool.Decides.{eqb_tells}
use mir.Val.{bool_byte}
use Rattle.orc_ids.specs.declared.ids.InstId.{InstId}
use Rattle.orc_ids.specs.declared.lookup.Level.{Level}
use Rattle.orc_ids.specs.declared.lookup.Level.TheVariants.{Resolved, Ready}
use Rattle.session_model.specs.Lists.{only_if}
use Rattle.session_model.specs.Query.{Stand}
use Rattle.session_model.specs.declared.rows.Query.{Query}
use Rattle.query_book.specs.declared.board.Board.{Board}
use Rattle.query_book.specs.Stands.{at_level, all_at, missing_of}
use Rattle.query_book.specs.Counts.{list_at}
use Rattle.query_book.specs.Lists.{HasLists}
use Rattle.query_book.specs.Board.{waiting, listed, IsWaiting}

pub listed_first : (query : ℕ) (x : Option InstId) (os : List (Option InstId)) (ls : List (List ℕ)) → listed query (x ∷ os) ls ≡ listed query os (listed query (x ∷ []) ls)
listed_first query None os ls = refl
listed_first query (Some i) os ls = refl

listed_length : (query : ℕ) (os : List (Option InstId)) (ls : List (List ℕ)) → length (listed query os ls) ≡ length ls
listed_length query [] ls = refl
listed_length query (None ∷ os) ls = listed_length query os ls
listed_length query (Some i ∷ os) ls = listed_length query os (set ls i.0 (query ∷ list_at ls i.0)) ∙ length-set ls i.0 (query ∷ list_at ls i.0)

pub has_same : (a b : List (List ℕ)) (os : List (Option InstId)) → length a ≡ length b → HasLists a os → HasLists b os
has_same a b [] e has = tt
has_same a b (None ∷ os) e has = has_same a b os e has
has_same a b (Some i ∷ os) e has = (omega (arith, e, has.0), has_same a b os e has.1)

has_first : (ls : List (List ℕ)) (x : Option InstId) (os : List (Option InstId)) → HasLists ls (x ∷ os) → HasLists ls (x ∷ [])
has_first ls None os has = tt
has_first ls (Some i) os has = (has.0, tt)

has_rest : (ls : List (List ℕ)) (x : Option InstId) (os : List (Option InstId)) → HasLists ls (x ∷ os) → HasLists ls os
has_rest ls None os has = has
has_rest ls (Some i) os has = has.1

-- the query was added for the instances before these
pub record IsListing (query : ℕ) (all left : List (Option InstId)) (first now : List (List ℕ)) (spare : ℕ) : Type 0 where
  pub lists : listed query left now ≡ listed query all first
  pub there : HasLists now left
  pub room : length left ≤ spare

pub listing_start : (query : ℕ) (all : List (Option InstId)) (ls : List (List ℕ)) (spare : ℕ) → HasLists ls all → length all ≤ spare → IsListing query all all ls ls spare
listing_start query all ls spare has room = record { lists = refl; there = has; room = room }

pub listing_there : (query : ℕ) (all left rest : List (Option InstId)) (x : Option InstId) (first now : List (List ℕ)) (spare : ℕ) → IsListing query all left first now spare → left ≡ x ∷ rest → HasLists now (x ∷ [])
listing_there query all left rest x first now spare l is = has_first now x rest (subst (HasLists now) is l.there)

pub listing_room : (query : ℕ) (all left rest : List (Option InstId)) (x : Option InstId) (first now : List (List ℕ)) (spare : ℕ) → IsListing query all left first now spare → left ≡ x ∷ rest → 0 < spare
listing_room query all left rest x first now spare l is = let n : length left ≡ suc (length rest) = ap length is in omega (arith, n, l.room)

pub listing_more : (query : ℕ) (all left rest : List (Option InstId)) (x : Option InstId) (first now new : List (List ℕ)) (spare spare' : ℕ) → IsListing query all left first now spare → left ≡ x ∷ rest → new ≡ listed query (x ∷ []) now → spare ≤ spare' + 1 → IsListing query all rest first new spare'
listing_more query all left rest x first now new spare spare' l is more less = record {
  lists = ap (λ ls. listed query rest ls) more ∙ sym (listed_first query x rest now) ∙ sym (ap (λ os. listed query os now) is) ∙ l.lists;
  there = has_same now new rest (sym (listed_length query (x ∷ []) now) ∙ ap length (sym more)) (has_rest now x rest (subst (HasLists now) is l.there));
  room = let n : length left ≡ suc (length rest) = ap length is in omega (arith, n, l.room, less);
}

pub has_missing : (s : ℕ → Stand) (level : Level) (ls : List (List ℕ)) (os : List (Option InstId)) → HasLists ls os → HasLists ls (map (missing_of s level) os)
has_missing s level ls [] has = tt
has_missing s level ls (None ∷ os) has = has_missing s level ls os has
has_missing s level ls (Some i ∷ os) has = step (at_level s level i.0) (has_missing s level ls os has.1)
  where
    step : (v : Bool) → HasLists ls (map (missing_of s level) os) → HasLists ls (only_if (not v) i ∷ map (missing_of s level) os)
    step true rest = rest
    step false rest = (has.0, rest)

pub length_missing : (s : ℕ → Stand) (level : Level) (o : Option InstId) (os : List (Option InstId)) → length (filter_map (missing_of s level) (o ∷ os)) ≡ cond (is_some (missing_of s level o)) 1 0 + length (filter_map (missing_of s level) os)
length_missing s level o os = step (missing_of s level o)
  where
    step : (m : Option InstId) → length (cons_option m (filter_map (missing_of s level) os)) ≡ cond (is_some m) 1 0 + length (filter_map (missing_of s level) os)
    step None = omega arith
    step (Some i) = omega arith

pub wait_resolved : (s : ℕ → Stand) (query : ℕ) (q : Query) (b c : Board) → q.level ≡ Resolved → c.resolved.lists ≡ listed query (map (missing_of s q.level) q.matched) b.resolved.lists → c.ready ≡ b.ready → c.all ≡ b.all → c.marks ≡ b.marks → IsWaiting s query q b c
wait_resolved s query q b c level here ready all marks = record {
  here = ap (λ l. waiting c l) level ∙ here ∙ sym (ap (λ l. listed query (map (missing_of s q.level) q.matched) (waiting b l)) level);
  other = other;
  all = all;
  marks = marks;
}
  where
    other : (l : Level) → (l ≡ q.level) ⊎ (waiting c l ≡ waiting b l)
    other Resolved = inl (sym level)
    other Ready = inr (ap (λ x. x.lists) ready)

pub wait_ready : (s : ℕ → Stand) (query : ℕ) (q : Query) (b c : Board) → q.level ≡ Ready → c.ready.lists ≡ listed query (map (missing_of s q.level) q.matched) b.ready.lists → c.resolved ≡ b.resolved → c.all ≡ b.all → c.marks ≡ b.marks → IsWaiting s query q b c
wait_ready s query q b c level here resolved all marks = record {
  here = ap (λ l. waiting c l) level ∙ here ∙ sym (ap (λ l. listed query (map (missing_of s q.level) q.matched) (waiting b l)) level);
  other = other;
  all = all;
  marks = marks;
}
  where
    other : (l : Level) → (l ≡ q.level) ⊎ (waiting c l ≡ waiting b l)
    other Resolved = inr (ap (λ x. x.lists) resolved)
    other Ready = inl (sym level)

-- where nothing is missing, all are at the level
pub none_missing : (s : ℕ → Stand) (level : Level) (os : List (Option InstId)) → (length (filter_map (missing_of s level) os) == 0) ≡ all_at s level os
none_missing s level [] = refl
none_missing s level (None ∷ os) = none_missing s level os
none_missing s level (Some i ∷ os) = step (at_level s level i.0) (none_missing s level os)
  where
    step : (v : Bool) → (length (filter_map (missing_of s level) os) == 0) ≡ all_at s level os → (length (cons_option (only_if (not v) i) (filter_map (missing_of s level) os)) == 0) ≡ (v && all_at s level os)
    step true ih = ih
    step false ih = ⊎_elim (λ (e : ((suc (length (filter_map (missing_of s level) os)) == 0) ≡ true) × (suc (length (filter_map (missing_of s level) os)) ≡ 0)). absurd (omega (arith, e.1))) (λ (e : ((suc (length (filter_map (missing_of s level) os)) == 0) ≡ false) × (suc (length (filter_map (missing_of s level) os)) ≢ 0)). e.0) (eqb_tells (suc (length (filter_map (missing_of s level) os))) 0)

pub byte_of : (b : Bool) → bool_byte b ≡ cond b 1 0
byte_of true = refl
byte_of false = refl

pub one_most : (b : Bool) → cond b 1 0 ≤ 1
one_most true = omega arith
one_most false = omega arith

pub zero_test : (n : ℕ) → n ≡ 0 → (n == 0) ≡ true
zero_test n e = ap (λ m. m == 0) e

pub other_test : (n : ℕ) → n ≢ 0 → (n == 0) ≡ false
other_test n apart = ⊎_elim (λ (f : ((n == 0) ≡ true) × (n ≡ 0)). absurd (apart f.1)) (λ (f : ((n == 0) ≡ false) × (n ≢ 0)). f.0) (eqb_tells n 0)
