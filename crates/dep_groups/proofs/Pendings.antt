-- What is counted is what is reached and isn't emitted.
use Rattle.std.proofs.Common.{◌≡◌, ℕ, Bool, true, false, Option, Some, None, ◌⊎◌, inl, inr, ⊎_elim, cond, ◌<◌, ◌≤◌, ◌+◌, List, [], ◌∷◌, length, Contains, zero, suc, vec_len, ap, sym, subst, ◌∙◌, refl, arith, zero-lt-suc, suc-le-suc}
use Rattle.std.specs.Prelude.{slice_get}
use Rattle.std.proofs.lemmas.Option.{same_Some, none-some, slice_get_within}
use Rattle.std.proofs.lemmas.Bool.{both_ways}
use Rattle.graph_walks.specs.Walks.{IsPath}
use Rattle.graph_walks.proofs.Paths.{reaches_self}
use Rattle.dep_groups.specs.declared.graph.Edge.{Edge}
use Rattle.dep_groups.specs.declared.graph.Graph.{Graph}
use Rattle.dep_groups.specs.declared.resolve.Core.{Core}
use Rattle.dep_groups.specs.declared.trail.Trail.{Trail}
use Rattle.dep_groups.specs.Places.{place, is_set, unset}
use Rattle.dep_groups.specs.Shape.{home_in, deps_in, entry_of, entries_of}
use Rattle.dep_groups.specs.Search.{IsTrailOf, IsVisit, IsMore}
use Rattle.dep_groups.specs.Seek.{IsClear}
use Rattle.dep_groups.specs.Core.{AreClosed}
use Rattle.dep_groups.specs.Wake.{IsListed, IsIndexed}
use Rattle.dep_groups.specs.Kept.{IsKept}
use Rattle.dep_groups.specs.Frontier.{is_emitted, next_of, is_emitted_at, Reaches, IsPendingCount}
use Rattle.dep_groups.specs.Pending.{AreCounted, AreWithin, AreNoted, IsCovered, IsCoveredFrom}
use Rattle.dep_groups.proofs.Lists.{at_contains, contains_at}
use Rattle.dep_groups.proofs.Trails.{same_visit, visit_below, visit_was, named_more, met_more, looked_more}
use Rattle.dep_groups.proofs.Tables.{place_within}
use Rattle.dep_groups.proofs.Additions.{unlisted}
use Rattle.dep_groups.proofs.Entries.{entry_here, entry_home, next_named}

-- the numbers of the flags that are set, from n on
abbrev set_from : ℕ → List Bool → List ℕ
set_from n [] = []
set_from n (x ∷ xs) = cond x (n ∷ set_from (suc n) xs) (set_from (suc n) xs)

count_set : (n : ℕ) (xs : List Bool) → length (set_from n xs) + unset xs ≡ length xs
count_set n [] = refl
count_set n (x ∷ xs) = sort x (count_set (suc n) xs)
  where
    sort : (b : Bool) → length (set_from (suc n) xs) + unset xs ≡ length xs → length (cond b (n ∷ set_from (suc n) xs) (set_from (suc n) xs)) + cond b (unset xs) (suc (unset xs)) ≡ suc (length xs)
    sort true e = omega (arith, e)
    sort false e = omega (arith, e)

-- where a flag is set its number is there
set_in : (xs : List Bool) (n k : ℕ) → is_set xs k ≡ true → Contains (set_from n xs) (n + k)
unfolding is_set
set_in [] n k is = absurd (both_ways false refl is)
set_in (x ∷ xs) n zero is = subst (λ b. Contains (cond b (n ∷ set_from (suc n) xs) (set_from (suc n) xs)) (n + 0)) (sym is) (subst (λ m. Contains (n ∷ set_from (suc n) xs) m) here (0, zero-lt-suc (length (set_from (suc n) xs)), refl))
  where
    here : n ≡ n + 0
    here = omega arith
set_in (x ∷ xs) n (suc k) is = sort x (subst (λ m. Contains (set_from (suc n) xs) m) there (set_in xs (suc n) k is))
  where
    there : suc n + k ≡ n + suc k
    there = omega arith

    sort : (b : Bool) → Contains (set_from (suc n) xs) (n + suc k) → Contains (cond b (n ∷ set_from (suc n) xs) (set_from (suc n) xs)) (n + suc k)
    sort true c = (suc c.0, suc-le-suc c.1, c.2)
    sort false c = c

in_rest : (n j : ℕ) (ys : List ℕ) → Contains (n ∷ ys) j → (n ≡ j) ⊎ Contains ys j
in_rest n j ys (zero, less, is) = inl is
in_rest n j ys (suc k, less, is) = inr (k, omega (arith, less), is)

-- and only there
set_only : (xs : List Bool) (n j : ℕ) → Contains (set_from n xs) j → (k : ℕ) × (j ≡ n + k) × (is_set xs k ≡ true)
unfolding is_set
set_only [] n j c = absurd (omega (arith, c.1))
set_only (x ∷ xs) n j c = sort x refl (λ d. set_only xs (suc n) j d) c
  where
    further : (k : ℕ) × (j ≡ suc n + k) × (is_set xs k ≡ true) → (k : ℕ) × (j ≡ n + k) × (is_set (x ∷ xs) k ≡ true)
    further r = (suc r.0, omega (arith, r.1), r.2)

    sort : (b : Bool) → x ≡ b → (Contains (set_from (suc n) xs) j → (k : ℕ) × (j ≡ suc n + k) × (is_set xs k ≡ true)) → Contains (cond b (n ∷ set_from (suc n) xs) (set_from (suc n) xs)) j → (k : ℕ) × (j ≡ n + k) × (is_set (x ∷ xs) k ≡ true)
    sort false e rest d = further (rest d)
    sort true e rest d = ⊎_elim (λ (here : n ≡ j). (0, omega (arith, here), e)) (λ (c : Contains (set_from (suc n) xs) j). further (rest c)) (in_rest n j (set_from (suc n) xs) d)

set_once : (xs : List Bool) (n a b j : ℕ) → slice_get (set_from n xs) a ≡ Some j → slice_get (set_from n xs) b ≡ Some j → a ≡ b
set_once [] n a b j is too = absurd (none-some j is)
set_once (x ∷ xs) n a b j is too = sort x (λ p q at after. set_once xs (suc n) p q j at after) a b is too
  where
    above : (k : ℕ) → slice_get (set_from (suc n) xs) k ≡ Some j → n < j
    above k at = let r = set_only xs (suc n) j (at_contains (set_from (suc n) xs) k j at) in omega (arith, r.1)

    first : Some n ≡ Some j → n < j → ⊥
    first e less = let same : n ≡ j = same_Some n j e in omega (arith, same, less)

    sort : (c : Bool) → ((p q : ℕ) → slice_get (set_from (suc n) xs) p ≡ Some j → slice_get (set_from (suc n) xs) q ≡ Some j → p ≡ q) → (a b : ℕ) → slice_get (cond c (n ∷ set_from (suc n) xs) (set_from (suc n) xs)) a ≡ Some j → slice_get (cond c (n ∷ set_from (suc n) xs) (set_from (suc n) xs)) b ≡ Some j → a ≡ b
    sort false rest a b is too = rest a b is too
    sort true rest zero zero is too = refl
    sort true rest zero (suc b) is too = absurd (first is (above b too))
    sort true rest (suc a) zero is too = absurd (first too (above a is))
    sort true rest (suc a) (suc b) is too = ap suc (rest a b is too)

-- no flag is set
none_set : (xs : List Bool) → ((i : ℕ) → is_set xs i ≡ false) → unset xs ≡ length xs
unfolding is_set
none_set [] low = refl
none_set (x ∷ xs) low = ap (λ b. cond b (unset xs) (suc (unset xs))) (low 0) ∙ ap suc (none_set xs (λ i. low (suc i)))

pub counted_none : (flags : List Bool) → ((i : ℕ) → is_set flags i ≡ false) → AreCounted flags 0
counted_none flags clear = record { sum = omega (arith, none_set flags clear) }

-- what was found stays found
pub noted_more : (graph : Graph) (old new : Trail) (flags : List Bool) → IsMore old new → AreNoted graph old flags → AreNoted graph new flags
noted_more graph old new flags more n = record {
  only = λ i is. let p = n.only i is in record { from = p.from; named = named_more graph old new p.from i more p.named; is_open = record { met = met_more graph old new i more p.is_open.met; unready = p.is_open.unready; absent = p.is_open.absent } };
}

pub covered_more : (graph : Graph) (old new : Trail) (flags set : List Bool) (i : ℕ) → IsMore old new → ((n : ℕ) → is_set flags n ≡ true → is_set set n ≡ true) → IsCovered graph old flags i → IsCovered graph new set i
covered_more graph old new flags set i more stays (inl e) = inl (looked_more graph old new i more e)
covered_more graph old new flags set i more stays (inr e) = inr (stays i e)

pub covered_then : (graph : Graph) (old new : Trail) (flags set : List Bool) (k : ℕ) → k < length old.order.items → IsMore old new → ((n : ℕ) → is_set flags n ≡ true → is_set set n ≡ true) → IsCoveredFrom graph old flags k → IsCoveredFrom graph new set k
covered_then graph old new flags set k less more stays c = record {
  covered = λ g d is named. covered_more graph old new flags set d more stays (c.covered g d (visit_was old new k g more less is) named);
}

pub covered_from : (graph : Graph) (old new : Trail) (flags : List Bool) (from g n : ℕ) (ds : List ℕ) → IsVisit old.order.items from g → IsMore old new → ds ≡ deps_in graph g → length ds ≤ n → ((k d : ℕ) → k < n → slice_get ds k ≡ Some d → IsCovered graph new flags d) → IsCoveredFrom graph new flags from
covered_from graph old new flags from g n ds at more same all each = record {
  covered = λ h d is named.
      let list : ds ≡ deps_in graph h = same ∙ ap (deps_in graph) (same_visit new.order.items from g h (more.kept from g at) is) in
      let k = contains_at ds d (subst (λ xs. Contains xs d) (sym list) named) in
      each k.0 d (omega (arith, slice_get_within ds k.0 d k.1, all)) k.1;
}

listed_within : (edges : List Edge) (firsts : List (Option ℕ)) (d g : ℕ) → IsListed edges (place firsts d) g → d < length firsts
listed_within edges firsts d g listed = there (place firsts d) refl listed
  where
    there : (o : Option ℕ) → place firsts d ≡ o → IsListed edges o g → d < length firsts
    there None is l = absurd (unlisted edges None g refl l)
    there (Some k) is l = place_within firsts d k is

-- there is a flag for each instance that a group depends on
pub within_flags : (graph : Graph) (flags : List Bool) → IsIndexed graph → length graph.firsts.items ≡ length graph.homes.items → length graph.homes.items ≤ length flags → AreWithin graph flags
within_flags graph flags x firsts covers = record { within = λ g d named. omega (arith, firsts, covers, listed_within graph.edges.items graph.firsts.items d g (x.complete g d named)) }

pub within_same : (graph : Graph) (old new : List Bool) → length new ≡ length old → AreWithin graph old → AreWithin graph new
within_same graph old new same w = record { within = λ g d named. omega (arith, same, w.within g d named) }

-- a set that has what follows its members has what they reach
along : (next : ℕ → List ℕ) (P : ℕ → Type 0) → ((n k : ℕ) → P n → Contains (next n) k → P k) → (i j : ℕ) (p : List ℕ) → IsPath next i p j → P i → P j
along next P keeps i j [] e holds = subst P e holds
along next P keeps i j (k ∷ ks) e holds = along next P keeps k j ks e.1 (keeps i k holds e.0)

module _ (graph : Graph) (trail : Trail) (flags : List Bool) (group i : ℕ) (t : IsTrailOf graph trail) (first : IsVisit trail.order.items 0 group) (noted : AreNoted graph trail flags) (home : home_in graph i ≡ Some group) where
  module _ (closed : AreClosed graph) (all : (k : ℕ) → k < vec_len trail.order → IsCoveredFrom graph trail flags k) where
    covered_next : (n d : ℕ) → IsCovered graph trail flags n → Contains (next_of (entries_of graph) n) d → IsCovered graph trail flags d
    covered_next n d c named = let h = next_named graph n d named in sort h.0 h.1 h.2 c
      where
        sort : (g : ℕ) → home_in graph n ≡ Some g → Contains (deps_in graph g) d → IsCovered graph trail flags n → IsCovered graph trail flags d
        sort g is dep (inl (inl high)) = inl (inl (closed.closed n g d high is dep))
        sort g is dep (inl (inr e)) =
            let s = t.known e.0 e.2 in
            let same : e.0 ≡ g = same_Some e.0 g (sym e.1 ∙ is) in
            (all s.at (omega (arith, visit_below trail.order.items s.at e.0 s.is, trail.order.ok.0))).covered e.0 d s.is (subst (λ m. Contains (deps_in graph m) d) (sym same) dep)
        sort g is dep (inr flagged) = absurd (none-some g (sym (noted.only n flagged).is_open.absent ∙ is))

    start : IsCovered graph trail flags i
    start = inl (inr (group, home, t.marked 0 group first))

    flagged_absent : (j : ℕ) → is_emitted_at (entries_of graph) j ≡ false → IsCovered graph trail flags j → Contains (set_from 0 flags) j
    flagged_absent j absent (inl (inl high)) = let h = closed.emitted j high in absurd (both_ways (is_emitted_at (entries_of graph) j) absent (ap is_emitted (entry_home graph j h.0 h.1)))
    flagged_absent j absent (inl (inr e)) = absurd (both_ways (is_emitted_at (entries_of graph) j) absent (ap is_emitted (entry_home graph j e.0 e.1)))
    flagged_absent j absent (inr flagged) = subst (λ m. Contains (set_from 0 flags) m) here (set_in flags 0 j flagged)
      where
        here : 0 + j ≡ j
        here = omega arith

    flagged_reached : (j : ℕ) → is_set flags j ≡ true → Reaches (entries_of graph) i j × (is_emitted_at (entries_of graph) j ≡ false)
    flagged_reached j flagged =
        let o = (noted.only j flagged).is_open in (
          o.met.reaches i (home ∙ ap Some (same_visit trail.order.items 0 group o.met.first first o.met.is)),
          ap is_emitted (entry_here graph j ∙ ap (entry_of graph.nodes.items) o.absent),
        )

    pub counted_pending : (count : ℕ) → AreCounted flags count → IsPendingCount (entries_of graph) i count
    counted_pending count c = record {
      pending = set_from 0 flags;
      are = record {
        all = λ j r absent. flagged_absent j absent (along (next_of (entries_of graph)) (IsCovered graph trail flags) covered_next i j r.path r.leads start);
        only = λ j named. let k = set_only flags 0 j named in let same : k.0 ≡ j = omega (arith, k.1) in flagged_reached j (subst (λ m. is_set flags m ≡ true) same k.2);
        once = λ j k n is too. set_once flags 0 j k n is too;
      };
      count_is = omega (arith, c.sum, count_set 0 flags);
    }

-- what is not emitted reaches itself alone
pub counted_alone : (graph : Graph) (i : ℕ) → home_in graph i ≡ None → IsPendingCount (entries_of graph) i 1
counted_alone graph i none = record {
  pending = i ∷ [];
  are = record {
    all = λ j r absent. along (next_of (entries_of graph)) (λ n. Contains (i ∷ []) n) on i j r.path r.leads (0, zero-lt-suc 0, refl);
    only = λ j named. ⊎_elim (λ (e : i ≡ j). subst (λ n. Reaches (entries_of graph) i n × (is_emitted_at (entries_of graph) n ≡ false)) e (reaches_self (next_of (entries_of graph)) i, ap is_emitted (entry_here graph i ∙ ap (entry_of graph.nodes.items) none))) (λ (rest : Contains [] j). absurd (omega (arith, rest.1))) (in_rest i j [] named);
    once = λ j k n is too. let a = slice_get_within (i ∷ []) j n is in let b = slice_get_within (i ∷ []) k n too in omega (arith, a, b);
  };
  count_is = refl;
}
  where
    on : (n k : ℕ) → Contains (i ∷ []) n → Contains (next_of (entries_of graph) n) k → Contains (i ∷ []) k
    on n k here named = ⊎_elim
        (λ (e : i ≡ n). let h = next_named graph n k named in absurd (none-some h.0 (sym (subst (λ m. home_in graph m ≡ None) e none) ∙ h.1)))
        (λ (rest : Contains [] n). absurd (omega (arith, rest.1)))
        (in_rest i n [] here)

-- what is kept doesn't rest on the room for a search
pub kept_cleared : (core : Core) (trail : Trail) → IsKept core → IsClear trail → length trail.seen.items ≡ length core.trail.seen.items → IsKept (record core { trail = trail })
kept_cleared core trail k clear groups = let s = k.sound in record {
  sound = record {
    sizes = record { links = s.sizes.links; nexts = s.sizes.nexts; heads = s.sizes.heads; cursors = s.sizes.cursors; seen = groups ∙ s.sizes.seen; ready = s.sizes.ready; few = s.sizes.few; places_few = s.sizes.places_few };
    wired = s.wired;
    members = s.members;
    ready = s.ready;
    ends = s.ends;
    leads = s.leads;
    queued = s.queued;
    cursors = s.cursors;
    clear = clear;
    room = s.room;
  };
  indexed = k.indexed;
  firsts = k.firsts;
  held = k.held;
}
