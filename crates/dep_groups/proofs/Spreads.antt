-- What a failure hits, step by step.
use Rattle.std.proofs.Common.{◌≡◌, ℕ, Bool, true, false, Option, Some, ◌⊎◌, inl, inr, ⊎_elim, ◌<◌, ◌≤◌, ◌+◌, ◌==◌, if◌then◌else◌, List, [], ◌∷◌, ◌++◌, length, Contains, get_or, vec_len, vec_capacity, ap, sym, subst, ◌∙◌, refl, arith}
use Rattle.std.specs.Prelude.{slice_get}
use Rattle.std.proofs.lemmas.Option.{same_Some, none-some, slice_get_within, slice_get-get_or}
use Rattle.std.proofs.lemmas.Bool.{both_ways, cases_lt}
use Rattle.graph_walks.specs.Walks.{IsPath}
use Rattle.graph_walks.proofs.Paths.{reaches_self, reaches_next, reach_is_transitive}
use Rattle.orc_ids.specs.declared.ids.InstId.{InstId}
use Rattle.dep_groups.specs.declared.graph.Graph.{Graph}
use Rattle.dep_groups.specs.declared.hits.Hits.{Hits}
use Rattle.dep_groups.specs.declared.trail.Trail.{Trail}
use Rattle.dep_groups.specs.Places.{place, is_set, unset}
use Rattle.dep_groups.specs.Shape.{home_in, entries_of}
use Rattle.dep_groups.specs.Search.{IsVisit, IsSeen, IsRoomy}
use Rattle.dep_groups.specs.Seek.{IsClear}
use Rattle.dep_groups.specs.Marks.{IsTold, Tells, AreOf}
use Rattle.dep_groups.specs.Wake.{IsListed}
use Rattle.dep_groups.specs.Frontier.{Entry, next_of, Reaches, IsReady, IsHit, AreHits}
use Rattle.dep_groups.specs.Hits.{IsComplete, IsNoted, IsCaused, IsMoreHit, IsStruck, IsSwept, IsSpread}
use Rattle.dep_groups.proofs.Lists.{at_contains, contains_at}
use Rattle.dep_groups.proofs.Tables.{unset_few}
use Rattle.dep_groups.proofs.Trails.{visit_kept, visit_last, visit_push, raised_here, raised_kept, raised_cases}
use Rattle.dep_groups.proofs.Told.{tells_then}
use Rattle.dep_groups.proofs.Sound.{clear_roomy}
use Rattle.dep_groups.proofs.Empty.{no_flag}
use Rattle.dep_groups.proofs.Entries.{named_next, next_named}

-- what holds of the end of a way holds of its start, where each step back keeps it
back_along : (next : ℕ → List ℕ) (P : ℕ → Type 0) → ((i k : ℕ) → Contains (next i) k → P k → P i) → (i j : ℕ) (p : List ℕ) → IsPath next i p j → P j → P i
back_along next P back i j [] e holds = subst P (sym e) holds
back_along next P back i j (k ∷ ks) e holds = back i k e.0 (back_along next P back k j ks e.1 holds)

pub hit_none : (entries : List Entry) (hits : Hits) → IsMoreHit entries hits hits
hit_none entries hits = record {
  caused = λ i is. record { by = i; hit = is; reaches = reaches_self (next_of entries) i };
  stays = λ i is. is;
  front = λ k m is. is;
  places = refl;
  capacity = refl;
}

pub hit_then : (entries : List Entry) (a b c : Hits) → IsMoreHit entries a b → IsMoreHit entries b c → IsMoreHit entries a c
hit_then entries a b c x y = record {
  caused = λ i is.
      let q = y.caused i is in
      let p = x.caused q.by q.hit in
      record { by = p.by; hit = p.hit; reaches = reach_is_transitive (next_of entries) i q.by p.by q.reaches p.reaches };
  stays = λ i is. y.stays i (x.stays i is);
  front = λ k m is. y.front k m (x.front k m is);
  places = y.places ∙ x.places;
  capacity = y.capacity ∙ x.capacity;
}

-- a failure begins with nothing hit
pub noted_none : (hits : Hits) → ((i : ℕ) → is_set hits.flags.items i ≡ false) → hits.order.items ≡ [] → vec_len hits.order ≡ 0 → length hits.flags.items ≤ vec_capacity hits.order → IsNoted hits
noted_none hits clear none zero room = record {
  tells = record {
    stays = λ i is. absurd (both_ways (is_set [] i) (no_flag i) is);
    front = λ k m is. absurd (none-some m is);
    longer = omega arith;
    all = λ i is. absurd (both_ways (is_set hits.flags.items i) (clear i) is);
    only = λ k m past is. absurd (none-some m (ap (λ ms. slice_get ms k) (sym none) ∙ is));
    once = λ j k m past after is too. absurd (none-some m (ap (λ ms. slice_get ms j) (sym none) ∙ is));
  };
  room = omega (arith, zero, room, unset_few hits.flags.items);
}

pub swept_none : (graph : Graph) (trail : Trail) (hits : Hits) → IsClear trail → IsSwept graph trail hits
swept_none graph trail hits c = record {
  marked = λ k g is. absurd (none-some g (ap (λ vs. slice_get vs k) (sym c.empty) ∙ is.is));
  known = λ g is. absurd (both_ways (is_set trail.seen.items g) (c.unseen g) is);
  room = clear_roomy trail c;
  members = λ i g home is. absurd (both_ways (is_set trail.seen.items g) (c.unseen g) is);
}

-- some are marked and told, from flags to marks
module _ (hits new : Hits) (flags marks : List Bool) (was : flags ≡ hits.flags.items) (is : new.flags.items ≡ marks) where
  tells_same : Tells flags marks hits.order.items new.order.items → Tells hits.flags.items new.flags.items hits.order.items new.order.items
  tells_same t = subst (λ fs. Tells fs new.flags.items hits.order.items new.order.items) was (subst (λ ms. Tells flags ms hits.order.items new.order.items) (sym is) t)

  pub noted_marked : IsNoted hits → Tells flags marks hits.order.items new.order.items → vec_len new.order + unset marks ≤ vec_capacity new.order → IsNoted new
  noted_marked n t room = record {
    tells = tells_then [] hits.flags.items new.flags.items [] hits.order.items new.order.items n.tells (tells_same t);
    room = subst (λ ms. vec_len new.order + unset ms ≤ vec_capacity new.order) (sym is) room;
  }

  pub hit_marked : (graph : Graph) (homes : List (Option ℕ)) (g : ℕ) → homes ≡ graph.homes.items → IsStruck graph hits g → Tells flags marks hits.order.items new.order.items → AreOf homes flags marks g → length marks ≡ length flags → vec_capacity new.order ≡ vec_capacity hits.order → IsMoreHit (entries_of graph) hits new
  hit_marked graph homes g same s t only len capacity = record {
    caused = λ i at. caused i (only i (subst (λ ms. is_set ms i ≡ true) is at));
    stays = (tells_same t).stays;
    front = (tells_same t).front;
    places = ap length is ∙ len ∙ ap length was;
    capacity = capacity;
  }
    where
      caused : (i : ℕ) → (is_set flags i ≡ true) ⊎ (place homes i ≡ Some g) → IsCaused (entries_of graph) hits.flags.items i
      caused i (inl e) = record { by = i; hit = subst (λ fs. is_set fs i ≡ true) was e; reaches = reaches_self (next_of (entries_of graph)) i }
      caused i (inr e) =
          let step = named_next graph i g s.dep (ap (λ hs. place hs i) (sym same) ∙ e) s.named in
          record { by = s.dep; hit = s.hit; reaches = reaches_next (next_of (entries_of graph)) i s.dep s.dep step (reaches_self (next_of (entries_of graph)) s.dep) }

-- one group more is come to
pub swept_more : (graph : Graph) (trail after : Trail) (hits new : Hits) (w : ℕ) → after.order.items ≡ trail.order.items ++ w ∷ [] → ((n : ℕ) → is_set after.seen.items n ≡ (if w == n then true else is_set trail.seen.items n)) → IsRoomy after → ((i : ℕ) → is_set hits.flags.items i ≡ true → is_set new.flags.items i ≡ true) → ((i : ℕ) → home_in graph i ≡ Some w → is_set new.flags.items i ≡ true) → IsSwept graph trail hits → IsSwept graph after new
swept_more graph trail after hits new w order says room stays members s = record {
  marked = λ k g is. marked k g (visit_push trail.order.items w k g (subst (λ o. IsVisit o k g) order is));
  known = λ g is. subst (λ o. IsSeen o g) (sym order) (known g (raised_cases (is_set trail.seen.items) (is_set after.seen.items) w says g is));
  room = room;
  members = λ i g home is. at_home i g home (raised_cases (is_set trail.seen.items) (is_set after.seen.items) w says g is);
}
  where
    marked : (k g : ℕ) → IsVisit trail.order.items k g ⊎ ((k ≡ length trail.order.items) × (w ≡ g)) → is_set after.seen.items g ≡ true
    marked k g (inl e) = raised_kept (is_set trail.seen.items) (is_set after.seen.items) w says g (s.marked k g e)
    marked k g (inr e) = subst (λ n. is_set after.seen.items n ≡ true) e.1 (raised_here (is_set trail.seen.items) (is_set after.seen.items) w says)

    known : (g : ℕ) → (is_set trail.seen.items g ≡ true) ⊎ (w ≡ g) → IsSeen (trail.order.items ++ w ∷ []) g
    known g (inl e) = let x = s.known g e in record { at = x.at; is = visit_kept trail.order.items w x.at g x.is }
    known g (inr e) = record { at = length trail.order.items; is = subst (λ n. IsVisit (trail.order.items ++ w ∷ []) (length trail.order.items) n) e (visit_last trail.order.items w) }

    at_home : (i g : ℕ) → home_in graph i ≡ Some g → (is_set trail.seen.items g ≡ true) ⊎ (w ≡ g) → is_set new.flags.items i ≡ true
    at_home i g home (inl e) = stays i (s.members i g home e)
    at_home i g home (inr e) = members i (home ∙ ap Some (sym e))

-- one instance more has all groups come to that depend on it
pub spread_next : (graph : Graph) (trail after : Trail) (old new : Hits) (n : ℕ) (m : InstId) → slice_get old.order.items n ≡ Some m → ((k : ℕ) (x : InstId) → slice_get old.order.items k ≡ Some x → slice_get new.order.items k ≡ Some x) → ((g : ℕ) → is_set trail.seen.items g ≡ true → is_set after.seen.items g ≡ true) → ((g : ℕ) → IsListed graph.edges.items (place graph.firsts.items m.0) g → is_set after.seen.items g ≡ true) → IsSpread graph trail old n → IsSpread graph after new (n + 1)
spread_next graph trail after old new n m here front stays mine s = record { seen = λ k g x below is listed. sort k g x below is listed (cases_lt k n) }
  where
    back : (k : ℕ) (x : InstId) → k < length old.order.items → slice_get new.order.items k ≡ Some x → slice_get old.order.items k ≡ Some x
    back k x below is =
        let was : slice_get old.order.items k ≡ Some (get_or old.order.items k x) = slice_get-get_or old.order.items k x below in
        was ∙ sym (front k (get_or old.order.items k x) was) ∙ is

    sort : (k g : ℕ) (x : InstId) → k < n + 1 → slice_get new.order.items k ≡ Some x → IsListed graph.edges.items (place graph.firsts.items x.0) g → (k < n) ⊎ (n ≤ k) → is_set after.seen.items g ≡ true
    sort k g x below is listed (inl b) = stays g (s.seen k g x b (back k x (omega (arith, b, slice_get_within old.order.items n m here)) is) listed)
    sort k g x below is listed (inr b) =
        let e : k ≡ n = omega (arith, b, below) in
        let same : x ≡ m = same_Some x m (sym is ∙ ap (slice_get new.order.items) e ∙ front n m here) in
        mine g (subst (λ (y : InstId). IsListed graph.edges.items (place graph.firsts.items y.0) g) same listed)

-- what is flagged stands in the list
pub noted_at : (hits : Hits) → IsNoted hits → (i : ℕ) → is_set hits.flags.items i ≡ true → IsTold hits.order.items 0 (record { 0 = i })
noted_at hits n i is = ⊎_elim (λ (e : is_set [] i ≡ true). absurd (both_ways (is_set [] i) (no_flag i) e)) (λ (t : IsTold hits.order.items 0 (record { 0 = i })). t) (n.tells.all i is)

-- what a failure found is what it hits
module _ (graph : Graph) (trail : Trail) (start found : Hits) (roots : List InstId) (more : IsMoreHit (entries_of graph) start found) (noted : IsNoted found) where
  all_hit : IsComplete graph → IsSwept graph trail found → IsSpread graph trail found (length found.order.items) → ((m : InstId) → Contains roots m → is_set start.flags.items m.0 ≡ true) → (i : ℕ) → IsHit (entries_of graph) roots i → is_set found.flags.items i ≡ true
  all_hit complete swept spread rooted i h = back_along (next_of (entries_of graph)) (λ n. is_set found.flags.items n ≡ true) back i h.root.0 h.reaches.path h.reaches.leads (more.stays h.root.0 (rooted h.root h.chosen))
    where
      back : (n k : ℕ) → Contains (next_of (entries_of graph) n) k → is_set found.flags.items k ≡ true → is_set found.flags.items n ≡ true
      back n k named is =
          let h = next_named graph n k named in
          let t = noted_at found noted k is in
          swept.members n h.0 h.1 (spread.seen t.at h.0 (record { 0 = k }) (slice_get_within found.order.items t.at (record { 0 = k }) t.is) t.is (complete.indexed.complete h.0 k h.2))

  ready_on : (i j : ℕ) → IsReady (entries_of graph) i → Reaches (entries_of graph) i j → IsReady (entries_of graph) j
  ready_on i j ready r = record { each = λ k s. ready.each k (reach_is_transitive (next_of (entries_of graph)) i j k r s) }

  pub hits_found : IsComplete graph → IsSwept graph trail found → IsSpread graph trail found (length found.order.items) → ((m : InstId) → Contains roots m → is_set start.flags.items m.0 ≡ true) → ((i : ℕ) → is_set start.flags.items i ≡ true → Contains roots (record { 0 = i })) → ((m : InstId) → Contains roots m → IsReady (entries_of graph) m.0 → ⊥) → AreHits (entries_of graph) roots found.order.items
  hits_found complete swept spread rooted only unready = record {
    all = λ i h. let t = noted_at found noted i (all_hit complete swept spread rooted i h) in at_contains found.order.items t.at (record { 0 = i }) t.is;
    only = λ m named.
        let k = contains_at found.order.items m named in
        let c = more.caused m.0 ((noted.tells.only k.0 m (omega arith) k.1).1) in
        let chosen = only c.by c.hit in
        record { unready = λ r. unready (record { 0 = c.by }) chosen (ready_on m.0 c.by r c.reaches); root = record { 0 = c.by }; chosen = chosen; reaches = c.reaches };
    once = λ j k m is too. noted.tells.once j k m (omega arith) (omega arith) is too;
  }
