-- More room and more places change nothing.
use Rattle.std.proofs.Common.{◌≡◌, ℕ, false, Some, ◌<◌, ◌^◌, length, Contains, ap, sym, subst, ◌∙◌, arith}
use Rattle.std.specs.Prelude.{slice_get}
use Rattle.dep_groups.specs.declared.resolve.Core.{Core}
use Rattle.dep_groups.specs.Places.{place, is_set}
use Rattle.dep_groups.specs.Shape.{home_in, deps_of, ready_in}
use Rattle.dep_groups.specs.Links.{linked_of, step, Comes, IsHeld}
use Rattle.dep_groups.specs.Marks.{members_of}
use Rattle.dep_groups.specs.Core.{IsSound}
use Rattle.dep_groups.specs.Wake.{IsListed, IsIndexed}
use Rattle.dep_groups.specs.Prepare.{IsAlike}
use Rattle.dep_groups.proofs.Ways.{moved}
use Rattle.dep_groups.proofs.Entries.{reach_kept}

module _ (old new : Core) (a : IsAlike old new) where
  pub sound_alike : IsSound old → IsSound new
  sound_alike s = record {
    sizes = record {
      links = ap length a.links ∙ s.sizes.links ∙ sym (ap length a.nodes);
      nexts = ap length a.nexts ∙ s.sizes.nexts ∙ sym (ap length a.nodes);
      heads = a.heads_size;
      cursors = ap length a.cursors ∙ s.sizes.cursors ∙ sym (ap length a.nodes);
      seen = ap length a.seen ∙ s.sizes.seen ∙ sym (ap length a.nodes);
      ready = a.size;
      few = subst (λ ns. length ns < 2 ^ 32) (sym a.nodes) s.sizes.few;
      places_few = a.few s.sizes.places_few;
    };
    wired = record {
      within = λ i g is. subst (λ ns. g < length ns) (sym a.nodes) (s.wired.within i g (sym (a.home i) ∙ is));
      deps = λ g d named. let less = s.wired.deps g d (subst (λ ns. Contains (deps_of ns g) d) a.nodes named) in omega (arith, less, a.more);
    };
    members = λ i g is. subst (λ ns. Contains (members_of ns g) (record { 0 = i })) (sym a.nodes) (s.members i g (sym (a.home i) ∙ is));
    ready = record {
      emitted = λ i high. let h = s.ready.emitted i (sym (a.ready i) ∙ high) in (h.0, a.home i ∙ h.1);
      closed = λ i g d high at named. a.ready d ∙ s.ready.closed i g d (sym (a.ready i) ∙ high) (sym (a.home i) ∙ at) (subst (λ ns. Contains (deps_of ns g) d) a.nodes named);
    };
    ends = record { each = λ i. moved (step (home_in old.graph) (place old.links.items)) (step (home_in new.graph) (place new.links.items)) (λ k. Unit {0}) (λ k. Unit {0}) (λ k u. same_step k) (λ k u. u) i (s.ends.each i) };
    leads = record {
      reached = λ i g d is link. reach_kept old.graph new.graph (λ j h at. a.home j ∙ at) (λ j h k at named. subst (λ ns. Contains (deps_of ns h) k) (sym a.nodes) named) i d (s.leads.reached i g d (sym (a.home i) ∙ is) (link_was g d link));
      below = λ g d link. let less = s.leads.below g d (link_was g d link) in omega (arith, less, a.more);
    };
    queued = record {
      only = λ d h is. moved (place old.nexts.items) (place new.nexts.items) (λ g. place old.links.items g ≡ Some d) (λ g. place new.links.items g ≡ Some d) (λ g at. ap (λ ns. place ns g) a.nexts) (λ g at. ap (λ ls. place ls g) a.links ∙ at) h (s.queued.only d h (sym (a.heads d) ∙ is));
      all = λ g d link. let x = s.queued.all g d (link_was g d link) in record { head = x.head; is = a.heads d ∙ x.is; way = subst (λ ns. Comes (place ns) x.head g) (sym a.nexts) x.way };
    };
    cursors = record { passed = λ g n k d at below is. a.ready d ∙ s.cursors.passed g n k d (ap (λ cs. slice_get cs g) (sym a.cursors) ∙ at) below (ap (λ ns. slice_get (deps_of ns g) k) (sym a.nodes) ∙ is) };
    clear = record {
      unseen = λ g. ap (λ xs. is_set xs g) a.seen ∙ s.clear.unseen g;
      empty = a.order ∙ s.clear.empty;
      room = omega (arith, ap length a.seen, s.clear.room, a.order_room);
    };
    room = a.room;
  }
    where
      same_step : (i : ℕ) → step (home_in new.graph) (place new.links.items) i ≡ step (home_in old.graph) (place old.links.items) i
      same_step i = ap (linked_of (place new.links.items)) (a.home i) ∙ ap (λ ls. linked_of (place ls) (home_in old.graph i)) a.links

      link_was : (g d : ℕ) → place new.links.items g ≡ Some d → place old.links.items g ≡ Some d
      link_was g d link = ap (λ ls. place ls g) (sym a.links) ∙ link

  pub indexed_alike : IsIndexed old.graph → IsIndexed new.graph
  indexed_alike x = record {
    complete = λ g d named. subst (λ o. IsListed new.graph.edges.items o g) (sym (a.firsts d)) (subst (λ es. IsListed es (place old.graph.firsts.items d) g) (sym a.edges) (x.complete g d (subst (λ ns. Contains (deps_of ns g) d) a.nodes named)));
    named = λ g d listed. subst (λ ns. Contains (deps_of ns g) d) (sym a.nodes) (x.named g d (subst (λ es. IsListed es (place old.graph.firsts.items d) g) a.edges (subst (λ o. IsListed new.graph.edges.items o g) (a.firsts d) listed)));
    falls = λ k j e at next. x.falls k j e (ap (λ es. slice_get es k) (sym a.edges) ∙ at) next;
    groups = λ k e at. subst (λ ns. e.group < length ns) (sym a.nodes) (x.groups k e (ap (λ es. slice_get es k) (sym a.edges) ∙ at));
    firsts = λ d k is. subst (λ es. k < length es) (sym a.edges) (x.firsts d k (sym (a.firsts d) ∙ is));
  }

  pub held_alike : ((i g : ℕ) → home_in old.graph i ≡ Some g → ready_in old.graph i ≡ false → IsHeld old.graph old.links.items g) → (i g : ℕ) → home_in new.graph i ≡ Some g → ready_in new.graph i ≡ false → IsHeld new.graph new.links.items g
  held_alike held i g is low =
      let h = held i g (sym (a.home i) ∙ is) (sym (a.ready i) ∙ low) in
      record { to = h.to; link = ap (λ ls. place ls g) a.links ∙ h.link; unready = a.ready h.to ∙ h.unready }
