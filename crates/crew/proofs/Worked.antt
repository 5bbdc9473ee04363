-- New seats begin, and what each has done at the end.
use Rattle.std.proofs.Common.{◌≡◌, ℕ, ◌+◌, ◌-◌, ◌<◌, ◌≤◌, List, ◌++◌, length, map, take, drop, append-nil, sym, ap, subst, ◌∙◌, arith, All, Some, slice_get}
use Rattle.std.proofs.Math.Seq.{drop-length, take-length}
use Rattle.std.proofs.lemmas.List.{length-map}
use Rattle.std.proofs.lemmas.List.Elements.{All-map}
use Rattle.std.proofs.lemmas.Option.{same_Some, slice_get_within}
pub use Rattle.list_laws.proofs.Each.{all_at, all_from}
pub use Rattle.list_laws.proofs.Lists.{some_below as some_there}
use Rattle.list_laws.proofs.Lists.{mapped_parts, mapped_some}
use Rattle.atomic_table.specs.Seated.{TableId}
use Rattle.turn_lock.specs.Handles.{view, IsReady}
use Rattle.turn_lock.specs.declared.seat.Seat.{Seat}
use Rattle.turn_lock.specs.declared.view.View.{View}
use Rattle.crew.specs.Crew.{AllServed, AreSeated, HaveWorked, IsAble, IsKept, IsNew, MayBegin, Says}
use Rattle.crew.specs.declared.seating.Member.{Member}

module _ {X : Type 0} where
  -- what was written through a slice is what the list has then
  pub written_back : (n : ℕ) (old new : List X) → n ≡ length old → length new ≡ length old → take n (new ++ drop (length new) old) ≡ new
  written_back n old new is count =
      ap (λ k. take n (new ++ drop k old)) count ∙ (ap (λ r. take n (new ++ r)) (drop-length old) ∙ (ap (take n) (append-nil new) ∙ (ap (λ k. take k new) (is ∙ sym count) ∙ take-length new)))

module _ {T E D : Type 0} (turn : TableId) where
  -- new seats can begin
  pub all_able : (may : D → View E → Type 0) (v : View E) (duties : List D) (members : List (Member (Seat T E) D)) → v.spare_from + length duties ≤ v.spare_to → map (λ m. m.duty) members ≡ duties → MayBegin may v duties →
      AreSeated turn (v.spare_from + length duties) v.seen members → All (IsAble may turn) members
  all_able may v duties members spare are begin seated = all_from (IsAble may turn) members (λ k m at.
      let below = slice_get_within members k m at in
      let count : length members ≡ length duties = sym (length-map members (λ (x : Member (Seat T E) D). x.duty)) ∙ ap length are in
      let number : ℕ = (v.spare_from + length duties) - (k + 1) in
      let its : number + k + 1 ≡ v.spare_from + length duties = omega (arith, below, count) in
      let new = seated k number m at its in
      let allowed = all_at (λ d. (n : ℕ) (w : View E) → v.spare_from ≤ n → n < v.spare_to → IsNew n v.seen w → may d w) duties k m.duty begin (subst (λ l. slice_get l k ≡ Some m.duty) are (mapped_some (λ (x : Member (Seat T E) D). x.duty) members k m at)) in
      (new.0, allowed number (view m.seat) (omega (arith, below, count, its)) (omega (arith, its, spare)) new.1))

  module _ (does : D → D → View E → View E → Type 0) where
    -- after their work they don't have the turn
    pub all_ready : (old new : List (Member (Seat T E) D)) → AllServed does turn old new → All (λ m. IsReady turn m.seat) new
    all_ready old new served = all_from (λ m. IsReady turn m.seat) new (λ k n at.
        let below = slice_get_within new k n at in
        let o = some_there old k (omega (arith, below, served.count)) in
        (served.each k o.0 n o.1 at).ready)

    -- each has done its duty, which the history keeps
    pub have_worked : (seat_of : E → ℕ) (v w : View E) (duties done : List D) (old new : List (Member (Seat T E) D)) → map (λ m. m.duty) old ≡ duties → done ≡ map (λ m. m.duty) new →
        AreSeated turn (v.spare_from + length duties) v.seen old → AllServed does turn old new → ((log : List E) → Says seat_of log w → Says seat_of log v × All (λ m. IsKept seat_of log (view m.seat)) new) → HaveWorked seat_of does v w duties done
    have_worked seat_of v w duties done old new are were seated served kept = record {
      views = map (λ (x : Member (Seat T E) D). view x.seat) new;
      count = ap length were ∙ (length-map new (λ (x : Member (Seat T E) D). x.duty) ∙ all_served);
      seats = length-map new (λ (x : Member (Seat T E) D). view x.seat) ∙ all_served;
      each = λ k number d e after at now then' its.
          let m = mapped_parts (λ (x : Member (Seat T E) D). x.duty) old k d (subst (λ l. slice_get l k ≡ Some d) (sym are) at) in
          let n = mapped_parts (λ (x : Member (Seat T E) D). x.duty) new k e (subst (λ l. slice_get l k ≡ Some e) were now) in
          let o = mapped_parts (λ (x : Member (Seat T E) D). view x.seat) new k after then' in
          let fresh = seated k number m.0 m.1 its in
          let s = served.each k m.0 n.0 m.1 n.1 in
          let same : after ≡ view n.0.seat = o.2 ∙ ap (λ (x : Member (Seat T E) D). view x.seat) (same_Some o.0 n.0 (sym o.1 ∙ n.1)) in
          record {
            before = view m.0.seat;
            begins = fresh.1;
            same = ap (λ (x : View E). x.number) same ∙ (s.number ∙ fresh.1.number_is);
            did = subst (λ x. does x e (view m.0.seat) after) (sym m.2) (subst (λ y. does m.0.duty y (view m.0.seat) after) (sym n.2) (subst (does m.0.duty n.0.duty (view m.0.seat)) (sym same) s.did));
          };
      kept = λ log said. let k = kept log said in (k.0, All-map (IsKept seat_of log) (λ (x : Member (Seat T E) D). view x.seat) new k.1);
    }
      where
        all_served : length new ≡ length duties
        all_served = served.count ∙ (sym (length-map old (λ (x : Member (Seat T E) D). x.duty)) ∙ ap length are)
