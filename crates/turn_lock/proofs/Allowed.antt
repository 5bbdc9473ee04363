-- What a seat may still do once it has the turn.
use Rattle.std.proofs.Common.{◌≡◌, ℕ, List, [], ◌++◌, sym, ap, ◌∙◌, subst}
use Rattle.turn_lock.specs.declared.view.View.{View}
use Rattle.turn_lock.specs.Lists.{entries_of}
use Rattle.turn_lock.specs.Views.{takes_turn, tried}
use Rattle.turn_lock.specs.Told.{Shows}
use Rattle.turn_lock.proofs.Entries.{none_since}

module _ {E : Type 0} (seat_of : E → ℕ) (lawful : List E → Type 0) (posted : List E → ℕ → ℕ → Type 0) where
  -- what a seat may do after what it had seen it may do after what it finds, since the entries between are of others
  pub still_allowed : (may : ℕ → List E → Type 0) → ((number : ℕ) (seen more : List E) → lawful (seen ++ more) → entries_of seat_of number more ≡ [] → may number seen → may number (seen ++ more))
      → (log : List E) (found : ℕ) (v u : View E) → u ≡ takes_turn log (tried found v) → Shows seat_of lawful posted log v → may v.number v.seen → may u.number u.seen
  still_allowed may stays log found v u same s before =
      let more : List E = s.later.0 in
      let is : log ≡ v.seen ++ more = s.later.1 in
      let others = none_since seat_of v.number v.mine v.seen more s.own (ap (entries_of seat_of v.number) (sym is) ∙ s.accounts.mine) in
      subst (λ (x : View E). may x.number x.seen) (sym same)
      (subst (may v.number) (sym is) (stays v.number v.seen more (subst lawful is s.legal) others before))
