-- The set-up makes a unit for each of its definitions, and the client's calls make none; there is never a generator.
use Rattle.std.proofs.Common.{◌≡◌, ℕ, ◌+◌, ◌≤◌, Bool, true, false, List, [], ◌∷◌, ◌++◌, length, map, ◌⊎◌, inl, inr, refl, sym, ap, ◌∙◌, subst, arith}
use Rattle.std.specs.List.{AllByRecursion}
use Rattle.std.proofs.lemmas.Bool.{both_ways}
use Rattle.std.proofs.lemmas.List.{length-append}
use Rattle.orc_ids.specs.declared.ids.DylibId.{DylibId}
use Rattle.orc_ids.specs.declared.ids.NameId.{NameId}
use Rattle.orc_ids.specs.declared.ids.TrackId.{TrackId}
use Rattle.orc_ids.specs.declared.lookup.OrderItem.{OrderItem}
use Rattle.session_model.specs.Change.{change_of, changed, let_go_unit, new_unit, removed_generator, removed_unit, verdicts, without_replaced}
use Rattle.session_model.specs.History.{LegalFrom}
use Rattle.session_model.specs.Lists.{numbered}
use Rattle.session_model.specs.Meaning.{Meaning}
use Rattle.session_model.specs.Plain.{Plain}
use Rattle.session_model.specs.State.{after, state_from}
use Rattle.session_model.specs.declared.entry.Entry.{Entry}
use Rattle.session_model.specs.declared.entry.Event.{Event}
use Rattle.session_model.specs.declared.entry.Event.TheVariants as event
use Rattle.session_model.specs.declared.entry.Reply.{Reply}
use Rattle.session_model.specs.declared.entry.Reply.TheVariants as reply
use Rattle.session_laws.proofs.Declared.{changed_length, mapped_length, numbered_length}
use Rattle.closure_laws.proofs.Declared.{settled_frame}
use Rattle.run_laws.proofs.Calm.{AsMany, IsUnoffered, after_many, answer_unoffered, is_call, settled_many}
use Rattle.run_laws.proofs.Falling.{total}

-- ---- the client

-- the events of jobs and lookups, copies of the memory, and removals
abbrev pub is_client : Event Meaning → Bool
is_client (event.Remove t) = true
is_client (event.Ask order wanted lev n) = true
is_client (event.Collect q) = true
is_client event.Take = true
is_client (event.Place u shape) = true
is_client (event.Resolve u) = true
is_client (event.Link u) = true
is_client (event.Emit u groups) = true
is_client (event.Fail u why) = true
is_client (event.Generate g) = true
is_client event.Image = true
is_client _ = false

pub client_call : (v : Event Meaning) → is_call v ≡ true → is_client v ≡ true
client_call (event.Remove t) c = refl
client_call (event.Ask order wanted lev n) c = refl
client_call (event.Collect q) c = refl
client_call event.Take c = refl
client_call (event.Place u shape) c = refl
client_call (event.Resolve u) c = refl
client_call (event.Link u) c = refl
client_call (event.Emit u groups) c = refl
client_call (event.Fail u why) c = refl
client_call (event.Generate g) c = refl
client_call event.Image c = refl
client_call _ c = c

abbrev IsRemoval : Event Meaning → Type 0
IsRemoval v = (t : TrackId) × (v ≡ event.Remove t)

pub client_cases : (v : Event Meaning) → is_client v ≡ true → (is_call v ≡ true) ⊎ IsRemoval v
client_cases (event.Remove t) c = inr (t, refl)
client_cases (event.Ask order wanted lev n) c = inl refl
client_cases (event.Collect q) c = inl refl
client_cases event.Take c = inl refl
client_cases (event.Place u shape) c = inl refl
client_cases (event.Resolve u) c = inl refl
client_cases (event.Link u) c = inl refl
client_cases (event.Emit u groups) c = inl refl
client_cases (event.Fail u why) c = inl refl
client_cases (event.Generate g) c = inl refl
client_cases event.Image c = inl refl
client_cases _ c = absurd (both_ways false refl c)

removal_many : (m : Plain) (s : ℕ) (t : TrackId) (r : Reply) → m.generators ≡ [] → AsMany m (changed (change_of m s (event.Remove t) r) m)
removal_many m s t reply.Removed none = record { generators = ap (map (removed_generator t.0)) none; units = mapped_length (removed_unit t.0) m.units }
removal_many m s t (reply.Defunct u) none = record { generators = none; units = changed_length u.0 (let_go_unit s) m.units }
removal_many m s t _ none = record { generators = none; units = refl }

pub client_many : (m : Plain) (e : Entry Meaning) → is_client e.event ≡ true → m.generators ≡ [] → AsMany m (after m e)
client_many m e client none = split (client_cases e.event client)
  where
    removed : (t : TrackId) → e.event ≡ event.Remove t → AsMany m (changed (change_of m e.seat.0 e.event e.reply) m)
    removed t is = subst (λ v. AsMany m (changed (change_of m e.seat.0 v e.reply) m)) (sym is) (removal_many m e.seat.0 t e.reply none)

    split : (is_call e.event ≡ true) ⊎ IsRemoval e.event → AsMany m (after m e)
    split (inl call) = after_many m e call none
    split (inr (t, is)) =
        let n = changed (change_of m e.seat.0 e.event e.reply) m in
        let p = removed t is in
        record { generators = (settled_frame n).generators ∙ p.generators; units = settled_many n ∙ p.units }

abbrev pub IsClient : Entry Meaning → Type 0
IsClient e = is_client e.event ≡ true

pub clients_many : (m : Plain) (es : List (Entry Meaning)) → AllByRecursion IsClient es → m.generators ≡ [] → AsMany m (state_from m es)
clients_many m [] calls none = record { generators = none; units = refl }
clients_many m (e ∷ es) calls none =
    let first = client_many m e calls.0 none in
    let rest = clients_many (after m e) es calls.1 first.generators in
    record { generators = rest.generators; units = rest.units ∙ first.units }

-- no generator is ever offered
pub never_offered : (jmax : ℕ) (past : List (Entry Meaning)) (m : Plain) (es : List (Entry Meaning)) → LegalFrom jmax past m es → AllByRecursion IsClient es → m.generators ≡ [] → AllByRecursion IsUnoffered es
never_offered jmax past m [] l calls none = tt
never_offered jmax past m (e ∷ es) l calls none = (
  answer_unoffered jmax past m e.seat.0 e.event e.reply none l.0,
  never_offered jmax (past ++ e ∷ []) (after m e) es l.1 calls.1 (client_many m e calls.0 none).generators,
)

-- ---- the set-up

abbrev pub is_set_up : Event Meaning → Bool
is_set_up (event.Dylib name) = true
is_set_up (event.SetOrder d order) = true
is_set_up (event.Tracker d) = true
is_set_up (event.Define d t u) = true
is_set_up _ = false

-- how many units an event defines
abbrev pub defines : Event Meaning → ℕ
defines (event.Define d t u) = 1
defines _ = 0

-- there is no generator, and there are so many units at most
pub record IsWithin (k : ℕ) (m : Plain) : Type 0 where
  pub generators : m.generators ≡ []
  pub units : length m.units ≤ k

-- without a change, or where a seat lets a unit go
same_within : (k : ℕ) (m : Plain) → IsWithin k m → IsWithin (k + 0) m
same_within k m w = let few = w.units in record { generators = w.generators; units = omega (arith, few) }

dylib_within : (k : ℕ) (m : Plain) (s : ℕ) (name : NameId) (r : Reply) → IsWithin k m → IsWithin (k + 0) (changed (change_of m s (event.Dylib name) r) m)
dylib_within k m s name (reply.Made d) w = let few = w.units in record { generators = w.generators; units = omega (arith, few) }
dylib_within k m s name (reply.Defunct u) w = let few = w.units in let same = changed_length u.0 (let_go_unit s) m.units in record { generators = w.generators; units = omega (arith, few, same) }
dylib_within k m s name _ w = same_within k m w

order_within : (k : ℕ) (m : Plain) (s : ℕ) (d : DylibId) (order : List OrderItem) (r : Reply) → IsWithin k m → IsWithin (k + 0) (changed (change_of m s (event.SetOrder d order) r) m)
order_within k m s d order reply.Set w = let few = w.units in record { generators = w.generators; units = omega (arith, few) }
order_within k m s d order (reply.Defunct u) w = let few = w.units in let same = changed_length u.0 (let_go_unit s) m.units in record { generators = w.generators; units = omega (arith, few, same) }
order_within k m s d order _ w = same_within k m w

tracker_within : (k : ℕ) (m : Plain) (s : ℕ) (d : DylibId) (r : Reply) → IsWithin k m → IsWithin (k + 0) (changed (change_of m s (event.Tracker d) r) m)
tracker_within k m s d (reply.Tracker t) w = let few = w.units in record { generators = w.generators; units = omega (arith, few) }
tracker_within k m s d (reply.Defunct u) w = let few = w.units in let same = changed_length u.0 (let_go_unit s) m.units in record { generators = w.generators; units = omega (arith, few, same) }
tracker_within k m s d _ w = same_within k m w

define_within : (k : ℕ) (m : Plain) (s : ℕ) (d : DylibId) (t : TrackId) (u : Meaning) (r : Reply) → IsWithin k m → IsWithin (k + 1) (changed (change_of m s (event.Define d t u) r) m)
define_within k m s d t u (reply.Defined v first count) w =
    let few = w.units in
    let found = verdicts m.rows d.0 u.offers in
    record {
      generators = w.generators;
      units = omega (arith, few, length-append (numbered (without_replaced m.rows found) 0 m.units) (new_unit t.0 u found ∷ []), numbered_length (without_replaced m.rows found) 0 m.units);
    }
define_within k m s d t u (reply.Defunct v) w = let few = w.units in let same = changed_length v.0 (let_go_unit s) m.units in record { generators = w.generators; units = omega (arith, few, same) }
define_within k m s d t u _ w = let few = w.units in record { generators = w.generators; units = omega (arith, few) }

event_within : (k : ℕ) (m : Plain) (s : ℕ) (v : Event Meaning) (r : Reply) → is_set_up v ≡ true → IsWithin k m → IsWithin (k + defines v) (changed (change_of m s v r) m)
event_within k m s (event.Dylib name) r is w = dylib_within k m s name r w
event_within k m s (event.SetOrder d order) r is w = order_within k m s d order r w
event_within k m s (event.Tracker d) r is w = tracker_within k m s d r w
event_within k m s (event.Define d t u) r is w = define_within k m s d t u r w
event_within k m s _ r is w = absurd (both_ways false refl is)

entry_within : (k : ℕ) (m : Plain) (e : Entry Meaning) → is_set_up e.event ≡ true → IsWithin k m → IsWithin (k + defines e.event) (after m e)
entry_within k m e is w =
    let n = changed (change_of m e.seat.0 e.event e.reply) m in
    let p = event_within k m e.seat.0 e.event e.reply is w in
    let few = p.units in
    let same = settled_many n in
    record { generators = (settled_frame n).generators ∙ p.generators; units = omega (arith, few, same) }

abbrev pub IsSetUp : Entry Meaning → Type 0
IsSetUp e = is_set_up e.event ≡ true

abbrev pub defined : Entry Meaning → ℕ
defined e = defines e.event

pub set_up_within : (k : ℕ) (m : Plain) (es : List (Entry Meaning)) → AllByRecursion IsSetUp es → IsWithin k m → IsWithin (k + total defined es) (state_from m es)
set_up_within k m [] calls w = same_within k m w
set_up_within k m (e ∷ es) calls w = subst (λ n. IsWithin n (state_from (after m e) es)) (omega arith) (set_up_within (k + defines e.event) (after m e) es calls.1 (entry_within k m e calls.0 w))
