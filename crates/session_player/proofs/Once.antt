-- A list of calls leads to one journal.
use Rattle.std.proofs.Common.{◌≡◌, ℕ, ◌≤◌, true, List, [], ◌∷◌, ◌++◌, Some, None, Ok, slice_get, subst, sym, ap, ap₂, refl, ◌∙◌, arith}
use Rattle.session_model.proofs.Units.{call_one}
use Rattle.orc_ids.specs.declared.ids.QueryId.{QueryId}
use Rattle.orc_ids.specs.declared.ids.SeatNo.{SeatNo}
use Rattle.orc_ids.specs.declared.ids.UnitId.{UnitId}
use Rattle.orc_ids.specs.declared.place.Shape.{Shape}
use Rattle.session_model.specs.Meaning.{Meaning}
use Rattle.session_model.specs.Answer.{Answers, AnswersCollect, AnswersEmit, AnswersPlace, AnswersTake, HasCause, answer_link, called, can_emit, can_link, can_place, can_resolve}
use Rattle.session_model.specs.Plain.{Plain, unit_shape}
use Rattle.session_model.specs.State.{IsOpen, plain_entry, plain_event, plain_history, state}
use Rattle.session_model.specs.declared.entry.Entry.{Entry}
use Rattle.session_model.specs.declared.entry.Event.{Event}
use Rattle.session_model.specs.declared.entry.Event.TheVariants as event
use Rattle.session_model.specs.declared.entry.Reply.{Reply}
use Rattle.session_model.specs.declared.entry.Reply.TheVariants as reply
use Rattle.session_model.specs.declared.rows.Ending.TheVariants.{Found, Lost}
use Rattle.session_model.specs.declared.rows.Query.{Query}
use Rattle.session_laws.specs.Queries.{OpenHasNoEnd}
use Rattle.session_laws.specs.Replies.{ReplyIsDetermined}
use Rattle.session_laws.proofs.Declared.{element_below, collect_unplaced, take_unplaced}
use Rattle.session_steps.specs.Handed.{IsLowest}
use Rattle.session_steps.specs.Performs.{Collects, Enters, HasOpen, Takes, state_of}
use Rattle.session_player.specs.Plays.{Does, Plays}
use Rattle.session_player.specs.declared.call.Call.{Call}
use Rattle.session_player.specs.declared.call.Call.TheVariants as call
use Rattle.session_player.specs.declared.call.SeatCall.{SeatCall}

-- Calls on a unit

-- the lowest base is one
placed_once : (m : Plain) (shape : Shape) (base : ℕ) (b : Reply) → AnswersPlace m shape (reply.Placed base) → AnswersPlace m shape b → IsLowest m shape (reply.Placed base) → IsLowest m shape b → reply.Placed base ≡ b
placed_once m shape base (reply.Placed other) x y low least = let below : base ≤ other = low other y in let above : other ≤ base = least base x in let same : base ≡ other = omega (arith, below, above) in ap reply.Placed same
placed_once m shape base (reply.NoRoom need) x y low least = absurd (y.1 base x)
placed_once m shape base _ x y low least = absurd y

unplaced_once : (m : Plain) (shape : Shape) (need : ℕ) (b : Reply) → AnswersPlace m shape (reply.NoRoom need) → AnswersPlace m shape b → reply.NoRoom need ≡ b
unplaced_once m shape need (reply.Placed base) x y = absurd (x.1 base y)
unplaced_once m shape need (reply.NoRoom other) x y = ap reply.NoRoom (x.0 ∙ sym y.0)
unplaced_once m shape need _ x y = absurd y

place_once : (m : Plain) (shape : Shape) (a b : Reply) → AnswersPlace m shape a → AnswersPlace m shape b → IsLowest m shape a → IsLowest m shape b → a ≡ b
place_once m shape (reply.Placed base) b x y low least = placed_once m shape base b x y low least
place_once m shape (reply.NoRoom need) b x y low least = unplaced_once m shape need b x y
place_once m shape _ b x y low least = absurd x

-- Queries

open_ends : OpenHasNoEnd → (h : List (Entry Meaning)) (q : ℕ) (query : Query) → slice_get (state h).queries q ≡ Some query → IsOpen h query → (r : Reply) → AnswersCollect h (state h) q r → ⊥
open_ends law h q query there is (reply.Unknown s) x = omega (arith, x.1, element_below (state h).queries q query there)
open_ends law h q query there is (reply.Found n matches) x = law h q n query (Found matches) there is x
open_ends law h q query there is (reply.Lost n i) x = law h q n query (Lost i) there is x
open_ends law h q query there is _ x = absurd x

module _ {U : Type 0} (means : U → Meaning) (jmax : ℕ) (determined : ReplyIsDetermined) (ended : OpenHasNoEnd) where
  pushed : (h : List (Entry U)) (e : Entry U) → plain_history means (h ++ e ∷ []) ≡ plain_history means h ++ plain_entry means e ∷ []
  pushed [] e = refl
  pushed (x ∷ h) e = ap (λ t. plain_entry means x ∷ t) (pushed h e)

  -- the right reply after a journal is one after another of the same meaning
  abbrev RightAt : List (Entry U) → SeatNo → Event Meaning → Reply → Type 0
  RightAt h s e r = Answers jmax (plain_history means h) (state_of means h) s.0 e r

  moved : (h g : List (Entry U)) (s : SeatNo) (e : Event Meaning) (r : Reply) → plain_history means h ≡ plain_history means g → RightAt h s e r → RightAt g s e r
  moved h g s e r same x = subst (λ p. Answers jmax p (state p) s.0 e r) same x

  entered : (h g new end : List (Entry U)) (s : SeatNo) (e f : Event U) (a b : Reply) → plain_history means h ≡ plain_history means g → plain_event means e ≡ plain_event means f → (RightAt g s (plain_event means f) a → RightAt g s (plain_event means f) b → a ≡ b) →
      Enters means jmax h new (record { seat = s; event = e; reply = a }) → Enters means jmax g end (record { seat = s; event = f; reply = b }) → plain_history means new ≡ plain_history means end
  entered h g new end s e f a b same alike one x y =
      ap (plain_history means) x.grown ∙ (pushed h (record { seat = s; event = e; reply = a })
      ∙ (ap₂ (λ p z. p ++ z ∷ []) same (ap₂ (λ v r. record { seat = s; event = v; reply = r }) alike replies)
      ∙ (sym (pushed g (record { seat = s; event = f; reply = b })) ∙ sym (ap (plain_history means) y.grown))))
    where
      replies : a ≡ b
      replies = one (subst (λ v. RightAt g s v a) alike (moved h g s (plain_event means e) a same x.answered)) y.answered

  stayed : (h g new end : List (Entry U)) → plain_history means h ≡ plain_history means g → new ≡ h → end ≡ g → plain_history means new ≡ plain_history means end
  stayed h g new end same x y = ap (plain_history means) x ∙ (same ∙ sym (ap (plain_history means) y))

  -- a query that is open isn't collected
  clash : {P : Type 0} (h g end : List (Entry U)) (s : SeatNo) (q : QueryId) (b : Reply) → plain_history means h ≡ plain_history means g → HasOpen means h q → Enters means jmax g end (record { seat = s; event = event.Collect q; reply = b }) → P
  clash h g end s q b same x y = absurd (open_ends ended (plain_history means h) q.0 x.query x.there x.unsettled b (moved g h s (event.Collect q) b (sym same) y.answered))

  collected : (h g new end : List (Entry U)) (s : SeatNo) (q : QueryId) (a b : Reply) → plain_history means h ≡ plain_history means g → Collects means jmax h new s q (Ok a) → Collects means jmax g end s q (Ok b) → plain_history means new ≡ plain_history means end
  collected h g new end s q reply.Open reply.Open same x y = stayed h g new end same x.0 y.0
  collected h g new end s q reply.Open b same x y = clash h g end s q b same x.1 y
  collected h g new end s q a reply.Open same x y = clash g h new s q a (sym same) y.1 x
  collected h g new end s q a b same x y = entered h g new end s (event.Collect q) (event.Collect q) a b same refl
      (λ p r. determined jmax (plain_history means g) s.0 (event.Collect q) a b p r (collect_unplaced (plain_history means g) (state_of means g) q.0 a p) (collect_unplaced (plain_history means g) (state_of means g) q.0 b r)) x y

  -- no job isn't taken
  idle : {P : Type 0} (h g end : List (Entry U)) (s : SeatNo) (b : Reply) → plain_history means h ≡ plain_history means g → (state_of means h).jobs ≡ [] → Enters means jmax g end (record { seat = s; event = event.Take; reply = b }) → P
  idle h g end s b same none y = absurd (subst (λ js. AnswersTake (plain_history means h) (state_of means h) js b) none (moved g h s event.Take b (sym same) y.answered))

  taken : (h g new end : List (Entry U)) (s : SeatNo) (a b : Reply) → plain_history means h ≡ plain_history means g → Takes means jmax h new s (Ok a) → Takes means jmax g end s (Ok b) → plain_history means new ≡ plain_history means end
  taken h g new end s (reply.Idle held) (reply.Idle other) same x y = stayed h g new end same x.0 y.0
  taken h g new end s (reply.Idle held) b same x y = idle h g end s b same x.1 y
  taken h g new end s a (reply.Idle held) same x y = idle g h new s a (sym same) y.1 x
  taken h g new end s a b same x y = entered h g new end s event.Take event.Take a b same refl
      (λ p r. determined jmax (plain_history means g) s.0 event.Take a b p r (take_unplaced (plain_history means g) (state_of means g) (state_of means g).jobs a p) (take_unplaced (plain_history means g) (state_of means g) (state_of means g).jobs b r)) x y

  placed : (h g : List (Entry U)) (s : SeatNo) (u : UnitId) (shape : Shape) (a b : Reply) → plain_history means h ≡ plain_history means g → IsLowest (state_of means h) shape a → IsLowest (state_of means g) shape b → RightAt g s (event.Place u shape) a → RightAt g s (event.Place u shape) b → a ≡ b
  placed h g s u shape a b same low least x y = call_one (called (state_of means g) s.0 u can_place) u (λ r c. (unit_shape r ≡ Some shape) × AnswersPlace (state_of means g) shape c) a b
      (λ r k l. place_once (state_of means g) shape a b k.1 l.1 (subst (λ p. IsLowest (state p) shape a) same low) least) x y

  one_call : (h g new end : List (Entry U)) (s : SeatNo) (c : Call U) (a b : Reply) → plain_history means h ≡ plain_history means g → Does means jmax h new s c (Ok a) → Does means jmax g end s c (Ok b) → plain_history means new ≡ plain_history means end
  one_call h g new end s (call.Dylib name) a b same x y = entered h g new end s (event.Dylib name) (event.Dylib name) a b same refl (λ p q. p ∙ sym q) x y
  one_call h g new end s (call.SetOrder d order) a b same x y = entered h g new end s (event.SetOrder d order) (event.SetOrder d order) a b same refl (λ p q. p.1 ∙ sym q.1) x y
  one_call h g new end s (call.Attach d t unit) a b same x y = entered h g new end s (event.Attach d t x.0) (event.Attach d t y.0) a b same (ap (event.Attach d t) (x.1 ∙ sym y.1)) (λ p q. p.1 ∙ sym q.1) x.2 y.2
  one_call h g new end s (call.Define d t unit) a b same x y = entered h g new end s (event.Define d t x.0) (event.Define d t y.0) a b same (ap (event.Define d t) (x.1 ∙ sym y.1)) (λ p q. p.1 ∙ sym q.1) x.2 y.2
  one_call h g new end s (call.Generate k) a b same x y = entered h g new end s (event.Generate k) (event.Generate k) a b same refl (λ p q. p ∙ sym q) x y
  one_call h g new end s (call.Ask order wanted level) a b same x y = entered h g new end s (event.Ask order wanted level None) (event.Ask order wanted level None) a b same refl (λ p q. p.2 ∙ sym q.2) x y
  one_call h g new end s (call.Collect q) a b same x y = collected h g new end s q a b same x y
  one_call h g new end s call.Take a b same x y = taken h g new end s a b same x y
  one_call h g new end s (call.Place u shape) a b same x y = entered h g new end s (event.Place u shape) (event.Place u shape) a b same refl (placed h g s u shape a b same x.1 y.1) x.0 y.0
  one_call h g new end s (call.Resolve u) a b same x y = entered h g new end s (event.Resolve u) (event.Resolve u) a b same refl
      (λ p q. call_one (called (state_of means g) s.0 u can_resolve) u (λ r c. c ≡ reply.Resolved) a b (λ r k l. k ∙ sym l) p q) x y
  one_call h g new end s (call.Emit u groups bytes) a b same x y = entered h g new end s (event.Emit u groups) (event.Emit u groups) a b same refl
      (λ p q. call_one (called (state_of means g) s.0 u can_emit) u (λ r c. AnswersEmit (state_of means g) u.0 groups r c) a b (λ r k l. k.2 ∙ sym l.2) p q) x y
  one_call h g new end s (call.Fail u cause) a b same x y = entered h g new end s (event.Fail u cause) (event.Fail u cause) a b same refl
      (λ p q. call_one (called (state_of means g) s.0 u (λ r. true)) u (λ r c. HasCause jmax (plain_history means g) (state_of means g) u.0 r cause × (c ≡ reply.Failed)) a b (λ r k l. k.1 ∙ sym l.1) p q) x y
  one_call h g new end s (call.Tracker d) a b same x y = entered h g new end s (event.Tracker d) (event.Tracker d) a b same refl (λ p q. p ∙ sym q) x y
  one_call h g new end s (call.MoveTracker t to) a b same x y = entered h g new end s (event.MoveTracker t to) (event.MoveTracker t to) a b same refl (λ p q. p ∙ sym q) x y
  one_call h g new end s (call.Remove t) a b same x y = entered h g new end s (event.Remove t) (event.Remove t) a b same refl (λ p q. p ∙ sym q) x y
  one_call h g new end s call.Image a b same x y = entered h g new end s event.Image event.Image a b same refl (λ p q. p ∙ sym q) x y
  one_call h g new end s (call.Link u) a b same x y = entered h g new end s (event.Link u) (event.Link u) a b same refl
      (λ p q. call_one (called (state_of means g) s.0 u can_link) u (λ r c. c ≡ answer_link (state_of means g) u.0 r) a b (λ r k l. k ∙ sym l) p q) x y

  pub one_history : (calls : List (SeatCall U)) (old new other end : List (Entry U)) → Plays means jmax calls old new → Plays means jmax calls other end → plain_history means old ≡ plain_history means other → plain_history means new ≡ plain_history means end
  one_history [] old new other end p q same = stayed old other new end same p q
  one_history (c ∷ cs) old new other end p q same = one_history cs p.0 new q.0 end p.3 q.3 (one_call old other p.0 q.0 c.seat c.call p.1 q.1 same p.2 q.2)
