-- One reply of a collect is right.
use Rattle.std.proofs.Common.{◌≡◌, ◌↔◌, ℕ, ◌<◌, false, List, length, slice_get, Some, IsTrue, subst, sym, refl, arith}
use Rattle.std.proofs.lemmas.Bool.{false≢true}
use Rattle.orc_ids.specs.declared.ids.QueryId.{QueryId}
use Rattle.session_model.specs.Answer.{AnswersCollect}
use Rattle.session_model.specs.Meaning.{Meaning}
use Rattle.session_model.specs.Plain.{Plain}
use Rattle.session_model.specs.State.{state, IsOpen}
use Rattle.session_model.specs.declared.entry.Entry.{Entry}
use Rattle.session_model.specs.declared.entry.Event.TheVariants as event
use Rattle.session_model.specs.declared.entry.Reply.{Reply}
use Rattle.session_model.specs.declared.entry.Reply.TheVariants as reply
use Rattle.session_model.specs.declared.rows.Ending.TheVariants.{Found, Lost}
use Rattle.session_model.specs.declared.rows.Query.{Query}
use Rattle.session_laws.proofs.Declared.{reply_is_determined, collect_unplaced, element_below, open_has_no_end}
use Rattle.session_past.specs.Taking.{IsCollected}

-- an answer other than Open is the reply of an entry
closed_right : (past : List (Entry Meaning)) (m : Plain) (q : ℕ) (known : Reply) → IsCollected past m q known → (known ≡ reply.Open → ⊥) → AnswersCollect past m q known
closed_right past m q reply.Open c n = absurd (n refl)
closed_right past m q known c n = c

-- while the query is open, no reply makes an entry
open_wrong : (past : List (Entry Meaning)) (q : ℕ) (x : Query) (r : Reply) → slice_get (state past).queries q ≡ Some x → IsOpen past x → AnswersCollect past (state past) q r → ⊥
open_wrong past q x (reply.Unknown v) there o a = let b : q < length (state past).queries = element_below (state past).queries q x there in absurd (omega (arith, a.1, b))
open_wrong past q x (reply.Found n matches) there o a = open_has_no_end past q n x (Found matches) there o a
open_wrong past q x (reply.Lost n i) there o a = open_has_no_end past q n x (Lost i) there o a
open_wrong past q x r there o a = absurd a

right_closed : (past : List (Entry Meaning)) (q : ℕ) (known r : Reply) → IsCollected past (state past) q known → AnswersCollect past (state past) q r → known ≡ reply.Open → ⊥
right_closed past q reply.Open r c a e = open_wrong past q c.0 r c.1 c.2 a
right_closed past q known r c a e = cc

by_reply : (past : List (Entry Meaning)) (q : ℕ) (known r : Reply) → IsCollected past (state past) q known → ((known ≡ reply.Open → ⊥) × (r ≡ known)) ↔ AnswersCollect past (state past) q r
by_reply past q known r c = (λ p. subst (AnswersCollect past (state past) q) (sym p.1) (closed_right past (state past) q known c p.0), back)
  where
    query : QueryId
    query = record { 0 = q }

    back : AnswersCollect past (state past) q r → (known ≡ reply.Open → ⊥) × (r ≡ known)
    back a = let n : known ≡ reply.Open → ⊥ = right_closed past q known r c a in
        let k : AnswersCollect past (state past) q known = closed_right past (state past) q known c n in
        (n, reply_is_determined 0 past 0 (event.Collect query) r known a k (collect_unplaced past (state past) q r a) (collect_unplaced past (state past) q known k))

-- where the query is open, no reply is right
pub collected_open : (past : List (Entry Meaning)) (m : Plain) (q : ℕ) (known r : Reply) → m ≡ state past → IsCollected past m q known → known ≡ reply.Open → IsTrue false ↔ AnswersCollect past m q r
collected_open past m q known r is c e = subst (λ n. IsTrue false ↔ AnswersCollect past n q r) (sym is)
    (λ t. absurd (false≢true t), λ a. absurd (right_closed past q known r (subst (λ n. IsCollected past n q known) is c) a e))

-- and where it has an end, that end alone is
pub collected_closed : (past : List (Entry Meaning)) (m : Plain) (q : ℕ) (known r : Reply) → m ≡ state past → IsCollected past m q known → (known ≡ reply.Open → ⊥) → (r ≡ known) ↔ AnswersCollect past m q r
collected_closed past m q known r is c n = subst (λ k. (r ≡ known) ↔ AnswersCollect past k q r) (sym is)
    (let a = by_reply past q known r (subst (λ k. IsCollected past k q known) is c) in
    (λ e. a.0 (n, e), λ x. (a.1 x).1))
